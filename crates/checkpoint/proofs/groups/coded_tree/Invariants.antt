use Rattle.checkpoint.proofs.groups.coded_tree.Given as goal

-- the ledger is the one that is opened here
abbrev pub ghosts-tree_in : goal.ghosts-tree_in
ghosts-tree_in a = record { name = a.blank.name; parts = a.blank.parts }
