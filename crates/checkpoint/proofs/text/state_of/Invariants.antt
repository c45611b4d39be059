use Rattle.checkpoint.proofs.text.state_of.Given as goal

-- the ledger is the one that is opened here
abbrev pub ghosts-state_in : goal.ghosts-state_in
ghosts-state_in a = record { name = a.blank.name; parts = a.blank.parts }
