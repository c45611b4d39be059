use Rattle.next_states.proofs.known.KnownState.next_state.Given as goal

-- the ledger is the one that is opened here
abbrev pub ghosts-next_in : goal.ghosts-next_in
ghosts-next_in a = record { name = a.blank.name; parts = a.blank.parts }
