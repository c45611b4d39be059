use Rattle.hub_steps.proofs.works.may_go.Given as goal

-- the limit of the hub
abbrev pub ghosts-read_charged_as : goal.ghosts-read_charged_as
ghosts-read_charged_as g a = record { limit = a.board.now.key.terms.limit }
