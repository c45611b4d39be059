use Rattle.row_table.proofs.Standing.{more-told, put-told}
use Rattle.std.proofs.Common.{◌∷◌, []}
use Rattle.row_table.proofs.ids.file_place.Goals as goal

pub returns-then-place-lt-FEW-clause-put : goal.returns-then-place-lt-FEW-clause-put
returns-then-place-lt-FEW-clause-put c = λ xs t e. more-told c.args.places.now xs (c.args.id ∷ []) t

pub returns-clause-put : goal.returns-clause-put
returns-clause-put c = λ xs t e. put-told c.args.places.now c.insert.new.self xs c.args.id c.args.place c.in_ok-insert.ensures.updates t e
