use Rattle.std.proofs.Common.{◌≡◌, ◌++◌, ◌∷◌, [], length, arith, sym, ◌∙◌, ap}
use Rattle.calculus.specs.Steps.{is_one_of}
use Rattle.row_table.specs.Ids.{bytes_of}
use Rattle.row_table.proofs.Standing.{found-there, put-there, put-kept, put-list, bytes-length}
use Rattle.row_table.proofs.ids.Ids.insert.Goals as goal

pub returns-then-is_some-clause-there : goal.returns-then-is_some-clause-there
returns-then-is_some-clause-there c = found-there c.place.result c.args.self.now c.args.id.0 c.place.ensures (sym c.is_some.ensures ∙ c.if-is_some.true)

pub invariant_of-self-2 : goal.invariant_of-self-2
invariant_of-self-2 c =
    let ls = c.self.inside.list.items in
    let items : c.push_reserved.new.self.items ≡ ls ++ c.args.id ∷ [] = c.push_reserved.ensures.items ∙ ap (λ z. z ++ c.args.id ∷ []) c.in_ok-reserve.ensures.items in
    let len : c.len.result ≡ length (bytes_of ls) = omega (arith, c.len.ensures, ap length c.in_ok-reserve.ensures.items, bytes-length ls) in
    put-list c.file_place.new.places ls c.push_reserved.new.self.items c.args.id items (c.in_ok-file_place.ensures.put (bytes_of ls) c.self.invariant len)

pub returns-clause-there : goal.returns-clause-there
returns-clause-there c =
    let ls = c.self.inside.list.items in
    let items : c.push_reserved.new.self.items ≡ ls ++ c.args.id ∷ [] = c.push_reserved.ensures.items ∙ ap (λ z. z ++ c.args.id ∷ []) c.in_ok-reserve.ensures.items in
    put-there ls c.push_reserved.new.self.items c.args.id items

pub returns-clause-kept : goal.returns-clause-kept
returns-clause-kept c =
    let ls = c.self.inside.list.items in
    let items : c.push_reserved.new.self.items ≡ ls ++ c.args.id ∷ [] = c.push_reserved.ensures.items ∙ ap (λ z. z ++ c.args.id ∷ []) c.in_ok-reserve.ensures.items in
    λ x h. put-kept ls c.push_reserved.new.self.items c.args.id items x (ap (is_one_of x) c.self.view_is ∙ h)
