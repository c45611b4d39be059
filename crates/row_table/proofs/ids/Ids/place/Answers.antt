use Rattle.std.proofs.Common.{List, ℕ, IfSome, sym, ◌∙◌, subst}
use Rattle.std.specs.BTreeMap.{get}
use Rattle.std.specs.Ordering.{nat_cmp}
use Rattle.std.specs.Cmp.Lexicographic.{slice_cmp}
use Rattle.row_table.specs.Ids.{bytes_of, StandsAt}
use Rattle.row_table.proofs.Standing.{told}
use Rattle.row_table.proofs.ids.Ids.place.Goals as goal

pub returns-in-None : goal.returns-in-None
returns-in-None c =
    let id = c.args.id.now.0 in
    subst (λ o. IfSome o (λ i. StandsAt c.args.self.now i id)) (sym (c.copied.ensures ∙ c.get.ensures.value))
    (subst (λ (xs : List (List ℕ)). IfSome (get (slice_cmp nat_cmp) c.self.inside.places id) (λ i. StandsAt xs i id)) c.self.view_is (told c.self.inside.places (bytes_of c.self.inside.list.items) id c.self.invariant))
