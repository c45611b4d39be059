-- What a seat finds as it looks for a work.
use Rattle.std.specs.Prelude.{◌≡◌, ℕ, [], ◌∷◌, Option, IfSome, IfNone}
use Rattle.atomic_table.specs.Table.{Me}
use Rattle.hub_rule.specs.declared.view.View.{View}
use Rattle.hub_rule.specs.declared.slot.Slot.{Slot}
use Rattle.hub_rule.specs.Rule.{with_tally, with_pile, takes_up, Goes, HasNewLeave, EndsBy}

-- The seat, which knew a, looked for a work and found this, and now knows b: of what it knows only the tally and the pile changed. Where it found a
-- work, it has that work in hand, with leave; else it found an end.
pub record Looked {E X W : Type 0} (a b : Me (Slot X W) (View E X W)) (found : Option W) : Type 0 where
  pub view : b ≡ (with_pile (with_tally a.0 b.0.tally) b.0.pile, a.1)
  pub goes : Goes a.0.tally b.0.tally
  pub some : IfSome found (λ w. (i : ℕ) × (b.0.pile ≡ takes_up a.0.pile ((i, w) ∷ [])))
  pub go : IfSome found (λ _. HasNewLeave a.0.tally b.0.tally)
  pub none : IfNone found (EndsBy a.0 b.0)
