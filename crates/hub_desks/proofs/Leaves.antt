-- A seat that was offered nothing leaves nothing.
use Rattle.std.proofs.Common.{◌≡◌, ℕ, ◌+◌, ◌-◌, List, [], ◌∷◌, length, refl, sym, ap, ◌∙◌, arith}
use Rattle.atomic_table.specs.Table.{Me}
use Rattle.hub_rule.specs.declared.view.View.{View}
use Rattle.hub_rule.specs.declared.view.Pile.{Pile}
use Rattle.hub_rule.specs.declared.slot.Slot.{Slot}
use Rattle.hub_rule.specs.Works.{pile}
use Rattle.hub_rule.specs.Rule.{with_pile, leaves}

no_length : {A : Type 0} (xs : List A) → length xs ≡ 0 → xs ≡ []
no_length [] e = refl
no_length (x ∷ xs) e = absurd (omega arith)

-- where nothing was offered, nothing is left
leaves_nothing : {E W : Type 0} (p : Pile E W) → p.desk ≡ [] → p.offered ≡ [] → leaves p ≡ p
leaves_nothing {E} {W} p away none =
    let n = ap {A = List (ℕ × W)} length none in
    let c : p.counted - length p.offered ≡ p.counted = omega arith in
    let l : p.left + length p.offered ≡ p.left = omega arith in
    ap {A = ℕ} (λ k. pile p.kept p.taken [] p.took k p.owes [] p.empty (p.left + length p.offered) p.fetched) c
    ∙ (ap {A = ℕ} (λ k. pile p.kept p.taken [] p.took p.counted p.owes [] p.empty k p.fetched) l
    ∙ (ap {A = List (ℕ × W)} (λ o. pile p.kept p.taken o p.took p.counted p.owes [] p.empty p.left p.fetched) (sym none)
    ∙ ap {A = List (ℕ × List (ℕ × W))} (λ d. pile p.kept p.taken p.offered p.took p.counted p.owes d p.empty p.left p.fetched) (sym away)))

pub nothing_left : {E X W : Type 0} (a : Me (Slot X W) (View E X W)) → a.0.pile.desk ≡ [] → length a.0.pile.offered ≡ 0 → a ≡ (with_pile a.0 (leaves a.0.pile), a.1)
nothing_left {E} {X} {W} a away none = ap {A = Pile E W} (λ q. (with_pile a.0 q, a.1)) (sym (leaves_nothing a.0.pile away (no_length a.0.pile.offered none)))
