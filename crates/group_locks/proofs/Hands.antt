-- What a seat has in hand, and how many works it left and took.
use Rattle.std.proofs.Common.{◌≡◌, ℕ, ◌+◌, ◌-◌, ◌%◌, ◌^◌, List, [], ◌∷◌, ◌++◌, length, refl, ap, ◌∙◌, arith, length-append}
use Rattle.hub_rule.specs.declared.view.Pile.{Pile}
use Rattle.hub_rule.specs.Works.{hand}
use Rattle.hub_rule.specs.Rule.{takes_up, leaves}
use Rattle.hub_rule.proofs.Offers.{hand_is}
use Rattle.hub_rule.proofs.DeskTurns.{hand_none}

-- the pending word counts the one work that was taken
pub even_taken : {E W : Type 0} (p q : Pile E W) (i : ℕ) (w : W) → hand p ≡ [] → q ≡ takes_up p ((i, w) ∷ []) → p.counted ≡ length (hand p) → q.counted ≡ length (hand q)
even_taken {E} {W} p q i w none is even =
    let h = hand_none p none in
    let a : Pile E W = takes_up p ((i, w) ∷ []) in
    let one : hand a ≡ (i, w) ∷ [] = hand_is a i w h.0 refl h.2 in
    let c = ap {A = Pile E W} (λ u. u.counted) is in let l = ap {A = Pile E W} (λ u. length (hand u)) is in
    let m = ap {A = List (ℕ × W)} length one in let n = ap {A = List (ℕ × W)} length none in omega arith

-- what is left of the works that were left and taken, after one more was taken
pub one_more_taken : (moved moved' fetched left : ℕ) → (moved + fetched) % 2 ^ 64 ≡ left % 2 ^ 64 → moved' ≡ (moved + (2 ^ 64 - 1)) % 2 ^ 64 → (moved' + (fetched + 1)) % 2 ^ 64 ≡ left % 2 ^ 64
one_more_taken moved moved' fetched left same is = omega arith

pub more_left : (moved moved' fetched left more : ℕ) → (moved + fetched) % 2 ^ 64 ≡ left % 2 ^ 64 → moved' ≡ (moved + more) % 2 ^ 64 → (moved' + fetched) % 2 ^ 64 ≡ (left + more) % 2 ^ 64
more_left moved moved' fetched left more same is = omega arith

-- the pending word counts the works that were not left
pub even_left : {E W : Type 0} (p q : Pile E W) → q ≡ leaves p → p.counted ≡ length (hand p) → q.counted ≡ length (hand q)
even_left {E} {W} p q is even =
    let c = ap {A = Pile E W} (λ u. u.counted) is in let l = ap {A = Pile E W} (λ u. length (hand u)) is in
    let a = length-append p.kept (p.taken ++ p.offered) in let b = length-append p.taken p.offered in
    let d = length-append p.kept (p.taken ++ []) in let f = length-append p.taken [] in omega arith

-- a hand of which each part has nothing
pub hand_nil : {E W : Type 0} (p : Pile E W) → p.kept ≡ [] → p.taken ≡ [] → p.offered ≡ [] → hand p ≡ []
hand_nil {E} {W} p k t o = ap {A = List (ℕ × W)} (λ l. l ++ (p.taken ++ p.offered)) k ∙ (ap {A = List (ℕ × W)} (λ l. l ++ p.offered) t ∙ o)
