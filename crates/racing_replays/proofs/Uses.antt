-- The next use of an id.
use Rattle.std.proofs.Common.{◌≡◌, ◌≤◌, ℕ, suc, ◌+◌, Bool, true, false, cond, ◌&&◌, List, [], ◌∷◌, ◌++◌, length, refl, ap, sym, ◌∙◌, subst, arith, inl}
use Rattle.std.specs.Prelude.{leb}
use Rattle.std.proofs.lemmas.Bool.{le-leb}
use Rattle.calculus.specs.Log.{Step}
use Rattle.calculus.specs.Steps.{is_one_of}
use Rattle.calculus.proofs.Members.{Member}
use Rattle.racing_replays.specs.Replaying.{names}
use Rattle.racing_replays.specs.Racing.{next_use}

-- a step that names an id, where no step between does
pub next-is : (x : List ℕ) (i j : ℕ) (before : List Step) (s : Step) (after : List Step) → is_one_of x (names s) ≡ true → i ≤ j + length before
    → ((mid : List Step) (u : Step) (rest : List Step) → before ≡ mid ++ u ∷ rest → i ≤ j + length mid → is_one_of x (names u) ≡ false)
    → Member (j + length before) (next_use x i j (before ++ s ∷ after))
next-is x i j [] s after n h f = subst (λ c. Member (j + 0) (cond c (j ∷ []) (next_use x i (suc j) after))) (sym here) (inl plain)
  where
    plain : j + 0 ≡ j
    plain = omega arith

    here : leb i j && is_one_of x (names s) ≡ true
    here = ap (λ c. c && is_one_of x (names s)) (le-leb i j (omega (arith, h))) ∙ n
next-is x i j (u ∷ before) s after n h f =
    go (leb i j) refl (subst (λ m. Member m (next_use x i (suc j) (before ++ s ∷ after))) one-less (next-is x i (suc j) before s after n (omega (arith, h)) (λ mid v rest e l. f (u ∷ mid) v rest (ap (λ z. u ∷ z) e) (omega (arith, l)))))
  where
    one-less : suc j + length before ≡ j + suc (length before)
    one-less = omega arith

    go : (c : Bool) → leb i j ≡ c → Member (j + suc (length before)) (next_use x i (suc j) (before ++ s ∷ after))
        → Member (j + suc (length before)) (cond (c && is_one_of x (names u)) (j ∷ []) (next_use x i (suc j) (before ++ s ∷ after)))
    go false e m = m
    go true e m = subst (λ c. Member (j + suc (length before)) (cond c (j ∷ []) (next_use x i (suc j) (before ++ s ∷ after)))) (sym (f [] u before refl (lower e))) m
      where
        lower : leb i j ≡ true → i ≤ j + 0
        lower e = omega (arith, Rattle.std.proofs.lemmas.Bool.leb-true i j e)
