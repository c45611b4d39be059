-- Rows that are looked up by their ids.
use Rattle.std.proofs.Common.{◌≡◌, ℕ, Bool, true, false, cond, List, [], ◌∷◌, ◌++◌, map as each, refl, sym, ap, ◌∙◌, inl, inr}
use Rattle.std.specs.Prelude.{Option, Some, None, is_some}
use Rattle.std.specs.Str.{bytes_eq}
use Rattle.calculus.specs.declared.ids.Digest.{Digest}
use Rattle.calculus.specs.Matching.{Bindings}
use Rattle.calculus.specs.Rows.{Row}
use Rattle.events.specs.Found.{Among}
use Rattle.rho_term.specs.declared.term.TermBind.{TermBind}
use Rattle.row_search.specs.declared.choices.Chosen.{Chosen}
use Rattle.row_search.specs.Rows.{row_with, with_row, looked_up}
use Rattle.row_search.specs.Choices.{Binds, Choice, Chooses, choice_or, first_taken, takes}

-- a row that is looked up is there
pub row-with-there : (x : List ℕ) (rows : List Row) (r : Row) → row_with x rows ≡ Some r → Among r rows
row-with-there x [] r e = cc e
row-with-there x (q ∷ rows) r e = go (row-with-there x rows r) (bytes_eq x q.id) e
  where
    go : (row_with x rows ≡ Some r → Among r rows) → (b : Bool) → cond b (Some q) (row_with x rows) ≡ Some r → Among r (q ∷ rows)
    go next true f = let same : q ≡ r = cc f in inl (sym same)
    go next false f = inr (next f)

pub looked-up-there : (r : Row) (rows : List Row) (xs : List (List ℕ)) → Among r (looked_up rows xs) → Among r rows
looked-up-there r rows [] h = absurd h
looked-up-there r rows (x ∷ xs) h = go (looked-up-there r rows xs) (row_with x rows) refl h
  where
    go : (Among r (looked_up rows xs) → Among r rows) → (o : Option Row) → row_with x rows ≡ o → Among r (with_row o (looked_up rows xs)) → Among r rows
    go next None e k = next k
    go next (Some q) e (inl f) = row-with-there x rows r (e ∙ ap Some (sym f))
    go next (Some q) e (inr k) = next k

-- ids one after another
pub looked-up-both : (rows : List Row) (xs ys : List (List ℕ)) → looked_up rows (xs ++ ys) ≡ looked_up rows xs ++ looked_up rows ys
looked-up-both rows [] ys = refl
looked-up-both rows (x ∷ xs) ys = go (row_with x rows) (looked-up-both rows xs ys)
  where
    go : (o : Option Row) → looked_up rows (xs ++ ys) ≡ looked_up rows xs ++ looked_up rows ys → with_row o (looked_up rows (xs ++ ys)) ≡ with_row o (looked_up rows xs) ++ looked_up rows ys
    go None e = e
    go (Some r) e = ap (λ l. r ∷ l) e

-- the first that is taken of rows and more rows
taken-both : (b : TermBind) (us vs : List Row) → first_taken b us ≡ None → first_taken b (us ++ vs) ≡ first_taken b vs
taken-both b [] vs e = refl
taken-both b (r ∷ us) vs e = go (taken-both b us vs) (takes b r) e
  where
    go : (first_taken b us ≡ None → first_taken b (us ++ vs) ≡ first_taken b vs) → (o : Option Bindings) → choice_or r o (first_taken b us) ≡ None → choice_or r o (first_taken b (us ++ vs)) ≡ first_taken b vs
    go next None f = next f
    go next (Some xs) f = cc f

taken-first : (b : TermBind) (us vs : List Row) (c : Choice) → first_taken b us ≡ Some c → first_taken b (us ++ vs) ≡ Some c
taken-first b [] vs c e = cc e
taken-first b (r ∷ us) vs c e = go (taken-first b us vs c) (takes b r) e
  where
    go : (first_taken b us ≡ Some c → first_taken b (us ++ vs) ≡ Some c) → (o : Option Bindings) → choice_or r o (first_taken b us) ≡ Some c → choice_or r o (first_taken b (us ++ vs)) ≡ Some c
    go next None f = next f
    go next (Some xs) f = f

-- the bytes of digests
abbrev pub bytes_of : List Digest → List (List ℕ)
bytes_of ds = each (λ d. d.0) ds

-- the walk over ids goes on where the row of one is not taken
pub missed-step : (b : TermBind) (rows : List Row) (d : Digest) (ds : List Digest) (x : Option Chosen) → Chooses (first_taken b (looked_up rows (d.0 ∷ []))) x → is_some x ≡ false
    → first_taken b (looked_up rows (bytes_of (d ∷ ds))) ≡ first_taken b (looked_up rows (bytes_of ds))
missed-step b rows d ds None h e = ap (first_taken b) (looked-up-both rows (d.0 ∷ []) (bytes_of ds)) ∙ taken-both b (looked_up rows (d.0 ∷ [])) (looked_up rows (bytes_of ds)) h
missed-step b rows d ds (Some c) h e = cc e

-- and ends where it is
pub found-step : (b : TermBind) (rows : List Row) (d : Digest) (ds : List Digest) (x : Option Chosen) → Chooses (first_taken b (looked_up rows (d.0 ∷ []))) x → is_some x ≡ true
    → Chooses (first_taken b (looked_up rows (bytes_of (d ∷ ds)))) x
found-step b rows d ds None h e = cc e
found-step b rows d ds (Some c) h e =
    (h.0, ap (first_taken b) (looked-up-both rows (d.0 ∷ []) (bytes_of ds)) ∙ taken-first b (looked_up rows (d.0 ∷ [])) (looked_up rows (bytes_of ds)) h.0 h.1, h.2)

-- what is taken of the row with an id
pub row-choice : (b : TermBind) (rows : List Row) (x : List ℕ) (r : Row) (o : Option Chosen) → row_with x rows ≡ Some r → Binds r (takes b r) o → Chooses (first_taken b (looked_up rows (x ∷ []))) o
row-choice b rows x r None e k = ap (λ o. first_taken b (with_row o [])) e ∙ ap (λ o. choice_or r o None) k
row-choice b rows x r (Some c) e k = ((r, c.bound.items), ap (λ o. first_taken b (with_row o [])) e ∙ ap (λ o. choice_or r o None) k.2, (k.0, k.1, refl, k.3))

pub no-choice-there : (b : TermBind) (rows : List Row) (x : List ℕ) → row_with x rows ≡ None → Chooses (first_taken b (looked_up rows (x ∷ []))) None
no-choice-there b rows x e = ap (λ o. first_taken b (with_row o [])) e
