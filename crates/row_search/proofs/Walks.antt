-- Walks over ids, whose rows are looked up one by one.
use Rattle.std.proofs.Common.{◌≡◌, ℕ, zero, suc, arith, ◌+◌, ◌<◌, true, false, List, [], ◌∷◌, length, get_or, take, drop, refl, sym, ap, ◌∙◌, subst}
use Rattle.std.proofs.lemmas.List.Elements.{All-nil, All-cons, All-append}
use Rattle.std.specs.Prelude.{All, Option, Some, None, is_some, Result, Ok, Err, IfOk, MatchOption}
use Rattle.std.specs.declared.alloc.AllocError.{AllocError}
use Rattle.calculus.specs.declared.ids.Digest.{Digest}
use Rattle.calculus.specs.Rows.{Row}
use Rattle.rho_term.specs.declared.term.TermBind.{TermBind}
use Rattle.row_search.specs.declared.choices.Chosen.{Chosen}
use Rattle.found_rows.specs.declared.found.Found.{Found}
use Rattle.row_search.specs.Rows.{row_with, with_row, looked_up}
use Rattle.row_search.specs.Choices.{Binds, Chooses, first_taken, takes}
use Rattle.row_search.specs.Meetings.{IsFound, MeetsNone}
use Rattle.row_search.proofs.Looping.{bytes_of, drop-is, map-append, take-is}
use Rattle.row_search.proofs.Looking.{found-step, looked-up-both, missed-step, row-choice}

-- what stands there stands there whatever else would
item-is : {A : Type 0} (xs : List A) (i : ℕ) (z : A) → i < length xs → get_or xs i z ≡ get_or xs i (get_or xs i z)
item-is [] i z h = absurd (omega arith)
item-is (x ∷ xs) zero z h = refl
item-is (x ∷ xs) (suc i) z h = item-is xs i z (omega arith)

module _ (b : TermBind) (rows : List Row) (ds : List Digest) (i : ℕ) (z : Digest) (x : Option Chosen) (h : i < length ds) (k : Chooses (first_taken b (looked_up rows ((get_or ds i z).0 ∷ []))) x)
    (walked : first_taken b (looked_up rows (bytes_of ds)) ≡ first_taken b (looked_up rows (bytes_of (drop i ds)))) where
  here : first_taken b (looked_up rows (bytes_of ds)) ≡ first_taken b (looked_up rows (bytes_of (get_or ds i z ∷ drop (i + 1) ds)))
  here = walked ∙ ap (λ (l : List Digest). first_taken b (looked_up rows (bytes_of l))) (drop-is ds i (get_or ds i z) h (item-is ds i z h))

  -- nothing is taken here
  pub walk-missed : is_some x ≡ false → first_taken b (looked_up rows (bytes_of ds)) ≡ first_taken b (looked_up rows (bytes_of (drop (i + 1) ds)))
  walk-missed m = here ∙ missed-step b rows (get_or ds i z) (drop (i + 1) ds) x k m

  -- this is taken
  pub walk-found : is_some x ≡ true → Chooses (first_taken b (looked_up rows (bytes_of ds))) x
  walk-found m = subst (λ c. Chooses c x) (sym here) (found-step b rows (get_or ds i z) (drop (i + 1) ds) x k m)

-- what is taken of the row with an id, as a call answers it
pub row-choices : (b : TermBind) (rows : List Row) (x : List ℕ) (r : Row) (o : Result (Option Chosen) AllocError) → row_with x rows ≡ Some r → IfOk o (λ y. Binds r (takes b r) y)
    → IfOk o (λ y. Chooses (first_taken b (looked_up rows (x ∷ []))) y)
row-choices b rows x r (Err y) e k = tt
row-choices b rows x r (Ok y) e k = row-choice b rows x r y e k

module _ (rows : List Row) (o : Row) where
  abbrev pub NoneMeets : List Row → Type 0
  NoneMeets rs = All (λ r. MeetsNone rows o r) rs

  -- the row with an id meets nothing, or is found
  pub row-meets : (x : List ℕ) (r : Row) (y : Result (Option Found) AllocError) → row_with x rows ≡ Some r → IfOk y (λ z. MatchOption z (MeetsNone rows o r) (IsFound rows o))
      → IfOk y (λ z. MatchOption z (NoneMeets (looked_up rows (x ∷ []))) (IsFound rows o))
  row-meets x r (Err y) e k = tt
  row-meets x r (Ok None) e k = subst (λ c. NoneMeets (with_row c [])) (sym e) (All-cons (λ r. MeetsNone rows o r) r [] k (All-nil (λ r. MeetsNone rows o r)))
  row-meets x r (Ok (Some f)) e k = k

  pub no-row-meets : (x : List ℕ) → row_with x rows ≡ None → NoneMeets (looked_up rows (x ∷ []))
  no-row-meets x e = subst (λ c. NoneMeets (with_row c [])) (sym e) (All-nil (λ r. MeetsNone rows o r))

  -- one more row meets nothing
  pub none-more : (ds : List Digest) (i : ℕ) (z : Digest) → i < length ds → NoneMeets (looked_up rows (bytes_of (take i ds))) → NoneMeets (looked_up rows ((get_or ds i z).0 ∷ []))
      → NoneMeets (looked_up rows (bytes_of (take (i + 1) ds)))
  none-more ds i z h before now =
      let d = get_or ds i z in
      subst (λ l. NoneMeets (looked_up rows l)) (sym (ap bytes_of (take-is ds i d h (item-is ds i z h)) ∙ map-append (λ (y : Digest). y.0) (take i ds) (d ∷ [])))
      (subst NoneMeets (sym (looked-up-both rows (bytes_of (take i ds)) (d.0 ∷ []))) (All-append (λ r. MeetsNone rows o r) (looked_up rows (bytes_of (take i ds))) (looked_up rows (d.0 ∷ [])) before now))
