-- Lists of places for shards.
use Rattle.std.proofs.Common.{◌≡◌, ◌≤◌, ◌<◌, ◌+◌, ℕ, zero, suc, Bool, true, false, not, ◌&&◌, ◌||◌, List, [], ◌∷◌, ◌++◌, drop, get_or, length, refl, sym, ap, subst, ◌∙◌, inl, inr, arith}
use mathlib.Core.Logic.{dite}
use native.Mathlib.Decide.{ℕ_discrete}
use Rattle.std.specs.Borrow.{Bor}
use Rattle.std.specs.Prelude.{⊤, Option, Some, None, is_some, MatchOption}
use Rattle.std.specs.Option.{option_copied}
use Rattle.std.proofs.lemmas.List.{at_drop_more}
use Rattle.std.specs.List.{list_any}
use Rattle.calculus.proofs.Members.{Member}
use Rattle.calculus.specs.Rows.{Row}
use Rattle.events.proofs.Making.{among, member}
use Rattle.events.specs.Shards.{stands_in}
use Rattle.events.specs.Hands.{hears, shows}
use Rattle.events.proofs.ShardStanding.{any-true, any-one}
use Rattle.shard_tables.specs.Hands.{AreInHand}
use Rattle.rspace_table.specs.Shown.{shown_by}
use Rattle.found_rows.specs.declared.found.Found.{Found}
use Rattle.row_search.specs.Meetings.{MeetsNothing}
use Rattle.row_search.specs.Rows.{row_with}
use Rattle.rspace_table.specs.Hands.{InHand, shard_at, shown_at, sends_of, all_sends, rows_for, StandIn, IsInPlace, MeetsNoneAt, MeetsAt, MeetsNoReceiver, MeetsAReceiver}
use Rattle.rspace_table.proofs.Firsts.{first_of, row-join}
use Rattle.rspace_table.proofs.Shown.{same-truth}

-- a shard among the places is at one of them
pub place-of : (xs : InHand) (rows : List Row) → Member (Some rows) xs → (k : ℕ) × (shard_at xs k ≡ Some rows)
place-of [] rows m = absurd m
place-of (x ∷ xs) rows (inl e) = (0, sym e)
place-of (x ∷ xs) rows (inr m) = let n = place-of xs rows m in (suc n.0, n.1)

pub at-place : (xs : InHand) (k : ℕ) (rows : List Row) → shard_at xs k ≡ Some rows → Member (Some rows) xs
at-place [] k rows e = cc e
at-place (x ∷ xs) zero rows e = inl (sym e)
at-place (x ∷ xs) (suc k) rows e = inr (at-place xs k rows e)

-- what is shown at the places is what all rows in hand show
pub shown-in-hand : (hand : InHand) (all : List Row) (o : Row) → AreInHand (λ rows. rows) (shard_at hand) all → (k : ℕ) → stands_in k o || list_any (λ x. shown_at x o k) hand ≡ shows all o k
shown-in-hand hand all o are k = ap (λ b. stands_in k o || b) (same-truth (list_any (λ x. shown_at x o k) hand) (shown_by all o k) to back)
  where
    to : list_any (λ x. shown_at x o k) hand ≡ true → shown_by all o k ≡ true
    to e = let a = any-one (λ (x : Option (List Row)). shown_at x o k) hand e in go a.0 a.1 a.2
      where
        go : (x : Option (List Row)) → Member x hand → shown_at x o k ≡ true → shown_by all o k ≡ true
        go None m f = cc f
        go (Some rows) m f =
            let b = any-one (λ (r : Row). hears r o && stands_in k r) rows f in
            let p = place-of hand rows m in
            any-true (λ (r : Row). hears r o && stands_in k r) all b.0 (member b.0 all ((are b.0).1 (p.0, rows, p.1, among b.0 rows b.1))) b.2

    back : shown_by all o k ≡ true → list_any (λ x. shown_at x o k) hand ≡ true
    back e =
        let a = any-one (λ (r : Row). hears r o && stands_in k r) all e in
        let i = (are a.0).0 (among a.0 all a.1) in
        any-true (λ (x : Option (List Row)). shown_at x o k) hand (Some i.1) (at-place hand i.0 i.1 i.2) (any-true (λ (r : Row). hears r o && stands_in k r) i.1 a.0 (member a.0 i.1 i.3) a.2)

-- no shard is there
abbrev pub AreAbsent : InHand → Type 0
AreAbsent [] = ⊤
AreAbsent (None ∷ xs) = AreAbsent xs
AreAbsent (Some s ∷ xs) = ⊥

pub absent-more : (xs : InHand) → AreAbsent xs → AreAbsent (xs ++ None ∷ [])
absent-more [] h = tt
absent-more (None ∷ xs) h = absent-more xs h
absent-more (Some s ∷ xs) h = absurd h

pub absent-at : (xs : InHand) (k : ℕ) → AreAbsent xs → shard_at xs k ≡ None
absent-at [] k h = refl
absent-at (None ∷ xs) zero h = refl
absent-at (None ∷ xs) (suc k) h = absent-at xs k h
absent-at (Some s ∷ xs) k h = absurd h

-- sends that are looked for along the places
module _ (x : List ℕ) (xs : InHand) (i : ℕ) (d : Option (List Row)) (lt : i < length xs) (h : row_with x (all_sends xs) ≡ row_with x (all_sends (drop i xs))) where
  send-step : row_with x (all_sends xs) ≡ first_of (row_with x (sends_of (get_or xs i d))) (row_with x (all_sends (drop (i + 1) xs)))
  send-step = h ∙ at_drop_more (λ (l : InHand). row_with x (all_sends l)) xs i d lt ∙ row-join x (sends_of (get_or xs i d)) (all_sends (drop (i + 1) xs))

  pub send-found : (o : Option (Bor Row)) → option_copied o ≡ row_with x (sends_of (get_or xs i d)) → is_some o ≡ true → option_copied o ≡ row_with x (all_sends xs)
  send-found None e f = cc f
  send-found (Some r) e f = sym (send-step ∙ ap (λ o. first_of o (row_with x (all_sends (drop (i + 1) xs)))) (sym e))

  pub send-missed : (o : Option (Bor Row)) → option_copied o ≡ row_with x (sends_of (get_or xs i d)) → is_some o ≡ false → row_with x (all_sends xs) ≡ row_with x (all_sends (drop (i + 1) xs))
  send-missed None e f = send-step ∙ ap (λ o. first_of o (row_with x (all_sends (drop (i + 1) xs)))) (sym e)
  send-missed (Some r) e f = cc f

pub send-none : (x : List ℕ) (xs : InHand) (i : ℕ) → length xs ≤ i → row_with x (all_sends xs) ≡ row_with x (all_sends (drop i xs)) → None ≡ row_with x (all_sends xs)
send-none x xs i le h = sym (h ∙ ap (λ (l : InHand). row_with x (all_sends l)) (all-dropped xs i le))
  where
    all-dropped : (ys : InHand) (j : ℕ) → length ys ≤ j → drop j ys ≡ []
    all-dropped [] zero e = refl
    all-dropped [] (suc j) e = refl
    all-dropped (y ∷ ys) zero e = absurd (omega (arith, e))
    all-dropped (y ∷ ys) (suc j) e = all-dropped ys j (omega (arith, e))

-- what is so at the first places, and at one more
pub one-more-place : (P : ℕ → List Row → Type 0) (xs : InHand) (i : ℕ) (y : Option (List Row)) → get_or xs i None ≡ y → ((rows : List Row) → y ≡ Some rows → P i rows)
    → ((k : ℕ) (rows : List Row) → k < i → shard_at xs k ≡ Some rows → P k rows) → (k : ℕ) (rows : List Row) → k < i + 1 → shard_at xs k ≡ Some rows → P k rows
one-more-place P xs i y e f h k rows lt s = dite (ℕ_discrete k i)
    (λ same. subst (λ j. P j rows) (sym same) (f rows (sym e ∙ ap (shard_at xs) (sym same) ∙ s)))
    (λ other. h k rows (omega (arith, lt, other)) s)

-- the item at a place, whatever stands for none
pub place-item : (xs : InHand) (i : ℕ) (d : Option (List Row)) → i < length xs → get_or xs i None ≡ get_or xs i d
place-item [] i d lt = absurd (omega (arith, lt))
place-item (x ∷ xs) zero d lt = refl
place-item (x ∷ xs) (suc i) d lt = place-item xs i d (omega (arith, lt))

pub right-so : (i : ℕ) (y : Option (List Row)) → IsInPlace i y → (rows : List Row) → y ≡ Some rows → StandIn i rows
right-so i None h rows e = cc e
right-so i (Some qs) h rows e = let same : qs ≡ rows = cc e in subst (StandIn i) same h

pub none-so : (hand : InHand) (y : Option (List Row)) (o : Row) → MeetsNoneAt hand y o → (rows : List Row) → y ≡ Some rows → MeetsNothing (rows_for rows hand) o
none-so hand None o h rows e = cc e
none-so hand (Some qs) o h rows e = let same : qs ≡ rows = cc e in subst (λ (l : List Row). MeetsNothing (rows_for l hand) o) same h

pub found-so : (hand : InHand) (k : ℕ) (y : Option (List Row)) (o : Row) (f : Found) → shard_at hand k ≡ y → MeetsAt hand y o f → MeetsAReceiver hand o f
found-so hand k None o f e h = absurd h
found-so hand k (Some rows) o f e h = (k, rows, e, h)

-- a shard is at no place past the end
within-place : (xs : InHand) (k : ℕ) (rows : List Row) → shard_at xs k ≡ Some rows → k < length xs
within-place [] k rows e = cc e
within-place (x ∷ xs) zero rows e = omega arith
within-place (x ∷ xs) (suc k) rows e = omega (arith, within-place xs k rows e)

pub all-places : (P : ℕ → List Row → Type 0) (xs : InHand) (i : ℕ) → length xs ≤ i → ((k : ℕ) (rows : List Row) → k < i → shard_at xs k ≡ Some rows → P k rows) → (k : ℕ) (rows : List Row) → shard_at xs k ≡ Some rows → P k rows
all-places P xs i le h k rows s = h k rows (omega (arith, le, within-place xs k rows s)) s

-- an operation that is tried with the receivers of one shard after another
module _ (hand xs : InHand) (o : Row) (i : ℕ) where
  pub stored-more : (d y : Option (List Row)) → i < length xs → y ≡ get_or xs i d → (x : Option Found) → MatchOption x (MeetsNoneAt hand y o) (MeetsAt hand y o) → is_some x ≡ false
      → ((k : ℕ) (rows : List Row) → k < i → shard_at xs k ≡ Some rows → MeetsNothing (rows_for rows hand) o) → (k : ℕ) (rows : List Row) → k < i + 1 → shard_at xs k ≡ Some rows → MeetsNothing (rows_for rows hand) o
  stored-more d y lt e (Some f) m s h = cc s
  stored-more d y lt e None m s h = one-more-place (λ k rows. MeetsNothing (rows_for rows hand) o) xs i y (place-item xs i d lt ∙ sym e) (none-so hand y o m) h

pub stored-found : (hand xs : InHand) → xs ≡ hand → (o : Row) (i : ℕ) (d y : Option (List Row)) → i < length xs → y ≡ get_or xs i d → (x : Option Found) → MatchOption x (MeetsNoneAt hand y o) (MeetsAt hand y o) → is_some x ≡ true
    → MatchOption x (MeetsNoReceiver hand o) (MeetsAReceiver hand o)
stored-found hand xs v o i d y lt e None m s = cc s
stored-found hand xs v o i d y lt e (Some f) m s = found-so hand i y o f (ap (λ l. shard_at l i) (sym v) ∙ place-item xs i d lt ∙ sym e) m

pub stored-none : (hand xs : InHand) → xs ≡ hand → (o : Row) (i : ℕ) → length xs ≤ i → ((k : ℕ) (rows : List Row) → k < i → shard_at xs k ≡ Some rows → MeetsNothing (rows_for rows hand) o) → MeetsNoReceiver hand o
stored-none hand xs v o i le h k rows e = all-places (λ j qs. MeetsNothing (rows_for qs hand) o) xs i le h k rows (ap (λ l. shard_at l k) v ∙ e)

pub not-false : (b : Bool) → not b ≡ false → b ≡ true
not-false true e = refl
not-false false e = cc e
