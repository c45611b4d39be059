-- What becomes of shards, and of places for them.
use Rattle.std.proofs.Common.{◌≡◌, ◌≢◌, ◌≤◌, nat_lt, ℕ, zero, suc, ◌+◌, ◌<◌, Bool, true, false, not, ◌&&◌, cond, List, [], ◌∷◌, ◌++◌, get_or, length, map as each, append-nil, refl, sym, ap, subst, ◌∙◌, inl, inr, arith}
use Rattle.std.specs.Prelude.{Option, None, option_map, Result, Ok, Err, IfOk, OnErr, OnOk, IsPermutation}
use mathlib.Core.Logic.{dite}
use native.Mathlib.Decide.{ℕ_discrete}
use Rattle.std.specs.Prelude.{set}
use Rattle.std.proofs.lemmas.Bool.Decides.{nat_tests}
use Rattle.std.proofs.lemmas.List.{get_or-set_same, get_or-set_other}
use Rattle.std.specs.declared.alloc.AllocError.{AllocError}
use Rattle.calculus.proofs.Members.{Member}
use Rattle.calculus.proofs.Permutations.{unmoved, join, all_over, moved_so}
use Rattle.calculus.specs.Rows.{Row}
use Rattle.calculus.specs.Steps.{is_one_of, differ}
use Rattle.events.specs.Found.{without}
use Rattle.events.proofs.Making.{among, member}
use Rattle.events.proofs.Orders.{member-moved}
use Rattle.events.specs.Shards.{stands_in}
use Rattle.shard_tables.specs.Hands.{AreMade, GainsRow, LosesRows}
use Rattle.rspace_table.specs.Hands.{InHand, shard_at, GainsAt, StandIn}
use Rattle.rspace_table.proofs.Firsts.{was-in}

not-there : true ≡ false → ⊥
not-there e = cc e

-- a shard that a row does not stand in stays
pub gains-not : (o : Row) (k : ℕ) (rows : List Row) → stands_in k o ≡ false → GainsRow o k rows rows
gains-not o k rows e d = subst (λ (l : List Row). IsPermutation (rows ++ l) rows) (sym (ap (λ b. cond b (o ∷ []) []) e)) (subst (λ (l : List Row). IsPermutation l rows) (sym (append-nil rows)) (unmoved rows))

-- where ids differ, none has that of the first
pub first-differs : (x : List ℕ) (xs : List (List ℕ)) → differ (x ∷ xs) ≡ true → is_one_of x xs ≡ false
first-differs x xs e = go (is_one_of x xs) e
  where
    go : (b : Bool) → not b && differ xs ≡ true → b ≡ false
    go true z = cc z
    go false z = refl

-- a shard that a row stands in gains it, or has its id
pub gains : (o : Row) (k : ℕ) (old new : List Row) (added : Bool) → stands_in k o ≡ true → (added ≡ false → is_one_of o.id (each (λ r. r.id) old) ≡ true) → (added ≡ true → IsPermutation new (o ∷ old)) → GainsRow o k old new
gains o k old new false e f g d = absurd (not-there (sym (f refl) ∙ first-differs o.id (each (λ r. r.id) old) d))
gains o k old new true e f g d =
    subst (λ (l : List Row). IsPermutation (old ++ l) new) (sym (ap (λ b. cond b (o ∷ []) []) e)) (join (all_over old (o ∷ [])) (moved_so (g refl)))

pub put-gains : (o : Row) (k : ℕ) (old new : List Row) (r : Result Bool AllocError) → stands_in k o ≡ true
    → IfOk r (λ added. added ≡ false → is_one_of o.id (each (λ r. r.id) old) ≡ true) → IfOk r (λ added. added ≡ true → IsPermutation new (o ∷ old)) → OnOk r (GainsRow o k old new)
put-gains o k old new (Ok b) e f g = gains o k old new b e f g
put-gains o k old new (Err x) e f g = tt

-- rows that stand in a shard, and one more that does
pub more-stand : (k : ℕ) (o : Row) (old new : List Row) → stands_in k o ≡ true → StandIn k old → IsPermutation new (o ∷ old) → StandIn k new
more-stand k o old new e h p r a = go (member-moved r p (member r new a))
  where
    go : Member r (o ∷ old) → stands_in k r ≡ true
    go (inl s) = ap (stands_in k) s ∙ e
    go (inr m) = h r (among r old m)

-- what is lost
pub loses : (gone : List (List ℕ)) (k : ℕ) (old new : List Row) → new ≡ without gone old → LosesRows gone k old new
loses gone k old new e d = subst (λ (l : List Row). IsPermutation (without gone old) l) (sym e) (unmoved (without gone old))

-- the places of shards that all lose rows
pub all-lose : (gone : List (List ℕ)) (old new : InHand) → ((k : ℕ) → shard_at new k ≡ option_map (without gone) (shard_at old k)) → AreMade (λ rows. rows) (LosesRows gone) (shard_at old) (shard_at new)
all-lose gone old new h = record {
  here = λ k x e. (without gone x, h k ∙ ap (option_map (without gone)) e, loses gone k x (without gone x) refl);
  absent = λ k e. h k ∙ ap (option_map (without gone)) e;
}

-- the places of shards that gain a row
pub all-gain : (o : Row) (old new : InHand) → ((k : ℕ) → GainsAt o k (shard_at old k) (shard_at new k)) → AreMade (λ rows. rows) (GainsRow o) (shard_at old) (shard_at new)
all-gain o old new h = record {
  here = λ k x e. subst (λ (s : Option (List Row)). GainsAt o k s (shard_at new k)) e (h k);
  absent = λ k e. subst (λ (s : Option (List Row)). GainsAt o k s (shard_at new k)) e (h k);
}

-- there is nothing past the end
pub nothing-past : (xs : InHand) (k : ℕ) → length xs ≤ k → get_or xs k None ≡ None
nothing-past [] k h = refl
nothing-past (x ∷ xs) zero h = absurd (omega (arith, h))
nothing-past (x ∷ xs) (suc k) h = nothing-past xs k (omega (arith, h))

-- the rows of a shard stand in it after a row that does came, or did not
pub stand-after : (k : ℕ) (o : Row) (old new : List Row) (r : Result Bool AllocError) → stands_in k o ≡ true → StandIn k old
    → IfOk r (λ added. added ≡ false → new ≡ old) → IfOk r (λ added. added ≡ true → IsPermutation new (o ∷ old)) → OnErr r (new ≡ old) → StandIn k new
stand-after k o old new (Ok true) e h f g n = more-stand k o old new e h (g refl)
stand-after k o old new (Ok false) e h f g n = subst (StandIn k) (sym (f refl)) h
stand-after k o old new (Err x) e h f g n = subst (StandIn k) (sym n) h

-- and after rows left
pub fewer-stand : (k : ℕ) (xs : List (List ℕ)) (old new : List Row) → new ≡ without xs old → StandIn k old → StandIn k new
fewer-stand k xs old new e h = subst (StandIn k) (sym e) (λ r a. h r (among r old (was-in xs old r (member r (without xs old) a)).0))

-- a place that changes in a list of places
pub set-here : (xs : InHand) (i : ℕ) (y : Option (List Row)) → i < length xs → get_or (set xs i y) i None ≡ y
set-here xs i y lt = get_or-set_same xs i y None lt

pub set-there : (xs : InHand) (i j : ℕ) (y : Option (List Row)) → j ≢ i → get_or (set xs i y) j None ≡ get_or xs j None
set-there xs i j y n = get_or-set_other xs i j y None n

module _ (o : Row) (old new : InHand) (k : ℕ) (y : Option (List Row)) (lt : k < length old) (before : (j : ℕ) → j < k + 1 → get_or new j None ≡ get_or (set old k y) j None) where
  -- where the places from the next one on gain the row, all from this one on do
  pub made-on : GainsAt o k (get_or old k None) y → ((j : ℕ) → k + 1 ≤ j → GainsAt o j (get_or (set old k y) j None) (get_or new j None)) → (j : ℕ) → k ≤ j → GainsAt o j (get_or old j None) (get_or new j None)
  made-on made later j le = dite (ℕ_discrete j k)
      (λ e. let P : ℕ → Type 0 = λ n. GainsAt o n (get_or old n None) (get_or new n None) in
      subst P (sym e) (subst (λ z. GainsAt o k (get_or old k None) z) (sym (before k (omega arith) ∙ set-here old k y lt)) made))
      (λ n. subst (λ z. GainsAt o j z (get_or new j None)) (set-there old k j y n) (later j (omega (arith, le, n))))

  pub before-on : (j : ℕ) → j < k → get_or new j None ≡ get_or old j None
  before-on j l = before j (omega (arith, l)) ∙ set-there old k j y (λ e. absurd (omega (arith, l, e)))

-- where all later places are as they were, taking back this one makes all as it was
pub undone : (old new last : InHand) (k : ℕ) (y : Option (List Row)) (lt : k < length old) → ((j : ℕ) → get_or new j None ≡ get_or (set old k y) j None)
    → (xs : List (List ℕ)) (added : Bool) → (added ≡ true → option_map (without xs) y ≡ get_or old k None) → (added ≡ false → y ≡ get_or old k None)
    → get_or last k None ≡ cond added (option_map (without xs) (get_or new k None)) (get_or new k None) → ((j : ℕ) → j ≢ k → get_or last j None ≡ get_or new j None)
    → (j : ℕ) → get_or last j None ≡ get_or old j None
undone old new last k y lt back xs added f g here others j = dite (ℕ_discrete j k)
    (λ s. let P : ℕ → Type 0 = λ n. get_or last n None ≡ get_or old n None in subst P (sym s) (go added refl here))
    (λ n. others j n ∙ back j ∙ set-there old k j y n)
  where
    now : get_or new k None ≡ y
    now = back k ∙ set-here old k y lt

    go : (b : Bool) → added ≡ b → get_or last k None ≡ cond b (option_map (without xs) (get_or new k None)) (get_or new k None) → get_or last k None ≡ get_or old k None
    go true e h = h ∙ ap (option_map (without xs)) now ∙ f e
    go false e h = h ∙ now ∙ g e

-- places past the end gain nothing, and stay
pub past-gains : (o : Row) (xs : InHand) (n : ℕ) → length xs ≤ n → (j : ℕ) → n ≤ j → GainsAt o j (get_or xs j None) (get_or xs j None)
past-gains o xs n le j l = let e = nothing-past xs j (omega (arith, le, l)) in subst (λ s. GainsAt o j s s) (sym e) refl

-- the places that lose rows, one after another
module _ (xs : List (List ℕ)) (old now : InHand) (k : ℕ) (h : (j : ℕ) → j < k → get_or now j None ≡ option_map (without xs) (get_or old j None)) (i : (j : ℕ) → k ≤ j → get_or now j None ≡ get_or old j None) where
  pub lost-more : (next : InHand) → k < length now → next ≡ set now k (option_map (without xs) (get_or now k None)) → (j : ℕ) → j < k + 1 → get_or next j None ≡ option_map (without xs) (get_or old j None)
  lost-more next l f j lt = dite (ℕ_discrete j k)
      (λ s. let P : ℕ → Type 0 = λ n. get_or next n None ≡ option_map (without xs) (get_or old n None) in
      subst P (sym s) (ap (λ z. get_or z k None) f ∙ set-here now k _ l ∙ ap (option_map (without xs)) (i k (omega arith))))
      (λ n. ap (λ z. get_or z j None) f ∙ set-there now k j _ n ∙ h j (omega (arith, lt, n)))

  pub left-more : (next : InHand) → next ≡ set now k (option_map (without xs) (get_or now k None)) → (j : ℕ) → k + 1 ≤ j → get_or next j None ≡ get_or old j None
  left-more next f j le = ap (λ z. get_or z j None) f ∙ set-there now k j _ (λ e. absurd (omega (arith, le, e))) ∙ i j (omega (arith, le))

  pub all-lost : length now ≡ length old → length old ≤ k → (j : ℕ) → get_or now j None ≡ option_map (without xs) (get_or old j None)
  all-lost e le j = go (nat_lt j k) refl
    where
      go : (b : Bool) → nat_lt j k ≡ b → get_or now j None ≡ option_map (without xs) (get_or old j None)
      go true d = h j (grind (arith, nat_tests))
      go false d = let p : k ≤ j = grind (arith, nat_tests) in i j p ∙ nothing-past old j (omega (arith, le, p)) ∙ sym (ap (option_map (without xs)) (nothing-past old j (omega (arith, le, p))))

-- what follows from a call's answer
pub on-ok : {A B P Q : Type 0} (r : Result A B) → (P → Q) → OnOk r P → OnOk r Q
on-ok (Ok x) f p = f p
on-ok (Err e) f p = tt

pub on-err : {A B P Q : Type 0} (r : Result A B) → (P → Q) → OnErr r P → OnErr r Q
on-err (Ok x) f p = tt
on-err (Err e) f p = f p

-- what an answer tells
pub told-ok : {A B P : Type 0} (r : Result A B) (x : A) → r ≡ Ok x → OnOk r P → P
told-ok (Ok y) x e p = p
told-ok (Err y) x e p = cc e

pub told-err : {A B P : Type 0} (r : Result A B) (x : B) → r ≡ Err x → OnErr r P → P
told-err (Ok y) x e p = cc e
told-err (Err y) x e p = p
