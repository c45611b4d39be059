-- Keys that differ, one after another.
use Rattle.std.proofs.Common.{◌≡◌, ℕ, ◌≤◌, ◌*◌, Bool, true, false, not, ◌&&◌, ◌||◌, List, [], ◌∷◌, ◌++◌, length, map as each, refl, ap, sym, ◌∙◌, subst, arith, inl, inr}
use Rattle.std.specs.Prelude.{◌⊎◌, ◌≢◌, Result, Ok, Err, OnOk}
use Rattle.std.specs.Str.{bytes_eq}
use Rattle.calculus.specs.Order.{sorted}
use Rattle.calculus.specs.Rows.{Row}
use Rattle.calculus.specs.Steps.{differ, is_one_of}
use Rattle.calculus.proofs.Sorting.{length-sorted}
use Rattle.events.proofs.Groups.{same, equal}
use Rattle.calculus.proofs.ListCodes.{length-map}
use Rattle.radix_root.specs.Leaves.{codes_at, groups_of}
use Rattle.radix_root.specs.declared.group.Group.{Group}
use Rattle.checkpoint.specs.Groups.{keys_in, AreApart}
use Rattle.checkpoint.specs.Made.{AreMade, no_codes}

no-truth : false ≡ true → ⊥
no-truth e = cc

pub unequal : (x y : List ℕ) → bytes_eq x y ≡ false → bytes_eq y x ≡ false
unequal x y e = go (bytes_eq y x) refl
  where
    go : (b : Bool) → bytes_eq y x ≡ b → bytes_eq y x ≡ false
    go true f = absurd (no-truth (sym e ∙ equal x y (sym (same y x f))))
    go false f = f

-- one of these and of one more
pub one-push : (x y : List ℕ) (xs : List (List ℕ)) → is_one_of x (xs ++ y ∷ []) ≡ true → (is_one_of x xs ≡ true) ⊎ (x ≡ y)
one-push x y [] e = inr (same x y (go (bytes_eq x y) e))
  where
    go : (b : Bool) → (b || false) ≡ true → b ≡ true
    go true f = refl
    go false f = f
one-push x y (z ∷ zs) e = go (bytes_eq x z) e (one-push x y zs)
  where
    go : (b : Bool) → (b || is_one_of x (zs ++ y ∷ [])) ≡ true → (is_one_of x (zs ++ y ∷ []) ≡ true → (is_one_of x zs ≡ true) ⊎ (x ≡ y)) → ((b || is_one_of x zs) ≡ true) ⊎ (x ≡ y)
    go true f next = inl refl
    go false f next = next f

none-push : (x y : List ℕ) (xs : List (List ℕ)) → is_one_of x xs ≡ false → bytes_eq x y ≡ false → is_one_of x (xs ++ y ∷ []) ≡ false
none-push x y [] e f = ap (λ b. b || false) f
none-push x y (z ∷ zs) e f = go (bytes_eq x z) e (λ d. none-push x y zs d f)
  where
    go : (b : Bool) → (b || is_one_of x zs) ≡ false → (is_one_of x zs ≡ false → is_one_of x (zs ++ y ∷ []) ≡ false) → (b || is_one_of x (zs ++ y ∷ [])) ≡ false
    go true d next = d
    go false d next = next d

-- one key more, which is none of those before
pub differ-push : (xs : List (List ℕ)) (y : List ℕ) → differ xs ≡ true → is_one_of y xs ≡ false → differ (xs ++ y ∷ []) ≡ true
differ-push [] y d n = refl
differ-push (x ∷ xs) y d n = go (is_one_of x xs) refl d (bytes_eq y x) refl n (differ-push xs y)
  where
    go : (b : Bool) → is_one_of x xs ≡ b → (not b && differ xs) ≡ true → (e : Bool) → bytes_eq y x ≡ e → (e || is_one_of y xs) ≡ false → (differ xs ≡ true → is_one_of y xs ≡ false → differ (xs ++ y ∷ []) ≡ true)
        → (not (is_one_of x (xs ++ y ∷ [])) && differ (xs ++ y ∷ [])) ≡ true
    go true f k e g m next = absurd (no-truth k)
    go false f k true g m next = absurd (no-truth (sym m))
    go false f k false g m next = ap (λ b. not b && differ (xs ++ y ∷ [])) (none-push x y xs f (unequal y x g)) ∙ next k m

pub append-some : {A : Type 0} (xs ys : List A) → xs ≢ [] → xs ++ ys ≢ []
append-some [] ys h = absurd (h refl)
append-some (x ∷ xs) ys h = λ e. cc e

-- a list of no length, and one of some
pub without-length : {A : Type 0} (xs : List A) → length xs ≡ 0 → xs ≡ []
without-length [] e = refl
without-length (x ∷ xs) e = absurd (omega (arith, e))

pub with-length : {A : Type 0} (xs : List A) → 1 ≤ length xs → xs ≢ []
with-length [] e = absurd (omega (arith, e))
with-length (x ∷ xs) e = λ h. cc h

pub each-nothing : {A B : Type 0} (f : A → B) (xs : List A) → each f xs ≡ [] → xs ≡ []
each-nothing f [] e = refl
each-nothing f (x ∷ xs) e = absurd (cc e)

-- a key that has no codes is none of those that have some
pub not-there : (rows : List Row) (k : List ℕ) (ks : List (List ℕ)) → ((j : List ℕ) → is_one_of j ks ≡ true → codes_at rows j ≢ []) → codes_at rows k ≡ [] → is_one_of k ks ≡ false
not-there rows k ks some n = go (is_one_of k ks) refl
  where
    go : (b : Bool) → is_one_of k ks ≡ b → is_one_of k ks ≡ false
    go true e = absurd (some k e n)
    go false e = e

pub sorted-nothing : (xs : List (List ℕ)) → sorted xs ≡ [] → xs ≡ []
sorted-nothing [] e = refl
sorted-nothing (x ∷ xs) e = absurd (omega (arith, length-sorted (x ∷ xs), ap length e))

-- digests of groups that are apart
pub made-for : (gs : List Group) (rows : List Row) (n : ℕ) → AreApart gs rows → n ≤ 65 * length gs → AreMade no_codes (groups_of rows) n
made-for gs rows n h w = record {
  keys = keys_in gs;
  once = h.once;
  so = λ k m e. h.some k m (sorted-nothing (codes_at rows k) (sym e));
  within = subst (λ l. n ≤ 65 * l) (sym (length-map (λ (g : Group). g.key.0) gs)) w;
}

-- what holds in any case holds where there is a result
pub so-or-not : {T E P : Type 0} (r : Result T E) → P → OnOk r P
so-or-not (Ok x) p = p
so-or-not (Err x) p = tt
