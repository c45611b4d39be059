-- Steps that are kept at their indices.
use Rattle.std.proofs.Common.{◌≡◌, ◌≢◌, ℕ, zero, suc, ◌+◌, Bool, true, false, ◌||◌, cond, List, [], ◌∷◌, ◌++◌, length, refl, sym, ap, subst, ◌∙◌, arith, eqb, eqb-true, eq-eqb, Some, None, set, replicate}
use Rattle.std.specs.Prelude.{Option, slice_get}
use Rattle.std.specs.List.{list_any}
use Rattle.hub_scenes.specs.Spaces.{DidStep}
use Rattle.hub_scenes.specs.Closing.{is_did, did_at}
use Rattle.replay_outcome.specs.declared.places.Came.{Came}
use Rattle.replay_outcome.specs.Settling.{Keeps, KeptFrom}
use Rattle.replay_hub.specs.Values.{line_items}

-- another step changes nothing at this index
did-other : (i : ℕ) (ds : List DidStep) (d : DidStep) → eqb i d.index ≡ false → did_at i (ds ++ d ∷ []) ≡ did_at i ds
did-other i [] d e = ap (λ b. cond b (d ∷ []) []) e
did-other i (x ∷ xs) d e = ap (λ l. cond (eqb i x.index) (x ∷ []) l) (did-other i xs d e)

-- the first step at an index is kept
did-first : (i : ℕ) (ds : List DidStep) (d : DidStep) → eqb i d.index ≡ true → did_at i ds ≡ [] → did_at i (ds ++ d ∷ []) ≡ d ∷ []
did-first i [] d e n = ap (λ b. cond b (d ∷ []) []) e
did-first i (x ∷ xs) d e n = go (eqb i x.index) (did-first i xs d e) n
  where
    go : (b : Bool) → (did_at i xs ≡ [] → did_at i (xs ++ d ∷ []) ≡ d ∷ []) → cond b (x ∷ []) (did_at i xs) ≡ [] → cond b (x ∷ []) (did_at i (xs ++ d ∷ [])) ≡ d ∷ []
    go true next m = cc m
    go false next m = next m

did-kept : (i : ℕ) (ds : List DidStep) (d y : DidStep) (ys : List DidStep) → did_at i ds ≡ y ∷ ys → did_at i (ds ++ d ∷ []) ≡ did_at i ds
did-kept i [] d y ys n = cc n
did-kept i (x ∷ xs) d y ys n = go (eqb i x.index) (did-kept i xs d y ys) n
  where
    go : (b : Bool) → (did_at i xs ≡ y ∷ ys → did_at i (xs ++ d ∷ []) ≡ did_at i xs) → cond b (x ∷ []) (did_at i xs) ≡ y ∷ ys → cond b (x ∷ []) (did_at i (xs ++ d ∷ [])) ≡ cond b (x ∷ []) (did_at i xs)
    go true next m = refl
    go false next m = next m

pub keeps-none : (l : List DidStep) → Keeps None l → l ≡ []
keeps-none [] k = refl
keeps-none (d ∷ ds) k = absurd k

-- what a kept step is
pub record Kept (c : Came) (l : List DidStep) : Type 0 where
  pub it : DidStep
  pub is : l ≡ it ∷ []
  pub price : c.price ≡ it.price
  pub fault : c.fault ≡ it.fault
  pub line : line_items c.line ≡ it.line

pub keeps-some : (c : Came) (l : List DidStep) → Keeps (Some c) l → Kept c l
keeps-some c [] k = absurd k
keeps-some c (d ∷ []) k = record { it = d; is = refl; price = k.0; fault = k.1; line = k.2 }
keeps-some c (d ∷ (e ∷ ds)) k = absurd k

same-keeps : (o : Option Came) (l m : List DidStep) → m ≡ l → Keeps o l → Keeps o m
same-keeps o l m e k = subst (λ x. Keeps o x) (sym e) k

head-stays : (i : ℕ) (ds : List DidStep) (d : DidStep) (o : Option Came) → (o ≡ None → eqb i d.index ≡ false) → Keeps o (did_at i ds) → Keeps o (did_at i (ds ++ d ∷ []))
head-stays i ds d None e k = same-keeps None (did_at i ds) _ (did-other i ds d (e refl)) k
head-stays i ds d (Some c) e k = let s = keeps-some c (did_at i ds) k in same-keeps (Some c) (did_at i ds) _ (did-kept i ds d s.it [] s.is) k

-- one more step changes nothing where none is missing at its index
pub stays : (i : ℕ) (ds : List DidStep) (d : DidStep) (os : List (Option Came)) → ((j : ℕ) → slice_get os j ≡ Some None → eqb (i + j) d.index ≡ false) → KeptFrom i ds os → KeptFrom i (ds ++ d ∷ []) os
stays i ds d [] e k = tt
stays i ds d (o ∷ os) e k = (
  head-stays i ds d o (λ n. ap (λ m. eqb m d.index) (omega arith) ∙ e 0 (ap (λ x. Some x) n)) k.0,
  stays (i + 1) ds d os (λ j n. ap (λ m. eqb m d.index) (omega arith) ∙ e (suc j) n) k.1,
)

different : (i j : ℕ) → i ≢ j → eqb i j ≡ false
different i j ne = go (eqb i j) refl
  where
    go : (b : Bool) → eqb i j ≡ b → eqb i j ≡ false
    go false e = e
    go true e = absurd (ne (eqb-true i j e))

-- one more step is kept at its index where none is kept there
pub fills : (i j : ℕ) (ds : List DidStep) (d : DidStep) (c : Came) (os : List (Option Came)) → slice_get os j ≡ Some None → d.index ≡ i + j → Keeps (Some c) (d ∷ []) → KeptFrom i ds os
    → KeptFrom i (ds ++ d ∷ []) (set os j (Some c))
fills i j ds d c [] at e w k = cc at
fills i zero ds d c (o ∷ os) at e w k = (
  (let free : o ≡ None = cc at in same-keeps (Some c) (d ∷ []) _ (did-first i ds d (eq-eqb i d.index (omega (arith, e))) (keeps-none (did_at i ds) (subst (λ x. Keeps x (did_at i ds)) free k.0))) w),
  stays (i + 1) ds d os (λ m n. different (i + 1 + m) d.index (λ q. absurd (omega (arith, q, e)))) k.1,
)
fills i (suc j) ds d c (o ∷ os) at e w k = (
  same-keeps o (did_at i ds) _ (did-other i ds d (different i d.index (λ q. absurd (omega (arith, q, e))))) k.0,
  fills (i + 1) j ds d c os at (omega (arith, e)) w k.1,
)

-- so where the place of the step is taken, or it has none
pub taken : (ds : List DidStep) (d : DidStep) (j : ℕ) (os : List (Option Came)) → d.index ≡ j → (slice_get os j ≡ Some None → ⊥) → KeptFrom 0 ds os → KeptFrom 0 (ds ++ d ∷ []) os
taken ds d j os e free k = stays 0 ds d os (λ i n. different (0 + i) d.index (λ q. free (subst (λ m. slice_get os m ≡ Some None) (omega (arith, q, e)) n))) k

pub placed : (ds : List DidStep) (d : DidStep) (j : ℕ) (c : Came) (os : List (Option Came)) → d.index ≡ j → slice_get os j ≡ Some None → c.price ≡ d.price → c.fault ≡ d.fault → line_items c.line ≡ d.line → KeptFrom 0 ds os
    → KeptFrom 0 (ds ++ d ∷ []) (set os j (Some c))
placed ds d j c os e free p f l k = fills 0 j ds d c os free (omega (arith, e)) (p, f, l) k

-- nothing is kept where nothing is done
pub none-kept : (i n : ℕ) → KeptFrom i [] (replicate n None)
none-kept i zero = tt
none-kept i (suc n) = (tt, none-kept (i + 1) n)

-- whether a step is done
pub not-did : (i : ℕ) (ds : List DidStep) → did_at i ds ≡ [] → is_did i ds ≡ false
not-did i [] n = refl
not-did i (x ∷ xs) n = go (eqb i x.index) refl (not-did i xs) n
  where
    go : (b : Bool) → eqb i x.index ≡ b → (did_at i xs ≡ [] → is_did i xs ≡ false) → cond b (x ∷ []) (did_at i xs) ≡ [] → is_did i (x ∷ xs) ≡ false
    go true e next m = cc m
    go false e next m = ap (λ b. b || list_any (λ d. eqb i d.index) xs) e ∙ next m

pub was-did : (i : ℕ) (ds : List DidStep) (y : DidStep) (ys : List DidStep) → did_at i ds ≡ y ∷ ys → is_did i ds ≡ true
was-did i [] y ys n = cc n
was-did i (x ∷ xs) y ys n = go (eqb i x.index) refl (was-did i xs y ys) n
  where
    go : (b : Bool) → eqb i x.index ≡ b → (did_at i xs ≡ y ∷ ys → is_did i xs ≡ true) → cond b (x ∷ []) (did_at i xs) ≡ y ∷ ys → is_did i (x ∷ xs) ≡ true
    go true e next m = ap (λ b. b || list_any (λ d. eqb i d.index) xs) e
    go false e next m = ap (λ b. b || list_any (λ d. eqb i d.index) xs) e ∙ next m

-- a list of this length has nothing
pub empty : {A : Type 0} (xs : List A) → length xs ≡ 0 → xs ≡ []
empty [] e = refl
empty (x ∷ xs) e = cc e

pub append-none : {A : Type 0} (xs : List A) → xs ++ [] ≡ xs
append-none [] = refl
append-none (x ∷ xs) = ap (λ l. x ∷ l) (append-none xs)
