-- Ids that stand at their places.
use Rattle.std.proofs.Common.{◌≡◌, ◌≢◌, ◌≤◌, ◌<◌, ℕ, zero, suc, ◌+◌, ◌-◌, arith, length, get_or, Bool, true, false, cond, ◌||◌, List, [], ◌∷◌, ◌++◌, refl, sym, ◌∙◌, ap, subst, inl, inr}
use Rattle.std.specs.Prelude.{◌⊎◌, Option, None, Some, IfSome, is_some}
use Rattle.std.specs.List.{list_any, swap_remove}
use Rattle.std.specs.Option.{option_map}
use Rattle.std.specs.Str.{bytes_eq}
use Rattle.std.specs.BTreeMap.{BTreeMap, UpdatesBy, get, is_at}
use Rattle.std.specs.Ordering.{nat_cmp}
use Rattle.std.specs.Cmp.Lexicographic.{slice_cmp}
use Rattle.std.specs.declared.cmp.Ordering.{Ordering}
use Rattle.std.proofs.lemmas.List.{length-map, map-append}
use Rattle.std.proofs.lemmas.List.Sorted.{IsPermutation-swap_remove, list_any-IsPermutation}
use Rattle.std.proofs.lemmas.Map.Text.{is_eq-slice_cmp}
use Rattle.std.proofs.lemmas.Option.{slice_get-map, slice_get_within, slice_get-get_or}
use Rattle.calculus.specs.declared.ids.Digest.{Digest}
use Rattle.calculus.specs.Steps.{is_one_of}
use Rattle.events.proofs.Counts.{same_bytes, bytes_same}
use Rattle.row_table.specs.Ids.{bytes_of, StandsAt, HasPlace, TellsAll, TellsOthers}

-- how ids compare
abbrev by_id : List ℕ → List ℕ → Ordering
by_id = slice_cmp nat_cmp

-- an id is one of these digests
pub has-any : (x : List ℕ) (ds : List Digest) → is_one_of x (bytes_of ds) ≡ list_any (λ d. bytes_eq x d.0) ds
has-any x [] = refl
has-any x (d ∷ ds) = ap (λ b. bytes_eq x d.0 || b) (has-any x ds)

-- what stands somewhere is there
pub there : (xs : List (List ℕ)) (i : ℕ) (x : List ℕ) → StandsAt xs i x → is_one_of x xs ≡ true
there [] i x h = cc h
there (y ∷ ys) zero x h = ap (λ b. b || is_one_of x ys) (same_bytes x y (sym (cc h)))
there (y ∷ ys) (suc i) x h = go (bytes_eq x y) (there ys i x h)
  where
    go : (b : Bool) → is_one_of x ys ≡ true → b || is_one_of x ys ≡ true
    go true e = refl
    go false e = e

-- a place that is found is one of the id
pub found-there : (o : Option ℕ) (xs : List (List ℕ)) (x : List ℕ) → IfSome o (λ i. StandsAt xs i x) → is_some o ≡ true → is_one_of x xs ≡ true
found-there (Some i) xs x h e = there xs i x h
found-there None xs x h e = cc e

-- what stands somewhere stands there among more
pub more-stand : (xs ys : List (List ℕ)) (i : ℕ) (x : List ℕ) → StandsAt xs i x → StandsAt (xs ++ ys) i x
more-stand [] ys i x h = cc h
more-stand (z ∷ zs) ys zero x h = h
more-stand (z ∷ zs) ys (suc i) x h = more-stand zs ys i x h

pub last-stands : (xs : List (List ℕ)) (x : List ℕ) → StandsAt (xs ++ x ∷ []) (length xs) x
last-stands [] x = refl
last-stands (y ∷ ys) x = last-stands ys x

pub more-there : (xs ys : List (List ℕ)) (x : List ℕ) → is_one_of x xs ≡ true → is_one_of x (xs ++ ys) ≡ true
more-there [] ys x h = cc h
more-there (y ∷ zs) ys x h = go (bytes_eq x y) h (more-there zs ys x)
  where
    go : (b : Bool) → b || is_one_of x zs ≡ true → (is_one_of x zs ≡ true → is_one_of x (zs ++ ys) ≡ true) → b || is_one_of x (zs ++ ys) ≡ true
    go true e f = refl
    go false e f = f e

pub bytes-length : (ds : List Digest) → length (bytes_of ds) ≡ length ds
bytes-length ds = length-map ds (λ (d : Digest). d.0)

-- one more digest
bytes-append : (ds es : List Digest) → bytes_of (ds ++ es) ≡ bytes_of ds ++ bytes_of es
bytes-append ds es = map-append (λ (d : Digest). d.0) ds es

pub put-there : (ls ns : List Digest) (d : Digest) → ns ≡ ls ++ d ∷ [] → is_one_of d.0 (bytes_of ns) ≡ true
put-there ls ns d e = ap (λ ds. is_one_of d.0 (bytes_of ds)) e ∙ ap (is_one_of d.0) (bytes-append ls (d ∷ [])) ∙ there (bytes_of ls ++ d.0 ∷ []) (length (bytes_of ls)) d.0 (last-stands (bytes_of ls) d.0)

pub put-kept : (ls ns : List Digest) (d : Digest) → ns ≡ ls ++ d ∷ [] → (x : List ℕ) → is_one_of x (bytes_of ls) ≡ true → is_one_of x (bytes_of ns) ≡ true
put-kept ls ns d e x h = ap (λ ds. is_one_of x (bytes_of ds)) e ∙ ap (is_one_of x) (bytes-append ls (d ∷ [])) ∙ more-there (bytes_of ls) (d.0 ∷ []) x h

pub put-list : (m : BTreeMap (List ℕ) ℕ) (ls ns : List Digest) (d : Digest) → ns ≡ ls ++ d ∷ [] → TellsAll m (bytes_of ls ++ d.0 ∷ []) → TellsAll m (bytes_of ns)
put-list m ls ns d e t = subst (λ ds. TellsAll m (bytes_of ds)) (sym e) (subst (TellsAll m) (sym (bytes-append ls (d ∷ []))) t)

-- a digest at a place
pub stands : (ds : List Digest) (i : ℕ) (d : Digest) → i < length ds → StandsAt (bytes_of ds) i (get_or ds i d).0
stands ds i d h = slice_get-map (λ (e : Digest). e.0) ds i ∙ ap (option_map (λ (e : Digest). e.0)) (slice_get-get_or ds i d h)

pub within : (ds : List Digest) (i : ℕ) (x : List ℕ) → StandsAt (bytes_of ds) i x → i < length ds
within ds i x h = subst (λ n. i < n) (bytes-length ds) (slice_get_within (bytes_of ds) i x h)

-- two ids at one place are one
pub one-stands : (xs : List (List ℕ)) (i : ℕ) (x y : List ℕ) → StandsAt xs i x → StandsAt xs i y → x ≡ y
one-stands xs i x y e f = cc (e, f)

-- an id stands where it is told to
pub told : (m : BTreeMap (List ℕ) ℕ) (xs : List (List ℕ)) (x : List ℕ) → TellsAll m xs → IfSome (get by_id m x) (λ i. StandsAt xs i x)
told m xs x t = go (get by_id m x) refl
  where
    go : (o : Option ℕ) → get by_id m x ≡ o → IfSome o (λ i. StandsAt xs i x)
    go (Some i) e = t x i e
    go None e = tt

-- what a change at one id leaves
pub changes : (old new : BTreeMap (List ℕ) ℕ) (x : List ℕ) (w : Option ℕ) → UpdatesBy by_id (by_id x) old new w → (y : List ℕ) (i : ℕ) → HasPlace new y i → ((y ≡ x) × (w ≡ Some i)) ⊎ ((y ≢ x) × HasPlace old y i)
changes old new x w u y i h = go (is_at (by_id x) y) refl (sym (u.0 y) ∙ h)
  where
    go : (b : Bool) → is_at (by_id x) y ≡ b → cond b w (get by_id old y) ≡ Some i → ((y ≡ x) × (w ≡ Some i)) ⊎ ((y ≢ x) × HasPlace old y i)
    go true e g = inl (sym (bytes_same x y (sym (is_eq-slice_cmp x y) ∙ e)), g)
    go false e g = inr ((λ s. no (sym e ∙ is_eq-slice_cmp x y ∙ same_bytes x y (sym s))), g)
      where
        no : false ≡ true → ⊥
        no z = cc z

-- the place of an id is noted
pub noted : (old new : BTreeMap (List ℕ) ℕ) (x : List ℕ) (p : ℕ) → UpdatesBy by_id (by_id x) old new (Some p) → TellsOthers old new x p
noted old new x p u y i h = elim (changes old new x (Some p) u y i h) [ inl a ↦ inl (a.0, cc a.1) | inr b ↦ inr b ]

-- it is taken out
pub taken : (old new : BTreeMap (List ℕ) ℕ) (x : List ℕ) → UpdatesBy by_id (by_id x) old new None → (y : List ℕ) (i : ℕ) → HasPlace new y i → (y ≢ x) × HasPlace old y i
taken old new x u y i h = elim (changes old new x None u y i h) [ inl a ↦ cc a.1 | inr b ↦ b ]

pub none-left : (old new : BTreeMap (List ℕ) ℕ) (x : List ℕ) (p : ℕ) → UpdatesBy by_id (by_id x) old new None → TellsOthers old new x p
none-left old new x p u y i h = inr (taken old new x u y i h)

-- there is none
pub none-noted : (old : BTreeMap (List ℕ) ℕ) (x : List ℕ) (p : ℕ) → get by_id old x ≡ None → TellsOthers old old x p
none-noted old x p e y i h = inr ((λ s. no (sym e ∙ ap (get by_id old) (sym s) ∙ h)), h)
  where
    no : None ≡ Some i → ⊥
    no z = cc z

-- one more id
pub more-told : (m : BTreeMap (List ℕ) ℕ) (xs ys : List (List ℕ)) → TellsAll m xs → TellsAll m (xs ++ ys)
more-told m xs ys t x i h = more-stand xs ys i x (t x i h)

pub put-told : (old new : BTreeMap (List ℕ) ℕ) (xs : List (List ℕ)) (x : List ℕ) (n : ℕ) → UpdatesBy by_id (by_id x) old new (Some n) → TellsAll old xs → n ≡ length xs → TellsAll new (xs ++ x ∷ [])
put-told old new xs x n u t e y i h =
    elim (changes old new x (Some n) u y i h) [
      | inl a ↦ let f : length xs ≡ i = sym e ∙ cc a.1 in subst (λ j. StandsAt (xs ++ x ∷ []) j y) f (last-stands xs x ∙ ap Some (sym a.0))
      | inr b ↦ more-stand xs (x ∷ []) i y (t y i b.1)
    ]

-- an id goes, and the last one takes its place
module _ (ls ns : List Digest) (p : ℕ) (id : List ℕ) (at : StandsAt (bytes_of ls) p id) (len : length ns + 1 ≡ length ls) (others : (k : ℕ) (d : Digest) → k ≢ p → k + 1 < length ls → get_or ns k d ≡ get_or ls k d) where
  pub still-stands : (y : List ℕ) (i : ℕ) → y ≢ id → StandsAt (bytes_of ls) i y → (i + 1 ≡ length ls → ⊥) → StandsAt (bytes_of ns) i y
  still-stands y i n h l =
      let d : Digest = record { 0 = y } in
      let w = within ls i y h in
      let s : i + 1 < length ls = omega (arith, l, w) in
      let a : i ≢ p = λ e. n (one-stands (bytes_of ls) p y id (subst (λ j. StandsAt (bytes_of ls) j y) e h) at) in
      let m : i < length ns = omega (arith, len, s) in
      stands ns i d m ∙ ap (λ (e : Digest). Some e.0) (others i d a s) ∙ ap Some (one-stands (bytes_of ls) i (get_or ls i d).0 y (stands ls i d w) h)

  -- it was the last one
  pub last-gone : (old new : BTreeMap (List ℕ) ℕ) → UpdatesBy by_id (by_id id) old new None → TellsAll old (bytes_of ls) → length ns ≤ p → TellsAll new (bytes_of ns)
  last-gone old new u t e y i h =
      let b = taken old new id u y i h in
      let w = within ls p id at in
      still-stands y i b.0 (t y i b.1) (λ l. let f : i ≡ p = omega (arith, e, len, l, w) in b.0 (one-stands (bytes_of ls) p y id (subst (λ j. StandsAt (bytes_of ls) j y) f (t y i b.1)) at))

  -- it was another one
  pub last-moved : (old mid new : BTreeMap (List ℕ) ℕ) (m : Digest) → UpdatesBy by_id (by_id id) old mid None → TellsOthers mid new m.0 p → TellsAll old (bytes_of ls) → p < length ns
      → m ≡ get_or ns p m → get_or ns p m ≡ get_or ls (length ls - 1) m → TellsAll new (bytes_of ns)
  last-moved old mid new m u v t e f g y i h =
      elim (v y i h) [
        | inl a ↦ subst (λ j. StandsAt (bytes_of ns) j y) (sym a.1) (stands ns p m e ∙ ap (λ (z : Digest). Some z.0) (sym f) ∙ ap Some (sym a.0))
        | inr b ↦
            let c = taken old mid id u y i b.1 in
            let s = t y i c.1 in
            let w = within ls i y s in
            still-stands y i c.0 s (λ l.
            let q : length ls - 1 ≡ i = omega (arith, l) in
            b.0 (sym (one-stands (bytes_of ls) i (get_or ls i m).0 y (stands ls i m w) s) ∙ ap (λ j. (get_or ls j m).0) (sym q) ∙ ap (λ (z : Digest). z.0) (sym g ∙ sym f)))
      ]

-- the others are still there
pub left-there : (ls : List Digest) (p : ℕ) (r : Digest) (id : List ℕ) → StandsAt (bytes_of ls) p id → r ≡ get_or ls p r → (y : List ℕ) → y ≢ id → is_one_of y (bytes_of ls) ≡ true → is_one_of y (bytes_of (swap_remove ls p r)) ≡ true
left-there ls p r id at e y n h =
    let w = within ls p id at in
    go (bytes_eq y r.0) refl (sym (list_any-IsPermutation (λ d. bytes_eq y d.0) ls (r ∷ swap_remove ls p r) (IsPermutation-swap_remove ls p r w e)) ∙ sym (has-any y ls) ∙ h)
  where
    go : (b : Bool) → bytes_eq y r.0 ≡ b → b || list_any (λ d. bytes_eq y d.0) (swap_remove ls p r) ≡ true → is_one_of y (bytes_of (swap_remove ls p r)) ≡ true
    go true f g = absurd (n (bytes_same y r.0 f ∙ ap (λ (z : Digest). z.0) e ∙ one-stands (bytes_of ls) p (get_or ls p r).0 id (stands ls p r (within ls p id at)) at))
    go false f g = has-any y (swap_remove ls p r) ∙ g
