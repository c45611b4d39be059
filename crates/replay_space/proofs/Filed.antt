-- Uses and counts of steps as they are filed.
use Rattle.std.proofs.Common.{◌≡◌, ◌≤◌, ◌<◌, ℕ, suc, ◌+◌, Bool, true, false, cond, ◌&&◌, ◌||◌, List, [], ◌∷◌, ◌++◌, length, map as each, refl, sym, ◌∙◌, ap, arith, Some, append_assoc, append-nil, Vec, Global, take, get_or}
use Rattle.std.specs.Prelude.{Option, count_by, slice_get}
use Rattle.std.specs.Str.{bytes_eq}
use Rattle.std.specs.Map.{lookup}
use Rattle.std.specs.Option.{unwrap_or}
use Rattle.std.specs.Ordering.{nat_cmp, is_eq, ordering_then}
use Rattle.std.specs.Cmp.Lexicographic.{slice_cmp}
use Rattle.std.specs.declared.cmp.Ordering.{Ordering}
use Rattle.std.specs.declared.cmp.Ordering.TheVariants.{Less, Equal, Greater}
use Rattle.std.specs.BTreeMap.{insert_entry}
use Rattle.std.proofs.lemmas.Map.Text.{is_eq-slice_cmp}
use Rattle.std.proofs.lemmas.Map.Lookups.{exact_bytes}
use Rattle.std.proofs.lemmas.Slice.Eq.{bytes_eq-Decides}
use Rattle.std.proofs.Math.Seq.{take-suc}
use Rattle.std.proofs.lemmas.List.{map-append, length-map, length-take-le}
use Rattle.std.proofs.lemmas.List.Sums.{sum_by-append, sum_by-cons}
use Rattle.calculus.specs.Log.{Step}
use Rattle.calculus.specs.Steps.{is_one_of, same_ids, same_meeting}
use Rattle.event_log.specs.declared.log.LogStep.{LogStep}
use Rattle.event_log.specs.View.{step_of, steps_of}
use Rattle.racing_replays.specs.Replaying.{names}
use Rattle.racing_replays.specs.Counted.{names_id, uses}
use Rattle.replay_space.specs.Rigs.{Numbered, Count, number_of, AreUses, counted, AreCounts, repeats_after}
use Rattle.replay_space.proofs.Filing.{found-put}

abbrev pub order : List ℕ → List ℕ → Ordering
order x y = slice_cmp nat_cmp x y

-- uses of steps one by one
pub uses-more : (x : List ℕ) (j : ℕ) (ss : List Step) (s : Step) → uses x j (ss ++ s ∷ []) ≡ uses x j ss ++ cond (names_id x s) ((j + length ss) ∷ []) []
uses-more x j [] s = go (names_id x s) (j + 0) plain
  where
    plain : j ≡ j + 0
    plain = omega arith

    go : (b : Bool) (k : ℕ) → j ≡ k → cond b (j ∷ []) [] ≡ cond b (k ∷ []) []
    go b k e = ap (λ n. cond b (n ∷ []) []) e
uses-more x j (t ∷ ss) s = go (names_id x t) _ _ (cond (names_id x s) ((j + suc (length ss)) ∷ []) []) (ap (λ n. uses x (suc j) ss ++ cond (names_id x s) (n ∷ []) []) one-less) (uses-more x (suc j) ss s)
  where
    one-less : suc j + length ss ≡ j + suc (length ss)
    one-less = omega arith

    go : (b : Bool) (us vs ws : List ℕ) → vs ≡ uses x (suc j) ss ++ ws → us ≡ vs → cond b (j ∷ us) us ≡ cond b (j ∷ uses x (suc j) ss) (uses x (suc j) ss) ++ ws
    go true us vs ws e f = ap (λ l. j ∷ l) (f ∙ e)
    go false us vs ws e f = f ∙ e

-- a use is below the number of steps
pub uses-below : (x : List ℕ) (j : ℕ) (ss : List Step) (l : List ℕ) (i : ℕ) → uses x j ss ≡ l ++ i ∷ [] → i < j + length ss
uses-below x j [] l i e = absurd (nothing l e)
  where
    nothing : (l : List ℕ) → [] ≡ l ++ i ∷ [] → ⊥
    nothing [] e = cc
    nothing (m ∷ l) e = cc
uses-below x j (s ∷ ss) l i e = go (names_id x s) l e (λ m f. uses-below x (suc j) ss m i f)
  where
    go : (b : Bool) (l : List ℕ) → cond b (j ∷ uses x (suc j) ss) (uses x (suc j) ss) ≡ l ++ i ∷ [] → ((m : List ℕ) → uses x (suc j) ss ≡ m ++ i ∷ [] → i < suc j + length ss) → i < j + suc (length ss)
    go true [] f next = let h : j ≡ i = cc f in omega (arith, h)
    go true (m ∷ l) f next = omega (arith, next l (cc f))
    go false l f next = omega (arith, next l f)

-- an id is one of these with one more
pub one-more-of : (x : List ℕ) (ids : List (List ℕ)) (y : List ℕ) → is_one_of x (ids ++ y ∷ []) ≡ is_one_of x ids || bytes_eq x y
one-more-of x [] y = go (bytes_eq x y)
  where
    go : (b : Bool) → b || false ≡ b
    go true = refl
    go false = refl
one-more-of x (z ∷ ids) y = go (bytes_eq x z) (one-more-of x ids y)
  where
    go : (b : Bool) → is_one_of x (ids ++ y ∷ []) ≡ is_one_of x ids || bytes_eq x y → b || is_one_of x (ids ++ y ∷ []) ≡ (b || is_one_of x ids) || bytes_eq x y
    go true e = refl
    go false e = e

same-key : (id q : List ℕ) → order id q ≡ Equal → (x : List ℕ) → bytes_eq x id ≡ bytes_eq x q
same-key id q s x = ap (bytes_eq x) (exact_bytes id q s)

-- equal ids are one key
pub one-key : (x id q : List ℕ) → bytes_eq x id ≡ true → bytes_eq x q ≡ true → id ≡ q
one-key x id q a b = sym ((bytes_eq-Decides x id).0 a) ∙ (bytes_eq-Decides x q).0 b

-- is_eq
pub equal-is : (id q : List ℕ) → id ≡ q → is_eq (order id q) ≡ true
equal-is id q e = is_eq-slice_cmp id q ∙ (bytes_eq-Decides id q).1 e

pub key-is : (id q : List ℕ) → is_eq (order id q) ≡ true → id ≡ q
key-is id q e = (bytes_eq-Decides id q).0 (sym (is_eq-slice_cmp id q) ∙ e)

is-equal : (o : Ordering) → is_eq o ≡ true → o ≡ Equal
is-equal Equal e = refl
is-equal Less e = absurd (cc)
is-equal Greater e = absurd (cc)

-- the number of an id after a put
pub number-put : (x id : List ℕ) (n : ℕ) (es : List Numbered) → number_of (insert_entry order es id n) x ≡ cond (bytes_eq x id) (Some n) (number_of es x)
number-put x id n es = found-put (bytes_eq x) order id n (λ q s. same-key id q s x) (λ q a b. is-equal (order id q) (equal-is id q (one-key x id q a b))) es

-- what is found is the number
pub found-number : (id : List ℕ) (es : List Numbered) (o : Option ℕ) → o ≡ lookup (λ k. is_eq (order id k)) es → o ≡ number_of es id
found-number id es o e = e ∙ same es
  where
    same : (es : List Numbered) → lookup (λ k. is_eq (order id k)) es ≡ lookup (bytes_eq id) es
    same [] = refl
    same (d ∷ ds) = ap (λ b. cond b (Some d.1) (lookup (λ k. is_eq (order id k)) ds)) (is_eq-slice_cmp id d.0) ∙ ap (λ o. cond (bytes_eq id d.0) (Some d.1) o) (same ds)

-- a list with one more index for an id: the lists are right with this id as one more
pub uses-with : (before : List Step) (ids : List (List ℕ)) (id : List ℕ) (u v : List ℕ → List ℕ) (l : List ℕ) → AreUses before ids u → l ≡ uses id 0 before ++ length before ∷ []
    → ((x : List ℕ) → v x ≡ cond (bytes_eq x id) l (u x)) → AreUses before (ids ++ id ∷ []) v
uses-with before ids id u v l h e f x = f x ∙ go (bytes_eq x id) refl (is_one_of x ids) (h x) ∙ ap (λ b. uses x 0 before ++ cond b (length before ∷ []) []) (sym (one-more-of x ids id))
  where
    go : (b : Bool) → bytes_eq x id ≡ b → (c : Bool) → u x ≡ uses x 0 before ++ cond c (length before ∷ []) [] → cond b l (u x) ≡ uses x 0 before ++ cond (c || b) (length before ∷ []) []
    go true s true g = e ∙ ap (λ y. uses y 0 before ++ length before ∷ []) (sym ((bytes_eq-Decides x id).0 s))
    go true s false g = e ∙ ap (λ y. uses y 0 before ++ length before ∷ []) (sym ((bytes_eq-Decides x id).0 s))
    go false s true g = g
    go false s false g = g

-- an index is added to the list of an id
pub added : (before : List Step) (ids : List (List ℕ)) (id : List ℕ) (index : ℕ) (u v : List ℕ → List ℕ) (old new : List ℕ) → length before ≡ index → AreUses before ids u → old ≡ u id
    → ((l : List ℕ) → old ≡ l ++ index ∷ [] → new ≡ old) → (((l : List ℕ) → old ≡ l ++ index ∷ [] → ⊥) → new ≡ old ++ index ∷ [])
    → ((x : List ℕ) → v x ≡ cond (bytes_eq x id) new (u x)) → AreUses before (ids ++ id ∷ []) v
added before ids id index u v old new place h o there more f = uses-with before ids id u v new h (go (is_one_of id ids) (o ∙ h id)) f
  where
    mine : uses id 0 before ++ index ∷ [] ≡ uses id 0 before ++ length before ∷ []
    mine = ap (λ n. uses id 0 before ++ n ∷ []) (sym place)

    below : (l : List ℕ) → old ≡ l ++ index ∷ [] → old ≡ uses id 0 before → ⊥
    below l e g = omega (arith, uses-below id 0 before l index (sym g ∙ e), place)

    go : (b : Bool) → old ≡ uses id 0 before ++ cond b (length before ∷ []) [] → new ≡ uses id 0 before ++ length before ∷ []
    go true e = let at_end : old ≡ uses id 0 before ++ index ∷ [] = e ∙ sym mine in there (uses id 0 before) at_end ∙ e
    go false e = let plain : old ≡ uses id 0 before = e ∙ append-nil (uses id 0 before) in more (λ l i. below l i plain) ∙ ap (λ u. u ++ index ∷ []) plain ∙ mine

-- what follows a step that names these ids
pub uses-whole : (before : List Step) (s : Step) (u : List ℕ → List ℕ) → AreUses before (names s) u → AreUses (before ++ s ∷ []) [] u
uses-whole before s u h x = h x ∙ ap (λ n. uses x 0 before ++ cond (names_id x s) (n ∷ []) []) plain ∙ sym (uses-more x 0 before s) ∙ sym (append-nil (uses x 0 (before ++ s ∷ [])))
  where
    plain : length before ≡ 0 + length before
    plain = omega arith

-- lists of ids are in the order of their codes, as keys
abbrev pub key_order : List (List ℕ) → List (List ℕ) → Ordering
key_order xs ys = slice_cmp order xs ys

pub keys-alike : (xs ys : List (List ℕ)) → is_eq (key_order xs ys) ≡ same_ids xs ys
keys-alike [] [] = refl
keys-alike [] (y ∷ ys) = refl
keys-alike (x ∷ xs) [] = refl
keys-alike (x ∷ xs) (y ∷ ys) = go (order x y) (bytes_eq x y) (is_eq-slice_cmp x y) (keys-alike xs ys)
  where
    go : (o : Ordering) (b : Bool) → is_eq o ≡ b → is_eq (key_order xs ys) ≡ same_ids xs ys → is_eq (ordering_then o (key_order xs ys)) ≡ b && same_ids xs ys
    go Equal b e h = h ∙ ap (λ c. c && same_ids xs ys) e
    go Less b e h = ap (λ c. c && same_ids xs ys) e
    go Greater b e h = ap (λ c. c && same_ids xs ys) e

pub same-ids-are : (xs ys : List (List ℕ)) → same_ids xs ys ≡ true → xs ≡ ys
same-ids-are [] [] e = refl
same-ids-are [] (y ∷ ys) e = absurd (cc)
same-ids-are (x ∷ xs) [] e = absurd (cc)
same-ids-are (x ∷ xs) (y ∷ ys) e = go (bytes_eq x y) refl e (same-ids-are xs ys)
  where
    go : (b : Bool) → bytes_eq x y ≡ b → b && same_ids xs ys ≡ true → (same_ids xs ys ≡ true → xs ≡ ys) → x ∷ xs ≡ y ∷ ys
    go false s h next = absurd (cc)
    go true s h next = ap (λ z. z ∷ xs) ((bytes_eq-Decides x y).0 s) ∙ ap (λ zs. y ∷ zs) (next h)

pub same-ids-self : (xs : List (List ℕ)) → same_ids xs xs ≡ true
same-ids-self [] = refl
same-ids-self (x ∷ xs) = ap (λ b. b && same_ids xs xs) ((bytes_eq-Decides x x).1 refl) ∙ same-ids-self xs

-- a number that is found
pub found-count : (key : List (List ℕ)) (es : List Count) (o : Option ℕ) → o ≡ lookup (λ k. is_eq (key_order key k.items)) es → unwrap_or o 0 ≡ unwrap_or (lookup (λ k. same_ids key k.items) es) 0
found-count key es o e = ap (λ p. unwrap_or p 0) (e ∙ same es)
  where
    same : (es : List Count) → lookup (λ k. is_eq (key_order key k.items)) es ≡ lookup (λ k. same_ids key k.items) es
    same [] = refl
    same (d ∷ ds) = ap (λ b. cond b (Some d.1) (lookup (λ k. is_eq (key_order key k.items)) ds)) (keys-alike key d.0.items) ∙ ap (λ o. cond (same_ids key d.0.items) (Some d.1) o) (same ds)

-- the order of keys
abbrev pub vec_order : Vec (List ℕ) Global → Vec (List ℕ) Global → Ordering
vec_order a b = key_order a.items b.items

-- what is counted after a put
pub counted-put : (u : Step) (key : Vec (List ℕ) Global) (n : ℕ) (es : List Count) → counted u (insert_entry vec_order es key n) ≡ cond (same_ids (names u) key.items) n (counted u es)
counted-put u key n es = ap (λ o. unwrap_or o 0) (found-put (λ k. same_ids (names u) k.items) vec_order key n same one es) ∙ go (same_ids (names u) key.items)
  where
    ids : (q : Vec (List ℕ) Global) → is_eq (key_order key.items q.items) ≡ true → key.items ≡ q.items
    ids q e = same-ids-are key.items q.items (sym (keys-alike key.items q.items) ∙ e)

    same : (q : Vec (List ℕ) Global) → vec_order key q ≡ Equal → same_ids (names u) key.items ≡ same_ids (names u) q.items
    same q s = ap (same_ids (names u)) (ids q (ap is_eq s))

    one : (q : Vec (List ℕ) Global) → same_ids (names u) key.items ≡ true → same_ids (names u) q.items ≡ true → vec_order key q ≡ Equal
    one q a b = is-equal (vec_order key q) (keys-alike key.items q.items ∙ ap (λ l. same_ids l q.items) (sym (same-ids-are (names u) key.items a)) ∙ b)

    go : (b : Bool) → unwrap_or (cond b (Some n) (lookup (λ k. same_ids (names u) k.items) es)) 0 ≡ cond b n (counted u es)
    go true = refl
    go false = refl

-- one more thing in a count
pub count-more : {A : Type 0} (q : A → Bool) (xs : List A) (x : A) (b : Bool) → q x ≡ b → count_by q (xs ++ x ∷ []) ≡ count_by q xs + cond b 1 0
count-more q xs x b f = omega (arith, sum_by-append (λ y. cond (q y) 1 0) xs (x ∷ []), sum_by-cons (λ y. cond (q y) 1 0) x [], ap {B = ℕ} (λ c. cond c 1 0) f)

-- one more step is counted
pub counts-more : (log before : List Step) (s : Step) (key : Vec (List ℕ) Global) (n : ℕ) (es : List Count) → AreCounts log before es → key.items ≡ names s → n ≡ suc (count_by (same_meeting s) before)
    → AreCounts log (before ++ s ∷ []) (insert_entry vec_order es key n)
counts-more log before s key n es h k e u w =
    counted-put u key n es ∙ ap (λ l. cond (same_ids (names u) l) n (counted u es)) k ∙ go (same_ids (names u) (names s)) refl
  where
    go : (b : Bool) → same_meeting u s ≡ b → cond b n (counted u es) ≡ count_by (same_meeting u) (before ++ s ∷ [])
    go true f = omega (arith, e, ap (λ l. count_by (λ t. same_ids l (names t)) before) (same-ids-are (names u) (names s) f), count-more (same_meeting u) before s true f)
    go false f = omega (arith, h u w, count-more (same_meeting u) before s false f)

-- repeats one by one
pub repeats-more : (before ss : List Step) (s : Step) → repeats_after before (ss ++ s ∷ []) ≡ repeats_after before ss ++ count_by (same_meeting s) (before ++ ss) ∷ []
repeats-more before [] s = ap (λ l. count_by (same_meeting s) l ∷ []) (sym (append-nil before))
repeats-more before (t ∷ ss) s = ap (λ l. count_by (same_meeting t) before ∷ l) (repeats-more (before ++ t ∷ []) ss s ∙ ap (λ l. repeats_after (before ++ t ∷ []) ss ++ count_by (same_meeting s) l ∷ []) (append_assoc before (t ∷ []) ss))

pub repeats-many : (before ss : List Step) → length (repeats_after before ss) ≡ length ss
repeats-many before [] = refl
repeats-many before (t ∷ ss) = ap suc (repeats-many (before ++ t ∷ []) ss)

pub repeats-at : (pre before : List Step) (s : Step) (after : List Step) → slice_get (repeats_after pre (before ++ s ∷ after)) (length before) ≡ Some (count_by (same_meeting s) (pre ++ before))
repeats-at pre [] s after = ap (λ l. Some (count_by (same_meeting s) l)) (sym (append-nil pre))
repeats-at pre (t ∷ before) s after = repeats-at (pre ++ t ∷ []) before s after ∙ ap (λ l. Some (count_by (same_meeting s) l)) (append_assoc pre (t ∷ []) before)

-- one more member of a list is taken
pub mapped-more : {A B : Type 0} (f : A → B) (xs : List A) (i : ℕ) (d : A) → i < length xs → each f (take (i + 1) xs) ≡ each f (take i xs) ++ f (get_or xs i d) ∷ []
mapped-more f xs i d h = ap (λ n. each f (take n xs)) one ∙ ap (each f) (take-suc xs i d h) ∙ map-append f (take i xs) (get_or xs i d ∷ [])
  where
    one : i + 1 ≡ suc i
    one = omega arith

-- how many of these steps there are
pub many : (xs : List LogStep) (i : ℕ) → i < length xs → length (steps_of (take i xs)) ≡ i
many xs i h = omega (arith, length-map (take i xs) step_of, length-take-le i xs (omega (arith, h)))

-- a count is at most the length
pub count-le : {A : Type 0} (q : A → Bool) (xs : List A) → count_by q xs ≤ length xs
count-le q [] = omega arith
count-le q (x ∷ xs) = go (q x) refl (count-le q xs)
  where
    go : (b : Bool) → q x ≡ b → count_by q xs ≤ length xs → count_by q (x ∷ xs) ≤ suc (length xs)
    go true e h = omega (arith, sum_by-cons (λ y. cond (q y) 1 0) x xs, ap {B = ℕ} (λ c. cond c 1 0) e, h)
    go false e h = omega (arith, sum_by-cons (λ y. cond (q y) 1 0) x xs, ap {B = ℕ} (λ c. cond c 1 0) e, h)
