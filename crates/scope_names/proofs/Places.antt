-- Names as lists, and the map of their places.
use Rattle.std.proofs.Common.{◌≡◌, ℕ, ◌+◌, ◌-◌, ◌<◌, ◌≤◌, ◌^◌, List, [], ◌∷◌, ◌++◌, length, map, reverse, ap, sym, ◌∙◌, drop, length-drop, arith, refl, subst, true, false, rules}
use Rattle.std.specs.Prelude.{Some, cond, String, unwrap_or}
use Rattle.std.specs.Str.{bytes_eq}
use Rattle.std.specs.BTreeMap.{BTreeMap, get_by_text}
use Rattle.std.specs.declared.alloc.Global.{Global}
use Rattle.std.proofs.lemmas.List.{map-append, reverse-append, length-reverse, length-map, length-append, drop-drop}
use Rattle.calculus.specs.Bare.{index}
use Rattle.calculus.proofs.Counting.{bytes_equal}
use Rattle.scope_names.specs.declared.names.Bound.{Bound}
use Rattle.scope_names.specs.Places.{bytes_of, names_of, place, AreChained, IsIndexed}

pub names-append : (bs cs : List Bound) → names_of (bs ++ cs) ≡ names_of cs ++ names_of bs
names-append bs cs = ap (map bytes_of) (reverse-append bs cs) ∙ map-append bytes_of (reverse cs) (reverse bs)

pub names-length : (bs : List Bound) → length (names_of bs) ≡ length bs
names-length bs = length-map (reverse bs) bytes_of ∙ length-reverse bs

pub last-first : (bs : List Bound) (b : Bound) → reverse (bs ++ b ∷ []) ≡ b ∷ reverse bs
last-first bs b = reverse-append bs (b ∷ [])

pub names-snoc : (bs : List Bound) (b : Bound) → names_of (bs ++ b ∷ []) ≡ bytes_of b ∷ names_of bs
names-snoc bs b = ap (map bytes_of) (last-first bs b)

pub index-most : (x : List ℕ) (v : List (List ℕ)) → index x v ≤ length v
index-most x [] = omega arith
index-most x (y ∷ v) = elim (bytes_eq x y) as (λ b. cond b 0 (index x v + 1) ≤ length (y ∷ v)) [ true ↦ omega arith | false ↦ omega (arith, index-most x v) ]

-- the last of the names is this
pub place-same : (x y : List ℕ) (v : List (List ℕ)) → bytes_eq x y ≡ true → place x (y ∷ v) ≡ length v + 1
place-same x y v e =
    let m : length (y ∷ v) - 0 ≡ length v + 1 = omega arith in
    ap (λ b. length (y ∷ v) - cond b 0 (index x v + 1)) e ∙ m

-- it is another one
pub place-other : (x y : List ℕ) (v : List (List ℕ)) → bytes_eq x y ≡ false → place x (y ∷ v) ≡ place x v
place-other x y v e =
    let h = index-most x v in
    let m : length (y ∷ v) - (index x v + 1) ≡ length v - index x v = omega arith in
    ap (λ b. length (y ∷ v) - cond b 0 (index x v + 1)) e ∙ m

-- what the map has is no more than the number of names, and what is left is the index
pub place-most : (x : List ℕ) (v : List (List ℕ)) → place x v ≤ length v
place-most x v = omega arith

pub place-index : (x : List ℕ) (v : List (List ℕ)) → length v - place x v ≡ index x v
place-index x v = let h = index-most x v in omega arith

pub turned-true : (x y : List ℕ) → bytes_eq y x ≡ true → bytes_eq x y ≡ true
turned-true x y h =
    let e = bytes_equal y x h in
    subst (λ z. bytes_eq x z ≡ true) (sym e) (subst (λ z. bytes_eq z x ≡ true) e h)

pub turned-false : (x y : List ℕ) → bytes_eq y x ≡ false → bytes_eq x y ≡ false
turned-false x y h = elim (bytes_eq x y) as (λ b. bytes_eq x y ≡ b → b ≡ false) [ true ↦ λ g. sym (turned-true y x g) ∙ h | false ↦ λ g. refl ] refl

pub put-last : (bs : List Bound) (b : Bound) (m : BTreeMap (String Global) ℕ) → IsIndexed bs m → (x : List ℕ) → unwrap_or (cond (bytes_eq (bytes_of b) x) (Some (length bs + 1)) (get_by_text m x)) 0 ≡ place x (bytes_of b ∷ names_of bs)
put-last bs b m h x =
    let y = bytes_of b in
    let v = names_of bs in
    elim (bytes_eq y x) as (λ t. bytes_eq y x ≡ t → unwrap_or (cond t (Some (length bs + 1)) (get_by_text m x)) 0 ≡ place x (y ∷ v)) [
      | true ↦ λ g. ap (λ k. k + 1) (sym (names-length bs)) ∙ sym (place-same x y v (turned-true x y g))
      | false ↦ λ g. h.last x ∙ sym (place-other x y v (turned-false x y g))
    ] refl

-- one more name
pub put-indexed : (bs : List Bound) (b : Bound) (m n : BTreeMap (String Global) ℕ) → IsIndexed bs m → length bs + 1 < 2 ^ 32 → b.before ≡ unwrap_or (get_by_text m (bytes_of b)) 0 → ((x : List ℕ) → get_by_text n x ≡ cond (bytes_eq (bytes_of b) x) (Some (length bs + 1)) (get_by_text m x)) → IsIndexed (bs ++ b ∷ []) n
put-indexed bs b m n h few e u = record {
  few = rw (length-append bs (b ∷ [])) few;
  last = λ x. ap (λ o. unwrap_or o 0) (u x) ∙ put-last bs b m h x ∙ ap (place x) (sym (names-snoc bs b));
  chained = subst AreChained (sym (last-first bs b)) (e ∙ h.last (bytes_of b), h.chained);
}

pub leave-last : (bs : List Bound) (b : Bound) (m : BTreeMap (String Global) ℕ) → IsIndexed (bs ++ b ∷ []) m → b.before ≡ place (bytes_of b) (names_of bs) → (x : List ℕ) → unwrap_or (cond (bytes_eq (bytes_of b) x) (Some b.before) (get_by_text m x)) 0 ≡ place x (names_of bs)
leave-last bs b m h e x =
    let y = bytes_of b in
    let v = names_of bs in
    elim (bytes_eq y x) as (λ t. bytes_eq y x ≡ t → unwrap_or (cond t (Some b.before) (get_by_text m x)) 0 ≡ place x v) [
      | true ↦ λ g. e ∙ ap (λ z. place z v) (bytes_equal y x g)
      | false ↦ λ g. h.last x ∙ ap (place x) (names-snoc bs b) ∙ place-other x y v (turned-false x y g)
    ] refl

-- one name less
pub leave-indexed : (bs : List Bound) (b : Bound) (m n : BTreeMap (String Global) ℕ) → IsIndexed (bs ++ b ∷ []) m → ((x : List ℕ) → get_by_text n x ≡ cond (bytes_eq (bytes_of b) x) (Some b.before) (get_by_text m x)) → IsIndexed bs n
leave-indexed bs b m n h u =
    let both = subst AreChained (last-first bs b) h.chained in
    record {
      few = omega (arith, h.few, length-append bs (b ∷ []));
      last = λ x. ap (λ o. unwrap_or o 0) (u x) ∙ leave-last bs b m h both.0 x;
      chained = both.1;
    }

-- the name that goes is in the map
pub last-there : (bs : List Bound) (b : Bound) (m : BTreeMap (String Global) ℕ) → IsIndexed (bs ++ b ∷ []) m → 0 < unwrap_or (get_by_text m (bytes_of b)) 0
last-there bs b m h =
    let t : bytes_eq (bytes_of b) (bytes_of b) ≡ true = search rules in
    let e = h.last (bytes_of b) ∙ ap (place (bytes_of b)) (names-snoc bs b) ∙ place-same (bytes_of b) (bytes_of b) (names_of bs) t in
    omega (arith, e)

-- one name less than were left
pub left-more : (xs ys zs : List (List ℕ)) → 0 < length ys → ys ≡ drop (length xs - length ys) xs → zs ≡ drop 1 ys → zs ≡ drop (length xs - length zs) xs
left-more xs ys zs h e f =
    let n : length zs ≡ length ys - 1 = ap length f ∙ length-drop 1 ys in
    let m : length ys ≡ length xs - (length xs - length ys) = ap length e ∙ length-drop (length xs - length ys) xs in
    let k : (length xs - length ys) + 1 ≡ length xs - length zs = omega (arith, n, m) in
    f ∙ ap (drop 1) e ∙ drop-drop 1 (length xs - length ys) xs ∙ ap (λ j. drop j xs) k
