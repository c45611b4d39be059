-- Sets and maps made of members and pairs, by the codes of these and of their keys.
use Rattle.std.proofs.Common.{◌≡◌, ℕ, ◌<◌, Bool, true, false, cond, not, ◌||◌, List, [], ◌∷◌, ◌++◌, length, map, drop, get_or, filter, refl, sym, ap, ◌∙◌, subst, inl, inr, All}
use Rattle.std.proofs.lemmas.Bool.{cases_Bool, cond-true, cond-false, or_parts, false≢true}
use Rattle.std.specs.Ordering.{is_eq, is_le, ordering_then}
use Rattle.std.specs.declared.cmp.Ordering.{Ordering}
use Rattle.std.specs.declared.cmp.Ordering.TheVariants.{Less, Equal, Greater}
use Rattle.std.proofs.lemmas.List.Elements.{All-head, All-tail}
use Rattle.calculus.specs.Tree.{set, dict, Tree}
use Rattle.calculus.specs.Shape.{many, only}
use Rattle.calculus.specs.Order.{up_to, byte_cmp, IsAscending}
use Rattle.calculus.specs.Congruence.{congruent}
use Rattle.calculus.specs.Code.{code}
use Rattle.calculus.specs.CodeLaws.{Splits}
use Rattle.calculus.specs.Normal.{ascending, arranged_by}
use Rattle.calculus.specs.Operators.{is_among, distinct, without, of_set, key_of, last_of_key, of_map, found}
use Rattle.calculus.specs.Methods.{as_tuple, without_key}
use Rattle.calculus.proofs.CodesAgree.{code_is_congruence}
use Rattle.calculus.proofs.FromFits.{codes_split}
use Rattle.calculus.specs.Form.{term}
use Rattle.rho_term.specs.Normal.{IsOrdered}
use Rattle.rho_term.specs.Parts.{pair_tree}
use Rattle.code_order.proofs.Keys.{Up, arranged-sort}
use Rattle.code_order.proofs.Made.{ascending-sort, map-arranged, ordered-made}
use Rattle.value_ops.specs.Answers.{IsOperand}
use Rattle.coll_ops.specs.Keys.{same, has_key, last_each, once_each}
use Rattle.term_order.proofs.Comparing.{cmp-append}
use Rattle.coll_ops.specs.Merging.{high, starts}
use Rattle.coll_ops.proofs.Merging.{same-self, same-turned, one, apart, or-false, sorted-up}
use Rattle.coll_ops.proofs.Finding.{drop-read, none-above}
use Rattle.coll_ops.proofs.Sorts.{Each, sort-same}

-- two operands are congruent where their codes are one
pub alike : (t u : Tree) → IsOperand t → IsOperand u → congruent t u ≡ same (code u) (code t)
alike t u h k =
    let d = code_is_congruence t u h.closed k.closed h.short k.short in
    elim (cases_Bool (congruent t u)) [
      | inl e ↦ e ∙ sym (subst (λ c. same c (code t) ≡ true) (d.1 e) (same-self (code t)))
      | inr e ↦
          elim (cases_Bool (same (code u) (code t))) [
            | inl s ↦ absurd (false≢true (sym e ∙ d.0 (sym (one (code u) (code t) s))))
            | inr s ↦ e ∙ sym s
          ]
    ]

-- these are operands
abbrev pub AreOperands : List Tree → Type 0
AreOperands ts = Each IsOperand ts

pub all-each : {X : Type 0} (P : X → Type 0) (xs : List X) → All P xs → Each P xs
all-each P [] h = tt
all-each P (x ∷ xs) h = (All-head P x xs h, all-each P xs (All-tail P x xs h))

pub among : (t : Tree) (us : List Tree) → IsOperand t → AreOperands us → is_among t us ≡ has_key code (code t) us
among t [] h r = refl
among t (u ∷ us) h r = ap (λ b. b || is_among t us) (alike t u h r.0) ∙ ap (λ b. same (code u) (code t) || b) (among t us h r.1)

pub distinct-last : (ts : List Tree) → AreOperands ts → distinct ts ≡ last_each code ts
distinct-last [] r = refl
distinct-last (t ∷ ts) r =
    ap (λ b. cond b (distinct ts) (t ∷ distinct ts)) (among t ts r.0 r.1) ∙ ap (λ l. cond (has_key code (code t) ts) l (t ∷ l)) (distinct-last ts r.1)

-- the set of these members
pub set-once : (ts : List Tree) → AreOperands ts → of_set ts ≡ only (many set (once_each code ts))
set-once ts r =
    ap (λ l. only (many set l)) (ap ascending (distinct-last ts r) ∙ ascending-sort (last_each code ts) ∙ sym (arranged-sort code (last_each code ts)))

without-kept : (us ts : List Tree) → AreOperands us → AreOperands ts → without us ts ≡ filter (λ t. not (has_key code (code t) us)) ts
without-kept us [] r q = refl
without-kept us (t ∷ ts) r q =
    ap (λ b. cond (not b) (t ∷ without us ts) (without us ts)) (among t us q.0 r) ∙ ap (λ l. cond (not (has_key code (code t) us)) (t ∷ l) l) (without-kept us ts r q.1)

pub each-filter : {X : Type 0} (P : X → Type 0) (p : X → Bool) (xs : List X) → Each P xs → Each P (filter p xs)
each-filter P p [] r = tt
each-filter P p (x ∷ xs) r = elim (p x) as (λ (b : Bool). Each P (cond b (x ∷ filter p xs) (filter p xs))) [ true ↦ (r.0, each-filter P p xs r.1) | false ↦ each-filter P p xs r.1 ]

-- the set of the members that are not among others
pub set-without : (us ts : List Tree) → AreOperands us → AreOperands ts → of_set (without us ts) ≡ only (many set (once_each code (filter (λ t. not (has_key code (code t) us)) ts)))
set-without us ts r q = ap of_set (without-kept us ts r q) ∙ set-once _ (each-filter IsOperand _ ts q)

-- the code of a pair's key
abbrev pub key_code : Tree × Tree → List ℕ
key_code p = code p.0

-- the keys of these pairs are operands
abbrev pub HaveKeys : List (Tree × Tree) → Type 0
HaveKeys ps = Each (λ p. IsOperand p.0) ps

pub among-keys : (t : Tree) (ps : List (Tree × Tree)) → IsOperand t → HaveKeys ps → is_among t (map key_of (map pair_tree ps)) ≡ has_key key_code (code t) ps
among-keys t [] h r = refl
among-keys t (p ∷ ps) h r =
    ap (λ b. b || is_among t (map key_of (map pair_tree ps))) (alike t p.0 h r.0) ∙ ap (λ b. same (code p.0) (code t) || b) (among-keys t ps h r.1)

last-pairs : (ps : List (Tree × Tree)) → HaveKeys ps → last_of_key (map pair_tree ps) ≡ map pair_tree (last_each key_code ps)
last-pairs [] r = refl
last-pairs (p ∷ ps) r =
    ap (λ b. cond b (last_of_key (map pair_tree ps)) (pair_tree p ∷ last_of_key (map pair_tree ps))) (among-keys p.0 ps r.0 r.1)
    ∙ ap (λ l. cond (has_key key_code (code p.0) ps) l (pair_tree p ∷ l)) (last-pairs ps r.1)
    ∙ elim (has_key key_code (code p.0) ps) as (λ (b : Bool). cond b (map pair_tree (last_each key_code ps)) (pair_tree p ∷ map pair_tree (last_each key_code ps)) ≡ map pair_tree (cond b (last_each key_code ps) (p ∷ last_each key_code ps))) [ true ↦ refl | false ↦ refl ]

then-first : (o r : Ordering) → is_eq o ≡ false → is_le (ordering_then o r) ≡ is_le o
then-first Less r e = refl
then-first Equal r e = cc
then-first Greater r e = refl

then-le : (o r : Ordering) → is_le (ordering_then o r) ≡ true → is_le o ≡ true
then-le Less r e = refl
then-le Equal r e = refl
then-le Greater r e = e

splits : (t u : Tree) → IsOperand t → IsOperand u → Splits (code t) (code u)
splits t u h k = codes_split term [] [] t u h.closed k.closed h.short k.short

by_keys : (p q : Tree × Tree) → IsOperand p.0 → IsOperand q.0 → byte_cmp (code (pair_tree p)) (code (pair_tree q)) ≡ ordering_then (byte_cmp (code p.0) (code q.0)) (byte_cmp (code p.1 ++ []) (code q.1 ++ []))
by_keys p q h k = cmp-append (code p.0) (code q.0) (code p.1 ++ []) (code q.1 ++ []) (splits p.0 q.0 h k)

-- pairs of different keys stand as their keys do
one_order : (p q : Tree × Tree) → IsOperand p.0 → IsOperand q.0 → same (key_code p) (key_code q) ≡ false → up_to (code (pair_tree p)) (code (pair_tree q)) ≡ up_to (key_code p) (key_code q)
one_order p q h k e = ap is_le (by_keys p q h k) ∙ then-first (byte_cmp (code p.0) (code q.0)) _ e

-- of each key the last pair, ascending
pairs-once : (ps : List (Tree × Tree)) → HaveKeys ps → map pair_tree (once_each key_code ps) ≡ ascending (map pair_tree (last_each key_code ps))
pairs-once ps r =
    let l = last_each key_code ps in
    let whole = λ (p : Tree × Tree). code (pair_tree p) in
    let e : once_each key_code ps ≡ arranged_by (map (λ y. (code (pair_tree y), y)) l) =
    arranged-sort key_code l ∙ sym (arranged-sort whole l ∙ sort-same key_code whole (λ p. IsOperand p.0) one_order ps r)
    in
    ap (map pair_tree) e ∙ map-arranged pair_tree l

-- the map of these pairs
pub map-once : (ps : List (Tree × Tree)) → HaveKeys ps → of_map (map pair_tree ps) ≡ only (many dict (map pair_tree (once_each key_code ps)))
map-once ps r = ap (λ m. only (many dict m)) (ap ascending (last-pairs ps r) ∙ sym (pairs-once ps r))

pub map-ordered : (ps qs : List (Tree × Tree)) → HaveKeys ps → qs ≡ once_each key_code ps → IsOrdered (many dict (map pair_tree qs))
map-ordered ps qs r e = subst (λ l. IsOrdered (many dict l)) (sym (ap (map pair_tree) e ∙ pairs-once ps r)) (ordered-made dict (map pair_tree (last_each key_code ps)))

pub set-ordered : (ts vs : List Tree) → vs ≡ once_each code ts → IsOrdered (many set vs)
set-ordered ts vs e =
    subst (λ l. IsOrdered (many set l)) (sym (e ∙ arranged-sort code (last_each code ts) ∙ sym (ascending-sort (last_each code ts)))) (ordered-made set (last_each code ts))

without-pairs : (t : Tree) (ps : List (Tree × Tree)) → IsOperand t → HaveKeys ps → without_key t (map pair_tree ps) ≡ map pair_tree (filter (λ p. not (has_key code (code p.0) (t ∷ []))) ps)
without-pairs t [] h r = refl
without-pairs t (p ∷ ps) h r =
    let l = filter (λ q. not (has_key code (code q.0) (t ∷ []))) ps in
    let e : congruent t p.0 ≡ has_key code (code p.0) (t ∷ []) = alike t p.0 h r.0 ∙ same-turned (code p.0) (code t) ∙ sym (or-false (same (code t) (code p.0))) in
    ap (λ b. cond (not b) (pair_tree p ∷ without_key t (map pair_tree ps)) (without_key t (map pair_tree ps))) e
    ∙ ap (λ m. cond (not (has_key code (code p.0) (t ∷ []))) (pair_tree p ∷ m) m) (without-pairs t ps h r.1)
    ∙ elim (has_key code (code p.0) (t ∷ [])) as (λ (b : Bool). cond (not b) (pair_tree p ∷ map pair_tree l) (map pair_tree l) ≡ map pair_tree (cond (not b) (p ∷ l) l)) [ true ↦ refl | false ↦ refl ]

-- the map of the pairs with another key
pub map-without : (t : Tree) (ps : List (Tree × Tree)) → IsOperand t → HaveKeys ps
    → of_map (without_key t (map pair_tree ps)) ≡ only (many dict (map pair_tree (once_each key_code (filter (λ p. not (has_key code (code p.0) (t ∷ []))) ps))))
map-without t ps h r = ap of_map (without-pairs t ps h r) ∙ map-once _ (each-filter (λ p. IsOperand p.0) _ ps r)

-- pairs that ascend do so in their keys
pub keys-up : (ps : List (Tree × Tree)) → HaveKeys ps → IsAscending (map code (map pair_tree ps)) → Up key_code ps
keys-up [] r u = tt
keys-up (p ∷ []) r u = (tt, tt)
keys-up (p ∷ q ∷ ps) r u = (then-le _ _ (ap is_le (sym (by_keys p q r.0 r.1.0)) ∙ u.0), keys-up (q ∷ ps) r.1 u.1)

-- ascending codes, as the two ways to say it
pub asc-up : {X : Type 0} (k : X → List ℕ) (xs : List X) → IsAscending (map k xs) → Up k xs
asc-up k [] u = tt
asc-up k (x ∷ []) u = (tt, tt)
asc-up k (x ∷ y ∷ xs) u = (u.0, asc-up k (y ∷ xs) u.1)

pub up-asc : {X : Type 0} (k : X → List ℕ) (xs : List X) → Up k xs → IsAscending (map k xs)
up-asc k [] u = tt
up-asc k (x ∷ []) u = (tt, tt)
up-asc k (x ∷ y ∷ xs) u = (u.0, up-asc k (y ∷ xs) u.1)

-- what ascends is in order already
pub in-order : (ts : List Tree) → IsAscending (map code ts) → ascending ts ≡ ts
in-order ts u = ascending-sort ts ∙ sorted-up code ts (asc-up code ts u)

-- the keys of pairs
pub keys-of : (ps : List (Tree × Tree)) → map key_of (map pair_tree ps) ≡ map (λ p. p.0) ps
keys-of [] = refl
keys-of (p ∷ ps) = ap (λ l. p.0 ∷ l) (keys-of ps)

-- the value at the first of these pairs, where it has this key
abbrev pub value_at : Tree → List ℕ → List (Tree × Tree) → Tree
value_at d c [] = d
value_at d c (p ∷ ps) = cond (same (code p.0) c) p.1 d

found-here : (d t : Tree) (p : Tree × Tree) (ps : List (Tree × Tree)) → congruent t p.0 ≡ true → found d t (map pair_tree (p ∷ ps)) ≡ p.1
found-here d t p ps e = cond-true (congruent t p.0) p.1 (found d t (map pair_tree ps)) e

found-later : (d t : Tree) (p : Tree × Tree) (ps : List (Tree × Tree)) → congruent t p.0 ≡ false → found d t (map pair_tree (p ∷ ps)) ≡ found d t (map pair_tree ps)
found-later d t p ps e = cond-false (congruent t p.0) p.1 (found d t (map pair_tree ps)) e

found-none : (d t : Tree) (ps : List (Tree × Tree)) → IsOperand t → HaveKeys ps → has_key key_code (code t) ps ≡ false → found d t (map pair_tree ps) ≡ d
found-none d t [] h r n = refl
found-none d t (p ∷ ps) h r n =
    let m = or_parts (same (code p.0) (code t)) (has_key key_code (code t) ps) n in
    found-later d t p ps (alike t p.0 h r.0 ∙ m.0) ∙ found-none d t ps h r.1 m.1

-- the value at a key is that of the first pair whose key is not less
pub found-high : (d t : Tree) (ps : List (Tree × Tree)) → IsOperand t → HaveKeys ps → Up key_code ps → found d t (map pair_tree ps) ≡ value_at d (code t) (high key_code (code t) ps)
found-high d t [] h r u = refl
found-high d t (p ∷ ps) h r u =
    let c = code t in
    elim (cases_Bool (up_to c (code p.0))) [
      | inl f ↦
          let z = sym (ap (value_at d c) (cond-true (up_to c (code p.0)) (p ∷ ps) (high key_code c ps) f)) in
          elim (cases_Bool (same (code p.0) c)) [
            | inl g ↦ found-here d t p ps (alike t p.0 h r.0 ∙ g) ∙ sym (cond-true (same (code p.0) c) p.1 d g) ∙ z
            | inr g ↦ found-later d t p ps (alike t p.0 h r.0 ∙ g) ∙ found-none d t ps h r.1 (none-above key_code c p ps u f g) ∙ sym (cond-false (same (code p.0) c) p.1 d g) ∙ z
          ]
      | inr f ↦
          let n : same (code p.0) c ≡ false = same-turned (code p.0) c ∙ apart c (code p.0) f in
          found-later d t p ps (alike t p.0 h r.0 ∙ n) ∙ found-high d t ps h r.1 u.1 ∙ sym (ap (value_at d c) (cond-false (up_to c (code p.0)) (p ∷ ps) (high key_code c ps) f))
    ]

value-starts : (d : Tree) (c : List ℕ) (l : List (Tree × Tree)) → starts key_code c l ≡ false → value_at d c l ≡ d
value-starts d c [] e = refl
value-starts d c (q ∷ qs) e = cond-false (same (code q.0) c) q.1 d e

-- the value at the first pair whose key is not less, if it has this key
module _ (t : Tree) (ps : List (Tree × Tree)) (h : IsOperand t) (r : HaveKeys ps) (u : Up key_code ps) (i : ℕ) (e : drop i ps ≡ high key_code (code t) ps) where
  pub value-found : (d : Tree) (p : Tree × Tree) → i < length ps → p ≡ get_or ps i p → true ≡ starts key_code (code t) (drop i ps) → found d t (map pair_tree ps) ≡ p.1
  value-found d p l g b =
      let m = drop-read key_code [] ps i p l g in
      found-high d t ps h r u ∙ ap (value_at d (code t)) (sym e ∙ m) ∙ cond-true (same (code p.0) (code t)) p.1 d (sym (b ∙ ap (starts key_code (code t)) m))

  pub value-absent : (d : Tree) → false ≡ starts key_code (code t) (drop i ps) → found d t (map pair_tree ps) ≡ d
  value-absent d b = found-high d t ps h r u ∙ ap (value_at d (code t)) (sym e) ∙ value-starts d (code t) (drop i ps) (sym b)

-- the keys of pairs ascend where these do
pub keys-ascend : (ps : List (Tree × Tree)) → Up key_code ps → IsAscending (map code (map (λ p. p.0) ps))
keys-ascend [] u = tt
keys-ascend (p ∷ []) u = (tt, tt)
keys-ascend (p ∷ q ∷ ps) u = (u.0, keys-ascend (q ∷ ps) u.1)

-- pairs as tuples
pub map-tuples : (ps : List (Tree × Tree)) → map (λ p. as_tuple (pair_tree p)) ps ≡ map as_tuple (map pair_tree ps)
map-tuples [] = refl
map-tuples (p ∷ ps) = ap (λ l. as_tuple (pair_tree p) ∷ l) (map-tuples ps)
