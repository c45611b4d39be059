-- The variables of a receive whose binds are put in order: each is of the sense that it was.
use Rattle.std.proofs.Common.{◌≡◌, ℕ, zero, suc, ◌+◌, ◌-◌, ◌<◌, Bool, true, false, cond, eqb, List, [], ◌∷◌, ◌++◌, length, reverse, map as each, refl, sym, ap, ◌∙◌, subst, arith, append_assoc, length-append, inl, inr}
use Rattle.std.specs.Prelude.{⊤, ◌⊎◌}
use Rattle.std.proofs.lemmas.Grind.{reverse_onto}
use Rattle.std.proofs.lemmas.List.{length-reverse}
use Rattle.std.proofs.lemmas.Bool.{eqb-true}
use Rattle.calculus.specs.Tree.{Tree}
use Rattle.calculus.specs.Order.{up_to}
use Rattle.calculus.specs.Shape.{at, held}
use Rattle.calculus.specs.Code.{code}
use Rattle.calculus.specs.Variables.{Sense, bound}
use Rattle.calculus.specs.Form.{Scope, HasVariable}
use Rattle.calculus.specs.Normal.{placed_by, by_code}
use Rattle.calculus.specs.Unfolding.{Placed, placed_from, from_on, sorted_binds, all_places, place_in, new_index}
use Rattle.calculus.proofs.Ranges.{in_scope}

-- the senses of these binds' variables, in turn
abbrev pub senses : List Placed → Scope
senses [] = []
senses (b ∷ bs) = bound b.0 ++ senses bs

-- one of these variables has this place and this sense
abbrev IsAmong : List ℕ → List Sense → ℕ → Sense → Type 0
IsAmong [] vs q s = ⊥
IsAmong (x ∷ xs) [] q s = ⊥
IsAmong (x ∷ xs) (v ∷ vs) q s = ((x ≡ q) × (v ≡ s)) ⊎ IsAmong xs vs q s

-- a variable of one of these binds has them
abbrev HoldPlace : List Placed → ℕ → Sense → Type 0
HoldPlace [] q s = ⊥
HoldPlace (b ∷ bs) q s = IsAmong b.1 (bound b.0) q s ⊎ HoldPlace bs q s

-- places and variables are as many, and each place has its sense
abbrev HaveSenses : Scope → List ℕ → List Sense → Type 0
HaveSenses v [] [] = ⊤
HaveSenses v [] (s ∷ ss) = ⊥
HaveSenses v (x ∷ xs) [] = ⊥
HaveSenses v (x ∷ xs) (s ∷ ss) = HasVariable v x s × HaveSenses v xs ss

-- so it is for the variables of each of these binds
abbrev AllHaveSenses : Scope → List Placed → Type 0
AllHaveSenses v [] = ⊤
AllHaveSenses v (b ∷ bs) = HaveSenses v b.1 (bound b.0) × AllHaveSenses v bs

one-sense : (v : Scope) (i : ℕ) (s r : Sense) → HasVariable v i s → HasVariable v i r → s ≡ r
one-sense [] i s r h k = absurd h
one-sense (w ∷ v) zero s r h k = sym h ∙ k
one-sense (w ∷ v) (suc i) s r h k = one-sense v i s r h k

-- the place of a variable among those of one bind, and of more binds after it
module _ (v : Scope) (q : ℕ) (s : Sense) (is : HasVariable v q s) where
  in-one : (xs : List ℕ) (ss : List Sense) (ys : List ℕ) (rs : List Sense) → HaveSenses v xs ss → IsAmong xs ss q s ⊎ HasVariable rs (place_in ys q) s → HasVariable (ss ++ rs) (place_in (xs ++ ys) q) s
  in-one [] [] ys rs r (inl a) = absurd a
  in-one [] [] ys rs r (inr h) = h
  in-one [] (z ∷ zs) ys rs r a = absurd r
  in-one (x ∷ xs) [] ys rs r a = absurd r
  in-one (x ∷ xs) (z ∷ zs) ys rs r a = go (eqb x q) refl (λ b. in-one xs zs ys rs r.1 b)
    where
      later : (x ≡ q → ⊥) → IsAmong (x ∷ xs) (z ∷ zs) q s ⊎ HasVariable rs (place_in ys q) s → IsAmong xs zs q s ⊎ HasVariable rs (place_in ys q) s
      later n (inl (inl e)) = absurd (n e.0)
      later n (inl (inr b)) = inl b
      later n (inr h) = inr h

      go : (b : Bool) → eqb x q ≡ b → (IsAmong xs zs q s ⊎ HasVariable rs (place_in ys q) s → HasVariable (zs ++ rs) (place_in (xs ++ ys) q) s) → HasVariable (z ∷ (zs ++ rs)) (cond b 0 (suc (place_in (xs ++ ys) q))) s
      go true e f = one-sense v q z s (subst (λ k. HasVariable v k z) (eqb-true x q e) r.0) is
      go false e f = f (later (λ d. unequal x q e d) a)
        where
          unequal : (x q : ℕ) → eqb x q ≡ false → x ≡ q → ⊥
          unequal x q e d = grind (arith, e, d)

  in-all : (bs : List Placed) → AllHaveSenses v bs → HoldPlace bs q s → HasVariable (senses bs) (place_in (all_places bs) q) s
  in-all [] r h = absurd h
  in-all (b ∷ bs) r (inl a) = in-one b.1 (bound b.0) (all_places bs) (senses bs) r.0 (inl a)
  in-all (b ∷ bs) r (inr h) = in-one b.1 (bound b.0) (all_places bs) (senses bs) r.0 (inr (in-all bs r.1 h))

right-length : (v : Scope) (xs : List ℕ) (ss : List Sense) → HaveSenses v xs ss → length xs ≡ length ss
right-length v [] [] h = refl
right-length v [] (s ∷ ss) h = absurd h
right-length v (x ∷ xs) [] h = absurd h
right-length v (x ∷ xs) (s ∷ ss) h = ap suc (right-length v xs ss h.1)

places-length : (v : Scope) (bs : List Placed) → AllHaveSenses v bs → length (all_places bs) ≡ length (senses bs)
places-length v [] h = refl
places-length v (b ∷ bs) h = omega (arith, length-append b.1 (all_places bs), length-append (bound b.0) (senses bs), right-length v b.1 (bound b.0) h.0, places-length v bs h.1)

-- a bind with its places, beside a code
abbrev pub CodedBind : Type 0
CodedBind = List ℕ × Placed

-- the binds without their codes
abbrev pub seconds : List CodedBind → List Placed
seconds xs = each (λ x. x.1) xs

module _ (v : Scope) (q : ℕ) (s : Sense) where
  placed-right : (x : CodedBind) (xs : List CodedBind) → HaveSenses v x.1.1 (bound x.1.0) → AllHaveSenses v (seconds xs) → AllHaveSenses v (seconds (placed_by x xs))
  unfolding placed_by
  placed-right x [] h k = (h, tt)
  placed-right x (y ∷ ys) h k = elim (up_to x.0 y.0) as (λ (b : Bool). AllHaveSenses v (seconds (cond b (x ∷ y ∷ ys) (y ∷ placed_by x ys)))) [ true ↦ (h, k) | false ↦ (k.0, placed-right x ys h k.1) ]

  pub code-right : (xs : List CodedBind) → AllHaveSenses v (seconds xs) → AllHaveSenses v (seconds (by_code xs))
  unfolding by_code
  code-right [] h = tt
  code-right (x ∷ xs) h = placed-right x (by_code xs) h.0 (code-right xs h.1)

  placed-holds : (x : CodedBind) (xs : List CodedBind) → HoldPlace (x.1 ∷ seconds xs) q s → HoldPlace (seconds (placed_by x xs)) q s
  unfolding placed_by
  placed-holds x [] h = h
  placed-holds x (y ∷ ys) h = go (up_to x.0 y.0) h (λ k. placed-holds x ys k)
    where
      go : (b : Bool) → HoldPlace (x.1 ∷ y.1 ∷ seconds ys) q s → (HoldPlace (x.1 ∷ seconds ys) q s → HoldPlace (seconds (placed_by x ys)) q s) → HoldPlace (seconds (cond b (x ∷ y ∷ ys) (y ∷ placed_by x ys))) q s
      go true h f = h
      go false (inl a) f = inr (f (inl a))
      go false (inr (inl a)) f = inl a
      go false (inr (inr h)) f = inr (f (inr h))

  pub code-holds : (xs : List CodedBind) → HoldPlace (seconds xs) q s → HoldPlace (seconds (by_code xs)) q s
  unfolding by_code
  code-holds [] h = h
  code-holds (x ∷ xs) (inl a) = placed-holds x (by_code xs) (inl a)
  code-holds (x ∷ xs) (inr h) = placed-holds x (by_code xs) (inr (code-holds xs h))

-- the variable after these
at-end : (o w : Scope) (i : ℕ) (s : Sense) → length o ≡ i → HasVariable (o ++ s ∷ w) i s
at-end [] w i s e = subst (λ (k : ℕ). HasVariable (s ∷ w) k s) e refl
at-end (x ∷ o) w i s e = subst (λ (k : ℕ). HasVariable (x ∷ (o ++ s ∷ w)) k s) e (at-end o w (length o) s refl)

right-from : (o r ss : Scope) (i : ℕ) → length o ≡ i → HaveSenses (o ++ (ss ++ r)) (from_on i (length ss)) ss
right-from o r [] i e = tt
right-from o r (s ∷ ss) i e =
    (at-end o (ss ++ r) i s e, subst (λ (v : Scope). HaveSenses v (from_on (suc i) (length ss)) ss) (append_assoc o (s ∷ []) (ss ++ r)) (right-from (o ++ s ∷ []) r ss (suc i) (omega (arith, e, length-append o (s ∷ [])))))

all-right : (o : Scope) (i : ℕ) (bs : List Tree) → length o ≡ i → AllHaveSenses (o ++ senses (placed_from i bs)) (placed_from i bs)
all-right o i [] e = tt
all-right o i (b ∷ bs) e =
    let r = senses (placed_from (i + length (bound b)) bs) in
    (right-from o r (bound b) i e, subst (λ (v : Scope). AllHaveSenses v (placed_from (i + length (bound b)) bs)) (append_assoc o (bound b) r) (all-right (o ++ bound b) (i + length (bound b)) bs (omega (arith, e, length-append o (bound b)))))

among-from : (ss : Scope) (i j q : ℕ) (s : Sense) → j ≡ i + q → HasVariable ss q s → IsAmong (from_on i (length ss)) ss j s
among-from [] i j q s e h = absurd h
among-from (x ∷ ss) i j zero s e h = inl (omega (arith, e), h)
among-from (x ∷ ss) i j (suc q) s e h = inr (among-from ss (suc i) j q s (omega (arith, e)) h)

parted : (ss r : Scope) (q : ℕ) (s : Sense) → HasVariable (ss ++ r) q s → HasVariable ss q s ⊎ ((k : ℕ) × (q ≡ length ss + k) × HasVariable r k s)
parted [] r q s h = inr (q, omega arith, h)
parted (x ∷ ss) r zero s h = inl h
parted (x ∷ ss) r (suc q) s h = further (parted ss r q s h)
  where
    further : HasVariable ss q s ⊎ ((k : ℕ) × (q ≡ length ss + k) × HasVariable r k s) → HasVariable ss q s ⊎ ((k : ℕ) × (suc q ≡ length (x ∷ ss) + k) × HasVariable r k s)
    further (inl a) = inl a
    further (inr b) = inr (b.0, omega (arith, b.1), b.2)

holds-from : (i j : ℕ) (bs : List Tree) (q : ℕ) (s : Sense) → j ≡ i + q → HasVariable (senses (placed_from i bs)) q s → HoldPlace (placed_from i bs) j s
holds-from i j [] q s e h = absurd h
holds-from i j (b ∷ bs) q s e h = go (parted (bound b) (senses (placed_from (i + length (bound b)) bs)) q s h) (λ k f z. holds-from (i + length (bound b)) j bs k s f z)
  where
    go : HasVariable (bound b) q s ⊎ ((k : ℕ) × (q ≡ length (bound b) + k) × HasVariable (senses (placed_from (i + length (bound b)) bs)) k s)
        → ((k : ℕ) → j ≡ i + length (bound b) + k → HasVariable (senses (placed_from (i + length (bound b)) bs)) k s → HoldPlace (placed_from (i + length (bound b)) bs) j s) → HoldPlace (placed_from i (b ∷ bs)) j s
    go (inl a) next = inl (among-from (bound b) i j q s e a)
    go (inr c) next = inr (next c.0 (omega (arith, e, c.1)) c.2)

-- counted from the last one
back : (v : Scope) (k : ℕ) (s : Sense) → HasVariable v k s → (j : ℕ) → j + k + 1 ≡ length v → HasVariable (reverse v) j s
back [] k s h j e = absurd h
back (x ∷ v) zero s h j e = rw (reverse_onto v x []) (subst (λ (z : Sense). HasVariable (reverse v ++ x ∷ []) j z) h (at-end (reverse v) [] j x (omega (arith, e, length-reverse v))))
back (x ∷ v) (suc k) s h j e = rw (reverse_onto v x []) (left (reverse v) (x ∷ []) j s (back v k s h j (omega (arith, e))))
  where
    left : (o w : Scope) (i : ℕ) (s : Sense) → HasVariable o i s → HasVariable (o ++ w) i s
    left [] w i s h = absurd h
    left (y ∷ o) w zero s h = h
    left (y ∷ o) w (suc i) s h = left o w i s h

forth : (v : Scope) (k : ℕ) (s : Sense) → HasVariable (reverse v) k s → (j : ℕ) → j + k + 1 ≡ length v → HasVariable v j s
forth [] k s h j e = absurd (none-there (j + k) e)
  where
    none-there : (n : ℕ) → n + 1 ≡ 0 → ⊥
    none-there n e = omega (arith, e)
forth (x ∷ v) k s h j e = go (parted (reverse v) (x ∷ []) k s (subst (λ (w : Scope). HasVariable w k s) (reverse_onto v x []) h)) (λ a i f. forth v k s a i f) j e
  where
    go : HasVariable (reverse v) k s ⊎ ((m : ℕ) × (k ≡ length (reverse v) + m) × HasVariable (x ∷ []) m s) → (HasVariable (reverse v) k s → (i : ℕ) → i + k + 1 ≡ length v → HasVariable v i s) → (j : ℕ) → j + k + 1 ≡ length (x ∷ v) → HasVariable (x ∷ v) j s
    go (inl a) next zero e = absurd (omega (arith, e, in_scope (reverse v) k s a, length-reverse v))
    go (inl a) next (suc j) e = next a j (omega (arith, e))
    go (inr (m, f, g)) next zero e = only m g
      where
        only : (m : ℕ) → HasVariable (x ∷ []) m s → x ≡ s
        only zero g = g
        only (suc m) g = absurd g
    go (inr (m, f, g)) next (suc j) e = absurd (omega (arith, e, f, length-reverse v))

coded-seconds : (bs : List Placed) → seconds (each (λ b. (code (at 0 (held b.0)), b)) bs) ≡ bs
coded-seconds [] = refl
coded-seconds (b ∷ bs) = ap (λ xs. b ∷ xs) (coded-seconds bs)

places-placed : (x : CodedBind) (xs : List CodedBind) → length (all_places (seconds (placed_by x xs))) ≡ length x.1.1 + length (all_places (seconds xs))
unfolding placed_by
places-placed x [] = length-append x.1.1 []
places-placed x (y ∷ ys) =
    elim (up_to x.0 y.0) as (λ (b : Bool). length (all_places (seconds (cond b (x ∷ y ∷ ys) (y ∷ placed_by x ys)))) ≡ length x.1.1 + length (y.1.1 ++ all_places (seconds ys)))
    [ true ↦ length-append x.1.1 (y.1.1 ++ all_places (seconds ys)) | false ↦ omega (arith, length-append y.1.1 (all_places (seconds (placed_by x ys))), length-append y.1.1 (all_places (seconds ys)), places-placed x ys) ]

places-sorted : (xs : List CodedBind) → length (all_places (seconds (by_code xs))) ≡ length (all_places (seconds xs))
unfolding by_code
places-sorted [] = refl
places-sorted (x ∷ xs) = omega (arith, places-placed x (by_code xs), places-sorted xs, length-append x.1.1 (all_places (seconds xs)))

-- in the new order each variable is of the sense that it was
pub senses-kept : (bs : List Tree) (k : ℕ) (s : Sense) → HasVariable (reverse (senses (placed_from 0 bs))) k s → HasVariable (reverse (senses (sorted_binds bs))) (new_index (all_places (sorted_binds bs)) k) s
senses-kept bs k s h =
    let v = senses (placed_from 0 bs) in
    let xs : List CodedBind = each (λ b. (code (at 0 (held b.0)), b)) (placed_from 0 bs) in
    let r : AllHaveSenses v (placed_from 0 bs) = all-right [] 0 bs refl in
    let r' : AllHaveSenses v (seconds xs) = subst (λ (ys : List Placed). AllHaveSenses v ys) (sym (coded-seconds (placed_from 0 bs))) r in
    let z : AllHaveSenses v (sorted_binds bs) = code-right v 0 s xs r' in
    let n : length (all_places (sorted_binds bs)) ≡ length v = places-sorted xs ∙ ap (λ ys. length (all_places ys)) (coded-seconds (placed_from 0 bs)) ∙ places-length v (placed_from 0 bs) r in
    let l : k < length v = omega (arith, in_scope (reverse v) k s h, length-reverse v) in
    let q = (length (all_places (sorted_binds bs)) - 1) - k in
    let w : HasVariable v q s = forth v k s h q (omega (arith, n, l)) in
    let a : HoldPlace (placed_from 0 bs) q s = holds-from 0 q bs q s (omega arith) w in
    let a' : HoldPlace (seconds xs) q s = subst (λ (ys : List Placed). HoldPlace ys q s) (sym (coded-seconds (placed_from 0 bs))) a in
    let b : HasVariable (senses (sorted_binds bs)) (place_in (all_places (sorted_binds bs)) q) s = in-all v q s w (sorted_binds bs) z (code-holds v q s xs a') in
    let m : place_in (all_places (sorted_binds bs)) q < length (senses (sorted_binds bs)) = in_scope (senses (sorted_binds bs)) (place_in (all_places (sorted_binds bs)) q) s b in
    let o : length (all_places (sorted_binds bs)) ≡ length (senses (sorted_binds bs)) = places-length v (sorted_binds bs) z in
    back (senses (sorted_binds bs)) (place_in (all_places (sorted_binds bs)) q) s b (new_index (all_places (sorted_binds bs)) k) (omega (arith, m, o))
