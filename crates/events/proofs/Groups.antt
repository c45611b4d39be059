-- Groups of rows in another order, and their digest.
use Rattle.std.proofs.Common.{◌≡◌, ℕ, zero, suc, Bool, true, false, cond, List, [], ◌∷◌, ◌++◌, length, map as each, refl, ap, sym, ◌∙◌, subst, arith}
use Rattle.std.specs.Prelude.{eqb, IsPermutation}
use Rattle.std.specs.Str.{bytes_eq}
use Rattle.std.proofs.lemmas.Slice.Eq.{bytes_eq-Decides}
use Rattle.calculus.specs.Exchanges.{Exchanges, nothing, under as beneath, neighbours, then}
use Rattle.calculus.proofs.Permutations.{each-moved, exchange, exchanges, keep, unmoved}
use Rattle.sha2.specs.Sha256.{sha256}
use Rattle.calculus.specs.Bytes.{be32, joined}
use Rattle.calculus.specs.Order.{placed, sorted}
use Rattle.calculus.specs.Rows.{Row, row_code}
use Rattle.calculus.specs.Root.{Group, halves, with_row, groups, key, leaf_digest, under_way, under, sixteen, digest_in, root}
use Rattle.calculus.proofs.Ordered.{placed-placed}
use Rattle.events.specs.StateLaws.{RootIgnoresOrder, TextIgnoresOrder}

pub same : (x y : List ℕ) → bytes_eq x y ≡ true → x ≡ y
same x y e = (bytes_eq-Decides x y).0 e

pub equal : (x y : List ℕ) → x ≡ y → bytes_eq x y ≡ true
equal x y e = (bytes_eq-Decides x y).1 e

-- groups in another order, no two neighbours that are exchanged having one key, and the rows of each in another order
pub data Alike : List Group → List Group → Type 0 where
  none : Alike [] []
  one : {gs hs : List Group} (k w : List ℕ) {xs ys : List (List ℕ)} → IsPermutation xs ys → Alike gs hs → Alike (record { key = k; way = w; rows = xs } ∷ gs) (record { key = k; way = w; rows = ys } ∷ hs)
  two : (g h : Group) (gs : List Group) → bytes_eq g.key h.key ≡ false → Alike (g ∷ h ∷ gs) (h ∷ g ∷ gs)
  both : {fs gs hs : List Group} → Alike fs gs → Alike gs hs → Alike fs hs

pub alike : (gs : List Group) → Alike gs gs
alike [] = none
alike (g ∷ gs) = one g.key g.way (unmoved g.rows) (alike gs)

-- one more row keeps groups alike
pub row-alike : (k c : List ℕ) {gs hs : List Group} → Alike gs hs → Alike (with_row k c gs) (with_row k c hs)
row-alike k c none = alike (with_row k c [])
row-alike k c (one {gs} {hs} l w {xs} {ys} m a) = go (bytes_eq k l) (row-alike k c a)
  where
    go : (b : Bool) → Alike (with_row k c gs) (with_row k c hs)
        → Alike (cond b (record { key = k; way = w; rows = c ∷ xs } ∷ gs) (record { key = l; way = w; rows = xs } ∷ with_row k c gs)) (cond b (record { key = k; way = w; rows = c ∷ ys } ∷ hs) (record { key = l; way = w; rows = ys } ∷ with_row k c hs))
    go true h = one k w (keep c m) a
    go false h = one l w m h
row-alike k c (two g h gs d) = go (bytes_eq k g.key) refl (bytes_eq k h.key) refl
  where
    go : (b : Bool) → bytes_eq k g.key ≡ b → (e : Bool) → bytes_eq k h.key ≡ e
        → Alike (cond b (record { key = k; way = g.way; rows = c ∷ g.rows } ∷ h ∷ gs) (g ∷ cond e (record { key = k; way = h.way; rows = c ∷ h.rows } ∷ gs) (h ∷ with_row k c gs)))
        (cond e (record { key = k; way = h.way; rows = c ∷ h.rows } ∷ g ∷ gs) (h ∷ cond b (record { key = k; way = g.way; rows = c ∷ g.rows } ∷ gs) (g ∷ with_row k c gs)))
    go true p true q = cc (d, equal g.key h.key (sym (same k g.key p) ∙ same k h.key q))
    go true p false q = two (record { key = k; way = g.way; rows = c ∷ g.rows }) h gs q
    go false p true q = two g (record { key = k; way = h.way; rows = c ∷ h.rows }) gs (sym (ap (λ x. bytes_eq g.key x) (sym (same k h.key q))) ∙ d)
    go false p false q = two g h (with_row k c gs) d
row-alike k c (both a b) = both (row-alike k c a) (row-alike k c b)

apart : (x y : List ℕ) → bytes_eq x y ≡ false → bytes_eq y x ≡ false
apart x y e = go (bytes_eq y x) refl
  where
    go : (b : Bool) → bytes_eq y x ≡ b → b ≡ false
    go true f = cc (e, equal x y (sym (same y x f)))
    go false f = refl

-- two more rows in either order
pub rows-alike : (k c l d : List ℕ) (gs : List Group) → Alike (with_row k c (with_row l d gs)) (with_row l d (with_row k c gs))
rows-alike k c l d [] = go (bytes_eq k l) refl (bytes_eq l k) refl
  where
    go : (b : Bool) → bytes_eq k l ≡ b → (e : Bool) → bytes_eq l k ≡ e
        → Alike (cond b (record { key = k; way = halves l; rows = c ∷ d ∷ [] } ∷ []) (record { key = l; way = halves l; rows = d ∷ [] } ∷ record { key = k; way = halves k; rows = c ∷ [] } ∷ []))
        (cond e (record { key = l; way = halves k; rows = d ∷ c ∷ [] } ∷ []) (record { key = k; way = halves k; rows = c ∷ [] } ∷ record { key = l; way = halves l; rows = d ∷ [] } ∷ []))
    go true p true q = subst (λ x. Alike (record { key = k; way = halves l; rows = c ∷ d ∷ [] } ∷ []) (record { key = x; way = halves k; rows = d ∷ c ∷ [] } ∷ [])) (same k l p)
        (subst (λ x. Alike (record { key = k; way = halves x; rows = c ∷ d ∷ [] } ∷ []) (record { key = k; way = halves k; rows = d ∷ c ∷ [] } ∷ [])) (same k l p) (one k (halves k) (exchange c d []) none))
    go true p false q = cc (q, equal l k (sym (same k l p)))
    go false p true q = cc (p, equal k l (sym (same l k q)))
    go false p false q = two (record { key = l; way = halves l; rows = d ∷ [] }) (record { key = k; way = halves k; rows = c ∷ [] }) [] q
rows-alike k c l d (g ∷ gs) = go (rows-alike k c l d gs) (bytes_eq l g.key) refl (bytes_eq k g.key) refl (bytes_eq k l) refl (bytes_eq l k) refl
  where
    go : Alike (with_row k c (with_row l d gs)) (with_row l d (with_row k c gs)) → (b : Bool) → bytes_eq l g.key ≡ b → (e : Bool) → bytes_eq k g.key ≡ e → (v : Bool) → bytes_eq k l ≡ v → (w : Bool) → bytes_eq l k ≡ w
        → Alike (with_row k c (cond b (record { key = l; way = g.way; rows = d ∷ g.rows } ∷ gs) (g ∷ with_row l d gs))) (with_row l d (cond e (record { key = k; way = g.way; rows = c ∷ g.rows } ∷ gs) (g ∷ with_row k c gs)))
    go h true p true q v r w t =
        let one_key : k ≡ l = same k g.key q ∙ sym (same l g.key p) in
        subst (λ x. Alike (cond x (record { key = k; way = g.way; rows = c ∷ d ∷ g.rows } ∷ gs) (record { key = l; way = g.way; rows = d ∷ g.rows } ∷ with_row k c gs)) (with_row l d (record { key = k; way = g.way; rows = c ∷ g.rows } ∷ gs))) (sym (equal k l one_key))
        (subst (λ x. Alike (record { key = k; way = g.way; rows = c ∷ d ∷ g.rows } ∷ gs) (cond x (record { key = l; way = g.way; rows = d ∷ c ∷ g.rows } ∷ gs) (record { key = k; way = g.way; rows = c ∷ g.rows } ∷ with_row l d gs))) (sym (equal l k (sym one_key)))
        (subst (λ x. Alike (record { key = k; way = g.way; rows = c ∷ d ∷ g.rows } ∷ gs) (record { key = x; way = g.way; rows = d ∷ c ∷ g.rows } ∷ gs)) one_key (one k g.way (exchange c d g.rows) (alike gs))))
    go h true p false q true r w t = cc (q, equal k g.key (same k l r ∙ same l g.key p))
    go h true p false q false r w t =
        subst (λ x. Alike (cond x (record { key = k; way = g.way; rows = c ∷ d ∷ g.rows } ∷ gs) (record { key = l; way = g.way; rows = d ∷ g.rows } ∷ with_row k c gs)) (with_row l d (g ∷ with_row k c gs))) (sym r)
        (subst (λ x. Alike (record { key = l; way = g.way; rows = d ∷ g.rows } ∷ with_row k c gs) (cond x (record { key = l; way = g.way; rows = d ∷ g.rows } ∷ with_row k c gs) (g ∷ with_row l d (with_row k c gs)))) (sym p)
        (alike (record { key = l; way = g.way; rows = d ∷ g.rows } ∷ with_row k c gs)))
    go h false p true q v r true t = cc (p, equal l g.key (same l k t ∙ same k g.key q))
    go h false p true q v r false t =
        subst (λ x. Alike (cond x (record { key = k; way = g.way; rows = c ∷ g.rows } ∷ with_row l d gs) (g ∷ with_row k c (with_row l d gs))) (with_row l d (record { key = k; way = g.way; rows = c ∷ g.rows } ∷ gs))) (sym q)
        (subst (λ x. Alike (record { key = k; way = g.way; rows = c ∷ g.rows } ∷ with_row l d gs) (cond x (record { key = l; way = g.way; rows = d ∷ c ∷ g.rows } ∷ gs) (record { key = k; way = g.way; rows = c ∷ g.rows } ∷ with_row l d gs))) (sym t)
        (alike (record { key = k; way = g.way; rows = c ∷ g.rows } ∷ with_row l d gs)))
    go h false p false q v r w t =
        subst (λ x. Alike (cond x (record { key = k; way = g.way; rows = c ∷ g.rows } ∷ with_row l d gs) (g ∷ with_row k c (with_row l d gs))) (with_row l d (g ∷ with_row k c gs))) (sym q)
        (subst (λ x. Alike (g ∷ with_row k c (with_row l d gs)) (cond x (record { key = l; way = g.way; rows = d ∷ g.rows } ∷ with_row k c gs) (g ∷ with_row l d (with_row k c gs)))) (sym p)
        (one g.key g.way (unmoved g.rows) h))

-- the groups of rows in another order
pub groups-alike : {rs qs : List Row} → IsPermutation rs qs → Alike (groups rs) (groups qs)
groups-alike p = go (exchanges p)
  where
    go : {rs qs : List Row} → Exchanges rs qs → Alike (groups rs) (groups qs)
    go nothing = none
    go (beneath r e) = row-alike (key r) (row_code r) (go e)
    go (neighbours r q zs) = rows-alike (key r) (row_code r) (key q) (row_code q) (groups zs)
    go (then e f) = both (go e) (go f)

sorted-exchanged : {xs ys : List (List ℕ)} → Exchanges xs ys → sorted xs ≡ sorted ys
unfolding sorted
sorted-exchanged nothing = refl
sorted-exchanged (beneath x e) = ap (placed x) (sorted-exchanged e)
sorted-exchanged (neighbours x y zs) = placed-placed x y (sorted zs)
sorted-exchanged (then e f) = sorted-exchanged e ∙ sorted-exchanged f

-- codes in another order are sorted into one list
pub sorted-moved : {xs ys : List (List ℕ)} → IsPermutation xs ys → sorted xs ≡ sorted ys
sorted-moved p = sorted-exchanged (exchanges p)

pub length-moved : {A : Type 0} {xs ys : List A} → IsPermutation xs ys → length xs ≡ length ys
length-moved {A} p = go (exchanges p)
  where
    go : {xs ys : List A} → Exchanges xs ys → length xs ≡ length ys
    go nothing = refl
    go (beneath x e) = ap suc (go e)
    go (neighbours x y zs) = refl
    go (then e f) = go e ∙ go f

length-alike : {gs hs : List Group} → Alike gs hs → length gs ≡ length hs
length-alike none = refl
length-alike (one k w m a) = ap suc (length-alike a)
length-alike (two g h gs d) = refl
length-alike (both a b) = length-alike a ∙ length-alike b

-- the groups with a next half byte
under-alike : (h : ℕ) {gs hs : List Group} → Alike gs hs → Alike (under h gs) (under h hs)
under-alike h none = none
under-alike h (one k [] m a) = under-alike h a
under-alike h (one {gs} {hs} k (x ∷ w) {xs} {ys} m a) = go (eqb x h) (under-alike h a)
  where
    go : (b : Bool) → Alike (under h gs) (under h hs) → Alike (cond b (record { key = k; way = w; rows = xs } ∷ under h gs) (under h gs)) (cond b (record { key = k; way = w; rows = ys } ∷ under h hs) (under h hs))
    go true e = one k w m e
    go false e = e
under-alike h (two f g gs d) = go f.way g.way
  where
    inner : (x y : ℕ) (v w : List ℕ) (b e : Bool) → Alike (cond b (record { key = f.key; way = v; rows = f.rows } ∷ cond e (record { key = g.key; way = w; rows = g.rows } ∷ under h gs) (under h gs)) (cond e (record { key = g.key; way = w; rows = g.rows } ∷ under h gs) (under h gs)))
        (cond e (record { key = g.key; way = w; rows = g.rows } ∷ cond b (record { key = f.key; way = v; rows = f.rows } ∷ under h gs) (under h gs)) (cond b (record { key = f.key; way = v; rows = f.rows } ∷ under h gs) (under h gs)))
    inner x y v w true true = two (record { key = f.key; way = v; rows = f.rows }) (record { key = g.key; way = w; rows = g.rows }) (under h gs) d
    inner x y v w true false = alike (record { key = f.key; way = v; rows = f.rows } ∷ under h gs)
    inner x y v w false true = alike (record { key = g.key; way = w; rows = g.rows } ∷ under h gs)
    inner x y v w false false = alike (under h gs)

    go : (v w : List ℕ) → Alike (under_way h f v (under_way h g w (under h gs))) (under_way h g w (under_way h f v (under h gs)))
    go [] [] = alike (under h gs)
    go [] (y ∷ w) = alike (under_way h g (y ∷ w) (under h gs))
    go (x ∷ v) [] = alike (under_way h f (x ∷ v) (under h gs))
    go (x ∷ v) (y ∷ w) = inner x y v w (eqb x h) (eqb y h)
under-alike h (both a b) = both (under-alike h a) (under-alike h b)

-- the digest of a group that stands alone
leaf_of : List Group → List ℕ
leaf_of (g ∷ []) = leaf_digest g
leaf_of _ = []

nothing-longer : (hs : List Group) (g : Group) → 0 ≡ length (g ∷ hs) → ⊥
nothing-longer hs g e = omega (arith, e)

one-leaf : (gs hs : List Group) (k w : List ℕ) (xs ys : List (List ℕ)) → IsPermutation xs ys → length gs ≡ length hs → leaf_of (record { key = k; way = w; rows = xs } ∷ gs) ≡ leaf_of (record { key = k; way = w; rows = ys } ∷ hs)
unfolding leaf_of
one-leaf [] [] k w xs ys m e = ap (λ l. sha256 (0x10 ∷ (k ++ (be32 (length xs) ++ joined l)))) (sorted-moved m) ∙ ap (λ n. sha256 (0x10 ∷ (k ++ (be32 n ++ joined (sorted ys))))) (length-moved m)
one-leaf [] (h ∷ hs) k w xs ys m e = absurd (nothing-longer hs h e)
one-leaf (g ∷ gs) [] k w xs ys m e = absurd (nothing-longer gs g (sym e))
one-leaf (g ∷ gs) (h ∷ hs) k w xs ys m e = refl

leaf-alike : {gs hs : List Group} → Alike gs hs → leaf_of gs ≡ leaf_of hs
unfolding leaf_of
leaf-alike none = refl
leaf-alike (one {gs} {hs} k w {xs} {ys} m a) = one-leaf gs hs k w xs ys m (length-alike a)
leaf-alike (two g h gs d) = refl
leaf-alike (both a b) = leaf-alike a ∙ leaf-alike b

-- the digest of three kinds of lists of groups: none, one, more
digest-of-one : (n : ℕ) (g : Group) → digest_in n (g ∷ []) ≡ leaf_of (g ∷ [])
unfolding leaf_of
digest-of-one zero g = refl
digest-of-one (suc n) g = refl

pub each-same : (f g : ℕ → List ℕ) → ((x : ℕ) → f x ≡ g x) → (xs : List ℕ) → each f xs ≡ each g xs
each-same f g h [] = refl
each-same f g h (x ∷ xs) = cc (h x, each-same f g h xs)

-- groups that are alike have one digest
pub digest-alike : (n : ℕ) (gs hs : List Group) → Alike gs hs → digest_in n gs ≡ digest_in n hs
digest-alike n [] [] a = refl
digest-alike n [] (h ∷ hs) a = absurd (nothing-longer hs h (length-alike a))
digest-alike n (g ∷ gs) [] a = absurd (nothing-longer gs g (sym (length-alike a)))
digest-alike n (g ∷ []) (h ∷ []) a = digest-of-one n g ∙ leaf-alike a ∙ sym (digest-of-one n h)
digest-alike n (g ∷ []) (h ∷ k ∷ hs) a = absurd (longer (length-alike a))
  where
    longer : length (g ∷ []) ≡ length (h ∷ k ∷ hs) → ⊥
    longer e = omega (arith, e)
digest-alike n (g ∷ f ∷ gs) (h ∷ []) a = absurd (longer (length-alike a))
  where
    longer : length (g ∷ f ∷ gs) ≡ length (h ∷ []) → ⊥
    longer e = omega (arith, e)
digest-alike zero (g ∷ f ∷ gs) (h ∷ k ∷ hs) a = refl
digest-alike (suc n) (g ∷ f ∷ gs) (h ∷ k ∷ hs) a =
    ap (λ l. sha256 (0x11 ∷ joined l)) (each-same (λ x. digest_in n (under x (g ∷ f ∷ gs))) (λ x. digest_in n (under x (h ∷ k ∷ hs)))
    (λ x. digest-alike n (under x (g ∷ f ∷ gs)) (under x (h ∷ k ∷ hs)) (under-alike x a)) sixteen)

pub root_ignores_order : RootIgnoresOrder
unfolding root
root_ignores_order rows others m = digest-alike 64 (groups rows) (groups others) (groups-alike m)

pub text_ignores_order : TextIgnoresOrder
text_ignores_order rows others m =
    cc (root_ignores_order rows others m, length-moved m, sorted-moved (each-moved row_code m))
