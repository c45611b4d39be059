-- The digest of the groups of rows is their root.
use Rattle.std.proofs.Common.{◌≡◌, ℕ, zero, suc, ◌-◌, ◌*◌, ◌<◌, ◌≤◌, Bool, true, false, cond, List, [], ◌∷◌, ◌++◌, length, map as each, drop, get_or, refl, ap, sym, ◌∙◌, arith}
use Rattle.std.specs.Prelude.{eqb, ⊤}
use Rattle.std.specs.List.{filter}
use Rattle.std.specs.Str.{bytes_eq}
use Rattle.std.proofs.Math.Seq.{drop-cons}
use Rattle.sha2.specs.Sha256.{sha256}
use Rattle.sha2.proofs.Facts256.{length-sha256}
use Rattle.calculus.specs.Bytes.{be32, joined}
use Rattle.calculus.specs.Order.{sorted}
use Rattle.calculus.specs.Rows.{Row, row_code}
use Rattle.calculus.specs.Root.{Group, key, halves, with_row, groups, leaf_digest, under_way, under, sixteen, digest_in, root}
use Rattle.calculus.proofs.Sorting.{length-sorted}
use Rattle.radix_root.specs.Leaves.{Leaves, digest_at, group_digest, half_of, has_half, set_digest, codes_at, Keeps, groups_of, changed}
use Rattle.radix_root.specs.Nodes.{AreLeaves}
use Rattle.radix_root.proofs.Found.{same, equal}
use Rattle.radix_root.proofs.Same.{same-digest}

-- groups as keys and digests
abbrev leaves_in : List Group → Leaves
leaves_in [] = []
leaves_in (g ∷ gs) = (g.key, leaf_digest g) ∷ leaves_in gs

-- groups without this many half bytes of their ways
abbrev shortened : ℕ → List Group → List Group
shortened n [] = []
shortened n (g ∷ gs) = record { key = g.key; way = drop n g.way; rows = g.rows } ∷ shortened n gs

-- the codes of a key among groups
abbrev codes_in : List Group → List ℕ → List (List ℕ)
codes_in [] k = []
codes_in (g ∷ gs) k = cond (bytes_eq k g.key) g.rows (codes_in gs k)

-- a key of 32 bytes with its half bytes, rows, and no later group of this key
abbrev IsSound : Group → List Group → Type 0
IsSound g gs = (length g.key ≡ 32) × (0 < length g.rows) × (codes_in gs g.key ≡ []) × (g.way ≡ halves g.key)

abbrev AreSound : List Group → Type 0
AreSound [] = ⊤
AreSound (g ∷ gs) = IsSound g gs × AreSound gs

module _ (k c : List ℕ) where
  codes-with : (gs : List Group) (j : List ℕ) → codes_in (with_row k c gs) j ≡ cond (bytes_eq j k) (c ∷ codes_in gs j) (codes_in gs j)
  codes-with [] j = refl
  codes-with (g ∷ gs) j = go (bytes_eq k g.key) refl (bytes_eq j g.key) refl (bytes_eq j k) refl (codes-with gs j)
    where
      go : (b : Bool) → bytes_eq k g.key ≡ b → (d : Bool) → bytes_eq j g.key ≡ d → (e : Bool) → bytes_eq j k ≡ e
          → codes_in (with_row k c gs) j ≡ cond (bytes_eq j k) (c ∷ codes_in gs j) (codes_in gs j)
          → codes_in (cond b (record { key = k; way = g.way; rows = c ∷ g.rows } ∷ gs) (g ∷ with_row k c gs)) j
          ≡ cond e (c ∷ cond d g.rows (codes_in gs j)) (cond d g.rows (codes_in gs j))
      go true p true q true r h = ap (λ z. cond z (c ∷ g.rows) (codes_in gs j)) r
      go true p false q false r h = ap (λ z. cond z (c ∷ g.rows) (codes_in gs j)) r
      go true p true q false r h = cc (r, equal j k (same j g.key q ∙ sym (same k g.key p)))
      go true p false q true r h = cc (q, equal j g.key (same j k r ∙ same k g.key p))
      go false p true q true r h = cc (p, equal k g.key (sym (same j k r) ∙ same j g.key q))
      go false p true q false r h = ap (λ z. cond z g.rows (codes_in (with_row k c gs) j)) q
      go false p false q true r h = ap (λ z. cond z g.rows (codes_in (with_row k c gs) j)) q ∙ h ∙ ap (λ z. cond z (c ∷ codes_in gs j) (codes_in gs j)) r
      go false p false q false r h = ap (λ z. cond z g.rows (codes_in (with_row k c gs) j)) q ∙ h ∙ ap (λ z. cond z (c ∷ codes_in gs j) (codes_in gs j)) r

  sound-with : length k ≡ 32 → (gs : List Group) → AreSound gs → AreSound (with_row k c gs)
  sound-with l [] a = ((l, omega arith, refl, refl), tt)
  sound-with l (g ∷ gs) a = go (bytes_eq k g.key) refl (bytes_eq g.key k) refl (sound-with l gs a.1)
    where
      go : (b : Bool) → bytes_eq k g.key ≡ b → (e : Bool) → bytes_eq g.key k ≡ e → AreSound (with_row k c gs)
          → AreSound (cond b (record { key = k; way = g.way; rows = c ∷ g.rows } ∷ gs) (g ∷ with_row k c gs))
      go true p e q h = ((l, omega arith, ap (codes_in gs) (same k g.key p) ∙ a.0.2, a.0.3 ∙ ap halves (sym (same k g.key p))), a.1)
      go false p true q h = cc (p, equal k g.key (sym (same g.key k q)))
      go false p false q h = ((a.0.0, a.0.1, codes-with gs g.key ∙ ap (λ z. cond z (c ∷ codes_in gs g.key) (codes_in gs g.key)) q ∙ a.0.2, a.0.3), h)

sound-groups : (rs : List Row) → AreSound (groups rs)
unfolding key
sound-groups [] = tt
sound-groups (r ∷ rs) = sound-with (key r) (row_code r) (length-sha256 _) (groups rs) (sound-groups rs)

codes-groups : (rs : List Row) (k : List ℕ) → codes_in (groups rs) k ≡ codes_at rs k
codes-groups [] k = refl
codes-groups (r ∷ rs) k =
    codes-with (key r) (row_code r) (groups rs) k ∙ ap (λ cs. cond (bytes_eq k (key r)) (row_code r ∷ cs) cs) (codes-groups rs k)

group-some : (k : List ℕ) (cs : List (List ℕ)) → 0 < length cs → group_digest k cs ≡ sha256 (0x10 ∷ (k ++ (be32 (length cs) ++ joined cs)))
group-some k [] h = absurd (omega arith)
group-some k (c ∷ cs) h = refl

sorted-none : sorted [] ≡ []
unfolding sorted
sorted-none = refl

leaf-group : (g : Group) → 0 < length g.rows → leaf_digest g ≡ group_digest g.key (sorted g.rows)
leaf-group g h =
    let long : length (sorted g.rows) ≡ length g.rows = length-sorted g.rows in
    ap (λ n. sha256 (0x10 ∷ (g.key ++ (be32 n ++ joined (sorted g.rows))))) (sym long) ∙ sym (group-some g.key (sorted g.rows) (omega (arith, h, long)))

-- the digest of a key among groups is that of its codes
found-in : (gs : List Group) → AreSound gs → (k : List ℕ) → digest_at (leaves_in gs) k ≡ group_digest k (sorted (codes_in gs k))
found-in [] a k = sym (ap (group_digest k) sorted-none)
found-in (g ∷ gs) a k = go (bytes_eq k g.key) refl (found-in gs a.1 k)
  where
    go : (b : Bool) → bytes_eq k g.key ≡ b → digest_at (leaves_in gs) k ≡ group_digest k (sorted (codes_in gs k))
        → cond b (leaf_digest g) (digest_at (leaves_in gs) k) ≡ group_digest k (sorted (cond b g.rows (codes_in gs k)))
    go true p h = leaf-group g a.0.1 ∙ ap (λ j. group_digest j (sorted g.rows)) (sym (same k g.key p))
    go false p h = h

sound-leaves : (gs : List Group) → AreSound gs → AreLeaves (leaves_in gs)
sound-leaves [] a = tt
sound-leaves (g ∷ gs) a =
    ((a.0.0, length-sha256 _, found-in gs a.1 g.key ∙ ap (λ cs. group_digest g.key (sorted cs)) a.0.2 ∙ ap (group_digest g.key) sorted-none), sound-leaves gs a.1)

length-halves : (bs : List ℕ) → length (halves bs) ≡ 2 * length bs
length-halves [] = refl
length-halves (b ∷ bs) = omega (arith, length-halves bs)

-- each group's way has the half bytes of its key
abbrev AreWays : List Group → Type 0
AreWays [] = ⊤
AreWays (g ∷ gs) = ((length g.key ≡ 32) × (g.way ≡ halves g.key)) × AreWays gs

sound-ways : (gs : List Group) → AreSound gs → AreWays gs
sound-ways [] a = tt
sound-ways (g ∷ gs) a = ((a.0.0, a.0.3), sound-ways gs a.1)

-- the groups whose key has a half byte
abbrev halved : ℕ → ℕ → List Group → List Group
halved d x gs = filter (λ g. eqb (half_of d g.key) x) gs

halved-ways : (d x : ℕ) (gs : List Group) → AreWays gs → AreWays (halved d x gs)
halved-ways d x [] a = tt
halved-ways d x (g ∷ gs) a = go (eqb (half_of d g.key) x) (halved-ways d x gs a.1)
  where
    go : (b : Bool) → AreWays (halved d x gs) → AreWays (cond b (g ∷ halved d x gs) (halved d x gs))
    go true h = (a.0, h)
    go false h = h

halved-leaves : (d x : ℕ) (gs : List Group) → leaves_in (halved d x gs) ≡ filter (has_half d x) (leaves_in gs)
halved-leaves d x [] = refl
halved-leaves d x (g ∷ gs) = go (eqb (half_of d g.key) x) (halved-leaves d x gs)
  where
    go : (b : Bool) → leaves_in (halved d x gs) ≡ filter (has_half d x) (leaves_in gs)
        → leaves_in (cond b (g ∷ halved d x gs) (halved d x gs)) ≡ cond b ((g.key, leaf_digest g) ∷ filter (has_half d x) (leaves_in gs)) (filter (has_half d x) (leaves_in gs))
    go true h = ap (λ ls. (g.key, leaf_digest g) ∷ ls) h
    go false h = h

under-head : (h d : ℕ) (g : Group) (gs : List Group) (w : List ℕ) → d < length w
    → under_way h g (drop d w) gs ≡ cond (eqb (get_or w d 0) h) (record { key = g.key; way = drop (suc d) w; rows = g.rows } ∷ gs) gs
under-head h d g gs w l = ap (λ v. under_way h g v gs) (drop-cons w d 0 l)

under-short : (h d : ℕ) (gs : List Group) → d < 64 → AreWays gs → under h (shortened d gs) ≡ shortened (suc d) (halved d h gs)
under-short h d [] l w = refl
under-short h d (g ∷ gs) l w =
    let far : d < length g.way = omega (arith, l, length-halves g.key, ap length w.0.1, w.0.0) in
    let cut : Group = record { key = g.key; way = drop d g.way; rows = g.rows } in
    under-head h d cut (under h (shortened d gs)) g.way far
    ∙ ap (λ v. cond (eqb (get_or v d 0) h) (record { key = g.key; way = drop (suc d) g.way; rows = g.rows } ∷ under h (shortened d gs)) (under h (shortened d gs))) w.0.1
    ∙ go (eqb (get_or (halves g.key) d 0) h) (under-short h d gs l w.1)
  where
    go : (b : Bool) → under h (shortened d gs) ≡ shortened (suc d) (halved d h gs)
        → cond b (record { key = g.key; way = drop (suc d) g.way; rows = g.rows } ∷ under h (shortened d gs)) (under h (shortened d gs))
        ≡ shortened (suc d) (cond b (g ∷ halved d h gs) (halved d h gs))
    go true e = ap (λ xs. record { key = g.key; way = drop (suc d) g.way; rows = g.rows } ∷ xs) e
    go false e = e

each-same : (f g : ℕ → List ℕ) → ((x : ℕ) → f x ≡ g x) → (xs : List ℕ) → each f xs ≡ each g xs
each-same f g h [] = refl
each-same f g h (x ∷ xs) = cc (h x, each-same f g h xs)

-- the digest of groups, as that of keys and digests
bridge : (n : ℕ) (gs : List Group) → n ≤ 64 → AreWays gs → digest_in n (shortened (64 - n) gs) ≡ set_digest n (leaves_in gs)
bridge zero [] l a = refl
bridge (suc n) [] l a = refl
bridge zero (g ∷ []) l a = refl
bridge (suc n) (g ∷ []) l a = refl
bridge zero (g ∷ h ∷ gs) l a = refl
bridge (suc n) (g ∷ h ∷ gs) l a =
    let d : ℕ = 64 - suc n in
    let next : suc d ≡ 64 - n = omega (arith, l) in
    let place : d ≡ 63 - n = omega (arith, l) in
    let below : d < 64 = omega (arith, l) in
    ap (λ ds. sha256 (0x11 ∷ joined ds))
    (each-same (λ x. digest_in n (under x (shortened d (g ∷ h ∷ gs)))) (λ x. set_digest n (filter (has_half (63 - n) x) (leaves_in (g ∷ h ∷ gs))))
    (λ x. ap (digest_in n) (under-short x d (g ∷ h ∷ gs) below a)
    ∙ ap (λ m. digest_in n (shortened m (halved d x (g ∷ h ∷ gs)))) next
    ∙ bridge n (halved d x (g ∷ h ∷ gs)) (omega (arith, l)) (halved-ways d x (g ∷ h ∷ gs) a)
    ∙ ap (set_digest n) (halved-leaves d x (g ∷ h ∷ gs))
    ∙ ap (λ p. set_digest n (filter (has_half p x) (leaves_in (g ∷ h ∷ gs)))) place) sixteen)

short-none : (gs : List Group) → shortened 0 gs ≡ gs
short-none [] = refl
short-none (g ∷ gs) = ap (λ hs. g ∷ hs) (short-none gs)

-- groups with the digests of the rows have their root
pub root-meets : (ls : Leaves) (rs : List Row) → AreLeaves ls → Keeps ls (groups_of rs) → set_digest 64 ls ≡ root rs
unfolding root
root-meets ls rs a k =
    let gs : List Group = groups rs in
    let s : AreSound gs = sound-groups rs in
    same-digest 64 ls (leaves_in gs) a (sound-leaves gs s) (λ j. k j ∙ ap (λ cs. group_digest j (sorted cs)) (sym (codes-groups rs j)) ∙ sym (found-in gs s j))
    ∙ sym (bridge 64 gs (omega arith) (sound-ways gs s))
    ∙ ap (digest_in 64) (short-none gs)

-- groups with another digest of one key keep other codes of this key
pub keeps-changed : (ls ms : Leaves) (f : List ℕ → List (List ℕ)) (k v : List ℕ) (cs : List (List ℕ)) → ((j : List ℕ) → digest_at ms j ≡ cond (bytes_eq j k) v (digest_at ls j))
    → v ≡ group_digest k cs → Keeps ls f → Keeps ms (changed f k cs)
keeps-changed ls ms f k v cs is e h j = is j ∙ go (bytes_eq j k) refl
  where
    go : (b : Bool) → bytes_eq j k ≡ b → cond b v (digest_at ls j) ≡ group_digest j (cond b cs (f j))
    go true p = e ∙ ap (λ x. group_digest x cs) (sym (same j k p))
    go false p = h j
