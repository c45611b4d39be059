-- Keys: a root seed and the moves from it down to a digest. Different keys have different digests, unless there is a collision.
use Rattle.std.proofs.Common.{◌≡◌, ◌≢◌, ℕ, ◌<◌, ◌^◌, Bool, true, false, not, ◌&&◌, ◌||◌, List, [], ◌∷◌, map as each, refl, sym, ap, subst, ◌∙◌, inl, inr}
use Rattle.std.specs.Prelude.{⊤, ◌⊎◌}
use Rattle.std.specs.Str.{bytes_eq}
use Rattle.std.proofs.lemmas.Slice.Eq.{bytes_eq-Decides}
use Rattle.std.proofs.lemmas.Bool.{false≢true}
use Rattle.calculus.proofs.Members.{Every}
use Rattle.sha2.specs.Sha256.{sha256}
use Rattle.calculus.specs.Form.{IsBytes, IsDigest}
use Rattle.calculus.specs.Seeds.{Seed, System, Start, Split, Body, Fresh, Comm, message, digest_of}
use Rattle.calculus.specs.Steps.{is_one_of, differ}
use Rattle.events.proofs.Texts.{sound-bytes, IsSound, one-seed}
use Rattle.events.proofs.Octets.{seed-digest}

-- a move from a digest down to the next: to a part, to what is unfolded under it, or to a name
pub data Move : Type 0 where
  split : ℕ → Move
  body : Move
  fresh : ℕ → Move

-- the seed that a move makes under a digest
abbrev pub under : Move → List ℕ → Seed
under (split i) s = Split s i
under body s = Body s
under (fresh k) s = Fresh s k

-- a seed that is made by no move
abbrev pub IsRoot : Seed → Type 0
IsRoot (System k) = ⊤
IsRoot (Start r s) = ⊤
IsRoot (Comm c xs n) = ⊤
IsRoot _ = ⊥

-- a move whose number fits in four bytes
abbrev pub NumberFits : Move → Type 0
NumberFits (split i) = i < 2 ^ 32
NumberFits body = ⊤
NumberFits (fresh k) = k < 2 ^ 32

-- the digest at the end of these moves, of which the last one stands first
abbrev pub stands : Seed → List Move → List ℕ
stands r [] = digest_of r
stands r (m ∷ ms) = digest_of (under m (stands r ms))

pub stands-digest : (r : Seed) (ms : List Move) → IsDigest (stands r ms)
stands-digest r [] = seed-digest r
stands-digest r (m ∷ ms) = seed-digest (under m (stands r ms))

under-sound : (m : Move) (s : List ℕ) → NumberFits m → IsDigest s → IsSound (under m s)
under-sound (split i) s h d = (d, h)
under-sound body s h d = d
under-sound (fresh k) s h d = (d, h)

under-not-root : (m : Move) (s : List ℕ) → IsRoot (under m s) → ⊥
under-not-root (split i) s h = h
under-not-root body s h = h
under-not-root (fresh k) s h = h

one-move : (m n : Move) (s u : List ℕ) → under m s ≡ under n u → (m ≡ n) × (s ≡ u)
one-move (split i) (split j) s u e = (cc, cc)
one-move body body s u e = (refl, cc)
one-move (fresh i) (fresh j) s u e = (cc, cc)
one-move m n s u e = cc

-- two different texts of bytes with one digest, of a kind of texts
pub record Clash (H : List ℕ → Type 0) : Type 0 where
  pub one : List ℕ
  pub other : List ℕ
  pub one_among : H one
  pub other_among : H other
  pub one_bytes : IsBytes one
  pub other_bytes : IsBytes other
  pub differ : one ≢ other
  pub same_digest : sha256 one ≡ sha256 other

-- each text on these moves from a root is of that kind
abbrev pub AreHashed : (List ℕ → Type 0) → Seed → List Move → Type 0
AreHashed H r [] = H (message r)
AreHashed H r (m ∷ ms) = H (message (under m (stands r ms))) × AreHashed H r ms

-- sound seeds with one digest are one, or their texts clash
one-digest : (H : List ℕ → Type 0) (s u : Seed) → IsSound s → IsSound u → H (message s) → H (message u) → digest_of s ≡ digest_of u → (s ≡ u) ⊎ Clash H
one-digest H s u a b h k e = go (bytes_eq (message s) (message u)) refl
  where
    go : (c : Bool) → bytes_eq (message s) (message u) ≡ c → (s ≡ u) ⊎ Clash H
    go true d = inl (one-seed s u a b ((bytes_eq-Decides (message s) (message u)).0 d))
    go false d = inr (record { one = message s; other = message u; one_among = h; other_among = k; one_bytes = sound-bytes s a; other_bytes = sound-bytes u b; differ = λ f. false≢true (sym d ∙ (bytes_eq-Decides (message s) (message u)).1 f); same_digest = e })

-- a root and the moves from it
pub record Key : Type 0 where
  pub root : Seed
  pub moves : List Move

abbrev pub value : Key → List ℕ
value k = stands k.root k.moves

-- a key whose digest is told by texts with room
pub record IsKey (H : List ℕ → Type 0) (k : Key) : Type 0 where
  pub is_root : IsRoot k.root
  pub sound : IsSound k.root
  pub rooms : Every NumberFits k.moves
  pub hashed : AreHashed H k.root k.moves

clash : (H : List ℕ → Type 0) (r q : Seed) (ms ns : List Move) → IsRoot r → IsRoot q → IsSound r → IsSound q → Every NumberFits ms → Every NumberFits ns → AreHashed H r ms → AreHashed H q ns → stands r ms ≡ stands q ns → ((r ≡ q) × (ms ≡ ns)) ⊎ Clash H
clash H r q [] [] h k a b hs ks x y e = go (one-digest H r q a b x y e)
  where
    go : (r ≡ q) ⊎ Clash H → ((r ≡ q) × Path (List Move) [] []) ⊎ Clash H
    go (inl f) = inl (f, refl)
    go (inr c) = inr c
clash H r q [] (n ∷ ns) h k a b hs ks x y e = go (one-digest H r (under n (stands q ns)) a (under-sound n (stands q ns) ks.0 (stands-digest q ns)) x y.0 e)
  where
    go : (r ≡ under n (stands q ns)) ⊎ Clash H → ((r ≡ q) × ([] ≡ n ∷ ns)) ⊎ Clash H
    go (inl f) = absurd (under-not-root n (stands q ns) (subst IsRoot f h))
    go (inr c) = inr c
clash H r q (m ∷ ms) [] h k a b hs ks x y e = go (one-digest H (under m (stands r ms)) q (under-sound m (stands r ms) hs.0 (stands-digest r ms)) b x.0 y e)
  where
    go : (under m (stands r ms) ≡ q) ⊎ Clash H → ((r ≡ q) × (m ∷ ms ≡ [])) ⊎ Clash H
    go (inl f) = absurd (under-not-root m (stands r ms) (subst IsRoot (sym f) k))
    go (inr c) = inr c
clash H r q (m ∷ ms) (n ∷ ns) h k a b hs ks x y e =
    go (clash H r q ms ns h k a b hs.1 ks.1 x.1 y.1) (one-digest H (under m (stands r ms)) (under n (stands q ns)) (under-sound m (stands r ms) hs.0 (stands-digest r ms)) (under-sound n (stands q ns) ks.0 (stands-digest q ns)) x.0 y.0 e)
  where
    more : (m ≡ n) → ((r ≡ q) × (ms ≡ ns)) ⊎ Clash H → ((r ≡ q) × (m ∷ ms ≡ n ∷ ns)) ⊎ Clash H
    more f (inl p) = inl (p.0, cc (f, p.1))
    more f (inr c) = inr c

    go : (stands r ms ≡ stands q ns → ((r ≡ q) × (ms ≡ ns)) ⊎ Clash H) → (under m (stands r ms) ≡ under n (stands q ns)) ⊎ Clash H → ((r ≡ q) × (m ∷ ms ≡ n ∷ ns)) ⊎ Clash H
    go next (inl f) = let p = one-move m n (stands r ms) (stands q ns) f in more p.0 (next p.1)
    go next (inr c) = inr c

key-clash : (H : List ℕ → Type 0) (k j : Key) → IsKey H k → IsKey H j → value k ≡ value j → (k ≡ j) ⊎ Clash H
key-clash H k j a b e = go (clash H k.root j.root k.moves j.moves a.is_root b.is_root a.sound b.sound a.rooms b.rooms a.hashed b.hashed e)
  where
    go : ((k.root ≡ j.root) × (k.moves ≡ j.moves)) ⊎ Clash H → (k ≡ j) ⊎ Clash H
    go (inl p) = inl (ap (λ r. record { root = r; moves = k.moves }) p.0 ∙ ap (λ m. record { root = j.root; moves = m }) p.1)
    go (inr c) = inr c

-- each two of these differ
abbrev pub AreApart : {A : Type 0} → List A → Type 0
AreApart [] = ⊤
AreApart (k ∷ ks) = Every (λ j. k ≢ j) ks × AreApart ks

first-differs : (H : List ℕ → Type 0) (k : Key) (js : List Key) → IsKey H k → Every (IsKey H) js → Every (λ j. k ≢ j) js → (is_one_of (value k) (each value js) ≡ false) ⊎ Clash H
first-differs H k [] a h d = inl refl
first-differs H k (j ∷ js) a h d = go (bytes_eq (value k) (value j)) refl (first-differs H k js a h.1 d.1)
  where
    go : (c : Bool) → bytes_eq (value k) (value j) ≡ c → (is_one_of (value k) (each value js) ≡ false) ⊎ Clash H → (c || is_one_of (value k) (each value js) ≡ false) ⊎ Clash H
    go false e r = r
    go true e r = same (key-clash H k j a h.0 ((bytes_eq-Decides (value k) (value j)).0 e))
      where
        same : (k ≡ j) ⊎ Clash H → (true ≡ false) ⊎ Clash H
        same (inl f) = absurd (d.0 f)
        same (inr x) = inr x

-- different keys have different digests, or there is a collision
pub keys-differ : (H : List ℕ → Type 0) (ks : List Key) → Every (IsKey H) ks → AreApart ks → (differ (each value ks) ≡ true) ⊎ Clash H
keys-differ H [] h d = inl refl
keys-differ H (k ∷ ks) h d = go (is_one_of (value k) (each value ks)) refl (first-differs H k ks h.0 h.1 d.0) (keys-differ H ks h.1 d.1)
  where
    go : (c : Bool) → is_one_of (value k) (each value ks) ≡ c → (is_one_of (value k) (each value ks) ≡ false) ⊎ Clash H → (differ (each value ks) ≡ true) ⊎ Clash H → (not c && differ (each value ks) ≡ true) ⊎ Clash H
    go c e (inr x) r = inr x
    go true e (inl f) r = absurd (false≢true (sym f ∙ e))
    go false e (inl f) r = r
