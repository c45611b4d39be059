-- Groups that are given one after another.
use Rattle.std.proofs.Common.{◌≡◌, ℕ, zero, suc, ◌<◌, ◌≤◌, Bool, true, false, cond, List, [], ◌∷◌, ◌++◌, length, get_or, set, take, drop, refl, ap, sym, ◌∙◌, subst, arith}
use Rattle.std.specs.Str.{bytes_eq}
use Rattle.radix_root.specs.declared.group.Group.{Group}
use Rattle.radix_root.specs.Leaves.{Leaves, digest_at, half_of}
use Rattle.radix_root.specs.Groups.{given, digest_after, AllGroups, ShareAll}
use Rattle.radix_root.specs.Nodes.{Seen, leaves_of, AllKeys, AreLeaves, AllShare, AllHalf, Shares, IsNode, IsFork, IsPlace}
use Rattle.radix_root.proofs.Found.{same, differ, all-found, keys-both}
use Rattle.radix_root.proofs.Halves.{shares-more, all-share-more}
use Rattle.radix_root.proofs.Places.{child-at, fork-changed, keys-at, place-within, place-half}

-- keys that share with one share with each other
shares-of : (d : ℕ) (p k l : List ℕ) → Shares d p k → Shares d p l → Shares d k l
shares-of d p k l s t i m = t i m ∙ sym (s i m)

pub all-shared : (d : ℕ) (p k : List ℕ) (ls : Leaves) → Shares d p k → AllShare d p ls → AllShare d k ls
all-shared d p k ls s a = keys-both (Shares d p) (Shares d p) (Shares d k) (λ l t u. shares-of d p k l s t) ls a a

-- a key with a digest is one of the groups' keys
found-key : (P : List ℕ → Type 0) (k : List ℕ) (ls : Leaves) → AllKeys P ls → (digest_at ls k ≡ [] → ⊥) → P k
found-key P k [] a n = absurd (n refl)
found-key P k (l ∷ ls) a n = go (bytes_eq k l.0) refl n (found-key P k ls a.1)
  where
    go : (b : Bool) → bytes_eq k l.0 ≡ b → (cond b l.1 (digest_at ls k) ≡ [] → ⊥) → ((digest_at ls k ≡ [] → ⊥) → P k) → P k
    go true t m f = subst P (sym (same k l.0 t)) a.0
    go false t m f = f m

after-key : (P : List ℕ → Type 0) (k : List ℕ) (gs : List Group) (v : List ℕ) → AllGroups P gs → ((v ≡ [] → ⊥) → P k) → (digest_after gs v k ≡ [] → ⊥) → P k
after-key P k [] v a f n = f n
after-key P k (g ∷ gs) v a f n = after-key P k gs (cond (bytes_eq k g.key.0) (given g.digest) v) a.1 (go (bytes_eq k g.key.0) refl) n
  where
    go : (b : Bool) → bytes_eq k g.key.0 ≡ b → (cond b (given g.digest) v ≡ [] → ⊥) → P k
    go true t m = subst P (sym (same k g.key.0 t)) a.0
    go false t m = f m

-- where each key was so and each given one is, each key is so
pub keys-after : (P : List ℕ → Type 0) (ls ms : Leaves) (gs : List Group) → AreLeaves ms → AllGroups P gs → AllKeys P ls
    → ((k : List ℕ) → digest_at ms k ≡ digest_after gs (digest_at ls k) k) → AllKeys P ms
keys-after P ls ms gs w a b f = all-found P ms w (λ k n. after-key P k gs (digest_at ls k) a (found-key P k ls b) (λ z. n (f k ∙ z)))

-- groups after others
pub after-join : (gs hs : List Group) (v k : List ℕ) → digest_after (gs ++ hs) v k ≡ digest_after hs (digest_after gs v k) k
after-join [] hs v k = refl
after-join (g ∷ gs) hs v k = after-join gs hs (cond (bytes_eq k g.key.0) (given g.digest) v) k

-- the first groups and those after them
pub pieces : (n : ℕ) (gs : List Group) → take n gs ++ drop n gs ≡ gs
pieces zero gs = refl
pieces (suc n) [] = refl
pieces (suc n) (g ∷ gs) = ap (λ hs. g ∷ hs) (pieces n gs)

-- one group more
pub after-more : (gs : List Group) (i : ℕ) (d : Group) (v k : List ℕ) → i < length gs
    → digest_after (take (suc i) gs) v k ≡ cond (bytes_eq k (get_or gs i d).key.0) (given (get_or gs i d).digest) (digest_after (take i gs) v k)
after-more [] i d v k l = absurd (omega (arith, l))
after-more (h ∷ gs) zero d v k l = refl
after-more (h ∷ gs) (suc i) d v k l = after-more gs i d (cond (bytes_eq k h.key.0) (given h.digest) v) k (omega (arith, l))

-- a key that is not given keeps its digest
after-stays : (P : List ℕ → Type 0) (gs : List Group) (k v : List ℕ) → AllGroups P gs → (P k → ⊥) → digest_after gs v k ≡ v
after-stays P [] k v a n = refl
after-stays P (g ∷ gs) k v a n =
    ap (λ b. digest_after gs (cond b (given g.digest) v) k) (differ k g.key.0 (λ e. n (subst P (sym e) a.0))) ∙ after-stays P gs k v a.1 n

pub groups-at : (P : List ℕ → Type 0) (gs : List Group) (i : ℕ) (d : Group) → AllGroups P gs → i < length gs → P (get_or gs i d).key.0
groups-at P [] i d a l = absurd (omega (arith, l))
groups-at P (h ∷ gs) zero d a l = a.0
groups-at P (h ∷ gs) (suc i) d a l = groups-at P gs i d a.1 (omega (arith, l))

groups-both : (P Q R : List ℕ → Type 0) → ((k : List ℕ) → P k → Q k → R k) → (gs : List Group) → AllGroups P gs → AllGroups Q gs → AllGroups R gs
groups-both P Q R f [] a b = tt
groups-both P Q R f (g ∷ gs) a b = (f g.key.0 a.0 b.0, groups-both P Q R f gs a.1 b.1)

pub groups-first : (P : List ℕ → Type 0) (n : ℕ) (gs : List Group) → AllGroups P gs → AllGroups P (take n gs)
groups-first P zero gs a = tt
groups-first P (suc n) [] a = tt
groups-first P (suc n) (g ∷ gs) a = (a.0, groups-first P n gs a.1)

pub groups-last : (P : List ℕ → Type 0) (n : ℕ) (gs : List Group) → AllGroups P gs → AllGroups P (drop n gs)
groups-last P zero gs a = a
groups-last P (suc n) [] a = tt
groups-last P (suc n) (g ∷ gs) a = groups-last P n gs a.1

pub groups-more : (P : List ℕ → Type 0) (gs : List Group) (i : ℕ) (d : Group) → AllGroups P (take i gs) → i < length gs → P (get_or gs i d).key.0 → AllGroups P (take (suc i) gs)
groups-more P [] i d a l p = tt
groups-more P (h ∷ gs) zero d a l p = (p, tt)
groups-more P (h ∷ gs) (suc i) d a l p = (a.0, groups-more P gs i d a.1 (omega (arith, l)) p)

-- any keys share no half bytes
pub none-shared : (d : ℕ) (one : List ℕ) (gs : List Group) → d ≡ 0 → AllGroups (Shares d one) gs
none-shared d one [] e = tt
none-shared d one (g ∷ gs) e = ((λ i h. absurd (omega (arith, h, e))), none-shared d one gs e)

-- keys with the half byte of a node share one more half byte with its keys
pub run-shared : (d h j : ℕ) (cs : List Seen) (o : Seen) (gs : List Group) → IsFork d cs → ShareAll d (leaves_of cs) gs → AllGroups (λ k. half_of d k ≡ h) gs → 1 ≤ length gs
    → IsPlace h cs j → get_or cs j o ≡ o → ShareAll o.depth o.leaves gs
run-shared d h j cs o [] f s a l p e = absurd (omega (arith, l))
run-shared d h j cs o (g ∷ gs) f s a l p e =
    let one = g.key.0 in
    let within = place-within h cs j p in
    let child = child-at d j cs o f.children within e in
    let share : AllShare d one o.leaves = all-shared d s.one one o.leaves s.groups.0 (keys-at (Shares d s.one) j cs o s.leaves within e) in
    let more : AllShare (suc d) one o.leaves = all-share-more d one o.leaves share (subst (λ m. AllHalf d m o.leaves) (place-half h cs j o p e ∙ sym a.0) child.1) in
    let all : AllGroups (Shares (suc d) one) (g ∷ gs) =
    groups-both (Shares d s.one) (λ k. half_of d k ≡ h) (Shares (suc d) one) (λ k t q. shares-more d one k (shares-of d s.one one k s.groups.0 t) (q ∙ sym a.0)) (g ∷ gs) s.groups a in
    subst (λ m. ShareAll m o.leaves (g ∷ gs)) (sym child.0.depth) (record { one = one; leaves = more; groups = all })

-- nodes of which that of a half byte was given groups with this half byte
pub run-given : (d h j : ℕ) (cs : List Seen) (o n : Seen) (gs : List Group) → IsFork d cs → AllGroups (λ k. half_of d k ≡ h) gs → IsPlace h cs j → get_or cs j o ≡ o → IsNode o.depth n → n.half ≡ o.half
    → ((k : List ℕ) → digest_at n.leaves k ≡ digest_after gs (digest_at o.leaves k) k)
    → IsFork d (set cs j n) × ((k : List ℕ) → digest_at (leaves_of (set cs j n)) k ≡ digest_after gs (digest_at (leaves_of cs) k) k)
run-given d h j cs o n gs f a p e w i is =
    fork-changed d j cs o n (λ k v. digest_after gs v k) f (place-within h cs j p) e w i
    (λ k v m. after-stays (λ q. half_of d q ≡ h) gs k v a (λ q. m (q ∙ sym (place-half h cs j o p e)))) is
