-- A loop over things that stand for trees, which counts what is to be counted of one after another.
use Rattle.std.proofs.Common.{◌≡◌, ℕ, ◌+◌, ◌<◌, ◌≤◌, ◌^◌, max, List, ◌∷◌, map, drop, length, get_or, All, refl, ap, sym, subst, ◌∙◌, arith}
use Rattle.std.proofs.lemmas.List.{drop_all, drop_more}
use Rattle.std.proofs.lemmas.List.Elements.{All-get_or}
use Rattle.calculus.specs.Form.{Sort, all, kids, row_of}
use Rattle.calculus.specs.Shape.{many}
use Rattle.calculus.specs.Size.{rise, height, heights}
use Rattle.calculus.specs.Tree.{Label, Tree, row, trees}
use Rattle.rho_term.specs.Faults.{own_faults, faults, all_faults}
use Rattle.rho_term.specs.Measured.{IsCount, IsMeasured, IsLeaf, IsJoin}
use Rattle.rho_term.specs.Measures.{in_u32, sign}
use Rattle.rho_term.specs.Normal.{IsNormal, AreNormal, IsOrdered}
use Rattle.rho_term.specs.Sizes.{in_u64, head_size, size, sizes}
use Rattle.rho_term.specs.declared.measures.Measures.{Measures}
use Rattle.rho_term.proofs.Trees.{map-same}
use Rattle.rho_term.proofs.Turns.{turn-item, turn-within, turns-done}

-- all are normal where those that are left are
abbrev pub HasNormal : {A : Type 0} (f : A → Tree) (xs : List A) (i : ℕ) → Type 0
HasNormal f xs i = AreNormal (trees (map f (drop i xs))) → AreNormal (trees (map f xs))

-- the same for things that stand for ordered trees
abbrev pub HasParts : {A : Type 0} (f : A → Tree) (xs : List A) (i : ℕ) → Type 0
HasParts f xs i = All (λ x. IsOrdered (f x)) xs → AreNormal (trees (map f (drop i xs))) → AreNormal (trees (map f xs))

-- with the heights of what is left, the greatest height so far is that of all
abbrev pub HasHeight : {A : Type 0} (f : A → Tree) (xs : List A) (i g : ℕ) → Type 0
HasHeight f xs i g = max g (in_u32 (heights (trees (map f (drop i xs))))) ≡ in_u32 (heights (trees (map f xs)))

-- there are faults so far or in what is left exactly where there are some at all
abbrev pub HasFaults : {A : Type 0} (s : Sort) (f : A → Tree) (xs : List A) (i n : ℕ) → Type 0
HasFaults s f xs i n = max n (sign (all_faults (all s) (trees (map f (drop i xs))))) ≡ sign (all_faults (all s) (trees (map f xs)))

-- with the lengths of what is left, that so far is the length of all after the four bytes of their number
abbrev pub HasLength : {A : Type 0} (f : A → Tree) (xs : List A) (i n : ℕ) → Type 0
HasLength f xs i n = (n < 2 ^ 64) × (in_u64 (n + sizes (trees (map f (drop i xs)))) ≡ in_u64 (4 + sizes (trees (map f xs))))

-- these three together
abbrev pub HasCount : {A : Type 0} (s : Sort) (f : A → Tree) (xs : List A) (i : ℕ) (m : Measures) → Type 0
HasCount s f xs i m = HasHeight f xs i m.height × HasFaults s f xs i m.faults × HasLength f xs i m.length

-- and that all are normal where those that are left are
abbrev pub HasMeasures : {A : Type 0} (s : Sort) (f : A → Tree) (xs : List A) (i : ℕ) (m : Measures) → Type 0
HasMeasures s f xs i m = HasNormal f xs i × HasCount s f xs i m

-- what is left begins with the one whose turn it is
pub next : {A : Type 0} (xs : List A) (i : ℕ) (d : A) → i < length xs → d ≡ get_or xs i d → drop i xs ≡ d ∷ drop (i + 1) xs
next xs i d h g = drop_more xs i d h ∙ ap (λ z. z ∷ drop (i + 1) xs) (sym g)

-- a turn of a loop that finds each in normal order
normal-step : {A : Type 0} (f : A → Tree) (xs : List A) (i : ℕ) (d : A) → i < length xs → d ≡ get_or xs i d → IsNormal (f d) → HasNormal f xs i → HasNormal f xs (i + 1)
normal-step f xs i d h e o r = λ n. r (subst (λ z. AreNormal (trees (map f z))) (sym (next xs i d h e)) (o, n))

-- the same for things that stand for ordered trees
pub parts-step : {A : Type 0} (f : A → Tree) (xs : List A) (i : ℕ) (d : A) → i < length xs → d ≡ get_or xs i d → (IsOrdered (f d) → IsNormal (f d)) → HasParts f xs i → HasParts f xs (i + 1)
parts-step f xs i d h e o r =
    λ a n. r a (subst (λ z. AreNormal (trees (map f z))) (sym (next xs i d h e)) (o (subst (λ z. IsOrdered (f z)) (sym e) (All-get_or (λ x. IsOrdered (f x)) xs i d h a)), n))

-- a turn, in numbers: m is that of the one whose turn it is, x that of the tree, y and z those of what is left before and after, and t that of all
height-turn : (g m n x y z t : ℕ) → m ≡ in_u32 x → n ≡ max g m → y ≡ max x z → max g (in_u32 y) ≡ t → max n (in_u32 z) ≡ t
height-turn g m n x y z t h k l r = omega arith

faults-turn : (g m n x y z t : ℕ) → m ≡ sign x → n ≡ max g m → y ≡ x + z → max g (sign y) ≡ t → max n (sign z) ≡ t
faults-turn g m n x y z t h k l r = omega arith

length-turn : (g m n x y z t : ℕ) → m ≡ in_u64 x → n ≡ in_u64 (g + m) → y ≡ x + z → in_u64 (g + y) ≡ t → in_u64 (n + z) ≡ t
length-turn g m n x y z t h k l r = omega arith

length-low : (n k : ℕ) → n ≡ in_u64 k → n < 2 ^ 64
length-low n k h = omega arith

-- a turn of a loop that says whether there are faults
pub faults-step : {A : Type 0} (s : Sort) (f : A → Tree) (xs : List A) (i : ℕ) (d : A) (g m n : ℕ) → i < length xs → d ≡ get_or xs i d → m ≡ sign (faults s (f d)) → n ≡ max g m → HasFaults s f xs i g → HasFaults s f xs (i + 1) n
faults-step s f xs i d g m n h e k q r =
    faults-turn g m n (faults s (f d)) (all_faults (all s) (trees (map f (drop i xs)))) (all_faults (all s) (trees (map f (drop (i + 1) xs)))) (sign (all_faults (all s) (trees (map f xs)))) k q
    (ap (λ z. all_faults (all s) (trees (map f z))) (next xs i d h e)) r

-- a turn of a loop that counts
pub count-step : {A : Type 0} (s : Sort) (f : A → Tree) (xs : List A) (i : ℕ) (d : A) (m e n : Measures) → i < length xs → d ≡ get_or xs i d → IsCount s (f d) e → IsJoin m e n → HasCount s f xs i m → HasCount s f xs (i + 1) n
count-step s f xs i d m e n h g k j r = (
  height-turn m.height e.height n.height (height (f d)) (heights (trees (map f (drop i xs)))) (heights (trees (map f (drop (i + 1) xs)))) (in_u32 (heights (trees (map f xs)))) k.0 j.0
      (ap (λ z. heights (trees (map f z))) (next xs i d h g)) r.0,
  faults-step s f xs i d m.faults e.faults n.faults h g k.1 j.1 r.1,
  (
    length-low n.length (m.length + e.length) j.2,
    length-turn m.length e.length n.length (size (f d)) (sizes (trees (map f (drop i xs)))) (sizes (trees (map f (drop (i + 1) xs)))) (in_u64 (4 + sizes (trees (map f xs)))) k.2 j.2
        (ap (λ z. sizes (trees (map f z))) (next xs i d h g)) r.2.1,
  ),
)

-- the start, in numbers
height-first : (g x : ℕ) → g ≡ 0 → max g (in_u32 x) ≡ in_u32 x
height-first g x h = omega arith

faults-first : (g x : ℕ) → g ≡ 0 → max g (sign x) ≡ sign x
faults-first g x h = omega arith

-- the end, in numbers, where y is left
height-last : (g y x r : ℕ) → y ≡ 0 → r ≡ 0 → max g (in_u32 y) ≡ in_u32 x → g ≡ in_u32 (r + x)
height-last g y x r h k q = omega arith

faults-last : (g y x w o : ℕ) → y ≡ 0 → o ≡ 0 → w ≡ x → max g (sign y) ≡ sign x → g ≡ sign (o + w)
faults-last g y x w o h k l q = omega arith

length-last : (n y x k : ℕ) → y ≡ 0 → k ≡ 4 → n < 2 ^ 64 → in_u64 (n + y) ≡ in_u64 (4 + x) → n ≡ in_u64 (k + x)
length-last n y x k h r l q = omega arith

-- the start of a loop, where nothing was counted yet
pub faults-start : {A : Type 0} (s : Sort) (f : A → Tree) (xs : List A) → HasFaults s f xs 0 0
faults-start s f xs = faults-first 0 (all_faults (all s) (trees (map f xs))) refl

pub count-start : {A : Type 0} (s : Sort) (f : A → Tree) (xs : List A) (m : Measures) → IsLeaf 4 m → HasCount s f xs 0 m
count-start s f xs m e = (
  height-first m.height (heights (trees (map f xs))) e.0,
  faults-first m.faults (all_faults (all s) (trees (map f xs))) e.1,
  (length-low m.length 4 e.2, ap (λ n. in_u64 (n + sizes (trees (map f xs)))) e.2),
)

-- whether there are faults at the end, in a form of this sort and this label
pub faults-end : {A : Type 0} (o s : Sort) (l : Label) (f : A → Tree) (xs : List A) (i n : ℕ) → kids o l 0 ≡ all s → own_faults l (trees (map f xs)) ≡ 0 → length xs ≤ i → HasFaults s f xs i n → n ≡ sign (faults o (many l (map f xs)))
faults-end o s l f xs i n k w h r =
    let ts = trees (map f xs) in
    faults-last n (all_faults (all s) (trees (map f (drop i xs)))) (all_faults (all s) ts) (all_faults (kids o l 0) ts) (own_faults l ts)
    (ap (λ z. all_faults (all s) (trees (map f z))) (drop_all i xs h)) w (ap (λ q. all_faults q ts) k) r

-- what was counted at the end, in a form that adds no more than the number of its constituents
pub count-end : {A : Type 0} (o s : Sort) (l : Label) (f : A → Tree) (xs : List A) (i : ℕ) (m : Measures) → kids o l 0 ≡ all s → own_faults l (trees (map f xs)) ≡ 0 → rise l ≡ 0 → head_size l ≡ 4
    → length xs ≤ i → HasCount s f xs i m → IsCount o (many l (map f xs)) m
count-end o s l f xs i m k w a b h r =
    let ts = trees (map f xs) in
    let left = drop_all i xs h in (
      height-last m.height (heights (trees (map f (drop i xs)))) (heights ts) (rise l) (ap (λ z. heights (trees (map f z))) left) a r.0,
      faults-end o s l f xs i m.faults k w h r.1,
      length-last m.length (sizes (trees (map f (drop i xs)))) (sizes ts) (head_size l) (ap (λ z. sizes (trees (map f z))) left) b r.2.0 r.2.1,
    )

-- the same loop over what is in normal order, and makes a row
pub row-start : {A : Type 0} (s : Sort) (f : A → Tree) (xs : List A) (m : Measures) → IsLeaf 4 m → HasMeasures s f xs 0 m
row-start s f xs m e = (λ n. n, count-start s f xs m e)

pub row-step : {A : Type 0} (s : Sort) (f : A → Tree) (ys xs : List A) (i : ℕ) (d : A) (m e n : Measures) → ys ≡ xs → i < length ys → d ≡ get_or ys i d → IsMeasured s (f d) e → IsJoin m e n → HasMeasures s f xs i m → HasMeasures s f xs (i + 1) n
row-step s f ys xs i d m e n v h g k j r =
    let within = turn-within ys xs i v h in
    let item = turn-item ys xs i d v g in
    (normal-step f xs i d within item k.0 r.0, count-step s f xs i d m e n within item k.1 j r.1)

pub row-end : {A : Type 0} (s : Sort) (f : A → Tree) (ys xs : List A) (i : ℕ) (m : Measures) → ys ≡ xs → length ys ≤ i → HasMeasures s f xs i m → IsMeasured (row_of s) (many row (map f xs)) m
row-end s f ys xs i m v h r =
    let done = turns-done ys xs i v h in (
      (tt, r.0 (subst (λ z. AreNormal (trees (map f z))) (sym (drop_all i xs done)) tt)),
      count-end (row_of s) s row f xs i m refl refl refl refl done r.1,
    )

-- where the things are trees themselves
pub trees-end : (s : Sort) (us ts : List Tree) (i : ℕ) (m : Measures) → us ≡ ts → length us ≤ i → HasMeasures s (λ t. t) ts i m → IsMeasured (row_of s) (many row ts) m
trees-end s us ts i m v h r = subst (λ zs. IsMeasured (row_of s) (many row zs) m) (map-same ts) (row-end s (λ t. t) us ts i m v h r)

-- where each is in normal order if it is ordered
pub parts-end : {A : Type 0} (f : A → Tree) (xs : List A) (i : ℕ) → length xs ≤ i → HasParts f xs i → All (λ x. IsOrdered (f x)) xs → AreNormal (trees (map f xs))
parts-end f xs i h r = λ a. r a (subst (λ z. AreNormal (trees (map f z))) (sym (drop_all i xs h)) tt)
