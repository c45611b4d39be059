-- Arguments of methods: lists of them, indices and ranges.
use Rattle.std.proofs.Common.{◌≡◌, ◌≤◌, ◌<◌, ◌+◌, ◌-◌, ℕ, zero, suc, Bool, true, false, ◌&&◌, cond, leb, List, [], ◌∷◌, length, get_or, take, drop, Result, Ok, Err, pos, negsuc, refl, sym, ap, ◌∙◌, subst, arith}
use Rattle.std.proofs.lemmas.Bool.{and_from, le-leb, lt-leb, and_right, cond-true, cond-false, leb-true, cases_cond}
use Rattle.std.proofs.lemmas.List.{drop-take}
use Rattle.calculus.specs.Tree.{Tree}
use Rattle.calculus.specs.declared.fault.FaultKind.{FaultKind}
use Rattle.calculus.specs.declared.fault.FaultKind.TheVariants as fault
use Rattle.calculus.specs.Outcome.{gives, fails}
use Rattle.calculus.specs.Operators.{Seen, an_int}
use Rattle.calculus.specs.Methods.{nth, nth_at, slice}
use Rattle.calculus.specs.declared.plain.Ground.{Ground}
use Rattle.value_ops.specs.Answers.{AnswersGround}
use Rattle.value_ops.specs.declared.stop.OpStop.{OpStop}
use Rattle.value_ops.specs.Places.{index_seen, range_seen}

-- the member of an index inside
pub nth_inside : {A : Type 0} (f : A → Tree) (xs : List A) (i : ℕ) (x : A) → i < length xs → x ≡ get_or xs i x → nth f xs i ≡ gives (f x)
nth_inside f [] i x h e = absurd (omega arith)
nth_inside f (y ∷ xs) zero x h e = ap (λ z. gives (f z)) (sym e)
nth_inside f (y ∷ xs) (suc i) x h e = nth_inside f xs i x (omega arith) e

pub nth_outside : {A : Type 0} (f : A → Tree) (xs : List A) (i : ℕ) → length xs ≤ i → nth f xs i ≡ fails fault.Index
nth_outside f [] i h = refl
nth_outside f (y ∷ xs) zero h = absurd (omega arith)
nth_outside f (y ∷ xs) (suc i) h = nth_outside f xs i (omega arith)

-- a range inside, and one that ends outside
pub slice_inside : {A : Type 0} (f : List A → Tree) (xs : List A) (i j : ℕ) → i ≤ j → j ≤ length xs → slice f xs (an_int (pos i)) (an_int (pos j)) ≡ gives (f (drop i (take j xs)))
slice_inside f xs i j h k =
    cond-true (leb i j && leb j (length xs)) (gives (f (drop i (take j xs)))) (fails fault.Index) (and_from (leb i j) (leb j (length xs)) (le-leb i j h) (le-leb j (length xs) k))

pub slice_outside : {A : Type 0} (f : List A → Tree) (xs : List A) (i j : ℕ) → length xs < j → slice f xs (an_int (pos i)) (an_int (pos j)) ≡ fails fault.Index
slice_outside f xs i j h =
    cond-false (leb i j && leb j (length xs)) (gives (f (drop i (take j xs)))) (fails fault.Index) (and_right (leb i j) (leb j (length xs)) (lt-leb j (length xs) h))

pub part_from : {A : Type 0} (xs : List A) (i j : ℕ) → i ≤ j → take (j - i) (drop i xs) ≡ drop i (take j xs)
part_from xs i j h =
    let e : i + (j - i) ≡ j = omega arith in
    subst (λ (n : ℕ). take (j - i) (drop i xs) ≡ drop i (take n xs)) e (sym (drop-take i (j - i) xs))

-- two arguments that are a range
pub record AreRange (a b : Seen) (i j : ℕ) : Type 0 where
  pub from : a ≡ an_int (pos i)
  pub to : b ≡ an_int (pos j)
  pub rises : i ≤ j

-- the ends in an answer
abbrev ends_of : Result (ℕ × ℕ) FaultKind → ℕ × ℕ
ends_of (Ok p) = p
ends_of (Err e) = (0, 0)

rising : (m n i j : ℕ) (t : Bool) → leb m n ≡ t → cond {A = Result (ℕ × ℕ) FaultKind} t (Ok (m, n)) (Err fault.Index) ≡ Ok (i, j) → AreRange (an_int (pos m)) (an_int (pos n)) i j
rising m n i j true l h =
    let p : m ≡ i = ap (λ r. (ends_of r).0) h in
    let q : n ≡ j = ap (λ r. (ends_of r).1) h in
    record { from = ap (λ x. an_int (pos x)) p; to = ap (λ x. an_int (pos x)) q; rises = omega (arith, leb-true m n l) }
rising m n i j false l h = cc

pub ranged : (a b : Seen) (i j : ℕ) → range_seen a b ≡ Ok (i, j) → AreRange a b i j
ranged (an_int (pos m)) (an_int (pos n)) i j h = rising m n i j (leb m n) refl h
ranged (an_int (pos m)) (an_int (negsuc n)) i j h = cc
ranged (an_int (negsuc m)) (an_int n) i j h = cc
ranged _ _ i j h = cc

no_range : {A : Type 0} (f : List A → Tree) (xs : List A) (m n : ℕ) (e : FaultKind) (t : Bool) → leb m n ≡ t → cond {A = Result (ℕ × ℕ) FaultKind} t (Ok (m, n)) (Err fault.Index) ≡ Err e → slice f xs (an_int (pos m)) (an_int (pos n)) ≡ fails e
no_range f xs m n e true l h = cc
no_range f xs m n e false l h =
    let p : fault.Index ≡ e = cc in
    cond-false (leb m n && leb n (length xs)) (gives (f (drop m (take n xs)))) (fails fault.Index) (rw l refl) ∙ ap fails p

pub not_ranged : {A : Type 0} (f : List A → Tree) (xs : List A) (a b : Seen) (e : FaultKind) → range_seen a b ≡ Err e → slice f xs a b ≡ fails e
not_ranged f xs (an_int (pos m)) (an_int (pos n)) e h = no_range f xs m n e (leb m n) refl h
not_ranged f xs (an_int (pos m)) (an_int (negsuc n)) e h = let p : fault.Index ≡ e = cc in ap fails p
not_ranged f xs (an_int (negsuc m)) (an_int n) e h = let p : fault.Index ≡ e = cc in ap fails p
not_ranged f xs _ _ e h = let p : fault.WrongType ≡ e = cc in ap fails p

-- at such arguments the range is known
pub at_range : {A : Type 0} (f : List A → Tree) (xs : List A) (a b : Seen) (i j : ℕ) (r : Result Ground OpStop) → AreRange a b i j → AnswersGround (slice f xs (an_int (pos i)) (an_int (pos j))) r → AnswersGround (slice f xs a b) r
at_range f xs a b i j r g h =
    let p = g.from in
    let q = g.to in
    rw (p, q) h

-- an argument that is an index
at_index : (v : Seen) (i : ℕ) → index_seen v ≡ Ok i → v ≡ an_int (pos i)
at_index (an_int (pos j)) i h = let p : j ≡ i = cc in ap (λ x. an_int (pos x)) p
at_index (an_int (negsuc j)) i h = cc
at_index _ i h = cc

pub index_inside : {A : Type 0} (f : A → Tree) (xs : List A) (v : Seen) (i : ℕ) (x : A) → index_seen v ≡ Ok i → i < length xs → x ≡ get_or xs i x → nth_at f xs v ≡ gives (f x)
index_inside f xs v i x h l e = ap (nth_at f xs) (at_index v i h) ∙ nth_inside f xs i x l e

pub index_outside : {A : Type 0} (f : A → Tree) (xs : List A) (v : Seen) (i : ℕ) → index_seen v ≡ Ok i → length xs ≤ i → nth_at f xs v ≡ fails fault.Index
index_outside f xs v i h l = ap (nth_at f xs) (at_index v i h) ∙ nth_outside f xs i l

pub no_index : {A : Type 0} (f : A → Tree) (xs : List A) (v : Seen) (e : FaultKind) → index_seen v ≡ Err e → nth_at f xs v ≡ fails e
no_index f xs (an_int (pos j)) e h = cc
no_index f xs (an_int (negsuc j)) e h = let p : fault.Index ≡ e = cc in ap fails p
no_index f xs _ e h = let p : fault.WrongType ≡ e = cc in ap fails p
