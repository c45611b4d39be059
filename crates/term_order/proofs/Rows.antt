-- The order of two lists: by their lengths, and then by the first members that differ.
use Rattle.std.proofs.Common.{◌≡◌, ℕ, zero, suc, ◌<◌, ◌≤◌, ◌+◌, ◌^◌, true, false, List, [], ◌∷◌, map, drop, get_or, length, refl, sym, ap, ◌∙◌, subst, arith, add-one}
use Rattle.std.specs.Ordering.{nat_cmp, ordering_then, is_ne}
use Rattle.std.specs.declared.cmp.Ordering.{Ordering}
use Rattle.std.specs.declared.cmp.Ordering.TheVariants.{Equal}
use Rattle.std.proofs.lemmas.List.{length-map, drop_all, get_or-map}
use Rattle.calculus.specs.Tree.{row, Tree, trees}
use Rattle.calculus.specs.Bytes.{joined}
use Rattle.calculus.specs.Shape.{count, many}
use Rattle.calculus.specs.Order.{byte_cmp}
use Rattle.calculus.specs.Code.{code, codes}
use Rattle.calculus.specs.Form.{Sort, all, row_of}
use Rattle.calculus.proofs.Formed.{count-le}
use Rattle.calculus.proofs.Tails.{IsFine}
use Rattle.term_order.specs.Orders.{Suits, ComparesAs}
use Rattle.term_order.proofs.Comparing.{cmp-counted, decided, undecided}
use Rattle.term_order.proofs.Suiting.{SuitAll, kids_suit, member_suits, members_suit, cmp_tree}

count-trees : (ts : List Tree) → count (trees ts) ≡ length ts
count-trees [] = refl
count-trees (t ∷ ts) = omega (arith, count-trees ts)

-- the codes of the members from one place on
abbrev pub left : List Tree → ℕ → List ℕ
left ts i = joined (codes (trees (drop i ts)))

-- two lists are equal as far as this place, or the first members there decide
abbrev pub Reaches : Sort → List Tree → List Tree → ℕ → Type 0
Reaches s ts us i = Suits (row_of s) (many row ts) → Suits (row_of s) (many row us) → byte_cmp (code (many row ts)) (code (many row us)) ≡ byte_cmp (left ts i) (left us i)

members : (s : Sort) (ts : List Tree) → Suits (row_of s) (many row ts) → SuitAll (all s) (trees ts)
members s ts h = kids_suit (row_of s) row (trees ts) h

few : (s : Sort) (ts : List Tree) → Suits (row_of s) (many row ts) → count (trees ts) < 2 ^ 32
few s ts h = omega (arith, count-le IsFine (all s) (trees ts) (members s ts h).formed, (members s ts h).short)

pub at : (s : Sort) (ts : List Tree) (i : ℕ) (d : Tree) → i < length ts → SuitAll (all s) (trees ts) → Suits s (get_or ts i d)
at s [] i d h f = absurd (omega arith)
at s (t ∷ ts) zero d h f = member_suits s t (trees ts) f
at s (t ∷ ts) (suc i) d h f = at s ts i d (omega arith) (members_suit s t (trees ts) f)

-- one member more
more : (s : Sort) (ts us : List Tree) (i : ℕ) (d e : Tree) → i < length ts → i < length us → SuitAll (all s) (trees ts) → SuitAll (all s) (trees us)
    → byte_cmp (left ts i) (left us i) ≡ ordering_then (byte_cmp (code (get_or ts i d)) (code (get_or us i e))) (byte_cmp (left ts (suc i)) (left us (suc i)))
more s [] us i d e h k f g = absurd (omega arith)
more s (t ∷ ts) [] i d e h k f g = absurd (omega arith)
more s (t ∷ ts) (u ∷ us) zero d e h k f g = cmp_tree s t u (joined (codes (trees ts))) (joined (codes (trees us))) (member_suits s t (trees ts) f) (member_suits s u (trees us) g)
more s (t ∷ ts) (u ∷ us) (suc i) d e h k f g = more s ts us i d e (omega arith) (omega arith) (members_suit s t (trees ts) f) (members_suit s u (trees us) g)

module _ (s : Sort) (ts us : List Tree) where
  both : Suits (row_of s) (many row ts) → Suits (row_of s) (many row us)
      → byte_cmp (code (many row ts)) (code (many row us)) ≡ ordering_then (nat_cmp (length ts) (length us)) (byte_cmp (left ts 0) (left us 0))
  both h k =
      cmp-counted (count (trees ts)) (count (trees us)) (left ts 0) (left us 0) (few s ts h) (few s us k)
      ∙ ap (λ n. ordering_then (nat_cmp n (count (trees us))) (byte_cmp (left ts 0) (left us 0))) (count-trees ts)
      ∙ ap (λ n. ordering_then (nat_cmp (length ts) n) (byte_cmp (left ts 0) (left us 0))) (count-trees us)

  module _ (o : Ordering) (e : o ≡ nat_cmp (length ts) (length us)) where
    pub by_number : is_ne o ≡ true → ComparesAs (row_of s) (many row ts) (many row us) o
    by_number n h k = decided o (byte_cmp (left ts 0) (left us 0)) n ∙ ap (λ p. ordering_then p (byte_cmp (left ts 0) (left us 0))) e ∙ sym (both h k)

    pub at_start : is_ne o ≡ false → Reaches s ts us 0
    at_start n h k = both h k ∙ sym (ap (λ p. ordering_then p (byte_cmp (left ts 0) (left us 0))) e) ∙ sym (undecided o (byte_cmp (left ts 0) (left us 0)) n)

  module _ (i : ℕ) (before : Reaches s ts us i) where
    pub at_end : length ts ≤ i → length us ≤ i → ComparesAs (row_of s) (many row ts) (many row us) Equal
    at_end a b h k =
        let p : Equal ≡ byte_cmp (left ts i) (left us i) = rw (drop_all i ts a, drop_all i us b) in
        p ∙ sym (before h k)

    -- the members there are compared
    module _ (t u : Tree) (a : i < length ts) (b : i < length us) (p : t ≡ get_or ts i t) (q : u ≡ get_or us i u) (o : Ordering) (c : ComparesAs s t u o) where
      next : Suits (row_of s) (many row ts) → Suits (row_of s) (many row us) → byte_cmp (code (many row ts)) (code (many row us)) ≡ ordering_then o (byte_cmp (left ts (suc i)) (left us (suc i)))
      next h k =
          let f = members s ts h in
          let g = members s us k in
          let m : Suits s t = subst (Suits s) (sym p) (at s ts i t a f) in
          let n : Suits s u = subst (Suits s) (sym q) (at s us i u b g) in
          let z = byte_cmp (left ts (suc i)) (left us (suc i)) in
          before h k ∙ more s ts us i t u a b f g ∙ ap (λ x. ordering_then (byte_cmp (code x) (code (get_or us i u))) z) (sym p)
          ∙ ap (λ x. ordering_then (byte_cmp (code t) (code x)) z) (sym q) ∙ ap (λ x. ordering_then x z) (sym (c m n))

      pub member_decides : is_ne o ≡ true → ComparesAs (row_of s) (many row ts) (many row us) o
      member_decides n h k = decided o _ n ∙ sym (next h k)

      pub goes_on : is_ne o ≡ false → Reaches s ts us (i + 1)
      goes_on n h k = rw (add-one) (next h k ∙ sym (undecided o _ n))

-- the same for things that stand for trees
module _ {A : Type 0} (f : A → Tree) (s : Sort) (xs ys : List A) where
  module _ (o : Ordering) (e : o ≡ nat_cmp (length xs) (length ys)) where
    lengths : o ≡ nat_cmp (length (map f xs)) (length (map f ys))
    lengths = e ∙ ap (λ n. nat_cmp n (length ys)) (sym (length-map xs f)) ∙ ap (nat_cmp (length (map f xs))) (sym (length-map ys f))

    pub by_number_of : is_ne o ≡ true → ComparesAs (row_of s) (many row (map f xs)) (many row (map f ys)) o
    by_number_of n = by_number s (map f xs) (map f ys) o lengths n

    pub at_start_of : is_ne o ≡ false → Reaches s (map f xs) (map f ys) 0
    at_start_of n = at_start s (map f xs) (map f ys) o lengths n

  module _ (i : ℕ) (before : Reaches s (map f xs) (map f ys) i) where
    pub at_end_of : length xs ≤ i → length ys ≤ i → ComparesAs (row_of s) (many row (map f xs)) (many row (map f ys)) Equal
    at_end_of a b = at_end s (map f xs) (map f ys) i before (omega (arith, length-map xs f)) (omega (arith, length-map ys f))

    module _ (x y : A) (a : i < length xs) (b : i < length ys) (d : x ≡ get_or xs i x) (e : y ≡ get_or ys i y) (o : Ordering) (c : ComparesAs s (f x) (f y) o) where
      here : f x ≡ get_or (map f xs) i (f x)
      here = ap f d ∙ sym (get_or-map f xs i x (f x) a)

      here_too : f y ≡ get_or (map f ys) i (f y)
      here_too = ap f e ∙ sym (get_or-map f ys i y (f y) b)

      inside : i < length (map f xs)
      inside = omega (arith, length-map xs f)

      inside_too : i < length (map f ys)
      inside_too = omega (arith, length-map ys f)

      pub member_decides_of : is_ne o ≡ true → ComparesAs (row_of s) (many row (map f xs)) (many row (map f ys)) o
      member_decides_of n = member_decides s (map f xs) (map f ys) i before (f x) (f y) inside inside_too here here_too o c n

      pub goes_on_of : is_ne o ≡ false → Reaches s (map f xs) (map f ys) (i + 1)
      goes_on_of n = goes_on s (map f xs) (map f ys) i before (f x) (f y) inside inside_too here here_too o c n
