-- The order of lists of bytes, and that lists are put in order in one way.
use Rattle.std.proofs.Common.{◌≡◌, ℕ, true, false, List, [], ◌∷◌, refl, sym, ap, ◌∙◌, ⊎_elim}
use Rattle.std.specs.Ordering.{nat_cmp, is_le, is_gt, ordering_then, ordering_reverse}
use Rattle.std.specs.declared.cmp.Ordering.{Ordering}
use Rattle.std.specs.declared.cmp.Ordering.TheVariants.{Less, Equal, Greater}
use Rattle.std.proofs.lemmas.Cmp.{nat_list_cmp_total, upto, ranked}
use Rattle.std.proofs.lemmas.Bool.{cases_Bool, false≢true}
use Rattle.calculus.specs.Order.{byte_cmp, up_to, placed}

first_equal : (o p : Ordering) → ordering_then o p ≡ Equal → (o ≡ Equal) × (p ≡ Equal)
first_equal Less p e = cc
first_equal Equal p e = (refl, e)
first_equal Greater p e = cc

equal_numbers : (m n : ℕ) → nat_cmp m n ≡ Equal → m ≡ n
equal_numbers m n e = ranked m n Equal (sym e)

pub equal : (xs ys : List ℕ) → byte_cmp xs ys ≡ Equal → xs ≡ ys
equal [] [] e = refl
equal [] (y ∷ ys) e = cc
equal (x ∷ xs) [] e = cc
equal (x ∷ xs) (y ∷ ys) e =
    let p = first_equal (nat_cmp x y) (byte_cmp xs ys) e in
    let a : x ≡ y = equal_numbers x y p.0 in
    let b : xs ≡ ys = equal xs ys p.1 in
    cc

back : (o : Ordering) → is_le o ≡ false → is_le (ordering_reverse o) ≡ true
back Less e = cc
back Equal e = cc
back Greater e = refl

both : (o : Ordering) → is_le o ≡ true → is_le (ordering_reverse o) ≡ true → o ≡ Equal
both Less e f = cc
both Equal e f = refl
both Greater e f = cc

not_gt : (o : Ordering) → is_le o ≡ true → is_gt o ≡ false
not_gt Less e = refl
not_gt Equal e = refl
not_gt Greater e = cc

is_gt_not : (o : Ordering) → is_gt o ≡ false → is_le o ≡ true
is_gt_not Less e = refl
is_gt_not Equal e = refl
is_gt_not Greater e = cc

pub up_to_total : (x y : List ℕ) → up_to x y ≡ false → up_to y x ≡ true
up_to_total x y e = ap is_le (nat_list_cmp_total.antisymm y x) ∙ back (byte_cmp x y) e

pub up_to_both : (x y : List ℕ) → up_to x y ≡ true → up_to y x ≡ true → x ≡ y
up_to_both x y e f = equal x y (both (byte_cmp x y) e (sym (ap is_le (nat_list_cmp_total.antisymm y x)) ∙ f))

pub up_to_trans : (x y z : List ℕ) → up_to x y ≡ true → up_to y z ≡ true → up_to x z ≡ true
up_to_trans x y z e f = is_gt_not (byte_cmp x z) (upto nat_list_cmp_total x y z (not_gt (byte_cmp x y) e) (not_gt (byte_cmp y z) f))

front : (x y : List ℕ) (ys : List (List ℕ)) → up_to x y ≡ true → placed x (y ∷ ys) ≡ x ∷ y ∷ ys
unfolding placed
front x y ys e = rw e

further : (x y : List ℕ) (ys : List (List ℕ)) → up_to x y ≡ false → placed x (y ∷ ys) ≡ y ∷ placed x ys
unfolding placed
further x y ys e = rw e

-- the greater one goes behind the less one
behind : (a b : List ℕ) (ys : List (List ℕ)) → up_to a b ≡ true → placed b ys ≡ b ∷ ys → placed b (a ∷ ys) ≡ a ∷ b ∷ ys
behind a b ys h e =
    ⊎_elim (λ (f : up_to b a ≡ true). front b a ys f ∙ (let p = up_to_both a b h f in cc))
    (λ (f : up_to b a ≡ false). further b a ys f ∙ ap (λ xs. a ∷ xs) e) (cases_Bool (up_to b a))

module _ (a b : List ℕ) (h : up_to a b ≡ true) where
  -- where y is the first of the list
  at_first : (y : List ℕ) (ys : List (List ℕ)) → up_to b y ≡ true → placed a (placed b (y ∷ ys)) ≡ placed b (placed a (y ∷ ys))
  at_first y ys e =
      let f = front b y ys e in
      let g = front a y ys (up_to_trans a b y h e) in
      ap (placed a) f ∙ front a b (y ∷ ys) h ∙ sym (ap (placed b) g ∙ behind a b (y ∷ ys) h f)

  between : (y : List ℕ) (ys : List (List ℕ)) → up_to b y ≡ false → up_to a y ≡ true → placed a (placed b (y ∷ ys)) ≡ placed b (placed a (y ∷ ys))
  between y ys e g =
      let n : up_to b a ≡ false = ⊎_elim (λ (f : up_to b a ≡ true). absurd (false≢true (sym e ∙ up_to_trans b a y f g))) (λ (f : up_to b a ≡ false). f) (cases_Bool (up_to b a)) in
      ap (placed a) (further b y ys e) ∙ front a y (placed b ys) g
      ∙ sym (ap (placed b) (front a y ys g) ∙ further b a (y ∷ ys) n ∙ ap (λ xs. a ∷ xs) (further b y ys e))

  alone : placed a (placed b []) ≡ placed b (placed a [])
  unfolding placed
  alone = front a b [] h ∙ sym (behind a b [] h refl)

  swapped : (ys : List (List ℕ)) → placed a (placed b ys) ≡ placed b (placed a ys)
  swapped [] = alone
  swapped (y ∷ ys) =
      ⊎_elim (λ (e : up_to b y ≡ true). at_first y ys e)
      (λ (e : up_to b y ≡ false). ⊎_elim (λ (g : up_to a y ≡ true). between y ys e g)
      (λ (g : up_to a y ≡ false). ap (placed a) (further b y ys e) ∙ further a y (placed b ys) g ∙ ap (λ xs. y ∷ xs) (swapped ys)
      ∙ sym (ap (placed b) (further a y ys g) ∙ further b y (placed a ys) e)) (cases_Bool (up_to a y)))
      (cases_Bool (up_to b y))

-- two lists may be placed in either order
pub placed-placed : (a b : List ℕ) (ys : List (List ℕ)) → placed a (placed b ys) ≡ placed b (placed a ys)
placed-placed a b ys =
    ⊎_elim (λ (e : up_to a b ≡ true). swapped a b e ys) (λ (e : up_to a b ≡ false). sym (swapped b a (up_to_total a b e) ys)) (cases_Bool (up_to a b))
