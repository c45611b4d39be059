-- The parts of a pattern, as they are written and as they come to: as many, and each wide where the other is.
use Rattle.std.proofs.Common.{◌≡◌, ℕ, ◌+◌, List, [], ◌∷◌, ◌++◌, map, length, Bool, true, false, sym, ap, refl, ◌∙◌, append-nil, arith}
use Rattle.std.specs.Prelude.{flat_map, leb, not, count_by, cond}
use Rattle.std.proofs.lemmas.Bool.{leb-false, or_parts}
use Rattle.std.proofs.lemmas.List.{map-append, length-map}
use Rattle.std.proofs.lemmas.List.Sums.{sum_by-cons}
use Rattle.calculus.specs.Tree.{pattern, receive, match, Tree, trees}
use Rattle.calculus.specs.Shape.{held, listed, label_of}
use Rattle.calculus.specs.Variables.{is_wide}
use Rattle.calculus.specs.Written.{in_process, in_pattern, declare, bind_process, closed, Written, form, Writtens, no_more, more}
use Rattle.calculus.specs.Bare.{Names, bare_in, bare_each}
use Rattle.calculus.specs.Form.{pat, all, IsNarrow, wides}
use Rattle.calculus.proofs.Placing.{listed-trees}
use Rattle.scope.specs.Rules.{how_many, is_wide_part, parts_of, all_parts_of, has_many_parts}
use Rattle.source_laws.specs.WellFormed.{IsOfSort, Are}

-- whether each of these trees is wide
abbrev pub widths : List Tree → List Bool
widths ts = map (λ t. is_wide (label_of t)) ts

-- as many trees as there are constituents
pub how-many : (ts : Writtens) (v xs : Names) → length (bare_each ts v xs) ≡ how_many ts
how-many no_more v xs = refl
how-many (more t no_more) v xs = refl
how-many (more t (more u us)) v xs = omega (arith, how-many (more u us) v xs)

one-held : (t : Tree) → listed (trees (flat_map held (t ∷ []))) ≡ held t
one-held t = listed-trees (flat_map held (t ∷ [])) ∙ append-nil (held t)

-- a closed form is one part, which is thin
closed-width : (t : Written) (ts : Writtens) (v : Names) → IsOfSort pat (form closed (more t ts)) → widths (held (bare_in (form closed (more t ts)) v)) ≡ false ∷ []
closed-width (form (in_process (receive k)) us) no_more v h = refl
closed-width (form (in_process match) us) no_more v h = refl
closed-width (form (declare ds) us) no_more v h = refl
closed-width (form (in_process l) us) (more u uu) v h = absurd h.1.1
closed-width (form (in_process l) us) no_more v h = absurd h.0
closed-width (form (declare ds) us) (more u uu) v h = absurd h.1.1
closed-width (form _ us) ts v h = absurd h.0

mutual
  pub part-widths : (t : Written) (v : Names) → IsOfSort pat t → widths (held (bare_in t v)) ≡ map is_wide_part (parts_of t)
  part-widths (form (in_pattern pattern) ts) v h = ap widths (listed-trees (flat_map held (bare_each ts v []))) ∙ all-widths ts v h.1
  part-widths (form (in_pattern l) ts) v h = refl
  part-widths (form (bind_process x) ts) v h = refl
  part-widths (form closed no_more) v h = absurd h.1
  part-widths (form closed (more t ts)) v h = closed-width t ts v h
  part-widths (form _ ts) v h = absurd h.1

  pub all-widths : (ts : Writtens) (v : Names) → Are (all pat) ts → widths (flat_map held (bare_each ts v [])) ≡ map is_wide_part (all_parts_of ts)
  all-widths no_more v h = refl
  all-widths (more t no_more) v h = ap widths (append-nil (held (bare_in t v))) ∙ part-widths t v h.0 ∙ ap (map is_wide_part) (sym (append-nil (parts_of t)))
  all-widths (more t (more u us)) v h =
      map-append (λ (t : Tree). is_wide (label_of t)) (held (bare_in t v)) (flat_map held (bare_each (more u us) v []))
      ∙ ap (λ bs. bs ++ widths (flat_map held (bare_each (more u us) v []))) (part-widths t v h.0)
      ∙ ap (λ bs. map is_wide_part (parts_of t) ++ bs) (all-widths (more u us) v h.1)
      ∙ sym (map-append is_wide_part (parts_of t) (all_parts_of (more u us)))

-- how many of these are true
trues : List Bool → ℕ
trues [] = 0
trues (b ∷ bs) = cond b 1 0 + trues bs

count-map : {A : Type 0} (f : A → Bool) (xs : List A) → count_by f xs ≡ trues (map f xs)
unfolding trues
count-map f [] = refl
count-map f (x ∷ xs) = sum_by-cons (λ y. cond (f y) 1 0) x xs ∙ ap (λ n. cond (f x) 1 0 + n) (count-map f xs)

one-or-other : (b : Bool) → cond b 1 0 + cond (not b) 1 0 ≡ 1
one-or-other true = refl
one-or-other false = refl

-- each is wide or thin
both-counts : {A : Type 0} (f : A → Bool) (xs : List A) → count_by f xs + count_by (λ x. not (f x)) xs ≡ length xs
both-counts f [] = refl
both-counts f (x ∷ xs) =
    omega (arith, both-counts f xs, sum_by-cons (λ y. cond (f y) 1 0) x xs, sum_by-cons (λ y. cond (not (f y)) 1 0) x xs, one-or-other (f x))

-- parts that are no more than a pattern may have
pub narrow : (ts : List Tree) (ps : List Written) → widths ts ≡ map is_wide_part ps → has_many_parts ps ≡ false → IsNarrow ts
narrow ts ps e h =
    let a : wides ts ≡ count_by is_wide_part ps = count-map (λ (t : Tree). is_wide (label_of t)) ts ∙ ap trues e ∙ sym (count-map is_wide_part ps) in
    let b : length ts ≡ length ps = sym (length-map ts (λ (t : Tree). is_wide (label_of t))) ∙ ap length e ∙ length-map ps is_wide_part in
    let c = both-counts is_wide_part ps in
    let k = leb-false 2 (count_by is_wide_part ps) (or_parts (leb 2 (count_by is_wide_part ps)) (leb 9 (count_by (λ p. not (is_wide_part p)) ps)) h).0 in
    let m = leb-false 9 (count_by (λ p. not (is_wide_part p)) ps) (or_parts (leb 2 (count_by is_wide_part ps)) (leb 9 (count_by (λ p. not (is_wide_part p)) ps)) h).1 in
    (omega (arith, a, b, c, k, m), omega (arith, a, b, c, k, m))

-- one part is never too many
pub one-narrow : (t : Tree) → IsNarrow (t ∷ [])
one-narrow t =
    let f : Tree → Bool = λ t. is_wide (label_of t) in
    let c = both-counts f (t ∷ []) in
    (omega (arith, c), omega (arith, c))
