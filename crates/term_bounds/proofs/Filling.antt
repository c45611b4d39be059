-- What forms become when their outer variables are changed, from what their constituents become.
use Rattle.std.proofs.Common.{◌≡◌, ℕ, zero, suc, ◌+◌, ◌-◌, ◌<◌, ◌≤◌, ◌^◌, true, false, cond, List, [], ◌∷◌, ◌++◌, length, reverse, get_or, refl, ap, sym, ◌∙◌, arith}
use Rattle.std.specs.Prelude.{leb}
use Rattle.std.proofs.lemmas.Bool.{le-leb, lt-leb}
use Rattle.std.proofs.lemmas.List.{append-nil, length-reverse, get_or-reverse}
use Rattle.calculus.specs.Tree.{Label, par, var, name_var, Tree, node, Trees, none, also, trees}
use Rattle.calculus.specs.Shape.{leaf, many, held, listed, joined_trees, at}
use Rattle.calculus.specs.Variables.{binders}
use Rattle.calculus.specs.Normal.{made_node}
use Rattle.calculus.specs.Substitution.{Change, change, change_all, changed}
use Rattle.calculus.specs.declared.plain.Ground.{Ground}
use Rattle.calculus.specs.declared.plain.Ground.TheVariants as ground
use Rattle.calculus.proofs.Placing.{listed-trees}
use Rattle.rho_term.specs.Parts.{ground_tree, part_tree, pat_part_tree}
use Rattle.rho_term.specs.Sizes.{in_u64}
use Rattle.rho_term.specs.declared.term.Part.{Part}
use Rattle.rho_term.specs.declared.term.Part.TheVariants as part
use Rattle.rho_term.specs.declared.term.PatPart.{PatPart}
use Rattle.rho_term.specs.declared.term.PatPart.TheVariants as pat
use Rattle.term_bounds.specs.Filled.{value_parts, filled, all_filled, IsFormLabel, IsForm}

listed-joined : (ts us : Trees) → listed (joined_trees ts us) ≡ listed ts ++ listed us
listed-joined none us = refl
listed-joined (also t ts) us = ap (λ vs. t ∷ vs) (listed-joined ts us)

-- a form that is no variable becomes one tree, made of what its constituents become
pub change-form : (F : Change) (d : ℕ) (l : Label) (ts : Trees) → IsFormLabel l → change F d (node l ts) ≡ also (made_node l (listed (change_all F d (length (binders l ts)) ts))) none
change-form F d (var i) ts h = absurd h
change-form F d (name_var i) ts h = absurd h
change-form F d par ts h = refl
change-form F d _ ts h = refl

-- a form that binds nothing
abbrev pub IsFlat : Label → Type 0
IsFlat l = IsFormLabel l × ((ts : Trees) → binders l ts ≡ [])

module _ (F : Change) where
  pub filled-form : (d : ℕ) (l : Label) (ts : Trees) → IsFormLabel l → filled F d (node l ts) ≡ made_node l (listed (change_all F d (length (binders l ts)) ts)) ∷ []
  unfolding filled
  filled-form d l ts h = ap listed (change-form F d l ts h)

  -- constituents under no more variables
  all-flat : (d n : ℕ) (ts : List Tree) → n ≡ 0 → listed (change_all F d n (trees ts)) ≡ all_filled F d ts
  unfolding filled
  all-flat d n [] z = refl
  all-flat d n (t ∷ []) z =
      let e : d + n ≡ d = omega arith in
      ap (λ k. listed (change F k t)) e ∙ sym (append-nil (listed (change F d t)))
  all-flat d n (t ∷ u ∷ ts) z =
      listed-joined (change F d t) (change_all F d n (trees (u ∷ ts))) ∙ ap (λ us. listed (change F d t) ++ us) (all-flat d n (u ∷ ts) z)

  -- two constituents, of which the second stands under more variables
  pub two-flat : (d n : ℕ) (t u : Tree) → listed (change_all F d n (trees (t ∷ u ∷ []))) ≡ filled F d t ++ filled F (d + n) u
  unfolding filled
  two-flat d n t u = listed-joined (change F d t) (change F (d + n) u)

  -- one constituent under more variables
  pub one-flat : (d n : ℕ) (t : Tree) → listed (change_all F d n (trees (t ∷ []))) ≡ filled F (d + n) t
  unfolding filled
  one-flat d n t = refl

  -- a form that binds nothing, of what its constituents become
  pub made-flat : (l : Label) → IsFlat l → (ts : List Tree) (d : ℕ) → filled F d (many l ts) ≡ made_node l (all_filled F d ts) ∷ []
  made-flat l h ts d =
      filled-form d l (trees ts) h.0 ∙ ap (λ us. made_node l us ∷ []) (all-flat d (length (binders l (trees ts))) ts (ap length (h.1 (trees ts))))

-- the value of an outer variable
at-read : (ts : List Tree) (k : ℕ) (x : Tree) → k < length ts → at k ts ≡ get_or ts k x
at-read [] k x h = absurd (omega arith)
at-read (t ∷ ts) zero x h = refl
at-read (t ∷ ts) (suc k) x h = at-read ts k x (omega arith)

at-past : (ts : List Tree) (k : ℕ) → length ts ≤ k → at k ts ≡ leaf par
at-past [] k h = refl
at-past (t ∷ ts) zero h = absurd (omega arith)
at-past (t ∷ ts) (suc k) h = at-past ts k (omega arith)

pub value-read : (vs : List Tree) (k : ℕ) (x : Tree) → k < length vs → at k (reverse vs) ≡ get_or vs (length vs - 1 - k) x
value-read vs k x h = at-read (reverse vs) k x (omega (arith, length-reverse vs)) ∙ get_or-reverse vs k x h

pub value-past : (vs : List Tree) (k : ℕ) → length vs ≤ k → held (at k (reverse vs)) ≡ []
value-past vs k h = ap held (at-past (reverse vs) k (omega (arith, length-reverse vs)))

-- uses of variables
module _ (form : ℕ → Label) (n i : ℕ) (c : (G : Change) (d : ℕ) → change G d (leaf (form i)) ≡ changed G d form i) (s : i < 2 ^ 32) where
  pub use-becomes : (F : Change) (d : ℕ) → in_u64 d ≡ n → (i < n → filled F d (leaf (form i)) ≡ leaf (form i) ∷ []) × (n ≤ i → filled F d (leaf (form i)) ≡ listed (F (i - n) n form))
  unfolding filled
  use-becomes F d e = (
    λ l.
        let f : leb d i ≡ false = lt-leb d i (omega arith) in
        ap listed (c F d) ∙ ap (λ x. listed (cond x (F (i - d) d form) (also (leaf (form i)) none))) f,
    λ l.
        let f : leb d i ≡ true = le-leb d i (omega arith) in
        let m : d ≡ n = omega arith in
        ap listed (c F d) ∙ ap (λ x. listed (cond x (F (i - d) d form) (also (leaf (form i)) none))) f ∙ ap (λ k. listed (F (i - k) k form)) m,
  )

  -- a use of a variable that stays, or becomes the parts of a value
  pub value-becomes : (vs : List Tree) (d : ℕ) → in_u64 d ≡ n → (i < n → filled (value_parts vs) d (leaf (form i)) ≡ leaf (form i) ∷ []) × (n ≤ i → filled (value_parts vs) d (leaf (form i)) ≡ held (at (i - n) (reverse vs)))
  unfolding value_parts
  value-becomes vs d e =
      let r = use-becomes (value_parts vs) d e in
      (r.0, λ l. r.1 l ∙ listed-trees (held (at (i - n) (reverse vs))))

-- parts that are no variables
ground-form : (g : Ground) → IsForm (ground_tree g)
ground-form (ground.Bool x) = tt
ground-form (ground.Int x) = tt
ground-form (ground.Str x) = tt
ground-form (ground.Uri x) = tt
ground-form (ground.Bytes x) = tt

pub part-form : (p : Part) → ((i : ℕ) → p ≡ part.Var i → ⊥) → ((i : ℕ) → p ≡ part.NameVar i → ⊥) → IsForm (part_tree p)
part-form (part.Ground g) h k = ground-form g
part-form (part.Var i) h k = h i refl
part-form (part.NameVar i) h k = k i refl
part-form _ h k = tt

pub pat_part-form : (p : PatPart) → ((q : Part) → p ≡ pat.Closed q → ⊥) → IsForm (pat_part_tree p)
pat_part-form (pat.Ground g) h = ground-form g
pat_part-form (pat.Closed q) h = absurd (h q refl)
pat_part-form _ h = tt
