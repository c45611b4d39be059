-- What forms become when their outer variables are changed, under inner variables that 64 bits count.
use Rattle.std.proofs.Common.{◌≡◌, inl, inr, ℕ, ◌+◌, ◌-◌, ◌<◌, ◌≤◌, ◌^◌, true, false, cond, List, [], ◌∷◌, ◌++◌, length, refl, ap, sym, ◌∙◌, subst, arith}
use Rattle.std.specs.Prelude.{leb, string_bytes}
use Rattle.std.proofs.lemmas.Bool.{leb-true, leb-false, cases_Bool}
use Rattle.std.proofs.lemmas.List.{length-map}
use Rattle.calculus.specs.declared.plain.Origin.{Origin}
use Rattle.calculus.specs.Tree.{Label, par, row, bool, int, str, uri, bytes, new, method, pattern, Tree, node, Trees, none, also, trees}
use Rattle.calculus.specs.Shape.{leaf, one, two, three, many, listed}
use Rattle.calculus.specs.Congruence.{is_bag}
use Rattle.calculus.specs.Variables.{a_name, bound_all, binders}
use Rattle.calculus.specs.Normal.{ascending, made_node}
use Rattle.calculus.specs.Substitution.{Change, change, change_all, changed, the_one, put, renumber}
use Rattle.calculus.specs.declared.plain.Ground.{Ground}
use Rattle.calculus.specs.declared.plain.Ground.TheVariants as ground
use Rattle.rho_term.specs.Normal.{IsOrdered}
use Rattle.rho_term.specs.Parts.{ground_tree}
use Rattle.rho_term.specs.Sizes.{in_u64}
use Rattle.code_order.proofs.Made.{ordered-made}
use Rattle.term_bounds.specs.Bound.{bound_counts}
use Rattle.term_bounds.specs.Filled.{value_parts, filled, all_filled, IsFormLabel, IsForm}
use Rattle.term_bounds.proofs.Binding.{counts-bound}
use Rattle.term_bounds.proofs.Filling.{IsFlat, filled-form, two-flat, one-flat, made-flat, use-becomes}
use Rattle.substitution.specs.declared.variable.Sense.{Sense}
use Rattle.substitution.specs.declared.variable.Sense.TheVariants as sense
use Rattle.substitution.specs.Becoming.{index_parts, use_of, Becomes, AllBecome, Adds}

-- one tree in a list is the tree
only-one : (ts : Trees) (u : Tree) → listed ts ≡ u ∷ [] → ts ≡ also u none
only-one none u e = cc
only-one (also t none) u e = cc
only-one (also t (also v ts)) u e = cc

head_of : {A : Type 0} {x y : A} → x ∷ [] ≡ y ∷ [] → x ≡ y
head_of e = cc

module _ (F : Change) (n : ℕ) where
  -- a form whose constituents stand as given
  pub flat : (l : Label) → IsFlat l → is_bag l ≡ false → (ts us : List Tree) → AllBecome F n ts us → Becomes F n (many l ts) (many l us)
  flat l h b ts us a =
      λ d e. made-flat F l h ts d ∙ ap (λ ws. made_node l ws ∷ []) (a d e) ∙ ap (λ x. node l (trees (cond x (ascending us) us)) ∷ []) b

  -- a form whose constituents are put in order
  pub bag : (l : Label) → IsFlat l → is_bag l ≡ true → (ts us ws : List Tree) → AllBecome F n ts us → ws ≡ ascending us → Becomes F n (many l ts) (many l ws)
  bag l h b ts us ws a o =
      λ d e. made-flat F l h ts d ∙ ap (λ xs. made_node l xs ∷ []) (a d e) ∙ ap (λ x. node l (trees (cond x (ascending us) us)) ∷ []) b ∙ ap (λ xs. many l xs ∷ []) (sym o)

  pub rows : (ts us : List Tree) → AllBecome F n ts us → Becomes F n (many row ts) (many row us)
  rows ts us a = flat row (tt, λ ts. refl) refl ts us a

  pub just-one : (t u : Tree) → Becomes F n t u → AllBecome F n (t ∷ []) (u ∷ [])
  just-one t u a = λ d e. ap (λ ws. ws ++ []) (a d e)

  pub cons : (t u : Tree) (ts us : List Tree) → Becomes F n t u → AllBecome F n ts us → AllBecome F n (t ∷ ts) (u ∷ us)
  cons t u ts us a b = λ d e. ap (λ ws. ws ++ all_filled F d ts) (a d e) ∙ ap (λ ws. u ∷ ws) (b d e)

  pub one-becomes : (l : Label) → IsFlat l → is_bag l ≡ false → (t u : Tree) → Becomes F n t u → Becomes F n (one l t) (one l u)
  one-becomes l h b t u a = flat l h b (t ∷ []) (u ∷ []) (just-one t u a)

  pub two-becomes : (l : Label) → IsFlat l → is_bag l ≡ false → (t u v w : Tree) → Becomes F n t u → Becomes F n v w → Becomes F n (two l t v) (two l u w)
  two-becomes l h b t u v w a c = flat l h b (t ∷ v ∷ []) (u ∷ w ∷ []) (cons t u (v ∷ []) (w ∷ []) a (just-one v w c))

  pub three-becomes : (l : Label) → IsFlat l → is_bag l ≡ false → (t u v w x y : Tree) → Becomes F n t u → Becomes F n v w → Becomes F n x y → Becomes F n (three l t v x) (three l u w y)
  three-becomes l h b t u v w x y a c f =
      flat l h b (t ∷ v ∷ x ∷ []) (u ∷ w ∷ y ∷ []) (cons t u (v ∷ x ∷ []) (w ∷ y ∷ []) a (cons v w (x ∷ []) (y ∷ []) c (just-one x y f)))

  -- a form whose own variables stand bound in its second constituent, which binds k with the first
  pub two-bind : (l : Label) → IsFormLabel l → is_bag l ≡ false → ((ts : Trees) → binders l ts ≡ bound_all ts) → (t u v w : Tree) (k : ℕ)
      → k ≡ in_u64 (bound_counts (trees (t ∷ v ∷ []))) → (m : ℕ) → m ≡ in_u64 (n + k) → Becomes F n t u → Becomes F m v w → Becomes F n (two l t v) (two l u w)
  two-bind l h b o t u v w k g m f a c =
      λ d e.
      let ts = trees (t ∷ v ∷ []) in
      let z : length (binders l ts) ≡ bound_counts ts = ap length (o ts) ∙ sym (counts-bound ts) in
      let i : in_u64 (d + length (binders l ts)) ≡ m = omega arith in
      filled-form F d l ts h ∙ ap (λ xs. made_node l xs ∷ []) (two-flat F d (length (binders l ts)) t v ∙ ap (λ xs. xs ++ filled F (d + length (binders l ts)) v) (a d e) ∙ ap (λ xs. u ∷ xs) (c (d + length (binders l ts)) i))
      ∙ ap (λ x. node l (trees (cond x (ascending (u ∷ w ∷ [])) (u ∷ w ∷ []))) ∷ []) b

  -- a form whose own variables, of which there are k, stand bound in its one constituent
  pub one-bind : (l : Label) → IsFormLabel l → is_bag l ≡ false → (t u : Tree) (k : ℕ) → length (binders l (trees (t ∷ []))) ≡ k
      → (m : ℕ) → m ≡ in_u64 (n + k) → Becomes F m t u → Becomes F n (one l t) (one l u)
  one-bind l h b t u k g m f c =
      λ d e.
      let ts = trees (t ∷ []) in
      let i : in_u64 (d + length (binders l ts)) ≡ m = omega arith in
      filled-form F d l ts h ∙ ap (λ xs. made_node l xs ∷ []) (one-flat F d (length (binders l ts)) t ∙ c (d + length (binders l ts)) i)
      ∙ ap (λ x. node l (trees (cond x (ascending (u ∷ [])) (u ∷ []))) ∷ []) b

  -- a leaf that is no variable
  pub leaf-becomes : (l : Label) → IsFlat l → is_bag l ≡ false → Becomes F n (leaf l) (leaf l)
  leaf-becomes l h b = flat l h b [] [] (λ d e. refl)

  -- a ground value
  pub ground-becomes : (g : Ground) → Becomes F n (ground_tree g) (ground_tree g)
  ground-becomes (ground.Bool x) = leaf-becomes (bool x) (tt, λ ts. refl) refl
  ground-becomes (ground.Int x) = leaf-becomes (int x) (tt, λ ts. refl) refl
  ground-becomes (ground.Str x) = leaf-becomes (str (string_bytes x)) (tt, λ ts. refl) refl
  ground-becomes (ground.Uri x) = leaf-becomes (uri (string_bytes x)) (tt, λ ts. refl) refl
  ground-becomes (ground.Bytes x) = leaf-becomes (bytes x.items) (tt, λ ts. refl) refl

  -- what a form becomes has its own constituents in order
  pub becomes-ordered : (t u : Tree) → IsForm t → n < 2 ^ 64 → Becomes F n t u → IsOrdered u
  becomes-ordered (node l ts) u h g b =
      let e : in_u64 n ≡ n = omega arith in
      let us = listed (change_all F n (length (binders l ts)) ts) in
      let f : made_node l us ≡ u = head_of (sym (filled-form F n l ts h) ∙ b n e) in
      subst IsOrdered f (ordered-made l us)

-- a use of a variable was added: it stays, or what comes in its place was added
module _ (form : ℕ → Label) (n i : ℕ) (c : (G : Change) (d : ℕ) → change G d (leaf (form i)) ≡ changed G d form i) (s : i < 2 ^ 32) where
  pub use-adds : (F : Change) (us ws : List Tree) → (i < n → ws ≡ us ++ leaf (form i) ∷ []) → (n ≤ i → ws ≡ us ++ listed (F (i - n) n form)) → Adds F n (leaf (form i)) us ws
  use-adds F us ws inner outer =
      λ d e.
      let r = use-becomes form n i c s F d e in
      elim (cases_Bool (leb n i)) [
        | inl y ↦ outer (leb-true n i y) ∙ ap (λ xs. us ++ xs) (sym (r.1 (leb-true n i y)))
        | inr z ↦ inner (leb-false n i z) ∙ ap (λ xs. us ++ xs) (sym (r.0 (leb-false n i z)))
      ]

-- a use of a variable is changed
pub use-changed : (s : Sense) (i : ℕ) (G : Change) (d : ℕ) → change G d (leaf (use_of s i)) ≡ changed G d (use_of s) i
use-changed sense.Process i G d = refl
use-changed sense.Name i G d = refl

-- a method's name, and declared names, that were copied
pub method-becomes : (F : Change) (n : ℕ) (a b : List ℕ) → b ≡ a → (t u v w : Tree) → Becomes F n t u → Becomes F n v w → Becomes F n (two (method a) t v) (two (method b) u w)
method-becomes F n a b e t u v w f g =
    subst (λ x. Becomes F n (two (method a) t v) (two (method x) u w)) (sym e) (two-becomes F n (method a) (tt, λ ts. refl) refl t u v w f g)

pub new-becomes : (F : Change) (n : ℕ) (a b : List Origin) → b ≡ a → (t u : Tree) (m : ℕ) → m ≡ in_u64 (n + length a) → Becomes F m t u → Becomes F n (one (new a) t) (one (new b) u)
new-becomes F n a b e t u m f g =
    subst (λ x. Becomes F n (one (new a) t) (one (new x) u)) (sym e) (one-bind F n (new a) tt refl t u (length a) (length-map a (λ o. a_name)) m f g)

-- a whole process and a whole pattern, from what their parts become
pub process-becomes : (F : Change) (n : ℕ) (ts us : List Tree) (t u : Tree) → t ≡ many par ts → u ≡ many par (ascending us) → AllBecome F n ts us → Becomes F n t u
process-becomes F n ts us t u e f a =
    subst (λ x. Becomes F n x u) (sym e) (subst (Becomes F n (many par ts)) (sym f) (bag F n par (tt, λ xs. refl) refl ts us (ascending us) a refl))

pub pattern-becomes : (F : Change) (n : ℕ) (ts us : List Tree) (t u : Tree) → t ≡ many pattern ts → u ≡ many pattern us → AllBecome F n ts us → Becomes F n t u
pattern-becomes F n ts us t u e f a =
    subst (λ x. Becomes F n x u) (sym e) (subst (Becomes F n (many pattern ts)) (sym f) (flat F n pattern (tt, λ xs. refl) refl ts us a))

-- a process under no inner variables
pub put-filled : (vs : List Tree) (t u : Tree) → Becomes (value_parts vs) 0 t u → u ≡ put vs t
unfolding filled value_parts put
put-filled vs t u h = ap the_one (sym (only-one (change (value_parts vs) 0 t) u (h 0 refl)))

pub renumber-filled : (f : ℕ → ℕ) (t u : Tree) → Becomes (index_parts f) 0 t u → u ≡ renumber f t
unfolding filled index_parts renumber
renumber-filled f t u h = ap the_one (sym (only-one (change (index_parts f) 0 t) u (h 0 refl)))
