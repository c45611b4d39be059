-- Which ground values, closed forms and processes are congruent.
use Rattle.std.proofs.Common.{◌≡◌, ℕ, ◌+◌, Bool, true, false, cond, List, [], ◌∷◌, length, refl, sym, ap, ◌∙◌, subst, arith}
use Rattle.std.specs.Prelude.{◌&&◌, eqb, IsTrue}
use Rattle.std.specs.Str.{bytes_eq}
use Rattle.std.specs.Ordering.{is_eq}
use Rattle.std.specs.declared.cmp.Ordering.{Ordering}
use Rattle.std.specs.declared.cmp.Ordering.TheVariants.{Less, Equal, Greater}
use Rattle.std.proofs.lemmas.Bool.Decides.{nat_tests}
use Rattle.calculus.specs.declared.plain.Ground.{Ground}
use Rattle.calculus.specs.declared.plain.Ground.TheVariants as ground_forms
use Rattle.calculus.specs.Tree.{Tree, node, plain}
use Rattle.calculus.specs.Shape.{label_of, only, held, listed}
use Rattle.calculus.specs.Order.{byte_cmp}
use Rattle.calculus.specs.Code.{code}
use Rattle.calculus.specs.Congruence.{congruent, congruent_to, same_label, same_int, is_bag, as_many, in_turn}
use Rattle.calculus.specs.Meaning.{ground_label}
use Rattle.calculus.specs.Form.{term}
use Rattle.calculus.proofs.CodesAgree.{code_is_congruence}
use Rattle.calculus.proofs.Ordered.{equal}
use Rattle.calculus.proofs.Reflexive.{congruent_self}
use Rattle.rho_term.specs.Parts.{ground_tree, part_tree}
use Rattle.rho_term.specs.declared.term.Part.{Part}
use Rattle.rho_term.specs.declared.term.Part.TheVariants as part
use Rattle.term_order.specs.Orders.{OrdersCodes}
use Rattle.term_order.proofs.Comparing.{cmp-equal}
use Rattle.match_targets.specs.Targets.{Ready}

and_last : (b : Bool) → b ≡ (b && true)
and_last true = refl
and_last false = refl

-- ground values are congruent where they are one
pub leaves : (a b : Ground) → same_label (ground_label a) (ground_label b) ≡ congruent (ground_tree a) (ground_tree b)
unfolding congruent congruent_to
leaves (ground_forms.Bool x) b = and_last (same_label (ground_label (ground_forms.Bool x)) (ground_label b))
leaves (ground_forms.Int x) b = and_last (same_label (ground_label (ground_forms.Int x)) (ground_label b))
leaves (ground_forms.Str x) b = and_last (same_label (ground_label (ground_forms.Str x)) (ground_label b))
leaves (ground_forms.Uri x) b = and_last (same_label (ground_label (ground_forms.Uri x)) (ground_label b))
leaves (ground_forms.Bytes x) b = and_last (same_label (ground_label (ground_forms.Bytes x)) (ground_label b))

-- forms of other numbers are not congruent
pub apart : (t u : Tree) → eqb (plain (label_of t)).0 (plain (label_of u)).0 ≡ false → congruent t u ≡ false
unfolding congruent
apart (node l ts) u e =
    ap (λ b. (b && (same_int (plain l).1.0 (plain (label_of u)).1.0 && bytes_eq (plain l).1.1 (plain (label_of u)).1.1))
    && cond (is_bag l) (eqb (length (listed ts)) (length (held u)) && as_many (congruent_to ts) (listed ts) (held u)) (in_turn (congruent_to ts) (held u))) e

unequal : (m n : ℕ) → (m ≡ n → ⊥) → eqb m n ≡ false
unequal m n h = grind (arith, nat_tests)

pub apart_numbers : (t u : Tree) → ((plain (label_of t)).0 ≡ (plain (label_of u)).0 → ⊥) → false ≡ congruent t u
apart_numbers t u h = sym (apart t u (unequal (plain (label_of t)).0 (plain (label_of u)).0 h))

-- a ground value and another form
pub other : (g : Ground) (p : Part) → ((h : Ground) → p ≡ part.Ground h → ⊥) → false ≡ congruent (ground_tree g) (part_tree p)
unfolding congruent
other g (part.Ground h) n = absurd (n h refl)
other (ground_forms.Bool x) p n = refl
other (ground_forms.Int x) p n = refl
other (ground_forms.Str x) p n = refl
other (ground_forms.Uri x) p n = refl
other (ground_forms.Bytes x) p n = refl

same_bool : (a b : Bool) → (a ≡ true → b ≡ true) → (b ≡ true → a ≡ true) → a ≡ b
same_bool true b f g = sym (f refl)
same_bool false true f g = g refl
same_bool false false f g = refl

is-true : (b : Bool) → IsTrue b → b ≡ true
is-true b h = h

from-true : (b : Bool) → b ≡ true → IsTrue b
from-true b h = h

pub is-equal : (o : Ordering) → is_eq o ≡ true → o ≡ Equal
is-equal Less h = cc
is-equal Equal h = refl
is-equal Greater h = cc

cmp-self : (xs : List ℕ) → byte_cmp xs xs ≡ Equal
cmp-self [] = refl
cmp-self (x ∷ xs) = rw (cmp-equal x) (cmp-self xs)

-- the order of two codes tells whether the processes are congruent
pub same_codes : (t u : Tree) (r : Ordering) → Ready term t → Ready term u → OrdersCodes t u r → is_eq r ≡ congruent t u
same_codes t u r h k o =
    let e = o [] [] h.closed k.closed h.short k.short in
    let c = code_is_congruence t u h.closed k.closed h.short k.short in
    same_bool (is_eq r) (congruent t u)
    (λ q. is-true (congruent t u) (c.0 (equal (code t) (code u) (sym e ∙ is-equal r q))))
    (λ q. ap is_eq (e ∙ ap (byte_cmp (code t)) (sym (c.1 (from-true (congruent t u) q))) ∙ cmp-self (code t)))

one_of_one : (a b : Bool) → a ≡ true → (eqb (0 + cond a 1 0) (0 + cond b 1 0) && true) ≡ b
one_of_one true true h = refl
one_of_one true false h = refl
one_of_one false b h = cc

-- processes of one part are congruent where the parts are
pub only-same : (p q : Tree) → congruent (only p) (only q) ≡ congruent p q
unfolding congruent congruent_to
only-same p q = one_of_one (congruent p p) (congruent p q) (congruent_self p)

pub same_parts : (p q t u : Tree) (r : Ordering) → t ≡ only p → u ≡ only q → Ready term (only p) → Ready term (only q) → OrdersCodes t u r → is_eq r ≡ congruent p q
same_parts p q t u r e f h k o =
    let x : OrdersCodes (only p) (only q) r = subst (λ (v : Tree). OrdersCodes v (only q) r) e (subst (λ (v : Tree). OrdersCodes t v r) f o) in
    same_codes (only p) (only q) r h k x ∙ only-same p q
