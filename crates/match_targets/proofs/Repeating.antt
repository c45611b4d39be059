-- Targets side by side that compare as equal are equal.
use Rattle.std.proofs.Common.{◌≡◌, ℕ, ◌+◌, ◌<◌, true, false, List, [], ◌∷◌, ◌++◌, length, map as each, get_or, sym, ap, ◌∙◌, subst, arith}
use Rattle.std.specs.Ordering.{is_eq}
use Rattle.std.specs.declared.cmp.Ordering.{Ordering}
use Rattle.std.proofs.lemmas.List.{get_or-map}
use Rattle.calculus.specs.Tree.{Tree, par, pair}
use Rattle.calculus.specs.Bytes.{joined}
use Rattle.calculus.specs.Shape.{held, leaf, only, two}
use Rattle.calculus.specs.Code.{arranged, code, head}
use Rattle.calculus.specs.CodeLaws.{IsShort}
use Rattle.calculus.specs.Form.{term, part}
use Rattle.calculus.proofs.Ordered.{equal}
use Rattle.rho_term.specs.Normal.{IsNormal}
use Rattle.rho_term.specs.Parts.{part_tree, pair_tree, term_tree}
use Rattle.rho_term.specs.declared.term.Part.{Part}
use Rattle.term_order.specs.Orders.{ComparesAs, OrdersCodes}
use Rattle.term_order.proofs.FromScopes.{suits}
use Rattle.term_order.proofs.OneTerm.{normal_codes_are_one}
use Rattle.match_targets.specs.Targets.{Ready, Repeats}
use Rattle.free_places.specs.Places.{has}
use Rattle.match_targets.proofs.Alike.{is-equal}
use Rattle.match_targets.proofs.Readying.{normal-at, only-length, part-ready}
use Rattle.match_targets.proofs.Holding.{target_at, held_length, term-held, term-normal}

-- two processes
pub equal_terms : (t u : Tree) (r : Ordering) → Ready term t → Ready term u → IsNormal t → IsNormal u → OrdersCodes t u r → is_eq r ≡ true → t ≡ u
equal_terms t u r h k n o f e =
    normal_codes_are_one t u h.closed k.closed h.short k.short n o (equal (code t) (code u) (sym (f [] [] h.closed k.closed h.short k.short) ∙ is-equal r e))

same_only : (t u : Tree) → only t ≡ only u → t ≡ u
same_only t u e = cc

-- two parts
pub equal_parts : (t u : Tree) (r : Ordering) → Ready term (only t) → Ready term (only u) → IsNormal t → IsNormal u → ComparesAs part t u r → is_eq r ≡ true → t ≡ u
equal_parts t u r h k n o f e =
    let a : IsShort t = omega (arith, h.short, only-length t) in
    let b : IsShort u = omega (arith, k.short, only-length u) in
    let g : code t ≡ code u = equal (code t) (code u) (sym (f (suits part [] t n h.closed.1.0 a) (suits part [] u o k.closed.1.0 b)) ∙ is-equal r e) in
    same_only t u
    (normal_codes_are_one (only t) (only u) h.closed k.closed h.short k.short ((tt, tt), (n, tt)) ((tt, tt), (o, tt)) (ap (λ c. head par 1 ++ joined (arranged true (c ∷ []))) g))

-- two pairs of one key and one value
pub equal_pairs : (p q : Tree × Tree) → p.0 ≡ q.0 → p.1 ≡ q.1 → pair_tree p ≡ pair_tree q
equal_pairs p q e f = ap (λ k. two pair k p.1) e ∙ ap (two pair q.0) f

module _ (t : Tree) (ps : List Part) (i : ℕ) (p : Part) (e : t ≡ term_tree ps) (h : i < length ps) (g : p ≡ get_or ps i p) where
  pub part-normal-at : IsNormal t → IsNormal (part_tree p)
  part-normal-at n = subst (λ (q : Part). IsNormal (part_tree q)) (sym g) (normal-at part_tree ps i p h (term-normal t ps e n))

  pub part-ready-at : Ready term t → Ready term (only (part_tree p))
  part-ready-at r =
      let k : Ready term (term_tree ps) = subst (Ready term) e r in
      let l : i < length (each part_tree ps) = omega (arith, h, ap length (sym (term-held t ps e)), held_length t ps e) in
      subst (λ (u : Tree). Ready term (only u)) (get_or-map part_tree ps i p (leaf par) h ∙ ap part_tree (sym g)) (part-ready (each part_tree ps) i (leaf par) l k)

-- two parts side by side
pub part-repeats : (t : Tree) (us : List ℕ) (ps : List Part) (k j : ℕ) (p q : Part) (r : Ordering) → Ready term t → t ≡ term_tree ps → IsNormal t → j ≡ k + 1 → j < length ps → has us k ≡ false
    → p ≡ get_or ps k p → q ≡ get_or ps j q → ComparesAs part (part_tree p) (part_tree q) r → is_eq r ≡ true → Repeats us (held t) j
part-repeats t us ps k j p q r h e n x l f a b c d =
    let m : k < length ps = omega (arith, l, x) in
    let s = equal_parts (part_tree p) (part_tree q) r (part-ready-at t ps k p e m a h) (part-ready-at t ps j q e l b h) (part-normal-at t ps k p e m a n) (part-normal-at t ps j q e l b n) c d in
    record { before = k; next = x; free = f; same = target_at t ps k p e m a ∙ s ∙ sym (target_at t ps j q e l b) }
