-- Sets and maps made of members and pairs in any order.
use Rattle.std.proofs.Common.{◌≡◌, ℕ, List, [], ◌∷◌, map, refl, sym, ap, ◌∙◌, subst, All}
use Rattle.std.proofs.lemmas.List.Elements.{All-nil, All-cons}
use Rattle.calculus.specs.Tree.{set, dict, Tree}
use Rattle.calculus.specs.Shape.{many, only, held, at}
use Rattle.calculus.specs.Order.{IsAscending}
use Rattle.calculus.specs.Code.{code}
use Rattle.calculus.specs.Normal.{ascending}
use Rattle.calculus.specs.Operators.{of_set, of_map}
use Rattle.rho_term.specs.Parts.{pair_tree}
use Rattle.code_order.proofs.Keys.{sort_in, Up, up-sort, arranged-sort}
use Rattle.code_order.proofs.Made.{ascending-sort, map-arranged}
use Rattle.value_ops.specs.Answers.{IsOperand}
use Rattle.coll_ops.specs.Keys.{Ascend, last_each, once_each}
use Rattle.coll_ops.proofs.Merging.{kept-sort, sorted-up}
use Rattle.coll_ops.proofs.Sorts.{Each, each-sort}
use Rattle.coll_ops.proofs.Members.{HaveKeys, key_code, all-each, set-once, map-once, keys-up, up-asc}

pub each-all : {X : Type 0} (P : X → Type 0) (xs : List X) → Each P xs → All P xs
each-all P [] h = All-nil P
each-all P (x ∷ xs) h = All-cons P x xs h.0 (each-all P xs h.1)

once-sorted : {X : Type 0} (k : X → List ℕ) (xs : List X) → once_each k (sort_in k xs) ≡ once_each k xs
once-sorted k xs =
    arranged-sort k (last_each k (sort_in k xs)) ∙ ap (sort_in k) (kept-sort k xs) ∙ sorted-up k (sort_in k (last_each k xs)) (up-sort k (last_each k xs)) ∙ sym (arranged-sort k (last_each k xs))

-- a set, its members put in order
module _ (ms vs : List Tree) (e : vs ≡ ascending ms) where
  set-sorted : vs ≡ sort_in code ms
  set-sorted = e ∙ ascending-sort ms

  module _ (h : All IsOperand ms) where
    pub set-ascends : Ascend (λ t. t) vs
    set-ascends = record {
      keys = subst (All IsOperand) (sym set-sorted) (each-all IsOperand _ (each-sort IsOperand code ms (all-each IsOperand ms h)));
      up = subst (λ l. IsAscending (map code l)) (sym set-sorted) (up-asc code (sort_in code ms) (up-sort code ms));
    }

    pub set-made : (ws : List Tree) (t : Tree) → ws ≡ once_each code vs → t ≡ only (many set ws) → t ≡ of_set ms
    set-made ws t f g =
        g ∙ ap (λ l. only (many set l)) (f ∙ ap (once_each code) set-sorted ∙ once-sorted code ms) ∙ sym (set-once ms (all-each IsOperand ms h))

-- pairs that stand for equal trees are equal
one-pair : (p q : Tree × Tree) → pair_tree p ≡ pair_tree q → p ≡ q
one-pair p q e = let a : p.0 ≡ q.0 = ap (λ t. at 0 (held t)) e in let b : p.1 ≡ q.1 = ap (λ t. at 1 (held t)) e in ap (λ x. (x, p.1)) a ∙ ap (λ y. (q.0, y)) b

one-list : (ps qs : List (Tree × Tree)) → map pair_tree ps ≡ map pair_tree qs → ps ≡ qs
one-list [] [] e = refl
one-list [] (q ∷ qs) e = cc
one-list (p ∷ ps) [] e = cc
one-list (p ∷ ps) (q ∷ qs) e =
    let a : pair_tree p ≡ pair_tree q = cc in
    let b : map pair_tree ps ≡ map pair_tree qs = cc in
    ap (λ x. x ∷ ps) (one-pair p q a) ∙ ap (λ l. q ∷ l) (one-list ps qs b)

-- a map, its pairs put in order
module _ (ps vs : List (Tree × Tree)) (e : map pair_tree vs ≡ ascending (map pair_tree ps)) where
  abbrev whole : Tree × Tree → List ℕ
  whole p = code (pair_tree p)

  map-sorted : vs ≡ sort_in whole ps
  map-sorted = one-list vs (sort_in whole ps) (e ∙ sym (ap (map pair_tree) (sym (arranged-sort whole ps)) ∙ map-arranged pair_tree ps))

  codes-up : (qs : List (Tree × Tree)) → Up whole qs → IsAscending (map code (map pair_tree qs))
  codes-up [] u = tt
  codes-up (q ∷ []) u = (tt, tt)
  codes-up (q ∷ r ∷ qs) u = (u.0, codes-up (r ∷ qs) u.1)

  module _ (h : All (λ p. IsOperand p.0) ps) where
    pub map-keys : HaveKeys vs
    map-keys = subst HaveKeys (sym map-sorted) (each-sort (λ p. IsOperand p.0) whole ps (all-each (λ p. IsOperand p.0) ps h))

    pub map-ascends : Ascend (λ p. p.0) vs
    map-ascends = record {
      keys = each-all (λ p. IsOperand p.0) vs map-keys;
      up = up-asc key_code vs (keys-up vs map-keys (subst (λ l. IsAscending (map code (map pair_tree l))) (sym map-sorted) (codes-up (sort_in whole ps) (up-sort whole ps))));
    }

    pub map-made : (ws : List (Tree × Tree)) (t : Tree) → ws ≡ once_each key_code vs → t ≡ only (many dict (map pair_tree ws)) → t ≡ of_map (ascending (map pair_tree ps))
    map-made ws t f g = g ∙ ap (λ l. only (many dict (map pair_tree l))) f ∙ sym (map-once vs map-keys) ∙ ap of_map e
