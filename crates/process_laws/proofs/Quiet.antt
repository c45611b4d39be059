-- What is good binds no variables outside.
use Rattle.std.proofs.Common.{◌≡◌, List, [], ◌∷◌, ◌++◌, refl}
use Rattle.calculus.specs.Tree.{par, row, bool, int, str, uri, bytes, fresh, list, tuple, set, dict, pair, send, receive, new, match, bundle, unary, binary, method, Tree, node, Trees, none, also}
use Rattle.calculus.specs.Variables.{Sense, bound, bound_all}
use Rattle.process_laws.proofs.Goodness.{Role, a_term, a_part, a_pair, the_terms, the_cases, a_case, the_binds, a_bind, a_pattern, Slots, each_is, these_are, any_kids, no_kids, IsGood, AreGoodKids}
use Rattle.process_laws.proofs.Moving.{IsOfProcess, AreOfProcess}

pub both-none : (xs ys : List Sense) → xs ≡ [] → ys ≡ [] → xs ++ ys ≡ []
both-none [] ys h k = k
both-none (x ∷ xs) ys h k = cc

-- the slots of processes that say what they hold
abbrev pub AreGivenOfProcess : Slots → Type 0
AreGivenOfProcess any_kids = ⊥
AreGivenOfProcess s = AreOfProcess s

module _ (O : Tree → Type 0) where
  mutual
    pub good-quiet : (r : Role) (t : Tree) → IsOfProcess r → IsGood O r t → bound t ≡ []
    good-quiet a_term (node par ts) o h = kids-quiet (each_is a_part) ts tt h.1
    good-quiet a_term (node _ ts) o h = absurd h.1
    good-quiet a_pair (node pair ts) o h = kids-quiet (these_are (a_term ∷ a_term ∷ [])) ts ((tt, tt), ((tt, tt), tt)) h.1
    good-quiet a_pair (node _ ts) o h = absurd h.1
    good-quiet the_terms (node row ts) o h = kids-quiet (each_is a_term) ts tt h.1
    good-quiet the_terms (node _ ts) o h = absurd h.1
    good-quiet the_cases t o h = absurd o
    good-quiet a_case t o h = absurd o
    good-quiet the_binds t o h = absurd o
    good-quiet a_bind t o h = absurd o
    good-quiet (a_pattern k) t o h = absurd o
    good-quiet a_part (node (receive k) ts) o h = refl
    good-quiet a_part (node (new os) ts) o h = refl
    good-quiet a_part (node match ts) o h = refl
    good-quiet a_part (node (bool x) ts) o h = kids-quiet (these_are []) ts tt h.1
    good-quiet a_part (node (int x) ts) o h = kids-quiet (these_are []) ts tt h.1
    good-quiet a_part (node (str x) ts) o h = kids-quiet (these_are []) ts tt h.1
    good-quiet a_part (node (uri x) ts) o h = kids-quiet (these_are []) ts tt h.1
    good-quiet a_part (node (bytes x) ts) o h = kids-quiet (these_are []) ts tt h.1
    good-quiet a_part (node (fresh x) ts) o h = kids-quiet (these_are []) ts tt h.1
    good-quiet a_part (node list ts) o h = kids-quiet (each_is a_term) ts tt h.1
    good-quiet a_part (node tuple ts) o h = kids-quiet (each_is a_term) ts tt h.1
    good-quiet a_part (node set ts) o h = kids-quiet (each_is a_term) ts tt h.1
    good-quiet a_part (node dict ts) o h = kids-quiet (each_is a_pair) ts tt h.1
    good-quiet a_part (node (send q) ts) o h = kids-quiet (these_are (a_term ∷ the_terms ∷ [])) ts ((tt, tt), ((tt, tt), tt)) h.1
    good-quiet a_part (node (bundle q) ts) o h = kids-quiet (these_are (a_term ∷ [])) ts ((tt, tt), tt) h.1
    good-quiet a_part (node (unary q) ts) o h = kids-quiet (these_are (a_term ∷ [])) ts ((tt, tt), tt) h.1
    good-quiet a_part (node (binary q) ts) o h = kids-quiet (these_are (a_term ∷ a_term ∷ [])) ts ((tt, tt), ((tt, tt), tt)) h.1
    good-quiet a_part (node (method q) ts) o h = kids-quiet (these_are (a_term ∷ the_terms ∷ [])) ts ((tt, tt), ((tt, tt), tt)) h.1
    good-quiet a_part (node _ ts) o h = absurd h.1

    kids-quiet : (s : Slots) (ts : Trees) → AreGivenOfProcess s → AreGoodKids O s ts → bound_all ts ≡ []
    kids-quiet (each_is r) none f h = refl
    kids-quiet (each_is r) (also t ts) f h = both-none (bound t) (bound_all ts) (good-quiet r t f h.0) (kids-quiet (each_is r) ts f h.1)
    kids-quiet (these_are []) none f h = refl
    kids-quiet (these_are []) (also t ts) f h = absurd h
    kids-quiet (these_are (r ∷ rs)) none f h = absurd h
    kids-quiet (these_are (r ∷ rs)) (also t ts) f h = both-none (bound t) (bound_all ts) (good-quiet r t f.0.0 h.0) (kids-quiet (these_are rs) ts f.1 h.1)
    kids-quiet any_kids ts f h = absurd f
    kids-quiet no_kids ts f h = absurd h
