-- Congruent patterns and binds match congruent targets alike.
use Rattle.std.proofs.Common.{◌≡◌, List, [], ◌∷◌, refl, subst, sym, ⊎_elim}
use Rattle.std.specs.List.{AllZip}
use Rattle.calculus.specs.Tree.{Label, bind, par, list, Tree, node, Trees, none, also}
use Rattle.calculus.specs.Shape.{listed, at}
use Rattle.calculus.specs.Form.{Sort, term, a_bind, a_rest, pat, name_pat, row_of, these, Scope, Fits, kids}
use Rattle.calculus.specs.Congruence.{is_bag}
use Rattle.calculus.specs.Code.{arranged}
use Rattle.calculus.specs.Operators.{of_list}
use Rattle.calculus.specs.Matching.{all_matches, bind_matches, rest_of, piece, first_items_match}
use Rattle.calculus.proofs.Known.{IsForm}
use Rattle.calculus.proofs.FromFits.{formed}
use Rattle.calculus.proofs.Formed.{Formed, Holds, is_form}
use Rattle.calculus.proofs.Ranges.{ranged_closed}
use Rattle.calculus.proofs.Keys.{key, key_all, equal_nodes}
use Rattle.calculus.proofs.Equivalence.{agree}
use Rattle.process_laws.specs.MatchingLaws.{AreTargets, AreAlike, MatchesAreAlike, BindsMatchAlike}
use Rattle.process_laws.proofs.Zips.{zip-weaken}
use Rattle.process_laws.proofs.Bindings.{first-same}
use Rattle.process_laws.proofs.Tied.{Tied}
use Rattle.process_laws.proofs.Targets.{aim}
use Rattle.process_laws.proofs.Ways.{Answers, first-items-alike}
use Rattle.process_laws.proofs.Forms.{key-at, same_rest, of_many}
use Rattle.process_laws.proofs.MatchingPatterns.{IsAny, alike}

tied : (t u : Tree) → AreTargets t u → Tied term t u
tied t u h = ((agree t u).0 h.2, (ranged_closed t h.0.0 h.0.1, h.0.1), (ranged_closed u h.1.0 h.1.1, h.1.1))

any_formed : (s : Sort) (v : Scope) (t : Tree) → Fits s v t → Formed IsAny s t
any_formed s v t h = formed IsAny (λ r w l ts p. tt) s v t h

of_pattern : (p q t u : Tree) → Answers term (piece p).whole.tries (piece q).whole.tries → AreTargets t u → AreAlike (all_matches p t) (all_matches q u)
unfolding all_matches
of_pattern p q t u f a = f t u (aim term t u (tied t u a))

pub matches_are_alike : MatchesAreAlike
matches_are_alike p q t u h a =
    let e : key p ≡ key q = (agree p q).0 h.1 in
    let f : Answers term (piece p).whole.tries (piece q).whole.tries =
    ⊎_elim (λ (k : Fits pat h.0.0 p). (alike pat p q (any_formed pat h.0.0 p k) e).2) (λ (k : Fits name_pat h.0.0 p). (alike name_pat p q (any_formed name_pat h.0.0 p k) e).2) h.0.1
    in
    let r = of_pattern p q t u f a in
    (r, first-same (all_matches p t) (all_matches q u) r)

-- the form of a bind
one_bind : (l : Label) → IsForm (kids a_bind l 0) → l ≡ bind
one_bind bind h = refl
one_bind _ h = absurd h

row_formed : (ts : Trees) → Holds IsAny (these (term ∷ row_of name_pat ∷ a_rest ∷ [])) ts → Formed IsAny (row_of name_pat) (at 1 (listed ts))
row_formed none h = absurd h
row_formed (also t none) h = absurd h.1
row_formed (also t (also p ts)) h = h.1.0

each_tied : (xs ys : List Tree) → AllZip AreTargets xs ys → AllZip (Tied term) xs ys
each_tied xs ys h = zip-weaken AreTargets (Tied term) tied xs ys h

of_bind : (ts us : Trees) (xs ys : List Tree) → Holds IsAny (these (term ∷ row_of name_pat ∷ a_rest ∷ [])) ts → key_all ts ≡ key_all us → AllZip AreTargets xs ys
    → AreAlike (first_items_match (piece (at 1 (listed ts))).inner (rest_of (at 2 (listed ts))) of_list xs) (first_items_match (piece (at 1 (listed us))).inner (rest_of (at 2 (listed us))) of_list ys)
of_bind ts us xs ys h e a =
    let r = rest_of (at 2 (listed us)) in
    let i = alike (row_of name_pat) (at 1 (listed ts)) (at 1 (listed us)) (row_formed ts h) (key-at 1 ts us e) in
    subst (λ x. AreAlike (first_items_match (piece (at 1 (listed ts))).inner x of_list xs) (first_items_match (piece (at 1 (listed us))).inner r of_list ys))
    (sym (same_rest (at 2 (listed ts)) (at 2 (listed us)) (key-at 2 ts us e)))
    (first-items-alike term of_list (of_many par list) r (piece (at 1 (listed ts))).inner (piece (at 1 (listed us))).inner xs ys i (each_tied xs ys a))

binds : (b c : Tree) (xs ys : List Tree) → Formed IsAny a_bind b → key b ≡ key c → AllZip AreTargets xs ys → AreAlike (bind_matches b xs) (bind_matches c ys)
unfolding bind_matches
binds (node l ts) (node m us) xs ys h e a =
    let n = equal_nodes l m ts us e in
    let q = one_bind l (is_form IsAny (kids a_bind l 0) ts h.1) in
    of_bind ts us xs ys (subst (λ (x : Label). Holds IsAny (kids a_bind x 0) ts) q h.1) (subst (λ (x : Label). arranged (is_bag x) (key_all ts) ≡ arranged (is_bag x) (key_all us)) q n.1) a

pub binds_match_alike : BindsMatchAlike
binds_match_alike b c xs ys h a =
    let r = binds b c xs ys (any_formed a_bind h.0.0 b h.0.1) ((agree b c).0 h.1) a in
    (r, first-same (bind_matches b xs) (bind_matches c ys) r)
