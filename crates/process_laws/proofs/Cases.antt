-- Congruent cases are tried alike.
use Rattle.std.proofs.Common.{◌≡◌, ℕ, ◌≤◌, Bool, true, false, cond, ltb, List, [], ◌∷◌, ◌++◌, length, reverse, refl, ap, subst, inl}
use Rattle.std.proofs.lemmas.Bool.{ltb-false}
use Rattle.calculus.specs.declared.fault.FaultKind.TheVariants as fault
use Rattle.calculus.specs.Tree.{Label, case, Tree, node, Trees, none, also}
use Rattle.calculus.specs.Shape.{listed}
use Rattle.calculus.specs.Size.{height}
use Rattle.calculus.specs.Code.{code}
use Rattle.calculus.specs.Variables.{binders}
use Rattle.calculus.specs.Form.{term, a_case, pat, all, Scope, Fits, Hold, IsClosed}
use Rattle.calculus.specs.Outcome.{Prices, gives, fails, Outcome, after, within_limits}
use Rattle.calculus.specs.Substitution.{put}
use Rattle.calculus.specs.Matching.{Bindings, first_of_all, all_matches}
use Rattle.calculus.specs.Unfolding.{Product, unfold_within, fitting, cases_tried, unfold_in}
use Rattle.calculus.proofs.Keys.{key, key_all, equal_nodes}
use Rattle.calculus.proofs.Equivalence.{agree, heights_equal}
use Rattle.process_laws.specs.MatchingLaws.{IsSameMatch}
use Rattle.process_laws.proofs.Matched.{matches_are_alike}
use Rattle.process_laws.proofs.Kept.{code-kept}
use Rattle.process_laws.proofs.Outcomes.{Ends}
use Rattle.process_laws.proofs.UnfoldingPatterns.{a_pat}
use Rattle.process_laws.proofs.Fitting.{fits-tidy}
use Rattle.process_laws.proofs.Putting.{put-key}
use Rattle.process_laws.proofs.Sizing.{roomy-short}
use Rattle.process_laws.proofs.Likeness.{AreRoomyTwins, AreSameThings, to-pair, kids-keys, first-keys, no-keys, keys-no}
use Rattle.process_laws.proofs.Closing.{FirstIsClosed, first-closed, put-closed}
use Rattle.process_laws.proofs.Pairing.{levels-of, again-charged}

module _ (p : Prices) where
  module _ (room : ℕ) (ih : (t u : Tree) (s : List ℕ) → AreRoomyTwins t u → Ends AreSameThings (unfold_in p room t s) (unfold_in p room u s)) where
    within-alike : (t u : Tree) (s : List ℕ) → IsClosed t → IsClosed u → key t ≡ key u → Ends AreSameThings (unfold_within (unfold_in p room) s (within_limits t)) (unfold_within (unfold_in p room) s (within_limits u))
    within-alike t u s f g e =
        let c : code t ≡ code u = code-kept t u e in
        let a : ltb 400 (height t) ≡ ltb 400 (height u) = ap (ltb 400) (heights_equal t u ((agree t u).1 e)) in
        let b : ltb 1048576 (length (code t)) ≡ ltb 1048576 (length (code u)) = ap (λ x. ltb 1048576 (length x)) c in
        subst (λ (x : Bool). Ends AreSameThings (unfold_within (unfold_in p room) s (within_limits t)) (unfold_within (unfold_in p room) s (cond x (fails fault.TooDeep) (cond (ltb 1048576 (length (code u))) (fails fault.TooBig) (gives u))))) a
        (subst (λ (y : Bool). Ends AreSameThings (unfold_within (unfold_in p room) s (within_limits t)) (unfold_within (unfold_in p room) s (cond (ltb 400 (height t)) (fails fault.TooDeep) (cond y (fails fault.TooBig) (gives u))))) b
        (go (ltb 400 (height t)) (ltb 1048576 (length (code t))) refl refl))
      where
        q : height t ≡ height u
        q = heights_equal t u ((agree t u).1 e)

        go : (x y : Bool) → ltb 400 (height t) ≡ x → ltb 1048576 (length (code t)) ≡ y
            → Ends AreSameThings (unfold_within (unfold_in p room) s (cond x (fails fault.TooDeep) (cond y (fails fault.TooBig) (gives t)))) (unfold_within (unfold_in p room) s (cond x (fails fault.TooDeep) (cond y (fails fault.TooBig) (gives u))))
        go true y j k = (refl, refl)
        go false true j k = (refl, refl)
        go false false j k =
            let d = ltb-false 400 (height t) j in
            let n = ltb-false 1048576 (length (code t)) k in
            let m : length (code u) ≤ 1048576 = subst (λ x. length x ≤ 1048576) (code-kept t u e) n in
            ih t u s (to-pair t u (f, (d, n)) (g, (subst (λ x. x ≤ 400) q d, m)) e)

    fitting-alike : (v v' : Scope) (s : List ℕ) (ms ns : List Bindings) (body other : Tree) (next after : Outcome (List Product)) → FirstIsClosed ms → FirstIsClosed ns → IsSameMatch (first_of_all ms) (first_of_all ns) → Fits term v body → Fits term v' other → key body ≡ key other → Ends AreSameThings next after
        → Ends AreSameThings (fitting (unfold_in p room) s (first_of_all ms) body next) (fitting (unfold_in p room) s (first_of_all ns) other after)
    fitting-alike v v' s [] [] body other next after a b m f g e k = k
    fitting-alike v v' s [] (c ∷ ns) body other next after a b m f g e k = absurd m
    fitting-alike v v' s (c ∷ ms) [] body other next after a b m f g e k = absurd m
    fitting-alike v v' s (c ∷ ms) (d ∷ ns) body other next after a b m f g e k =
        within-alike (put c body) (put d other) s (put-closed v body c f a) (put-closed v' other d g b) (put-key v body other c d f e (levels-of c d m a))

    -- cases that are tried alike
    pub cases-alike : (cs ds : Trees) → Hold (all a_case) [] [] cs → Hold (all a_case) [] [] ds → key_all cs ≡ key_all ds → (v w : Tree) → AreRoomyTwins v w → (s : List ℕ) → Ends AreSameThings (cases_tried p (unfold_in p room) s v (listed cs)) (cases_tried p (unfold_in p room) s w (listed ds))
    cases-alike none none h k e v w r s = (refl, tt)
    cases-alike none (also d ds) h k e v w r s = absurd (no-keys d ds e)
    cases-alike (also c cs) none h k e v w r s = absurd (keys-no c cs e)
    cases-alike (also (node l ts) cs) (also (node m us) ds) h k e v w r s =
        let f = first-keys (node l ts) (node m us) cs ds e in
        from-case l m ts us h.0 k.0 f.0 (equal_nodes l m ts us f.0).0 (cases-alike cs ds h.1 k.1 f.1 v w r s)
      where
        from-case : (l m : Label) (ts us : Trees) → Fits a_case [] (node l ts) → Fits a_case [] (node m us) → key (node l ts) ≡ key (node m us) → l ≡ m
            → Ends AreSameThings (cases_tried p (unfold_in p room) s v (listed cs)) (cases_tried p (unfold_in p room) s w (listed ds))
            → Ends AreSameThings (cases_tried p (unfold_in p room) s v (listed (also (node l ts) cs))) (cases_tried p (unfold_in p room) s w (listed (also (node m us) ds)))
        from-case case case (also q (also b none)) (also q' (also b' none)) f g e z next =
            let x = kids-keys case (also q (also b none)) (also q' (also b' none)) e refl in
            let y = first-keys q q' (also b none) (also b' none) x in
            let y' = first-keys b b' none none y.1 in
            let match_same = (matches_are_alike q q' v w (([], inl f.1.0), (agree q q').1 y.0) ((r.first, roomy-short v r.roomy), (r.second, roomy-short w r.room), (agree v w).1 r.same)).1 in
            again-charged p.case _ _
            (fitting-alike (reverse (binders case (also q (also b none))) ++ []) (reverse (binders case (also q' (also b' none))) ++ []) s (all_matches q v) (all_matches q' w) b b' (cases_tried p (unfold_in p room) s v (listed cs)) (cases_tried p (unfold_in p room) s w (listed ds))
            (first-closed q v (fits-tidy pat a_pat [] q tt f.1.0) r.first) (first-closed q' w (fits-tidy pat a_pat [] q' tt g.1.0) r.second) match_same f.1.1.0 g.1.1.0 y'.0 next)
        from-case case case none us f g e z next = absurd f.1
        from-case case case (also q none) us f g e z next = absurd f.1.1
        from-case case case (also q (also b (also x xs))) us f g e z next = absurd f.1.1.1
        from-case case case (also q (also b none)) none f g e z next = absurd g.1
        from-case case case (also q (also b none)) (also q' none) f g e z next = absurd g.1.1
        from-case case case (also q (also b none)) (also q' (also b' (also x xs))) f g e z next = absurd g.1.1.1
        from-case case _ ts us f g e z next = absurd g.1
        from-case _ m ts us f g e z next = absurd f.1
