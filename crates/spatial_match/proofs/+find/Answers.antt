use Rattle.std.proofs.Common.{◌≡◌, ℕ, zero, suc, ◌+◌, ◌<◌, ◌≤◌, Bool, true, false, List, [], ◌∷◌, drop, get_or, length, map, refl, sym, ap, ◌∙◌, subst, arith, rules}
use Rattle.std.specs.Prelude.{Option, Some, None, IfOk, IsSomeAnd, MatchOption, not}
use Rattle.std.proofs.Math.Bool.{beq}
use Rattle.std.specs.declared.alloc.Global.{Global}
use Rattle.std.specs.declared.vec.Vec.{Vec}
use Rattle.std.proofs.lemmas.List.{length-map, get_or-map}
use Rattle.calculus.specs.declared.plain.TermRest.TheVariants as rests
use Rattle.calculus.specs.Tree.{Tree, trees, weight, weights, par, row, tuple, set, dict, bundle, rest, pattern, list_pattern, set_pattern, map_pattern}
use Rattle.calculus.specs.Shape.{held, label_of, leaf, many, only, two}
use Rattle.calculus.specs.Code.{codes}
use Rattle.calculus.specs.Form.{term, pair_of}
use Rattle.calculus.specs.Matching.{Bindings, both_of, first_items_match, first_of_all, is_empty, ways}
use Rattle.calculus.specs.Operators.{of_list}
use Rattle.calculus.specs.Order.{IsAscending}
use Rattle.calculus.specs.Variables.{is_wide}
use Rattle.rho_term.specs.Normal.{IsOrdered}
use Rattle.rho_term.specs.Parts.{part_tree, pat_part_tree, pair_tree, term_tree}
use Rattle.rho_term.specs.declared.term.Part.{Part}
use Rattle.rho_term.specs.declared.term.PatPart.{PatPart}
use Rattle.rho_term.proofs.Trees.{tree-at, ordered-at}
use Rattle.spatial_match.specs.declared.split.Split.{Split}
use Rattle.match_targets.specs.Targets.{AllReady, Ready, remaining}
use Rattle.spatial_match.specs.Given.{AllTries, Tries}
use Rattle.spatial_match.specs.Search.{AtMostOne, member_at}
use Rattle.match_targets.specs.Found.{first_way, may_rest, MemberWay, IsFirst, IsFirstMembers}
use Rattle.free_places.specs.Places.{left_from}
use Rattle.spatial_match.specs.Found.{IsFirstWay, Way, found, may_leave, tried, tried_pats, tried_pairs}
use Rattle.spatial_match.proofs.+find.Goals as goal
use Rattle.spatial_match.proofs.Firsts.{none-of, some-of, no_way-of, way-of, no_members-of, members-of, both-second-none, both-some, and-no-more}
use Rattle.free_places.proofs.Counting.{next-of, none-of as none-of-free}
use Rattle.match_targets.proofs.Leaving.{remaining-all, whole-ready}
use Rattle.match_targets.proofs.Readying.{list-ready, tuple-ready, set-ready, map-ready, channel-ready, data-ready, body-ready, part-ready, ready-at, ready-of}
use Rattle.spatial_match.proofs.Trying.{tries-at, tries-of, tuple-tries, row-tries}
use Rattle.spatial_match.proofs.Rows.{NoneBefore, wide-at, found-at, length-each, length-row, none-next}
use Rattle.spatial_match.proofs.Sets.{Reaches, reaches-next, reaches-none, reaches-short}
use Rattle.match_targets.proofs.Ending.{ok_map}
use Rattle.spatial_match.proofs.Shaping.{list-found, tuple-found, set-found, map-found, members-found, send-found}
use Rattle.spatial_match.proofs.Steps.{part-starts, part-none-failed, part-next-failed, part-repeated, part-passes, part-stops, part-ends, part-reaches, part-still-failed, place-refused, place-dead, place-taking, part-around, part-around-none, end-wide-none, end-wide, end-thin-none, end-thin, pattern-none, pattern-some}
use Rattle.spatial_match.proofs.Taking.{member-starts, member-none-failed, member-next-failed, member-repeated, member-passes, member-stops, member-ends, member-reaches, member-still-failed, member-refused, member-dead, member-taking}
use Rattle.match_targets.proofs.Holding.{target_at, held_length, term-ascends, term-normal}
use Rattle.spatial_match.proofs.Weighing.{weight-beside, weight-pos, tree-beside, heavy, pat-tries, pat-one, pat-normal}

-- a target of this part
ready_as : (p q : Part) → p ≡ q → Ready term (only (part_tree p)) → Ready term (only (part_tree q))
ready_as p q e h = subst (λ (r : Part). Ready term (only (part_tree r))) e h

tries_as : (p q : PatPart) → p ≡ q → Tries (pat_part_tree p) → Tries (pat_part_tree q)
tries_as p q e h = subst (λ (r : PatPart). Tries (pat_part_tree r)) e h

weight_as : (p q : PatPart) → p ≡ q → weight (pat_part_tree p) ≡ weight (pat_part_tree q)
weight_as p q e = ap (λ (r : PatPart). weight (pat_part_tree r)) e

row_weight : (xs ys : List Tree) → xs ≡ ys → weights (trees xs) ≡ weights (trees ys)
row_weight xs ys e = ap (λ (zs : List Tree). weights (trees zs)) e

pub forms::find_bundle-find_whole-requires : goal.forms::find_bundle-find_whole-requires
forms::find_bundle-find_whole-requires t c =
    let r = ready_as _ _ c.in-Bundle.is c.requires.ready in
    (omega arith, (c.requires.tries, body-ready (bundle c.in-Bundle.given) c.in-Bundle.process r.closed.1.0.1.0 r))

pub forms::find_items-returns-then-i-terms : goal.forms::find_items-returns-then-i-terms
forms::find_items-returns-then-i-terms t c =
    reaches-short c.args.remainder of_list (tried_pats c.args.pats.now) c.args.terms.now c.loop-i.i c.loop-i.found.items c.loop-i.invariant (omega (arith, length-row c.args.pats.now)) (omega arith)

pub forms::find_items-find_whole-requires : goal.forms::find_items-find_whole-requires
forms::find_items-find_whole-requires t c =
    let x = c.index-pats-i in
    let y = c.index-terms-i in
    let w : weight x.result ≤ weights (trees c.args.pats.now) = rw x.is (tree-at _ _ _ c.loop-i-test.true) in
    let l : c.loop-i.i < length c.args.terms.now = omega arith in (
      omega (arith, w),
      (
        subst Tries (sym x.is) (tries-at c.args.pats.now c.loop-i.i x.result c.loop-i-test.true c.requires.tries),
        subst (Ready term) (sym y.is) (ready-at term c.args.terms.now c.loop-i.i y.result l c.requires.ready),
      ),
    )

any_default : {A : Type 0} (ts : List A) (i : ℕ) (d e : A) → i < length ts → get_or ts i d ≡ get_or ts i e
any_default [] i d e h = absurd (omega arith)
any_default (t ∷ ts) zero d e h = refl
any_default (t ∷ ts) (suc i) d e h = any_default ts i d e (omega arith)

-- what member number i of a row finds in a tree there
at_row : (ps ts : List Tree) (i : ℕ) (p u : Tree) → i < length ps → i < length ts → p ≡ get_or ps i p → u ≡ get_or ts i u
    → (member_at i (tried_pats ps)).tries (get_or ts i (leaf par)) ≡ found p u
at_row ps ts i p u k l e g =
    found-at (λ (x : Tree). x) ps i p (get_or ts i (leaf par)) k ∙ ap (λ (x : Tree). found x (get_or ts i (leaf par))) (sym e) ∙ ap (found p) (any_default ts i (leaf par) u l ∙ sym g)

pub forms::find_items-returns-in-None : goal.forms::find_items-returns-in-None
forms::find_items-returns-in-None t c =
    let x = c.index-pats-i in
    let y = c.index-terms-i in
    let l : c.loop-i.i < length c.args.terms.now = omega arith in
    let n = none-of (found x.result y.result) c.in_ok-find_whole.field-0 c.in-None.is c.in_ok-find_whole.ensures in
    reaches-none c.args.remainder of_list (tried_pats c.args.pats.now) c.args.terms.now c.loop-i.i c.loop-i.found.items c.loop-i.invariant (omega (arith, length-row c.args.pats.now)) l
    (ap first_of_all (at_row c.args.pats.now c.args.terms.now c.loop-i.i x.result y.result c.loop-i-test.true l x.is y.is) ∙ n)

pub forms::find_items-loop-i-preserved : goal.forms::find_items-loop-i-preserved
forms::find_items-loop-i-preserved t c =
    let x = c.index-pats-i in
    let y = c.index-terms-i in
    let l : c.loop-i.i < length c.args.terms.now = omega arith in
    let n = some-of (found x.result y.result) c.in_ok-find_whole.field-0 c.in-Some.next c.in-Some.is c.in_ok-find_whole.ensures in
    let r = reaches-next c.args.remainder of_list (tried_pats c.args.pats.now) c.args.terms.now c.loop-i.i c.loop-i.found.items c.loop-i.invariant c.in-Some.next.items
    (omega (arith, length-row c.args.pats.now)) l (ap first_of_all (at_row c.args.pats.now c.args.terms.now c.loop-i.i x.result y.result c.loop-i-test.true l x.is y.is) ∙ n) in
    subst (λ (xs : List Tree). Reaches c.args.remainder of_list (tried_pats c.args.pats.now) c.args.terms.now (c.loop-i.i + 1) xs) (sym c.in_ok-found-in-Some.ensures) r

pub forms::find_list-find_items-requires : goal.forms::find_list-find_items-requires
forms::find_list-find_items-requires t c =
    (omega arith, (c.requires.tries, subst (AllReady term) (sym c.deref.ensures.value) (list-ready c.in-List.terms.items (ready_as _ _ c.in-List.is c.requires.ready))))

pub forms::find_list-returns-in-List : goal.forms::find_list-returns-in-List
forms::find_list-returns-in-List t c =
    let p = two list_pattern (many row c.args.pats.now) (leaf (rest c.args.remainder)) in
    let e = ap (first_items_match (tried_pats c.args.pats.now) c.args.remainder of_list) c.deref.ensures.value ∙ list-found c.args.pats.now c.in-List.terms.items c.args.remainder
    ∙ ap (λ (q : Part). found p (part_tree q)) (sym c.in-List.is) in
    subst (λ (bs : List Bindings). IfOk c.find_items.result (λ (o : Option (Vec Tree Global)). IsFirst bs o)) e c.find_items.ensures

pub forms::find_tuple-find_items-requires : goal.forms::find_tuple-find_items-requires
forms::find_tuple-find_items-requires t c =
    (omega arith, (c.requires.tries, subst (AllReady term) (sym c.deref.ensures.value) (tuple-ready c.in-Tuple.terms.items (ready_as _ _ c.in-Tuple.is c.requires.ready))))

pub forms::find_tuple-returns-in-Tuple : goal.forms::find_tuple-returns-in-Tuple
forms::find_tuple-returns-in-Tuple t c =
    let p = many tuple c.args.pats.now in
    let e = ap (first_items_match (tried_pats c.args.pats.now) rests.No of_list) c.deref.ensures.value ∙ tuple-found c.args.pats.now c.in-Tuple.terms.items
    ∙ ap (λ (q : Part). found p (part_tree q)) (sym c.in-Tuple.is) in
    subst (λ (bs : List Bindings). IfOk c.find_items.result (λ (o : Option (Vec Tree Global)). IsFirst bs o)) e c.find_items.ensures

pub forms::find_set-find_members-requires : goal.forms::find_set-find_members-requires
forms::find_set-find_members-requires t c =
    let o = subst (λ (q : Part). IsOrdered (part_tree q)) c.in-Set.is c.requires.order in (
      omega arith,
      (
        omega arith,
        (
          c.requires.tries,
          (
            subst (AllReady term) (sym c.as_slice-terms.ensures.value) (set-ready c.in-Set.terms.items (ready_as _ _ c.in-Set.is c.requires.ready)),
            subst (λ (ts : List Tree). IsAscending (codes (trees ts))) (sym c.as_slice-terms.ensures.value) o,
          ),
        ),
      ),
    )

pub forms::find_set-returns-in-Set : goal.forms::find_set-returns-in-Set
forms::find_set-returns-in-Set t c =
    let ps = c.args.pats.now in
    let ts = c.as_slice-terms.result.now in
    let made = λ (vs : List Tree). only (many set vs) in
    let o = subst (λ (q : Part). IsOrdered (part_tree q)) c.in-Set.is c.requires.order in
    let h = subst (λ (us : List Tree). IsAscending (codes (trees us))) (sym c.as_slice-terms.ensures.value) o in
    let p = two set_pattern (many row ps) (leaf (rest c.args.remainder)) in
    let e = set-found ps ts c.args.remainder ∙ ap (λ (us : List Tree). found p (many set us)) c.as_slice-terms.ensures.value ∙ ap (λ (q : Part). found p (part_tree q)) (sym c.in-Set.is) in
    ok_map (λ (o : Option (Vec Tree Global)). IsFirstMembers c.args.remainder made (ways (tried_pats ps) (left_from 0 [] ts)) o) (λ (o : Option (Vec Tree Global)). IsFirst (found p (part_tree c.args.target.now)) o)
    (λ o k. subst (λ (bs : List Bindings). IsFirst bs o) e (members-found (tried_pats ps) c.args.remainder made ts h o k)) c.find_members.result c.find_members.ensures

pub forms::find_map-find_pairs-requires : goal.forms::find_map-find_pairs-requires
forms::find_map-find_pairs-requires t c =
    let o = subst (λ (q : Part). IsOrdered (part_tree q)) c.in-Map.is c.requires.order in (
      omega arith,
      (
        omega arith,
        (
          c.requires.tries,
          (
            subst (λ (ps : List (Tree × Tree)). AllReady (pair_of term) (map pair_tree ps)) (sym c.as_slice-pairs.ensures.value) (map-ready (map pair_tree c.in-Map.pairs.items) (ready_as _ _ c.in-Map.is c.requires.ready)),
            subst (λ (ps : List (Tree × Tree)). IsAscending (codes (trees (map pair_tree ps)))) (sym c.as_slice-pairs.ensures.value) o,
          ),
        ),
      ),
    )

pub forms::find_map-returns-in-Map : goal.forms::find_map-returns-in-Map
forms::find_map-returns-in-Map t c =
    let ps = c.args.pats.now in
    let ts = map pair_tree c.as_slice-pairs.result.now in
    let made = λ (vs : List Tree). only (many dict vs) in
    let o = subst (λ (q : Part). IsOrdered (part_tree q)) c.in-Map.is c.requires.order in
    let h = subst (λ (us : List (Tree × Tree)). IsAscending (codes (trees (map pair_tree us)))) (sym c.as_slice-pairs.ensures.value) o in
    let p = two map_pattern (many row (map pair_tree ps)) (leaf (rest c.args.remainder)) in
    let e = map-found ps ts c.args.remainder ∙ ap (λ (us : List (Tree × Tree)). found p (many dict (map pair_tree us))) c.as_slice-pairs.ensures.value ∙ ap (λ (q : Part). found p (part_tree q)) (sym c.in-Map.is) in
    ok_map (λ (o : Option (Vec Tree Global)). IsFirstMembers c.args.remainder made (ways (tried_pairs ps) (left_from 0 [] ts)) o) (λ (o : Option (Vec Tree Global)). IsFirst (found p (part_tree c.args.target.now)) o)
    (λ o k. subst (λ (bs : List Bindings). IsFirst bs o) e (members-found (tried_pairs ps) c.args.remainder made ts h o k)) c.find_pairs.result c.find_pairs.ensures

pub forms::find_part-find_list-requires : goal.forms::find_part-find_list-requires
forms::find_part-find_list-requires t c =
    let h = tries_as _ _ c.in-List.is c.requires.tries in
    (omega (arith, weight_as _ _ c.in-List.is, row_weight _ _ c.deref.ensures.value), (subst AllTries (sym c.deref.ensures.value) (row-tries c.in-List.pats.items h.1.0), c.requires.ready))

pub forms::find_part-find_tuple-requires : goal.forms::find_part-find_tuple-requires
forms::find_part-find_tuple-requires t c =
    let h = tries_as _ _ c.in-Tuple.is c.requires.tries in
    (omega (arith, weight_as _ _ c.in-Tuple.is, row_weight _ _ c.deref-in-Tuple.ensures.value), (subst AllTries (sym c.deref-in-Tuple.ensures.value) (tuple-tries c.in-Tuple.pats.items h), c.requires.ready))

pub forms::find_part-find_set-requires : goal.forms::find_part-find_set-requires
forms::find_part-find_set-requires t c =
    let h = tries_as _ _ c.in-Set.is c.requires.tries in (
      omega (arith, weight_as _ _ c.in-Set.is, row_weight _ _ c.deref-in-Set.ensures.value),
      (subst AllTries (sym c.deref-in-Set.ensures.value) (row-tries c.in-Set.pats.items h.1.0), (c.requires.ready, c.requires.order)),
    )

pub forms::find_part-find_map-requires : goal.forms::find_part-find_map-requires
forms::find_part-find_map-requires t c =
    let h = tries_as _ _ c.in-Map.is c.requires.tries in
    let e = c.deref-in-Map.ensures.value in (
      omega (arith, weight_as _ _ c.in-Map.is, ap (λ (ps : List (Tree × Tree)). weights (trees (map pair_tree ps))) e),
      (subst (λ (ps : List (Tree × Tree)). AllTries (map pair_tree ps)) (sym e) (row-tries (map pair_tree c.in-Map.pats.items) h.1.0), (c.requires.ready, c.requires.order)),
    )

pub forms::find_part-find_send-requires : goal.forms::find_part-find_send-requires
forms::find_part-find_send-requires t c =
    let h = tries_as _ _ c.in-Send.is c.requires.tries in
    let e = c.deref-in-Send.ensures.value in
    (omega (arith, weight_as _ _ c.in-Send.is, row_weight _ _ e), (h.1.0, (subst AllTries (sym e) (row-tries c.in-Send.args.items h.1.1.0), c.requires.ready)))

pub forms::find_send-find_whole-requires : goal.forms::find_send-find_whole-requires
forms::find_send-find_whole-requires t c =
    (omega arith, (c.requires.channel, channel-ready c.in-Send.kept c.in-Send.sent_on c.in-Send.data.items (ready_as _ _ c.in-Send.is c.requires.ready)))

pub forms::find_send-find_items-requires : goal.forms::find_send-find_items-requires
forms::find_send-find_items-requires t c =
    (omega arith, (c.requires.args, subst (AllReady term) (sym c.deref.ensures.value) (data-ready c.in-Send.kept c.in-Send.sent_on c.in-Send.data.items (ready_as _ _ c.in-Send.is c.requires.ready))))

same_flag : (p q : Bool) → not (beq p q) ≡ false → p ≡ q
same_flag true true h = refl
same_flag true false h = cc
same_flag false true h = cc
same_flag false false h = refl

pub forms::find_send-returns-in-None-2 : goal.forms::find_send-returns-in-None-2
forms::find_send-returns-in-None-2 t c =
    let x = found c.args.channel.now c.in-Send.sent_on in
    let y = first_items_match (tried_pats c.args.args.now) rests.No of_list c.deref.result.now in
    let a = some-of x c.in_ok-find_whole-in-Send.field-0 c.in-Some.first c.in-Some.is c.in_ok-find_whole-in-Send.ensures in
    let b = none-of y c.in_ok-find_items-in-Some.field-0 c.in-None-2.is c.in_ok-find_items-in-Some.ensures in
    sym (ap first_of_all (send-found c.args.channel.now c.args.args.now c.args.persistent c.in-Send.kept c.args.target.now c.in-Send.sent_on c.in-Send.data c.deref.result.now (same_flag c.args.persistent c.in-Send.kept c.if-persistent-kept.false) c.in-Send.is c.deref.ensures.value))
    ∙ both-second-none x y c.in-Some.first.items a b

pub forms::find_send-returns-in_ok-joined-in-Some-2 : goal.forms::find_send-returns-in_ok-joined-in-Some-2
forms::find_send-returns-in_ok-joined-in-Some-2 t c =
    let x = found c.args.channel.now c.in-Send.sent_on in
    let y = first_items_match (tried_pats c.args.args.now) rests.No of_list c.deref.result.now in
    let a = some-of x c.in_ok-find_whole-in-Send.field-0 c.in-Some.first c.in-Some.is c.in_ok-find_whole-in-Send.ensures in
    let b = some-of y c.in_ok-find_items-in-Some.field-0 c.in-Some-2.others c.in-Some-2.is c.in_ok-find_items-in-Some.ensures in
    sym (ap first_of_all (send-found c.args.channel.now c.args.args.now c.args.persistent c.in-Send.kept c.args.target.now c.in-Send.sent_on c.in-Send.data c.deref.result.now (same_flag c.args.persistent c.in-Send.kept c.if-persistent-kept.false) c.in-Send.is c.deref.ensures.value))
    ∙ both-some x y c.in-Some.first.items c.in-Some-2.others.items a b ∙ ap (λ (z : Bindings). Some z) (sym c.in_ok-joined-in-Some-2.ensures)

-- a member of a row is thin
row-thin : (ps : List Tree) (i : ℕ) → (t : Tree) → i < length ps → t ≡ get_or ps i t → label_of t ≡ pattern → (member_at i (tried_pats ps)).wide ≡ false
row-thin ps i t h e g = wide-at (λ (x : Tree). x) ps i t h ∙ ap (λ (x : Tree). is_wide (label_of x)) (sym e) ∙ ap is_wide g

-- what member number i of a row finds in tree number j
at_two : (ps ts : List Tree) (i j : ℕ) (p u : Tree) → i < length ps → j < length ts → p ≡ get_or ps i p → u ≡ get_or ts j u
    → (member_at i (tried_pats ps)).tries (get_or ts j (leaf par)) ≡ found p u
at_two ps ts i j p u k l e g =
    found-at (λ (x : Tree). x) ps i p (get_or ts j (leaf par)) k ∙ ap (λ (x : Tree). found x (get_or ts j (leaf par))) (sym e) ∙ ap (found p) (any_default ts j (leaf par) u l ∙ sym g)

heavy_row : (ts : List Tree) → length ts ≤ weights (trees ts)
heavy_row [] = omega arith
heavy_row (t ∷ ts) = omega (arith, heavy_row ts, weight-pos t)

pub members::find_members-loop-j-init : goal.members::find_members-loop-j-init
members::find_members-loop-j-init t c =
    let s = c.args.search in
    let l : c.args.i < length s.pats.now = omega arith in (
      member-starts s.rest (λ vs. only (many set vs)) (tried_pats s.pats.now) c.args.used.now s.terms.now c.args.i (omega (arith, length-row s.pats.now)) (row-thin s.pats.now c.args.i c.index-pats-i.result l c.index-pats-i.is (ap label_of c.parts-given.ensures.parts)),
      (member-none-failed s.rest (λ vs. only (many set vs)) (tried_pats s.pats.now) c.args.used.now s.terms.now c.args.i (omega (arith, length-row s.pats.now)), omega arith),
    )

pub members::find_members-try_member-requires : goal.members::find_members-try_member-requires
members::find_members-try_member-requires t c =
    let s = c.args.search in
    let l : c.args.i < length s.pats.now = omega arith in
    let g = next-of c.args.used.now c.loop-j.from (length s.terms.now) c.next_free.result c.in-Some.j c.in-Some.is c.next_free.ensures in
    let b = member-still-failed s.rest (λ vs. only (many set vs)) (tried_pats s.pats.now) c.args.used.now s.terms.now c.args.i (omega (arith, length-row s.pats.now)) c.loop-j.from c.in-Some.j (length s.terms.now) g c.loop-j.invariant.1.0 in
    (omega (arith, heavy_row s.pats.now), (l, (g.within, (g.free, (b, (c.requires.tries, (c.requires.ready, c.requires.ordered)))))))

pub members::find_members-returns-then-is_some : goal.members::find_members-returns-then-is_some
members::find_members-returns-then-is_some t c =
    let s = c.args.search in
    let l : c.args.i < length s.pats.now = omega arith in
    let g = next-of c.args.used.now c.loop-j.from (length s.terms.now) c.next_free.result c.in-Some.j c.in-Some.is c.next_free.ensures in
    let r = member-reaches s.rest (λ vs. only (many set vs)) (tried_pats s.pats.now) c.args.used.now s.terms.now c.args.i (omega (arith, length-row s.pats.now)) c.loop-j.from c.in-Some.j (length s.terms.now) refl g c.loop-j.invariant.0 in
    member-stops s.rest (λ vs. only (many set vs)) (tried_pats s.pats.now) c.args.used.now s.terms.now c.args.i (omega (arith, length-row s.pats.now)) c.in-Some.j c.in_ok-found.found g.within (sym c.is_some.ensures ∙ c.if-is_some.true) r c.in_ok-found.ensures

pub members::find_members-loop-j-preserved : goal.members::find_members-loop-j-preserved
members::find_members-loop-j-preserved t c =
    let s = c.args.search in
    let l : c.args.i < length s.pats.now = omega arith in
    let g = next-of c.args.used.now c.loop-j.from (length s.terms.now) c.next_free.result c.in-Some.j c.in-Some.is c.next_free.ensures in
    let r = member-reaches s.rest (λ vs. only (many set vs)) (tried_pats s.pats.now) c.args.used.now s.terms.now c.args.i (omega (arith, length-row s.pats.now)) c.loop-j.from c.in-Some.j (length s.terms.now) refl g c.loop-j.invariant.0 in
    let o = sym c.is_some.ensures ∙ c.if-is_some.false in (
      member-passes s.rest (λ vs. only (many set vs)) (tried_pats s.pats.now) c.args.used.now s.terms.now c.args.i (omega (arith, length-row s.pats.now)) c.in-Some.j c.in_ok-found.found g.within o r c.in_ok-found.ensures,
      (member-next-failed s.rest (λ vs. only (many set vs)) (tried_pats s.pats.now) c.args.used.now s.terms.now c.args.i (omega (arith, length-row s.pats.now)) c.in-Some.j c.in_ok-found.found o c.in_ok-found.ensures, omega (arith, g.within)),
    )

pub members::find_members-returns : goal.members::find_members-returns
members::find_members-returns t c =
    let s = c.args.search in
    let l : c.args.i < length s.pats.now = omega arith in
    let a = none-of-free c.args.used.now c.loop-j.from (length s.terms.now) c.next_free.result c.in_default.not-Some c.next_free.ensures in
    member-ends s.rest (λ vs. only (many set vs)) (tried_pats s.pats.now) c.args.used.now s.terms.now c.args.i (omega (arith, length-row s.pats.now)) c.loop-j.from (length s.terms.now) refl c.loop-j.invariant.1.1 a c.loop-j.invariant.0

pub members::find_members-loop-j-smaller : goal.members::find_members-loop-j-smaller
members::find_members-loop-j-smaller t c =
    let s = c.args.search in
    let g = next-of c.args.used.now c.loop-j.from (length s.terms.now) c.next_free.result c.in-Some.j c.in-Some.is c.next_free.ensures in
    omega (arith, g.from, g.within)

pub members::find_members-overflow_add-from : goal.members::find_members-overflow_add-from
members::find_members-overflow_add-from t c =
    let s = c.args.search in
    let g = next-of c.args.used.now c.loop-j.from (length s.terms.now) c.next_free.result c.in-Some.j c.in-Some.is c.next_free.ensures in
    omega (arith, g.within)

pub members::try_member-returns-then-repeats_member : goal.members::try_member-returns-then-repeats_member
members::try_member-returns-then-repeats_member t c =
    let s = c.args.search in
    member-repeated s.rest (λ vs. only (many set vs)) (tried_pats s.pats.now) c.args.used.now s.terms.now c.args.i (omega (arith, length-row s.pats.now, c.requires.within))
    c.args.j c.requires.target_within (c.repeats_member.ensures c.if-repeats_member.true) c.requires.failed

pub members::try_member-find_whole-requires : goal.members::try_member-find_whole-requires
members::try_member-find_whole-requires t c =
    let s = c.args.search in
    let x = c.index-pats-i in
    let y = c.index-terms-j in
    let w : weight x.result + length s.pats.now ≤ weights (trees s.pats.now) + 1 = rw x.is (tree-beside s.pats.now c.args.i x.result c.requires.within) in (
      omega (arith, w),
      (
        subst Tries (sym x.is) (tries-at s.pats.now c.args.i x.result c.requires.within c.requires.tries),
        subst (Ready term) (sym y.is) (ready-at term s.terms.now c.args.j y.result c.requires.target_within c.requires.ready),
      ),
    )

pub members::try_member-find_members-requires : goal.members::try_member-find_members-requires
members::try_member-find_members-requires t c =
    let s = c.args.search in
    (omega (arith, heavy_row s.pats.now), (omega arith, (c.requires.tries, (c.requires.ready, c.requires.ordered))))

pub members::try_member-returns-in-None : goal.members::try_member-returns-in-None
members::try_member-returns-in-None t c =
    let s = c.args.search in
    let x = c.index-pats-i in
    let y = c.index-terms-j in
    let n = none-of (found x.result y.result) c.in_ok-find_whole.field-0 c.in-None.is c.in_ok-find_whole.ensures in
    member-refused s.rest (λ vs. only (many set vs)) (tried_pats s.pats.now) c.args.used.now s.terms.now c.args.i (omega (arith, length-row s.pats.now, c.requires.within)) c.args.j
    (ap first_of_all (at_two s.pats.now s.terms.now c.args.i c.args.j x.result y.result c.requires.within c.requires.target_within x.is y.is) ∙ n)

pub members::try_member-returns-in-None-2 : goal.members::try_member-returns-in-None-2
members::try_member-returns-in-None-2 t c =
    let s = c.args.search in
    let all = tried_pats s.pats.now in
    let us = c.deref.result.now in
    let e = c.deref.ensures.value ∙ c.in_ok-next-in-Some.ensures in
    let k = no_members-of s.rest (λ vs. only (many set vs)) (ways (drop (c.args.i + 1) all) (left_from 0 us s.terms.now)) c.in_ok-find_members-in-Some.field-0 c.in-None-2.is c.in_ok-find_members-in-Some.ensures in
    member-dead s.rest (λ vs. only (many set vs)) all c.args.used.now s.terms.now c.args.i (omega (arith, length-row s.pats.now, c.requires.within)) c.args.j
    (subst (λ (vs : List ℕ). first_way (may_rest s.rest) (ways (drop (c.args.i + 1) all) (left_from 0 vs s.terms.now)) ≡ None) e k)

pub members::try_member-returns-in_ok-joined-in-Some-2 : goal.members::try_member-returns-in_ok-joined-in-Some-2
members::try_member-returns-in_ok-joined-in-Some-2 t c =
    let s = c.args.search in
    let all = tried_pats s.pats.now in
    let x = c.index-pats-i in
    let y = c.index-terms-j in
    let us = c.deref.result.now in
    let made = λ (vs : List Tree). only (many set vs) in
    let e = c.deref.ensures.value ∙ c.in_ok-next-in-Some.ensures in
    let a = some-of (found x.result y.result) c.in_ok-find_whole.field-0 c.in-Some.found c.in-Some.is c.in_ok-find_whole.ensures in
    let k = members-of s.rest made (ways (drop (c.args.i + 1) all) (left_from 0 us s.terms.now)) c.in_ok-find_members-in-Some.field-0 c.in-Some-2.others c.in-Some-2.is c.in_ok-find_members-in-Some.ensures in
    member-taking s.rest made all c.args.used.now s.terms.now c.args.i (omega (arith, length-row s.pats.now, c.requires.within)) c.args.j
    c.in-Some.found.items c.in-Some-2.others.items c.in_ok-joined-in-Some-2.field-0.items c.requires.free
    (ap first_of_all (at_two s.pats.now s.terms.now c.args.i c.args.j x.result y.result c.requires.within c.requires.target_within x.is y.is) ∙ a)
    (subst (λ (vs : List ℕ). MemberWay s.rest made (ways (drop (c.args.i + 1) all) (left_from 0 vs s.terms.now)) c.in-Some-2.others.items) e k)
    c.in_ok-joined-in-Some-2.ensures

pair_thin : (ps : List (Tree × Tree)) (i : ℕ) → i < length ps → (member_at i (tried_pairs ps)).wide ≡ false
pair_thin [] i h = absurd (omega arith)
pair_thin (p ∷ ps) zero h = refl
pair_thin (p ∷ ps) (suc i) h = pair_thin ps i (omega arith)

at_pairs : (ps ts : List (Tree × Tree)) (i j : ℕ) (p u : Tree × Tree) → i < length ps → j < length ts → p ≡ get_or ps i p → u ≡ get_or ts j u
    → (member_at i (tried_pairs ps)).tries (get_or (map pair_tree ts) j (leaf par)) ≡ found (pair_tree p) (pair_tree u)
at_pairs ps ts i j p u k l e g =
    found-at pair_tree ps i p (get_or (map pair_tree ts) j (leaf par)) k ∙ ap (λ (x : Tree × Tree). found (pair_tree x) (get_or (map pair_tree ts) j (leaf par))) (sym e)
    ∙ ap (found (pair_tree p)) (get_or-map pair_tree ts j u (leaf par) l ∙ ap pair_tree (sym g))

pub pairs::find_pair-returns-in-None-2 : goal.pairs::find_pair-returns-in-None-2
pairs::find_pair-returns-in-None-2 t c =
    let x = found c.args.pat.now.0 c.args.pair.now.0 in
    let y = found c.args.pat.now.1 c.args.pair.now.1 in
    let a = some-of x c.in_ok-find_whole.field-0 c.in-Some.key c.in-Some.is c.in_ok-find_whole.ensures in
    let b = none-of y c.in_ok-find_whole-in-Some.field-0 c.in-None-2.is c.in_ok-find_whole-in-Some.ensures in
    both-second-none x (both_of y ([] ∷ [])) c.in-Some.key.items a (and-no-more y ∙ b)

pub pairs::find_pair-returns-in_ok-joined-in-Some-2 : goal.pairs::find_pair-returns-in_ok-joined-in-Some-2
pairs::find_pair-returns-in_ok-joined-in-Some-2 t c =
    let x = found c.args.pat.now.0 c.args.pair.now.0 in
    let y = found c.args.pat.now.1 c.args.pair.now.1 in
    let a = some-of x c.in_ok-find_whole.field-0 c.in-Some.key c.in-Some.is c.in_ok-find_whole.ensures in
    let b = some-of y c.in_ok-find_whole-in-Some.field-0 c.in-Some-2.value c.in-Some-2.is c.in_ok-find_whole-in-Some.ensures in
    both-some x (both_of y ([] ∷ [])) c.in-Some.key.items c.in-Some-2.value.items a (and-no-more y ∙ b) ∙ ap (λ (z : Bindings). Some z) (sym c.in_ok-joined-in-Some-2.ensures)

pub pairs::find_pairs-loop-j-init : goal.pairs::find_pairs-loop-j-init
pairs::find_pairs-loop-j-init t c =
    let s = c.args.search in
    let l : c.args.i < length s.pats.now = omega arith in (
      member-starts s.rest (λ vs. only (many dict vs)) (tried_pairs s.pats.now) c.args.used.now (map pair_tree s.pairs.now) c.args.i (omega (arith, length-each pair_tree s.pats.now)) (pair_thin s.pats.now c.args.i l),
      (member-none-failed s.rest (λ vs. only (many dict vs)) (tried_pairs s.pats.now) c.args.used.now (map pair_tree s.pairs.now) c.args.i (omega (arith, length-each pair_tree s.pats.now)), omega arith),
    )

pub pairs::find_pairs-try_pair-requires : goal.pairs::find_pairs-try_pair-requires
pairs::find_pairs-try_pair-requires t c =
    let s = c.args.search in
    let l : c.args.i < length s.pats.now = omega arith in
    let g = next-of c.args.used.now c.loop-j.from (length s.pairs.now) c.next_free.result c.in-Some.j c.in-Some.is c.next_free.ensures in
    let b = member-still-failed s.rest (λ vs. only (many dict vs)) (tried_pairs s.pats.now) c.args.used.now (map pair_tree s.pairs.now) c.args.i (omega (arith, length-each pair_tree s.pats.now)) c.loop-j.from c.in-Some.j (length s.pairs.now) g c.loop-j.invariant.1.0 in
    (omega (arith, heavy pair_tree s.pats.now), (l, (g.within, (g.free, (b, (c.requires.tries, (c.requires.ready, c.requires.ordered)))))))

pub pairs::find_pairs-returns-then-is_some : goal.pairs::find_pairs-returns-then-is_some
pairs::find_pairs-returns-then-is_some t c =
    let s = c.args.search in
    let l : c.args.i < length s.pats.now = omega arith in
    let g = next-of c.args.used.now c.loop-j.from (length s.pairs.now) c.next_free.result c.in-Some.j c.in-Some.is c.next_free.ensures in
    let r = member-reaches s.rest (λ vs. only (many dict vs)) (tried_pairs s.pats.now) c.args.used.now (map pair_tree s.pairs.now) c.args.i (omega (arith, length-each pair_tree s.pats.now)) c.loop-j.from c.in-Some.j (length s.pairs.now) (sym (length-map s.pairs.now pair_tree)) g c.loop-j.invariant.0 in
    member-stops s.rest (λ vs. only (many dict vs)) (tried_pairs s.pats.now) c.args.used.now (map pair_tree s.pairs.now) c.args.i (omega (arith, length-each pair_tree s.pats.now)) c.in-Some.j c.in_ok-found.found (omega (arith, length-map s.pairs.now pair_tree, g.within)) (sym c.is_some.ensures ∙ c.if-is_some.true) r c.in_ok-found.ensures

pub pairs::find_pairs-loop-j-preserved : goal.pairs::find_pairs-loop-j-preserved
pairs::find_pairs-loop-j-preserved t c =
    let s = c.args.search in
    let l : c.args.i < length s.pats.now = omega arith in
    let g = next-of c.args.used.now c.loop-j.from (length s.pairs.now) c.next_free.result c.in-Some.j c.in-Some.is c.next_free.ensures in
    let r = member-reaches s.rest (λ vs. only (many dict vs)) (tried_pairs s.pats.now) c.args.used.now (map pair_tree s.pairs.now) c.args.i (omega (arith, length-each pair_tree s.pats.now)) c.loop-j.from c.in-Some.j (length s.pairs.now) (sym (length-map s.pairs.now pair_tree)) g c.loop-j.invariant.0 in
    let o = sym c.is_some.ensures ∙ c.if-is_some.false in (
      member-passes s.rest (λ vs. only (many dict vs)) (tried_pairs s.pats.now) c.args.used.now (map pair_tree s.pairs.now) c.args.i (omega (arith, length-each pair_tree s.pats.now)) c.in-Some.j c.in_ok-found.found (omega (arith, length-map s.pairs.now pair_tree, g.within)) o r c.in_ok-found.ensures,
      (member-next-failed s.rest (λ vs. only (many dict vs)) (tried_pairs s.pats.now) c.args.used.now (map pair_tree s.pairs.now) c.args.i (omega (arith, length-each pair_tree s.pats.now)) c.in-Some.j c.in_ok-found.found o c.in_ok-found.ensures, omega (arith, g.within)),
    )

pub pairs::find_pairs-returns : goal.pairs::find_pairs-returns
pairs::find_pairs-returns t c =
    let s = c.args.search in
    let l : c.args.i < length s.pats.now = omega arith in
    let a = none-of-free c.args.used.now c.loop-j.from (length s.pairs.now) c.next_free.result c.in_default.not-Some c.next_free.ensures in
    member-ends s.rest (λ vs. only (many dict vs)) (tried_pairs s.pats.now) c.args.used.now (map pair_tree s.pairs.now) c.args.i (omega (arith, length-each pair_tree s.pats.now)) c.loop-j.from (length s.pairs.now) (sym (length-map s.pairs.now pair_tree)) c.loop-j.invariant.1.1 a c.loop-j.invariant.0

pub pairs::find_pairs-loop-j-smaller : goal.pairs::find_pairs-loop-j-smaller
pairs::find_pairs-loop-j-smaller t c =
    let s = c.args.search in
    let g = next-of c.args.used.now c.loop-j.from (length s.pairs.now) c.next_free.result c.in-Some.j c.in-Some.is c.next_free.ensures in
    omega (arith, g.from, g.within)

pub pairs::find_pairs-overflow_add-from : goal.pairs::find_pairs-overflow_add-from
pairs::find_pairs-overflow_add-from t c =
    let s = c.args.search in
    let g = next-of c.args.used.now c.loop-j.from (length s.pairs.now) c.next_free.result c.in-Some.j c.in-Some.is c.next_free.ensures in
    omega (arith, g.within)

pub pairs::try_pair-returns-then-repeats_pair : goal.pairs::try_pair-returns-then-repeats_pair
pairs::try_pair-returns-then-repeats_pair t c =
    let s = c.args.search in
    member-repeated s.rest (λ vs. only (many dict vs)) (tried_pairs s.pats.now) c.args.used.now (map pair_tree s.pairs.now) c.args.i (omega (arith, length-each pair_tree s.pats.now, c.requires.within))
    c.args.j (omega (arith, length-map s.pairs.now pair_tree, c.requires.target_within)) (c.repeats_pair.ensures c.if-repeats_pair.true) c.requires.failed

pub pairs::try_pair-find_pair-requires : goal.pairs::try_pair-find_pair-requires
pairs::try_pair-find_pair-requires t c =
    let s = c.args.search in
    let x = c.index-pats-i in
    let y = c.index-pairs-j in
    let w : weight (pair_tree x.result) + length s.pats.now ≤ weights (trees (map pair_tree s.pats.now)) + 1 = rw x.is (weight-beside pair_tree s.pats.now c.args.i x.result c.requires.within) in (
      omega (arith, w),
      (
        subst (λ (p : Tree × Tree). Tries (pair_tree p)) (sym x.is) (tries-of pair_tree s.pats.now c.args.i x.result c.requires.within c.requires.tries),
        subst (λ (p : Tree × Tree). Ready (pair_of term) (pair_tree p)) (sym y.is) (ready-of pair_tree (pair_of term) s.pairs.now c.args.j y.result c.requires.target_within c.requires.ready),
      ),
    )

pub pairs::try_pair-find_pairs-requires : goal.pairs::try_pair-find_pairs-requires
pairs::try_pair-find_pairs-requires t c =
    let s = c.args.search in
    (omega (arith, heavy pair_tree s.pats.now), (omega arith, (c.requires.tries, (c.requires.ready, c.requires.ordered))))

pub pairs::try_pair-returns-in-None : goal.pairs::try_pair-returns-in-None
pairs::try_pair-returns-in-None t c =
    let s = c.args.search in
    let x = c.index-pats-i in
    let y = c.index-pairs-j in
    let n = none-of (found (pair_tree x.result) (pair_tree y.result)) c.in_ok-find_pair.field-0 c.in-None.is c.in_ok-find_pair.ensures in
    member-refused s.rest (λ vs. only (many dict vs)) (tried_pairs s.pats.now) c.args.used.now (map pair_tree s.pairs.now) c.args.i (omega (arith, length-each pair_tree s.pats.now, c.requires.within)) c.args.j
    (ap first_of_all (at_pairs s.pats.now s.pairs.now c.args.i c.args.j x.result y.result c.requires.within c.requires.target_within x.is y.is) ∙ n)

pub pairs::try_pair-returns-in-None-2 : goal.pairs::try_pair-returns-in-None-2
pairs::try_pair-returns-in-None-2 t c =
    let s = c.args.search in
    let all = tried_pairs s.pats.now in
    let us = c.deref.result.now in
    let e = c.deref.ensures.value ∙ c.in_ok-next-in-Some.ensures in
    let k = no_members-of s.rest (λ vs. only (many dict vs)) (ways (drop (c.args.i + 1) all) (left_from 0 us (map pair_tree s.pairs.now))) c.in_ok-find_pairs-in-Some.field-0 c.in-None-2.is c.in_ok-find_pairs-in-Some.ensures in
    member-dead s.rest (λ vs. only (many dict vs)) all c.args.used.now (map pair_tree s.pairs.now) c.args.i (omega (arith, length-each pair_tree s.pats.now, c.requires.within)) c.args.j
    (subst (λ (vs : List ℕ). first_way (may_rest s.rest) (ways (drop (c.args.i + 1) all) (left_from 0 vs (map pair_tree s.pairs.now))) ≡ None) e k)

pub pairs::try_pair-returns-in_ok-joined-in-Some-2 : goal.pairs::try_pair-returns-in_ok-joined-in-Some-2
pairs::try_pair-returns-in_ok-joined-in-Some-2 t c =
    let s = c.args.search in
    let all = tried_pairs s.pats.now in
    let x = c.index-pats-i in
    let y = c.index-pairs-j in
    let us = c.deref.result.now in
    let made = λ (vs : List Tree). only (many dict vs) in
    let e = c.deref.ensures.value ∙ c.in_ok-next-in-Some.ensures in
    let a = some-of (found (pair_tree x.result) (pair_tree y.result)) c.in_ok-find_pair.field-0 c.in-Some.found c.in-Some.is c.in_ok-find_pair.ensures in
    let k = members-of s.rest made (ways (drop (c.args.i + 1) all) (left_from 0 us (map pair_tree s.pairs.now))) c.in_ok-find_pairs-in-Some.field-0 c.in-Some-2.others c.in-Some-2.is c.in_ok-find_pairs-in-Some.ensures in
    member-taking s.rest made all c.args.used.now (map pair_tree s.pairs.now) c.args.i (omega (arith, length-each pair_tree s.pats.now, c.requires.within)) c.args.j
    c.in-Some.found.items c.in-Some-2.others.items c.in_ok-joined-in-Some-2.field-0.items c.requires.free
    (ap first_of_all (at_pairs s.pats.now s.pairs.now c.args.i c.args.j x.result y.result c.requires.within c.requires.target_within x.is y.is) ∙ a)
    (subst (λ (vs : List ℕ). MemberWay s.rest made (ways (drop (c.args.i + 1) all) (left_from 0 vs (map pair_tree s.pairs.now))) c.in-Some-2.others.items) e k)
    c.in_ok-joined-in-Some-2.ensures

any_part : (ps : List PatPart) (k : ℕ) (p q : PatPart) → k < length ps → p ≡ get_or ps k p → q ≡ get_or ps k q → p ≡ q
any_part ps k p q l e g = e ∙ any_default ps k p q l ∙ sym g

-- a part of a pattern by its number
part_wide : (ps : List PatPart) (i : ℕ) (p : PatPart) (b : Bool) → i < length ps → p ≡ get_or ps i p → is_wide (label_of (pat_part_tree p)) ≡ b → (member_at i (tried ps)).wide ≡ b
part_wide ps i p b h e g = wide-at pat_part_tree ps i p h ∙ ap (λ (x : PatPart). is_wide (label_of (pat_part_tree x))) (sym e) ∙ g

part_finds : (ps : List PatPart) (i : ℕ) (p : PatPart) (u : Tree) → i < length ps → p ≡ get_or ps i p → (member_at i (tried ps)).tries u ≡ found (pat_part_tree p) u
part_finds ps i p u h e = found-at pat_part_tree ps i p u h ∙ ap (λ (x : PatPart). found (pat_part_tree x) u) (sym e)

pub parts::find_around-find_parts-requires : goal.parts::find_around-find_parts-requires
parts::find_around-find_parts-requires t c =
    (omega (arith, heavy pat_part_tree c.args.pats.now), (omega arith, (c.requires.tries, (c.requires.normal, (c.requires.one_wide, c.requires.ready)))))

pub parts::find_around-returns-in-None : goal.parts::find_around-returns-in-None
parts::find_around-returns-in-None t c =
    let all = tried c.args.pats.now in
    let ts = held c.args.target.now in
    let k = no_way-of all (drop (c.args.i + 1) all) (ways (drop (c.args.i + 1) all) (left_from 0 c.args.used.now ts)) c.in_ok-find_parts.field-0 c.in-None.is c.in_ok-find_parts.ensures in
    part-around-none all c.args.used.now ts c.args.i (omega (arith, length-each pat_part_tree c.args.pats.now, c.requires.within)) c.requires.wide k

pub parts::find_around-returns-in_ok-with_wide-in-Some : goal.parts::find_around-returns-in_ok-with_wide-in-Some
parts::find_around-returns-in_ok-with_wide-in-Some t c =
    let all = tried c.args.pats.now in
    let ts = held c.args.target.now in
    let k = way-of all (drop (c.args.i + 1) all) (ways (drop (c.args.i + 1) all) (left_from 0 c.args.used.now ts)) c.in_ok-find_parts.field-0 c.in-Some.split c.in-Some.is c.in_ok-find_parts.ensures in
    part-around all c.args.used.now ts c.args.i (omega (arith, length-each pat_part_tree c.args.pats.now, c.requires.within)) c.in-Some.split c.in_ok-with_wide-in-Some.field-0 c.requires.wide c.requires.one_wide k c.in_ok-with_wide-in-Some.ensures.rest

pub parts::find_both-returns-in-None-2 : goal.parts::find_both-returns-in-None-2
parts::find_both-returns-in-None-2 t c =
    let u = remaining c.args.used.now c.args.target.now in
    let x = found c.args.left.now u in
    let y = found c.args.right.now u in
    both-second-none x y c.in-Some.first.items (some-of x c.in_ok-find_pat.field-0 c.in-Some.first c.in-Some.is c.in_ok-find_pat.ensures)
    (none-of y c.in_ok-find_pat-in-Some.field-0 c.in-None-2.is c.in_ok-find_pat-in-Some.ensures)

pub parts::find_end-find_wide-requires : goal.parts::find_end-find_wide-requires
parts::find_end-find_wide-requires t c =
    let ps = c.args.pats.now in
    let x = c.index-pats-k-then-is_wide in
    let y = c.index-pats-k in
    let s = any_part ps c.loop-k.k y.result x.result c.loop-k-test.true y.is x.is in
    let w : weight (pat_part_tree x.result) + length ps ≤ weights (trees (map pat_part_tree ps)) + 1 = rw x.is (weight-beside pat_part_tree ps c.loop-k.k x.result c.loop-k-test.true) in (
      omega (arith, w),
      (
        ap (λ (p : PatPart). is_wide (label_of (pat_part_tree p))) (sym s) ∙ sym c.is_wide.ensures ∙ c.if-is_wide.true,
        (subst (λ (p : PatPart). Tries (pat_part_tree p)) (sym x.is) (tries-of pat_part_tree ps c.loop-k.k x.result c.loop-k-test.true c.requires.tries), c.requires.ready),
      ),
    )

-- what the wide part finds ends the search
wide_end : (ps : List PatPart) (us : List ℕ) (t : Tree) (k : ℕ) (p : PatPart) → k < length ps → p ≡ get_or ps k p → NoneBefore k (tried ps) → is_wide (label_of (pat_part_tree p)) ≡ true → AtMostOne (tried ps)
    → (o : Option (Vec Tree Global)) (r : Option Split) → IsFirst (found (pat_part_tree p) (remaining us t)) o → MatchOption o (r ≡ None) (λ v. IsSomeAnd r (λ s. (s.wide.items ≡ v.items) × (s.rest.items ≡ [])))
    → IsFirstWay (tried ps) [] (ways [] (left_from 0 us (held t))) r
wide_end ps us t k p l e n g a None r h q =
    let z = end-wide-none (tried ps) (left_from 0 us (held t)) k n (part_wide ps k p true l e g) a (ap first_of_all (part_finds ps k p (remaining us t) l e) ∙ h) in
    subst (λ (x : Option Split). IsFirstWay (tried ps) [] (ways [] (left_from 0 us (held t))) x) (sym q) z
wide_end ps us t k p l e n g a (Some v) None h q = absurd q
wide_end ps us t k p l e n g a (Some v) (Some s) h q =
    end-wide (tried ps) (left_from 0 us (held t)) k v.items s n (part_wide ps k p true l e g) a (ap first_of_all (part_finds ps k p (remaining us t) l e) ∙ h) q.0 q.1

pub parts::find_end-returns-then-is_wide : goal.parts::find_end-returns-then-is_wide
parts::find_end-returns-then-is_wide t c =
    let ps = c.args.pats.now in
    let x = c.index-pats-k-then-is_wide in
    let y = c.index-pats-k in
    let s = any_part ps c.loop-k.k y.result x.result c.loop-k-test.true y.is x.is in
    wide_end ps c.args.used.now c.args.target.now c.loop-k.k x.result c.loop-k-test.true x.is c.loop-k.invariant
    (ap (λ (p : PatPart). is_wide (label_of (pat_part_tree p))) (sym s) ∙ sym c.is_wide.ensures ∙ c.if-is_wide.true) c.requires.one_wide
    c.in_ok-find_wide.field-0 c.split_wide.result c.in_ok-find_wide.ensures c.split_wide.ensures

pub parts::find_end-loop-k-preserved : goal.parts::find_end-loop-k-preserved
parts::find_end-loop-k-preserved t c =
    none-next c.loop-k.k (tried c.args.pats.now) c.loop-k.invariant (part_wide c.args.pats.now c.loop-k.k c.index-pats-k.result false c.loop-k-test.true c.index-pats-k.is (sym c.is_wide.ensures ∙ c.if-is_wide.false))

thin_end : (ps : List PatPart) (left : List Tree) (k : ℕ) → length ps ≤ k → NoneBefore k (tried ps) → is_empty left ≡ true → (v : Vec Tree Global) (r : Option Split) → v.items ≡ []
    → IsSomeAnd r (λ s. (s.wide.items ≡ v.items) × (s.rest.items ≡ [])) → IsFirstWay (tried ps) [] (ways [] left) r
thin_end ps left k l n e v None h q = absurd q
thin_end ps left k l n e v (Some s) h q = end-thin (tried ps) left k s (omega (arith, length-each pat_part_tree ps)) n e (q.0 ∙ h) q.1

pub parts::find_end-returns-then-is_spent : goal.parts::find_end-returns-then-is_spent
parts::find_end-returns-then-is_spent t c =
    let ts = held c.args.target.now in
    thin_end c.args.pats.now (left_from 0 c.args.used.now ts) c.loop-k.k c.loop-k-test.false c.loop-k.invariant
    (sym (c.is_spent.ensures ts (held_length c.args.target.now c.parts.result.now c.parts.ensures.parts)) ∙ c.if-is_spent.true) c.new.result c.split_wide-then-is_spent.result c.new.ensures.items c.split_wide-then-is_spent.ensures

pub parts::find_end-returns : goal.parts::find_end-returns
parts::find_end-returns t c =
    let ts = held c.args.target.now in
    end-thin-none (tried c.args.pats.now) (left_from 0 c.args.used.now ts) c.loop-k.k (omega (arith, length-each pat_part_tree c.args.pats.now)) c.loop-k.invariant
    (sym (c.is_spent.ensures ts (held_length c.args.target.now c.parts.result.now c.parts.ensures.parts)) ∙ c.if-is_spent.false)

pub parts::find_parts-find_end-requires : goal.parts::find_parts-find_end-requires
parts::find_parts-find_end-requires t c =
    (omega (arith, heavy pat_part_tree c.args.pats.now, c.requires.within), (c.requires.tries, (c.requires.normal, (c.requires.one_wide, c.requires.ready))))

pub parts::find_parts-find_around-requires : goal.parts::find_parts-find_around-requires
parts::find_parts-find_around-requires t c =
    let l : c.args.i < length c.args.pats.now = omega arith in (
      omega (arith, heavy pat_part_tree c.args.pats.now),
      (
        l,
        (
          part_wide c.args.pats.now c.args.i c.index-pats-i.result true l c.index-pats-i.is (sym c.is_wide.ensures ∙ c.if-is_wide.true),
          (c.requires.tries, (c.requires.normal, (c.requires.one_wide, c.requires.ready))),
        ),
      ),
    )

pub parts::find_parts-loop-j-init : goal.parts::find_parts-loop-j-init
parts::find_parts-loop-j-init t c =
    let l : c.args.i < length c.args.pats.now = omega arith in (
      part-starts (tried c.args.pats.now) c.args.used.now (held c.args.target.now) c.args.i (omega (arith, length-each pat_part_tree c.args.pats.now))
          (part_wide c.args.pats.now c.args.i c.index-pats-i.result false l c.index-pats-i.is (sym c.is_wide.ensures ∙ c.if-is_wide.false)),
      (part-none-failed (tried c.args.pats.now) c.args.used.now (held c.args.target.now) c.args.i (omega (arith, length-each pat_part_tree c.args.pats.now)), omega arith),
    )

pub parts::find_parts-try_part-requires : goal.parts::find_parts-try_part-requires
parts::find_parts-try_part-requires t c =
    let l : c.args.i < length c.args.pats.now = omega arith in
    let us = c.parts-count.result.now in
    let h = sym (held_length c.args.target.now us c.parts-count.ensures.parts) in
    let g = next-of c.args.used.now c.loop-j.from (length us) c.next_free.result c.in-Some.j c.in-Some.is c.next_free.ensures in
    let m : c.in-Some.j < length (held c.args.target.now) = omega (arith, h, g.within) in
    let b = part-still-failed (tried c.args.pats.now) c.args.used.now (held c.args.target.now) c.args.i (omega (arith, length-each pat_part_tree c.args.pats.now)) c.loop-j.from c.in-Some.j (length us) g c.loop-j.invariant.1.0 in (
      omega (arith, heavy pat_part_tree c.args.pats.now),
      (
        l,
        (
          part_wide c.args.pats.now c.args.i c.index-pats-i.result false l c.index-pats-i.is (sym c.is_wide.ensures ∙ c.if-is_wide.false),
          (m, (g.free, (b, (c.requires.tries, (c.requires.normal, (c.requires.one_wide, c.requires.ready)))))),
        ),
      ),
    )

pub parts::find_parts-returns-then-is_some : goal.parts::find_parts-returns-then-is_some
parts::find_parts-returns-then-is_some t c =
    let l : c.args.i < length c.args.pats.now = omega arith in
    let us = c.parts-count.result.now in
    let h = sym (held_length c.args.target.now us c.parts-count.ensures.parts) in
    let g = next-of c.args.used.now c.loop-j.from (length us) c.next_free.result c.in-Some.j c.in-Some.is c.next_free.ensures in
    let m : c.in-Some.j < length (held c.args.target.now) = omega (arith, h, g.within) in
    let r = part-reaches (tried c.args.pats.now) c.args.used.now (held c.args.target.now) c.args.i (omega (arith, length-each pat_part_tree c.args.pats.now)) c.loop-j.from c.in-Some.j (length us) h g c.loop-j.invariant.0 in
    part-stops (tried c.args.pats.now) c.args.used.now (held c.args.target.now) c.args.i (omega (arith, length-each pat_part_tree c.args.pats.now)) c.in-Some.j c.in_ok-found.found m (sym c.is_some.ensures ∙ c.if-is_some.true) r c.in_ok-found.ensures

pub parts::find_parts-loop-j-preserved : goal.parts::find_parts-loop-j-preserved
parts::find_parts-loop-j-preserved t c =
    let l : c.args.i < length c.args.pats.now = omega arith in
    let us = c.parts-count.result.now in
    let h = sym (held_length c.args.target.now us c.parts-count.ensures.parts) in
    let g = next-of c.args.used.now c.loop-j.from (length us) c.next_free.result c.in-Some.j c.in-Some.is c.next_free.ensures in
    let m : c.in-Some.j < length (held c.args.target.now) = omega (arith, h, g.within) in
    let r = part-reaches (tried c.args.pats.now) c.args.used.now (held c.args.target.now) c.args.i (omega (arith, length-each pat_part_tree c.args.pats.now)) c.loop-j.from c.in-Some.j (length us) h g c.loop-j.invariant.0 in
    let o = sym c.is_some.ensures ∙ c.if-is_some.false in (
      part-passes (tried c.args.pats.now) c.args.used.now (held c.args.target.now) c.args.i (omega (arith, length-each pat_part_tree c.args.pats.now)) c.in-Some.j c.in_ok-found.found m o r c.in_ok-found.ensures,
      (part-next-failed (tried c.args.pats.now) c.args.used.now (held c.args.target.now) c.args.i (omega (arith, length-each pat_part_tree c.args.pats.now)) c.in-Some.j c.in_ok-found.found o c.in_ok-found.ensures, omega (arith, m)),
    )

pub parts::find_parts-returns : goal.parts::find_parts-returns
parts::find_parts-returns t c =
    let l : c.args.i < length c.args.pats.now = omega arith in
    let us = c.parts-count.result.now in
    let h = sym (held_length c.args.target.now us c.parts-count.ensures.parts) in
    let a = none-of-free c.args.used.now c.loop-j.from (length us) c.next_free.result c.in_default.not-Some c.next_free.ensures in
    part-ends (tried c.args.pats.now) c.args.used.now (held c.args.target.now) c.args.i (omega (arith, length-each pat_part_tree c.args.pats.now)) c.loop-j.from (length us) h (omega (arith, h, c.loop-j.invariant.1.1)) a c.loop-j.invariant.0

pub parts::find_parts-loop-j-smaller : goal.parts::find_parts-loop-j-smaller
parts::find_parts-loop-j-smaller t c =
    let us = c.parts-count.result.now in
    let g = next-of c.args.used.now c.loop-j.from (length us) c.next_free.result c.in-Some.j c.in-Some.is c.next_free.ensures in
    omega (arith, g.from, g.within)

pub parts::find_parts-overflow_add-from : goal.parts::find_parts-overflow_add-from
parts::find_parts-overflow_add-from t c =
    let us = c.parts-count.result.now in
    let g = next-of c.args.used.now c.loop-j.from (length us) c.next_free.result c.in-Some.j c.in-Some.is c.next_free.ensures in
    omega (arith, g.within)

pub parts::find_pat-find_parts-requires : goal.parts::find_pat-find_parts-requires
parts::find_pat-find_parts-requires t c =
    let p = c.args.pat.now in
    let ps = c.parts-pats.result.now in
    let e = c.parts-pats.ensures.parts in
    (omega (arith, ap weight e), (omega arith, (pat-tries p ps e c.requires.tries, (pat-normal p ps e c.parts-pats.ensures.normal, (pat-one p ps e c.requires.tries, c.requires.ready)))))

pub parts::find_pat-returns-in-None : goal.parts::find_pat-returns-in-None
parts::find_pat-returns-in-None t c =
    let ps = c.parts-pats.result.now in
    let u = c.args.target.now in
    let us = c.args.used.now in
    let h = term-ascends u c.parts-given.result.now c.parts-given.ensures.parts c.parts-given.ensures.normal in
    let k = no_way-of (tried ps) (tried ps) (ways (tried ps) (left_from 0 us (held u))) c.in_ok-find_parts.field-0 c.in-None.is c.in_ok-find_parts.ensures in
    ap (λ (x : Tree). first_of_all (found x (remaining us u))) c.parts-pats.ensures.parts ∙ pattern-none ps us u h k

pub parts::find_pat-returns-in-Some : goal.parts::find_pat-returns-in-Some
parts::find_pat-returns-in-Some t c =
    let ps = c.parts-pats.result.now in
    let u = c.args.target.now in
    let us = c.args.used.now in
    let h = term-ascends u c.parts-given.result.now c.parts-given.ensures.parts c.parts-given.ensures.normal in
    let k = way-of (tried ps) (tried ps) (ways (tried ps) (left_from 0 us (held u))) c.in_ok-find_parts.field-0 c.in-Some.split c.in-Some.is c.in_ok-find_parts.ensures in
    ap (λ (x : Tree). first_of_all (found x (remaining us u))) c.parts-pats.ensures.parts ∙ pattern-some ps us u h c.in-Some.split k

pub parts::find_whole-returns : goal.parts::find_whole-returns
parts::find_whole-returns t c =
    subst (λ (u : Tree). IfOk c.find_pat.result (λ (o : Option (Vec Tree Global)). IsFirst (found c.args.pat.now u) o)) (remaining-all c.args.target.now c.requires.ready) c.find_pat.ensures

inside_bytes : (j n : ℕ) (xs : List Part) → j < n → n ≡ length xs → j < length xs
inside_bytes j n xs h e = omega arith

pub parts::try_part-returns-then-repeats_part : goal.parts::try_part-returns-then-repeats_part
parts::try_part-returns-then-repeats_part t c =
    part-repeated (tried c.args.pats.now) c.args.used.now (held c.args.target.now) c.args.i (omega (arith, length-each pat_part_tree c.args.pats.now, c.requires.within))
    c.args.j c.requires.target_within (c.repeats_part.ensures c.if-repeats_part.true) c.requires.failed

pub parts::try_part-offset_bounds-parts-j : goal.parts::try_part-offset_bounds-parts-j
parts::try_part-offset_bounds-parts-j t c =
    let l : c.args.j < length c.parts-parts.result.now = inside_bytes c.args.j (length (held c.args.target.now)) c.parts-parts.result.now c.requires.target_within (held_length c.args.target.now c.parts-parts.result.now c.parts-parts.ensures.parts) in
    first_of (omega arith, search rules, grind arith)

pub parts::try_part-bounds-parts-j : goal.parts::try_part-bounds-parts-j
parts::try_part-bounds-parts-j t c =
    inside_bytes c.args.j (length (held c.args.target.now)) c.parts-parts.result.now c.requires.target_within (held_length c.args.target.now c.parts-parts.result.now c.parts-parts.ensures.parts)

pub parts::try_part-find_part-requires : goal.parts::try_part-find_part-requires
parts::try_part-find_part-requires t c =
    let ps = c.args.pats.now in
    let x = c.index-pats-i in
    let y = c.index-parts-j in
    let u = c.args.target.now in
    let us = c.parts-parts.result.now in
    let e = c.parts-parts.ensures.parts in
    let l = inside_bytes c.args.j (length (held u)) us c.requires.target_within (held_length u us e) in
    let w : weight (pat_part_tree x.result) + length ps ≤ weights (trees (map pat_part_tree ps)) + 1 = rw x.is (weight-beside pat_part_tree ps c.args.i x.result c.requires.within) in
    let r = part-ready (held u) c.args.j (leaf par) c.requires.target_within (whole-ready u c.requires.ready) in (
      omega (arith, w),
      (
        sym (part_wide ps c.args.i x.result (is_wide (label_of (pat_part_tree x.result))) c.requires.within x.is refl) ∙ c.requires.thin,
        (
          subst (λ (p : PatPart). Tries (pat_part_tree p)) (sym x.is) (tries-of pat_part_tree ps c.args.i x.result c.requires.within c.requires.tries),
          (
            subst (λ (p : PatPart). IsOrdered (pat_part_tree p)) (sym x.is) (ordered-at pat_part_tree ps c.args.i x.result c.requires.within c.requires.normal),
            (
              subst (λ (p : Tree). Ready term (only p)) (target_at u us c.args.j y.result e l y.is) r,
              subst (λ (p : Part). IsOrdered (part_tree p)) (sym y.is) (ordered-at part_tree us c.args.j y.result l (term-normal u us e c.parts-parts.ensures.normal)),
            ),
          ),
        ),
      ),
    )

pub parts::try_part-find_parts-requires : goal.parts::try_part-find_parts-requires
parts::try_part-find_parts-requires t c =
    (omega (arith, heavy pat_part_tree c.args.pats.now), (omega arith, (c.requires.tries, (c.requires.normal, (c.requires.one_wide, c.requires.ready)))))

-- what a thin part finds in part number j
tried_at : (ps : List PatPart) (i : ℕ) (p : PatPart) (u : Tree) (us : List Part) (j : ℕ) (q : Part) → i < length ps → p ≡ get_or ps i p → u ≡ term_tree us → j < length us → q ≡ get_or us j q
    → (member_at i (tried ps)).tries (get_or (held u) j (leaf par)) ≡ found (pat_part_tree p) (part_tree q)
tried_at ps i p u us j q k d e l g = part_finds ps i p (get_or (held u) j (leaf par)) k d ∙ ap (found (pat_part_tree p)) (target_at u us j q e l g)

pub parts::try_part-returns-in-None : goal.parts::try_part-returns-in-None
parts::try_part-returns-in-None t c =
    let ps = c.args.pats.now in
    let x = c.index-pats-i in
    let y = c.index-parts-j in
    let u = c.args.target.now in
    let us = c.parts-parts.result.now in
    let e = c.parts-parts.ensures.parts in
    let l = inside_bytes c.args.j (length (held u)) us c.requires.target_within (held_length u us e) in
    let n = none-of (found (pat_part_tree x.result) (part_tree y.result)) c.in_ok-find_part.field-0 c.in-None.is c.in_ok-find_part.ensures in
    place-refused (tried ps) c.args.used.now (held u) c.args.i (omega (arith, length-each pat_part_tree ps, c.requires.within)) c.args.j
    (ap first_of_all (tried_at ps c.args.i x.result u us c.args.j y.result c.requires.within x.is e l y.is) ∙ n)

pub parts::try_part-returns-in-None-2 : goal.parts::try_part-returns-in-None-2
parts::try_part-returns-in-None-2 t c =
    let all = tried c.args.pats.now in
    let ts = held c.args.target.now in
    let e = c.deref.ensures.value ∙ c.in_ok-next-in-Some.ensures in
    let k = no_way-of all (drop (c.args.i + 1) all) (ways (drop (c.args.i + 1) all) (left_from 0 c.deref.result.now ts)) c.in_ok-find_parts-in-Some.field-0 c.in-None-2.is c.in_ok-find_parts-in-Some.ensures in
    place-dead all c.args.used.now ts c.args.i (omega (arith, length-each pat_part_tree c.args.pats.now, c.requires.within)) c.args.j
    (subst (λ (vs : List ℕ). first_way (may_leave all) (ways (drop (c.args.i + 1) all) (left_from 0 vs ts)) ≡ None) e k)

pub parts::try_part-returns-in_ok-with_thin-in-Some-2 : goal.parts::try_part-returns-in_ok-with_thin-in-Some-2
parts::try_part-returns-in_ok-with_thin-in-Some-2 t c =
    let ps = c.args.pats.now in
    let all = tried ps in
    let x = c.index-pats-i in
    let y = c.index-parts-j in
    let u = c.args.target.now in
    let ts = held u in
    let us = c.parts-parts.result.now in
    let e = c.parts-parts.ensures.parts in
    let l = inside_bytes c.args.j (length ts) us c.requires.target_within (held_length u us e) in
    let d = c.deref.ensures.value ∙ c.in_ok-next-in-Some.ensures in
    let a = some-of (found (pat_part_tree x.result) (part_tree y.result)) c.in_ok-find_part.field-0 c.in-Some.found c.in-Some.is c.in_ok-find_part.ensures in
    let k = way-of all (drop (c.args.i + 1) all) (ways (drop (c.args.i + 1) all) (left_from 0 c.deref.result.now ts)) c.in_ok-find_parts-in-Some.field-0 c.in-Some-2.split c.in-Some-2.is c.in_ok-find_parts-in-Some.ensures in
    place-taking all c.args.used.now ts c.args.i (omega (arith, length-each pat_part_tree ps, c.requires.within)) c.args.j c.in-Some.found.items c.in-Some-2.split c.in_ok-with_thin-in-Some-2.field-0 c.requires.thin
    c.requires.free
    (ap first_of_all (tried_at ps c.args.i x.result u us c.args.j y.result c.requires.within x.is e l y.is) ∙ a)
    (subst (λ (vs : List ℕ). Way all (drop (c.args.i + 1) all) (ways (drop (c.args.i + 1) all) (left_from 0 vs ts)) c.in-Some-2.split) d k)
    c.in_ok-with_thin-in-Some-2.ensures.wide c.in_ok-with_thin-in-Some-2.ensures.rest
