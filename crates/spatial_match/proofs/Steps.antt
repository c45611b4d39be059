-- One step of the search for the parts of a parallel pattern.
use Rattle.std.proofs.Common.{◌≡◌, ℕ, ◌+◌, ◌<◌, ◌≤◌, Bool, true, false, cond, List, [], ◌∷◌, ◌++◌, length, drop, get_or, sym, ap, ◌∙◌, subst}
use Rattle.std.specs.Prelude.{Option, Some, None, option_map, is_some}
use Rattle.calculus.specs.Tree.{Tree, par, trees}
use Rattle.calculus.specs.Shape.{leaf, process, held}
use Rattle.calculus.specs.Order.{IsAscending}
use Rattle.calculus.specs.Code.{codes}
use Rattle.calculus.specs.Normal.{ascending}
use Rattle.calculus.specs.Matching.{Bindings, Member, Choice, ways, first_of_all, is_empty, parts_match}
use Rattle.rho_term.specs.Parts.{pat_part_tree, pat_tree}
use Rattle.rho_term.specs.declared.term.PatPart.{PatPart}
use Rattle.spatial_match.specs.declared.split.Split.{Split}
use Rattle.free_places.specs.Places.{AreUsed, NextFree, has, left_from}
use Rattle.match_targets.specs.Found.{first_way}
use Rattle.spatial_match.specs.Search.{at_place, FailedBefore, member_at, woven, WideIs, AtMostOne, no_wide}
use Rattle.match_targets.specs.Targets.{Repeats, remaining}
use Rattle.spatial_match.specs.Found.{IsFirstWay, Way, found, tried, may_leave}
use Rattle.spatial_match.proofs.Firsts.{some-none, some-some}
use Rattle.spatial_match.proofs.Parallel.{parts_none, parts_some, passes_test}
use Rattle.match_targets.proofs.Leaving.{left-ascends, ascending-same, held-remaining}
use Rattle.spatial_match.proofs.Rows.{drop-at, wholes-each, NoneBefore, none-all, may-none, may-one, none_is, one_is, alone-after}
use Rattle.spatial_match.proofs.Ways.{later, starts, passes, stops, reaches, still-failed, finishes, none-failed, next-failed, repeated, taken, refused, dead, alive, around}

module _ (all : List Member) (us : List ℕ) (ts : List Tree) (i : ℕ) (h : i < length all) where
  abbrev m : Member
  m = member_at i all

  abbrev ms : List Member
  ms = drop (i + 1) all

  abbrev f : List Tree → Bool
  f = may_leave all

  moved : (o : Option Split) → IsFirstWay all (m ∷ ms) (ways (m ∷ ms) (left_from 0 us ts)) o → IsFirstWay all (drop i all) (ways (drop i all) (left_from 0 us ts)) o
  moved o w = subst (λ (xs : List Member). IsFirstWay all xs (ways xs (left_from 0 us ts)) o) (sym (drop-at all i h)) w

  -- the search among the targets begins
  pub part-starts : m.wide ≡ false → first_way f (ways (drop i all) (left_from 0 us ts)) ≡ first_way f (later f m ms us ts 0)
  part-starts e = ap (λ xs. first_way f (ways xs (left_from 0 us ts))) (drop-at all i h) ∙ starts f m ms us ts e

  abbrev Reached : ℕ → Type 0
  Reached j = first_way f (ways (drop i all) (left_from 0 us ts)) ≡ first_way f (later f m ms us ts j)

  -- a target is refused
  pub part-passes : (j : ℕ) (o : Option Split) → j < length ts → is_some o ≡ false → Reached j → IsFirstWay all (drop i all) (at_place m ms us ts j) o → Reached (j + 1)
  part-passes j None l e r w = r ∙ passes f m ms us ts j l w
  part-passes j (Some s) l e r w = cc

  pub part-none-failed : FailedBefore f m ms us ts 0
  part-none-failed = none-failed f m ms us ts

  pub part-next-failed : (j : ℕ) (o : Option Split) → is_some o ≡ false → IsFirstWay all (drop i all) (at_place m ms us ts j) o → FailedBefore f m ms us ts (j + 1)
  part-next-failed j None e w = next-failed f m ms us ts j w
  part-next-failed j (Some s) e w = cc

  pub part-repeated : (j : ℕ) → j < length ts → Repeats us ts j → FailedBefore f m ms us ts j → first_way f (at_place m ms us ts j) ≡ None
  part-repeated j l r b = repeated f m ms us ts j l r b

  -- a target is taken
  pub part-stops : (j : ℕ) (o : Option Split) → j < length ts → is_some o ≡ true → Reached j → IsFirstWay all (drop i all) (at_place m ms us ts j) o
      → IsFirstWay all (drop i all) (ways (drop i all) (left_from 0 us ts)) o
  part-stops j None l e r w = cc
  part-stops j (Some s) l e r w =
      record { bs = w.bs; left = w.left; w = w.w; first = r ∙ stops f m ms us ts j (w.bs, w.left) l w.first; whole = w.whole; wide = w.wide; waits = w.waits; is = w.is }

  -- no target is left
  pub part-ends : (j n : ℕ) → n ≡ length ts → j ≤ n → AreUsed us j n → Reached j → first_way f (ways (drop i all) (left_from 0 us ts)) ≡ None
  part-ends j n e l a r = r ∙ finishes f m ms us ts j n e l a

  -- the next target that is free
  pub part-reaches : (k j n : ℕ) → n ≡ length ts → NextFree us k n j → Reached k → Reached j
  part-reaches k j n e g r = r ∙ reaches f m ms us ts k j n e g

  pub part-still-failed : (k j n : ℕ) → NextFree us k n j → FailedBefore f m ms us ts k → FailedBefore f m ms us ts j
  part-still-failed k j n g b = still-failed f m ms us ts k j n g b

  pub place-taken : (j : ℕ) → has us j ≡ true → first_way f (at_place m ms us ts j) ≡ None
  place-taken j e = taken f m ms us ts j e

  pub place-refused : (j : ℕ) → first_of_all (m.tries (get_or ts j (leaf par))) ≡ None → first_way f (at_place m ms us ts j) ≡ None
  place-refused j e = refused f m ms us ts j e

  pub place-dead : (j : ℕ) → first_way f (ways ms (left_from 0 (us ++ j ∷ []) ts)) ≡ None → first_way f (at_place m ms us ts j) ≡ None
  place-dead j e = dead f m ms us ts j e

  thin-none : no_wide (m ∷ ms) ≡ true → m.wide ≡ false → no_wide ms ≡ true
  thin-none k e = sym (ap (λ b. cond b false (no_wide ms)) e) ∙ k

  -- a thin part takes a target, and what is found after it follows
  pub place-taking : (j : ℕ) (b : Bindings) (s t : Split) → m.wide ≡ false → has us j ≡ false → first_of_all (m.tries (get_or ts j (leaf par))) ≡ Some b
      → Way all ms (ways ms (left_from 0 (us ++ j ∷ []) ts)) s → t.wide.items ≡ s.wide.items → t.rest.items ≡ b ++ s.rest.items
      → Way all (drop i all) (at_place m ms us ts j) t
  place-taking j b s t e u k w p q =
      let now : Way all (m ∷ ms) (at_place m ms us ts j) t = record {
        bs = b ∷ w.bs;
        left = w.left;
        w = w.w;
        first = alive f m ms us ts j b (w.bs, w.left) u k w.first;
        whole = w.whole;
        wide = w.wide;
        waits = λ n. p ∙ w.waits (thin-none n e);
        is = q ∙ ap (λ x. b ++ x) w.is ∙ sym (ap (λ c. cond c w.w b ++ woven ms w.bs w.w) e);
      } in
      subst (λ (xs : List Member). Way all xs (at_place m ms us ts j) t) (sym (drop-at all i h)) now

  wide_some : m.wide ≡ true → no_wide (m ∷ ms) ≡ true → ⊥
  wide_some e n = let k : false ≡ true = sym (ap (λ b. cond b false (no_wide ms)) e) ∙ n in cc

  -- a wide part chooses nothing
  pub part-around : (s t : Split) → m.wide ≡ true → AtMostOne all → Way all ms (ways ms (left_from 0 us ts)) s → t.rest.items ≡ s.wide.items ++ s.rest.items
      → Way all (drop i all) (ways (drop i all) (left_from 0 us ts)) t
  part-around s t e a w q =
      let x = w.waits (alone-after i all e a) in
      moved (Some t) (record {
        bs = [] ∷ w.bs;
        left = w.left;
        w = w.w;
        first = around f m ms (left_from 0 us ts) e ∙ ap (option_map (λ (v : Choice). ([] ∷ v.0, v.1))) w.first;
        whole = w.whole;
        wide = w.wide;
        waits = λ n. absurd (wide_some e n);
        is = q ∙ ap (λ y. y ++ s.rest.items) x ∙ ap (λ y. w.w ++ y) w.is ∙ sym (ap (λ c. cond c w.w [] ++ woven ms w.bs w.w) e);
      })

  pub part-around-none : m.wide ≡ true → first_way f (ways ms (left_from 0 us ts)) ≡ None → first_way f (ways (drop i all) (left_from 0 us ts)) ≡ None
  part-around-none e n = moved None (around f m ms (left_from 0 us ts) e ∙ ap (option_map (λ (v : Choice). ([] ∷ v.0, v.1))) n)

-- all parts have chosen
module _ (all : List Member) (left : List Tree) where
  end-is : (b : Bool) → may_leave all left ≡ b → first_way (may_leave all) (ways [] left) ≡ cond b (Some ([], left)) None
  end-is b e = ap (λ c. cond c (Some ([], left)) None) e

  ended : (w : Bindings) (s : Split) → may_leave all left ≡ true → WideIs all (process left) w → s.wide.items ≡ w → s.rest.items ≡ [] → Way all [] (ways [] left) s
  ended w s e k p q = record { bs = []; left = left; w = w; first = end-is true e; whole = tt; wide = k; waits = λ n. p; is = q }

  pub end-wide-none : (k : ℕ) → NoneBefore k all → (member_at k all).wide ≡ true → AtMostOne all → first_of_all ((member_at k all).tries (process left)) ≡ None → first_way (may_leave all) (ways [] left) ≡ None
  end-wide-none k n e a h = end-is false (may-one k all left n e a ∙ some-none ((member_at k all).tries (process left)) h)

  pub end-wide : (k : ℕ) (v : Bindings) (s : Split) → NoneBefore k all → (member_at k all).wide ≡ true → AtMostOne all → first_of_all ((member_at k all).tries (process left)) ≡ Some v
      → s.wide.items ≡ v → s.rest.items ≡ [] → Way all [] (ways [] left) s
  end-wide k v s n e a h p q =
      ended v s (may-one k all left n e a ∙ some-some ((member_at k all).tries (process left)) v h) (one_is (process left) k all v n e a h) p q

  pub end-thin-none : (k : ℕ) → length all ≤ k → NoneBefore k all → is_empty left ≡ false → first_way (may_leave all) (ways [] left) ≡ None
  end-thin-none k l n e = end-is false (may-none all left (none-all k all l n) ∙ e)

  pub end-thin : (k : ℕ) (s : Split) → length all ≤ k → NoneBefore k all → is_empty left ≡ true → s.wide.items ≡ [] → s.rest.items ≡ [] → Way all [] (ways [] left) s
  end-thin k s l n e p q =
      let z = none-all k all l n in
      ended [] s (may-none all left z ∙ e) (none_is (process left) all [] z) p q

-- a whole pattern against what is left of a process
module _ (ps : List PatPart) (us : List ℕ) (t : Tree) (h : IsAscending (codes (trees (held t)))) where
  pattern_is : found (pat_tree ps) (remaining us t) ≡ parts_match (tried ps) (left_from 0 us (held t))
  pattern_is =
      ap (λ xs. parts_match xs (held (remaining us t))) (wholes-each pat_part_tree ps) ∙ ap (parts_match (tried ps)) (held-remaining us t)

  in_order : ascending (left_from 0 us (held t)) ≡ left_from 0 us (held t)
  in_order = ascending-same (left_from 0 us (held t)) (left-ascends 0 us (held t) h)

  pub pattern-none : first_way (may_leave (tried ps)) (ways (tried ps) (left_from 0 us (held t))) ≡ None → first_of_all (found (pat_tree ps) (remaining us t)) ≡ None
  pattern-none n = ap first_of_all pattern_is ∙ parts_none (tried ps) (left_from 0 us (held t)) in_order n

  pub pattern-some : (s : Split) → Way (tried ps) (tried ps) (ways (tried ps) (left_from 0 us (held t))) s → first_of_all (found (pat_tree ps) (remaining us t)) ≡ Some s.rest.items
  pattern-some s w =
      let ws = ways (tried ps) (left_from 0 us (held t)) in
      ap first_of_all pattern_is
      ∙ parts_some (tried ps) (left_from 0 us (held t)) in_order w.bs w.left w.w w.first (passes_test (may_leave (tried ps)) ws (w.bs, w.left) w.first) w.whole w.wide
      ∙ ap (λ x. Some x) (sym w.is)
