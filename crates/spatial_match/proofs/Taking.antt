-- One step of the search for the members of a set or map.
use Rattle.std.proofs.Common.{◌≡◌, ℕ, ◌+◌, ◌<◌, ◌≤◌, Bool, true, false, List, [], ◌∷◌, ◌++◌, length, drop, get_or, sym, ap, ◌∙◌, append_assoc}
use Rattle.std.specs.Prelude.{Option, Some, None, is_some, flat_map}
use Rattle.std.specs.declared.alloc.Global.{Global}
use Rattle.std.specs.declared.vec.Vec.{Vec}
use Rattle.calculus.specs.declared.plain.TermRest.{TermRest}
use Rattle.calculus.specs.Tree.{Tree, par}
use Rattle.calculus.specs.Shape.{leaf}
use Rattle.calculus.specs.Matching.{Bindings, Member, ways, first_of_all}
use Rattle.free_places.specs.Places.{AreUsed, NextFree, has, left_from}
use Rattle.match_targets.specs.Found.{first_way, may_rest, MemberWay, IsFirstMembers}
use Rattle.spatial_match.specs.Search.{at_place, FailedBefore, member_at}
use Rattle.match_targets.specs.Targets.{Repeats}
use Rattle.spatial_match.proofs.Rows.{drop-at}
use Rattle.spatial_match.proofs.Ways.{later, starts, passes, stops, reaches, still-failed, finishes, none-failed, next-failed, repeated, taken, refused, dead, alive}

module _ (r : TermRest) (made : List Tree → Tree) (all : List Member) (us : List ℕ) (ts : List Tree) (i : ℕ) (h : i < length all) where
  abbrev m : Member
  m = member_at i all

  abbrev ms : List Member
  ms = drop (i + 1) all

  abbrev f : List Tree → Bool
  f = may_rest r

  pub member-starts : m.wide ≡ false → first_way f (ways (drop i all) (left_from 0 us ts)) ≡ first_way f (later f m ms us ts 0)
  member-starts e = ap (λ xs. first_way f (ways xs (left_from 0 us ts))) (drop-at all i h) ∙ starts f m ms us ts e

  abbrev Reached : ℕ → Type 0
  Reached j = first_way f (ways (drop i all) (left_from 0 us ts)) ≡ first_way f (later f m ms us ts j)

  pub member-passes : (j : ℕ) (o : Option (Vec Tree Global)) → j < length ts → is_some o ≡ false → Reached j → IsFirstMembers r made (at_place m ms us ts j) o → Reached (j + 1)
  member-passes j None l e q w = q ∙ passes f m ms us ts j l w
  member-passes j (Some v) l e q w = cc

  pub member-none-failed : FailedBefore f m ms us ts 0
  member-none-failed = none-failed f m ms us ts

  pub member-next-failed : (j : ℕ) (o : Option (Vec Tree Global)) → is_some o ≡ false → IsFirstMembers r made (at_place m ms us ts j) o → FailedBefore f m ms us ts (j + 1)
  member-next-failed j None e w = next-failed f m ms us ts j w
  member-next-failed j (Some v) e w = cc

  pub member-repeated : (j : ℕ) → j < length ts → Repeats us ts j → FailedBefore f m ms us ts j → first_way f (at_place m ms us ts j) ≡ None
  member-repeated j l q b = repeated f m ms us ts j l q b

  pub member-stops : (j : ℕ) (o : Option (Vec Tree Global)) → j < length ts → is_some o ≡ true → Reached j → IsFirstMembers r made (at_place m ms us ts j) o
      → IsFirstMembers r made (ways (drop i all) (left_from 0 us ts)) o
  member-stops j None l e q w = cc
  member-stops j (Some v) l e q w = record { bs = w.bs; left = w.left; x = w.x; first = q ∙ stops f m ms us ts j (w.bs, w.left) l w.first; last = w.last; is = w.is }

  pub member-ends : (j n : ℕ) → n ≡ length ts → j ≤ n → AreUsed us j n → Reached j → first_way f (ways (drop i all) (left_from 0 us ts)) ≡ None
  member-ends j n e l a r = r ∙ finishes f m ms us ts j n e l a

  -- the next target that is free
  pub member-reaches : (k j n : ℕ) → n ≡ length ts → NextFree us k n j → Reached k → Reached j
  member-reaches k j n e g r = r ∙ reaches f m ms us ts k j n e g

  pub member-still-failed : (k j n : ℕ) → NextFree us k n j → FailedBefore f m ms us ts k → FailedBefore f m ms us ts j
  member-still-failed k j n g b = still-failed f m ms us ts k j n g b

  pub member-taken : (j : ℕ) → has us j ≡ true → first_way f (at_place m ms us ts j) ≡ None
  member-taken j e = taken f m ms us ts j e

  pub member-refused : (j : ℕ) → first_of_all (m.tries (get_or ts j (leaf par))) ≡ None → first_way f (at_place m ms us ts j) ≡ None
  member-refused j e = refused f m ms us ts j e

  pub member-dead : (j : ℕ) → first_way f (ways ms (left_from 0 (us ++ j ∷ []) ts)) ≡ None → first_way f (at_place m ms us ts j) ≡ None
  member-dead j e = dead f m ms us ts j e

  pub member-taking : (j : ℕ) (b v u : Bindings) → has us j ≡ false → first_of_all (m.tries (get_or ts j (leaf par))) ≡ Some b
      → MemberWay r made (ways ms (left_from 0 (us ++ j ∷ []) ts)) v → u ≡ b ++ v → MemberWay r made (at_place m ms us ts j) u
  member-taking j b v u e k w q =
      record {
        bs = b ∷ w.bs;
        left = w.left;
        x = w.x;
        first = alive f m ms us ts j b (w.bs, w.left) e k w.first;
        last = w.last;
        is = q ∙ ap (λ y. b ++ y) w.is ∙ sym (append_assoc b (flat_map (λ (c : Bindings). c) w.bs) w.x);
      }
