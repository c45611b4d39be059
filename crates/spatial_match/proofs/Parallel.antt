-- Matches of a parallel pattern, from the ways of its parts.
use Rattle.std.proofs.Common.{◌≡◌, Bool, true, false, cond, List, [], ◌∷◌, ◌++◌, map as each, refl, sym, ap, ◌∙◌, subst}
use Rattle.std.specs.Prelude.{◌||◌, ◌&&◌, Some, None, flat_map}
use Rattle.calculus.specs.Tree.{Tree}
use Rattle.calculus.specs.Shape.{process}
use Rattle.calculus.specs.Normal.{ascending}
use Rattle.calculus.specs.Matching.{Bindings, Member, Choice, Matcher, both_of, completed, has_wide, is_empty, some_match, first_of_all, ways, parts_match}
use Rattle.match_targets.specs.Found.{first_way}
use Rattle.spatial_match.specs.Search.{woven, IsWhole, WideIs}
use Rattle.spatial_match.specs.Found.{wides_take, may_leave}
use Rattle.spatial_match.proofs.Firsts.{by_cases, both_first, first-both, none_gives, some_gives}

both-none : (xs : List Bindings) (ys : List Bindings) → ys ≡ [] → both_of xs ys ≡ []
both-none [] ys e = refl
both-none (x ∷ xs) ys e = ap (λ zs. each (λ c. x ++ c) zs ++ both_of xs zs) e ∙ both-none xs [] refl

no_wide_match : (c : Bool) (xs : List Bindings) (b : Bindings) → cond c (some_match xs) true ≡ false → cond c xs (b ∷ []) ≡ []
no_wide_match true [] b h = refl
no_wide_match true (x ∷ xs) b h = cc
no_wide_match false xs b h = cc

and_false : {P : Type 0} (a b : Bool) → (a && b) ≡ false → (a ≡ false → P) → (b ≡ false → P) → P
and_false true b h f g = g h
and_false false b h f g = f refl

and_true : (a b : Bool) → (a && b) ≡ true → (a ≡ true) × (b ≡ true)
and_true true b h = (refl, h)
and_true false b h = cc

-- where a wide member takes nothing of this, there is no match
completed-none : (ms : List Member) (bs : List Bindings) (t : Tree) → wides_take ms t ≡ false → completed ms bs (λ f. f t) ≡ []
completed-none [] bs t h = cc
completed-none (m ∷ ms) [] t h = refl
completed-none (m ∷ ms) (b ∷ bs) t h =
    let xs = cond m.wide (m.tries t) (b ∷ []) in
    let ys = completed ms bs (λ (f : Matcher). f t) in
    and_false (cond m.wide (some_match (m.tries t)) true) (wides_take ms t) h
    (λ e. ap (λ zs. both_of zs ys) (no_wide_match m.wide (m.tries t) b e))
    (λ e. both-none xs ys (completed-none ms bs t e))

pick : (c : Bool) (xs : List Bindings) (b w : Bindings) → (c ≡ true → first_of_all xs ≡ Some w) → first_of_all (cond c xs (b ∷ [])) ≡ Some (cond c w b)
pick true xs b w h = h refl
pick false xs b w h = refl

completed-first : (ms : List Member) (bs : List Bindings) (t : Tree) (w : Bindings) → IsWhole ms bs → WideIs ms t w → first_of_all (completed ms bs (λ f. f t)) ≡ Some (woven ms bs w)
completed-first [] bs t w h k = refl
completed-first (m ∷ ms) [] t w h k = absurd h
completed-first (m ∷ ms) (b ∷ bs) t w h k =
    let xs = cond m.wide (m.tries t) (b ∷ []) in
    let ys = completed ms bs (λ (f : Matcher). f t) in
    first-both xs ys ∙ ap (λ p. both_first p (first_of_all ys)) (pick m.wide (m.tries t) b w k.0)
    ∙ ap (both_first (Some (cond m.wide w b))) (completed-first ms bs t w h k.1)

module _ (ms : List Member) where
  -- the matches of one way
  abbrev of_way : Choice → List Bindings
  of_way w = cond (has_wide ms || is_empty w.1) (completed ms w.0 (λ f. f (process w.1))) []

  of_no_way : (w : Choice) → may_leave ms w.1 ≡ false → of_way w ≡ []
  of_no_way w h =
      let a = has_wide ms || is_empty w.1 in
      let xs = completed ms w.0 (λ (f : Matcher). f (process w.1)) in
      and_false a (wides_take ms (process w.1)) h (λ e. ap (λ b. cond b xs []) e)
      (λ e. let P : Bool → Type 0 = λ b. cond b xs [] ≡ [] in by_cases {P = P a} a (λ g. subst P (sym g) (completed-none ms w.0 (process w.1) e)) (λ g. subst P (sym g) refl))

  of_a_way : (bs : List Bindings) (left : List Tree) (w : Bindings) → may_leave ms left ≡ true → IsWhole ms bs → WideIs ms (process left) w → first_of_all (of_way (bs, left)) ≡ Some (woven ms bs w)
  of_a_way bs left w h k l =
      let xs = completed ms bs (λ (f : Matcher). f (process left)) in
      ap (λ b. first_of_all (cond b xs [])) (and_true (has_wide ms || is_empty left) (wides_take ms (process left)) h).0 ∙ completed-first ms bs (process left) w k l

  module _ (ts : List Tree) (e : ascending ts ≡ ts) where
    here : parts_match ms ts ≡ flat_map of_way (ways ms ts)
    here = ap (λ us. flat_map of_way (ways ms us)) e

    pub parts_none : first_way (may_leave ms) (ways ms ts) ≡ None → first_of_all (parts_match ms ts) ≡ None
    parts_none h = ap first_of_all (here ∙ none_gives (may_leave ms) of_way of_no_way (ways ms ts) h)

    pub parts_some : (bs : List Bindings) (left : List Tree) (w : Bindings) → first_way (may_leave ms) (ways ms ts) ≡ Some (bs, left) → may_leave ms left ≡ true
        → IsWhole ms bs → WideIs ms (process left) w → first_of_all (parts_match ms ts) ≡ Some (woven ms bs w)
    parts_some bs left w h p k l = ap first_of_all here ∙ some_gives (may_leave ms) of_way of_no_way (ways ms ts) (bs, left) (woven ms bs w) h (of_a_way bs left w p k l)

-- the way that is found passes the test
pub passes_test : (f : List Tree → Bool) (ws : List Choice) (w : Choice) → first_way f ws ≡ Some w → f w.1 ≡ true
passes_test f [] w h = cc
passes_test f (u ∷ us) w h =
    let go : (b : Bool) → f u.1 ≡ b → cond b (Some u) (first_way f us) ≡ Some w → f w.1 ≡ true = λ b. elim b as (λ (c : Bool). f u.1 ≡ c → cond c (Some u) (first_way f us) ≡ Some w → f w.1 ≡ true) [
      | true ↦ λ e k. let q : u ≡ w = cc in subst (λ (x : Choice). f x.1 ≡ true) q e
      | false ↦ λ e k. passes_test f us w k
    ] in
    go (f u.1) refl h
