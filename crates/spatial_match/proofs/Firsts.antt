-- The first of a list of matches.
use Rattle.std.proofs.Common.{◌≡◌, Bool, true, false, cond, List, [], ◌∷◌, ◌++◌, refl, ap, ◌∙◌, subst}
use Rattle.std.specs.Prelude.{Option, Some, None, flat_map}
use Rattle.calculus.specs.Tree.{Tree}
use Rattle.calculus.specs.Matching.{Bindings, Member, Choice, both_of, some_match, first_of_all}
use Rattle.std.specs.declared.alloc.Global.{Global}
use Rattle.std.specs.declared.vec.Vec.{Vec}
use Rattle.calculus.specs.declared.plain.TermRest.{TermRest}
use Rattle.spatial_match.specs.declared.split.Split.{Split}
use Rattle.match_targets.specs.Found.{first_way, may_rest, MemberWay, IsFirst, IsFirstMembers}
use Rattle.spatial_match.specs.Found.{IsFirstWay, Way, may_leave}

-- the one list of bindings and then the other, where both are there
abbrev pub both_first : Option Bindings → Option Bindings → Option Bindings
both_first None y = None
both_first (Some a) None = None
both_first (Some a) (Some b) = Some (a ++ b)

both-empty : (xs : List Bindings) → both_of xs [] ≡ []
both-empty [] = refl
both-empty (x ∷ xs) = both-empty xs

pub first-both : (xs ys : List Bindings) → first_of_all (both_of xs ys) ≡ both_first (first_of_all xs) (first_of_all ys)
first-both [] ys = refl
first-both (x ∷ xs) [] = ap first_of_all (both-empty xs)
first-both (x ∷ xs) (y ∷ ys) = refl

pub by_cases : {P : Type 0} (b : Bool) → (b ≡ true → P) → (b ≡ false → P) → P
by_cases true f g = f refl
by_cases false f g = g refl

first-front : (xs ys : List Bindings) (v : Bindings) → first_of_all xs ≡ Some v → first_of_all (xs ++ ys) ≡ Some v
first-front [] ys v h = cc
first-front (x ∷ xs) ys v h = h

pub no_first : (xs : List Bindings) → first_of_all xs ≡ None → xs ≡ []
no_first [] h = refl
no_first (x ∷ xs) h = cc

pub some-none : (xs : List Bindings) → first_of_all xs ≡ None → some_match xs ≡ false
some-none [] h = refl
some-none (x ∷ xs) h = cc

pub some-some : (xs : List Bindings) (v : Bindings) → first_of_all xs ≡ Some v → some_match xs ≡ true
some-some [] v h = cc
some-some (x ∷ xs) v h = refl

-- what each way that passes a test gives, and the others give nothing
module _ (f : List Tree → Bool) (G : Choice → List Bindings) (empty : (w : Choice) → f w.1 ≡ false → G w ≡ []) where
  none_step : (w : Choice) (p : Option Choice) (b : Bool) → f w.1 ≡ b → cond b (Some w) p ≡ None → (G w ≡ []) × (p ≡ None)
  none_step w p true e h = cc
  none_step w p false e h = (empty w e, h)

  pub none_gives : (ws : List Choice) → first_way f ws ≡ None → flat_map G ws ≡ []
  none_gives [] h = refl
  none_gives (w ∷ ws) h =
      let s = none_step w (first_way f ws) (f w.1) refl h in
      ap (λ xs. xs ++ flat_map G ws) s.0 ∙ none_gives ws s.1

  some_step : (u w : Choice) (us : List Choice) (v : Bindings) (b : Bool) → f u.1 ≡ b → cond b (Some u) (first_way f us) ≡ Some w → first_of_all (G w) ≡ Some v
      → (first_way f us ≡ Some w → first_of_all (flat_map G us) ≡ Some v) → first_of_all (G u ++ flat_map G us) ≡ Some v
  some_step u w us v true e h k more =
      let q : w ≡ u = cc in
      first-front (G u) (flat_map G us) v (subst (λ (x : Choice). first_of_all (G x) ≡ Some v) q k)
  some_step u w us v false e h k more = ap (λ xs. first_of_all (xs ++ flat_map G us)) (empty u e) ∙ more h

  pub some_gives : (ws : List Choice) (w : Choice) (v : Bindings) → first_way f ws ≡ Some w → first_of_all (G w) ≡ Some v → first_of_all (flat_map G ws) ≡ Some v
  some_gives [] w v h k = cc
  some_gives (u ∷ us) w v h k = some_step u w us v (f u.1) refl h k (λ e. some_gives us w v e k)

-- what an answer says where it is known
pub none-of : (bs : List Bindings) (o : Option (Vec Tree Global)) → o ≡ None → IsFirst bs o → first_of_all bs ≡ None
none-of bs None e h = h
none-of bs (Some v) e h = cc

pub some-of : (bs : List Bindings) (o : Option (Vec Tree Global)) (v : Vec Tree Global) → o ≡ Some v → IsFirst bs o → first_of_all bs ≡ Some v.items
some-of bs o v e h = subst (λ (p : Option (Vec Tree Global)). IsFirst bs p) e h

pub no_way-of : (all later : List Member) (ws : List Choice) (o : Option Split) → o ≡ None → IsFirstWay all later ws o → first_way (may_leave all) ws ≡ None
no_way-of all later ws o e h = subst (λ (p : Option Split). IsFirstWay all later ws p) e h

pub way-of : (all later : List Member) (ws : List Choice) (o : Option Split) (s : Split) → o ≡ Some s → IsFirstWay all later ws o → Way all later ws s
way-of all later ws o s e h = subst (λ (p : Option Split). IsFirstWay all later ws p) e h

pub no_members-of : (r : TermRest) (made : List Tree → Tree) (ws : List Choice) (o : Option (Vec Tree Global)) → o ≡ None → IsFirstMembers r made ws o → first_way (may_rest r) ws ≡ None
no_members-of r made ws o e h = subst (λ (p : Option (Vec Tree Global)). IsFirstMembers r made ws p) e h

pub members-of : (r : TermRest) (made : List Tree → Tree) (ws : List Choice) (o : Option (Vec Tree Global)) (v : Vec Tree Global) → o ≡ Some v → IsFirstMembers r made ws o → MemberWay r made ws v.items
members-of r made ws o v e h = subst (λ (p : Option (Vec Tree Global)). IsFirstMembers r made ws p) e h

-- both of two lists of matches, one after the other
pub both-second-none : (xs ys : List Bindings) (a : Bindings) → first_of_all xs ≡ Some a → first_of_all ys ≡ None → first_of_all (both_of xs ys) ≡ None
both-second-none xs ys a e h = first-both xs ys ∙ ap (λ p. both_first p (first_of_all ys)) e ∙ ap (both_first (Some a)) h

pub both-first-none : (xs ys : List Bindings) → first_of_all xs ≡ None → first_of_all (both_of xs ys) ≡ None
both-first-none xs ys e = first-both xs ys ∙ ap (λ p. both_first p (first_of_all ys)) e

pub both-some : (xs ys : List Bindings) (a b : Bindings) → first_of_all xs ≡ Some a → first_of_all ys ≡ Some b → first_of_all (both_of xs ys) ≡ Some (a ++ b)
both-some xs ys a b e h = first-both xs ys ∙ ap (λ p. both_first p (first_of_all ys)) e ∙ ap (both_first (Some a)) h

-- a list of matches and then nothing more
append_nil : (xs : Bindings) → xs ++ [] ≡ xs
append_nil [] = refl
append_nil (x ∷ xs) = ap (λ ys. x ∷ ys) (append_nil xs)

alone : (p : Option Bindings) → both_first p (Some []) ≡ p
alone None = refl
alone (Some a) = ap (λ (x : Bindings). Some x) (append_nil a)

pub and-no-more : (ys : List Bindings) → first_of_all (both_of ys ([] ∷ [])) ≡ first_of_all ys
and-no-more ys = first-both ys ([] ∷ []) ∙ alone (first_of_all ys)
