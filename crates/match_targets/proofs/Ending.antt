-- The end of a search: what a remainder binds is what is found.
use Rattle.std.proofs.Common.{◌≡◌, Bool, true, false, cond, List, [], refl, ap}
use Rattle.std.specs.Prelude.{Option, Some, None, Result, Ok, Err, IfOk}
use Rattle.std.specs.declared.alloc.Global.{Global}
use Rattle.std.specs.declared.vec.Vec.{Vec}
use Rattle.calculus.specs.declared.plain.TermRest.{TermRest}
use Rattle.calculus.specs.declared.plain.TermRest.TheVariants as rests
use Rattle.calculus.specs.Tree.{Tree}
use Rattle.calculus.specs.Matching.{Bindings, ways, first_of_all, one_if, is_empty, rest_match}
use Rattle.match_targets.specs.Found.{IsFirst, IsFirstMembers, may_rest}

-- what holds of each good answer
pub ok_map : {A E : Type 0} (P Q : A → Type 0) → ((a : A) → P a → Q a) → (r : Result A E) → IfOk r P → IfOk r Q
ok_map P Q f (Ok a) h = f a h
ok_map P Q f (Err e) h = h

one_some : (b : Bool) (v : Bindings) → first_of_all (one_if b) ≡ Some v → b ≡ true
one_some true v h = refl
one_some false v h = cc

one_none : (b : Bool) → first_of_all (one_if b) ≡ None → b ≡ false
one_none true h = cc
one_none false h = refl

-- all members have chosen, and the remainder takes what is left
module _ (made : List Tree → Tree) (left : List Tree) where
  rest_some : (r : TermRest) (v : Bindings) → first_of_all (rest_match r made left) ≡ Some v → may_rest r left ≡ true
  rest_some rests.No v h = one_some (is_empty left) v h
  rest_some rests.Var v h = refl
  rest_some rests.Wild v h = refl

  rest_none : (r : TermRest) → first_of_all (rest_match r made left) ≡ None → may_rest r left ≡ false
  rest_none rests.No h = one_none (is_empty left) h
  rest_none rests.Var h = cc
  rest_none rests.Wild h = cc

  -- what the remainder binds is what is found
  pub rest-ends : (r : TermRest) (o : Option (Vec Tree Global)) → IsFirst (rest_match r made left) o → IsFirstMembers r made (ways [] left) o
  rest-ends r None h = ap (λ c. cond c (Some ([], left)) None) (rest_none r h)
  rest-ends r (Some v) h = record { bs = []; left = left; x = v.items; first = ap (λ c. cond c (Some ([], left)) None) (rest_some r v.items h); last = h; is = refl }
