use Rattle.std.proofs.Common.{◌≡◌, Bool, List, [], ◌∷◌, refl, sym, ap, ◌∙◌, subst}
use Rattle.std.specs.Prelude.{Option, Some}
use Rattle.std.specs.declared.alloc.Global.{Global}
use Rattle.std.specs.declared.vec.Vec.{Vec}
use Rattle.calculus.specs.declared.plain.TermRest.{TermRest}
use Rattle.calculus.specs.declared.plain.TermRest.TheVariants as rests
use Rattle.calculus.specs.Tree.{Tree, set, trees}
use Rattle.calculus.specs.Shape.{many, only}
use Rattle.calculus.specs.Order.{IsAscending}
use Rattle.calculus.specs.Code.{codes}
use Rattle.calculus.specs.Matching.{Bindings, one_if, ways}
use Rattle.free_places.specs.Places.{left_from}
use Rattle.match_targets.specs.Found.{MemberWay, IsFirst, IsFirstMembers}
use Rattle.match_targets.proofs.Leaving.{left-ascends}
use Rattle.match_targets.proofs.Ending.{ok_map, rest-ends}
use Rattle.match_targets.proofs.remainders.rest_members.Goals as goal

pub from_part-requires : goal.from_part-requires
from_part-requires c = subst (λ (ts : List Tree). IsAscending (codes (trees ts))) (sym c.in_ok-left-in-Var.ensures) (left-ascends 0 c.args.used.now c.args.terms.now c.requires.ordered)

pub returns-in-No : goal.returns-in-No
returns-in-No c =
    let left = left_from 0 c.args.used.now c.args.terms.now in
    let o = c.found_if.result in
    let e = subst (λ (b : Bool). IsFirst (one_if b) o) (c.is_spent.ensures c.args.terms.now refl) c.found_if.ensures in
    subst (λ (r : TermRest). IsFirstMembers r (λ vs. only (many set vs)) (ways [] left) o) (sym c.in-No.is) (rest-ends (λ vs. only (many set vs)) left rests.No o e)

pub returns-in-Wild : goal.returns-in-Wild
returns-in-Wild c =
    let left = left_from 0 c.args.used.now c.args.terms.now in
    let e = ap (λ (x : Bindings). Some x) (sym c.new.ensures.items) in
    subst (λ (r : TermRest). MemberWay r (λ vs. only (many set vs)) (ways [] left) c.new.result.items) (sym c.in-Wild.is) (rest-ends (λ vs. only (many set vs)) left rests.Wild (Some c.new.result) e)

pub returns-in_ok-from_part-in-Var : goal.returns-in_ok-from_part-in-Var
returns-in_ok-from_part-in-Var c =
    let left = left_from 0 c.args.used.now c.args.terms.now in
    let v = c.in_ok-from_part-in-Var.field-0 in
    let e : v ≡ only (many set left) = c.in_ok-from_part-in-Var.ensures ∙ ap (λ vs. only (many set vs)) c.in_ok-left-in-Var.ensures in
    ok_map (λ (o : Option (Vec Tree Global)). IsFirst ((v ∷ []) ∷ []) o) (λ (o : Option (Vec Tree Global)). IsFirstMembers c.args.rest (λ vs. only (many set vs)) (ways [] left) o)
    (λ o h. subst (λ (r : TermRest). IsFirstMembers r (λ vs. only (many set vs)) (ways [] left) o) (sym c.in-Var.is)
    (rest-ends (λ vs. only (many set vs)) left rests.Var o (subst (λ (x : Tree). IsFirst ((x ∷ []) ∷ []) o) e h)))
    c.found_one.result c.found_one.ensures
