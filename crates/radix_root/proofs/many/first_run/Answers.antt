use Rattle.std.proofs.Common.{◌≡◌, ◌+◌, suc, [], None, take, sym, subst, ◌∙◌, arith}
use Rattle.radix_root.specs.declared.group.Group.{Group}
use Rattle.radix_root.specs.Leaves.{half_of}
use Rattle.radix_root.specs.Groups.{AllGroups}
use Rattle.radix_root.proofs.Given.{groups-more}
use Rattle.radix_root.proofs.many.first_run.Goals as goal

pub loop-place-preserved : goal.loop-place-preserved
loop-place-preserved c =
    let none : Group = record { key = record { 0 = [] }; digest = None } in
    let place = c.loop-place.place in
    let next : suc place ≡ place + 1 = omega arith in (
      subst (λ i. AllGroups (λ k. half_of c.args.depth k ≡ c.half_at-half.result) (take i c.args.groups.now)) next
          (groups-more (λ k. half_of c.args.depth k ≡ c.half_at-half.result) c.args.groups.now place none c.loop-place.invariant.0 c.loop-place-test.true (sym c.half_at.ensures.half ∙ c.if-half_at-half.false)),
      omega arith,
    )
