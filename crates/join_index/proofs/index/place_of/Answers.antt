use Rattle.std.proofs.Common.{suc, take, drop, sym, ap, ◌∙◌}
use Rattle.join_index.specs.Groups.{same_group}
use Rattle.join_index.specs.declared.index.Counted.{Counted}
use Rattle.join_index.proofs.Places.{cut, short}
use Rattle.join_index.proofs.index.place_of.Goals as goal

pub returns-then-same_group : goal.returns-then-same_group
returns-then-same_group c =
    let xs = c.args.groups.now in
    let i = c.loop-i.i in
    let x = c.index-groups-i.result in (
      take i xs,
      x,
      drop (suc i) xs,
      cut xs i x c.loop-i-test.true c.index-groups-i.is,
      short xs i c.loop-i-test.true,
      c.loop-i.invariant,
      ap (λ (e : Counted). same_group c.args.group.now e.group) c.index-groups-i.is ∙ ap (same_group c.args.group.now) (sym c.channels.ensures.is) ∙ sym c.same_group.ensures ∙ c.if-same_group.true,
    )
