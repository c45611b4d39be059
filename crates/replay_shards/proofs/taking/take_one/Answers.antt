use Rattle.std.proofs.Common.{ap, subst}
use Rattle.std.specs.Prelude.{Option, MatchOption, option_copied}
use Rattle.calculus.specs.Rows.{Row}
use Rattle.replay_slots.specs.Hands.{all_shown, parts_of}
use Rattle.replay_shards.specs.Taken.{IsNotTaken, IsTaken}
use Rattle.replay_shards.proofs.taking.take_one.Goals as goal

pub returns-in_default : goal.returns-in_default
returns-in_default c ss rig =
    let shown = all_shown (parts_of c.args.slots.now) in
    subst (λ (o : Option Row). MatchOption o (IsNotTaken ss shown c.args.step c.args.id.now.0) (IsTaken ss shown c.args.step c.args.id.now.0)) (ap option_copied c.in_default.is) (c.lend_row.ensures ss rig)

pub returns : goal.returns
returns c ss rig =
    let shown = all_shown (parts_of c.args.slots.now) in
    (subst (λ (o : Option Row). MatchOption o (IsNotTaken ss shown c.args.step c.args.id.now.0) (IsTaken ss shown c.args.step c.args.id.now.0)) (ap option_copied c.in-Some.is) (c.lend_row.ensures ss rig), tt)
