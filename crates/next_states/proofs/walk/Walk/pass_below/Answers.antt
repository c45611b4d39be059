use Rattle.next_states.proofs.Walking.{pass-agrees}
use Rattle.next_states.proofs.Finding.{pass-finds, below-none}
use Rattle.next_states.proofs.walk.Walk.pass_below.Goals as goal

pub below-init : goal.below-init
below-init c = λ f. (f, record { agrees = λ all done a. a; finds = λ all done next s g. g })

pub below-preserved : goal.below-preserved
below-preserved c = λ f.
    let e = c.add.ensures f in
    let was = c.below.invariant e.0 in (
      was.0,
      record {
        agrees = λ all done a.
            pass-agrees c.below.self all done c.pass-key.new.self c.add.new.self c.pass-key.result.0 _ c.pass-key.ensures.pairs e.1.here e.1.others e.1.bare (was.1.agrees all done a);
        finds = λ all done next s g.
            pass-finds c.below.self all done c.pass-key.new.self c.add.new.self c.pass-key.result.0 _ next c.pass-key.ensures.pairs e.1.only
            (below-none c.args.code _ next (c.is_below.ensures.less c.below-test.true) s) (was.1.finds all done next s g);
      },
    )

pub returns : goal.returns
returns c = λ f.
    let was = c.below.invariant f in
    (was.0, record { passing = was.1; all = c.is_below.ensures.none c.below-test.false; least = c.is_below.ensures.least c.below-test.false })
