use Rattle.std.proofs.Common.{◌-◌, sym, subst, arith}
use Rattle.calculus.specs.Form.{term}
use Rattle.match_targets.specs.Targets.{Ready}
use Rattle.match_targets.proofs.Readying.{ready-at}
use Rattle.match_targets.proofs.repeats.repeats_member.Goals as goal

pub same_term-requires-clause-a : goal.same_term-requires-clause-a
same_term-requires-clause-a c =
    let x = c.index-terms-j in
    subst (Ready term) (sym x.is) (ready-at term c.args.terms.now (c.args.j - 1) x.result (omega (arith, c.requires.within)) c.requires.ready)

pub same_term-requires-clause-b : goal.same_term-requires-clause-b
same_term-requires-clause-b c =
    let x = c.index-terms-j-2 in
    subst (Ready term) (sym x.is) (ready-at term c.args.terms.now c.args.j x.result c.requires.within c.requires.ready)
