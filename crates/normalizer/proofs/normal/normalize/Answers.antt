use Rattle.std.proofs.Common.{ap, sym, ◌∙◌, subst}
use Rattle.std.specs.Prelude.{IsTrue}
use Rattle.calculus.specs.Bare.{bare}
use Rattle.calculus.specs.Congruence.{congruent}
use Rattle.calculus.specs.Meaning.{proc_written}
use Rattle.scope.proofs.Normalizing.{normal-congruent}
use Rattle.normal_parts.specs.Made.{normal_in}
use Rattle.normalizer.proofs.normal.normalize.Goals as goal

pub returns-clause-term : goal.returns-clause-term
unfolding normal_in
returns-clause-term c =
    let m = c.in_ok-term.ensures in
    m.1 ∙ (c.make_term-term.ensures m.0).2 ∙ ap (normal_in (proc_written c.args.p.now)) c.new-maker.ensures.scope

pub returns-clause-congruent : goal.returns-clause-congruent
unfolding normal_in
returns-clause-congruent c =
    let m = c.in_ok-term.ensures in
    let e = m.1 ∙ (c.make_term-term.ensures m.0).2 ∙ ap (normal_in (proc_written c.args.p.now)) c.new-maker.ensures.scope in
    subst (λ t. IsTrue (congruent t (bare (proc_written c.args.p.now)))) (sym e) (normal-congruent (bare (proc_written c.args.p.now)))
