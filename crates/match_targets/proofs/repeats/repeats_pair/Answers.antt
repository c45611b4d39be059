use Rattle.std.proofs.Common.{◌-◌, sym, subst, arith}
use Rattle.calculus.specs.Form.{pair_of, term}
use Rattle.calculus.specs.Tree.{Tree}
use Rattle.rho_term.specs.Parts.{pair_tree}
use Rattle.match_targets.specs.Targets.{Ready}
use Rattle.match_targets.proofs.Readying.{ready-of}
use Rattle.match_targets.proofs.repeats.repeats_pair.Goals as goal

pub same_pair-requires-clause-a : goal.same_pair-requires-clause-a
same_pair-requires-clause-a c =
    let x = c.index-pairs-j in
    subst (λ (p : Tree × Tree). Ready (pair_of term) (pair_tree p)) (sym x.is) (ready-of pair_tree (pair_of term) c.args.pairs.now (c.args.j - 1) x.result (omega (arith, c.requires.within)) c.requires.ready)

pub same_pair-requires-clause-b : goal.same_pair-requires-clause-b
same_pair-requires-clause-b c =
    let x = c.index-pairs-j-2 in
    subst (λ (p : Tree × Tree). Ready (pair_of term) (pair_tree p)) (sym x.is) (ready-of pair_tree (pair_of term) c.args.pairs.now c.args.j x.result c.requires.within c.requires.ready)
