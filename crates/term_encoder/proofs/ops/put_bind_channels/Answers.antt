use Rattle.std.proofs.Common.{rules}
use Rattle.calculus.specs.Tree.{Tree}
use Rattle.rho_term.specs.declared.term.TermBind.{TermBind}
use Rattle.term_encoder.proofs.Writing.{wrote_next, wrote_row}
use Rattle.term_encoder.proofs.ops.put_bind_channels.Goals as goal

abbrev channel_of : TermBind → Tree
channel_of b = b.channel

pub loop-bind-preserved : goal.loop-bind-preserved
loop-bind-preserved c = wrote_next channel_of _ _ _ _ c.deref-bind-items.ensures.value c.loop-bind-test.true c.bind-item.is c.loop-bind.invariant c.put_term.ensures

pub returns : goal.returns
returns c = wrote_row channel_of c.args.binds.now.items _ _ _ c.deref-bind-items.ensures.value c.loop-bind-test.false (search rules) c.be32.ensures c.loop-bind.invariant
