use Rattle.std.proofs.Common.{map, sym, subst, All}
use Rattle.calculus.specs.Unfolding.{opened}
use Rattle.rho_term.specs.Parts.{bind_tree, part_tree}
use Rattle.value_ops.specs.Answers.{IsOperand}
use Rattle.offered_rows.specs.Offers.{ComesToRow}
use Rattle.offered_rows.proofs.Offering.{receive-is}
use Rattle.offered_rows.proofs.Operands.{names-operands}
use Rattle.offered_rows.proofs.receive.offer_receive.Goals as goal

pub names_fault-fault-requires : goal.names_fault-fault-requires
names_fault-fault-requires c = subst (All IsOperand) (sym c.in_ok-names.ensures.names) (names-operands c.args.channels.items c.requires.channels)

pub receive_part-requires-clause-names : goal.receive_part-requires-clause-names
receive_part-requires-clause-names c = subst (All IsOperand) (sym c.in_ok-names.ensures.names) (names-operands c.args.channels.items c.requires.channels)

pub returns : goal.returns
returns c =
    let b = c.args.budget in let r = c.args.receive in let n = c.in_ok-names.names in
    let same = receive-is b.prices.now c.args.id.0 r.kind (map opened c.args.channels.items) (map bind_tree r.binds.now.items) r.body.now n.names.items n.readable (part_tree c.in_ok-part.part) c.names_fault-fault.result c.receive.result
    c.receive.ensures.price c.in_ok-names.ensures.names c.in_ok-names.ensures.readable c.in_ok-part.ensures.part c.names_fault-fault.ensures in
    subst (λ w. ComesToRow c.offer_part.result b w) same c.offer_part.ensures
