use Rattle.std.proofs.Common.{[], ◌∷◌, sym, subst}
use Rattle.std.proofs.lemmas.List.Elements.{All-head, All-tail}
use Rattle.calculus.specs.Rows.{stdout, stdout_ack}
use Rattle.calculus.specs.Storing.{IsStorable}
use Rattle.process_laws.proofs.StorableStaying.{built_in_receivers_are_storable}
use Rattle.least_step.proofs.Steps.{first-row, rest-rows}
use Rattle.least_step.proofs.rows.built_in_rows.Goals as goal

pub from_op-requires : goal.from_op-requires
from_op-requires c =
    subst IsStorable (sym (first-row c.in_ok-ops.ops.items stdout (stdout_ack ∷ []) c.in_ok-ops.ensures c.remove-first.result c.remove-first.ensures.value))
    (All-head IsStorable stdout (stdout_ack ∷ []) built_in_receivers_are_storable)

pub from_op-requires-2 : goal.from_op-requires-2
from_op-requires-2 c =
    let rest = rest-rows c.in_ok-ops.ops.items stdout (stdout_ack ∷ []) c.in_ok-ops.ensures c.remove-first.new.self.items c.remove-first.ensures.items in
    subst IsStorable (sym (first-row c.remove-first.new.self.items stdout_ack [] rest c.remove-second.result c.remove-second.ensures.value))
    (All-head IsStorable stdout_ack [] (All-tail IsStorable stdout (stdout_ack ∷ []) built_in_receivers_are_storable))
