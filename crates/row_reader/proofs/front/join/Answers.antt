use Rattle.std.proofs.Common.{◌++◌, length, ap, sym, ◌∙◌, subst, arith, append_assoc}
use Rattle.calculus.specs.Order.{IsAscending}
use Rattle.calculus.specs.Shape.{leaf, many}
use Rattle.calculus.specs.Tree.{row, rest}
use Rattle.calculus.specs.Variables.{bound}
use Rattle.rho_term.specs.Parts.{bind_tree}
use Rattle.code_faults.specs.Scopes.{senses_of}
use Rattle.code_faults.proofs.Exit.{exit}
use Rattle.code_faults.proofs.Rows.{row-done}
use Rattle.code_faults.proofs.Parts.{bind-form, bind-bound}
use Rattle.code_faults.proofs.Pushing.{row-start, row-push, count-push, bound-start, bound-push}
use Rattle.code_faults.proofs.PatExits.{bind-channel, bind-patterns, bind-rest}
use Rattle.row_reader.proofs.Joins.{join-start, join-push, join-codes, number-join, join-low, join-refused, join-lower, memory-join, cut-where, cut-here, cut-told, number-join_begun, join-channel_begun, join-patterns_begun, join-rest_begun}
use Rattle.row_reader.proofs.front.join.Goals as goal

pub loop-i-init : goal.loop-i-init
loop-i-init c = record { read = row-start c.list-binds.ensures; count = ap length c.list-binds.ensures; join = join-start c.list-binds.ensures; binding = bound-start bind_tree c.list-binds.result.items c.list-binds.ensures }

pub loop-i-preserved : goal.loop-i-preserved
loop-i-preserved c = record {
  read = row-push c.in_ok-push.ensures.items c.loop-i.invariant.read (bind-form c.in_ok-pats.pats.items c.in_ok-rest.rest c.in_ok-channel.ensures.reads c.in_ok-pats.ensures.reads c.in_ok-rest.ensures.is);
  count = count-push _ _ c.in_ok-push.ensures.items c.loop-i.invariant.count;
  join = join-push _ c.in_ok-push.ensures.items c.loop-i.invariant.join (c.in_ok-last.ensures.code _ c.in_ok-channel.ensures.reads.is) c.in_ok-last.ensures.up;
  binding = bound-push bind_tree _ _ (senses_of c.args.found.now.items) c.in_ok-push.ensures.items c.loop-i.invariant.binding
      (c.in_ok-rest.ensures.bound ∙ ap (λ vs. vs ++ bound (leaf (rest c.in_ok-rest.rest))) c.in_ok-pats.ensures.bound
      ∙ append_assoc (senses_of c.loop-i.found.items) (bound (many row c.in_ok-pats.pats.items)) (bound (leaf (rest c.in_ok-rest.rest)))
      ∙ ap (λ vs. senses_of c.loop-i.found.items ++ vs) (sym (bind-bound c.in_ok-pats.pats.items c.in_ok-rest.rest c.in_ok-channel.ensures.reads)));
}

pub returns-clause-reads : goal.returns-clause-reads
returns-clause-reads c = row-done c.in_ok-count.count c.args.reader.now.input.now c.loop-i.invariant.read (omega (arith, c.loop-i.invariant.count, c.loop-i.auto._i-end)) c.in_ok-count.ensures.is

pub returns-clause-bound : goal.returns-clause-bound
returns-clause-bound c = c.loop-i.invariant.binding

pub returns-clause-some : goal.returns-clause-some
returns-clause-some c = omega (arith, c.in_ok-count.ensures.least, c.loop-i.invariant.count, c.loop-i.auto._i-end)

pub returns-clause-few : goal.returns-clause-few
returns-clause-few c = omega (arith, c.in_ok-count.ensures.most, c.loop-i.invariant.count, c.loop-i.auto._i-end)

pub returns-clause-ascending : goal.returns-clause-ascending
returns-clause-ascending c = subst IsAscending (join-codes c.loop-i.binds.items) c.loop-i.invariant.join.up

pub returns-in_err-count-clause-refuses : goal.returns-in_err-count-clause-refuses
returns-in_err-count-clause-refuses c = exit _ _ _ c.from_residual.ensures.1 (number-join c.in_err-count.ensures.refuses)

pub returns-in_err-check_order-clause-refuses : goal.returns-in_err-check_order-clause-refuses
returns-in_err-check_order-clause-refuses c = exit _ _ _ c.from_residual-in_err-check_order.ensures.1 (join-low c.in_ok-count.count _ c.loop-i.invariant.read c.loop-i.invariant.join c.in_ok-count.ensures.is (omega arith) (omega (arith, c.loop-i.invariant.count)) c.in_err-check_order.ensures.refuses)

pub returns-in_err-channel-clause-refuses : goal.returns-in_err-channel-clause-refuses
returns-in_err-channel-clause-refuses c = exit _ _ _ c.from_residual-in_err-channel.ensures.1 (join-refused c.in_ok-count.count _ c.loop-i.invariant.read c.loop-i.invariant.join c.in_ok-count.ensures.is (omega arith) (omega (arith, c.loop-i.invariant.count)) (bind-channel c.in_err-channel.ensures.refuses))

pub returns-in_err-last-clause-refuses : goal.returns-in_err-last-clause-refuses
returns-in_err-last-clause-refuses c = exit _ _ _ c.from_residual-in_err-last.ensures.1 (join-lower c.in_ok-count.count _ c.loop-i.invariant.read c.loop-i.invariant.join c.in_ok-count.ensures.is (omega arith) (omega (arith, c.loop-i.invariant.count)) c.in_ok-channel.ensures.reads c.in_err-last.ensures.down)

pub returns-in_err-pats-clause-refuses : goal.returns-in_err-pats-clause-refuses
returns-in_err-pats-clause-refuses c = exit _ _ _ c.from_residual-in_err-pats.ensures.1 (join-refused c.in_ok-count.count _ c.loop-i.invariant.read c.loop-i.invariant.join c.in_ok-count.ensures.is (omega arith) (omega (arith, c.loop-i.invariant.count)) (bind-patterns c.in_ok-channel.ensures.reads c.in_err-pats.ensures.refuses))

pub returns-in_err-rest-clause-refuses : goal.returns-in_err-rest-clause-refuses
returns-in_err-rest-clause-refuses c = exit _ _ _ c.from_residual-in_err-rest.ensures.1 (join-refused c.in_ok-count.count _ c.loop-i.invariant.read c.loop-i.invariant.join c.in_ok-count.ensures.is (omega arith) (omega (arith, c.loop-i.invariant.count)) (bind-rest c.in_ok-channel.ensures.reads c.in_ok-pats.ensures.reads c.in_err-rest.ensures.refuses))

pub returns-in_err-push-clause-refuses : goal.returns-in_err-push-clause-refuses
returns-in_err-push-clause-refuses c = exit _ _ _ c.from_residual-in_err-push.ensures.1 memory-join

pub returns-in_err-count-clause-begun : goal.returns-in_err-count-clause-begun
returns-in_err-count-clause-begun c = exit _ _ _ c.from_residual.ensures.1 (cut-where _ (λ s. c.in_err-count.ensures.begun s (omega arith)) (λ g. number-join_begun g))

pub returns-in_err-check_order-clause-begun : goal.returns-in_err-check_order-clause-begun
returns-in_err-check_order-clause-begun c = exit _ _ _ c.from_residual-in_err-check_order.ensures.1 (cut-told _ _ c.in_err-check_order.ensures.place)

pub returns-in_err-channel-clause-begun : goal.returns-in_err-channel-clause-begun
returns-in_err-channel-clause-begun c = exit _ _ _ c.from_residual-in_err-channel.ensures.1 (cut-where _ c.in_err-channel.ensures.begun (λ g.
    join-channel_begun c.in_ok-count.count c.loop-i.invariant.read c.loop-i.invariant.join c.in_ok-count.ensures.is (omega (arith, c.loop-i.invariant.count)) c.in_ok-count.ensures.most c.in_ok-check_order.ensures.follows g))

pub returns-in_err-last-clause-begun : goal.returns-in_err-last-clause-begun
returns-in_err-last-clause-begun c = exit _ _ _ c.from_residual-in_err-last.ensures.1 (cut-told _ _ c.in_err-last.ensures.place)

pub returns-in_err-pats-clause-begun : goal.returns-in_err-pats-clause-begun
returns-in_err-pats-clause-begun c = exit _ _ _ c.from_residual-in_err-pats.ensures.1 (cut-where _ c.in_err-pats.ensures.begun (λ g.
    join-patterns_begun c.in_ok-count.count c.loop-i.invariant.read c.loop-i.invariant.join c.in_ok-count.ensures.is (omega (arith, c.loop-i.invariant.count)) c.in_ok-count.ensures.most c.in_ok-channel.ensures.reads
    (c.in_ok-last.ensures.code _ c.in_ok-channel.ensures.reads.is) c.in_ok-last.ensures.up g))

pub returns-in_err-rest-clause-begun : goal.returns-in_err-rest-clause-begun
returns-in_err-rest-clause-begun c = exit _ _ _ c.from_residual-in_err-rest.ensures.1 (cut-here _ c.in_err-rest.ensures.place (λ z.
    join-rest_begun c.in_ok-count.count c.loop-i.invariant.read c.loop-i.invariant.join c.in_ok-count.ensures.is (omega (arith, c.loop-i.invariant.count)) c.in_ok-count.ensures.most c.in_ok-channel.ensures.reads
    (c.in_ok-last.ensures.code _ c.in_ok-channel.ensures.reads.is) c.in_ok-last.ensures.up c.in_ok-pats.ensures.reads z))

pub returns-in_err-push-clause-begun : goal.returns-in_err-push-clause-begun
returns-in_err-push-clause-begun c = exit _ _ _ c.from_residual-in_err-push.ensures.1 tt
