use Rattle.std.proofs.Common.{◌≡◌, take, sym, ◌∙◌, arith, ap}
use Rattle.std.specs.Prelude.{true}
use Rattle.std.specs.Ordering.{is_le}
use Rattle.std.specs.declared.cmp.Ordering.TheVariants.{Greater}
use Rattle.calculus.specs.Order.{byte_cmp}
use Rattle.std.specs.Prelude.{◌==◌}
use Rattle.std.specs.Ordering.{ordering_index}
use Rattle.code_faults.proofs.Kids.{no_false}
use Rattle.code_faults.proofs.BegunRows.{follows}
use Rattle.code_faults.proofs.Cut.{fallen, greater_is}
use Rattle.code_faults.proofs.Reaching.{reaching, not_greater}
use Rattle.code_fields.proofs.reader.check_order.Goals as goal

pub returns-then-eq-clause-refuses : goal.returns-then-eq-clause-refuses
returns-then-eq-clause-refuses c = λ code u.
    let k = c.min-both.result in
    let g : byte_cmp (take k c.args.last.now) (take k c.args.bytes.now) ≡ Greater =
    rw (← c.front.ensures.is, ← c.front-2.ensures.is) (sym c.cmp.ensures ∙ greater_is c.cmp.result (sym c.eq.ensures ∙ c.if-eq.true)) in
    fallen k c.args.last.now c.args.bytes.now code (omega arith) (omega arith) g u

pub returns-clause-up : goal.returns-clause-up
returns-clause-up c =
    let k = c.min-both.result in
    let o : is_le (byte_cmp (take k c.args.last.now) (take k c.args.bytes.now)) ≡ true =
    rw (← c.front.ensures.is, ← c.front-2.ensures.is) (rw (← c.cmp.ensures) (not_greater c.cmp.result (sym c.eq.ensures ∙ c.if-eq.false))) in
    reaching k c.args.last.now c.args.bytes.now (omega arith) (omega arith) (λ s t. omega (arith, s, t)) o

pub returns-clause-follows : goal.returns-clause-follows
returns-clause-follows c =
    let k = c.min-both.result in
    follows k c.args.last.now c.args.bytes.now (omega arith) (omega arith) (λ p q. omega (arith, p, q))
    (λ w.
    let g : byte_cmp c.front.result.now c.front-2.result.now ≡ Greater = rw (c.front.ensures.is, c.front-2.ensures.is) w in
    no_false (sym (c.eq.ensures ∙ ap (λ o. ordering_index o == 2) (c.cmp.ensures ∙ g)) ∙ c.if-eq.false))
