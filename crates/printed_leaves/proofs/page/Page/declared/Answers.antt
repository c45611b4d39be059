use Rattle.std.proofs.Common.{arith, sym}
use Rattle.printed_leaves.proofs.Declared.{name_taken, names_start, name_more, names_end}
use Rattle.printed_leaves.proofs.Forms.{shown}
use Rattle.printed_leaves.proofs.page.Page.declared.Goals as goal

pub loop-i-init : goal.loop-i-init
loop-i-init c = λ h. (h, omega arith, names_start c.args.names.now c.args.depth _)

pub loop-i-preserved : goal.loop-i-preserved
loop-i-preserved c = λ h.
    let r = c.word.ensures h in
    let q = c.new_variable-next.ensures r.0 in
    let p = c.separate.ensures q.0 in
    let w = c.loop-i.invariant p.0 in (
      w.0,
      omega (arith, q.1.1, w.1),
      name_more c.args.names.now c.loop-i.i c.loop-i.next _ _ _ _ _ _ _ (name_taken c.args.names.now c.loop-i.i c.loop-i-test.true)
          p.1 q.1 (shown _ (sym c.uri_after.ensures) r.1) w.2,
    )

pub returns : goal.returns
returns c = λ h.
    let w = c.loop-i.invariant h in
    (w.0, (names_end c.args.names.now c.loop-i.i c.loop-i.next _ _ c.loop-i-test.false w.2, omega (arith, w.1)))
