use Rattle.std.proofs.Common.{sym, ap, ◌∙◌, ◌+◌, map, drop, length, arith}
use Rattle.std.specs.Ordering.{ordering_then}
use Rattle.calculus.specs.Kinds.{origin_number}
use Rattle.calculus.specs.declared.plain.Origin.TheVariants as origins
use Rattle.calculus.specs.Order.{byte_cmp}
use Rattle.term_order.proofs.Comparing.{decided, undecided, numbers_decided, numbers_undecided, equal_numbers, cmp-drop, cmp-ended}
use Rattle.term_order.proofs.ground.origins_order.Goals as goal

pub returns-then-is_ne : goal.returns-then-is_ne
returns-then-is_ne c = numbers_decided origin_number c.args.xs.now c.args.ys.now c.cmp-by_length.result c.cmp-by_length.ensures (sym c.is_ne.ensures ∙ c.if-is_ne.true)

pub returns-then-is_ne-2 : goal.returns-then-is_ne-2
returns-then-is_ne-2 c =
    let xs = c.args.xs.now in
    let ys = c.args.ys.now in
    let i = c.loop-i.i in
    let o = c.cmp-by_length.result in
    let n = sym c.is_ne.ensures ∙ c.if-is_ne.false in
    let e = equal_numbers (length xs) (length ys) o c.cmp-by_length.ensures n in
    let p = c.origin_order-order.result in
    let next = byte_cmp (map origin_number (drop (i + 1) xs)) (map origin_number (drop (i + 1) ys)) in
    let m = cmp-drop origin_number xs ys i origins.Plain origins.Plain c.loop-i-test.true (omega arith) in
    let r = decided p next (sym c.is_ne-in-loop-i.ensures ∙ c.if-is_ne-2.true) ∙ ap (λ q. ordering_then q next) c.origin_order-order.ensures ∙ sym m in
    numbers_undecided origin_number xs ys o c.cmp-by_length.ensures p n (r ∙ sym c.loop-i.invariant)

pub loop-i-preserved : goal.loop-i-preserved
loop-i-preserved c =
    let xs = c.args.xs.now in
    let ys = c.args.ys.now in
    let i = c.loop-i.i in
    let n = sym c.is_ne.ensures ∙ c.if-is_ne.false in
    let e = equal_numbers (length xs) (length ys) c.cmp-by_length.result c.cmp-by_length.ensures n in
    let p = c.origin_order-order.result in
    let next = byte_cmp (map origin_number (drop (i + 1) xs)) (map origin_number (drop (i + 1) ys)) in
    let m = cmp-drop origin_number xs ys i origins.Plain origins.Plain c.loop-i-test.true (omega arith) in
    let r = undecided p next (sym c.is_ne-in-loop-i.ensures ∙ c.if-is_ne-2.false) ∙ ap (λ q. ordering_then q next) c.origin_order-order.ensures ∙ sym m in
    c.loop-i.invariant ∙ sym r

pub returns : goal.returns
returns c =
    let xs = c.args.xs.now in
    let ys = c.args.ys.now in
    let o = c.cmp-by_length.result in
    let n = sym c.is_ne.ensures ∙ c.if-is_ne.false in
    let e = equal_numbers (length xs) (length ys) o c.cmp-by_length.ensures n in
    let r = cmp-ended origin_number xs ys c.loop-i.i c.loop-i-test.false (omega arith) in
    numbers_undecided origin_number xs ys o c.cmp-by_length.ensures _ n (r ∙ sym c.loop-i.invariant)
