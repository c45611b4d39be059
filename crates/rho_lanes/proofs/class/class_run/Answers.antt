use Rattle.std.proofs.Common.{◌≡◌, false, length, sym, ◌∙◌, arith}
use Rattle.rho_lanes.proofs.Runs.{longest_to, one_longest}
use Rattle.rho_lanes.proofs.class.class_run.Goals as goal

pub returns-then-not-is_in : goal.returns-then-not-is_in
returns-then-not-is_in c =
    let no : c.is_in.result ≡ false = search c.if-not-is_in.true in
    let it = longest_to c.args.class c.args.bytes.now c.args.from c.loop-i.i (omega arith) (omega arith) c.loop-i.invariant (λ _. sym c.is_in.ensures ∙ no) in
    record { longest = it; only = λ n h. one_longest c.args.class c.args.bytes.now c.args.from n _ h it }

pub returns : goal.returns
returns c =
    let it = longest_to c.args.class c.args.bytes.now c.args.from (length c.args.bytes.now) (omega arith) (omega arith)
    (λ k low high. c.loop-i.invariant k low (omega arith)) (λ h. absurd (omega arith)) in
    record { longest = it; only = λ n h. one_longest c.args.class c.args.bytes.now c.args.from n _ h it }
