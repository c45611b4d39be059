use Rattle.std.proofs.Common.{⊎_elim, sym, ◌∙◌, arith}
use Rattle.code_faults.proofs.Decoding.{only-memory_at_end, cut-answer, cut-unread, none-past, begun-only, begun-until, deep-begun, further, err-same, err-either, told-same}
use Rattle.code_faults.proofs.BegunMore.{begun-unscoped}
use Rattle.code_faults.proofs.Places.{goes-on}
use Rattle.code_faults.proofs.Scoped.{refuses-unscoped, reads-unscoped}
use Rattle.code_faults.proofs.BlamedParts.{wrong-unscoped}
use Rattle.code_faults.proofs.BlamedWhole.{place-told, deep-told, further-byte}
use Rattle.term_code.proofs.decode.decode_term.Goals as goal

pub returns-in-Err-clause-all : goal.returns-in-Err-clause-all
returns-in-Err-clause-all c = λ t r e. c.at_end.ensures ∙ only-memory_at_end t c.args.bytes.now _ c.in-Err.fault (refuses-unscoped c.new-scope.ensures.items c.in-Err.ensures.refuses) r e

pub returns-in-Err-clause-wrong : goal.returns-in-Err-clause-wrong
returns-in-Err-clause-wrong c = λ at few h. place-told c.args.bytes.now c.in-Err.fault c.at_end.result at _ c.at_end.ensures (omega arith) (wrong-unscoped c.new-scope.ensures.items c.in-Err.ensures.wrong) few h

pub returns-in-Err-clause-deep : goal.returns-in-Err-clause-deep
returns-in-Err-clause-deep c = λ at few h. deep-told c.args.bytes.now c.in-Err.fault c.at_end.result at _ c.at_end.ensures (omega arith) (wrong-unscoped c.new-scope.ensures.items c.in-Err.ensures.wrong) few h

pub returns-then-not-is_empty-clause-wrong : goal.returns-then-not-is_empty-clause-wrong
returns-then-not-is_empty-clause-wrong c = λ at few h. further-byte c.in-Ok.term c.args.bytes.now _ _ at (reads-unscoped c.new-scope.ensures.items c.in-Ok.ensures.reads) (grind (arith, c.is_empty.ensures, c.if-not-is_empty.true)) (omega arith) few h

pub returns-in-Err-clause-cut : goal.returns-in-Err-clause-cut
returns-in-Err-clause-cut c = λ h. cut-answer c.args.bytes.now c.in-Err.fault c.at_end.result _ c.at_end.ensures (refuses-unscoped c.new-scope.ensures.items c.in-Err.ensures.refuses) h (omega arith)

pub returns-then-not-is_empty-clause-all : goal.returns-then-not-is_empty-clause-all
returns-then-not-is_empty-clause-all c = λ t r e. absurd (none-past t c.in-Ok.term c.args.bytes.now _ (reads-unscoped c.new-scope.ensures.items c.in-Ok.ensures.reads) r e (grind (arith, c.is_empty.ensures, c.if-not-is_empty.true)))

pub returns-then-not-is_empty-clause-cut : goal.returns-then-not-is_empty-clause-cut
returns-then-not-is_empty-clause-cut c = λ h. absurd (cut-unread c.in-Ok.term c.args.bytes.now _ (reads-unscoped c.new-scope.ensures.items c.in-Ok.ensures.reads) h)

pub returns-clause-cut : goal.returns-clause-cut
returns-clause-cut c = λ h. cut-unread c.in-Ok.term c.args.bytes.now _ (reads-unscoped c.new-scope.ensures.items c.in-Ok.ensures.reads) h

pub returns-in-Err-clause-begun : goal.returns-in-Err-clause-begun
returns-in-Err-clause-begun c = λ at q. begun-only c.args.bytes.now c.in-Err.fault _ at (λ s. goes-on (c.in-Err.ensures.begun s) (λ z g. begun-unscoped c.new-scope.ensures.items g)) (sym c.at_end.ensures ∙ err-same q)

pub returns-in-Err-clause-goes : goal.returns-in-Err-clause-goes
returns-in-Err-clause-goes c = λ at q. begun-until c.args.bytes.now c.in-Err.fault _ at (omega arith) (wrong-unscoped c.new-scope.ensures.items c.in-Err.ensures.wrong) (λ s. goes-on (c.in-Err.ensures.begun s) (λ z g. begun-unscoped c.new-scope.ensures.items g)) (told-same c.at_end.ensures (err-either q))

pub returns-in-Err-clause-under : goal.returns-in-Err-clause-under
returns-in-Err-clause-under c = λ at q. deep-begun c.args.bytes.now c.in-Err.fault _ at (omega arith) (λ s. goes-on (c.in-Err.ensures.begun s) (λ z g. begun-unscoped c.new-scope.ensures.items g)) (sym c.at_end.ensures ∙ err-same q)

pub returns-then-not-is_empty-clause-begun : goal.returns-then-not-is_empty-clause-begun
returns-then-not-is_empty-clause-begun c = λ at q. absurd (cc)

pub returns-then-not-is_empty-clause-goes : goal.returns-then-not-is_empty-clause-goes
returns-then-not-is_empty-clause-goes c = λ at q. further c.in-Ok.term c.args.bytes.now _ _ at (reads-unscoped c.new-scope.ensures.items c.in-Ok.ensures.reads) (omega arith) (err-either q)

pub returns-clause-goes : goal.returns-clause-goes
returns-clause-goes c = λ at q. ⊎_elim (λ e. absurd (cc)) (λ e. absurd (cc)) q
