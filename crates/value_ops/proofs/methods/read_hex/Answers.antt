use Rattle.std.proofs.Common.{◌≡◌, Ok, Err, List, ℕ, ◌⊎◌, sym, ap, subst}
use Rattle.hex.specs.Hex.{decode_of}
use Rattle.hex.specs.declared.error.FromHexError.TheVariants.{OutOfMemory}
use Rattle.calculus.specs.Methods.{hex_answer}
use Rattle.calculus.specs.Texts.{from_hex}
use Rattle.value_ops.specs.Answers.{AnswersGround}
use Rattle.value_ops.proofs.Hexadecimal.{spelled, hex_stops}
use Rattle.value_ops.proofs.methods.read_hex.Goals as goal

pub returns-in-Ok : goal.returns-in-Ok
returns-in-Ok c =
    let h : decode_of c.args.text.now ≡ Ok c.in-Ok.bytes.items = subst (λ (s : List ℕ). decode_of s ≡ Ok c.in-Ok.bytes.items) c.as_bytes.ensures.value c.in-Ok.ensures.ok in
    spelled c.args.text.now c.in-Ok.bytes.items h

pub returns-in-Err : goal.returns-in-Err
returns-in-Err c =
    let h : (c.in-Err.error ≡ OutOfMemory) ⊎ (decode_of c.args.text.now ≡ Err c.in-Err.error) = subst (λ (s : List ℕ). (c.in-Err.error ≡ OutOfMemory) ⊎ (decode_of s ≡ Err c.in-Err.error)) c.as_bytes.ensures.value c.in-Err.ensures.err in
    subst (λ e. AnswersGround (hex_answer (from_hex c.args.text.now)) (Err e)) (sym c.stop_of.ensures) (hex_stops c.args.text.now c.in-Err.error h)
