use Rattle.std.proofs.Common.{ap, sym, ◌∙◌, arith}
use Rattle.std.specs.Int.{w64, from_be_bytes}
use Rattle.std.proofs.lemmas.Nat.{be_bytes_8}
use Rattle.calculus.proofs.BytesLemmas.{to_be_bytes-be64}
use Rattle.code_fields.proofs.fields.number_of.Goals as goal

pub returns : goal.returns
returns c =
    let n = c.from_be_bytes.result in
    sym (be_bytes_8 c.args.bytes.now n (omega arith) (λ i. omega (arith, c.type_inv.bytes i)) (c.from_be_bytes.ensures ∙ ap (from_be_bytes w64) c.copy_from_slice.ensures.after)) ∙ to_be_bytes-be64 n (omega arith)
