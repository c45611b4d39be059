use Rattle.std.proofs.Common.{◌<◌, arith}
use Rattle.std.proofs.lemmas.List.Elements.{All-take}
use Rattle.code_faults.proofs.Numbers.{are_bytes}
use Rattle.code_fields.proofs.reader.front.Goals as goal

pub returns-clause-bytes : goal.returns-clause-bytes
returns-clause-bytes c = All-take (λ b. b < 256) c.args.n c.args.bytes.now (are_bytes c.args.bytes.now (λ i. omega (arith, c.type_inv.bytes i)))
