use Rattle.std.proofs.Common.{◌∙◌, length, sym, ap, not}
use Rattle.std.specs.Prelude.{nat_eq}
use Rattle.std.proofs.lemmas.Str.{utf8_valid_len-IsUtf8}
use Rattle.rho_lexer.proofs.quoted.begins_character.Goals as goal

pub returns-in-Ok : goal.returns-in-Ok
returns-in-Ok c = ap (λ n. not (nat_eq n 0)) (ap length c.in-Ok.ensures.cases.0 ∙ sym (utf8_valid_len-IsUtf8 c.args.bytes.now c.in-Ok.ensures.cases.1))
