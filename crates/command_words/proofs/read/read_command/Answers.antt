use Rattle.std.proofs.Common.{map, string_bytes}
use Rattle.command_words.specs.Answers.{given_in}
use Rattle.command_words.proofs.Answering.{asked_is_answer, plain_is_answered, refused_is_answer}
use Rattle.command_words.proofs.read.read_command.Goals as goal

pub returns : goal.returns
returns c =
    let words = map string_bytes c.args.words.now in
    let found = c.in_ok-matches.ensures.found in
    let exact = asked_is_answer words (given_in c.in_ok-matches.matches) c.command_of.result found.0 found.1 c.command_of.ensures in
    record { exact = exact; plain = plain_is_answered c.command_of.result words exact }

pub returns-in_err-matches-clause-plain : goal.returns-in_err-matches-clause-plain
returns-in_err-matches-clause-plain c =
    let words = map string_bytes c.args.words.now in
    plain_is_answered c.from_residual.result words (refused_is_answer words c.from_residual.result c.in_err-matches.field-0.0 c.from_residual.ensures.1 c.in_err-matches.ensures.refused)
