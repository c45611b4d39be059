use Rattle.std.proofs.Common.{sym, subst, length}
use Rattle.calculus.specs.Meaning.{proc_written}
use Rattle.tokens.specs.Token.{source}
use Rattle.tokens.specs.Reading.{HasTokens}
use Rattle.rho_lexer.specs.Meaning.{spanned_tokens}
use Rattle.rho_parser.specs.Parsed.{AreOfText}
use Rattle.sources.proofs.Fronts.{reads, refuses}
use Rattle.sources.proofs.reading.read_process.Goals as goal

pub returns-in-Ok-parse-clause-spelt : goal.returns-in-Ok-parse-clause-spelt
returns-in-Ok-parse-clause-spelt c =
    let text = c.args.text.now in
    let t : HasTokens source text (spanned_tokens c.as_slice.result.now) = subst (λ ts. HasTokens source text (spanned_tokens ts)) (sym c.as_slice.ensures.value) c.in-Ok.ensures.tokens in
    reads text c.as_slice.result.now (proc_written c.in-Ok-parse.process) t c.in-Ok-parse.ensures.found

pub returns-clause-refused : goal.returns-clause-refused
returns-clause-refused c =
    let text = c.args.text.now in
    let t : HasTokens source text (spanned_tokens c.as_slice.result.now) = subst (λ ts. HasTokens source text (spanned_tokens ts)) (sym c.as_slice.ensures.value) c.in-Ok.ensures.tokens in
    refuses text c.as_slice.result.now c.in-Err-parse.fault t c.in-Err-parse.ensures.refused

pub parse-requires : goal.parse-requires
parse-requires c =
    let text = c.args.text.now in
    subst AreOfText (sym c.as_slice.ensures.value) (length text, c.in-Ok.ensures.order)
