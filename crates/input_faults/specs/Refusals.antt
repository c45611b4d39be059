-- What a source is refused for, and which faults say so.
use Rattle.std.specs.Prelude.{ℕ, Option, Some, None, option_map}
use Rattle.tokens.specs.Token as tokens
use Rattle.rho_lexer.specs.Meaning as lexer
use Rattle.scope.specs.Rules.{Broken}
use Rattle.input_faults.specs.Faults.{broken_rule}
use Rattle.input_faults.specs.declared.parse_fault.ParseFault.{ParseFault}
use Rattle.input_faults.specs.declared.parse_fault.ParseFault.TheVariants as grammatical
use Rattle.input_faults.specs.declared.source_fault.SourceFault.{SourceFault}
use Rattle.input_faults.specs.declared.source_fault.SourceFault.TheVariants as faults

-- why a text is refused: it has no tokens, it passes the height at a place, it is no text of the grammar, which shows at a place, or the process that it spells breaks a rule of scope first of all
pub data Refusal : Type 0 where
  no_tokens : tokens.Refusal → Refusal
  too_deep : ℕ → Refusal
  ill_formed : ℕ → Refusal
  out_of_scope : Broken → Refusal

-- the refusal that a fault of the parser is, unless memory ran out
abbrev pub parse_refusal : ParseFault → Option Refusal
parse_refusal (grammatical.TooDeep at) = Some (too_deep at)
parse_refusal (grammatical.Syntax at) = Some (ill_formed at)
parse_refusal grammatical.NoMemory = None

-- the refusal that a fault is, unless memory ran out
abbrev pub refusal_of : SourceFault → Option Refusal
refusal_of (faults.Lex e) = option_map no_tokens (lexer.refusal_of e)
refusal_of (faults.Parse e) = parse_refusal e
refusal_of (faults.Scope e) = option_map out_of_scope (broken_rule e)
