-- Worked examples: where a bound on the height is passed, and where a text ends.
use Rattle.std.specs.Prelude.{List, [], ◌∷◌, codes, drop as leave}
use Rattle.tokens.specs.Token.{source, printed, Token, word, key, sign, integer, fresh_name, end_of_text}
use Rattle.grammar.specs.declared.dialect.Dialect.TheVariants.{Tutorial}
use Rattle.grammar.specs.declared.fault.Fault.TheVariants.{TooDeep}
use Rattle.grammar.specs.Descent.{Descends, fault}
use Rattle.grammar.specs.GrammarExamples.{blocks}
use Rattle.grammar.specs.Terminals.{terminals}
use Rattle.grammar.specs.Places.{PassesAt, EndsAt}

-- 201 blocks inside each other: the innermost
abbrev pub InnermostBlock : Type 0
InnermostBlock = PassesAt source Tutorial 200 (blocks 201) 200

-- x!(1), where nothing may be opened: the `!`, since x alone is a process
abbrev pub SendPasses : Type 0
SendPasses = PassesAt source Tutorial 0 (word (codes "x") ∷ sign (codes "!") ∷ sign (codes "(") ∷ integer 1 ∷ sign (codes ")") ∷ end_of_text ∷ []) 1

-- @1!(1), where nothing may be opened: the `@`
abbrev pub QuotedSendPasses : Type 0
QuotedSendPasses = PassesAt source Tutorial 0 (sign (codes "@") ∷ integer 1 ∷ sign (codes "!") ∷ sign (codes "(") ∷ integer 1 ∷ sign (codes ")") ∷ end_of_text ∷ []) 0

-- 1 + 2 + 3, where one form may be opened: the second `+`
abbrev pub SecondSumPasses : Type 0
SecondSumPasses = PassesAt source Tutorial 1 (integer 1 ∷ sign (codes "+") ∷ integer 2 ∷ sign (codes "+") ∷ integer 3 ∷ end_of_text ∷ []) 3

-- - x, where nothing may be opened: the x, since an Int may follow the `-`
abbrev pub PrefixPasses : Type 0
PrefixPasses = PassesAt source Tutorial 0 (sign (codes "-") ∷ word (codes "x") ∷ end_of_text ∷ []) 1

-- *@1, where nothing may be opened: the `@`, since a word may follow the `*`
abbrev pub QuotedDropPasses : Type 0
QuotedDropPasses = PassesAt source Tutorial 0 (sign (codes "*") ∷ sign (codes "@") ∷ integer 1 ∷ end_of_text ∷ []) 1

-- a send on the fresh name 01
abbrev pub name_send : List Token
name_send = fresh_name (codes "01") ∷ sign (codes "!") ∷ sign (codes "(") ∷ sign (codes ")") ∷ end_of_text ∷ []

-- where nothing may be opened: the name, since it begins nothing but a send
abbrev pub NamePasses : Type 0
NamePasses = PassesAt printed Tutorial 0 name_send 0

-- but descent stops at the `!`
abbrev pub NameStops : Type 0
NameStops = Descends printed Tutorial 0 name_send (fault TooDeep (leave 1 (terminals printed name_send)))

-- 1 | | 2: the second `|`
abbrev pub TwoBars : Type 0
TwoBars = EndsAt source Tutorial 200 (integer 1 ∷ sign (codes "|") ∷ sign (codes "|") ∷ integer 2 ∷ end_of_text ∷ []) 2

-- x!(1: the end
abbrev pub OpenSend : Type 0
OpenSend = EndsAt source Tutorial 200 (word (codes "x") ∷ sign (codes "!") ∷ sign (codes "(") ∷ integer 1 ∷ end_of_text ∷ []) 4

-- 1 2: the 2
abbrev pub TwoNumbers : Type 0
TwoNumbers = EndsAt source Tutorial 200 (integer 1 ∷ integer 2 ∷ end_of_text ∷ []) 1

-- match 1 { -1 => Nil }: the `-`
abbrev pub CaseOfMinus : Type 0
CaseOfMinus = EndsAt source Tutorial 200 (key (codes "match") ∷ integer 1 ∷ sign (codes "{") ∷ sign (codes "-") ∷ integer 1 ∷ sign (codes "=>") ∷ key (codes "Nil") ∷ sign (codes "}") ∷ end_of_text ∷ []) 3
