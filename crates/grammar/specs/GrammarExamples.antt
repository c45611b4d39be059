-- Worked examples: texts as tokens, the process that they spell, and the height of the text.
use Rattle.std.specs.Prelude.{ℕ, drop as leave, true, false, List, [], ◌∷◌, ◌++◌, None, Some, pos, neg_ℤ, replicate, codes}
use Rattle.calculus.specs.Meaning.{row_of}
use Rattle.calculus.specs.Tree.{par, bool, int, str, bytes, fresh, tuple, dict, pair, send, receive, bind, match, case, unary, binary, method, rest, same, list_pattern}
use Rattle.calculus.specs.Written.{in_process, in_pattern, around, use_name, drop, quote, declare, bind_process, bind_name, bind_rest, quote_pattern, closed, Written, bare_form, form_of_one, form_of_two, form_of_three, form_of}
use Rattle.calculus.specs.declared.plain.BinaryOp.TheVariants as operators
use Rattle.calculus.specs.declared.plain.Kind.TheVariants as kinds
use Rattle.calculus.specs.declared.plain.TermRest.TheVariants as rests
use Rattle.calculus.specs.declared.plain.UnaryOp.TheVariants as unaries
use Rattle.tokens.specs.Token.{source, printed, Token, word, key, sign, integer, string, uri, fresh_name, byte_array, end_of_text}
use Rattle.grammar.specs.declared.dialect.Dialect.TheVariants.{Tutorial}
use Rattle.grammar.specs.declared.fault.Fault.{Fault}
use Rattle.grammar.specs.declared.fault.Fault.TheVariants.{Syntax, TooDeep}
use Rattle.grammar.specs.Descent.{fault, Descends}
use Rattle.grammar.specs.Spells.{Spells, SpellsNothing}
use Rattle.grammar.specs.Terminals.{terminals}

-- an Int as a process
abbrev pub num : ℕ → Written
num n = bare_form (in_process (int (pos n)))

-- descent that may open so many forms stops for this fault at the token of this number, counted from 0
abbrev pub StopsAt : ℕ → Fault → ℕ → List Token → Type 0
StopsAt free cause at tokens = Descends source Tutorial free tokens (fault cause (leave at (terminals source tokens)))

-- the source spells nothing, and descent stops for a fault of syntax at the token of this number
abbrev pub Refuses : ℕ → List Token → Type 0
Refuses at tokens = StopsAt 200 Syntax at tokens × SpellsNothing source Tutorial tokens

-- x!(1)
abbrev pub SendsOne : Type 0
SendsOne =
    Spells source Tutorial (word (codes "x") ∷ sign (codes "!") ∷ sign (codes "(") ∷ integer 1 ∷ sign (codes ")") ∷ end_of_text ∷ [])
    (form_of_two (in_process (send false)) (bare_form (use_name (codes "x"))) (row_of ((num 1) ∷ []))) 1

-- 1 - 2 - 3
abbrev pub LeansLeft : Type 0
LeansLeft =
    Spells source Tutorial (integer 1 ∷ sign (codes "-") ∷ integer 2 ∷ sign (codes "-") ∷ integer 3 ∷ end_of_text ∷ [])
    (form_of_two (in_process (binary operators.Sub)) (form_of_two (in_process (binary operators.Sub)) (num 1) (num 2)) (num 3)) 2

-- not true and false or true
abbrev pub Tightness : Type 0
Tightness =
    Spells source Tutorial (key (codes "not") ∷ key (codes "true") ∷ key (codes "and") ∷ key (codes "false") ∷ key (codes "or") ∷ key (codes "true") ∷ end_of_text ∷ [])
    (form_of_two (in_process (binary operators.Or)) (form_of_two (in_process (binary operators.And)) (form_of_one (in_process (unary unaries.Not)) (bare_form (in_process (bool true)))) (bare_form (in_process (bool false)))) (bare_form (in_process (bool true)))) 3

-- - - 5
abbrev pub MinusOfMinus : Type 0
MinusOfMinus =
    Spells source Tutorial (sign (codes "-") ∷ sign (codes "-") ∷ integer 5 ∷ end_of_text ∷ [])
    (form_of_one (in_process (unary unaries.Neg)) (bare_form (in_process (int (neg_ℤ (pos 5)))))) 1

-- -9223372036854775808
abbrev pub LeastInt : Type 0
LeastInt =
    Spells source Tutorial (sign (codes "-") ∷ integer 9223372036854775808 ∷ end_of_text ∷ [])
    (bare_form (in_process (int (neg_ℤ (pos 9223372036854775808))))) 0

-- -1.foo()
abbrev pub CallOnMinusOne : Type 0
CallOnMinusOne =
    Spells source Tutorial (sign (codes "-") ∷ integer 1 ∷ sign (codes ".") ∷ word (codes "foo") ∷ sign (codes "(") ∷ sign (codes ")") ∷ end_of_text ∷ [])
    (form_of_two (in_process (method (codes "foo"))) (bare_form (in_process (int (neg_ℤ (pos 1))))) (row_of [])) 1

-- { }
abbrev pub EmptyMap : Type 0
EmptyMap =
    Spells source Tutorial (sign (codes "{") ∷ sign (codes "}") ∷ end_of_text ∷ [])
    (form_of (in_process dict) []) 1

-- {Nil}
abbrev pub Block : Type 0
Block =
    Spells source Tutorial (sign (codes "{") ∷ key (codes "Nil") ∷ sign (codes "}") ∷ end_of_text ∷ [])
    (form_of (in_process par) []) 1

-- {1: 2}
abbrev pub MapOfOne : Type 0
MapOfOne =
    Spells source Tutorial (sign (codes "{") ∷ integer 1 ∷ sign (codes ":") ∷ integer 2 ∷ sign (codes "}") ∷ end_of_text ∷ [])
    (form_of (in_process dict) (form_of_two (around pair) (num 1) (num 2) ∷ [])) 1

-- (1,)
abbrev pub TupleOfOne : Type 0
TupleOfOne =
    Spells source Tutorial (sign (codes "(") ∷ integer 1 ∷ sign (codes ",") ∷ sign (codes ")") ∷ end_of_text ∷ [])
    (form_of (in_process tuple) (num 1 ∷ [])) 1

-- (1 | 2) | 3
abbrev pub ParInPar : Type 0
ParInPar =
    Spells source Tutorial (sign (codes "(") ∷ integer 1 ∷ sign (codes "|") ∷ integer 2 ∷ sign (codes ")") ∷ sign (codes "|") ∷ integer 3 ∷ end_of_text ∷ [])
    (form_of (in_process par) ((form_of (in_process par) ((num 1) ∷ (num 2) ∷ [])) ∷ (num 3) ∷ [])) 1

-- *x
abbrev pub DropOfName : Type 0
DropOfName =
    Spells source Tutorial (sign (codes "*") ∷ word (codes "x") ∷ end_of_text ∷ [])
    (form_of_one drop (bare_form (use_name (codes "x")))) 0

-- *@1
abbrev pub DropOfQuote : Type 0
DropOfQuote =
    Spells source Tutorial (sign (codes "*") ∷ sign (codes "@") ∷ integer 1 ∷ end_of_text ∷ [])
    (form_of_one drop (form_of_one quote (num 1))) 1

-- if (true) 1
abbrev pub IfWithoutElse : Type 0
IfWithoutElse =
    Spells source Tutorial (key (codes "if") ∷ sign (codes "(") ∷ key (codes "true") ∷ sign (codes ")") ∷ integer 1 ∷ end_of_text ∷ [])
    (form_of_two (in_process match) (bare_form (in_process (bool true))) (row_of ((form_of_two (around case) (bare_form (in_pattern (bool true))) (num 1)) ∷ (form_of_two (around case) (bare_form (in_pattern (bool false))) (form_of (in_process par) [])) ∷ []))) 1

-- contract c(@x) = Nil
abbrev pub Contracts : Type 0
Contracts =
    Spells source Tutorial (key (codes "contract") ∷ word (codes "c") ∷ sign (codes "(") ∷ sign (codes "@") ∷ word (codes "x") ∷ sign (codes ")") ∷ sign (codes "=") ∷ key (codes "Nil") ∷ end_of_text ∷ [])
    (form_of_two (in_process (receive kinds.Persistent)) (row_of ((form_of_three (around bind) (bare_form (use_name (codes "c"))) (row_of ((form_of_one quote_pattern (bare_form (bind_process (codes "x")))) ∷ [])) (bare_form (around (rest rests.No)))) ∷ [])) (form_of (in_process par) [])) 1

-- for (x <- @1; y <- @2) { Nil }
abbrev pub JoinsTwo : Type 0
JoinsTwo =
    Spells source Tutorial (key (codes "for") ∷ sign (codes "(") ∷ word (codes "x") ∷ sign (codes "<-") ∷ sign (codes "@") ∷ integer 1 ∷ sign (codes ";") ∷ word (codes "y") ∷ sign (codes "<-") ∷ sign (codes "@") ∷ integer 2 ∷ sign (codes ")") ∷ sign (codes "{") ∷ key (codes "Nil") ∷ sign (codes "}") ∷ end_of_text ∷ [])
    (form_of_two (in_process (receive kinds.Linear)) (row_of ((form_of_three (around bind) (form_of_one quote (num 1)) (row_of ((bare_form (bind_name (codes "x"))) ∷ [])) (bare_form (around (rest rests.No)))) ∷ (form_of_three (around bind) (form_of_one quote (num 2)) (row_of ((bare_form (bind_name (codes "y"))) ∷ [])) (bare_form (around (rest rests.No)))) ∷ [])) (form_of (in_process par) [])) 1

-- for (@x, ...@r <<- @1) { Nil }
abbrev pub BindsRest : Type 0
BindsRest =
    Spells source Tutorial (key (codes "for") ∷ sign (codes "(") ∷ sign (codes "@") ∷ word (codes "x") ∷ sign (codes ",") ∷ sign (codes "...") ∷ sign (codes "@") ∷ word (codes "r") ∷ sign (codes "<<-") ∷ sign (codes "@") ∷ integer 1 ∷ sign (codes ")") ∷ sign (codes "{") ∷ key (codes "Nil") ∷ sign (codes "}") ∷ end_of_text ∷ [])
    (form_of_two (in_process (receive kinds.Peek)) (row_of ((form_of_three (around bind) (form_of_one quote (num 1)) (row_of ((form_of_one quote_pattern (bare_form (bind_process (codes "x")))) ∷ [])) (bare_form (bind_rest (codes "r")))) ∷ [])) (form_of (in_process par) [])) 1

-- match 1 { (-1) => Nil }
abbrev pub CaseOfMinusOne : Type 0
CaseOfMinusOne =
    Spells source Tutorial (key (codes "match") ∷ integer 1 ∷ sign (codes "{") ∷ sign (codes "(") ∷ sign (codes "-") ∷ integer 1 ∷ sign (codes ")") ∷ sign (codes "=>") ∷ key (codes "Nil") ∷ sign (codes "}") ∷ end_of_text ∷ [])
    (form_of_two (in_process match) (num 1) (row_of ((form_of_two (around case) (bare_form (in_pattern (int (neg_ℤ (pos 1))))) (form_of (in_process par) [])) ∷ []))) 2

-- for (@=*y <- @1) { Nil }
abbrev pub SameAsOutside : Type 0
SameAsOutside =
    Spells source Tutorial (key (codes "for") ∷ sign (codes "(") ∷ sign (codes "@") ∷ sign (codes "=") ∷ sign (codes "*") ∷ word (codes "y") ∷ sign (codes "<-") ∷ sign (codes "@") ∷ integer 1 ∷ sign (codes ")") ∷ sign (codes "{") ∷ key (codes "Nil") ∷ sign (codes "}") ∷ end_of_text ∷ [])
    (form_of_two (in_process (receive kinds.Linear)) (row_of ((form_of_three (around bind) (form_of_one quote (num 1)) (row_of ((form_of_one quote_pattern (form_of_one (in_pattern same) (form_of_one drop (bare_form (use_name (codes "y")))))) ∷ [])) (bare_form (around (rest rests.No)))) ∷ [])) (form_of (in_process par) [])) 2

-- for (@[x, 1 ...r] <- @1) { Nil }
abbrev pub ListPattern : Type 0
ListPattern =
    Spells source Tutorial (key (codes "for") ∷ sign (codes "(") ∷ sign (codes "@") ∷ sign (codes "[") ∷ word (codes "x") ∷ sign (codes ",") ∷ integer 1 ∷ sign (codes "...") ∷ word (codes "r") ∷ sign (codes "]") ∷ sign (codes "<-") ∷ sign (codes "@") ∷ integer 1 ∷ sign (codes ")") ∷ sign (codes "{") ∷ key (codes "Nil") ∷ sign (codes "}") ∷ end_of_text ∷ [])
    (form_of_two (in_process (receive kinds.Linear)) (row_of ((form_of_three (around bind) (form_of_one quote (num 1)) (row_of ((form_of_one quote_pattern (form_of_two (in_pattern list_pattern) (row_of ((bare_form (bind_process (codes "x"))) ∷ (bare_form (in_pattern (int (pos 1)))) ∷ [])) (bare_form (bind_rest (codes "r"))))) ∷ [])) (bare_form (around (rest rests.No)))) ∷ [])) (form_of (in_process par) [])) 2

-- for (@{new a in Nil} <- @1) { Nil }
abbrev pub ClosedPattern : Type 0
ClosedPattern =
    Spells source Tutorial (key (codes "for") ∷ sign (codes "(") ∷ sign (codes "@") ∷ sign (codes "{") ∷ key (codes "new") ∷ word (codes "a") ∷ key (codes "in") ∷ key (codes "Nil") ∷ sign (codes "}") ∷ sign (codes "<-") ∷ sign (codes "@") ∷ integer 1 ∷ sign (codes ")") ∷ sign (codes "{") ∷ key (codes "Nil") ∷ sign (codes "}") ∷ end_of_text ∷ [])
    (form_of_two (in_process (receive kinds.Linear)) (row_of ((form_of_three (around bind) (form_of_one quote (num 1)) (row_of ((form_of_one quote_pattern (form_of_one closed (form_of_one (declare ((codes "a", None) ∷ [])) (form_of (in_process par) [])))) ∷ [])) (bare_form (around (rest rests.No)))) ∷ [])) (form_of (in_process par) [])) 3

-- new x(`rho:io:stdout`) in x!("hi")
abbrev pub FixedName : Type 0
FixedName =
    Spells source Tutorial (key (codes "new") ∷ word (codes "x") ∷ sign (codes "(") ∷ uri (codes "rho:io:stdout") ∷ sign (codes ")") ∷ key (codes "in") ∷ word (codes "x") ∷ sign (codes "!") ∷ sign (codes "(") ∷ string (codes "hi") ∷ sign (codes ")") ∷ end_of_text ∷ [])
    (form_of_one (declare ((codes "x", Some (codes "rho:io:stdout")) ∷ [])) (form_of_two (in_process (send false)) (bare_form (use_name (codes "x"))) (row_of ((bare_form (in_process (str (codes "hi")))) ∷ [])))) 2

-- #0aff
abbrev pub PrintedBytes : Type 0
PrintedBytes =
    Spells printed Tutorial (byte_array (codes "0aff") ∷ end_of_text ∷ [])
    (bare_form (in_process (bytes (10 ∷ 255 ∷ [])))) 0

-- *$ and 64 zeros
abbrev pub PrintedName : Type 0
PrintedName =
    Spells printed Tutorial (sign (codes "*") ∷ fresh_name (replicate 64 48) ∷ end_of_text ∷ [])
    (form_of_one drop (bare_form (in_process (fresh (replicate 32 0))))) 0

-- for (x <= @1; y <= @2) { Nil }
abbrev pub PersistentJoin : Type 0
PersistentJoin =
    Spells source Tutorial (key (codes "for") ∷ sign (codes "(") ∷ word (codes "x") ∷ sign (codes "<=") ∷ sign (codes "@") ∷ integer 1 ∷ sign (codes ";") ∷ word (codes "y") ∷ sign (codes "<=") ∷ sign (codes "@") ∷ integer 2 ∷ sign (codes ")") ∷ sign (codes "{") ∷ key (codes "Nil") ∷ sign (codes "}") ∷ end_of_text ∷ [])
    (form_of_two (in_process (receive kinds.Persistent)) (row_of ((form_of_three (around bind) (form_of_one quote (num 1)) (row_of ((bare_form (bind_name (codes "x"))) ∷ [])) (bare_form (around (rest rests.No)))) ∷ (form_of_three (around bind) (form_of_one quote (num 2)) (row_of ((bare_form (bind_name (codes "y"))) ∷ [])) (bare_form (around (rest rests.No)))) ∷ [])) (form_of (in_process par) [])) 1

-- for (x <<- @1 & y <<- @2) { Nil }
abbrev pub PeekJoin : Type 0
PeekJoin =
    Spells source Tutorial (key (codes "for") ∷ sign (codes "(") ∷ word (codes "x") ∷ sign (codes "<<-") ∷ sign (codes "@") ∷ integer 1 ∷ sign (codes "&") ∷ word (codes "y") ∷ sign (codes "<<-") ∷ sign (codes "@") ∷ integer 2 ∷ sign (codes ")") ∷ sign (codes "{") ∷ key (codes "Nil") ∷ sign (codes "}") ∷ end_of_text ∷ [])
    (form_of_two (in_process (receive kinds.Peek)) (row_of ((form_of_three (around bind) (form_of_one quote (num 1)) (row_of ((bare_form (bind_name (codes "x"))) ∷ [])) (bare_form (around (rest rests.No)))) ∷ (form_of_three (around bind) (form_of_one quote (num 2)) (row_of ((bare_form (bind_name (codes "y"))) ∷ [])) (bare_form (around (rest rests.No)))) ∷ [])) (form_of (in_process par) [])) 1

-- for (<- x; <- x; <- x; <- x; <- x; <- x; <- x; <- x; <- x; <- x; <- x; <- x; <- x; <- x; <- x; <- x) { Nil }
abbrev pub SixteenBinds : Type 0
SixteenBinds =
    Spells source Tutorial (key (codes "for") ∷ sign (codes "(") ∷ sign (codes "<-") ∷ word (codes "x") ∷ sign (codes ";") ∷ sign (codes "<-") ∷ word (codes "x") ∷ sign (codes ";") ∷ sign (codes "<-") ∷ word (codes "x") ∷ sign (codes ";") ∷ sign (codes "<-") ∷ word (codes "x") ∷ sign (codes ";") ∷ sign (codes "<-") ∷ word (codes "x") ∷ sign (codes ";") ∷ sign (codes "<-") ∷ word (codes "x") ∷ sign (codes ";") ∷ sign (codes "<-") ∷ word (codes "x") ∷ sign (codes ";") ∷ sign (codes "<-") ∷ word (codes "x") ∷ sign (codes ";") ∷ sign (codes "<-") ∷ word (codes "x") ∷ sign (codes ";") ∷ sign (codes "<-") ∷ word (codes "x") ∷ sign (codes ";") ∷ sign (codes "<-") ∷ word (codes "x") ∷ sign (codes ";") ∷ sign (codes "<-") ∷ word (codes "x") ∷ sign (codes ";") ∷ sign (codes "<-") ∷ word (codes "x") ∷ sign (codes ";") ∷ sign (codes "<-") ∷ word (codes "x") ∷ sign (codes ";") ∷ sign (codes "<-") ∷ word (codes "x") ∷ sign (codes ";") ∷ sign (codes "<-") ∷ word (codes "x") ∷ sign (codes ")") ∷ sign (codes "{") ∷ key (codes "Nil") ∷ sign (codes "}") ∷ end_of_text ∷ [])
    (form_of_two (in_process (receive kinds.Linear)) (row_of ((form_of_three (around bind) (bare_form (use_name (codes "x"))) (row_of []) (bare_form (around (rest rests.No)))) ∷ (form_of_three (around bind) (bare_form (use_name (codes "x"))) (row_of []) (bare_form (around (rest rests.No)))) ∷ (form_of_three (around bind) (bare_form (use_name (codes "x"))) (row_of []) (bare_form (around (rest rests.No)))) ∷ (form_of_three (around bind) (bare_form (use_name (codes "x"))) (row_of []) (bare_form (around (rest rests.No)))) ∷ (form_of_three (around bind) (bare_form (use_name (codes "x"))) (row_of []) (bare_form (around (rest rests.No)))) ∷ (form_of_three (around bind) (bare_form (use_name (codes "x"))) (row_of []) (bare_form (around (rest rests.No)))) ∷ (form_of_three (around bind) (bare_form (use_name (codes "x"))) (row_of []) (bare_form (around (rest rests.No)))) ∷ (form_of_three (around bind) (bare_form (use_name (codes "x"))) (row_of []) (bare_form (around (rest rests.No)))) ∷ (form_of_three (around bind) (bare_form (use_name (codes "x"))) (row_of []) (bare_form (around (rest rests.No)))) ∷ (form_of_three (around bind) (bare_form (use_name (codes "x"))) (row_of []) (bare_form (around (rest rests.No)))) ∷ (form_of_three (around bind) (bare_form (use_name (codes "x"))) (row_of []) (bare_form (around (rest rests.No)))) ∷ (form_of_three (around bind) (bare_form (use_name (codes "x"))) (row_of []) (bare_form (around (rest rests.No)))) ∷ (form_of_three (around bind) (bare_form (use_name (codes "x"))) (row_of []) (bare_form (around (rest rests.No)))) ∷ (form_of_three (around bind) (bare_form (use_name (codes "x"))) (row_of []) (bare_form (around (rest rests.No)))) ∷ (form_of_three (around bind) (bare_form (use_name (codes "x"))) (row_of []) (bare_form (around (rest rests.No)))) ∷ (form_of_three (around bind) (bare_form (use_name (codes "x"))) (row_of []) (bare_form (around (rest rests.No)))) ∷ [])) (form_of (in_process par) [])) 1

-- so many blocks inside each other
abbrev pub blocks : ℕ → List Token
blocks n = replicate n (sign (codes "{")) ++ (integer 1 ∷ []) ++ replicate n (sign (codes "}")) ++ (end_of_text ∷ [])

-- 200 blocks
abbrev pub TwoHundredBlocks : Type 0
TwoHundredBlocks = Spells source Tutorial (blocks 200) (num 1) 200

-- 201 blocks
abbrev pub OneBlockMore : Type 0
OneBlockMore = StopsAt 200 TooDeep 200 (blocks 201)

-- two of an operator, of which the second is opened where at most one form may be
abbrev pub SecondIsOpened : Token → Type 0
SecondIsOpened t = StopsAt 1 TooDeep 3 (integer 1 ∷ t ∷ integer 2 ∷ t ∷ integer 3 ∷ end_of_text ∷ [])

-- a form that its first token opens
abbrev pub FirstOpens : Token → Type 0
FirstOpens t = StopsAt 0 TooDeep 0 (t ∷ end_of_text ∷ [])

-- a form of a pattern that its first token opens, in a block of a quoted pattern
abbrev pub FirstOpensPattern : Token → Type 0
FirstOpensPattern t = StopsAt 2 TooDeep 4 (key (codes "for") ∷ sign (codes "(") ∷ sign (codes "@") ∷ sign (codes "{") ∷ t ∷ end_of_text ∷ [])

-- each operator between operands is opened at its own token
abbrev pub OperatorsAreOpened : Type 0
OperatorsAreOpened = SecondIsOpened (key (codes "or")) × SecondIsOpened (key (codes "and")) × SecondIsOpened (sign (codes "==")) × SecondIsOpened (sign (codes "!=")) × SecondIsOpened (sign (codes "<")) × SecondIsOpened (sign (codes "<=")) × SecondIsOpened (sign (codes ">")) × SecondIsOpened (sign (codes ">=")) × SecondIsOpened (sign (codes "+")) × SecondIsOpened (sign (codes "-")) × SecondIsOpened (sign (codes "++")) × SecondIsOpened (sign (codes "--")) × SecondIsOpened (sign (codes "*")) × SecondIsOpened (sign (codes "/")) × SecondIsOpened (sign (codes "%"))

-- these forms are opened at their first token
abbrev pub FormsAreOpened : Type 0
FormsAreOpened = FirstOpens (key (codes "new")) × FirstOpens (key (codes "if")) × FirstOpens (key (codes "contract")) × FirstOpens (key (codes "for")) × FirstOpens (key (codes "match")) × FirstOpens (key (codes "bundle")) × FirstOpens (key (codes "bundle+")) × FirstOpens (key (codes "bundle-")) × FirstOpens (key (codes "bundle0")) × FirstOpens (sign (codes "@")) × FirstOpens (key (codes "not")) × FirstOpens (sign (codes "(")) × FirstOpens (sign (codes "{")) × FirstOpens (sign (codes "[")) × FirstOpens (key (codes "Set"))

-- and these of patterns
abbrev pub PatternFormsAreOpened : Type 0
PatternFormsAreOpened = FirstOpensPattern (key (codes "new")) × FirstOpensPattern (key (codes "if")) × FirstOpensPattern (key (codes "contract")) × FirstOpensPattern (key (codes "for")) × FirstOpensPattern (key (codes "match")) × FirstOpensPattern (key (codes "bundle")) × FirstOpensPattern (key (codes "bundle+")) × FirstOpensPattern (key (codes "bundle-")) × FirstOpensPattern (key (codes "bundle0")) × FirstOpensPattern (sign (codes "@")) × FirstOpensPattern (sign (codes "~")) × FirstOpensPattern (sign (codes "=")) × FirstOpensPattern (sign (codes "(")) × FirstOpensPattern (sign (codes "{")) × FirstOpensPattern (sign (codes "[")) × FirstOpensPattern (key (codes "Set"))

-- 9223372036854775808
abbrev pub LiteralAlone : Type 0
LiteralAlone = Refuses 0 (integer 9223372036854775808 ∷ end_of_text ∷ [])

-- 1 | | 2
abbrev pub TwoBars : Type 0
TwoBars = Refuses 2 (integer 1 ∷ sign (codes "|") ∷ sign (codes "|") ∷ integer 2 ∷ end_of_text ∷ [])

-- x!(1
abbrev pub OpenSend : Type 0
OpenSend = Refuses 4 (word (codes "x") ∷ sign (codes "!") ∷ sign (codes "(") ∷ integer 1 ∷ end_of_text ∷ [])

-- {-}
abbrev pub PrefixOfNothing : Type 0
PrefixOfNothing = Refuses 2 (sign (codes "{") ∷ sign (codes "-") ∷ sign (codes "}") ∷ end_of_text ∷ [])

-- match 1 { -1 => Nil }
abbrev pub CaseOfMinus : Type 0
CaseOfMinus = Refuses 3 (key (codes "match") ∷ integer 1 ∷ sign (codes "{") ∷ sign (codes "-") ∷ integer 1 ∷ sign (codes "=>") ∷ key (codes "Nil") ∷ sign (codes "}") ∷ end_of_text ∷ [])

-- match 1 { }
abbrev pub NoCase : Type 0
NoCase = Refuses 3 (key (codes "match") ∷ integer 1 ∷ sign (codes "{") ∷ sign (codes "}") ∷ end_of_text ∷ [])

-- if (true) if (false) 1 else 2
abbrev pub IfInIf : Type 0
IfInIf = Refuses 4 (key (codes "if") ∷ sign (codes "(") ∷ key (codes "true") ∷ sign (codes ")") ∷ key (codes "if") ∷ sign (codes "(") ∷ key (codes "false") ∷ sign (codes ")") ∷ integer 1 ∷ key (codes "else") ∷ integer 2 ∷ end_of_text ∷ [])

-- for (x <- @1; y <= @2) { Nil }
abbrev pub OtherArrow : Type 0
OtherArrow = Refuses 8 (key (codes "for") ∷ sign (codes "(") ∷ word (codes "x") ∷ sign (codes "<-") ∷ sign (codes "@") ∷ integer 1 ∷ sign (codes ";") ∷ word (codes "y") ∷ sign (codes "<=") ∷ sign (codes "@") ∷ integer 2 ∷ sign (codes ")") ∷ sign (codes "{") ∷ key (codes "Nil") ∷ sign (codes "}") ∷ end_of_text ∷ [])

-- for (<= x; <= x; <- x) { Nil }
abbrev pub OtherThirdArrow : Type 0
OtherThirdArrow = Refuses 8 (key (codes "for") ∷ sign (codes "(") ∷ sign (codes "<=") ∷ word (codes "x") ∷ sign (codes ";") ∷ sign (codes "<=") ∷ word (codes "x") ∷ sign (codes ";") ∷ sign (codes "<-") ∷ word (codes "x") ∷ sign (codes ")") ∷ sign (codes "{") ∷ key (codes "Nil") ∷ sign (codes "}") ∷ end_of_text ∷ [])

-- for (x <- @1 & y <- @2; z <- @3) { Nil }
abbrev pub MixedSeparators : Type 0
MixedSeparators = Refuses 11 (key (codes "for") ∷ sign (codes "(") ∷ word (codes "x") ∷ sign (codes "<-") ∷ sign (codes "@") ∷ integer 1 ∷ sign (codes "&") ∷ word (codes "y") ∷ sign (codes "<-") ∷ sign (codes "@") ∷ integer 2 ∷ sign (codes ";") ∷ word (codes "z") ∷ sign (codes "<-") ∷ sign (codes "@") ∷ integer 3 ∷ sign (codes ")") ∷ sign (codes "{") ∷ key (codes "Nil") ∷ sign (codes "}") ∷ end_of_text ∷ [])

-- for (<- x; <- x; <- x; <- x; <- x; <- x; <- x; <- x; <- x; <- x; <- x; <- x; <- x; <- x; <- x; <- x; <- x) { Nil }
abbrev pub SeventeenBinds : Type 0
SeventeenBinds = Refuses 49 (key (codes "for") ∷ sign (codes "(") ∷ sign (codes "<-") ∷ word (codes "x") ∷ sign (codes ";") ∷ sign (codes "<-") ∷ word (codes "x") ∷ sign (codes ";") ∷ sign (codes "<-") ∷ word (codes "x") ∷ sign (codes ";") ∷ sign (codes "<-") ∷ word (codes "x") ∷ sign (codes ";") ∷ sign (codes "<-") ∷ word (codes "x") ∷ sign (codes ";") ∷ sign (codes "<-") ∷ word (codes "x") ∷ sign (codes ";") ∷ sign (codes "<-") ∷ word (codes "x") ∷ sign (codes ";") ∷ sign (codes "<-") ∷ word (codes "x") ∷ sign (codes ";") ∷ sign (codes "<-") ∷ word (codes "x") ∷ sign (codes ";") ∷ sign (codes "<-") ∷ word (codes "x") ∷ sign (codes ";") ∷ sign (codes "<-") ∷ word (codes "x") ∷ sign (codes ";") ∷ sign (codes "<-") ∷ word (codes "x") ∷ sign (codes ";") ∷ sign (codes "<-") ∷ word (codes "x") ∷ sign (codes ";") ∷ sign (codes "<-") ∷ word (codes "x") ∷ sign (codes ";") ∷ sign (codes "<-") ∷ word (codes "x") ∷ sign (codes ";") ∷ sign (codes "<-") ∷ word (codes "x") ∷ sign (codes ";") ∷ sign (codes "<-") ∷ word (codes "x") ∷ sign (codes ")") ∷ sign (codes "{") ∷ key (codes "Nil") ∷ sign (codes "}") ∷ end_of_text ∷ [])

-- for (,...@r <- @1) { Nil }
abbrev pub CommaWithoutName : Type 0
CommaWithoutName = Refuses 2 (key (codes "for") ∷ sign (codes "(") ∷ sign (codes ",") ∷ sign (codes "...") ∷ sign (codes "@") ∷ word (codes "r") ∷ sign (codes "<-") ∷ sign (codes "@") ∷ integer 1 ∷ sign (codes ")") ∷ sign (codes "{") ∷ key (codes "Nil") ∷ sign (codes "}") ∷ end_of_text ∷ [])

-- for (@[,...r] <- @1) { Nil }
abbrev pub CommaWithoutMember : Type 0
CommaWithoutMember = Refuses 4 (key (codes "for") ∷ sign (codes "(") ∷ sign (codes "@") ∷ sign (codes "[") ∷ sign (codes ",") ∷ sign (codes "...") ∷ word (codes "r") ∷ sign (codes "]") ∷ sign (codes "<-") ∷ sign (codes "@") ∷ integer 1 ∷ sign (codes ")") ∷ sign (codes "{") ∷ key (codes "Nil") ∷ sign (codes "}") ∷ end_of_text ∷ [])

-- x!(1), where at most 0 may be opened
abbrev pub SendIsOpened : Type 0
SendIsOpened = StopsAt 0 TooDeep 1 (word (codes "x") ∷ sign (codes "!") ∷ sign (codes "(") ∷ integer 1 ∷ sign (codes ")") ∷ end_of_text ∷ [])

-- @1!(1), where at most 0 may be opened
abbrev pub QuotedSendIsOpened : Type 0
QuotedSendIsOpened = StopsAt 0 TooDeep 0 (sign (codes "@") ∷ integer 1 ∷ sign (codes "!") ∷ sign (codes "(") ∷ integer 1 ∷ sign (codes ")") ∷ end_of_text ∷ [])

-- 1 + 2 + 3, where at most 1 may be opened
abbrev pub SecondSumIsOpened : Type 0
SecondSumIsOpened = StopsAt 1 TooDeep 3 (integer 1 ∷ sign (codes "+") ∷ integer 2 ∷ sign (codes "+") ∷ integer 3 ∷ end_of_text ∷ [])

-- 1.m(), where at most 0 may be opened
abbrev pub CallIsOpened : Type 0
CallIsOpened = StopsAt 0 TooDeep 1 (integer 1 ∷ sign (codes ".") ∷ word (codes "m") ∷ sign (codes "(") ∷ sign (codes ")") ∷ end_of_text ∷ [])

-- 1.m().m(), where at most 1 may be opened
abbrev pub SecondCallIsOpened : Type 0
SecondCallIsOpened = StopsAt 1 TooDeep 5 (integer 1 ∷ sign (codes ".") ∷ word (codes "m") ∷ sign (codes "(") ∷ sign (codes ")") ∷ sign (codes ".") ∷ word (codes "m") ∷ sign (codes "(") ∷ sign (codes ")") ∷ end_of_text ∷ [])

-- for (@1 \/ 2 \/ 3 <- x) { Nil }, where at most 2 may be opened
abbrev pub SecondEitherIsOpened : Type 0
SecondEitherIsOpened = StopsAt 2 TooDeep 6 (key (codes "for") ∷ sign (codes "(") ∷ sign (codes "@") ∷ integer 1 ∷ sign (codes "\\/") ∷ integer 2 ∷ sign (codes "\\/") ∷ integer 3 ∷ sign (codes "<-") ∷ word (codes "x") ∷ sign (codes ")") ∷ sign (codes "{") ∷ key (codes "Nil") ∷ sign (codes "}") ∷ end_of_text ∷ [])

-- for (@1 /\ 2 /\ 3 <- x) { Nil }, where at most 2 may be opened
abbrev pub SecondBothIsOpened : Type 0
SecondBothIsOpened = StopsAt 2 TooDeep 6 (key (codes "for") ∷ sign (codes "(") ∷ sign (codes "@") ∷ integer 1 ∷ sign (codes "/\\") ∷ integer 2 ∷ sign (codes "/\\") ∷ integer 3 ∷ sign (codes "<-") ∷ word (codes "x") ∷ sign (codes ")") ∷ sign (codes "{") ∷ key (codes "Nil") ∷ sign (codes "}") ∷ end_of_text ∷ [])

-- for (@{_!(1)} <- x) { Nil }, where at most 2 may be opened
abbrev pub AnySendIsOpened : Type 0
AnySendIsOpened = StopsAt 2 TooDeep 5 (key (codes "for") ∷ sign (codes "(") ∷ sign (codes "@") ∷ sign (codes "{") ∷ sign (codes "_") ∷ sign (codes "!") ∷ sign (codes "(") ∷ integer 1 ∷ sign (codes ")") ∷ sign (codes "}") ∷ sign (codes "<-") ∷ word (codes "x") ∷ sign (codes ")") ∷ sign (codes "{") ∷ key (codes "Nil") ∷ sign (codes "}") ∷ end_of_text ∷ [])

-- - x, where at most 0 may be opened
abbrev pub PrefixIsOpened : Type 0
PrefixIsOpened = StopsAt 0 TooDeep 1 (sign (codes "-") ∷ word (codes "x") ∷ end_of_text ∷ [])

-- *@1, where at most 0 may be opened
abbrev pub QuotedDropIsOpened : Type 0
QuotedDropIsOpened = StopsAt 0 TooDeep 1 (sign (codes "*") ∷ sign (codes "@") ∷ integer 1 ∷ end_of_text ∷ [])

-- {{1}}, where at most 1 may be opened
abbrev pub InnerBlockIsOpened : Type 0
InnerBlockIsOpened = StopsAt 1 TooDeep 1 (sign (codes "{") ∷ sign (codes "{") ∷ integer 1 ∷ sign (codes "}") ∷ sign (codes "}") ∷ end_of_text ∷ [])

-- for (@{1 \/ 2} <- x) { Nil }, where at most 2 may be opened
abbrev pub ConnectiveIsOpened : Type 0
ConnectiveIsOpened = StopsAt 2 TooDeep 5 (key (codes "for") ∷ sign (codes "(") ∷ sign (codes "@") ∷ sign (codes "{") ∷ integer 1 ∷ sign (codes "\\/") ∷ integer 2 ∷ sign (codes "}") ∷ sign (codes "<-") ∷ word (codes "x") ∷ sign (codes ")") ∷ sign (codes "{") ∷ key (codes "Nil") ∷ sign (codes "}") ∷ end_of_text ∷ [])
