-- What is left of a production where a step of the parser ends.
use Rattle.std.specs.Prelude.{ℕ, ◌<◌, ◌≤◌, ⊤, List, Option, Some, None, cond, max, string_bytes}
use Rattle.calculus.specs.declared.plain.Simple.TheVariants as simples
use Rattle.calculus.specs.declared.plain.Simple.{Simple}
use Rattle.calculus.specs.declared.plain.UnaryOp.{UnaryOp}
use Rattle.calculus.specs.Written.{Written}
use Rattle.std.specs.declared.alloc.Global.{Global}
use Rattle.std.specs.declared.string.String.{String}
use Rattle.form_parts.specs.declared.part.Bracket.{Bracket}
use Rattle.form_parts.specs.declared.part.Bracket.TheVariants as brackets
use Rattle.token_cursor.specs.Reading.{bracket_of}
use Rattle.form_steps.specs.declared.step.PlainProcess.{PlainProcess}
use Rattle.form_steps.specs.declared.step.PlainProcess.TheVariants as plain
use Rattle.form_steps.specs.declared.step.ProcessStep.{ProcessStep}
use Rattle.form_steps.specs.declared.step.ProcessStep.TheVariants as steps
use Rattle.form_steps.specs.declared.step.PlainPattern.{PlainPattern}
use Rattle.form_steps.specs.declared.step.PlainPattern.TheVariants as plain_patterns
use Rattle.form_steps.specs.declared.step.PatternStep.{PatternStep}
use Rattle.form_steps.specs.declared.step.PatternStep.TheVariants as pattern_steps
use Rattle.grammar.specs.declared.dialect.Dialect.TheVariants.{Tutorial}
use Rattle.grammar.specs.declared.mark.Mark.TheVariants as marks
use Rattle.grammar.specs.Grammar.{rule}
use Rattle.grammar.specs.Productions.{Prod}
use Rattle.grammar.specs.Rules.{Sort, Rule, round, done, sign, under, last}
use Rattle.grammar.specs.Terminals.{Terminal, sees}
use Rattle.grammar.specs.Values.{Spelt, opened, processes, patterns, drop_of, quote_of, list_of, list_pattern_of, method_of, not_of, same_of, set_of, set_pattern_of, unary_of}

-- after the operator before an operand, if there is one
abbrev pub after_operator : Option UnaryOp → Rule
after_operator (Some op) = under Sort.Pre (λ a. done (opened (unary_of op a.tree) a.height))
after_operator None = last Sort.Meth

-- there is room for the form that it opens
abbrev pub HasRoomAfter : ℕ → Option UnaryOp → Type 0
HasRoomAfter free (Some op) = 0 < free
HasRoomAfter free None = ⊤

-- it was taken
abbrev pub PassesOperator : ℕ → ℕ → Option UnaryOp → Type 0
PassesOperator new old (Some op) = new < old
PassesOperator new old None = new ≤ old

-- after the target of a call, up to the arguments, if there is one
abbrev pub after_target : Spelt → Option (String Global) → Rule
after_target a (Some w) = under (Sort.Row processes round) (λ r. last (Sort.MethTail (opened (method_of (string_bytes w) a.tree r.tree) (max a.height r.height))))
after_target a None = done a

-- there is room for the call
abbrev pub HasRoomToCall : ℕ → ℕ → Option (String Global) → Type 0
HasRoomToCall height free (Some w) = height < free
HasRoomToCall height free None = ⊤

-- what stands before the arguments was taken
abbrev pub PassesName : ℕ → ℕ → Option (String Global) → Type 0
PassesName new old (Some w) = new < old
PassesName new old None = new ≤ old

-- the production of a process that holds no further one
abbrev pub plain_rule : PlainProcess → Rule
plain_rule plain.Word = rule Tutorial Prod.atom_word
plain_rule plain.Nil = rule Tutorial Prod.atom_nil
plain_rule plain.Ground = rule Tutorial Prod.atom_ground
plain_rule plain.Dropped = rule Tutorial Prod.dropped_word
plain_rule plain.EmptyMap = rule Tutorial Prod.brace_empty

-- its height
abbrev pub plain_height : PlainProcess → ℕ
plain_height plain.EmptyMap = 1
plain_height _ = 0

-- the list or the set of members between brackets of the program
abbrev pub members_of : Bracket → Written → Written
members_of brackets.Square row = list_of row
members_of brackets.Round row = set_of row

-- the pattern of it
abbrev pub member_patterns_of : Bracket → Written → Written
member_patterns_of brackets.Square row = list_pattern_of row
member_patterns_of brackets.Round row = set_pattern_of row

-- after the step that begins a process
abbrev pub after_process_step : ProcessStep → Rule
after_process_step (steps.Plain p) = plain_rule p
after_process_step steps.Dropped = under Sort.Drop (λ a. done (opened (drop_of (quote_of a.tree)) a.height))
after_process_step steps.Group = under (Sort.Par processes) (λ p. last (Sort.Group processes p))
after_process_step steps.Block = under (Sort.Par processes) (λ p. last (Sort.BraceTail p))
after_process_step (steps.Members b) = under (Sort.Row processes (bracket_of b)) (λ r. done (opened (members_of b r.tree) r.height))

-- there is room for what it begins
abbrev pub HasRoomFor : ℕ → ProcessStep → Type 0
HasRoomFor free (steps.Plain p) = plain_height p ≤ free
HasRoomFor free _ = 0 < free

-- it took what stands before a constituent
abbrev pub Passes : ℕ → ℕ → ProcessStep → Type 0
Passes new old (steps.Plain p) = new ≤ old
Passes new old _ = new < old

-- the production of a pattern that holds no further one
abbrev pub plain_pattern_rule : PlainPattern → Rule
plain_pattern_rule plain_patterns.Word = rule Tutorial Prod.patom_word
plain_pattern_rule plain_patterns.Any = rule Tutorial Prod.patom_any
plain_pattern_rule (plain_patterns.Type s) = rule Tutorial (Prod.patom_type s)
plain_pattern_rule plain_patterns.Nil = rule Tutorial Prod.patom_nil
plain_pattern_rule plain_patterns.Ground = rule Tutorial Prod.patom_ground
plain_pattern_rule plain_patterns.SameWord = rule Tutorial Prod.same_word
plain_pattern_rule plain_patterns.SameDropped = rule Tutorial Prod.same_drop
plain_pattern_rule plain_patterns.EmptyMap = rule Tutorial Prod.pbrace_empty
plain_pattern_rule plain_patterns.RestMap = rule Tutorial Prod.pbrace_rest

-- its height
abbrev pub plain_pattern_height : PlainPattern → ℕ
plain_pattern_height plain_patterns.SameWord = 1
plain_pattern_height plain_patterns.SameDropped = 1
plain_pattern_height plain_patterns.EmptyMap = 1
plain_pattern_height plain_patterns.RestMap = 1
plain_pattern_height _ = 0

-- the brace that closes the pattern of what is the same as this
abbrev pub same_end : Spelt → Rule
same_end a = sign marks.CloseBrace (done (opened (same_of a.tree) a.height))

-- after the step that begins a pattern
abbrev pub after_pattern_step : PatternStep → Rule
after_pattern_step (pattern_steps.Plain p) = plain_pattern_rule p
after_pattern_step pattern_steps.Not = under Sort.PNot (λ a. done (opened (not_of a.tree) a.height))
after_pattern_step pattern_steps.Same = under (Sort.Par processes) same_end
after_pattern_step pattern_steps.Group = under (Sort.Par patterns) (λ p. last (Sort.Group patterns p))
after_pattern_step pattern_steps.Block = under (Sort.Par patterns) (λ p. last (Sort.PBraceTail p))
after_pattern_step (pattern_steps.Members b) = under (Sort.Seq (bracket_of b)) (λ s. done (opened (member_patterns_of b s.tree) s.height))

-- there is room for what it begins
abbrev pub HasRoomForPattern : ℕ → PatternStep → Type 0
HasRoomForPattern free (pattern_steps.Plain p) = plain_pattern_height p ≤ free
HasRoomForPattern free _ = 0 < free

-- it took what stands before a constituent
abbrev pub PassesPattern : ℕ → ℕ → PatternStep → Type 0
PassesPattern new old (pattern_steps.Plain p) = new ≤ old
PassesPattern new old _ = new < old

-- the production of a pattern that is no variable, no `_` and no simple type
abbrev pub form_of_pattern : List Terminal → Prod Sort.PAtom
form_of_pattern ts = cond (sees marks.Assign ts) Prod.patom_same (cond (sees marks.Nil ts) Prod.patom_nil (cond (sees marks.Open ts) Prod.patom_open (cond (sees marks.OpenBrace ts) Prod.patom_brace (cond (sees marks.OpenSquare ts) Prod.patom_list (cond (sees marks.Set ts) Prod.patom_set Prod.patom_ground)))))

-- the production of a pattern where a simple type was looked for, and other productions are left
abbrev pub type_or : Option Simple → Prod Sort.PAtom → Prod Sort.PAtom
type_or (Some s) p = Prod.patom_type s
type_or None p = p

-- the production of a pattern that is a simple type, or this one
abbrev pub typed_pattern : List Terminal → Prod Sort.PAtom → Prod Sort.PAtom
typed_pattern ts p = cond (sees marks.Bool ts) (Prod.patom_type simples.Bool) (cond (sees marks.Int ts) (Prod.patom_type simples.Int) (cond (sees marks.String ts) (Prod.patom_type simples.Str) (cond (sees marks.Uri ts) (Prod.patom_type simples.Uri) (cond (sees marks.ByteArray ts) (Prod.patom_type simples.Bytes) p))))
