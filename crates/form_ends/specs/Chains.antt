-- What is left of a chain that leans to the left, and what the steps promise that take it on.
use Rattle.std.specs.Prelude.{ℕ, zero, suc, ◌<◌, ◌≤◌, ⊤, List, Option, Some, None, IfOk, max}
use Rattle.std.specs.declared.alloc.Global.{Global}
use Rattle.std.specs.declared.string.String.{String}
use Rattle.calculus.specs.declared.plain.BinaryOp.{BinaryOp}
use Rattle.calculus.specs.declared.process.Pat.{Pat}
use Rattle.calculus.specs.declared.process.Proc.{Proc}
use Rattle.form_ends.specs.declared.chain_steps.Chain.{Chain}
use Rattle.form_ends.specs.declared.chain_steps.Chain.TheVariants as chains
use Rattle.form_ends.specs.declared.joint.Joint.{Joint}
use Rattle.form_ends.specs.declared.joint.Joint.TheVariants as joints
use Rattle.form_steps.specs.Steps.{after_target}
use Rattle.grammar.specs.declared.dialect.Dialect.TheVariants.{Tutorial}
use Rattle.grammar.specs.declared.mark.Mark.{Mark}
use Rattle.grammar.specs.declared.mark.Mark.TheVariants as marks
use Rattle.grammar.specs.Descent.{Outcome, Runs}
use Rattle.grammar.specs.Rules.{Rule, Sort, last, under}
use Rattle.grammar.specs.Terminals.{Terminal}
use Rattle.grammar.specs.Values.{Spelt, both_of, either_of, opened, operation}
use Rattle.form_parts.specs.declared.part.Part.{Part}
use Rattle.token_cursor.specs.Levels.{operand_of, tail_of}
use Rattle.token_cursor.specs.Reading.{Makes, of_pat, of_proc}
use Rattle.token_cursor.specs.declared.level.Level.{Level}

-- the sort of what this joins
abbrev pub joint_sort : Joint → Sort
joint_sort joints.Either = Sort.PAlt
joint_sort joints.Both = Sort.PAnd

-- what follows a pattern that this may join to another
abbrev pub joint_tail : Joint → Spelt → Sort
joint_tail joints.Either = Sort.PAltTail
joint_tail joints.Both = Sort.PAndTail

-- its mark
abbrev pub joint_mark : Joint → Mark
joint_mark joints.Either = marks.Either
joint_mark joints.Both = marks.Both

-- what joins tighter
abbrev pub inner_joint : Joint → Option Joint
inner_joint joints.Either = Some joints.Both
inner_joint joints.Both = None

-- the sort of what this joins, or of a pattern that nothing joins
abbrev pub joint_or_not : Option Joint → Sort
joint_or_not (Some j) = joint_sort j
joint_or_not None = Sort.PNot

-- the sort of the patterns that it joins
abbrev pub joint_operand : Joint → Sort
joint_operand j = joint_or_not (inner_joint j)

-- how many join tighter
abbrev pub joint_looseness : Joint → ℕ
joint_looseness joints.Either = 1
joint_looseness joints.Both = 0

-- how many may join a pattern
abbrev pub joints_below : Option Joint → ℕ
joints_below None = 0
joints_below (Some j) = suc (joint_looseness j)

-- two patterns that are joined
abbrev pub joined : Joint → Spelt → Spelt → Spelt
joined joints.Either a b = opened (either_of a.tree b.tree) (max a.height b.height)
joined joints.Both a b = opened (both_of a.tree b.tree) (max a.height b.height)

-- after a pattern and what joins another to it
abbrev pub after_joint : Joint → Part Pat → Joint → Rule
after_joint j p _ = under (joint_operand j) (λ b. last (joint_tail j (joined j (of_pat p) b)))

-- after an operand and an operator of this level
abbrev pub after_left : Level → Part Proc → BinaryOp → Rule
after_left l p op = under (operand_of l) (λ b. last (tail_of l (operation op (of_proc p) b)))

-- after the target of a call and the name of the method
abbrev pub after_call : Part Proc → String Global → Rule
after_call p w = after_target (of_proc p) (Some w)

-- the chain ends with what the rule comes to, or the rule goes on so after what was read
abbrev pub Chains : {P T : Type 0} → ℕ → Rule → (Part P → Spelt) → (Part P → T → Rule) → List Terminal → Chain P T → List Terminal → Type 0
Chains free r of after ts (chains.Ends res) us = Makes free r of ts res us
Chains free r of after ts (chains.GoesOn p x) us = (out : Outcome) → Runs Tutorial free (after p x) us out → Runs Tutorial free r ts out

-- there is room for the form that takes a chain on
abbrev pub HasRoomOn : {P T : Type 0} → ℕ → Chain P T → Type 0
HasRoomOn free (chains.Ends res) = ⊤
HasRoomOn free (chains.GoesOn p x) = p.height < free

-- a chain that ends is at most so high
abbrev pub EndsWithin : {P T : Type 0} → ℕ → Chain P T → Type 0
EndsWithin n (chains.Ends res) = IfOk res (λ p. p.height ≤ n)
EndsWithin n (chains.GoesOn p x) = ⊤

-- what takes a chain on was taken
abbrev pub PassesOn : {P T : Type 0} → ℕ → ℕ → Chain P T → Type 0
PassesOn new old (chains.Ends res) = new ≤ old
PassesOn new old (chains.GoesOn p x) = new < old
