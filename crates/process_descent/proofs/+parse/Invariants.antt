use Rattle.calculus.specs.Meaning.{bind_written, case_written, name_pat_written, pat_written, proc_written}
use Rattle.calculus.specs.declared.process.Bind.{Bind}
use Rattle.calculus.specs.declared.process.NamePat.{NamePat}
use Rattle.calculus.specs.declared.process.Pat.{Pat}
use Rattle.calculus.specs.declared.process.Proc.{Proc}
use Rattle.form_ends.specs.Chains.{joint_sort, joint_tail, joints_below}
use Rattle.form_steps.specs.Parts.{after_key}
use Rattle.form_steps.specs.declared.step.FormKey.TheVariants.{For, Match}
use Rattle.grammar.specs.Choice.{choose}
use Rattle.grammar.specs.Descent.{Outcome, Runs}
use Rattle.grammar.specs.Grammar.{rule}
use Rattle.grammar.specs.Productions.{Prod}
use Rattle.grammar.specs.Rules.{Sort, last, under}
use Rattle.grammar.specs.Values.{patterns, processes}
use Rattle.grammar.specs.declared.dialect.Dialect.TheVariants.{Tutorial}
use Rattle.form_parts.specs.declared.part.Part.{Part}
use Rattle.token_cursor.specs.Levels.{levels_below, sort_of, tail_of}
use Rattle.token_cursor.specs.Meaning.{view}
use Rattle.token_cursor.specs.Reading.{Turns, bracket_of, of_pat, of_proc, pairs_written, pat_pairs_written, separator_of}
use Rattle.std.specs.declared.alloc.Global.{Global}
use Rattle.std.specs.declared.vec.Vec.{Vec}
use Rattle.std.proofs.Common.{IfOk, length, map, ◌*◌, ◌+◌, ◌-◌, ◌<◌, ◌≤◌}
use Rattle.process_descent.proofs.+parse.Given as goal

abbrev pub decreases-process::par : goal.decreases-process::par
decreases-process::par l = 128 * length l.cursor.now.rest.now + 38

abbrev pub invariant-process::par-each : goal.invariant-process::par-each
invariant-process::par-each l = record {
  turns : Turns l.free (rule Tutorial (Prod.par processes)) (λ (q : Part (Vec Proc Global)). last (Sort.ParTail processes (map proc_written q.value.items) q.height)) (view l.fn.cursor.rest.now) l.parts (view l.cursor.rest.now);
  room : IfOk l.parts (λ q. q.height ≤ l.free);
  shorter : length l.cursor.rest.now ≤ length l.fn.cursor.rest.now;
}

abbrev pub decreases-process::par-each : goal.decreases-process::par-each
decreases-process::par-each l = length l.cursor.rest.now

abbrev pub decreases-process::one : goal.decreases-process::one
decreases-process::one l = 128 * length l.cursor.now.rest.now + 37

abbrev pub decreases-process::two : goal.decreases-process::two
decreases-process::two l = 128 * length l.cursor.now.rest.now + 36

abbrev pub decreases-form::form : goal.decreases-form::form
decreases-form::form l = 128 * length l.cursor.now.rest.now + 35

abbrev pub decreases-form::branches : goal.decreases-form::branches
decreases-form::branches l = 128 * length l.cursor.now.rest.now + 121

abbrev pub decreases-form::contract : goal.decreases-form::contract
decreases-form::contract l = 128 * length l.cursor.now.rest.now + 121

abbrev pub decreases-form::receive : goal.decreases-form::receive
decreases-form::receive l = 128 * length l.cursor.now.rest.now + 121

abbrev pub invariant-form::receive-binds : goal.invariant-form::receive-binds
invariant-form::receive-binds l = record {
  turns : Turns l.free (after_key For) (λ (q : Part (Vec Bind Global)). last (Sort.BindsTail l.kind (separator_of l.separator) l.more (map bind_written q.value.items) q.height)) (view l.fn.cursor.rest.now) l.binds (view l.cursor.rest.now);
  room : IfOk l.binds (λ q. q.height ≤ l.free - 1);
  shorter : length l.cursor.rest.now ≤ length l.fn.cursor.rest.now;
}

abbrev pub decreases-form::receive-binds : goal.decreases-form::receive-binds
decreases-form::receive-binds l = length l.cursor.rest.now

abbrev pub decreases-form::matching : goal.decreases-form::matching
decreases-form::matching l = 128 * length l.cursor.now.rest.now + 121

abbrev pub invariant-form::matching-cases : goal.invariant-form::matching-cases
invariant-form::matching-cases l = record {
  turns : (out : Outcome) → Runs Tutorial l.free (rule Tutorial (Prod.case (of_proc l.target) (map case_written l.cases.value.items) l.cases.height)) (view l.cursor.rest.now) out → Runs Tutorial l.free (after_key Match) (view l.fn.cursor.rest.now) out;
  room : l.cases.height < l.free;
  shorter : length l.cursor.rest.now ≤ length l.fn.cursor.rest.now;
}

abbrev pub decreases-form::matching-cases : goal.decreases-form::matching-cases
decreases-form::matching-cases l = length l.cursor.rest.now

abbrev pub decreases-left::left : goal.decreases-left::left
decreases-left::left l = 128 * length l.cursor.now.rest.now + 95

abbrev pub invariant-left::left-each : goal.invariant-left::left-each
invariant-left::left-each l = record {
  turns : Turns l.free (rule Tutorial (choose Sort.Left (view l.fn.cursor.rest.now))) (λ (q : Part (Vec NamePat Global)). last (Sort.LeftTail (map name_pat_written q.value.items) q.height)) (view l.fn.cursor.rest.now) l.pats (view l.cursor.rest.now);
  room : IfOk l.pats (λ q. q.height ≤ l.free);
  shorter : length l.cursor.rest.now ≤ length l.fn.cursor.rest.now;
}

abbrev pub decreases-left::left-each : goal.decreases-left::left-each
decreases-left::left-each l = length l.cursor.rest.now

abbrev pub decreases-operation::level : goal.decreases-operation::level
decreases-operation::level l = 128 * length l.cursor.now.rest.now + (22 + 2 * levels_below l.within)

abbrev pub invariant-operation::level-operators : goal.invariant-operation::level-operators
invariant-operation::level-operators l = record {
  turns : Turns l.free (rule Tutorial (choose (sort_of l.own) (view l.fn.cursor.rest.now))) (λ (p : Part Proc). last (tail_of l.own (of_proc p))) (view l.fn.cursor.rest.now) l.left (view l.cursor.rest.now);
  room : IfOk l.left (λ q. q.height ≤ l.free);
  shorter : length l.cursor.rest.now ≤ length l.fn.cursor.rest.now;
}

abbrev pub decreases-operation::level-operators : goal.decreases-operation::level-operators
decreases-operation::level-operators l = length l.cursor.rest.now

abbrev pub decreases-operation::pre : goal.decreases-operation::pre
decreases-operation::pre l = 128 * length l.cursor.now.rest.now + 21

abbrev pub invariant-operation::pre-calls : goal.invariant-operation::pre-calls
invariant-operation::pre-calls l = record {
  turns : Turns l.free (rule Tutorial (choose Sort.Pre (view l.fn.cursor.rest.now))) (λ (p : Part Proc). last (Sort.MethTail (of_proc p))) (view l.fn.cursor.rest.now) l.target (view l.cursor.rest.now);
  room : IfOk l.target (λ q. q.height ≤ l.free);
  shorter : length l.cursor.rest.now ≤ length l.fn.cursor.rest.now;
}

abbrev pub decreases-operation::pre-calls : goal.decreases-operation::pre-calls
decreases-operation::pre-calls l = length l.cursor.rest.now

abbrev pub decreases-atom::drop_form : goal.decreases-atom::drop_form
decreases-atom::drop_form l = 128 * length l.cursor.now.rest.now + 19

abbrev pub decreases-atom::name : goal.decreases-atom::name
decreases-atom::name l = 128 * length l.cursor.now.rest.now + 2

abbrev pub decreases-atom::block : goal.decreases-atom::block
decreases-atom::block l = 128 * length l.cursor.now.rest.now + 41

abbrev pub invariant-atom::block-each : goal.invariant-atom::block-each
invariant-atom::block-each l = record {
  turns : Turns l.free (under (Sort.Par processes) (λ p. last (Sort.BraceTail p))) (λ (q : Part (Vec (Proc × Proc) Global)). last (Sort.Pairs (pairs_written q.value.items) q.height)) (view l.fn.cursor.rest.now) l.pairs (view l.cursor.rest.now);
  room : IfOk l.pairs (λ q. q.height ≤ l.free - 1);
  shorter : length l.cursor.rest.now < length l.fn.cursor.rest.now;
}

abbrev pub decreases-atom::block-each : goal.decreases-atom::block-each
decreases-atom::block-each l = length l.cursor.rest.now

abbrev pub decreases-atom::row : goal.decreases-atom::row
decreases-atom::row l = 128 * length l.cursor.now.rest.now + 40

abbrev pub invariant-atom::row-each : goal.invariant-atom::row-each
invariant-atom::row-each l = record {
  turns : Turns l.free (rule Tutorial (choose (Sort.Row processes (bracket_of l.bracket)) (view l.fn.cursor.rest.now))) (λ (q : Part (Vec Proc Global)). last (Sort.RowTail processes (bracket_of l.bracket) (map proc_written q.value.items) q.height)) (view l.fn.cursor.rest.now) l.members (view l.cursor.rest.now);
  room : IfOk l.members (λ q. q.height ≤ l.free);
  shorter : length l.cursor.rest.now ≤ length l.fn.cursor.rest.now;
}

abbrev pub decreases-atom::row-each : goal.decreases-atom::row-each
decreases-atom::row-each l = length l.cursor.rest.now

abbrev pub decreases-pattern::pattern_par : goal.decreases-pattern::pattern_par
decreases-pattern::pattern_par l = 128 * length l.cursor.now.rest.now + 80

abbrev pub invariant-pattern::pattern_par-each : goal.invariant-pattern::pattern_par-each
invariant-pattern::pattern_par-each l = record {
  turns : Turns l.free (rule Tutorial (Prod.par patterns)) (λ (q : Part (Vec Pat Global)). last (Sort.ParTail patterns (map pat_written q.value.items) q.height)) (view l.fn.cursor.rest.now) l.parts (view l.cursor.rest.now);
  room : IfOk l.parts (λ q. q.height ≤ l.free);
  shorter : length l.cursor.rest.now ≤ length l.fn.cursor.rest.now;
}

abbrev pub decreases-pattern::pattern_par-each : goal.decreases-pattern::pattern_par-each
decreases-pattern::pattern_par-each l = length l.cursor.rest.now

abbrev pub decreases-pattern::pattern_one : goal.decreases-pattern::pattern_one
decreases-pattern::pattern_one l = 128 * length l.cursor.now.rest.now + 75

abbrev pub decreases-pattern::pattern_joined : goal.decreases-pattern::pattern_joined
decreases-pattern::pattern_joined l = 128 * length l.cursor.now.rest.now + (67 + joints_below l.within)

abbrev pub invariant-pattern::pattern_joined-joined : goal.invariant-pattern::pattern_joined-joined
invariant-pattern::pattern_joined-joined l = record {
  turns : Turns l.free (rule Tutorial (choose (joint_sort l.joint) (view l.fn.cursor.rest.now))) (λ (p : Part Pat). last (joint_tail l.joint (of_pat p))) (view l.fn.cursor.rest.now) l.left (view l.cursor.rest.now);
  room : IfOk l.left (λ q. q.height ≤ l.free);
  shorter : length l.cursor.rest.now ≤ length l.fn.cursor.rest.now;
}

abbrev pub decreases-pattern::pattern_joined-joined : goal.decreases-pattern::pattern_joined-joined
decreases-pattern::pattern_joined-joined l = length l.cursor.rest.now

abbrev pub decreases-pattern::pattern_not : goal.decreases-pattern::pattern_not
decreases-pattern::pattern_not l = 128 * length l.cursor.now.rest.now + 66

abbrev pub decreases-pattern::pattern_name : goal.decreases-pattern::pattern_name
decreases-pattern::pattern_name l = 128 * length l.cursor.now.rest.now + 93

abbrev pub decreases-pattern_atom::pattern_row : goal.decreases-pattern_atom::pattern_row
decreases-pattern_atom::pattern_row l = 128 * length l.cursor.now.rest.now + 90

abbrev pub invariant-pattern_atom::pattern_row-each : goal.invariant-pattern_atom::pattern_row-each
invariant-pattern_atom::pattern_row-each l = record {
  turns : Turns l.free (rule Tutorial (choose (Sort.Row patterns (bracket_of l.bracket)) (view l.fn.cursor.rest.now))) (λ (q : Part (Vec Pat Global)). last (Sort.RowTail patterns (bracket_of l.bracket) (map pat_written q.value.items) q.height)) (view l.fn.cursor.rest.now) l.members (view l.cursor.rest.now);
  room : IfOk l.members (λ q. q.height ≤ l.free);
  shorter : length l.cursor.rest.now ≤ length l.fn.cursor.rest.now;
}

abbrev pub decreases-pattern_atom::pattern_row-each : goal.decreases-pattern_atom::pattern_row-each
decreases-pattern_atom::pattern_row-each l = length l.cursor.rest.now

abbrev pub decreases-pattern_atom::pattern_sequence : goal.decreases-pattern_atom::pattern_sequence
decreases-pattern_atom::pattern_sequence l = 128 * length l.cursor.now.rest.now + 90

abbrev pub invariant-pattern_atom::pattern_sequence-each : goal.invariant-pattern_atom::pattern_sequence-each
invariant-pattern_atom::pattern_sequence-each l = record {
  turns : Turns l.free (rule Tutorial (choose (Sort.Seq (bracket_of l.bracket)) (view l.fn.cursor.rest.now))) (λ (q : Part (Vec Pat Global)). last (Sort.SeqTail (bracket_of l.bracket) (map pat_written q.value.items) q.height)) (view l.fn.cursor.rest.now) l.pats (view l.cursor.rest.now);
  room : IfOk l.pats (λ q. q.height ≤ l.free);
  shorter : length l.cursor.rest.now ≤ length l.fn.cursor.rest.now;
}

abbrev pub decreases-pattern_atom::pattern_sequence-each : goal.decreases-pattern_atom::pattern_sequence-each
decreases-pattern_atom::pattern_sequence-each l = length l.cursor.rest.now

abbrev pub decreases-pattern_atom::pattern_block : goal.decreases-pattern_atom::pattern_block
decreases-pattern_atom::pattern_block l = 128 * length l.cursor.now.rest.now + 87

abbrev pub invariant-pattern_atom::pattern_block-each : goal.invariant-pattern_atom::pattern_block-each
invariant-pattern_atom::pattern_block-each l = record {
  turns : Turns l.free (under (Sort.Par patterns) (λ p. last (Sort.PBraceTail p))) (λ (q : Part (Vec (Pat × Pat) Global)). last (Sort.PPairs (pat_pairs_written q.value.items) q.height)) (view l.fn.cursor.rest.now) l.pairs (view l.cursor.rest.now);
  room : IfOk l.pairs (λ q. q.height ≤ l.free - 1);
  shorter : length l.cursor.rest.now < length l.fn.cursor.rest.now;
}

abbrev pub decreases-pattern_atom::pattern_block-each : goal.decreases-pattern_atom::pattern_block-each
decreases-pattern_atom::pattern_block-each l = length l.cursor.rest.now
