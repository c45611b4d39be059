use Rattle.std.proofs.Common.{ℕ, ◌≤◌, length, map, []}
use Rattle.calculus.specs.Meaning.{declared}
use Rattle.grammar.specs.declared.dialect.Dialect.TheVariants.{Tutorial}
use Rattle.grammar.specs.Descent.{Outcome, Runs}
use Rattle.grammar.specs.Rules.{Sort, last}
use Rattle.token_cursor.specs.Meaning.{view}
use Rattle.leaf_forms.proofs.leaf.declarations.Given as goal

abbrev pub invariant-loop-cursor : goal.invariant-loop-cursor
invariant-loop-cursor l = record {
  turns : (free : ℕ) (out : Outcome) → Runs Tutorial free (last (Sort.DeclTail (map declared l.names.items))) (view l.cursor.rest.now) out → Runs Tutorial free (last (Sort.Decl [])) (view l.fn.cursor.rest.now) out;
  shorter : length l.cursor.rest.now ≤ length l.fn.cursor.rest.now;
}

abbrev pub decreases-loop-cursor : goal.decreases-loop-cursor
decreases-loop-cursor l = length l.cursor.rest.now
