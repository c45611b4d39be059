-- What the steps promise that take the mark which opens a form.
use Rattle.std.specs.Prelude.{ℕ, ◌≡◌, IfOk, MatchResult, Result}
use Rattle.grammar.specs.declared.fault.Fault.{Fault}
use Rattle.grammar.specs.declared.mark.Mark.{Mark}
use Rattle.grammar.specs.Descent.{TakesOpening}
use Rattle.grammar.specs.Rules.{Rule}
use Rattle.grammar.specs.Terminals.{sees}
use Rattle.token_cursor.specs.Cursors.{ContinuesWithin, ShortensAs, ahead}
use Rattle.token_cursor.specs.Meaning.{Refused}
use Rattle.token_cursor.specs.declared.cursor.Cursor.{Cursor}

-- the result is what was made, once the mark is taken that opens a form; it is a fault where another terminal is next, and where there is no room
abbrev pub OpensWith : {T : Type 0} → Cursor → T → Mark → ℕ → Result T Fault → Cursor → Type 0
OpensWith old made m free result new = MatchResult result (λ x. (x ≡ made) × TakesOpening m 0 free (ahead old) (ahead new)) (λ e. Refused (sees m (ahead old)) 0 free (ahead old) e (ahead new))

-- the rule goes on so after the step, there is room for what it begins, and it took what stands before a constituent
pub record Begins {T : Type 0} (after : T → Rule) (room : ℕ → T → Type 0) (passes : ℕ → ℕ → T → Type 0) (free : ℕ) (r : Rule) (old : Cursor) (result : Result T Fault) (new : Cursor) : Type 0 where
  pub reads : ContinuesWithin free old r after result new
  pub enough : IfOk result (room free)
  pub shorter : ShortensAs passes old result new
