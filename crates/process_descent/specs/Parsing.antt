-- What the methods of the parser promise.
use Rattle.std.specs.Prelude.{ℕ, ◌≤◌, IfOk, Result, length}
use Rattle.form_parts.specs.declared.part.Part.{Part}
use Rattle.grammar.specs.declared.fault.Fault.{Fault}
use Rattle.grammar.specs.Rules.{Rule, Sort}
use Rattle.grammar.specs.Values.{Spelt}
use Rattle.token_cursor.specs.Meaning.{view}
use Rattle.token_cursor.specs.Reading.{Gives, Makes}
use Rattle.token_cursor.specs.declared.cursor.Cursor.{Cursor}

-- The result and the tokens that are left are what the sort comes to, where so many forms may be opened. What was read is no higher than that, and no
-- more tokens are left than before.
pub record Parses {T : Type 0} (free : ℕ) (s : Sort) (of : Part T → Spelt) (old : Cursor) (result : Result (Part T) Fault) (new : Cursor) : Type 0 where
  pub reads : Gives free s of (view old.rest.now) result (view new.rest.now)
  pub room : IfOk result (λ p. p.height ≤ free)
  pub shorter : length new.rest.now ≤ length old.rest.now

-- the same of what is left of a production
pub record ParsesRule {T : Type 0} (free : ℕ) (r : Rule) (of : Part T → Spelt) (old : Cursor) (result : Result (Part T) Fault) (new : Cursor) : Type 0 where
  pub reads : Makes free r of (view old.rest.now) result (view new.rest.now)
  pub room : IfOk result (λ p. p.height ≤ free)
  pub shorter : length new.rest.now ≤ length old.rest.now
