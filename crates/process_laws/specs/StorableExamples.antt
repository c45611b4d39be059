-- Examples of rows that may be stored and of channels that are apart, and of some that are not.
use Rattle.std.specs.Prelude.{[], ◌∷◌}
use Rattle.calculus.specs.Examples.{num}
use Rattle.calculus.specs.Rows.{stdout, stdout_ack}
use Rattle.process_laws.specs.Storing.{join_on}
use Rattle.process_laws.specs.StorableLaws.{AreStorable, AreApart}

-- rows that may be stored and channels that are apart, and some that are not
pub record StorableRowExamples : Type 0 where
  -- the two built-in receivers and `for (@x <- @1; @y <- @2) { Nil }`
  pub all_storable : AreStorable (stdout ∷ stdout_ack ∷ join_on 1 2 ∷ [])
  -- a receiver whose binds stand the other way round, after one that may be stored
  pub all_count : AreStorable (stdout ∷ join_on 2 1 ∷ []) → ⊥
  -- `@1`, `@2` and `@3`
  pub apart : AreApart (num 1 ∷ num 2 ∷ num 3 ∷ [])
  -- `@1`, `@2` and `@1`
  pub last_is_first : AreApart (num 1 ∷ num 2 ∷ num 1 ∷ []) → ⊥
