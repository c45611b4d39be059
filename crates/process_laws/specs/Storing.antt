-- Examples of rows that may be stored or not.
use Rattle.std.specs.Prelude.{ℕ, [], ◌∷◌}
use Rattle.calculus.specs.Seeds.{digest_of, System}
use Rattle.calculus.specs.Tree.{Tree}
use Rattle.calculus.specs.Examples.{num, nil, sent, heard, on, a_var, the_name, row_of}
use Rattle.calculus.specs.Rows.{Row, stdout, stdout_ack}
use Rattle.calculus.specs.Storing.{IsStorable}

-- this part with an id
abbrev pub with_id : Tree → Row
with_id t = row_of (digest_of (System 0)) t

-- a join of two data on these channels
abbrev pub join_on : ℕ → ℕ → Row
join_on m n = with_id (heard (on (num m) (a_var ∷ []) ∷ on (num n) (a_var ∷ []) ∷ []) nil)

-- which rows may be stored
pub record StoringExamples : Type 0 where
  -- `@1!(5)`
  pub datum : IsStorable (with_id (sent (num 1) (num 5 ∷ [])))
  -- `for (@x <- @1; @y <- @2) { Nil }`
  pub join : IsStorable (join_on 1 2)
  -- the built-in receivers
  pub prints : IsStorable stdout
  pub prints_and_answers : IsStorable stdout_ack
  -- the same binds the other way round
  pub falling : IsStorable (join_on 2 1) → ⊥
  -- both binds on one channel
  pub one_channel : IsStorable (join_on 1 1) → ⊥
  -- no binds
  pub no_binds : IsStorable (with_id (heard [] nil)) → ⊥
  -- a channel that nothing binds
  pub open_channel : IsStorable (with_id (sent (the_name 0) [])) → ⊥
  -- an id of one byte
  pub short_id : IsStorable (row_of (1 ∷ []) (sent (num 1) [])) → ⊥
