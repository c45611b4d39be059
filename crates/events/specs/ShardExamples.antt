-- Examples of shards. The channels 1 and 3 have the shard 18, and the channel 2 has the shard 1.
use Rattle.std.specs.Prelude.{◌≡◌, ℕ, Bool, true, false, ◌||◌, eqb, List, [], ◌∷◌, Some, None}
use Rattle.calculus.specs.Examples.{num, nil, sent, heard, on, a_var, row_of}
use Rattle.calculus.specs.Rows.{Row}
use Rattle.events.specs.EventExamples.{the_step}
use Rattle.events.specs.Allowed.{MeetsNothing}
use Rattle.events.specs.EntryExamples.{idle}
use Rattle.events.specs.Shards.{shards_of, rows_in, changed_rows, Covers, shard_after}
use Rattle.events.specs.Hands.{shows, HoldShown, rows_of_all, is_in_hand, AreProjections}

-- a send of one Int on a channel
abbrev pub send_on : List ℕ → ℕ → Row
send_on x n = row_of x (sent (num n) (num 5 ∷ []))

-- a receive that joins two channels
abbrev pub join_on : List ℕ → ℕ → ℕ → Row
join_on x m n = row_of x (heard (on (num m) (a_var ∷ []) ∷ on (num n) (a_var ∷ []) ∷ []) nil)

-- a send on 1
abbrev pub the_send : Row
the_send = send_on (1 ∷ []) 1

-- a send on 2
abbrev pub the_other : Row
the_other = send_on (2 ∷ []) 2

-- a join of 1 and 2
abbrev pub the_join : Row
the_join = join_on (3 ∷ []) 1 2

-- a store of the join and the send on 2
abbrev pub the_store : List Row
the_store = the_join ∷ the_other ∷ []

-- one of two shards
abbrev pub either_shard : ℕ → ℕ → ℕ → Bool
either_shard i j k = eqb k i || eqb k j

-- which rows stand in which shards
pub record StandingExamples : Type 0 where
  -- a send stands in one shard
  pub send : shards_of the_send ≡ 18 ∷ []
  -- a receive stands in that of each of its channels
  pub join : shards_of the_join ≡ 18 ∷ 1 ∷ []
  -- which may be one
  pub one_shard : shards_of (join_on (3 ∷ []) 1 3) ≡ 18 ∷ 18 ∷ []
  -- the rows of each shard
  pub first : rows_in 18 (the_send ∷ the_store) ≡ the_send ∷ the_join ∷ []
  pub second : rows_in 1 (the_send ∷ the_store) ≡ the_join ∷ the_other ∷ []
  pub neither : rows_in 0 (the_send ∷ the_store) ≡ []

-- what entries make of shards
pub record EntryExamples : Type 0 where
  -- an operation comes to its own shards alone
  pub put : shard_after 18 (the_join ∷ []) the_send None ≡ the_join ∷ the_send ∷ []
  pub put_elsewhere : shard_after 1 (the_join ∷ the_other ∷ []) the_send None ≡ the_join ∷ the_other ∷ []
  -- a join that leaves does so in both of its shards
  pub join_leaves : shard_after 1 (the_join ∷ the_other ∷ []) the_send (Some (idle the_step ((3 ∷ []) ∷ (1 ∷ []) ∷ (2 ∷ []) ∷ []) [])) ≡ []
  -- so its step touches both
  pub both_touched : Covers (either_shard 18 1) (changed_rows the_store the_send (Some (idle the_step ((3 ∷ []) ∷ (1 ∷ []) ∷ (2 ∷ []) ∷ []) [])))
  -- and not that of the operation alone
  pub one_is_not_all : Covers (eqb 18) (changed_rows the_store the_send (Some (idle the_step ((3 ∷ []) ∷ (1 ∷ []) ∷ (2 ∷ []) ∷ []) []))) → ⊥
  -- an operation that is stored touches its own
  pub put_touched : Covers (eqb 18) (changed_rows the_store the_send None)

-- what shards in hand show of the send on 1, where the join and the send on 2 are stored
pub record HandExamples : Type 0 where
  -- the shard of its channel shows the join, and so the shard of the other channel
  pub shown : shows (the_join ∷ []) the_send 1 ≡ true
  -- no other
  pub not_shown : shows (the_join ∷ []) the_send 0 ≡ false
  -- a join of another channel in the same shard shows nothing
  pub another_channel : shows (join_on (3 ∷ []) 3 2 ∷ []) the_send 1 ≡ false
  -- a join shows its own shards
  pub of_join : shows [] the_join 1 ≡ true
  -- the projections to both shards, in which the join stands twice
  pub projections : AreProjections the_store ((18, the_join ∷ []) ∷ (1, the_other ∷ the_join ∷ []) ∷ [])
  -- one shard alone is not all that is shown
  pub one_is_not_all : HoldShown (is_in_hand ((18, the_join ∷ []) ∷ [])) (rows_of_all ((18, the_join ∷ []) ∷ [])) the_send → ⊥
  -- and would tell that the send meets nothing
  pub one_tells_wrong : MeetsNothing (rows_of_all ((18, the_join ∷ []) ∷ [])) the_send
  -- where it meets stored rows
  pub meets : MeetsNothing the_store the_send → ⊥
  -- both are
  pub both : HoldShown (is_in_hand ((18, the_join ∷ []) ∷ (1, the_other ∷ the_join ∷ []) ∷ [])) (rows_of_all ((18, the_join ∷ []) ∷ (1, the_other ∷ the_join ∷ []) ∷ [])) the_send
