-- What the loops over turns keep.
use Rattle.std.specs.Prelude.{◌≡◌, ℕ, ◌<◌, ◌≤◌, true, [], Option}
use Rattle.std.specs.Int.{bit_at}
use Rattle.hub_rule.specs.Counts.{count}
use Rattle.atomic_table.specs.declared.shared.Seat.{Seat}
use Rattle.hub_rule.specs.declared.slot.Slot.{Slot}
use Rattle.hub_rule.specs.declared.view.View.{View}
use Rattle.hub_rule.specs.Meaning.{Meaning}
use Rattle.hub_rule.specs.Rule.{view, since_after, emptied, below, descends, Carries}

-- p took the turns of shards below n, and is now q
pub record Taken {Store E X W : Type 0} (m : Meaning Store E X W) (p q : Seat (Slot X W) (View E X W)) (f : ℕ → Option X) (n : ℕ) : Type 0 where
  pub table : q.table_id ≡ p.table_id
  pub id : q.id ≡ p.id
  pub view : q.me.0 ≡ view p.me.0.parts p.me.0.entries q.me.0.held [] p.me.0.tally p.me.0.pile
  pub out : q.me.1 ≡ emptied q.me.0.held
  pub below : below n q.me.0.held ≡ true
  pub falls : descends q.me.0.held ≡ true
  pub carries : Carries m [] q.me.0.held f

-- p gave back the turns from n on, and is now q
pub record Giving {Store E X W : Type 0} (m : Meaning Store E X W) (p q : Seat (Slot X W) (View E X W)) (f : ℕ → Option X) (n : ℕ) : Type 0 where
  pub table : q.table_id ≡ p.table_id
  pub id : q.id ≡ p.id
  pub parts : q.me.0.parts ≡ p.me.0.parts
  pub entries : q.me.0.entries ≡ p.me.0.entries
  pub tally : q.me.0.tally ≡ p.me.0.tally
  pub pile : q.me.0.pile ≡ p.me.0.pile
  pub since : q.me.0.since ≡ since_after q.me.0.held p.me.0.since
  pub out : q.me.1 ≡ emptied q.me.0.held
  pub below : below n q.me.0.held ≡ true
  pub falls : descends q.me.0.held ≡ true
  pub carries : Carries m q.me.0.since q.me.0.held f

-- p took the turns of the shards whose bits are set and not left, and is now q
pub record Taking {Store E X W : Type 0} (m : Meaning Store E X W) (p q : Seat (Slot X W) (View E X W)) (f : ℕ → Option X) (shards left : ℕ) : Type 0 where
  pub next : ℕ
  pub low : next ≤ 64
  pub taken : Taken m p q f next
  pub numbers : (k : ℕ) → k < next → count k q.me.0.held ≡ bit_at shards k
  pub done : (k : ℕ) → k < next → bit_at left k ≡ 0
  pub same : (k : ℕ) → next ≤ k → k < 64 → bit_at left k ≡ bit_at shards k

-- p gave back the turns whose bits are not left, and is now q
pub record Returning {Store E X W : Type 0} (m : Meaning Store E X W) (p q : Seat (Slot X W) (View E X W)) (f : ℕ → Option X) (left : ℕ) : Type 0 where
  pub next : ℕ
  pub low : next ≤ 64
  pub giving : Giving m p q f next
  pub numbers : (k : ℕ) → k < 64 → bit_at left k ≡ count k q.me.0.held
