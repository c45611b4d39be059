-- The scene of numbers: each shard is a number, and the work w, which one entry ends, adds 1 to the shard of its remainder by 64 and offers the work w - 64,
-- where w is at least 64.
use Rattle.std.specs.Prelude.{◌≡◌, ℕ, ◌+◌, ◌%◌, ◌^◌, ◌<◌, ◌⊎◌, Bool, true, false, cond, nat_lt, ◌-◌, ◌==◌, List, [], ◌∷◌}
use Rattle.std.proofs.Common.{sym, ap, subst, ◌∙◌, ⊎_elim, arith}
use Rattle.hub_rule.specs.Counts.{Each, things_of}
use Rattle.hub_rule.specs.Meaning.{Meaning, Lawful, store_after}

-- the numbers after a work
abbrev pub added : (ℕ → ℕ) → ℕ → ℕ → ℕ
added st w k = cond (w % 64 == k) (st k + 1) (st k)

-- the shard is the number
abbrev pub IsNumber : (ℕ → ℕ) → ℕ → ℕ → Type 0
IsNumber st k x = st k ≡ x

-- the number that a work adds to stays a u64
abbrev pub InRange : (ℕ → ℕ) → ℕ → Type 0
InRange st w = st (w % 64) + 1 < 2 ^ 64

-- a work touches one shard
abbrev pub touches : ℕ → ℕ → Bool
touches w k = w % 64 == k

-- the number is one more
abbrev pub OneMore : ℕ → ℕ → ℕ → ℕ → Type 0
OneMore w k x y = y ≡ x + 1

-- the shard x of the number n is there
abbrev pub Has : List (ℕ × ℕ) → ℕ → ℕ → Type 0
Has [] n x = ⊥
Has (p ∷ ps) n x = ((p.0 ≡ n) × (p.1 ≡ x)) ⊎ Has ps n x

-- the shard that the work touches is there, and is no greatest u64
abbrev pub HasSpace : List (ℕ × ℕ) → ℕ → Type 0
HasSpace shards w = (x : ℕ) × Has shards (w % 64) x × (x + 1 < 2 ^ 64)

-- each work costs 1
abbrev pub cost_one : ℕ → ℕ
cost_one w = 1

-- no work is a fault
abbrev pub never : ℕ → Bool
never w = false

-- every store and every works
abbrev pub any : (ℕ → ℕ) → List ℕ → Type 0
any st works = Unit {0}

-- an entry takes the work that it is
abbrev pub itself : ℕ → ℕ
itself w = w

-- an entry ends its work
abbrev pub always : ℕ → Bool
always w = true

-- the work that is offered, if one is
abbrev pub offer : ℕ → List ℕ
offer w = cond (nat_lt w 64) [] ((w - 64) ∷ [])

-- the earlier entries on a work tell nothing
abbrev pub tells_space : List (ℕ × ℕ) → List ℕ → ℕ → Type 0
tells_space shards took w = HasSpace shards w

-- what works mean
abbrev pub numbers : Meaning (ℕ → ℕ) ℕ ℕ ℕ
numbers = record { projects = IsNumber; opens = any; takes = itself; ends = always; offers = offer; after = added; allows = InRange; touched = touches; effect = OneMore; price = cost_one; faults = never; tells = tells_space }

shown : (st : ℕ → ℕ) (shards : List (ℕ × ℕ)) (n x : ℕ) → Has shards n x → Each (IsNumber st) shards → st n ≡ x
shown st [] n x h s = absurd h
shown st (p ∷ ps) n x h s = ⊎_elim (λ t. ap st (sym t.0) ∙ (s.0 ∙ t.1)) (λ t. shown st ps n x t s.1) h

-- works keep the laws of a scene
pub lawful : Lawful numbers
lawful = record {
  untouched = λ st w k x z is. subst (λ b. cond b (st k + 1) (st k) ≡ x) (sym z) is;
  projection = λ st w k x y may yes is up. subst (λ b. cond b (st k + 1) (st k) ≡ y) (sym yes) (ap (λ n. n + 1) is ∙ sym up);
  told = λ st works log shards i w opens legal pends all tells. subst (λ n. n + 1 < 2 ^ 64) (sym (shown (store_after numbers st (things_of log)) shards (w % 64) tells.0 tells.1 all)) tells.2;
  cheap = λ w. omega arith;
}
