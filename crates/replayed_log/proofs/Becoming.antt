-- What becomes of shards in hand.
use Rattle.std.proofs.Common.{◌≡◌, ℕ, Bool, true, false, refl, ◌∙◌}
use Rattle.std.specs.Prelude.{Some}
use Rattle.hub_scenes.specs.Spaces.{Part}
use Rattle.hub_scenes.specs.Entries.{Deed}
use Rattle.replay_slots.specs.Hands.{InHand, shard_at, TouchedBecome}
use Rattle.replay_slots.specs.Hands.{AllBecome as AllShardsBecome}
use Rattle.replay_worker.specs.Looking.{Becomes, AllBecome}
use Rattle.replayed_log.proofs.Showing.{part}

-- after an arrival
pub arrived : (touched : ℕ → Bool) (d : Deed) (old new : InHand) → TouchedBecome touched d old new → AllBecome part touched d (shard_at old) (shard_at new)
arrived touched d old new b = record { there = λ k x e. go k x e (touched k) refl; absent = b.absent }
  where
    go : (k : ℕ) (x : Part) → shard_at old k ≡ Some x → (c : Bool) → touched k ≡ c → (y : Part) × (shard_at new k ≡ Some y) × Becomes part c d k x y
    go k x e true f = b.there k x e f
    go k x e false f = (x, b.others k f ∙ e, refl)

-- after a done step
pub finished : (d : Deed) (old new : InHand) → AllShardsBecome d old new → AllBecome part (λ k. true) d (shard_at old) (shard_at new)
finished d old new b = record { there = b.there; absent = b.absent }
