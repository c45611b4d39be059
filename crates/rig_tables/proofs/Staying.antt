-- All shards stay in hand.
use Rattle.std.proofs.Common.{◌≡◌, ◌≢◌, ◌<◌, ◌+◌, ℕ, Bool, true, false, refl, sym, ap, subst, ◌∙◌, arith}
use mathlib.Core.Logic.{dite}
use native.Mathlib.Decide.{ℕ_discrete}
use Rattle.std.specs.Prelude.{Option, Some, None, IsSome, is_some, MatchOption}
use Rattle.hub_scenes.specs.Spaces.{Part}
use Rattle.hub_scenes.specs.Entries.{Deed}
use Rattle.replay_slots.specs.Hands.{InHand, shard_at, TouchedBecome, AllBecome}
use Rattle.replay_store.specs.Stores.{AreAll}

-- what is there
there : {A : Type 0} (o : Option A) → IsSome o → (x : A) × (o ≡ Some x)
there None h = cc h
there (Some x) h = (x, refl)

is-some : {A : Type 0} (o : Option A) (x : A) → o ≡ Some x → IsSome o
is-some o x e = ap is_some e

-- after a row has arrived in some
pub after-arrival : (touched : ℕ → Bool) (d : Deed) (old new : InHand) → TouchedBecome touched d old new → AreAll old → AreAll new
after-arrival touched d old new b h k lt = go (touched k) refl
  where
    x : (p : Part) × (shard_at old k ≡ Some p)
    x = there (shard_at old k) (h k lt)

    go : (c : Bool) → touched k ≡ c → IsSome (shard_at new k)
    go true e = let y = b.there k x.0 x.1 e in is-some (shard_at new k) y.0 y.1
    go false e = is-some (shard_at new k) x.0 (b.others k e ∙ x.1)

-- after a step is done
pub after-step : (d : Deed) (old new : InHand) → AllBecome d old new → AreAll old → AreAll new
after-step d old new b h k lt =
    let x = there (shard_at old k) (h k lt) in
    let y = b.there k x.0 x.1 in
    is-some (shard_at new k) y.0 y.1

-- one more is put in hand
pub one-more : (n : ℕ) (old new : InHand) (x : Part) → shard_at new n ≡ Some x → ((k : ℕ) → k ≢ n → shard_at new k ≡ shard_at old k) → ((k : ℕ) → k < n → IsSome (shard_at old k)) → (k : ℕ) → k < n + 1 → IsSome (shard_at new k)
one-more n old new x here others h k lt =
    dite (ℕ_discrete k n)
    (λ e. is-some (shard_at new k) x (ap (shard_at new) e ∙ here))
    (λ d. subst IsSome (sym (others k d)) (h k (omega (arith, lt, d))))

nothing : {A : Type 0} (x : A) → None ≡ Some x → ⊥
nothing x e = cc e

one : {A : Type 0} (x y : A) → Some x ≡ Some y → x ≡ y
one x y e = cc e

-- what is said of an answer that is there
pub at-some : {A : Type 0} (o : Option A) (x : A) (P : Type 0) (Q : A → Type 0) → o ≡ Some x → MatchOption o P Q → Q x
at-some None x P Q e m = absurd (nothing x e)
at-some (Some y) x P Q e m = subst Q (one y x e) m
