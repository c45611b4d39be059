-- What a try that is idle asks of a draw.
use Rattle.std.proofs.Common.{◌≡◌, ℕ, Bool, true, false, ◌&&◌, List, [], ◌∷◌, ◌++◌, map, refl, sym, ap, subst, ◌∙◌, nat_lt, eqb}
use Rattle.std.specs.Prelude.{Option}
use Rattle.std.specs.Int.{bit_at}
use Rattle.std.proofs.lemmas.Nat.Bits.{bit_at-zero}
use Rattle.calculus.specs.Tree.{Tree}
use Rattle.calculus.specs.Log.{Step}
use Rattle.calculus.specs.Rows.{Row}
use Rattle.calculus.specs.Runs.{Deploy}
use Rattle.hub_rule.specs.Meaning.{Passes, AllFollow}
use Rattle.hub_rule.specs.Rule.{Carries}
use Rattle.hub_scenes.specs.Spaces.{Part}
use Rattle.hub_scenes.specs.Showing.{IsIdle}
use Rattle.hub_scenes.specs.ReplayPulled.{seen_at}
use Rattle.hub_scenes.proofs.Carrying.{now_of, carried}
use Rattle.replay_hub.specs.declared.deed.Entry.{Entry}
use Rattle.replay_hub.specs.declared.deed.Try.{Try}
use Rattle.replay_hub.specs.declared.deed.Did.{Did}
use Rattle.replay_hub.specs.Values.{try_of, has_bit, values, AreShownIdle}

pub no-bit : (k : ℕ) → has_bit 0 k ≡ false
no-bit k = go (nat_lt k 64) (bit_at 0 k) zero
  where
    zero : bit_at 0 k ≡ 0
    zero = bit_at-zero k

    go : (b : Bool) (n : ℕ) → n ≡ 0 → b && eqb n 1 ≡ false
    go b n e = ap (λ m. b && eqb m 1) e ∙ none b
      where
        none : (b : Bool) → b && false ≡ false
        none true = refl
        none false = refl

module _ {R C S : Type 0} (deploy : Deploy) (ss : List Step) (row : R → Row) (channel : C → Tree) (part : S → Part) where
  -- what the shards in hand tell
  pub tells-idle : (since : List (Entry R C)) (held : List (ℕ × S)) (f : ℕ → Option S) (x : Try C) → Carries (values deploy ss row channel part) since held f → AreShownIdle ss channel part f held x
      → (before : List (ℕ × S)) × AllFollow (values deploy ss row channel part) since held before × IsIdle ss (map (seen_at part) before) (try_of row channel x)
  tells-idle since held f x c idle = let w = now_of (values deploy ss row channel part) f since held c.0 in (w.before, w.follows, idle w.before w.are (λ k h. (w.there k h).2))

  -- the shards in hand stay where an entry touches none
  pub carries-none : (since : List (Entry R C)) (held : List (ℕ × S)) (f : ℕ → Option S) (d : Did R C) → Carries (values deploy ss row channel part) since held f → Carries (values deploy ss row channel part) (since ++ record { did = d; shards = 0 } ∷ []) held f
  carries-none since held f d c = carried (values deploy ss row channel part) f f (record { did = d; shards = 0 }) since held
      (λ k z e. (z, e, subst (λ b. Passes (values deploy ss row channel part) b (record { did = d; shards = 0 }) k z z) (sym (no-bit k)) refl)) (λ k e. e) c
