-- What a maker has made.
use Rattle.std.specs.Prelude.{◌≡◌, ℕ, List, false}
use Rattle.normal_parts.specs.InScope.{within}
use Rattle.normalizer.specs.declared.maker.Maker.{Maker}

-- where memory suffices now, it sufficed before, the scope is as it was, and this is so of what was made
abbrev pub Made : Maker → Maker → Type 0 → Type 0
Made old new done = new.failed ≡ false → (old.failed ≡ false) × (new.scope ≡ old.scope) × done

-- where memory suffices now, it sufficed before, and these names have joined the scope
abbrev pub Joined : Maker → Maker → List (List ℕ) → Type 0
Joined old new names = new.failed ≡ false → (old.failed ≡ false) × (new.scope ≡ within names old.scope)
