-- The made input is read.
use Rattle.std.proofs.Common.{◌≡◌, ℕ, ◌<◌, ◌^◌, Option, Some, None, IfSome, refl}
use Rattle.calculus.specs.Bare.{bare}
use Rattle.calculus.specs.Tree.{Tree}
use Rattle.input_faults.specs.Refusals.{Refusal}
use Rattle.made_input.specs.MadeInput.{made_text}
use Rattle.source_laws.proofs.MadeSources.{made_inputs_are_sound}
use Rattle.scope.specs.NormalForm.{normal_form}
use Rattle.sources.specs.Sources.{IsRefused, IsSourceOf}
use Rattle.sources.proofs.Answering.{not_both}

-- it spells a process that breaks no rule
has_source : (steps : ℕ) → steps < 2 ^ 32 → (t : Tree) × IsSourceOf (made_text steps) t
has_source steps small =
    let s = made_inputs_are_sound steps small in (
      normal_form (bare s.process),
      record {
        process = s.process;
        accepted = record { spelt = record { spanned = s.spanned; tokens = s.tokens; height = s.height; within = s.within; spells = s.spells }; sound = s.sound };
        normal = refl;
      },
    )

-- so it is refused for nothing
pub no_refusal : (steps : ℕ) → steps < 2 ^ 32 → (o : Option Refusal) → IfSome o (IsRefused (made_text steps)) → o ≡ None
no_refusal steps small None h = refl
no_refusal steps small (Some r) h = let s = has_source steps small in absurd (not_both (made_text steps) s.0 r s.1 h)
