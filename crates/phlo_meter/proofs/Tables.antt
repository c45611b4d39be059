-- Texts that are tables.
use Rattle.std.proofs.Common.{◌≡◌, ap, refl, ℕ, List, Bool, true, false, None, if◌then◌else◌}
use Rattle.std.specs.Str.{IsUtf8, is_utf8}
use Rattle.std.proofs.lemmas.Str.{IsUtf8-from_is_utf8, is_utf8-from_IsUtf8}
use Rattle.toml.specs.Parse.{parse_document}
use Rattle.phlo_meter.specs.PriceTable.{table_of}

pub table_of-text : (bytes : List ℕ) → IsUtf8 bytes → table_of bytes ≡ parse_document bytes
table_of-text bytes h = ap (λ b. if b then parse_document bytes else None) (is_utf8-from_IsUtf8 bytes h)

pub table_of-no_text : (bytes : List ℕ) → (IsUtf8 bytes → ⊥) → table_of bytes ≡ None
table_of-no_text bytes h =
    let by_case : (b : Bool) → is_utf8 bytes ≡ b → table_of bytes ≡ None
    = λ b e. elim b as (λ b. is_utf8 bytes ≡ b → table_of bytes ≡ None) [
      | true ↦ λ e. absurd (h (IsUtf8-from_is_utf8 bytes e))
      | false ↦ λ e. ap (λ b. if b then parse_document bytes else None) e
    ] e
    in by_case (is_utf8 bytes) refl
