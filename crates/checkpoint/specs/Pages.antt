-- Texts as they are written.
use Rattle.std.specs.Prelude.{◌≡◌, ℕ, List, ◌++◌, false}
use Rattle.checkpoint.specs.declared.page.Page.{Page}

-- these bytes are written behind what was, if memory was never wanting
abbrev pub Written : Page → Page → List ℕ → Type 0
Written old new bytes = new.failed ≡ false → (old.failed ≡ false) × (new.bytes.items ≡ old.bytes.items ++ bytes)
