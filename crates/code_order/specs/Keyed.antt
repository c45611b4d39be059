-- Things beside the bytes by which they are put in order.
use Rattle.std.specs.Prelude.{ℕ, List, Vec}
use Rattle.std.specs.declared.alloc.Global.{Global}

-- bytes, and what they stand beside
abbrev pub beside : {A : Type 0} → Vec ℕ Global × A → List ℕ × A
beside p = (p.0.items, p.1)
