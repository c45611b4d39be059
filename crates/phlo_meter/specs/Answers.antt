-- What is answered for what a text says.
use Rattle.std.specs.Prelude.{◌≡◌, Result, Ok, Err, ⊤, string_bytes}
use Rattle.phlo_meter.specs.PriceTable.{Refusal, not_toml, missing, not_integer, out_of_range, unknown}
use Rattle.phlo_meter.specs.declared.fault.PriceFault.{PriceFault}
use Rattle.phlo_meter.specs.declared.fault.PriceFault.TheVariants.{NotToml, MissingKey, NotInteger, OutOfRange, UnknownKey, NoMemory}

-- the fault is this refusal, or memory ran out
abbrev pub Refuses : {Y : Type 0} → PriceFault → Result Y Refusal → Type 0
Refuses NotToml said = said ≡ Err not_toml
Refuses (MissingKey key) said = said ≡ Err (missing (string_bytes key))
Refuses (NotInteger key) said = said ≡ Err (not_integer (string_bytes key))
Refuses (OutOfRange key value) said = said ≡ Err (out_of_range (string_bytes key) value)
Refuses (UnknownKey key) said = said ≡ Err (unknown (string_bytes key))
Refuses NoMemory said = ⊤

-- the answer, seen so, is what the text says, unless memory ran out
abbrev pub GivesAs : {X Y : Type 0} → (X → Y) → Result X PriceFault → Result Y Refusal → Type 0
GivesAs view (Ok x) said = said ≡ Ok (view x)
GivesAs view (Err e) said = Refuses e said

-- the answer is what the text says, unless memory ran out
abbrev pub Gives : {Y : Type 0} → Result Y PriceFault → Result Y Refusal → Type 0
Gives result said = GivesAs (λ x. x) result said
