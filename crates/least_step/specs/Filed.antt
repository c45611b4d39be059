-- Sends that are filed by the codes of their channels.
use Rattle.std.specs.Prelude.{◌≡◌, ℕ, Bool, false, cond, List, [], ◌∷◌, ◌++◌, map as each, Option, Some, None, IsSome, All}
use Rattle.std.specs.Borrow.{Bor}
use Rattle.std.specs.List.{filter}
use Rattle.std.specs.Map.{lookup}
use Rattle.std.specs.Ordering.{is_eq}
use Rattle.std.specs.Str.{bytes_eq}
use Rattle.std.specs.declared.alloc.Global.{Global}
use Rattle.std.specs.declared.vec.Vec.{Vec}
use Rattle.calculus.specs.Code.{code}
use Rattle.calculus.specs.Form.{term}
use Rattle.calculus.specs.Order.{byte_cmp}
use Rattle.calculus.specs.Rows.{channels, Row}
use Rattle.calculus.specs.Steps.{Datum, as_datum}
use Rattle.calculus.specs.Tree.{Tree}
use Rattle.match_targets.specs.Targets.{Ready}
use Rattle.least_step.specs.Orders.{referred}

-- whether these bytes are the code of a datum's channel, where there is one
abbrev pub has_code : List ℕ → Option Datum → Bool
has_code key None = false
has_code key (Some d) = bytes_eq key (code d.channel)

-- whether a row is a send on the channel with this code
abbrev pub is_on : List ℕ → Row → Bool
is_on key r = has_code key (as_datum r.part)

-- the channel of a row that is a send is closed and short
abbrev pub HasReadyChannel : Row → Type 0
HasReadyChannel r = (d : Datum) → as_datum r.part ≡ Some d → Ready term d.channel

-- rows, where there are such
abbrev pub rows_in : Option (Vec (Bor Row) Global) → List Row
rows_in None = []
rows_in (Some v) = each referred v.items

-- what a map has under a code
abbrev pub filed : List ℕ → List (Vec ℕ Global × Vec (Bor Row) Global) → List Row
filed key es = rows_in (lookup (λ (k : Vec ℕ Global). is_eq (byte_cmp key k.items)) es)

-- a map has a place under a code
abbrev pub HasPlaceAt : List ℕ → List (Vec ℕ Global × Vec (Bor Row) Global) → Type 0
HasPlaceAt key es = IsSome (lookup (λ (k : Vec ℕ Global). is_eq (byte_cmp key k.items)) es)

-- a map has a place for the sends on a channel, under the code of this
abbrev pub HasPlace : Tree → List (Vec ℕ Global × Vec (Bor Row) Global) → Type 0
HasPlace c es = (key : Vec ℕ Global) → key.items ≡ code c → HasPlaceAt key.items es

-- a map has a place for each channel of a row that is a receiver
abbrev pub IsAwaited : Row → List (Vec ℕ Global × Vec (Bor Row) Global) → Type 0
IsAwaited r es = as_datum r.part ≡ None → All (λ c. HasPlace c es) (channels r.part)

-- a map has a place for each channel that a receiver of these rows waits on
abbrev pub AreAwaited : List Row → List (Vec ℕ Global × Vec (Bor Row) Global) → Type 0
AreAwaited rows es = All (λ r. IsAwaited r es) rows

-- each place of a map has the sends of these rows on the channel with its code, in the order of these rows; the channels of all sends are closed and short
pub record AreFiled (rows : List Row) (es : List (Vec ℕ Global × Vec (Bor Row) Global)) : Type 0 where
  pub ready : All HasReadyChannel rows
  pub under : (key : Vec ℕ Global) → HasPlaceAt key.items es → filed key.items es ≡ filter (is_on key.items) rows

-- a row was put under a code, after those that were there, where there is a place, and the places stay
pub record IsPutUnder (key : List ℕ) (r : Row) (es ds : List (Vec ℕ Global × Vec (Bor Row) Global)) : Type 0 where
  pub kept : (x : Vec ℕ Global) → HasPlaceAt x.items es → HasPlaceAt x.items ds
  pub old : (x : Vec ℕ Global) → HasPlaceAt x.items ds → HasPlaceAt x.items es
  pub under : (x : Vec ℕ Global) → HasPlaceAt x.items es → filed x.items ds ≡ cond (is_eq (byte_cmp key x.items)) (filed x.items es ++ r ∷ []) (filed x.items es)
