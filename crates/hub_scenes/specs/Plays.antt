-- Entries that seats of a hub draw while a deploy runs, each with the shards that it touches.
use Rattle.std.specs.Prelude.{◌≤◌, ◌^◌, ⊤, ℕ, Bool, true, false, List, [], ◌∷◌, map as each, min, Option, Some, None, is_some}
use Rattle.calculus.specs.Rows.{Row}
use Rattle.calculus.specs.Steps.{is_one_of}
use Rattle.calculus.specs.Runs.{Deploy, Work}
use Rattle.events.specs.Events.{AreFresh}
use Rattle.events.specs.EventLaws.{Begins}
use Rattle.events.specs.Entries.{Space, first_space, Making, Entry, after, after_all, price_in}
use Rattle.events.specs.Allowed.{IsAllowed}
use Rattle.events.specs.EntryLaws.{CostsAtLeast}
use Rattle.events.specs.Shards.{changed_rows, Covers}

-- an entry, and the shards that it touches
pub record TouchingEntry : Type 0 where
  pub entry : Entry
  pub touched : ℕ → Bool

-- the entries alone
abbrev pub entries_of : List TouchingEntry → List Entry
entries_of es = each (λ e. e.entry) es

-- the greatest price of an entry
abbrev pub most_price : ℕ
most_price = 2 ^ 56

-- what an entry costs: the price of its step, and never more than the greatest
abbrev pub capped_price : Option Making → ℕ
capped_price x = min (price_in x) most_price

-- whether an entry ends the work of its operation: it was stored, or leaves by its step
abbrev pub ends_work : Row → Option Making → Bool
ends_work o None = true
ends_work o (Some a) = is_one_of o.id a.gone

-- whether a step that was made has a faulting body
abbrev pub has_fault : Option Making → Bool
has_fault None = false
has_fault (Some a) = is_some a.fault

-- An entry may be drawn in a space: it is allowed there; it touches the shards of all rows that come or leave by it, if digests so far are fresh; and it costs no more than the greatest price.
pub record MayBeDrawn (deploy : Deploy) (space : Space) (e : TouchingEntry) : Type 0 where
  pub allowed : IsAllowed deploy space e.entry
  pub covers : AreFresh deploy space.made → Covers e.touched (changed_rows space.store e.entry.operation e.entry.making)
  pub cheap : price_in e.entry.making ≤ most_price

-- an entry costs no more than the greatest price, and a step no less than steps do without their bodies
pub record IsPriced (deploy : Deploy) (e : TouchingEntry) : Type 0 where
  pub cheap : price_in e.entry.making ≤ most_price
  pub dear : CostsAtLeast deploy.prices.comm e.entry

-- each of these entries may be drawn after those before it, from this space on
abbrev pub AreDrawnFrom : Deploy → Space → List TouchingEntry → Type 0
AreDrawnFrom deploy space [] = ⊤
AreDrawnFrom deploy space (e ∷ es) = MayBeDrawn deploy space e × AreDrawnFrom deploy (after space e.entry) es

-- the space of a deploy, whose source came to this work, after entries
abbrev pub space_after_all : Deploy → Work → List TouchingEntry → Space
space_after_all deploy source es = after_all (first_space deploy source) (entries_of es)

-- the source of a deploy comes to this work, and each of these entries may be drawn after those before it
pub record IsPlay (deploy : Deploy) (source : Work) (es : List TouchingEntry) : Type 0 where
  pub begins : Begins deploy source
  pub drawn : AreDrawnFrom deploy (first_space deploy source) es
