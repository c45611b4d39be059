-- Seven prices as they are listed, and their ranges.
use Rattle.std.specs.Prelude.{◌≤◌}
use Rattle.calculus.specs.Outcome.{Prices}
use Rattle.price_table.specs.declared.PriceList.{PriceList}

-- the prices of a list
abbrev pub prices_listed : PriceList → Prices
prices_listed l = record { comm = l.comm; send = l.send; receive = l.receive; name = l.name; case = l.cases; op = l.op; byte = l.byte }

-- the list of these prices
abbrev pub list_of : Prices → PriceList
list_of p = record { comm = p.comm; send = p.send; receive = p.receive; name = p.name; cases = p.case; op = p.op; byte = p.byte }

-- each price is at most 1,000,000, and that of a step at least 1
abbrev pub AreInRange : PriceList → Type 0
AreInRange l =
    (1 ≤ l.comm) × (l.comm ≤ 1000000) × (l.send ≤ 1000000) × (l.receive ≤ 1000000) × (l.name ≤ 1000000)
    × (l.cases ≤ 1000000) × (l.op ≤ 1000000) × (l.byte ≤ 1000000)
