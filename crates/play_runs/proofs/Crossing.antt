-- Threads may share prices.
use denote.Param.Send.{IsSync, sendable}
use Rattle.std.proofs.Crossing.{crosses}
use Rattle.price_table.specs.contracts.Prices as Prices

pub prices-sync : IsSync Prices.the_row
prices-sync = search (sendable, crosses) depth 80
