use Rattle.calculus_laws.proofs.laws.nil_offers_nothing.Goals as goal
use Rattle.calculus_laws.proofs.Least.{nil_offers_nothing}

pub returns : goal.returns
returns c = record { law = nil_offers_nothing }
