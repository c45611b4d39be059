use Rattle.replays.proofs.run_laws.each_list_leads_or_stops.Goals as goal
use Rattle.replays.proofs.Lists.{each_list_leads_or_stops}

pub returns : goal.returns
returns c = record { law = each_list_leads_or_stops }
