use Rattle.replays.proofs.run_laws.each_process_leads.Goals as goal
use Rattle.replays.proofs.Leading.{each_process_leads}

pub returns : goal.returns
returns c = record { law = each_process_leads }
