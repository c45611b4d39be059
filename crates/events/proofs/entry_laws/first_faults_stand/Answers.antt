use Rattle.events.proofs.entry_laws.first_faults_stand.Goals as goal
use Rattle.events.proofs.Growing.{first_faults_stand}

pub returns : goal.returns
returns c = record { law = first_faults_stand }
