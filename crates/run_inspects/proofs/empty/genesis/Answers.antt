use Rattle.run_inspects.proofs.empty.genesis.Goals as goal

pub returns : goal.returns
returns g c =
    let d = c.genesis_made.ensures in
    record { ends = d.ends; all = d.all; part = d.part; write_fault = d.write_fault; complete = d.complete }
