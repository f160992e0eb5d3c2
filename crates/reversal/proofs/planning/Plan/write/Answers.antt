use Rattle.reversal.proofs.planning.Plan.write.Goals as goal

pub returns : goal.returns
returns g c = c.write_all.ensures
