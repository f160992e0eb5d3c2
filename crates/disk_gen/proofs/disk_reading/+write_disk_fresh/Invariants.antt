use Rattle.disk_gen.proofs.disk_reading.+write_disk_fresh.Given as goal

abbrev pub decreases-write_disk_fresh : goal.decreases-write_disk_fresh
decreases-write_disk_fresh l = l.l
