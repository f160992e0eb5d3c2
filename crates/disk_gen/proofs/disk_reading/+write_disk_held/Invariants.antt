use Rattle.disk_gen.proofs.disk_reading.+write_disk_held.Given as goal

abbrev pub decreases-write_disk_held : goal.decreases-write_disk_held
decreases-write_disk_held l = l.l
