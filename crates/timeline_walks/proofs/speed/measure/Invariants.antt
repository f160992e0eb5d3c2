use Rattle.timeline_walks.proofs.speed.measure.Given as goal

abbrev pub ghosts-measure_plain : goal.ghosts-measure_plain
ghosts-measure_plain a = record { name = a.blank.name; parts = a.blank.parts }

abbrev pub ghosts-measure_moves : goal.ghosts-measure_moves
ghosts-measure_moves a = record { name = a.blank.name; parts = a.blank.parts }
