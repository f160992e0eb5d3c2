use Rattle.timeline_walks.proofs.WalksCases.difference.Given as goal

abbrev pub ghosts-first_wrong : goal.ghosts-first_wrong
ghosts-first_wrong a = record { name = a.blank.name; parts = a.blank.parts }
