use Rattle.library_tests.proofs.digest_tests.workers_take_the_digests_of_a_unit.Given as goal

abbrev pub ghosts-take_digests : goal.ghosts-take_digests
ghosts-take_digests g a = record { name = a.blank.name; parts = a.blank.parts }
