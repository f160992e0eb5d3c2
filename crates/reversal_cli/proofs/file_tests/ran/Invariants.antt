use Rattle.reversal_cli.proofs.file_tests.ran.Given as goal

abbrev pub ghosts-run_words : goal.ghosts-run_words
ghosts-run_words g a = record { name = a.blank.name; parts = a.blank.parts }
