use Rattle.reversal_gdb.proofs.main.Given as goal

abbrev pub ghosts-session : goal.ghosts-session
ghosts-session g a = record { name = a.blank.name; parts = a.blank.parts }
