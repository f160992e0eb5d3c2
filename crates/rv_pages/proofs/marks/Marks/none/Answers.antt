use Rattle.std.proofs.Common.{◌/◌, inl, inr, replicate}
use Rattle.std.proofs.lemmas.Bool.{cases_lt}
use Rattle.std.proofs.lemmas.List.{get_or-replicate, get_or_past}
use Rattle.rv_pages.proofs.MarkOperations.{no_word}
use Rattle.rv_pages.proofs.marks.Marks.none.Goals as goal

pub returns-clause-marks : goal.returns-clause-marks
returns-clause-marks c = λ k. no_word (replicate 64 0) k (elim (cases_lt (k / 64) 64) [ inl l ↦ get_or-replicate 64 (k / 64) 0 0 l | inr r ↦ get_or_past (replicate 64 0) (k / 64) 0 r ])
