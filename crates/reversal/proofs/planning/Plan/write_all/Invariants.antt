use Rattle.std.proofs.Common.{◌≡◌, ◌≤◌, length}
use Rattle.std.specs.List.{AllByRecursion}
use Rattle.std.specs.Vec.{vec_capacity}
use Rattle.level_book.specs.BookCosts.{names_of}
use Rattle.action_text.specs.Canonical.{HasSpelling}
use Rattle.reversal.specs.ActionsLeft.{left_of}
use Rattle.reversal.specs.Plans.{line_of_action}
use Rattle.reversal.specs.JobModel.{certificate_pieces, pieces_of}
use Rattle.reversal.proofs.Pieces.{IsWritten}
use Rattle.reversal.proofs.planning.Plan.write_all.Given as goal

-- Some pieces were written, and behind them stand those of the actions that are still to come, and the certificate, if there is one.
abbrev pub invariant-loop-out : goal.invariant-loop-out
invariant-loop-out g l = record {
  so_far : IsWritten (line_of_action (names_of l.fn.self.book)) (pieces_of l.fn.self) (certificate_pieces l.fn.self.certificate) (left_of l.self.actions) (g.O.Sink.told l.fn.out) (g.O.Sink.told l.out) (g.O.Sink.call_count l.fn.out) (g.O.Sink.call_count l.out);
  spelled : AllByRecursion (HasSpelling (names_of l.self.book)) (left_of l.self.actions);
  room : 5184 ≤ vec_capacity l.self.piece;
  book : l.self.book ≡ l.fn.self.book;
  certificate : l.self.certificate ≡ l.fn.self.certificate;
  faults : g.O.Sink.fault_count l.out ≡ g.O.Sink.fault_count l.fn.out;
}

abbrev pub decreases-loop-out : goal.decreases-loop-out
decreases-loop-out g l = length (left_of l.self.actions)
