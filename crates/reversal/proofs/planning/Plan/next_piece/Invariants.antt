use Rattle.std.proofs.Common.{◌≡◌, ◌≤◌, ◌-◌, ◌*◌, length, map, take, drop}
use Rattle.std.specs.List.{AllByRecursion}
use Rattle.std.specs.Vec.{vec_len, vec_capacity}
use Rattle.level_book.specs.BookCosts.{names_of}
use Rattle.action_text.specs.Canonical.{HasSpelling}
use Rattle.reversal.specs.ActionsLeft.{left_of}
use Rattle.reversal.specs.Plans.{line_of_action}
use Rattle.reversal.specs.Deeds.{bytes_of}
use Rattle.reversal.proofs.planning.Plan.next_piece.Given as goal

-- the piece has the lines of so many actions, and those behind them are still to come
abbrev pub invariant-loop-count : goal.invariant-loop-count
invariant-loop-count l = record {
  actions : (left_of l.self.actions) ≡ drop l.count (left_of l.fn.self.actions);
  piece : l.self.piece.items ≡ bytes_of (take l.count (map (line_of_action (names_of l.fn.self.book)) (left_of l.fn.self.actions)));
  spelled : AllByRecursion (HasSpelling (names_of l.self.book)) (left_of l.self.actions);
  few : l.count ≤ 64;
  within : l.count ≤ length (left_of l.fn.self.actions);
  short : vec_len l.self.piece ≤ 81 * l.count;
  room : 5184 ≤ vec_capacity l.self.piece;
  book : l.self.book ≡ l.fn.self.book;
  certificate : l.self.certificate ≡ l.fn.self.certificate;
}

abbrev pub decreases-loop-count : goal.decreases-loop-count
decreases-loop-count l = 64 - l.count
