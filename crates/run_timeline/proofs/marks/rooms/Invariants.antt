use Rattle.std.proofs.Common.{◌≡◌, length, vec_len}
use Rattle.rv_pages.specs.Memory.{page_numbers}
use Rattle.run_timeline.specs.Mark.{HaveRoom}
use Rattle.run_timeline.proofs.marks.rooms.Given as goal

abbrev pub invariant-loop : goal.invariant-loop
invariant-loop l = record {
  len : vec_len l.marks ≡ l.counter;
  room : HaveRoom (length (page_numbers l.state.memory)) l.marks.items;
}
