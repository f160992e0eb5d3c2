use Rattle.std.proofs.Common.{◌≡◌, ℕ, ◌*◌, ◌<◌, ◌≤◌, slice_index_or, vec_len}
use Rattle.run_timeline.specs.declared.mark.Mark.{Mark}
use Rattle.run_timeline.specs.Mark.{HaveRoom}
use Rattle.run_timeline.proofs.marks.gather.Given as goal

-- those in front are every second one, and those behind twice the place are where they were
abbrev pub invariant-loop-i : goal.invariant-loop-i
invariant-loop-i l = record {
  gathered : (j : ℕ) (d : Mark) → j < l.i → slice_index_or l.marks.items j d ≡ slice_index_or l.fn.marks.items (2 * j) d;
  rest : (j : ℕ) (d : Mark) → 2 * l.i ≤ j → slice_index_or l.marks.items j d ≡ slice_index_or l.fn.marks.items j d;
  pages : (n : ℕ) → HaveRoom n l.fn.marks.items → HaveRoom n l.marks.items;
  len : vec_len l.marks ≡ vec_len l.fn.marks;
}
