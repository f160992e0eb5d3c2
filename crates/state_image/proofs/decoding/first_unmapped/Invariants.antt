use Rattle.std.proofs.Common.{◌≡◌, ℕ, ◌<◌, length, Contains}
use Rattle.rv_pages.specs.Memory.{page_numbers}
use Rattle.state_image.specs.ImageForm.{page_number}
use Rattle.state_image.specs.Decoder.{MarksNamed}
use Rattle.state_image.proofs.decoding.first_unmapped.Given as goal

-- the pages so far are mapped, and only pages of the bytes are marked
abbrev pub invariant-loop-k : goal.invariant-loop-k
invariant-loop-k l = record {
  room : length l.named ≡ 4096;
  mapped : (j : ℕ) → j < l.k → Contains (page_numbers l.pages) (page_number l.bytes j);
  marked : MarksNamed l.bytes (page_numbers l.pages) l.named;
}
