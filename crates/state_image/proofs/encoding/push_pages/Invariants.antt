use Rattle.std.proofs.Common.{◌≡◌, ◌+◌, ◌*◌, ◌-◌, ◌≤◌, ◌++◌, take, filter, length}
use Rattle.std.specs.List.{flat_map}
use Rattle.std.specs.Vec.{vec_len, vec_capacity}
use Rattle.rv_pages.specs.Memory.{page_numbers}
use Rattle.state_image.specs.Image.{is_stored, page_field}
use Rattle.state_image.proofs.encoding.push_pages.Given as goal

abbrev pub invariant-loop-index : goal.invariant-loop-index
invariant-loop-index l = record {
  inside : l.from ≤ length (page_numbers l.pages);
  few : l.from ≤ 4096;
  items : l.into.items ≡ l.initial.into.items ++ flat_map (page_field l.pages) (filter (is_stored l.pages) (take l.from (page_numbers l.pages)));
  room : vec_len l.into + 4100 * (length (page_numbers l.pages) - l.from) ≤ vec_capacity l.into;
  len : vec_len l.into ≤ vec_len l.initial.into + 4100 * l.from;
  reserved : vec_capacity l.initial.into ≤ vec_capacity l.into;
}

abbrev pub decreases-loop-index : goal.decreases-loop-index
decreases-loop-index l = 4096 - l.from
