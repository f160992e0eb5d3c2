use Rattle.std.proofs.Common.{◌-◌, ◌≤◌, take, filter, length}
use Rattle.std.specs.List.{flat_map}
use Rattle.rv_pages.specs.Memory.{page_numbers}
use Rattle.state_image.specs.HashInput.{Feeds}
use Rattle.state_image.specs.Image.{is_stored, page_field}
use Rattle.state_image.proofs.image.feed_pages.Given as goal

abbrev pub invariant-loop-index : goal.invariant-loop-index
invariant-loop-index l = record {
  inside : l.from ≤ length (page_numbers l.pages);
  few : l.from ≤ 4096;
  fed : Feeds l.initial.hasher l.hasher (flat_map (page_field l.pages) (filter (is_stored l.pages) (take l.from (page_numbers l.pages))));
}

abbrev pub decreases-loop-index : goal.decreases-loop-index
decreases-loop-index l = 4096 - l.from
