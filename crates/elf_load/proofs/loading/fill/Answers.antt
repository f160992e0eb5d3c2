use Rattle.std.proofs.Common.{◌≡◌, ℕ, ◌+◌, ◌-◌, ◌≤◌, List, length, get_or, take, drop, ap, sym, subst, ◌∙◌, arith, IsTrue}
use Rattle.std.proofs.lemmas.List.{length-take, length-drop, get_or_default}
use Rattle.rv_pages.specs.Memory.{IsMapped, with_bytes}
use Rattle.elf_load.specs.declared.segment.Segment.{Segment}
use Rattle.elf_load.proofs.LoadedMemory.{filled_more, all_still_mapped}
use Rattle.elf_load.proofs.loading.fill.Goals as goal

pub loop-segment-preserved : goal.loop-segment-preserved
loop-segment-preserved c =
    let file : List ℕ = c.args.file.now in
    let d : Segment = record { index = 0; offset = 0; address = 0; file_size = 0; memory_size = 0 } in
    let s : Segment = get_or c.args.segments.now c.loop-segment.segment-index d in
    let whole : s.offset + s.file_size - s.offset ≡ s.file_size = omega arith in
    let inside : s.offset + s.file_size ≤ length file = c.requires.inside c.loop-segment.segment-index d c.loop-segment-test.true in
    let long : length (take (s.offset + s.file_size - s.offset) (drop s.offset file)) ≡ s.file_size = omega (arith, length-take (s.offset + s.file_size - s.offset) (drop s.offset file), length-drop s.offset file) in
    let yes : IsTrue c.store_bytes.result = c.store_bytes.ensures.stored.1 (subst (IsMapped c.loop-segment.pages s.address) (sym long) (c.loop-segment.invariant.mapped c.loop-segment.segment-index d c.loop-segment-test.true)) in
    let written : c.store_bytes.new.self ≡ with_bytes c.loop-segment.pages s.address (take s.file_size (drop s.offset file)) = c.store_bytes.ensures.written yes ∙ ap (λ n. with_bytes c.loop-segment.pages s.address (take n (drop s.offset file))) whole in
    record {
      stored = filled_more file c.args.segments.now c.loop-segment.segment-index c.args.pages.now c.loop-segment.pages c.store_bytes.new.self s c.loop-segment-test.true (get_or_default c.args.segments.now c.loop-segment.segment-index d s c.loop-segment-test.true) c.loop-segment.invariant.stored written;
      mapped = all_still_mapped c.loop-segment.pages c.store_bytes.new.self s.address (take s.file_size (drop s.offset file)) c.args.segments.now written c.loop-segment.invariant.mapped;
    }
