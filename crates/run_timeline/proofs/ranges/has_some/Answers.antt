use Rattle.std.proofs.Common.{◌<◌, ◌+◌, ◌-◌, ◌%◌, sym, ◌∙◌, arith, inl, inr}
use Rattle.std.proofs.lemmas.Bool.{lt-ltb, le-ltb, cases_lt}
use Rattle.run_timeline.proofs.Overlap.{empty_has_none, none_has_none, start_among, no_other_way}
use Rattle.run_timeline.proofs.ranges.has_some.Goals as goal
use Rattle.run_timeline.proofs.ranges.has_some.Goals.{then-span-eq0-via-then-span-eq0, then-span-eq0-via-else-span-eq0+then-range-eq0}

pub returns-else-span-range : goal.returns-else-span-range
returns-else-span-range c =
    let r = c.args.range.now in
    let s = c.args.span.now in
    let start : r.start < 4294967296 = omega arith in
    let at : s.at < 4294967296 = omega arith in
    elim (cases_lt ((r.start + (4294967296 - s.at)) % 4294967296) s.count) [
      | inl near ↦ lt-ltb _ _ near ∙ sym (start_among r s.at s.count at start (omega arith) near)
      | inr far ↦ le-ltb _ _ far ∙ sym (no_other_way r s.at s.count at start (omega arith) far)
    ]

pub returns-then-span-eq0 : goal.returns-then-span-eq0
returns-then-span-eq0 c =
    let r = c.args.range.now in
    let s = c.args.span.now in
    elim c.then-span-eq0.branch [
      | then-span-eq0-via-then-span-eq0 w ↦ sym (none_has_none r s.at s.count w.if-span-eq0.true)
      | then-span-eq0-via-else-span-eq0+then-range-eq0 w ↦ sym (empty_has_none r s.at s.count w.if-range-eq0.true)
    ]
