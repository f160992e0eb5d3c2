use Rattle.std.proofs.Common.{◌≡◌, ◌<◌, ◌≤◌, Some, true, false, nat_eq, length, ap, sym, ◌∙◌, arith}
use Rattle.std.proofs.lemmas.List.{drop_all}
use Rattle.std.specs.Ordering.{nat_cmp}
use Rattle.std.specs.Cmp.Lexicographic.{slice_cmp, pointwise}
use Rattle.std.specs.FinMap as finmap
use Rattle.std.specs.FinMap.{get-empty}
use Rattle.memory_disk.specs.Changes.{files_after}
use Rattle.memory_disk.proofs.FileSearch.{bytes_of, found_here, found_later}
use Rattle.memory_disk.proofs.MemoryDisk.find.Goals as goal

pub loop-change-init : goal.loop-change-init
loop-change-init c = ap (λ cs. finmap.get (files_after cs) c.args.name.now) (sym c.deref-change-items.ensures.value)

pub returns-in-Some : goal.returns-in-Some
returns-in-Some c =
    let inside : c.loop-change.change-index < length c.deref-change-items.result.now = omega arith in
    let same : pointwise nat_eq c.change-item.result.name.items c.args.name.now ≡ true = cc (c.eq.ensures, c.as_slice.ensures.value, c.if-eq.true) in
    c.loop-change.invariant ∙ found_here c.args.name.now _ c.loop-change.change-index c.change-item.result inside c.change-item.is same
    ∙ ap bytes_of c.in-Some.is ∙ ap Some (sym c.as_slice-in-Some.ensures.value)

pub returns-in-None : goal.returns-in-None
returns-in-None c =
    let inside : c.loop-change.change-index < length c.deref-change-items.result.now = omega arith in
    let same : pointwise nat_eq c.change-item.result.name.items c.args.name.now ≡ true = cc (c.eq.ensures, c.as_slice.ensures.value, c.if-eq.true) in
    c.loop-change.invariant ∙ found_here c.args.name.now _ c.loop-change.change-index c.change-item.result inside c.change-item.is same
    ∙ ap bytes_of c.in-None.is

pub loop-change-preserved : goal.loop-change-preserved
loop-change-preserved c =
    let inside : c.loop-change.change-index < length c.deref-change-items.result.now = omega arith in
    let other : pointwise nat_eq c.change-item.result.name.items c.args.name.now ≡ false = cc (c.eq.ensures, c.as_slice.ensures.value, c.if-eq.false) in
    c.loop-change.invariant ∙ found_later c.args.name.now _ c.loop-change.change-index c.change-item.result inside c.change-item.is other

pub returns : goal.returns
returns c =
    let past : length c.deref-change-items.result.now ≤ c.loop-change.change-index = omega arith in
    c.loop-change.invariant ∙ ap (λ cs. finmap.get (files_after cs) c.args.name.now) (drop_all c.loop-change.change-index c.deref-change-items.result.now past) ∙ get-empty (slice_cmp nat_cmp) c.args.name.now
