use Rattle.std.proofs.Common.{◌≡◌, ◌<◌, Some, true, false, nat_eq, length, ap, sym, ◌∙◌, arith}
use Rattle.std.specs.Cmp.Lexicographic.{pointwise, nat_list_cmp_total}
use Rattle.std.specs.FinMap as finmap
use Rattle.std.specs.FinMap.{get-from_entries}
use Rattle.keepers.proofs.InputSearch.{found_from, found_here, found_later}
use Rattle.keepers.proofs.memory_inputs.MemoryInputs.find.Goals as goal

pub loop-key-init : goal.loop-key-init
loop-key-init c =
    ap (λ s. finmap.get s.files c.args.name.now) (sym c.self.view_is)
    ∙ get-from_entries nat_list_cmp_total _ c.args.name.now
    ∙ ap (found_from 0 c.args.name.now) (sym c.deref-key-items.ensures.value)

pub returns-then-eq : goal.returns-then-eq
returns-then-eq c =
    let inside : c.loop-key.key-index < length c.deref-key-items.result.now = omega arith in
    let same : pointwise nat_eq c.loop-key-item.result.0.items c.args.name.now ≡ true = cc (c.eq.ensures, c.as_slice.ensures.value, c.if-eq.true) in
    c.loop-key.invariant ∙ found_here c.args.name.now _ c.loop-key.key-index c.loop-key-item.result inside c.loop-key-item.is same
    ∙ ap Some (sym c.as_slice-then-eq.ensures.value)

pub loop-key-preserved : goal.loop-key-preserved
loop-key-preserved c =
    let inside : c.loop-key.key-index < length c.deref-key-items.result.now = omega arith in
    let other : pointwise nat_eq c.loop-key-item.result.0.items c.args.name.now ≡ false = cc (c.eq.ensures, c.as_slice.ensures.value, c.if-eq.false) in
    c.loop-key.invariant ∙ found_later c.args.name.now _ c.loop-key.key-index c.loop-key-item.result inside c.loop-key-item.is other
