use Rattle.std.proofs.Common.{◌≡◌, ◌-◌, ◌≤◌, ◌∷◌, [], List, length, refl, sym, subst, arith}
use Rattle.std.proofs.lemmas.Grind.{common_steps}
use Rattle.multistage_gen.specs.declared.traffic.PlaceTraffic.{PlaceTraffic}
use Rattle.multistage_gen.specs.declared.numbers.Stretches.{Stretches}
use Rattle.multistage_gen.specs.Numbers.{AreCounted}
use Rattle.multistage_gen.proofs.StretchTraffic.{free_slot, place_more, all_counted}
use Rattle.multistage_gen.proofs.numbers.revolve_places.Goals as goal

pub loop-alloc-init : goal.loop-alloc-init
loop-alloc-init c =
    record {
      counted =
          subst (λ (places : List PlaceTraffic). AreCounted c.args.steps c.args.slots c.args.slots places c.in_ok-stretches.stretches.items) (sym c.new-places.ensures.items)
          (c.in_ok-stretches.ensures.counted c.args.slots c.requires.plan);
      ascending = c.in_ok-stretches.ensures.ascending;
    }

pub overflow_sub-free : goal.overflow_sub-free
overflow_sub-free c =
    let some : 1 ≤ length c.loop-alloc.stretches.items = grind (arith, common_steps, c.loop-alloc.stretches.ok, c.is_empty.ensures, c.loop-alloc-test.true) in
    free_slot c.loop-alloc.free c.loop-alloc.stretches.items c.loop-alloc.invariant.counted.all some

pub loop-alloc-smaller : goal.loop-alloc-smaller
loop-alloc-smaller c =
    let some : 1 ≤ length c.loop-alloc.stretches.items = grind (arith, common_steps, c.loop-alloc.stretches.ok, c.is_empty.ensures, c.loop-alloc-test.true) in
    let slot = free_slot c.loop-alloc.free c.loop-alloc.stretches.items c.loop-alloc.invariant.counted.all some in
    omega (arith, slot)

pub loop-alloc-preserved : goal.loop-alloc-preserved
loop-alloc-preserved c =
    let some : 1 ≤ length c.loop-alloc.stretches.items = grind (arith, common_steps, c.loop-alloc.stretches.ok, c.is_empty.ensures, c.loop-alloc-test.true) in
    let more = place_more c.args.steps c.args.slots c.loop-alloc.free c.loop-alloc.places.items c.loop-alloc.stretches.items c.in_ok-traffic.above.items c.in_ok-traffic.traffic
    c.loop-alloc.invariant.counted some c.in_ok-traffic.ensures.counted in
    record {
      counted = subst (λ (places : List PlaceTraffic). AreCounted c.args.steps c.args.slots (c.loop-alloc.free - 1) places c.in_ok-traffic.above.items) (sym c.in_ok-push.ensures.items) more;
      ascending = c.in_ok-traffic.ensures.ascending;
    }

none_left : (xs : List Stretches) → length xs ≡ 0 → xs ≡ []
none_left [] e = refl
none_left (x ∷ xs) e = absurd (omega (arith, e))

pub returns : goal.returns
returns c level =
    let none : length c.loop-alloc.stretches.items ≡ 0 = grind (arith, common_steps, c.loop-alloc.stretches.ok, c.is_empty.ensures, c.loop-alloc-test.false) in
    all_counted level c.args.steps c.args.slots c.loop-alloc.free c.loop-alloc.places.items
    (subst (λ (held : List Stretches). AreCounted c.args.steps c.args.slots c.loop-alloc.free c.loop-alloc.places.items held) (none_left c.loop-alloc.stretches.items none) c.loop-alloc.invariant.counted)
