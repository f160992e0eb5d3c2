use Rattle.std.proofs.Common.{◌≡◌, ◌∷◌, ◌++◌, ◌+◌, ◌-◌, [], ℕ, List, length, refl, sym, ap, subst, ◌∙◌, arith}
use Rattle.std.proofs.lemmas.Grind.{common_steps}
use Rattle.multistage_gen.specs.declared.numbers.Stretches.{Stretches}
use Rattle.multistage_gen.specs.Numbers.{steps_of, count_of, AreAscending}
use Rattle.multistage_gen.proofs.StretchOrder.{ascending_front}
use Rattle.multistage_gen.proofs.StretchTraffic.{AreHeld, all_held, count_few_begun, taken_short, taken_few, taken_slot, above_few, fewer_left, fewer_held, one_taken, split_taken, place_counted}
use Rattle.multistage_gen.proofs.numbers.count_place.Goals as goal

pub count_of-writes-requires : goal.count_of-writes-requires
count_of-writes-requires c =
    let few = count_few_begun c.args.free c.args.stretches.items c.requires.begun in
    omega (arith, few, c.requires.short, ap count_of c.deref.ensures.value)

pub loop-steps-init : goal.loop-steps-init
loop-steps-init c =
    record {
      held =
          subst (λ (above : List Stretches). AreHeld c.args.free c.args.stretches.items c.args.stretches.items above 0) (sym c.new-above.ensures.items)
          (all_held c.args.free c.args.stretches.items c.requires.begun);
      ascending = c.requires.ascending;
      above = subst AreAscending (sym c.new-above.ensures.items) tt;
    }

-- the longest are taken from those that are held
taken : (free : ℕ) (begun before left above : List Stretches) (visits : ℕ) (x : Stretches) → before ≡ left ++ x ∷ [] → AreHeld free begun before above visits →
    AreHeld free begun (left ++ x ∷ []) above visits
taken free begun before left above visits x e is = subst (λ (held : List Stretches). AreHeld free begun held above visits) e is

pub split-ahead-requires-clause-short : goal.split-ahead-requires-clause-short
split-ahead-requires-clause-short c =
    let x = c.in-Some.field-0 in
    let left = c.pop.new.self.items in
    let is = taken c.args.free c.args.stretches.items c.loop-steps.stretches.items left c.loop-steps.above.items c.loop-steps.visits x c.in-Some.ensures.items c.loop-steps.invariant.held in
    omega (arith, c.requires.short, taken_short c.args.free c.args.stretches.items left c.loop-steps.above.items c.loop-steps.visits x is)

pub split-ahead-requires-clause-slots : goal.split-ahead-requires-clause-slots
split-ahead-requires-clause-slots c =
    let x = c.in-Some.field-0 in
    let left = c.pop.new.self.items in
    let is = taken c.args.free c.args.stretches.items c.loop-steps.stretches.items left c.loop-steps.above.items c.loop-steps.visits x c.in-Some.ensures.items c.loop-steps.invariant.held in
    taken_slot c.args.free c.args.stretches.items left c.loop-steps.above.items c.loop-steps.visits x is (omega (arith, c.if-steps-gt1.true))

pub add-requires : goal.add-requires
add-requires c =
    let x = c.in-Some.field-0 in
    let left = c.pop.new.self.items in
    let is = taken c.args.free c.args.stretches.items c.loop-steps.stretches.items left c.loop-steps.above.items c.loop-steps.visits x c.in-Some.ensures.items c.loop-steps.invariant.held in
    record {
      few = omega (arith, c.requires.short, taken_few c.args.free c.args.stretches.items left c.loop-steps.above.items c.loop-steps.visits x is);
      ascending = ascending_front left (x ∷ []) (subst AreAscending c.in-Some.ensures.items c.loop-steps.invariant.ascending);
    }

pub begin_above-requires : goal.begin_above-requires
begin_above-requires c =
    let x = c.in-Some.field-0 in
    let left = c.pop.new.self.items in
    let is = taken c.args.free c.args.stretches.items c.loop-steps.stretches.items left c.loop-steps.above.items c.loop-steps.visits x c.in-Some.ensures.items c.loop-steps.invariant.held in
    record {
      few = omega (arith, c.requires.short, above_few c.args.free c.args.stretches.items left c.loop-steps.above.items c.loop-steps.visits x is);
      ascending = c.loop-steps.invariant.above;
    }

pub loop-steps-smaller-in-Continue-branch-2 : goal.loop-steps-smaller-in-Continue-branch-2
loop-steps-smaller-in-Continue-branch-2 c =
    let x = c.in-Some.field-0 in
    let left = c.pop.new.self.items in
    let is = taken c.args.free c.args.stretches.items c.loop-steps.stretches.items left c.loop-steps.above.items c.loop-steps.visits x c.in-Some.ensures.items c.loop-steps.invariant.held in
    let fewer = fewer_held c.args.free c.args.stretches.items left c.loop-steps.above.items c.loop-steps.visits x is c.split-ahead.result c.add.new.stretches.items
    c.split-ahead.ensures.within.shorter (c.in_ok-add.ensures.weighed (λ l. l)) in
    omega (arith, fewer, ap steps_of c.in-Some.ensures.items)

pub loop-steps-smaller : goal.loop-steps-smaller
loop-steps-smaller c =
    let x = c.in-Some.field-0 in
    let left = c.pop.new.self.items in
    let is = taken c.args.free c.args.stretches.items c.loop-steps.stretches.items left c.loop-steps.above.items c.loop-steps.visits x c.in-Some.ensures.items c.loop-steps.invariant.held in
    let fewer = fewer_left c.args.free c.args.stretches.items left c.loop-steps.above.items c.loop-steps.visits x is in
    omega (arith, fewer, ap steps_of c.in-Some.ensures.items)

-- so many visits more
visited : (free : ℕ) (begun held above : List Stretches) (visits more count : ℕ) → more ≡ count → AreHeld free begun held above (visits + count) → AreHeld free begun held above (visits + more)
visited free begun held above visits more count same is = subst (λ (n : ℕ). AreHeld free begun held above (visits + n)) (sym same) is

pub loop-steps-preserved : goal.loop-steps-preserved
loop-steps-preserved c =
    let x = c.in-Some.field-0 in
    let left = c.pop.new.self.items in
    let is = taken c.args.free c.args.stretches.items c.loop-steps.stretches.items left c.loop-steps.above.items c.loop-steps.visits x c.in-Some.ensures.items c.loop-steps.invariant.held in
    record {
      held =
          visited c.args.free c.args.stretches.items left c.loop-steps.above.items c.loop-steps.visits c.from-visits.result x.count c.from-visits.ensures
          (one_taken c.args.free c.args.stretches.items left c.loop-steps.above.items c.loop-steps.visits x is (omega (arith, c.if-steps-gt1.false)));
      ascending = ascending_front left (x ∷ []) (subst AreAscending c.in-Some.ensures.items c.loop-steps.invariant.ascending);
      above = c.loop-steps.invariant.above;
    }

pub loop-steps-preserved-in-Continue-branch-2 : goal.loop-steps-preserved-in-Continue-branch-2
loop-steps-preserved-in-Continue-branch-2 c =
    let x = c.in-Some.field-0 in
    let left = c.pop.new.self.items in
    let is = taken c.args.free c.args.stretches.items c.loop-steps.stretches.items left c.loop-steps.above.items c.loop-steps.visits x c.in-Some.ensures.items c.loop-steps.invariant.held in
    record {
      held =
          visited c.args.free c.args.stretches.items c.add.new.stretches.items c.begin_above.new.above.items c.loop-steps.visits c.from-visits.result x.count c.from-visits.ensures
          (split_taken c.args.free c.args.stretches.items left c.loop-steps.above.items c.loop-steps.visits x is c.split-ahead.result c.add.new.stretches.items c.begin_above.new.above.items
          (omega (arith, c.if-steps-gt1.true)) c.split-ahead.ensures.value c.split-ahead.ensures.within c.in_ok-add.ensures.weighed c.in_ok-add.ensures.all
          c.in_ok-begin_above.ensures.weighed c.in_ok-begin_above.ensures.short c.in_ok-begin_above.ensures.all);
      ascending = c.in_ok-add.ensures.ascending;
      above = c.in_ok-begin_above.ensures.ascending;
    }

none_left : (xs : List Stretches) → length xs ≡ 0 → xs ≡ []
none_left [] e = refl
none_left (x ∷ xs) e = absurd (omega (arith, e))

pub returns-clause-counted : goal.returns-clause-counted
returns-clause-counted c =
    let few : length c.loop-steps.stretches.items ≡ 0 = grind (arith, common_steps, c.loop-steps.stretches.ok, c.in_default.ensures, c.in_default.not-Some) in
    let none = none_left c.loop-steps.stretches.items few in
    place_counted c.args.free c.args.stretches.items c.loop-steps.above.items c.loop-steps.visits c.count_of-writes.result (c.loop-steps.visits - c.count_of-writes.result) c.requires.begun
    (subst (λ (held : List Stretches). AreHeld c.args.free c.args.stretches.items held c.loop-steps.above.items c.loop-steps.visits) none c.loop-steps.invariant.held)
    (c.count_of-writes.ensures ∙ ap count_of c.deref.ensures.value) refl
