use Rattle.image_store.proofs.Common.{◌≡◌, List, length, Option, sym, ◌∙◌, ap, subst, ◌+◌, arith, replicate, pairs_in, SharesOut}
use Rattle.image_store.specs.declared.shelf.Kept.{Kept}
use Rattle.image_store.proofs.SlotAllocation.{shares_all}
use Rattle.image_store.proofs.Places.{pairs_none}
use Rattle.image_store.proofs.shelf.Shelf.new.Goals as goal

pub invariant_of-result : goal.invariant_of-result
invariant_of-result c =
    let prints = c.in_ok-fingerprints.fingerprints.items in
    let places : c.in_ok-places.places.items ≡ replicate (c.args.steps + 1) 0 = c.in_ok-places.ensures.items_if_clones_equal (λ y same. same) in
    let none = ap (pairs_in prints) places ∙ pairs_none prints (c.args.steps + 1) in
    let all : c.loop-above.above ≡ c.args.room = omega arith in
    let long : length c.loop-above.free.items ≡ c.args.room = c.loop-above.invariant.long ∙ all in
    record {
      shares = subst (λ (ps : List (Option Kept)). SharesOut ps c.loop-above.free.items c.args.room) (sym none)
          (shares_all (c.args.steps + 1) c.args.room c.loop-above.free.items long (λ i low. c.loop-above.invariant.each i (omega (arith, low, all))));
      each = (let some = c.in_ok-fingerprints.ensures.len in let is = c.in_ok-fingerprints.fingerprints.ok.0 in omega (arith, some, is, long));
      small = omega (arith, long);
    }

pub returns : goal.returns
returns c =
    let prints = c.in_ok-fingerprints.fingerprints.items in
    let places : c.in_ok-places.places.items ≡ replicate (c.args.steps + 1) 0 = c.in_ok-places.ensures.items_if_clones_equal (λ y same. same) in
    let none = ap (pairs_in prints) places ∙ pairs_none prints (c.args.steps + 1) in
    let all : c.loop-above.above ≡ c.args.room = omega arith in
    let long : length c.loop-above.free.items ≡ c.args.room = c.loop-above.invariant.long ∙ all in
    λ i. record { pairs = none i; room = long i }
