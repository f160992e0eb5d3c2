use Rattle.std.proofs.Common.{List, sym, subst}
use Rattle.std.specs.List.{AllByRecursion, flat_map}
use Rattle.requests.specs.Request.{Choice}
use Rattle.requests.specs.Bounds.{option_numbers, IsWithin, RefusesFirst}
use Rattle.requests.proofs.Requests.{all_both, one_more, no_more}
use Rattle.requests.proofs.NumberTests.{first_front, first_behind}
use Rattle.requests.proofs.request.options_refusal.Goals as goal

pub returns-in-Some-refusal : goal.returns-in-Some-refusal
returns-in-Some-refusal c =
    let P : List Choice → Type 0 = λ l. RefusesFirst (flat_map option_numbers l) c.in-Some-refusal.refusal in
    c.loop-choice.invariant.first c.in-Some-refusal.refusal
    (subst P (sym (one_more _ _ _ c.in-Some.ensures).options) (first_front _ _ c.in-Some-refusal.refusal c.in-Some-refusal.ensures))

pub loop-choice-preserved : goal.loop-choice-preserved
loop-choice-preserved c =
    let here = sym (one_more _ _ _ c.in-Some.ensures).options in
    let P : List Choice → Type 0 = λ l. AllByRecursion IsWithin (flat_map option_numbers l) in
    record {
      all = λ rest. c.loop-choice.invariant.all (subst P here (all_both IsWithin _ _ c.in_default-refusal.ensures rest));
      first = λ e rest. let Q : List Choice → Type 0 = λ l. RefusesFirst (flat_map option_numbers l) e in c.loop-choice.invariant.first e (subst Q here (first_behind _ _ e c.in_default-refusal.ensures rest));
    }

pub returns : goal.returns
returns c =
    let P : List Choice → Type 0 = λ l. AllByRecursion IsWithin (flat_map option_numbers l) in
    c.loop-choice.invariant.all (subst P (sym (no_more _ c.in_default.ensures).options) tt)
