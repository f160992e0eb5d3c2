use Rattle.std.proofs.Common.{get_or, sym, ◌∙◌, ap}
use Rattle.std.specs.FinSet as set
use Rattle.std.specs.Ordering.{nat_cmp}
use Rattle.schedule_rules.proofs.BitsLemmas.{set_of-zeros, zeros_read}
use Rattle.schedule_rules.proofs.positions.Positions.new.Goals as goal

pub returns-clause-empty : goal.returns-clause-empty
returns-clause-empty c =
    set_of-zeros c.in_ok-words.words.items (λ i. ap (λ ws. get_or ws i 0) (c.in_ok-words.ensures.items_if_clones_equal (λ y e. e)) ∙ zeros_read _ i)

pub invariant_of-result-clause-counted : goal.invariant_of-result-clause-counted
invariant_of-result-clause-counted c =
    let empty = set_of-zeros c.in_ok-words.words.items (λ i. ap (λ ws. get_or ws i 0) (c.in_ok-words.ensures.items_if_clones_equal (λ y e. e)) ∙ zeros_read _ i) in
    sym (ap set.len empty ∙ set.len-empty nat_cmp)
