-- One entry over both levels that is read, or set.
use Rattle.std.proofs.Common.{◌≡◌, ◌≢◌, ℕ, ◌<◌, List, map, length, get_or, sym, ap, ◌∙◌, arith}
use Rattle.std.proofs.Math.ListN.{set}
use Rattle.std.proofs.lemmas.List.{length-set, get_or-map, map-set, get_or-set_same, get_or-set_other}
use Rattle.level_book.specs.UnderTable.{Entry, number}
use Rattle.cost_tables.specs.declared.cost.Cost.{Cost}
use Rattle.cost_tables.specs.TableRows.{value_of}

pub cost_read : (costs : List Cost) (r : ℕ) (cost : Cost) → r < length costs → cost ≡ get_or costs r cost → value_of cost ≡ get_or (map value_of costs) r (number 0)
cost_read costs r cost lt is = ap value_of is ∙ sym (get_or-map value_of costs r cost (number 0) lt)

pub cost_set : (costs : List Cost) (r : ℕ) (cost : Cost) → r < length costs → get_or (map value_of (set costs r cost)) r (number 0) ≡ value_of cost
cost_set costs r cost lt = get_or-map value_of (set costs r cost) r cost (number 0) (omega (arith, length-set costs r cost)) ∙ ap value_of (get_or-set_same costs r cost cost lt)

pub cost_kept : (costs : List Cost) (r q : ℕ) (cost : Cost) → q ≢ r → get_or (map value_of (set costs r cost)) q (number 0) ≡ get_or (map value_of costs) q (number 0)
cost_kept costs r q cost ne = ap (λ (xs : List Entry). get_or xs q (number 0)) (map-set value_of costs r cost) ∙ get_or-set_other (map value_of costs) r q (value_of cost) (number 0) ne
