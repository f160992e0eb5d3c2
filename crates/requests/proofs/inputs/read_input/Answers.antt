use Rattle.std.proofs.Common.{◌≡◌, ◌<◌, ℕ, List, length, Ok, Some, ap, subst, inr, rules}
use Rattle.std.specs.FinMap as finmap
use Rattle.keepers.specs.Claims.{WhereTold}
use Rattle.endings.specs.Outcomes.{too_long}
use Rattle.requests.proofs.InputSequence.{longer_there}
use Rattle.requests.proofs.inputs.read_input.Goals as goal

pub returns-in-Ok-Longer : goal.returns-in-Ok-Longer
returns-in-Ok-Longer g c =
    let told = g.I.Inputs.told c.args.inputs.now in
    let name = c.args.input.now.name.now in
    let L : ℕ → Type 0 = λ n. (c.too_long.result ≡ too_long c.args.place n)
    × ((bytes : List ℕ) × (n < length bytes) × WhereTold told (λ files. finmap.get files name ≡ Some bytes)) in
    let longer = longer_there told name c.limit-limit.result (c.in-Ok-Longer.ensures.longer (ap (λ w. Ok w) c.in-Ok-Longer.field-0-is)) in
    record {
      read = search rules;
      stops = inr (inr (subst L c.limit-limit.ensures (c.too_long.ensures, longer)));
      same = search rules;
      asks = search rules;
      may_ask = search rules;
      quiet = search rules;
      cause = search rules;
    }
