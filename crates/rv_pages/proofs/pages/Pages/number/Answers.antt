use Rattle.std.proofs.Common.{◌<◌, ap, ◌∙◌, length, arith}
use Rattle.std.proofs.lemmas.Option.{slice_get_read}
use Rattle.std.specs.List.{slice_get}
use Rattle.rv_pages.proofs.Numbers.{seen_numbers}
use Rattle.rv_pages.proofs.pages.Pages.number.Goals as goal

pub index-requires : goal.index-requires
index-requires c =
    let mapped = ap length (seen_numbers c.self.inside.numbers.items c.self.inside.bytes.items _ c.self.invariant.kept c.self.view_is) in
    omega (arith, mapped)

pub returns : goal.returns
returns c =
    let mapped = seen_numbers c.self.inside.numbers.items c.self.inside.bytes.items _ c.self.invariant.kept c.self.view_is in
    let below : c.args.index < length c.self.inside.numbers.items = omega (arith, ap length mapped) in
    ap (λ ns. slice_get ns c.args.index) mapped ∙ slice_get_read c.self.inside.numbers.items _ c.args.index c.index.result.now (λ i. length c.self.inside.numbers.items) below c.index.ensures
