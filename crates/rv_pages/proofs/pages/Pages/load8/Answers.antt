use Rattle.std.proofs.Common.{◌≡◌, ℕ, ◌+◌, ◌*◌, ◌<◌, ◌%◌, ◌^◌, Some, length, ap, sym, ◌∙◌, arith}
use Rattle.std.proofs.lemmas.List.{get_or_read}
use Rattle.std.specs.FinMap.{get}
use Rattle.rv_pages.specs.Memory.{byte_at}
use Rattle.rv_pages.specs.PageLayout.{memory_kept}
use Rattle.rv_pages.proofs.EntryOrder.{get_kept}
use Rattle.rv_pages.proofs.MemoryReads.{byte_not_kept}
use Rattle.rv_pages.proofs.pages.Pages.load8.Goals as goal

pub returns-in_err-index : goal.returns-in_err-index
returns-in_err-index c =
    let missing = c.in_err-index.ensures c.self.inside.numbers.items c.self.invariant.found in
    c.from_residual.ensures
    ∙ sym (byte_not_kept c.self.inside.numbers.items c.self.inside.bytes.items c.self.invariant.kept c.args.at c.ranges.at.fits missing)
    ∙ ap (λ m. byte_at m c.args.at) c.self.view_is

pub returns : goal.returns
returns c =
    let found = c.in_ok-index.ensures c.self.inside.numbers.items c.self.invariant.found in
    let same : c.args.at % 2 ^ 32 ≡ c.args.at = omega arith in
    let whole : length c.self.inside.bytes.items ≡ 4096 * length c.self.inside.numbers.items = c.self.invariant.kept.whole in
    let place : ℕ = c.in_ok-index.index * 4096 + c.args.at % 4096 in
    let inside : place < length c.self.inside.bytes.items = omega (arith, found.0) in
    ap Some (get_or_read c.self.inside.bytes.items place c.index.result.now inside c.index.ensures 0)
    ∙ sym (ap (get (memory_kept c.self.inside.numbers.items c.self.inside.bytes.items)) same ∙ get_kept c.self.inside.numbers.items c.self.inside.bytes.items c.self.invariant.kept c.in_ok-index.index c.args.at found.0 found.1)
    ∙ ap (λ m. byte_at m c.args.at) c.self.view_is
