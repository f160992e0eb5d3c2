use Rattle.std.proofs.Common.{◌≡◌, ℕ, ◌+◌, ◌*◌, ◌%◌, List, Some, length, ap, sym, ◌∙◌, arith}
use Rattle.std.proofs.lemmas.List.{get_or_read}
use Rattle.rv_pages.specs.Memory.{number_at}
use Rattle.rv_pages.proofs.MemoryReads.{half_kept, number_not_kept}
use Rattle.rv_pages.proofs.pages.Pages.load16.Goals as goal

pub returns-in_err-start : goal.returns-in_err-start
returns-in_err-start c =
    let missing = c.in_err-start.ensures c.self.inside.numbers.items c.self.invariant.found in
    c.from_residual.ensures
    ∙ sym (number_not_kept c.self.inside.numbers.items c.self.inside.bytes.items c.self.invariant.kept c.args.at 2 c.ranges.at.fits (omega arith) missing)
    ∙ ap (λ m. number_at m c.args.at 2) c.self.view_is

pub returns : goal.returns
returns c =
    let bytes : List ℕ = c.self.inside.bytes.items in
    let found = c.in_ok-start.ensures c.self.inside.numbers.items c.self.invariant.found in
    let whole : length bytes ≡ 4096 * length c.self.inside.numbers.items = c.self.invariant.kept.whole in
    let start : ℕ = c.in_ok-start.field-0 * 4096 + c.args.at % 4096 in
    let low = get_or_read bytes start c.index.result.now (omega (arith, found.0)) c.index.ensures 0 in
    let high = get_or_read bytes (start + 1) c.index-2.result.now (omega (arith, found.0)) c.index-2.ensures 0 in
    ap Some (c.from_le_bytes.ensures ∙ omega (arith, low, high))
    ∙ sym (half_kept c.self.inside.numbers.items bytes c.self.invariant.kept c.in_ok-start.field-0 c.args.at found.0 found.1 (omega arith))
    ∙ ap (λ m. number_at m c.args.at 2) c.self.view_is
