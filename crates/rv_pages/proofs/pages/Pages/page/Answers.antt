use Rattle.std.proofs.Common.{◌≡◌, ◌<◌, ◌+◌, ◌-◌, ◌*◌, ap, sym, ◌∙◌, length, take, drop, get_or, arith}
use Rattle.rv_pages.specs.Memory.{page_bytes}
use Rattle.rv_pages.proofs.Numbers.{seen_numbers}
use Rattle.rv_pages.proofs.Bytes.{kept_bytes}
use Rattle.rv_pages.proofs.pages.Pages.page.Goals as goal

pub slice_bounds-result-end : goal.slice_bounds-result-end
slice_bounds-result-end c =
    let mapped = ap length (seen_numbers c.self.inside.numbers.items c.self.inside.bytes.items _ c.self.invariant.kept c.self.view_is) in
    omega (arith, mapped)

pub returns-clause-value : goal.returns-clause-value
returns-clause-value c =
    let mapped = seen_numbers c.self.inside.numbers.items c.self.inside.bytes.items _ c.self.invariant.kept c.self.view_is in
    let below : c.args.index < length c.self.inside.numbers.items = omega (arith, ap length mapped) in
    let size : c.args.index * 4096 + 4096 - c.args.index * 4096 ≡ 4096 = omega arith in
    ap (λ n. take n (drop (c.args.index * 4096) c.deref.result.now)) size
    ∙ ap (λ bytes. take 4096 (drop (c.args.index * 4096) bytes)) c.deref.ensures.value
    ∙ sym (kept_bytes c.self.inside.numbers.items c.self.inside.bytes.items c.self.invariant.kept c.args.index below)
    ∙ ap (λ m. page_bytes m (get_or c.self.inside.numbers.items c.args.index 0)) c.self.view_is
    ∙ ap (λ ns. page_bytes c.args.self.now (get_or ns c.args.index 0)) (sym mapped)
