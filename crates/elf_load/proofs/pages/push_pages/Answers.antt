use Rattle.std.proofs.Common.{◌≡◌, ℕ, ◌+◌, ◌-◌, List, ◌∷◌, [], ◌++◌, sym, ap, ◌∙◌, arith, append_assoc}
use Rattle.std.specs.List.{range_with_len}
use Rattle.elf_load.proofs.Lists.{range_more}
use Rattle.elf_load.proofs.pages.push_pages.Goals as goal

pushed_more : (old : List ℕ) (from page : ℕ) (items new : List ℕ) → items ≡ old ++ range_with_len from (page - from) → new ≡ items ++ page ∷ [] → page - from + from ≡ page → new ≡ old ++ range_with_len from (page + 1 - from)
pushed_more old from page items new before is place =
    let next : page - from + 1 ≡ page + 1 - from = omega arith in
    let last : page ≡ from + (page - from) = omega arith in
    is ∙ ap (λ xs. xs ++ page ∷ []) before
    ∙ append_assoc old (range_with_len from (page - from)) (page ∷ [])
    ∙ ap (λ k. old ++ (range_with_len from (page - from) ++ k ∷ [])) last
    ∙ ap (λ xs. old ++ xs) (sym (range_more from (page - from)) ∙ ap (range_with_len from) next)

pub loop-page-preserved : goal.loop-page-preserved
loop-page-preserved c = record {
  pushed = pushed_more c.args.numbers.now.items c.args.from c.loop-page.page c.loop-page.numbers.items c.push.new.self.items c.loop-page.invariant.pushed c.in_ok-push.ensures.items (omega arith);
  within = omega arith;
}

pub returns : goal.returns
returns c =
    let end : c.loop-page.page - c.args.from ≡ c.args.to - c.args.from = omega (arith, c.loop-page.invariant.within) in
    c.loop-page.invariant.pushed ∙ ap (λ n. c.args.numbers.now.items ++ range_with_len c.args.from n) end
