use Rattle.std.proofs.Common.{◌≡◌, ◌<◌, ℕ, ◌+◌, [], List, length, take, drop, slice_index, sym, ap, subst, ◌∙◌, arith}
use Rattle.rv_pages.specs.Memory.{page_numbers}
use Rattle.run_timeline.specs.KeptPages.{AreZero, HaveSamePages, KeepsFrom}
use Rattle.run_timeline.proofs.PageIndices.{kept_first, same_cleared, same_set, same_memory, drop_all}
use Rattle.run_timeline.proofs.mark.give_pages.Goals as goal

pub split_at-requires : goal.split_at-requires
split_at-requires c =
    let ns = page_numbers c.args.pages.now in
    let w = c.requires in
    (kept_first ns w.0 c.loop-index.next c.loop-index.index-index c.args.indices.now c.loop-index.rest.now (omega arith) (c.loop-index.invariant.rest w.0 w.1)).3

pub loop-index-preserved : goal.loop-index-preserved
loop-index-preserved c =
    let ns = page_numbers c.args.pages.now in
    let k : ℕ = c.loop-index.index-index in
    let is : List ℕ = c.args.indices.now in
    let index : ℕ = slice_index is k in
    let rest : List ℕ = c.loop-index.rest.now in
    let inv = c.loop-index.invariant in
    let inside : k < length is = omega arith in
    let front : c.split_at.result.0.now ≡ take 4096 rest = c.split_at.ensures.front in
    let back : c.split_at.result.1.now ≡ drop 4096 rest = c.split_at.ensures.back in
    let old = c.loop-index.pages in
    let clear = c.clear_pages.new.pages in
    let still : page_numbers clear ≡ ns = c.clear_pages.ensures.numbers ∙ inv.numbers in
    record {
      numbers = c.set_page.ensures.pages ∙ still;
      rest = λ m kept. subst (λ (xs : List ℕ). KeepsFrom ns m (index + 1) (drop (k + 1) is) xs) (sym back) (kept_first ns m c.loop-index.next k is rest inside (inv.rest m kept)).5;
      same = λ m memory e kept.
          let f = kept_first ns m c.loop-index.next k is rest inside (inv.rest m kept) in
          let high : index < length ns = f.1 in
          let others : HaveSamePages ns old clear c.loop-index.next = subst (λ (xs : List ℕ). HaveSamePages xs old clear c.loop-index.next) inv.numbers c.clear_pages.ensures.others in
          let zeros : AreZero ns clear c.loop-index.next index = subst (λ (xs : List ℕ). AreZero xs clear c.loop-index.next index) inv.numbers c.clear_pages.ensures.zero in
          let cleared : HaveSamePages ns m clear index = same_cleared ns m old clear c.loop-index.next index memory c.clear_pages.ensures.memory e still (omega (arith, high)) (inv.same m memory e kept) others f.2 zeros in
          same_set ns m clear c.set_page.new.self index c.split_at.result.0.now still high cleared (f.4 ∙ sym front) c.set_page.ensures.page c.set_page.ensures.others;
    }

pub returns-clause-pages : goal.returns-clause-pages
returns-clause-pages c m memory e kept =
    let ns = page_numbers c.args.pages.now in
    let is : List ℕ = c.args.indices.now in
    let k : ℕ = c.loop-index.index-index in
    let inv = c.loop-index.invariant in
    let old = c.loop-index.pages in
    let clear = c.clear_pages-2.new.pages in
    let next : ℕ = c.loop-index.next in
    let all : drop k is ≡ [] = drop_all is k (omega arith) in
    let count : c.count.result ≡ length ns = c.count.ensures.value ∙ ap length inv.numbers in
    let still : page_numbers clear ≡ ns = c.clear_pages-2.ensures.numbers ∙ inv.numbers in
    let zero_m : AreZero ns m next (length ns) = subst (λ (xs : List ℕ). KeepsFrom ns m next xs c.loop-index.rest.now) all (inv.rest m kept) in
    let others : HaveSamePages ns old clear next = subst (λ (xs : List ℕ). HaveSamePages xs old clear next) inv.numbers c.clear_pages-2.ensures.others in
    let zero_c : AreZero ns clear next (length ns) = subst (λ (n : ℕ). AreZero ns clear next n) count (subst (λ (xs : List ℕ). AreZero xs clear next c.count.result) inv.numbers c.clear_pages-2.ensures.zero) in
    same_memory ns m clear memory c.are_memory.ensures e still (same_cleared ns m old clear next (length ns) memory c.are_memory.ensures e still (omega arith) (inv.same m memory e kept) others zero_m zero_c)
