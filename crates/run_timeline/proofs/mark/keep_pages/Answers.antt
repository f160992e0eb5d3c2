use Rattle.std.proofs.Common.{◌≡◌, ◌≤◌, ◌<◌, ℕ, ◌+◌, ◌++◌, ◌∷◌, [], cond, List, length, sym, ap, subst, ◌∙◌, arith, append_assoc, append-nil, length-append}
use Rattle.std.specs.Result.{is_ok}
use Rattle.rv_pages.specs.Memory.{page_numbers}
use Rattle.run_timeline.specs.KeptPages.{KeepsFrom}
use Rattle.run_timeline.proofs.PageIndices.{keeps_more}
use Rattle.run_timeline.proofs.mark.keep_pages.Goals as goal

pub loop-index-preserved : goal.loop-index-preserved
loop-index-preserved c =
    let m = c.args.pages.now in
    let ns = page_numbers m in
    let index : ℕ = c.in-Some.index in
    let page : List ℕ = c.page.result.now in
    let inv = c.loop-index.invariant in
    let indices : List ℕ = c.loop-index.indices.items in
    let bytes : List ℕ = c.loop-index.bytes.items in
    let found = c.in-Some.ensures.index in
    let low : c.loop-index.next ≤ index = found.0 in
    let high : index < length ns = found.1 in
    let pushed : c.push.new.self.items ≡ indices ++ index ∷ [] = c.push.ensures.items ∙ ap (λ r. cond (is_ok r) (indices ++ index ∷ []) indices) c.unwrap.ensures in
    let added : c.extend_from_slice.new.self.items ≡ bytes ++ page = c.extend_from_slice.ensures.items ∙ ap (λ r. cond (is_ok r) (bytes ++ page) bytes) c.unwrap-in-Some.ensures in
    let one_more : length c.push.new.self.items ≡ length indices + 1 = ap length pushed ∙ length-append indices (index ∷ []) in
    let longer : length c.extend_from_slice.new.self.items ≡ length bytes + length page = ap length added ∙ length-append bytes page in
    record {
      within = omega (arith, high);
      few = omega (arith, one_more, inv.few, low);
      long = omega (arith, one_more, longer, inv.long, c.page.ensures.whole);
      kept = λ is bs h.
          let more : KeepsFrom ns m 0 (indices ++ index ∷ is) (bytes ++ (page ++ bs)) = inv.kept (index ∷ is) (page ++ bs) (keeps_more ns m c.loop-index.next index page is bs low high c.in-Some.ensures.zero c.page.ensures.whole c.page.ensures.value h) in
          let one : c.push.new.self.items ++ is ≡ indices ++ index ∷ is = ap (λ (xs : List ℕ). xs ++ is) pushed ∙ append_assoc indices (index ∷ []) is in
          let two : c.extend_from_slice.new.self.items ++ bs ≡ bytes ++ (page ++ bs) = ap (λ (xs : List ℕ). xs ++ bs) added ∙ append_assoc bytes page bs in
          subst (λ (xs : List ℕ). KeepsFrom ns m 0 xs (c.extend_from_slice.new.self.items ++ bs)) (sym one) (subst (λ (ys : List ℕ). KeepsFrom ns m 0 (indices ++ index ∷ is) ys) (sym two) more);
      indices_reserved = omega (arith, inv.indices_reserved, c.push.ensures.capacity);
      bytes_reserved = omega (arith, inv.bytes_reserved, c.extend_from_slice.ensures.capacity);
    }

pub returns-clause-keeps : goal.returns-clause-keeps
returns-clause-keeps c =
    let m = c.args.pages.now in
    let indices : List ℕ = c.loop-index.indices.items in
    let bytes : List ℕ = c.loop-index.bytes.items in
    let all = c.loop-index.invariant.kept [] [] c.in_default.ensures.zero in
    subst (λ (xs : List ℕ). KeepsFrom (page_numbers m) m 0 xs bytes) (append-nil indices) (subst (λ (ys : List ℕ). KeepsFrom (page_numbers m) m 0 (indices ++ []) ys) (append-nil bytes) all)
