use Rattle.std.proofs.Common.{◌≡◌, ◌≢◌, ℕ, ◌+◌, ◌-◌, ◌<◌, inl, inr, List, length, get_or, replicate, refl, sym, ap, subst, ◌∙◌, arith}
use Rattle.std.proofs.lemmas.Bool.{cases_lt, cases_eq}
use Rattle.std.proofs.lemmas.Map.Keys.{sorted_from_strictly_increasing, below_from_sorted}
use Rattle.std.specs.List.Sorted.{IsStrictlyIncreasing}
use Rattle.rv_pages.specs.Tables.{AreTables, entry_of}
use Rattle.rv_pages.proofs.TableEntries.{tables_of_zeros, entry_of-zeros}
use Rattle.rv_pages.proofs.tables.Tables.of.Goals as goal

-- earlier numbers are others
earlier : (numbers : List ℕ) → IsStrictlyIncreasing numbers → (k i : ℕ) → k < i → i < length numbers → get_or numbers k 0 ≢ get_or numbers i 0
earlier numbers h k i less inside = λ e. let below = below_from_sorted numbers k i 0 (sorted_from_strictly_increasing numbers h) less inside in omega arith

pub loop-index-init : goal.loop-index-init
loop-index-init c =
    let tops : c.in_ok-vec.field-0.items ≡ replicate 1024 0 = c.in_ok-vec.ensures.items_if_clones_equal (λ y h. h) in
    let lows : c.in_ok-vec-2.field-0.items ≡ replicate 1024 0 = c.in_ok-vec-2.ensures.items_if_clones_equal (λ y h. h) in
    let none : (q : ℕ) → entry_of c.in_ok-vec.field-0.items c.in_ok-vec-2.field-0.items q ≡ 0 = λ (q : ℕ). ap (λ ls. entry_of c.in_ok-vec.field-0.items ls q) lows ∙ entry_of-zeros c.in_ok-vec.field-0.items 1024 q in
    record {
      tables = subst (AreTables c.in_ok-vec.field-0.items) (sym lows) (subst (λ ts. AreTables ts (replicate 1024 0)) (sym tops) (tables_of_zeros 1024 refl));
      size = omega (arith, c.in_ok-vec-2.ensures.len);
      each = λ k below. absurd (omega arith);
      only = λ q some. absurd (let zero = none q in omega arith);
    }

pub loop-index-preserved : goal.loop-index-preserved
loop-index-preserved c =
    let numbers = c.args.numbers.now in
    let entry : ℕ → ℕ = entry_of c.add.new.self.tops.items c.add.new.self.lows.items in
    let entered : entry (get_or numbers c.loop-index.index 0) ≡ c.loop-index.index + 1 = c.in_ok-add.ensures.entered in
    record {
      tables = c.in_ok-add.ensures.tables;
      size = let more = c.in_ok-add.ensures.size in let before = c.loop-index.invariant.size in omega arith;
      each = λ k below. elim (cases_lt k c.loop-index.index) [
        | inl l ↦ c.in_ok-add.ensures.others (get_or numbers k 0) (earlier numbers c.requires.ascending k c.loop-index.index l c.loop-index-test.true) ∙ c.loop-index.invariant.each k l
        | inr r ↦ let same : k ≡ c.loop-index.index = omega arith in ap (λ n. entry (get_or numbers n 0)) same ∙ entered ∙ ap (λ n. n + 1) (sym same)
      ];
      only = λ q some. elim (cases_eq q (get_or numbers c.loop-index.index 0)) [
        | inl same ↦
            let is : entry q ≡ c.loop-index.index + 1 = ap entry same ∙ entered in
            let place : entry q - 1 ≡ c.loop-index.index = omega arith in
            (omega arith, ap (λ n. get_or numbers n 0) place ∙ sym same)
        | inr other ↦
            let is : entry q ≡ entry_of c.loop-index.tables.tops.items c.loop-index.tables.lows.items q = c.in_ok-add.ensures.others q other in
            let before = c.loop-index.invariant.only q (omega arith) in
            (omega (arith, before.0, is), ap (λ n. get_or numbers (n - 1) 0) is ∙ before.1)
      ];
    }

pub returns-clause-found : goal.returns-clause-found
returns-clause-found c = record {
  each = λ k below. c.loop-index.invariant.each k (omega arith);
  only = λ q some. let is = c.loop-index.invariant.only q some in (omega (arith, is.0), is.1);
}
