use Rattle.std.proofs.Common.{◌≡◌, ◌++◌, ◌∷◌, [], ◌+◌, ◌-◌, sym, ◌∙◌, ap, subst, arith, length, drop, length-append}
use Rattle.std.proofs.lemmas.Result.{err_from_is_err_and}
use Rattle.std.proofs.lemmas.List.{map_push}
use Rattle.std.proofs.lemmas.Grind.{common_steps}
use Rattle.input_journal.specs.declared.journal.Part.{Part}
use Rattle.input_journal.specs.Parser.{items_at, reading}
use Rattle.input_journal.specs.Parts.{item_in, items_in, IsPart, AreParts}
use Rattle.input_journal.proofs.Items.{with_front, with_none, goes_on, ends, is_done, is_trailing}
use Rattle.input_journal.proofs.WholeJournals.{items_next}
use Rattle.input_journal.proofs.Views.{parts_more}
use Rattle.input_journal.proofs.reading.find_parts.Goals as goal

pub loop-init : goal.loop-init
loop-init c =
    let none : c.new-parts.result.items ≡ [] = c.new-parts.ensures.items in
    let bytes = c.args.bytes.now in
    let count = c.in_ok-count.count in
    let all : count - 0 ≡ count = omega arith in
    record {
      within = c.in_ok-count.ensures.within;
      counted = ap length none;
      parts = subst (AreParts (length bytes)) (sym none) tt;
      so_far =
          ap (λ xs. with_front (items_in bytes xs) (items_at (count - 0) 12 (drop 12 bytes))) none
          ∙ sym (with_none (items_at (count - 0) 12 (drop 12 bytes)))
          ∙ ap (λ k. items_at k 12 (drop 12 bytes)) all
          ∙ sym (items_next bytes count c.in_ok-count.ensures.value);
    }

pub loop-preserved : goal.loop-preserved
loop-preserved c =
    let so_far = c.loop.invariant in
    let bytes = c.args.bytes.now in
    let item = c.in_ok-len.field-0.now in
    let part : Part = record { at = c.loop.at + 4; len = length item } in
    let pushed : c.push.new.self.items ≡ c.loop.parts.items ++ part ∷ [] = grind (arith, common_steps, c.push.ensures.items, c.is_err.ensures.negation, c.if-is_err.false) in
    let read : item_in bytes part ≡ item = sym c.in_ok-len.ensures.place in
    let seen : items_in bytes c.push.new.self.items ≡ items_in bytes c.loop.parts.items ++ item ∷ [] =
    ap (items_in bytes) pushed ∙ map_push (item_in bytes) c.loop.parts.items part ∙ ap (λ x. items_in bytes c.loop.parts.items ++ x ∷ []) read in
    let here : IsPart (length bytes) part = (c.in_ok-len.ensures.short, omega (arith, c.in_ok-len.ensures.within)) in
    record {
      within = omega (arith, c.in_ok-len.ensures.within);
      counted = ap length pushed ∙ length-append c.loop.parts.items (part ∷ []) ∙ ap (λ k. k + 1) so_far.counted;
      parts = subst (AreParts (length bytes)) (sym pushed) (parts_more (length bytes) c.loop.parts.items part so_far.parts here);
      so_far = rw seen (goes_on (items_in bytes c.loop.parts.items) c.in_ok-count.count c.loop.counter c.loop.at bytes item (reading bytes) c.loop-test.true c.in_ok-len.ensures.value so_far.so_far);
    }

pub returns-in_err-len-clause-value : goal.returns-in_err-len-clause-value
returns-in_err-len-clause-value c =
    let p = err_from_is_err_and c.from_residual-in_err-len.result c.from_residual-in_err-len.ensures.1 in
    rw (p.1, p.2) (ends c.in_err-len.field-0.0 (items_in c.args.bytes.now c.loop.parts.items) c.in_ok-count.count c.loop.counter c.loop.at _ (reading c.args.bytes.now) c.loop-test.true c.in_err-len.ensures.value c.loop.invariant.so_far)

pub returns-then-at-bytes-clause-value : goal.returns-then-at-bytes-clause-value
returns-then-at-bytes-clause-value c =
    is_trailing (items_in c.args.bytes.now c.loop.parts.items) c.in_ok-count.count c.loop.counter c.loop.at c.args.bytes.now (reading c.args.bytes.now) c.loop-test.false c.if-at-bytes.true c.loop.invariant.so_far

pub returns-clause-value : goal.returns-clause-value
returns-clause-value c =
    is_done (items_in c.args.bytes.now c.loop.parts.items) c.in_ok-count.count c.loop.counter c.loop.at c.args.bytes.now (reading c.args.bytes.now) c.loop-test.false c.if-at-bytes.false c.loop.invariant.so_far
