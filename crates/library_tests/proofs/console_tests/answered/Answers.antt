use Rattle.std.proofs.Common.{◌≡◌, ℕ, Bool, true, List, Some, map, max, slice_get, ap, sym, subst, rules}
use Rattle.std.specs.Bool.{OnTrue}
use Rattle.level_book.specs.BookCosts.{slots_of}
use Rattle.reverse_runner.specs.KeepersSeen.{HaveRoom}
use Rattle.reverse_console.specs.declared.order.Order.{Order}
use Rattle.reverse_console.specs.Answer.{IsOrder}
use Rattle.reverse_console.specs.Marks.{MarkPlan, span}
use Rattle.library_tests.proofs.console_tests.answered.Goals as goal

pub begin-requires-clause-room : goal.begin-requires-clause-room
begin-requires-clause-room g c =
    let f = g.K.Storage.slot_count in
    let slots = slots_of c.args.over.book in
    let roomy : c.have_room.result ≡ true = cc in
    let P : Bool → Type 0 = λ b. OnTrue b (HaveRoom c.max-2.result slots (map f c.as_slice.result.now)) in
    let M : ℕ → Type 0 = λ n. HaveRoom n slots (map f c.as_slice.result.now) in
    let Q : List ℕ → Type 0 = λ counts. HaveRoom (max c.args.over.count 1) slots counts in
    subst Q (ap (λ ks. map f ks) c.as_slice.ensures.value) (subst M c.max-2.ensures (subst P roomy c.have_room.ensures))

pub answer_all-requires : goal.answer_all-requires
answer_all-requires g c =
    let f = g.K.Storage.slot_count in
    let slots = slots_of c.args.over.book in
    let begun = c.in_ok-console.ensures.begun in
    let roomy : c.have_room.result ≡ true = cc in
    let P : Bool → Type 0 = λ b. OnTrue b (HaveRoom c.max-2.result slots (map f c.as_slice.result.now)) in
    let M : ℕ → Type 0 = λ n. HaveRoom n slots (map f c.as_slice.result.now) in
    let Q : List ℕ → Type 0 = λ counts. HaveRoom (max c.args.over.count 1) slots counts in
    let R : MarkPlan → Type 0 = λ p. HaveRoom (span p) p.slots (map f c.begin.new.keepers.items) in
    let have = subst Q (sym c.begin.ensures.kept.slots) (subst Q (ap (λ ks. map f ks) c.as_slice.ensures.value) (subst M c.max-2.ensures (subst P roomy c.have_room.ensures))) in
    record {
      lasts = begun.3;
      few = search rules;
      orders = λ i order at.
          let N : ℕ → Type 0 = λ n. IsOrder n order in
          let L : List Order → Type 0 = λ l. slice_get l i ≡ Some order in
          subst N (sym (ap (λ (p : MarkPlan). p.count) begun.0)) (c.in_ok-orders.ensures.orders i order (subst L c.as_slice-2.ensures.value at));
      room = subst R (sym begun.0) have;
    }
