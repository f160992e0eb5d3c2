use Rattle.std.proofs.Common.{◌≡◌, ◌≤◌, ℕ, max, subst, arith, List}
use Rattle.level_book.specs.BookCosts.{slots_of, total_room}
use Rattle.reverse_runner.specs.KeepersSeen.{HaveRoom}
use Rattle.reverse_console.specs.ScriptFaults.{HasFirstFault}
use Rattle.endings.specs.declared.outcome.Outcome.{Outcome}
use Rattle.endings.specs.Outcomes.{bad_book, bad_script, no_plan}
use Rattle.requests.specs.Request.{says_raw, stack_pages}
use Rattle.reversal.specs.Table.{Keep, refuse}
use Rattle.reversal.specs.InputMeaning.{HasBookFault, IsStartOf, AreItemsOf}
use Rattle.reversal.specs.JobModel.{IsRefusal, IsUnbegun, text_of}
use Rattle.level_book.specs.BookFaults.{IsBookText}
use Rattle.requests.specs.InputOutcome.{contents_of}
use Rattle.reverse_console.specs.Script.{IsScript}
use Rattle.reversal.proofs.DecisionLaws.{console_by_book, console_by_keepers, console_by_slots, console_by_beginning, console_by_script, console_accepted}
use Rattle.reversal.proofs.Decisions.{by_error}
use Rattle.reversal.proofs.console.decide_console.Goals as goal

pub returns-in_err-book : goal.returns-in_err-book
returns-in_err-book c =
    let texts = contents_of c.args.loaded.now in
    by_error _ _ c.from_residual.result _ c.from_residual.ensures.1 (λ e gives.
    let same : c.in_err-book.field-0.0 ≡ e = cc in
    let P : Outcome → Type 0 = λ x. IsRefusal (HasBookFault texts.book) bad_book x in
    console_by_book c.args.options.now c.args.steps texts.program texts.journal texts.book texts.script c.args.counts.now e (subst P same (subst (λ (t : List ℕ). IsRefusal (HasBookFault t) bad_book c.in_err-book.field-0.0) c.deref.ensures.value c.in_err-book.ensures.refused)))

pub returns-in_err-keep : goal.returns-in_err-keep
returns-in_err-keep c =
    let texts = contents_of c.args.loaded.now in
    by_error _ _ c.from_residual-in_err-keep.result _ c.from_residual-in_err-keep.ensures.1 (λ e gives.
    let same : c.in_err-keep.field-0.0 ≡ e = cc in
    let P : Outcome → Type 0 = λ x. Keep c.max.result (slots_of c.in_ok-book.book) c.args.counts.now (refuse x) ⊥ in
    console_by_keepers c.args.options.now c.args.steps texts.program texts.journal texts.book texts.script c.args.counts.now e c.in_ok-book.book (subst (λ (t : List ℕ). IsBookText t c.in_ok-book.book) c.deref.ensures.value c.in_ok-book.ensures.found) (subst (λ (n : ℕ). Keep n (slots_of c.in_ok-book.book) c.args.counts.now (refuse e) ⊥) c.max.ensures (subst P same c.in_err-keep.ensures.refused)))

pub returns-in_err-need_slot : goal.returns-in_err-need_slot
returns-in_err-need_slot c =
    let texts = contents_of c.args.loaded.now in
    by_error _ _ c.from_residual-in_err-need_slot.result _ c.from_residual-in_err-need_slot.ensures.1 (λ e gives.
    let same : c.in_err-need_slot.field-0.0 ≡ e = cc in
    let P : Outcome → Type 0 = λ x. (1 ≤ total_room c.in_ok-book.book (max c.args.steps 1) → ⊥) × (x ≡ no_plan c.args.steps (total_room c.in_ok-book.book c.args.steps) 1) in
    let none = subst P same c.in_err-need_slot.ensures.refused in
    console_by_slots c.args.options.now c.args.steps texts.program texts.journal texts.book texts.script c.args.counts.now e c.in_ok-book.book (subst (λ (t : List ℕ). IsBookText t c.in_ok-book.book) c.deref.ensures.value c.in_ok-book.ensures.found) (subst (λ (n : ℕ). HaveRoom n (slots_of c.in_ok-book.book) c.args.counts.now) c.max.ensures c.in_ok-keep.ensures.room) none.0 none.1)

pub returns-in_err-start : goal.returns-in_err-start
returns-in_err-start c =
    let texts = contents_of c.args.loaded.now in
    by_error _ _ c.from_residual-in_err-start.result _ c.from_residual-in_err-start.ensures.1 (λ e gives.
    let same : c.in_err-start.field-0.0 ≡ e = cc in
    let P : Outcome → Type 0 = λ x. IsUnbegun c.args.options.now c.deref-2.result.now (text_of c.take.result) x in
    console_by_beginning c.args.options.now c.args.steps texts.program texts.journal texts.book texts.script c.args.counts.now e c.in_ok-book.book (subst (λ (t : List ℕ). IsBookText t c.in_ok-book.book) c.deref.ensures.value c.in_ok-book.ensures.found) (subst (λ (n : ℕ). HaveRoom n (slots_of c.in_ok-book.book) c.args.counts.now) c.max.ensures c.in_ok-keep.ensures.room) c.in_ok-need_slot.ensures.slots (subst (λ (t : List ℕ). IsUnbegun c.args.options.now t texts.journal e) c.deref-2.ensures.value (subst (λ t. IsUnbegun c.args.options.now c.deref-2.result.now (text_of t) e) c.take.ensures.value (subst P same c.in_err-start.ensures.refused))))

pub returns-in_err-orders : goal.returns-in_err-orders
returns-in_err-orders c =
    let texts = contents_of c.args.loaded.now in
    by_error _ _ c.from_residual-in_err-orders.result _ c.from_residual-in_err-orders.ensures.1 (λ e gives.
    let same : c.in_err-orders.field-0.0 ≡ e = cc in
    let P : Outcome → Type 0 = λ x. IsRefusal (HasFirstFault c.args.steps texts.script) bad_script x in
    console_by_script c.args.options.now c.args.steps texts.program texts.journal texts.book texts.script c.args.counts.now e c.in_ok-book.book (subst (λ (t : List ℕ). IsBookText t c.in_ok-book.book) c.deref.ensures.value c.in_ok-book.ensures.found) (subst (λ (n : ℕ). HaveRoom n (slots_of c.in_ok-book.book) c.args.counts.now) c.max.ensures c.in_ok-keep.ensures.room) c.in_ok-need_slot.ensures.slots c.in_ok-start.start (subst (λ (t : List ℕ). IsStartOf (says_raw c.args.options.now) (stack_pages c.args.options.now) t c.in_ok-start.start) c.deref-2.ensures.value c.in_ok-start.ensures.start) c.in_ok-start.journal (subst (λ t. AreItemsOf (text_of t) c.in_ok-start.journal) c.take.ensures.value c.in_ok-start.ensures.items) (subst P same (subst (λ (t : List ℕ). IsRefusal (HasFirstFault c.args.steps t) bad_script c.in_err-orders.field-0.0) c.deref-3.ensures.value c.in_err-orders.ensures.refused)))

pub returns : goal.returns
returns c =
    let texts = contents_of c.args.loaded.now in
    record {
      accepted = console_accepted c.args.options.now c.args.steps texts.program texts.journal texts.book texts.script c.args.counts.now c.in_ok-book.book c.in_ok-start.start c.in_ok-start.journal c.in_ok-orders.orders.items
          (subst (λ (t : List ℕ). IsBookText t c.in_ok-book.book) c.deref.ensures.value c.in_ok-book.ensures.found) (subst (λ (n : ℕ). HaveRoom n (slots_of c.in_ok-book.book) c.args.counts.now) c.max.ensures c.in_ok-keep.ensures.room) c.in_ok-need_slot.ensures.slots (subst (λ (t : List ℕ). IsStartOf (says_raw c.args.options.now) (stack_pages c.args.options.now) t c.in_ok-start.start) c.deref-2.ensures.value c.in_ok-start.ensures.start) (subst (λ t. AreItemsOf (text_of t) c.in_ok-start.journal) c.take.ensures.value c.in_ok-start.ensures.items) (subst (λ (t : List ℕ). IsScript c.args.steps t c.in_ok-orders.orders.items) c.deref-3.ensures.value c.in_ok-orders.ensures.found);
      can_be_done = record { steps = c.requires.steps; slots = c.in_ok-need_slot.ensures.slots; few = omega (arith, c.in_ok-orders.ensures.few, c.in_ok-orders.orders.ok); orders = c.in_ok-orders.ensures.orders };
      room = subst (λ (n : ℕ). HaveRoom n (slots_of c.in_ok-book.book) c.args.counts.now) c.max.ensures c.in_ok-keep.ensures.room;
      refused = tt;
    }
