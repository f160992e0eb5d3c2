use Rattle.std.proofs.Common.{◌≡◌, ◌*◌, ◌≤◌, ℕ, List, Some, refl, sym, subst, arith}
use Rattle.plan_types.specs.declared.action.Action.{Action}
use Rattle.level_book.specs.BookCosts.{slots_of, names_of}
use Rattle.level_book.specs.BookFaults.{IsBookText}
use Rattle.level_book.specs.Valid.{Valid}
use Rattle.action_text.specs.ScheduleText.{IsSchedule}
use Rattle.action_text.specs.Faults.{HasFirstFault}
use Rattle.endings.specs.declared.outcome.Outcome.{Outcome}
use Rattle.endings.specs.Outcomes.{bad_book, bad_text}
use Rattle.requests.specs.Request.{says_raw, stack_pages}
use Rattle.reversal.specs.Table.{refuse, accept, Keep}
use Rattle.requests.specs.InputOutcome.{contents_of}
use Rattle.reversal.specs.InputMeaning.{HasBookFault, IsStartOf, AreItemsOf, DecidesOver, in_units}
use Rattle.reversal.specs.JobModel.{IsRefusal, IsUnbegun, text_of}
use Rattle.reversal.proofs.DecisionLaws.{IsBroken, read_refuses, read_passes, judge_refuses, over_by_book, over_by_keepers, over_by_beginning, over_by_list, over_accepted}
use Rattle.reversal.proofs.Decisions.{over_error}
use Rattle.reversal.proofs.decision.decide_over.Goals as goal

pub returns-in_err-book : goal.returns-in_err-book
returns-in_err-book c =
    let texts = contents_of c.args.loaded.now in
    over_error _ _ texts _ c.from_residual.result _ c.from_residual.ensures.1 (λ e gives job.
    let same : c.in_err-book.field-0.0 ≡ e = cc in
    let P : Outcome → Type 0 = λ x. IsRefusal (HasBookFault texts.book) bad_book x in
    over_by_book job c.args.options.now c.args.steps texts.program texts.journal texts.book (Some texts.schedule) c.args.counts.now e (subst P same (subst (λ (t : List ℕ). IsRefusal (HasBookFault t) bad_book c.in_err-book.field-0.0) c.deref.ensures.value c.in_err-book.ensures.refused)))

pub returns-in_err-keep : goal.returns-in_err-keep
returns-in_err-keep c =
    let texts = contents_of c.args.loaded.now in
    over_error _ _ texts _ c.from_residual-in_err-keep.result _ c.from_residual-in_err-keep.ensures.1 (λ e gives job.
    let same : c.in_err-keep.field-0.0 ≡ e = cc in
    let P : Outcome → Type 0 = λ x. Keep c.args.steps (slots_of c.in_ok-book.book) c.args.counts.now (refuse x) ⊥ in
    over_by_keepers job c.args.options.now c.args.steps texts.program texts.journal texts.book (Some texts.schedule) c.args.counts.now e c.in_ok-book.book (subst (λ (t : List ℕ). IsBookText t c.in_ok-book.book) c.deref.ensures.value c.in_ok-book.ensures.found) (subst P same c.in_err-keep.ensures.refused))

pub returns-in_err-start : goal.returns-in_err-start
returns-in_err-start c =
    let texts = contents_of c.args.loaded.now in
    over_error _ _ texts _ c.from_residual-in_err-start.result _ c.from_residual-in_err-start.ensures.1 (λ e gives job.
    let same : c.in_err-start.field-0.0 ≡ e = cc in
    let P : Outcome → Type 0 = λ x. IsUnbegun c.args.options.now c.deref-2.result.now (text_of c.take.result) x in
    over_by_beginning job c.args.options.now c.args.steps texts.program texts.journal texts.book (Some texts.schedule) c.args.counts.now e c.in_ok-book.book (subst (λ (t : List ℕ). IsBookText t c.in_ok-book.book) c.deref.ensures.value c.in_ok-book.ensures.found) c.in_ok-keep.ensures.room tt (subst (λ (t : List ℕ). IsUnbegun c.args.options.now t texts.journal e) c.deref-2.ensures.value (subst (λ t. IsUnbegun c.args.options.now c.deref-2.result.now (text_of t) e) c.take.ensures.value (subst P same c.in_err-start.ensures.refused))))

pub returns-in_err-list : goal.returns-in_err-list
returns-in_err-list c =
    let texts = contents_of c.args.loaded.now in
    over_error _ _ texts _ c.from_residual-in_err-list.result _ c.from_residual-in_err-list.ensures.1 (λ e gives job.
    let same : c.in_err-list.field-0.0 ≡ e = cc in
    let P : Outcome → Type 0 = λ x. IsRefusal (HasFirstFault (names_of c.in_ok-book.book) texts.schedule) bad_text x in
    over_by_list job c.args.options.now c.args.steps texts.program texts.journal texts.book (Some texts.schedule) c.args.counts.now e c.in_ok-book.book (subst (λ (t : List ℕ). IsBookText t c.in_ok-book.book) c.deref.ensures.value c.in_ok-book.ensures.found) c.in_ok-keep.ensures.room tt c.in_ok-start.start (subst (λ (t : List ℕ). IsStartOf (says_raw c.args.options.now) (stack_pages c.args.options.now) t c.in_ok-start.start) c.deref-2.ensures.value c.in_ok-start.ensures.start) c.in_ok-start.journal (subst (λ t. AreItemsOf (text_of t) c.in_ok-start.journal) c.take.ensures.value c.in_ok-start.ensures.items)
    (read_refuses (IsSchedule (names_of c.in_ok-book.book) texts.schedule) (HasFirstFault (names_of c.in_ok-book.book) texts.schedule) bad_text e _ (subst P same (subst (λ (t : List ℕ). IsRefusal (HasFirstFault (names_of c.in_ok-book.book) t) bad_text c.in_err-list.field-0.0) c.deref-3.ensures.value c.in_err-list.ensures.refused))))

pub returns-in_err-judge : goal.returns-in_err-judge
returns-in_err-judge c =
    let texts = contents_of c.args.loaded.now in
    over_error _ _ texts _ c.from_residual-in_err-judge.result _ c.from_residual-in_err-judge.ensures.1 (λ e gives job.
    let same : c.in_err-judge.field-0.0 ≡ e = cc in
    let slots = slots_of c.in_ok-book.book in
    let L : List Action → Type 0 = λ l. IsBroken c.args.steps slots l c.in_err-judge.field-0.0 in
    let P : Outcome → Type 0 = λ x. IsBroken c.args.steps slots c.in_ok-list.list.items x in
    over_by_list job c.args.options.now c.args.steps texts.program texts.journal texts.book (Some texts.schedule) c.args.counts.now e c.in_ok-book.book (subst (λ (t : List ℕ). IsBookText t c.in_ok-book.book) c.deref.ensures.value c.in_ok-book.ensures.found) c.in_ok-keep.ensures.room tt c.in_ok-start.start (subst (λ (t : List ℕ). IsStartOf (says_raw c.args.options.now) (stack_pages c.args.options.now) t c.in_ok-start.start) c.deref-2.ensures.value c.in_ok-start.ensures.start) c.in_ok-start.journal (subst (λ t. AreItemsOf (text_of t) c.in_ok-start.journal) c.take.ensures.value c.in_ok-start.ensures.items)
    (read_passes (IsSchedule (names_of c.in_ok-book.book) texts.schedule) (HasFirstFault (names_of c.in_ok-book.book) texts.schedule) bad_text e _ c.in_ok-list.list.items (subst (λ (t : List ℕ). IsSchedule (names_of c.in_ok-book.book) t c.in_ok-list.list.items) c.deref-3.ensures.value c.in_ok-list.ensures.found)
    (judge_refuses c.args.steps slots c.in_ok-list.list.items e _ (subst P same (subst L c.deref-4.ensures.value c.in_err-judge.ensures.broken)))))

pub returns : goal.returns
returns c =
    let texts = contents_of c.args.loaded.now in
    let o = c.args.options.now in
    let b = c.in_ok-book.book in
    let V : List Action → Type 0 = λ x. Valid c.args.steps (slots_of b) x in
    let is_book = subst (λ (t : List ℕ). IsBookText t b) c.deref.ensures.value c.in_ok-book.ensures.found in
    let is_start = subst (λ (t : List ℕ). IsStartOf (says_raw o) (stack_pages o) t c.in_ok-start.start) c.deref-2.ensures.value c.in_ok-start.ensures.start in
    let are_items = subst (λ t. AreItemsOf (text_of t) c.in_ok-start.journal) c.take.ensures.value c.in_ok-start.ensures.items in
    let is_list = subst (λ (t : List ℕ). IsSchedule (names_of b) t c.in_ok-list.list.items) c.deref-3.ensures.value c.in_ok-list.ensures.found in
    let valid = subst V c.deref-4.ensures.value c.in_ok-judge.ensures.valid in
    record {
      accepted = λ job.
          let U : ℕ → Type 0 = λ unit. DecidesOver job o c.args.steps texts.program texts.journal texts.book (Some texts.schedule) c.args.counts.now
          (accept (job (in_units unit c.in_ok-start.start c.in_ok-start.journal c.args.steps (slots_of b) c.in_ok-list.list.items))) in
          subst U (sym c.unit_of.ensures)
          (over_accepted job o c.args.steps texts.program texts.journal texts.book (Some texts.schedule) c.args.counts.now b c.in_ok-start.start c.in_ok-start.journal c.in_ok-list.list.items
          is_book c.in_ok-keep.ensures.room tt is_start are_items (is_list, valid));
      over =
          (let same = c.unit_of.ensures in
          let I : ℕ → Type 0 = λ unit. unit * c.args.steps ≤ 1000000 in
          record {
            steps = c.requires.run.steps;
            unit = (omega (arith, same, c.requires.run.unit.0), omega (arith, same, c.requires.run.unit.1));
            instructions = subst I (sym same) c.requires.run.instructions;
            few = is_list.few;
            valid = valid;
          });
      steps = refl;
      unit = c.unit_of.ensures;
      room = c.in_ok-keep.ensures.room;
      refused = λ job. tt;
    }
