use Rattle.std.proofs.Common.{◌≡◌, ◌∙◌, ℕ, refl, Option, Some, None, Result, Ok, Err, IfErr, length, rules, sym, ap, subst}
use Rattle.std.specs.Prelude.{IsErrAnd}
use Rattle.keepers.specs.Claims.{Files}
use Rattle.rv_pages.specs.Memory.{page_numbers}
use Rattle.rv_machine.specs.MachineState.{MachineState}
use Rattle.input_journal.specs.RecordedInput.{text_of}
use Rattle.run_timeline.specs.TimelineState.{TimelineState, marks_for}
use Rattle.endings.specs.declared.outcome.Outcome.{Outcome}
use Rattle.endings.specs.Outcomes.{bad_journal}
use Rattle.requests.specs.declared.input_kind.InputKind.TheVariants as input
use Rattle.requests.specs.Operands.{Input, named}
use Rattle.requests.specs.InputOutcome.{input_of, IsThere}
use Rattle.reversal_gdb.specs.Loading.{IsProgramText, IsJournalText, budget_for, journal_name}
use Rattle.reversal_gdb.proofs.Loads.{second_unread, journal_unloaded, same_start, journal_there, no_journal}
use Rattle.reversal_gdb.proofs.loading.timeline_of.Goals as goal
use Rattle.reversal_gdb.proofs.loading.timeline_of.Goals.{in-Some+in_ok-read_input-in-Some, in-None}

by_error : {T : Type 0} (r : Result T Outcome) (x : Outcome) (P : Outcome → Type 0) → IsErrAnd r (λ e. e ≡ x) → P x → IfErr r P
by_error (Ok t) x P h p = tt
by_error (Err e) x P h p = subst P (sym h) p

pub returns-in_err-read_input-in-Some-clause-refused : goal.returns-in_err-read_input-in-Some-clause-refused
returns-in_err-read_input-in-Some-clause-refused g c =
    let has : journal_name c.args.run.now ≡ Some c.in-Some.name.now = search rules in
    let is : input_of c.named-in-Some.result ≡ named input.Journal c.in-Some.name.now = c.named-in-Some.ensures ∙ ap (named input.Journal) c.as_bytes-in-Some.ensures.value in
    by_error c.from_residual-in_err-read_input-in-Some.result c.in_err-read_input-in-Some.field-0.0 _ c.from_residual-in_err-read_input-in-Some.ensures.1
    (second_unread g.I.Inputs c.args.run.now c.in-Some.name.now (input_of c.named-in-Some.result) c.in_err-read_input-in-Some.field-0.0 c.args.inputs.now c.read_input.new.inputs c.read_input-in-Some.new.inputs
    has is c.in_ok-program.ensures.same (c.in_ok-program.ensures.quiet (λ e. absurd cc)) c.in_err-read_input-in-Some.ensures)

pub returns-in_err-journal-clause-refused : goal.returns-in_err-journal-clause-refused
returns-in_err-journal-clause-refused g c =
    let told = g.I.Inputs.told c.args.inputs.now in
    let run = c.args.run.now in
    let recorded : IsJournalText told (journal_name run) (text_of c.match-run.journal) = elim c.match-run.branch [
      | in-Some+in_ok-read_input-in-Some w ↦
          let bytes = w.in_ok-read_input-in-Some.field-0 in
          let W : Option Files → Type 0 = λ t. IsThere t (input_of w.named-in-Some.result) bytes.items in
          let has : journal_name run ≡ Some w.in-Some.name.now = search rules in
          journal_there told _ _ (input_of w.named-in-Some.result) w.in-Some.name.now bytes.items has (ap text_of w.journal-is)
          (w.named-in-Some.ensures ∙ ap (named input.Journal) w.as_bytes-in-Some.ensures.value)
          (subst W c.in_ok-program.ensures.same w.in_ok-read_input-in-Some.ensures.read.1)
      | in-None w ↦
          let has : journal_name run ≡ None = search rules in
          no_journal told _ _ has (ap text_of w.journal-is)
    ] in
    by_error c.from_residual-in_err-journal.result (bad_journal c.in_err-journal.field-0.0) _ c.from_residual-in_err-journal.ensures.1
    (journal_unloaded g.I.Inputs run (text_of c.match-run.journal) c.in_err-journal.field-0.0 _ c.args.inputs.now c.match-run.inputs recorded c.in_err-journal.ensures.refused refl)

pub returns-clause-loaded : goal.returns-clause-loaded
returns-clause-loaded g c =
    let told = g.I.Inputs.told c.args.inputs.now in
    let run = c.args.run.now in
    let start = c.in_ok-start.start in
    let begun = c.in_ok-begin.ensures in
    let program = c.in_ok-program.program.items in
    let T : Input → Type 0 = λ i. IsThere told i program in
    let text : IsProgramText told run program = subst T (c.named.ensures ∙ ap (named input.Program) c.as_bytes.ensures.value) c.in_ok-program.ensures.read.1 in
    let recorded : IsJournalText told (journal_name run) (text_of c.match-run.journal) = elim c.match-run.branch [
      | in-Some+in_ok-read_input-in-Some w ↦
          let bytes = w.in_ok-read_input-in-Some.field-0 in
          let W : Option Files → Type 0 = λ t. IsThere t (input_of w.named-in-Some.result) bytes.items in
          let has : journal_name run ≡ Some w.in-Some.name.now = search rules in
          journal_there told _ _ (input_of w.named-in-Some.result) w.in-Some.name.now bytes.items has (ap text_of w.journal-is)
          (w.named-in-Some.ensures ∙ ap (named input.Journal) w.as_bytes-in-Some.ensures.value)
          (subst W c.in_ok-program.ensures.same w.in_ok-read_input-in-Some.ensures.read.1)
      | in-None w ↦
          let has : journal_name run ≡ None = search rules in
          no_journal told _ _ has (ap text_of w.journal-is)
    ] in
    let first = ap (λ (t : TimelineState). t.run.first) begun in
    let pages : c.count.result ≡ length (page_numbers start.memory) = search rules in
    let budget : c.budget_for-budget.result ≡ budget_for run.options.marks (length (page_numbers start.memory)) = c.budget_for-budget.ensures ∙ ap (budget_for run.options.marks) pages in
    let K : ℕ → Type 0 = λ n. c.in_ok-begin.field-0.room ≡ marks_for (budget_for run.options.marks n) n in
    record {
      program = program;
      journal = text_of c.match-run.journal;
      is_program = text;
      is_journal = recorded;
      start = same_start run.options.raw run.options.stack _ _ _ _ c.as_slice.ensures.value (sym first) c.in_ok-start.ensures.found;
      items = search rules;
      most = ap (λ (t : TimelineState). t.run.most) begun;
      place = (ap (λ (t : TimelineState). t.place) begun, ap (λ (t : TimelineState). t.reached) begun);
      room = subst K (ap (λ (s : MachineState). length (page_numbers s.memory)) (sym first)) (ap (λ (t : TimelineState). t.room) begun ∙ ap (λ (b : ℕ). marks_for b (length (page_numbers start.memory))) budget);
    }
