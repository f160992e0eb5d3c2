use Rattle.std.proofs.Common.{ℕ, ◌<◌, List, length, map, Ok, refl, sym, ◌∙◌, ap, subst, arith}
use Rattle.std.proofs.lemmas.Result.{err_from_is_err_and}
use Rattle.level_book.specs.declared.book.Slots.{Slots}
use Rattle.rv_pages.specs.Memory.{page_numbers}
use Rattle.rv_machine.specs.MachineState.{MachineState}
use Rattle.image_store.specs.Shelves.{ShelfState, no_pairs_on}
use Rattle.reverse_runner.specs.Desks.{KeepersAre}
use Rattle.reverse_runner.specs.KeepersSeen.{told_by, calls_to, HaveRoom}
use Rattle.reverse_console.specs.Marks.{MarkPlan, span, mark_count}
use Rattle.level_book.specs.BookCosts.{slots_of}
use Rattle.reverse_runner.specs.declared.fault.RunFault.TheVariants.{Memory}
use Rattle.reverse_runner.specs.Rooms.{image_room, rooms_by, AreShort}
use Rattle.reverse_runner.proofs.Rooms.{begun_short, same_room, still_roomy}
use Rattle.reverse_runner.proofs.KeeperCalls.{are_ok, are_err}
use Rattle.reverse_queries.proofs.Progress.{same_fault}
use Rattle.reverse_console.specs.Costs.{PutsMarks}
use Rattle.reverse_console.specs.MarkInvariant.{AreSet, StandAt}
use Rattle.reverse_console.specs.MarksOfRun.{MarksTell, IsMarkKept}
use Rattle.reverse_console.proofs.MarkGets.{at_ok}
use Rattle.reverse_console.proofs.MarkPuts.{puts_marks_err, puts_marks_ok}
use Rattle.reverse_console.proofs.MarkedLevels.{none_set, none_stand}
use Rattle.reverse_console.proofs.console.Console.begin.Goals as goal

pub set_marks-requires : goal.set_marks-requires
set_marks-requires g c =
    let p = c.new-marks.result in
    let e = c.in-Ok.ensures.store ∙ ap (λ (s : List Slots). no_pairs_on s c.span.result) c.book.ensures ∙ ap (no_pairs_on p.slots) c.span.ensures.value in
    record {
      may_set = record {
        set = subst (AreSet p 0) (sym e) (none_set p);
        room = subst (λ (q : MarkPlan). HaveRoom (span q) q.slots (map g.K.Storage.slot_count c.args.keepers.now.items)) (sym c.new-marks.ensures) c.requires.room;
        fits = c.in-Ok.ensures.fits;
      };
    }

pub returns-in_err-set_marks-clause-puts : goal.returns-in_err-set_marks-clause-puts
returns-in_err-set_marks-clause-puts g c =
    let q = err_from_is_err_and c.from_residual.result c.from_residual.ensures.1 in
    let calls = calls_to g.K.Storage in
    let P : MarkPlan → Type 0 = λ p. PutsMarks p c.from_residual.result c.args.steps.now c.set_marks.new.steps (calls c.args.keepers.now.items) (calls c.set_marks.new.keepers.items) in
    subst P c.new-marks.ensures (puts_marks_err c.new-marks.result c.set_marks.result c.from_residual.result _ _ _ _ _ _ c.in_err-set_marks.was q.1 q.2 c.set_marks.ensures.puts)

pub returns-in_err-set_marks-clause-kept : goal.returns-in_err-set_marks-clause-kept
returns-in_err-set_marks-clause-kept g c =
    let q = err_from_is_err_and c.from_residual.result c.from_residual.ensures.1 in
    let P : MarkPlan → Type 0 = λ p. KeepersAre g.K.Storage (λ k. k < length p.slots) c.from_residual.result c.args.keepers.now.items c.set_marks.new.keepers.items in
    subst P c.new-marks.ensures (are_err g.K.Storage _ c.set_marks.result c.from_residual.result _ _ _ _ c.in_err-set_marks.was q.1 q.2 c.set_marks.ensures.leaves.are)

pub returns-clause-kept : goal.returns-clause-kept
returns-clause-kept g c =
    let P : MarkPlan → Type 0 = λ p. KeepersAre {A = Unit} g.K.Storage (λ k. k < length p.slots) (Ok tt) c.args.keepers.now.items c.set_marks.new.keepers.items in
    are_ok g.K.Storage _ (Ok tt) tt _ _ _ refl (subst P c.new-marks.ensures (are_ok g.K.Storage _ c.set_marks.result _ tt _ _ c.in_ok-set_marks.was c.set_marks.ensures.leaves.are))

pub returns-clause-puts : goal.returns-clause-puts
returns-clause-puts g c =
    let calls = calls_to g.K.Storage in
    let P : MarkPlan → Type 0 = λ p. PutsMarks {T = Unit} p (Ok tt) c.args.steps.now c.set_marks.new.steps (calls c.args.keepers.now.items) (calls c.set_marks.new.keepers.items) in
    puts_marks_ok _ (Ok tt) tt _ _ _ _ _ refl (subst P c.new-marks.ensures (puts_marks_ok c.new-marks.result c.set_marks.result _ tt _ _ _ _ c.in_ok-set_marks.was c.set_marks.ensures.puts))

pub returns-clause-marks : goal.returns-clause-marks
returns-clause-marks g c =
    let all = at_ok c.set_marks.result _ c.in_ok-set_marks.was c.set_marks.ensures.kept in
    record {
      machine = c.set_marks.ensures.machine ∙ ap (λ (s : MachineState). page_numbers s.memory) c.in-Ok.ensures.work;
      marks = λ i known. subst (λ (s : MachineState). IsMarkKept s c.args.run.journal c.new-marks.result c.set_marks.new.desk.store i) c.in-Ok.ensures.work (all i known);
    }

pub returns-clause-stands : goal.returns-clause-stands
returns-clause-stands g c tells =
    let p = c.new-marks.result in
    let j = c.args.run.journal in
    let told = told_by g.K.Storage c.args.keepers.now.items in
    let told' = told_by g.K.Storage c.set_marks.new.keepers.items in
    let desk = c.in-Ok.desk in
    let e = c.in-Ok.ensures.store ∙ ap (λ (s : List Slots). no_pairs_on s c.span.result) c.book.ensures ∙ ap (no_pairs_on p.slots) c.span.ensures.value in
    let tells_here = subst (λ (q : MarkPlan). MarksTell q told) (sym c.new-marks.ensures) tells in
    let none = none_stand desk.work j p told c.are_roomy.ensures c.have_room.ensures.room tells_here in
    let start = subst (λ (s : List ShelfState). StandAt desk.work j p 0 s told) (sym e) none in
    let all = at_ok c.set_marks.result _ c.in_ok-set_marks.was (c.set_marks.ensures.stand start) in
    record {
      machine = c.set_marks.ensures.machine ∙ ap (λ (s : MachineState). page_numbers s.memory) c.in-Ok.ensures.work;
      levels = subst (λ (s : MachineState). StandAt s j p (mark_count p) c.set_marks.new.desk.store told') c.in-Ok.ensures.work all;
    }

pub returns-in_err-set_marks-clause-roomy : goal.returns-in_err-set_marks-clause-roomy
returns-in_err-set_marks-clause-roomy g c has e =
    let q = err_from_is_err_and c.from_residual.result c.from_residual.ensures.1 in
    let p = c.new-marks.result in
    let rooms = rooms_by g.K.Storage c.args.keepers.now.items in
    let pages = ap (λ (s : MachineState). page_numbers s.memory) c.in-Ok.ensures.work in
    let slots = ap (λ (m : MarkPlan). m.slots) c.new-marks.ensures in
    let here = still_roomy c.args.run.start c.in-Ok.desk.work (slots_of c.args.run.book) p.slots rooms rooms pages slots (λ k. refl) has in
    absurd (c.set_marks.ensures.leaves.roomy here (same_fault c.set_marks.result c.from_residual.result _ _ Memory c.in_err-set_marks.was q.1 q.2 e))

pub invariant_of-result : goal.invariant_of-result
invariant_of-result g c =
    let desk = c.in-Ok.desk in
    let new = c.set_marks.new.desk in
    let most = image_room desk.work in
    let empty = subst (AreShort most) (sym c.in-Ok.ensures.store) (begun_short most _ _) in
    let short = at_ok c.set_marks.result _ c.in_ok-set_marks.was (c.set_marks.ensures.leaves.short empty) in
    record {
      fits = c.set_marks.ensures.leaves.fits;
      set = c.in_ok-set_marks.ensures.set;
      within = omega arith;
      short = subst (λ (m : ℕ). AreShort m new.store) (sym (same_room new.work desk.work c.set_marks.ensures.machine)) short;
    }
