use Rattle.std.proofs.Common.{◌≡◌, ◌≢◌, ℕ, length, Bool, Option, Some, Err, IfOk, sym, ◌∙◌, ap, subst, rules, tests}
use Rattle.std.proofs.lemmas.Result.{on_err_weaker}
use Rattle.rv_pages.specs.Memory.{page_numbers}
use Rattle.rv_machine.specs.MachineState.{MachineState}
use Rattle.rv_machine.specs.States.{state_number}
use Rattle.reverse_runner.specs.KeepersSeen.{told_by, calls_to}
use Rattle.reverse_runner.specs.declared.fault.RunFault.TheVariants.{Memory}
use Rattle.reverse_console.specs.Answer.{IsAnswer, IsGiven}
use Rattle.reverse_console.specs.ConsoleState.{ConsoleState, source_of}
use Rattle.reverse_runner.specs.Rooms.{image_room, rooms_by, AreRoomy}
use Rattle.reverse_console.specs.ConsoleFields.{console_state}
use Rattle.reverse_console.specs.Marks.{mark_of, mark_count}
use Rattle.reverse_console.specs.MarkInvariant.{source}
use Rattle.reverse_console.specs.OrderResults.{IsPerformed, LeavesKeepers}
use Rattle.reverse_console.specs.StateSources.{ComesFrom, IsAnswerSeen}
use Rattle.reverse_console.specs.MarksOfRun.{Stands}
use Rattle.reverse_console.proofs.OrderCosts.{if_ok_map, given_of_seen, source_stands, on_ok_always}
use Rattle.reverse_console.proofs.MarkStates.{comes_from_run}
use Rattle.reverse_console.proofs.MarkGets.{stand_same}
use Rattle.reverse_console.proofs.FetchedStates.{answer_of_seen}
use Rattle.reverse_console.proofs.console.Console.perform.Goals as goal

pub returns-clause-performed : goal.returns-clause-performed
returns-clause-performed g c =
    let told = told_by g.K.Storage c.args.keepers.now.items in
    let calls = calls_to g.K.Storage in
    let P : ConsoleState → Type 0 = λ s. IsPerformed g.V.Visitor.got g.V.Visitor.missed (source_of s told) s.place c.answer-outcome.new.place c.args.order.now c.answer-outcome.result c.args.visitor.now c.answer-outcome.new.visitor c.args.steps.now c.answer-outcome.new.steps (calls c.args.keepers.now.items) (calls c.answer-outcome.new.keepers.items) in
    subst P c.self.view_is c.answer-outcome.ensures.performed

pub returns-clause-in_run : goal.returns-clause-in_run
returns-clause-in_run g c first is stands =
    let inside = c.self.inside in
    let p = inside.marks in
    let j = inside.journal in
    let told = told_by g.K.Storage c.args.keepers.now.items in
    let told' = told_by g.K.Storage c.answer-outcome.new.keepers.items in
    let src = source p j inside.desk told in
    let got = g.V.Visitor.got in
    let missed = g.V.Visitor.missed in
    let before = c.args.visitor.now in
    let after = c.answer-outcome.new.visitor in
    let S : ConsoleState → Type 0 = λ s. Stands first s told in
    let st = subst S (sym c.self.view_is) stands in
    let from = source_stands first p j inside.desk told is c.is_recorded.ensures st.machine st.levels in
    let reads = c.answer-outcome.ensures.gets.1.reads in
    let order = c.args.order.now in
    let Seen : Bool → Type 0 = λ found.
    (new : Option ℕ)
    × (IsAnswerSeen src inside.place order new × IsGiven (λ v n t w. got v n t j w) (λ n t. ComesFrom src (mark_of p n) n t) new found inside.place c.answer-outcome.new.place before after) in
    let Told : ConsoleState → Bool → Type 0 = λ s found.
    (new : Option ℕ)
    × (IsAnswer first s.journal s.plan.count s.place order new × IsGiven (λ v n t w. got v n t s.journal w) (λ n t. t ≡ state_number first s.journal n) new found s.place c.answer-outcome.new.place before after) in
    let A : ConsoleState → Type 0 = λ s. IfOk c.answer-outcome.result (Told s) in
    let M : ConsoleState → Type 0 = λ s. (n : ℕ) × (IsAnswer first s.journal s.plan.count s.place order (Some n) × missed before n (state_number first s.journal n) s.journal after) in
    record {
      answered = subst A c.self.view_is
          (if_ok_map Seen (Told (console_state inside)) c.answer-outcome.result (λ found h.
          (h.0, (answer_of_seen first src inside.place order h.0 from h.1.0, given_of_seen (λ v n t w. got v n t j w) first src (mark_of p) from h.0 found inside.place c.answer-outcome.new.place before after h.1.1)))
          c.answer-outcome.ensures.performed.answered);
      stands = on_ok_always c.answer-outcome.result (record {
        machine = reads.machine ∙ st.machine;
        levels = stand_same first j p (mark_count p) inside.desk.store c.answer-outcome.new.desk.store told told' reads.store reads.told_same st.levels;
      });
      misses = λ e.
          let m = c.answer-outcome.ensures.performed.misses e in
          let N : MachineState → Type 0 = λ t. missed before m.0 t j after in
          subst M c.self.view_is (m.0, (answer_of_seen first src inside.place order (Some m.0) from m.1.1.0, subst N (comes_from_run first src (mark_of p m.0) m.0 m.1.0 from m.1.1.1) m.1.1.2));
      undamaged = c.answer-outcome.ensures.gets.1.undamaged first is st.machine st.levels;
    }

pub returns-clause-roomy : goal.returns-clause-roomy
returns-clause-roomy g c =
    let P : ConsoleState → Type 0 = λ s. AreRoomy (image_room s.work) (length s.plan.slots) (rooms_by g.K.Storage c.args.keepers.now.items) → c.answer-outcome.result ≢ Err Memory in
    subst P c.self.view_is c.answer-outcome.ensures.gets.1.roomy

pub returns-clause-leaves : goal.returns-clause-leaves
returns-clause-leaves g c =
    let reads = c.answer-outcome.ensures.gets.1.reads in
    let view = c.self.view_is in
    record {
      goes_on = record {
        machine = reads.machine ∙ ap (λ (s : ConsoleState). page_numbers s.work.memory) view;
        plan = ap (λ (s : ConsoleState). s.plan) view;
        store = reads.store ∙ ap (λ (s : ConsoleState). s.store) view;
        journal = ap (λ (s : ConsoleState). s.journal) view;
      };
      lasts = search (rules, tests);
      stays = on_err_weaker c.answer-outcome.result (λ same. same ∙ ap (λ (s : ConsoleState). s.place) view) c.answer-outcome.ensures.stays;
    }

pub returns-clause-keepers : goal.returns-clause-keepers
returns-clause-keepers g c =
    let P : ConsoleState → Type 0 = λ s. LeavesKeepers g.K.Storage (length s.plan.slots) c.answer-outcome.result c.args.keepers.now.items c.answer-outcome.new.keepers.items in
    let gets = c.answer-outcome.ensures.gets.1 in
    subst P c.self.view_is (record { same = gets.reads.told_same; are = gets.are })
