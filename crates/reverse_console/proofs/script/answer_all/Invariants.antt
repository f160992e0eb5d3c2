use Rattle.std.proofs.Common.{◌≡◌, ℕ, ◌<◌, false, length, take, Ok}
use Rattle.reverse_runner.specs.Desks.{KeepersAre}
use Rattle.reverse_runner.specs.KeepersSeen.{told_by, calls_to}
use Rattle.reverse_console.specs.ConsoleState.{GoesOn, source_of}
use Rattle.reverse_console.specs.ScriptAnswers.{moment, AreWritten}
use Rattle.reverse_console.proofs.script.answer_all.Given as goal

-- the orders so far were answered
abbrev pub invariant-loop-at : goal.invariant-loop-at
invariant-loop-at g l =
    let keeper = g.K.Storage in
    let sink = g.O.Sink in
    record {
      lasts : l.console.ended ≡ false;
      goes : GoesOn l.fn.console l.console;
      same : (k : ℕ) → told_by keeper l.keepers.items k ≡ told_by keeper l.fn.keepers.items k;
      are : KeepersAre {A = Unit} keeper (λ k. k < length l.fn.console.plan.slots) (Ok tt) l.fn.keepers.items l.keepers.items;
      still : sink.fault_count l.out ≡ sink.fault_count l.fn.out;
      written :
          AreWritten (source_of l.fn.console (told_by keeper l.fn.keepers.items)) (take l.at l.orders)
          (moment l.fn.console l.fn.steps (calls_to keeper l.fn.keepers.items) (sink.call_count l.fn.out))
          (moment l.console l.steps (calls_to keeper l.keepers.items) (sink.call_count l.out))
          (sink.told l.fn.out) (sink.told l.out);
    }
