use Rattle.reverse_runner.proofs.Common.{◌≡◌, ℕ, ◌+◌, List, length, ◌<◌, ◌^◌, ◌++◌, MachineState, LeadsBack, led_back, states_of, AreDigests, SamePages, numbers_from, GetsAll}
use Rattle.reverse_runner.proofs.workspace.Workspace.hand_back.Given as goal

-- the visitor got some of the states, and those that are left are the others
abbrev pub invariant-loop-self : goal.invariant-loop-self
invariant-loop-self g l = record {
  few : l.first + length l.self.undo.entries < 2 ^ 32;
  known : AreDigests l.self.known.items (states_of l.self.undo.entries l.self.tape);
  same : l.self.known ≡ l.initial.self.known;
  leads : LeadsBack l.self.undo.entries l.self.tape (led_back l.self.undo.entries l.self.tape);
  got : (numbers : List ℕ) × (states : List MachineState) × GetsAll g.V.Visitor.got l.journal numbers states l.initial.visitor l.visitor
      × (numbers ++ numbers_from l.first (length l.self.undo.entries) ≡ numbers_from l.first (length l.initial.self.undo.entries))
      × (states ++ led_back l.self.undo.entries l.self.tape ≡ led_back l.initial.self.undo.entries l.initial.self.tape);
  unit : l.self.undo.unit ≡ l.initial.self.undo.unit;
  room : l.self.undo.room ≡ l.initial.self.undo.room;
  pages : SamePages l.self.tape l.initial.self.tape;
  work : l.self.desk.work ≡ l.initial.self.desk.work;
  store : l.self.desk.store ≡ l.initial.self.desk.store;
  buffer : l.self.desk.buffer ≡ l.initial.self.desk.buffer;
  quiet : g.V.Visitor.fault_count l.visitor ≡ g.V.Visitor.fault_count l.initial.visitor;
}

abbrev pub decreases-loop-self : goal.decreases-loop-self
decreases-loop-self g l = length l.self.undo.entries
