use Rattle.std.proofs.Common.{◌≡◌, ℕ, ◌+◌, ◌*◌, ◌<◌, ◌≤◌, ◌++◌, List, length}
use Rattle.std.specs.List.{AllByRecursion}
use Rattle.std.specs.Vec.{vec_len, vec_capacity}
use Rattle.rv_machine.specs.MachineState.{MachineState}
use Rattle.unit_undo.specs.UndoTrail.{LeadsBack, led_back}
use Rattle.unit_digests.specs.Digests.{states_of}
use Rattle.unit_digests.specs.WorkDivision.{mapped, HasTaken, IsDealt, HasNumber}
use Rattle.unit_digests.proofs.sharing.Digester.take_each.Given as goal

-- of the states that are dealt to the worker those from `end` on were taken; where there are more, the next is the one before `end`
abbrev pub invariant-loop-end : goal.invariant-loop-end
invariant-loop-end g l = record {
  leads : LeadsBack l.walk l.self.state (led_back l.walk l.self.state);
  passed : (front : List MachineState) × (led_back l.undo.entries l.after ≡ front ++ led_back l.walk l.self.state);
  left : l.end ≤ length l.walk;
  right : HasTaken (states_of l.undo.entries l.after) l.self;
  dealt : AllByRecursion (λ t. IsDealt l.deal l.number t.number) l.self.taken.items;
  whole : (n : ℕ) → IsDealt l.deal l.number n → l.end ≤ n → HasNumber l.self.taken.items n;
  turn : 0 < l.end → l.end + l.number + vec_len l.self.taken * l.deal.workers ≡ l.deal.end;
  pages : mapped l.self ≡ mapped l.fn.self;
  reserved : vec_capacity l.fn.self.taken ≤ vec_capacity l.self.taken;
}

abbrev pub decreases-loop-end : goal.decreases-loop-end
decreases-loop-end g l = l.end
