use Rattle.std.proofs.Common.{◌≡◌, ℕ, ◌<◌, ◌≤◌, List, slice_get, Some}
use Rattle.std.specs.Vec.{vec_len, vec_capacity}
use Rattle.std.specs.List.{AllByRecursion}
use Rattle.rv_machine.specs.MachineState.{MachineState}
use Rattle.unit_digests.specs.declared.sharing.Taken.{Taken}
use Rattle.unit_digests.specs.declared.sharing.Digester.{Digester}
use Rattle.unit_digests.specs.Digests.{AreDigests, IsKnown}
use Rattle.unit_digests.specs.WorkDivision.{HasTaken}
use Rattle.unit_digests.proofs.sharing.put_digests.Given as goal

abbrev pub invariant-loop-digester : goal.invariant-loop-digester
invariant-loop-digester l = record {
  known : (states : List MachineState) → AreDigests l.fn.known.items states → AllByRecursion (HasTaken states) l.digesters → AreDigests l.known.items states;
  still : (n : ℕ) → IsKnown l.fn.known.items n → IsKnown l.known.items n;
  put : (i k : ℕ) (d : Digester) (t : Taken) → i < l.digester-index → slice_get l.digesters i ≡ Some d → slice_get d.taken.items k ≡ Some t → t.number < vec_len l.fn.known →
      IsKnown l.known.items t.number;
  len : vec_len l.known ≡ vec_len l.fn.known;
  reserved : vec_capacity l.fn.known ≤ vec_capacity l.known;
}
