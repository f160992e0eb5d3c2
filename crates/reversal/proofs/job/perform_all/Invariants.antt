use Rattle.std.proofs.Common.{◌≡◌, ℕ, ◌≤◌, map, drop, length, slice_get}
use Rattle.std.specs.List.{AllByRecursion}
use Rattle.unit_digests.specs.Digests.{HasPages}
use Rattle.reverse_runner.specs.Rooms.{rooms_by, SameRooms}
use Rattle.reverse_runner.specs.SessionState.{SamePages}
use Rattle.reversal.specs.ActionsLeft.{left_of}
use Rattle.reversal.specs.JobModel.{run_from}
use Rattle.reversal.specs.Deeds.{States}
use Rattle.reversal.specs.Moment.{moment}
use Rattle.reversal.proofs.Progress.{SoFar}
use Rattle.reversal.proofs.job.perform_all.Given as goal

-- The actions that are left stand behind those so far, of which all is known that can be; and the writer still writes to the sink.
abbrev pub invariant-loop-action : goal.invariant-loop-action
invariant-loop-action g l = record {
  rest : left_of l.actions ≡ drop l.place (left_of l.fn.actions);
  within : l.place ≤ length (left_of l.fn.actions);
  so_far :
      (shown : States)
      × SoFar (run_from l.fn.session (left_of l.fn.actions)) l.place shown l.session
      (moment g.O.Sink g.K.Storage l.fn.out l.fn.keepers.items l.fn.counter)
      (moment g.O.Sink g.K.Storage l.writer.out.now l.keepers.items l.counter);
  rooms : SameRooms (rooms_by g.K.Storage l.fn.keepers.items) (rooms_by g.K.Storage l.keepers.items);
  pages : SamePages l.session.work l.fn.session.work;
  digesters : AllByRecursion (HasPages l.session.work) l.digesters;
  room : map g.K.Storage.slot_count l.keepers.items ≡ map g.K.Storage.slot_count l.fn.keepers.items;
  places : map g.K.Storage.place l.keepers.items ≡ map g.K.Storage.place l.fn.keepers.items;
  reference : l.writer.out.ghost_name ≡ l.initial.writer.out.ghost_name;
  others : (k : ℕ) → length l.fn.session.situation.slots ≤ k → slice_get l.keepers.items k ≡ slice_get l.fn.keepers.items k;
}

abbrev pub decreases-loop-action : goal.decreases-loop-action
decreases-loop-action g l = length (left_of l.actions)
