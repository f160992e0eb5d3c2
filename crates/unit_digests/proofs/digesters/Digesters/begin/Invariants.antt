use Rattle.std.proofs.Common.{◌≡◌, map}
use Rattle.std.specs.List.{AllByRecursion}
use Rattle.std.specs.Vec.{vec_len}
use Rattle.unit_digests.specs.Digests.{HasPages}
use Rattle.unit_digests.specs.WorkDivision.{mapped, part_of, HasRoom}
use Rattle.unit_digests.proofs.digesters.Digesters.begin.Given as goal

abbrev pub invariant-loop : goal.invariant-loop
invariant-loop l = record {
  count : vec_len l.all ≡ l.counter;
  pages : AllByRecursion (HasPages l.start) (map mapped l.all.items);
  room : AllByRecursion (HasRoom (part_of l.count)) l.all.items;
}
