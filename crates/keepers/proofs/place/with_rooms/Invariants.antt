use Rattle.std.proofs.Common.{◌≡◌, vec_len}
use Rattle.std.specs.FinMap as finmap
use Rattle.keepers.specs.Places.{images_of, HaveRoom}
use Rattle.keepers.proofs.place.with_rooms.Given as goal

-- so many empty places
abbrev pub invariant-loop : goal.invariant-loop
invariant-loop l = record {
  count : vec_len l.places ≡ l.counter;
  images : images_of l.places.items ≡ finmap.empty;
  room : HaveRoom l.bytes l.places.items;
}
