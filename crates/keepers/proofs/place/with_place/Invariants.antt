use Rattle.std.proofs.Common.{◌≡◌, ◌+◌, ◌<◌, ◌≤◌, max, vec_len}
use Rattle.keepers.specs.Places.{images_of}
use Rattle.keepers.proofs.place.with_place.Given as goal

-- there are so many places, and no image more
abbrev pub invariant-loop : goal.invariant-loop
invariant-loop l = record {
  count : vec_len l.places ≡ l.counter;
  least : vec_len l.fn.places ≤ l.counter;
  most : l.counter ≤ max (vec_len l.fn.places) (l.slot + 1);
  images : images_of l.places.items ≡ images_of l.fn.places.items;
  still : l.slot < vec_len l.fn.places → l.places ≡ l.fn.places;
}
