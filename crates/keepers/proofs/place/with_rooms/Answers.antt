use Rattle.std.proofs.Common.{◌≡◌, ◌++◌, ◌∷◌, [], ap, ◌∙◌, sym, subst, arith, refl, false}
use Rattle.keepers.specs.Places.{images_of, HaveRoom}
use Rattle.keepers.specs.declared.place.Place.{Place}
use Rattle.keepers.proofs.Images.{images_more, room_more}
use Rattle.keepers.proofs.place.with_rooms.Goals as goal

pub loop-preserved : goal.loop-preserved
loop-preserved c =
    let so_far = c.loop.invariant in
    let empty : Place = record { bytes = c.in_ok-with_capacity.field-0; filled = false } in
    let one_more : c.push.new.self.items ≡ c.loop.places.items ++ empty ∷ [] = c.in_ok-push.ensures.items in
    let count = so_far.count in
    let more = c.in_ok-push.ensures.len in
    record {
      count = omega (arith, count, more);
      images = ap images_of one_more ∙ images_more c.loop.places.items empty refl ∙ so_far.images;
      room = subst (HaveRoom c.args.bytes) (sym one_more) (room_more c.args.bytes c.loop.places.items empty so_far.room c.in_ok-with_capacity.ensures.capacity);
    }
