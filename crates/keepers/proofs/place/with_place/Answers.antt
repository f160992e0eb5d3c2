use Rattle.std.proofs.Common.{◌≡◌, ◌++◌, ◌∷◌, [], ap, ◌∙◌, arith, refl, false}
use Rattle.keepers.specs.Places.{images_of}
use Rattle.keepers.specs.declared.place.Place.{Place}
use Rattle.keepers.proofs.Images.{images_more}
use Rattle.keepers.proofs.place.with_place.Goals as goal

pub loop-preserved : goal.loop-preserved
loop-preserved c =
    let so_far = c.loop.invariant in
    let empty : Place = record { bytes = c.new.result; filled = false } in
    let one_more : c.push.new.self.items ≡ c.loop.places.items ++ empty ∷ [] = c.in_ok-push.ensures.items in
    let least = so_far.least in
    let count = so_far.count in
    let more = c.in_ok-push.ensures.len in
    record {
      count = omega (arith, count, more);
      least = omega (arith, least);
      most = omega arith;
      images = ap images_of one_more ∙ images_more c.loop.places.items empty refl ∙ so_far.images;
      still = λ there. absurd (omega (arith, least, there));
    }
