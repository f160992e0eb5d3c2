use Rattle.std.proofs.Common.{List, count_by, ap, ◌∙◌, sym}
use Rattle.std.proofs.lemmas.List.{take_all}
use Rattle.std.specs.FinMap as finmap
use Rattle.keepers.specs.declared.place.Place.{Place}
use Rattle.keepers.proofs.Images.{image_count}
use Rattle.keepers.proofs.memory_keeper.MemoryKeeper.filled.Goals as goal

pub returns : goal.returns
returns c =
    let items : List Place = c.deref-place-items.result.now in
    c.loop-place.invariant.count
    ∙ ap (λ xs. count_by (λ (p : Place). p.filled) xs) (take_all c.loop-place.place-index items c.loop-place-test.false ∙ c.deref-place-items.ensures.value)
    ∙ sym (image_count c.self.inside.places.items)
    ∙ ap (λ k. finmap.len k.images) c.self.view_is
