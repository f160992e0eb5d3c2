use Rattle.std.proofs.Common.{◌≡◌, ◌<◌, length, ap, sym, ◌∙◌, arith}
use Rattle.std.specs.FinMap as finmap
use Rattle.keepers.specs.Counts.{raised}
use Rattle.keepers.specs.KeeperState.{KeeperState}
use Rattle.keepers.specs.Places.{images_of}
use Rattle.keepers.proofs.Images.{image_put, image_freed, others_put, others_stay, on_ok, ok_so, by_result}
use Rattle.keepers.proofs.memory_keeper.MemoryKeeperKeeper.put.Goals as goal

pub returns-clause-ok : goal.returns-clause-ok
returns-clause-ok c =
    let places = c.with_place.new.places.items in
    let slot = c.args.slot in
    let reached = on_ok c.with_place.result c.with_place.ensures.there (sym c.is_err.ensures.value ∙ c.if-is_err.false) in
    let there : slot < length places = omega (arith, reached, c.with_place.new.places.ok) in
    let before : images_of places ≡ c.args.self.now.images = c.with_place.ensures.images ∙ ap (λ (k : KeeperState). k.images) c.self.view_is in
    let counted = ap (λ (k : KeeperState). k.puts) c.self.view_is in
    let puts : c.saturating_add-self-inside.result ≡ raised c.args.self.now.puts 1 = omega (arith, counted, c.saturating_add-self-inside.ensures) in
    ok_so c.fill.result c.fill.ensures.ok (λ is i. record {
      images = (image_put places slot c.fill.new.self c.args.image.now there is.0 is.1 ∙ ap (λ m. finmap.insert m slot c.args.image.now) before) i;
      slots = ap (λ (k : KeeperState). k.slots) c.self.view_is i;
      room = ap (λ (k : KeeperState). k.room) c.self.view_is i;
      failing = ap (λ (k : KeeperState). k.failing) c.self.view_is i;
      puts = puts i;
      gets = ap (λ (k : KeeperState). k.gets) c.self.view_is i;
      frees = ap (λ (k : KeeperState). k.frees) c.self.view_is i;
      faults = ap (λ (k : KeeperState). k.faults) c.self.view_is i;
    })

pub returns-clause-others : goal.returns-clause-others
returns-clause-others c = λ other apart.
    let places = c.with_place.new.places.items in
    let slot = c.args.slot in
    let reached = on_ok c.with_place.result c.with_place.ensures.there (sym c.is_err.ensures.value ∙ c.if-is_err.false) in
    let there : slot < length places = omega (arith, reached, c.with_place.new.places.ok) in
    let before : images_of places ≡ c.args.self.now.images = c.with_place.ensures.images ∙ ap (λ (k : KeeperState). k.images) c.self.view_is in
    by_result c.fill.result c.fill.ensures.ok c.fill.ensures.refused
    (λ is. ap (λ m. finmap.get m other) (image_put places slot c.fill.new.self c.args.image.now there is.0 is.1 ∙ ap (λ m. finmap.insert m slot c.args.image.now) before)
    ∙ others_put c.args.self.now.images slot c.args.image.now other apart)
    (λ is. ap (λ m. finmap.get m other) (image_freed places slot c.fill.new.self there is ∙ ap (λ m. finmap.remove m slot) before)
    ∙ others_stay c.args.self.now.images slot other apart)
