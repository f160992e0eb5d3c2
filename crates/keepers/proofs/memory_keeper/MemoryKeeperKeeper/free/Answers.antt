use Rattle.std.proofs.Common.{◌≡◌, ◌<◌, ◌≤◌, length, false, ap, ◌∙◌, refl, arith}
use Rattle.std.specs.FinMap as finmap
use Rattle.keepers.specs.Counts.{raised}
use Rattle.keepers.specs.KeeperState.{KeeperState}
use Rattle.keepers.specs.declared.place.Place.{Place}
use Rattle.keepers.proofs.Images.{image_freed, none_freed}
use Rattle.keepers.proofs.memory_keeper.MemoryKeeperKeeper.free.Goals as goal

pub returns-then-slot-len-clause-ok : goal.returns-then-slot-len-clause-ok
returns-then-slot-len-clause-ok c =
    let there : c.args.slot < length c.self.inside.places.items = omega (arith, c.if-slot-len.true, c.len.ensures, c.self.inside.places.ok) in
    let empty : Place = record { bytes = c.index_mut.result.now.bytes; filled = false } in
    let images = image_freed c.self.inside.places.items c.args.slot empty there refl ∙ ap (λ (k : KeeperState). finmap.remove k.images c.args.slot) c.self.view_is in
    let before = ap (λ (k : KeeperState). k.frees) c.self.view_is in
    let frees : c.saturating_add-self-inside.result ≡ raised c.args.self.now.frees 1 = omega (arith, before, c.saturating_add-self-inside.ensures) in
    λ i. record {
      images = images i;
      slots = ap (λ (k : KeeperState). k.slots) c.self.view_is i;
      room = ap (λ (k : KeeperState). k.room) c.self.view_is i;
      failing = ap (λ (k : KeeperState). k.failing) c.self.view_is i;
      puts = ap (λ (k : KeeperState). k.puts) c.self.view_is i;
      gets = ap (λ (k : KeeperState). k.gets) c.self.view_is i;
      frees = frees i;
      faults = ap (λ (k : KeeperState). k.faults) c.self.view_is i;
    }

pub returns-else-slot-len-clause-ok : goal.returns-else-slot-len-clause-ok
returns-else-slot-len-clause-ok c =
    let past : length c.self.inside.places.items ≤ c.args.slot = omega (arith, c.if-slot-len.false, c.len.ensures, c.self.inside.places.ok) in
    let images = none_freed c.self.inside.places.items c.args.slot past ∙ ap (λ (k : KeeperState). finmap.remove k.images c.args.slot) c.self.view_is in
    let before = ap (λ (k : KeeperState). k.frees) c.self.view_is in
    let frees : c.saturating_add-self-inside.result ≡ raised c.args.self.now.frees 1 = omega (arith, before, c.saturating_add-self-inside.ensures) in
    λ i. record {
      images = images i;
      slots = ap (λ (k : KeeperState). k.slots) c.self.view_is i;
      room = ap (λ (k : KeeperState). k.room) c.self.view_is i;
      failing = ap (λ (k : KeeperState). k.failing) c.self.view_is i;
      puts = ap (λ (k : KeeperState). k.puts) c.self.view_is i;
      gets = ap (λ (k : KeeperState). k.gets) c.self.view_is i;
      frees = frees i;
      faults = ap (λ (k : KeeperState). k.faults) c.self.view_is i;
    }
