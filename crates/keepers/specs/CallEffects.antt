-- What a call does to a keeper in memory, and to one that gives a wrong bit, by its answer.
use Rattle.std.specs.Prelude.{◌≡◌, ◌≢◌, ◌↔◌, ℕ, List, take, Result, Ok, Err, OnOk, OnErr}
use Rattle.std.specs.FinMap as finmap
use Rattle.keepers.specs.Counts.{raised}
use Rattle.keepers.specs.FailureList.{IsListed}
use Rattle.keepers.specs.FlipState.{FlipState, given}
use Rattle.keepers.specs.KeeperState.{KeeperState}
use Rattle.keepers.specs.Claims.{image_in, SameButAt}
use Rattle.keepers.specs.declared.keeper.KeepFault.{KeepFault}
use Rattle.keepers.specs.declared.keeper.KeepFault.TheVariants.{Failed, Memory}
use Rattle.keepers.specs.declared.memory_keeper.Op.TheVariants.{Put, Get, Free}

-- what a call answers
abbrev pub Answer : Type 0
Answer = Result (Unit {0}) KeepFault

-- a put: it fails exactly if it is listed, and changes no other slot
pub record IsPut (slot : ℕ) (image : List ℕ) (answer : Answer) (old new : KeeperState) : Type 0 where
  pub listed : (answer ≡ Err Failed) ↔ IsListed old.failing Put old.puts
  pub ok : OnOk answer (new ≡ record old { images = finmap.insert old.images slot image; puts = raised old.puts 1 })
  pub failed : answer ≡ Err Failed → new ≡ record old { puts = raised old.puts 1; faults = raised old.faults 1 }
  pub memory : answer ≡ Err Memory → new ≡ record old { images = new.images; puts = raised old.puts 1 }
  pub others : SameButAt slot old.images new.images

-- a get, which gives these bytes: it fails exactly if it is listed, and changes no slot
pub record IsGet (slot len : ℕ) (bytes : List ℕ) (answer : Answer) (old new : KeeperState) : Type 0 where
  pub listed : (answer ≡ Err Failed) ↔ IsListed old.failing Get old.gets
  pub ok : OnOk answer (bytes ≡ take len (image_in old.images slot))
  pub failed : answer ≡ Err Failed → new ≡ record old { gets = raised old.gets 1; faults = raised old.faults 1 }
  pub unfailed : answer ≢ Err Failed → new ≡ record old { gets = raised old.gets 1 }

-- a free: it fails exactly if it is listed, and then changes no slot; memory never runs out
pub record IsFree (slot : ℕ) (answer : Answer) (old new : KeeperState) : Type 0 where
  pub listed : (answer ≡ Err Failed) ↔ IsListed old.failing Free old.frees
  pub no_memory : answer ≢ Err Memory
  pub ok : OnOk answer (new ≡ record old { images = finmap.remove old.images slot; frees = raised old.frees 1 })
  pub failed : answer ≡ Err Failed → new ≡ record old { frees = raised old.frees 1; faults = raised old.faults 1 }

-- a put into a keeper that gives a wrong bit: it never fails, and changes no other slot
pub record IsFlipPut (slot : ℕ) (image : List ℕ) (answer : Answer) (old new : FlipState) : Type 0 where
  pub ok : OnOk answer (new ≡ record old {
    keeper = record old.keeper {
      images = finmap.insert old.keeper.images slot image;
      puts = raised old.keeper.puts 1;
    };
  })
  pub refused : OnErr answer (new ≡ record old { keeper = record old.keeper { images = new.keeper.images; puts = raised old.keeper.puts 1 } })
  pub others : SameButAt slot old.keeper.images new.keeper.images
  pub quiet : answer ≢ Err Failed

-- a get of one, which gives these bytes: one get gives the wrong bit, and none changes a slot
pub record IsFlipGet (slot len : ℕ) (bytes : List ℕ) (answer : Answer) (old new : FlipState) : Type 0 where
  pub ok : OnOk answer (bytes ≡ given old (take len (image_in old.keeper.images slot)))
  pub after : new ≡ record old { keeper = record old.keeper { gets = raised old.keeper.gets 1 } }
  pub quiet : answer ≢ Err Failed

-- a free of one, which never fails
pub record IsFlipFree (slot : ℕ) (answer : Answer) (old new : FlipState) : Type 0 where
  pub ok : answer ≡ Ok tt
  pub freed : new ≡ record old { keeper = record old.keeper { images = finmap.remove old.keeper.images slot; frees = raised old.keeper.frees 1 } }
