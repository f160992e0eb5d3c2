use Rattle.std.proofs.Common.{◌≤◌, ◌^◌, ap, arith, rules}
use Rattle.keepers.specs.SlotFiles.{images_told}
use Rattle.keepers.proofs.SlotImages.{keeper_freed, keeper_left}
use Rattle.keepers.proofs.file_keeper.FileKeeperKeeper.free.Goals as goal

pub returns-in-Ok-clause-ok : goal.returns-in-Ok-clause-ok
returns-in-Ok-clause-ok g c =
    let few : c.args.self.now.slots ≤ 2 ^ 64 = omega arith in
    let told = g.D.Disk.told in
    keeper_freed told c.args.slot c.args.self.now c.free_file.new.self few c.requires (ap (images_told told) c.free_file.ensures.rest) c.in-Ok.ensures.removed

pub returns-in-Err-clause-refused : goal.returns-in-Err-clause-refused
returns-in-Err-clause-refused g c =
    let few : c.args.self.now.slots ≤ 2 ^ 64 = omega arith in
    let told = g.D.Disk.told in
    keeper_left told c.args.slot c.args.self.now c.free_file.new.self few c.requires (ap (images_told told) c.free_file.ensures.rest) c.in-Err.ensures.left

pub returns-in-Err-clause-does : goal.returns-in-Err-clause-does
returns-in-Err-clause-does g c = record {
  removed = search rules;
  left = c.in-Err.ensures.left;
  rest = search rules;
  quiet = search rules;
  counted = search rules;
  cause = λ failed. c.in-Err.ensures.cause (λ kind. cc (c.keep_fault.ensures.memory kind, failed));
}
