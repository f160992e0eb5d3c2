use Rattle.std.proofs.Common.{◌≤◌, ◌^◌, ap, arith, rules}
use Rattle.keepers.specs.SlotFiles.{images_told}
use Rattle.keepers.proofs.SlotImages.{keeper_put, keeper_others}
use Rattle.keepers.proofs.file_keeper.FileKeeperKeeper.put.Goals as goal

pub returns-in-Ok-clause-ok : goal.returns-in-Ok-clause-ok
returns-in-Ok-clause-ok g c =
    let few : c.args.self.now.slots ≤ 2 ^ 64 = omega arith in
    let told = g.D.Disk.told in
    keeper_put told c.args.slot c.args.self.now c.put_file.new.self few c.requires c.args.image.now (ap (images_told told) c.put_file.ensures.rest) c.in-Ok.ensures.written

pub returns-in-Err-clause-refused : goal.returns-in-Err-clause-refused
returns-in-Err-clause-refused g c =
    let few : c.args.self.now.slots ≤ 2 ^ 64 = omega arith in
    let told = g.D.Disk.told in
    keeper_others told c.args.slot c.args.self.now c.put_file.new.self few c.requires (ap (images_told told) c.put_file.ensures.rest) c.in-Err.ensures.others

pub returns-in-Err-clause-does : goal.returns-in-Err-clause-does
returns-in-Err-clause-does g c = record {
  written = search rules;
  others = c.in-Err.ensures.others;
  rest = search rules;
  quiet = search rules;
  counted = search rules;
  cause = λ failed. c.in-Err.ensures.cause (λ kind. cc (c.keep_fault.ensures.memory kind, failed));
}
