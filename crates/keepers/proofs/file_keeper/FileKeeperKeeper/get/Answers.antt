use Rattle.std.proofs.Common.{◌≤◌, ◌^◌, arith, rules}
use Rattle.keepers.proofs.SlotImages.{keeper_bytes}
use Rattle.keepers.proofs.file_keeper.FileKeeperKeeper.get.Goals as goal

pub returns-in-Ok-clause-ok : goal.returns-in-Ok-clause-ok
returns-in-Ok-clause-ok g c =
    let few : c.args.self.now.slots ≤ 2 ^ 64 = omega arith in
    keeper_bytes g.D.Disk.told c.args.slot c.args.self.now c.args.self.now few c.requires c.args.len c.get_file.new.into.items c.in-Ok.ensures.bytes

pub returns-in-Err-clause-does : goal.returns-in-Err-clause-does
returns-in-Err-clause-does g c = record {
  ok = search rules;
  rest = search rules;
  quiet = search rules;
  counted = search rules;
  cause = λ failed. c.in-Err.ensures.cause (λ kind. cc (c.keep_fault.ensures.memory kind, failed));
}
