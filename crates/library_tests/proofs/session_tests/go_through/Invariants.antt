use Rattle.std.proofs.Common.{map}
use Rattle.reverse_runner.specs.KeepersSeen.{HaveRoom}
use Rattle.library_tests.proofs.session_tests.go_through.Given as goal

-- each level has a keeper with room
abbrev pub invariant-loop-action : goal.invariant-loop-action
invariant-loop-action g l = HaveRoom l.session.situation.steps l.session.situation.slots (map g.K.Storage.slot_count l.keepers.items)
