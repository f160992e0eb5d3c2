use Rattle.std.proofs.Common.{◌≡◌, ℕ, List, sym, subst}
use Rattle.reverse_runner.specs.KeepersSeen.{HaveRoom}
use Rattle.reverse_runner.specs.SessionState.{SessionState}
use Rattle.library_tests.proofs.tape_tests.counted.Goals as goal

-- the digests of the tape leave the session where it is
room_stays : (counts : List ℕ) (a b : SessionState) → b ≡ a → HaveRoom a.situation.steps a.situation.slots counts → HaveRoom b.situation.steps b.situation.slots counts
room_stays counts a b same room = subst (λ (s : SessionState). HaveRoom s.situation.steps s.situation.slots counts) (sym same) room

pub both_go-back-requires : goal.both_go-back-requires
both_go-back-requires g c = room_stays _ c.both_go-forth.new.session c.digest_tape.new.self c.digest_tape.ensures.session c.both_go-forth.ensures.room
