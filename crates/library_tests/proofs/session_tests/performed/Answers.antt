use Rattle.std.proofs.Common.{◌≡◌, ℕ, Bool, true, List, map, ap, sym, subst}
use Rattle.std.specs.Bool.{OnTrue}
use Rattle.level_book.specs.BookCosts.{slots_of}
use Rattle.reverse_runner.specs.KeepersSeen.{HaveRoom}
use Rattle.reverse_runner.specs.SessionState.{SessionState}
use Rattle.library_tests.proofs.session_tests.performed.Goals as goal

pub go_through-requires : goal.go_through-requires
go_through-requires g c =
    let f = g.K.Storage.slot_count in
    let slots = slots_of c.args.book in
    let roomy : c.have_room.result ≡ true = cc in
    let P : Bool → Type 0 = λ b. OnTrue b (HaveRoom c.args.count slots (map f c.as_slice.result.now)) in
    let Q : List ℕ → Type 0 = λ counts. HaveRoom c.args.count slots counts in
    let R : SessionState → Type 0 = λ s. HaveRoom s.situation.steps s.situation.slots (map f c.args.keepers.now.items) in
    subst R (sym c.in_ok-session.ensures.begun) (subst Q (ap (λ ks. map f ks) c.as_slice.ensures.value) (subst P roomy c.have_room.ensures))
