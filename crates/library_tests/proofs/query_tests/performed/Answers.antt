use Rattle.std.proofs.Common.{◌≡◌, ℕ, Bool, true, List, map, ap, refl, sym, subst}
use Rattle.std.specs.Bool.{OnTrue}
use Rattle.level_book.specs.BookCosts.{slots_of}
use Rattle.level_book.specs.Valid.{Valid}
use Rattle.reverse_runner.specs.KeepersSeen.{HaveRoom}
use Rattle.reverse_runner.specs.SessionState.{SessionState}
use Rattle.reverse_queries.specs.ListExecution.{AwaitsList}
use Rattle.library_tests.proofs.query_tests.performed.Goals as goal

pub ask_session-step-requires-clause-awaits : goal.ask_session-step-requires-clause-awaits
ask_session-step-requires-clause-awaits g c =
    let f = g.K.Storage.slot_count in
    let slots = slots_of c.args.book in
    let roomy : c.have_room.result ≡ true = cc in
    let valid : c.in_ok-valid.valid ≡ true = cc in
    let P : Bool → Type 0 = λ b. OnTrue b (HaveRoom 4 slots (map f c.as_slice.result.now)) in
    let Q : List ℕ → Type 0 = λ counts. HaveRoom 4 slots counts in
    let R : SessionState → Type 0 = λ s. AwaitsList s c.args.list.now (map f c.args.keepers.now.items) in
    let V : Bool → Type 0 = λ b. OnTrue b (Valid 4 slots c.args.list.now) in
    subst R (sym c.in_ok-session.ensures.begun)
    (record {
      start = refl;
      lasts = refl;
      valid = subst V valid c.in_ok-valid.ensures;
      room = subst Q (ap (λ ks. map f ks) c.as_slice.ensures.value) (subst P roomy c.have_room.ensures);
    })
