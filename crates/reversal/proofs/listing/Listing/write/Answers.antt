use Rattle.std.proofs.Common.{◌∙◌, ℕ, List, [], refl, sym, subst}
use Rattle.keepers.specs.Counts.{Rose}
use Rattle.keepers.specs.Claims.{Tells, AddsPrefix}
use Rattle.reversal.specs.Output.{Adds}
use Rattle.reversal.specs.Listing.{ended_line, word_pieces}
use Rattle.reversal.proofs.Pieces.{IsWritten, written_none_alone, written_more, written_stopped, written_whole, some_left, none_left_of, fewer_left}
use Rattle.reversal.proofs.listing.Listing.write.Goals as goal

pub loop-rest-init : goal.loop-rest-init
loop-rest-init g c =
    let told = g.O.Sink.told c.args.out.now in
    let count = g.O.Sink.call_count c.args.out.now in
    let P : List ℕ → Type 0 = λ l. IsWritten ended_line (word_pieces c.args.self.words.items) [] l told told count count in
    record { so_far = subst P (sym c.as_slice-rest.ensures.value) (written_none_alone ended_line c.args.self.words.items told count); room = c.requires; faults = refl }

pub loop-rest-smaller : goal.loop-rest-smaller
loop-rest-smaller g c = fewer_left c.loop-rest.rest.now c.next_piece-rest.result.now (some_left c.loop-rest.rest.now (sym c.is_empty.ensures ∙ c.loop-rest-test.true)) c.next_piece-rest.ensures.left

pub loop-rest-preserved : goal.loop-rest-preserved
loop-rest-preserved g c =
    let inv = c.loop-rest.invariant in
    let rest = c.loop-rest.rest.now in
    let P : List ℕ → Type 0 = λ l. Tells (g.O.Sink.told c.loop-rest.out) (g.O.Sink.told c.write.new.self) (Adds l) in
    record {
      so_far = written_more ended_line _ [] rest c.next_piece-rest.result.now c.next_piece-rest.new.piece.items (g.O.Sink.told c.args.out.now) (g.O.Sink.told c.loop-rest.out) (g.O.Sink.told c.write.new.self) _ _ _ inv.so_far
          (some_left rest (sym c.is_empty.ensures ∙ c.loop-rest-test.true)) c.next_piece-rest.ensures.left c.next_piece-rest.ensures.piece (subst P c.deref.ensures.value c.in-Ok.ensures.ok) c.in-Ok.ensures.calls;
      room = c.next_piece-rest.ensures.capacity;
      faults = c.in-Ok.ensures.quiet ∙ inv.faults;
    }

pub returns-in-Err : goal.returns-in-Err
returns-in-Err g c other steps =
    let inv = c.loop-rest.invariant in
    let rest = c.loop-rest.rest.now in
    let P : List ℕ → Type 0 = λ l. Tells (g.O.Sink.told c.loop-rest.out) (g.O.Sink.told c.write.new.self) (AddsPrefix l) in
    let N : ℕ → Type 0 = λ n. Rose n (g.O.Sink.fault_count c.write.new.self) in
    written_stopped ended_line _ [] rest _ (g.O.Sink.told c.loop-rest.out) (g.O.Sink.call_count c.loop-rest.out) _ _ (record { steps = refl; calls = refl }) inv.so_far c.next_piece-rest.new.piece.items
    (record { sink = subst N inv.faults c.in-Err.ensures.cause; keepers = λ k. refl }) (some_left rest (sym c.is_empty.ensures ∙ c.loop-rest-test.true)) c.next_piece-rest.ensures.piece refl
    (subst P c.deref.ensures.value c.in-Err.ensures.refused) c.in-Err.ensures.calls

pub returns : goal.returns
returns g c other steps =
    let inv = c.loop-rest.invariant in
    let rest = c.loop-rest.rest.now in
    written_whole ended_line _ [] rest _ (g.O.Sink.told c.loop-rest.out) (g.O.Sink.call_count c.loop-rest.out) _ _ (record { steps = refl; calls = refl }) inv.so_far (record { sink = inv.faults; keepers = λ k. refl })
    (none_left_of rest (sym c.is_empty.ensures ∙ c.loop-rest-test.false)) refl refl refl refl
