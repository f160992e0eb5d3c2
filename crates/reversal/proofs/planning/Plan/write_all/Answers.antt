use Rattle.std.proofs.Common.{◌≡◌, ◌∙◌, ℕ, List, map, take, Some, None, refl, sym, ap, subst}
use Rattle.std.specs.List.{AllByRecursion}
use Rattle.level_book.specs.BookCosts.{BookCosts, names_of}
use Rattle.action_text.specs.Canonical.{HasSpelling}
use Rattle.cert_text.specs.Canonical as certificate
use Rattle.cert_text.proofs.CanonicalRoundTrip.{joined}
use Rattle.keepers.specs.Counts.{Rose}
use Rattle.keepers.specs.Claims.{Tells, AddsPrefix}
use Rattle.reversal.specs.Output.{Adds}
use Rattle.reversal.specs.ActionsLeft.{left_of}
use Rattle.reversal.specs.JobModel.{certificate_pieces}
use Rattle.reversal.specs.Plans.{line_of_action}
use Rattle.reversal.specs.Deeds.{bytes_of}
use Rattle.reversal.proofs.Pieces.{written_none, written_more, written_stopped, written_whole, written_all, written_but_some, none_behind, fewer_left, spelled_behind}
use Rattle.reversal.proofs.planning.Plan.write_all.Goals as goal

pub loop-out-init : goal.loop-out-init
loop-out-init g c =
    let plan = c.args.self.now in
    record {
      so_far = written_none (line_of_action (names_of plan.book)) (certificate_pieces plan.certificate) (left_of plan.actions) (g.O.Sink.told c.args.out.now) (g.O.Sink.call_count c.args.out.now);
      spelled = c.requires.spelled;
      room = c.requires.reserved;
      book = refl;
      certificate = refl;
      faults = refl;
    }

pub loop-out-smaller : goal.loop-out-smaller
loop-out-smaller g c = fewer_left (left_of c.loop-out.self.actions) (left_of c.next_piece.new.self.actions) (c.loop-out-test.ensures.some.0 refl) c.next_piece.ensures.left

pub loop-out-preserved : goal.loop-out-preserved
loop-out-preserved g c =
    let inv = c.loop-out.invariant in
    let rest = left_of c.loop-out.self.actions in
    let f = line_of_action (names_of c.args.self.now.book) in
    let is = c.next_piece.ensures.piece ∙ ap (λ b. bytes_of (take 64 (map (line_of_action (names_of b)) rest))) inv.book in
    let P : List ℕ → Type 0 = λ l. Tells (g.O.Sink.told c.loop-out.out) (g.O.Sink.told c.write.new.self) (Adds l) in
    let B : BookCosts → Type 0 = λ b. AllByRecursion (HasSpelling (names_of b)) (left_of c.next_piece.new.self.actions) in
    record {
      so_far = written_more f _ _ rest (left_of c.next_piece.new.self.actions) c.next_piece.new.self.piece.items (g.O.Sink.told c.args.out.now) (g.O.Sink.told c.loop-out.out) (g.O.Sink.told c.write.new.self) _ _ _ inv.so_far
          (c.loop-out-test.ensures.some.0 refl) c.next_piece.ensures.left is (subst P c.deref.ensures.value c.in-Ok.ensures.ok) c.in-Ok.ensures.calls;
      spelled = subst B (sym c.next_piece.ensures.kept.0) (spelled_behind (names_of c.loop-out.self.book) rest (left_of c.next_piece.new.self.actions) c.next_piece.ensures.left inv.spelled);
      room = c.next_piece.ensures.capacity;
      book = c.next_piece.ensures.kept.0 ∙ inv.book;
      certificate = c.next_piece.ensures.kept.1 ∙ inv.certificate;
      faults = c.in-Ok.ensures.quiet ∙ inv.faults;
    }

pub returns-in-Err : goal.returns-in-Err
returns-in-Err g c other steps =
    let inv = c.loop-out.invariant in
    let rest = left_of c.loop-out.self.actions in
    let f = line_of_action (names_of c.args.self.now.book) in
    let is = c.next_piece.ensures.piece ∙ ap (λ b. bytes_of (take 64 (map (line_of_action (names_of b)) rest))) inv.book in
    let P : List ℕ → Type 0 = λ l. Tells (g.O.Sink.told c.loop-out.out) (g.O.Sink.told c.write.new.self) (AddsPrefix l) in
    let N : ℕ → Type 0 = λ n. Rose n (g.O.Sink.fault_count c.write.new.self) in
    written_stopped f _ _ rest _ (g.O.Sink.told c.loop-out.out) (g.O.Sink.call_count c.loop-out.out) _ _ (record { steps = refl; calls = refl }) inv.so_far c.next_piece.new.self.piece.items
    (record { sink = subst N inv.faults c.in-Err.ensures.cause; keepers = λ k. refl }) (c.loop-out-test.ensures.some.0 refl) is refl (subst P c.deref.ensures.value c.in-Err.ensures.refused) c.in-Err.ensures.calls

pub returns-in_default : goal.returns-in_default
returns-in_default g c other steps =
    let inv = c.loop-out.invariant in
    let f = line_of_action (names_of c.args.self.now.book) in
    let none = none_behind (left_of c.loop-out.self.actions) (λ some. c.loop-out-test.ensures.some.1 some) in
    let same : c.args.self.now.certificate ≡ None = sym (c.next_piece.ensures.kept.1 ∙ inv.certificate) ∙ c.in_default.is in
    written_whole f _ _ (left_of c.loop-out.self.actions) _ (g.O.Sink.told c.loop-out.out) (g.O.Sink.call_count c.loop-out.out) _ _ (record { steps = refl; calls = refl }) inv.so_far
    (record { sink = inv.faults; keepers = λ k. refl }) none (ap certificate_pieces same) refl refl refl

pub returns-in-Ok-print_certificate : goal.returns-in-Ok-print_certificate
returns-in-Ok-print_certificate g c other steps =
    let inv = c.loop-out.invariant in
    let f = line_of_action (names_of c.args.self.now.book) in
    let none = none_behind (left_of c.loop-out.self.actions) (λ some. c.loop-out-test.ensures.some.1 some) in
    let same : c.args.self.now.certificate ≡ Some c.in-Some.certificate = sym (c.next_piece.ensures.kept.1 ∙ inv.certificate) ∙ c.in-Some.is in
    let C : List ℕ → Type 0 = λ l. Tells (g.O.Sink.told c.loop-out.out) (g.O.Sink.told c.print_certificate.new.out) (Adds l) in
    written_all f _ _ (left_of c.loop-out.self.actions) _ (g.O.Sink.told c.loop-out.out) (g.O.Sink.call_count c.loop-out.out) _ _ (record { steps = refl; calls = refl }) inv.so_far (certificate.pieces c.in-Some.certificate)
    (record { sink = c.in-Ok-print_certificate.ensures.quiet ∙ inv.faults; keepers = λ k. refl }) none
    (ap certificate_pieces same) refl (subst C (sym (joined c.in-Some.certificate)) c.in-Ok-print_certificate.ensures.ok) c.in-Ok-print_certificate.ensures.calls

pub returns-in-Err-print_certificate : goal.returns-in-Err-print_certificate
returns-in-Err-print_certificate g c other steps =
    let inv = c.loop-out.invariant in
    let f = line_of_action (names_of c.args.self.now.book) in
    let none = none_behind (left_of c.loop-out.self.actions) (λ some. c.loop-out-test.ensures.some.1 some) in
    let same : c.args.self.now.certificate ≡ Some c.in-Some.certificate = sym (c.next_piece.ensures.kept.1 ∙ inv.certificate) ∙ c.in-Some.is in
    let stop = c.in-Err-print_certificate.ensures.stopped in
    let N : ℕ → Type 0 = λ n. Rose n (g.O.Sink.fault_count c.print_certificate.new.out) in
    written_but_some f _ _ (left_of c.loop-out.self.actions) _ (g.O.Sink.told c.loop-out.out) (g.O.Sink.call_count c.loop-out.out) _ _ (record { steps = refl; calls = refl }) inv.so_far stop.before stop.line stop.after
    (record { sink = subst N inv.faults c.in-Err-print_certificate.ensures.cause; keepers = λ k. refl }) none
    (ap certificate_pieces same ∙ stop.in_order) refl stop.told stop.calls
