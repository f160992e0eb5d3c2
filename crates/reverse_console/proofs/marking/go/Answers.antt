use Rattle.std.proofs.Common.{ℕ, ◌≤◌, [], ◌∷◌, Err, Ok, IfErr, refl, sym, ◌∙◌, ap, subst, arith}
use Rattle.std.specs.Vec.{vec_capacity}
use Rattle.std.proofs.lemmas.Result.{IfErr-at_err, err_from_is_err_and}
use Rattle.reverse_runner.specs.KeepersSeen.{told_by}
use Rattle.reverse_runner.specs.declared.fault.RunFault.TheVariants.{Visitor}
use Rattle.reverse_queries.proofs.Progress.{same_fault, on_err_always}
use Rattle.reverse_console.specs.Marks.{marked, mark_of}
use Rattle.reverse_console.specs.MarkInvariant.{source}
use Rattle.reverse_console.specs.Refusals.{IsNotGot}
use Rattle.reverse_console.proofs.MarkGets.{err_at, fits_on, gets_as, gets_err, gets_ok, gets_moved, gets_unseen}
use Rattle.reverse_console.proofs.Numbers.{mark_at_most, mark_of_known}
use Rattle.reverse_console.proofs.FetchedStates.{went}
use Rattle.reverse_console.proofs.marking.go.Goals as goal

pub recall-requires-clause-known : goal.recall-requires-clause-known
recall-requires-clause-known g c = let known = mark_of_known c.args.marks.now c.args.n in omega (arith, known, c.of-mark.ensures)

pub returns-in_err-recall-clause-gets : goal.returns-in_err-recall-clause-gets
returns-in_err-recall-clause-gets g c =
    let q = err_from_is_err_and c.from_residual.result c.from_residual.ensures.1 in
    let p = c.args.marks.now in
    gets_as g.K.Storage p c.args.journal.now (c.of-mark.result ∷ []) (mark_of p c.args.n ∷ []) c.from_residual.result c.args.desk.now c.recall.new.desk c.args.keepers.now.items c.recall.new.keepers.items (ap (λ (i : ℕ). i ∷ []) c.of-mark.ensures)
    (gets_err g.K.Storage p c.args.journal.now (c.of-mark.result ∷ []) c.recall.result c.from_residual.result _ _ c.args.desk.now c.recall.new.desk c.args.keepers.now.items c.recall.new.keepers.items c.in_err-recall.was q.1 q.2 c.recall.ensures.gets)

pub returns-in_err-recall-clause-not_got : goal.returns-in_err-recall-clause-not_got
returns-in_err-recall-clause-not_got g c ne =
    let q = err_from_is_err_and c.from_residual.result c.from_residual.ensures.1 in
    let src = source c.args.marks.now c.args.journal.now c.args.desk.now (told_by g.K.Storage c.args.keepers.now.items) in
    let R : ℕ → Type 0 = λ i. IfErr c.recall.result (IsNotGot src i) in
    let i = mark_of c.args.marks.now c.args.n in
    let missed = subst R c.of-mark.ensures c.recall.ensures.not_got in
    err_at (IsNotGot src i) c.from_residual.result q.0 q.1 (subst (IsNotGot src i) (sym q.2) (IfErr-at_err (IsNotGot src i) c.in_err-recall.was missed))

pub returns-in_err-recall-clause-missed : goal.returns-in_err-recall-clause-missed
returns-in_err-recall-clause-missed g c e =
    let q = err_from_is_err_and c.from_residual.result c.from_residual.ensures.1 in
    let src = source c.args.marks.now c.args.journal.now c.args.desk.now (told_by g.K.Storage c.args.keepers.now.items) in
    absurd (IfErr-at_err (IsNotGot src c.of-mark.result) (same_fault c.recall.result c.from_residual.result _ _ Visitor c.in_err-recall.was q.1 q.2 e) c.recall.ensures.not_got)

pub returns-in_err-recall-clause-seen : goal.returns-in_err-recall-clause-seen
returns-in_err-recall-clause-seen g c =
    let q = err_from_is_err_and c.from_residual.result c.from_residual.ensures.1 in
    let src = source c.args.marks.now c.args.journal.now c.args.desk.now (told_by g.K.Storage c.args.keepers.now.items) in
    record {
      unseen = on_err_always c.from_residual.result (λ ne. refl);
      faults = record {
        cause = λ e. absurd (IfErr-at_err (IsNotGot src c.of-mark.result) (same_fault c.recall.result c.from_residual.result _ _ Visitor c.in_err-recall.was q.1 q.2 e) c.recall.ensures.not_got);
        quiet = λ ne. refl;
        later = omega arith;
      };
    }

pub returns-in_err-recall-clause-counted_unseen : goal.returns-in_err-recall-clause-counted_unseen
returns-in_err-recall-clause-counted_unseen g c e =
    let q = err_from_is_err_and c.from_residual.result c.from_residual.ensures.1 in
    let src = source c.args.marks.now c.args.journal.now c.args.desk.now (told_by g.K.Storage c.args.keepers.now.items) in
    absurd (IfErr-at_err (IsNotGot src c.of-mark.result) (same_fault c.recall.result c.from_residual.result _ _ Visitor c.in_err-recall.was q.1 q.2 e) c.recall.ensures.not_got)

pub returns-in-Ok-clause-got : goal.returns-in-Ok-clause-got
returns-in-Ok-clause-got g c =
    let p = c.args.marks.now in
    let src = source p c.args.journal.now c.args.desk.now (told_by g.K.Storage c.args.keepers.now.items) in
    let low = mark_at_most p c.args.n in
    let at = ap (marked p) c.of-mark.ensures in
    let le : c.marked.result ≤ c.args.n = omega (arith, c.marked.ensures, at, low) in
    let comes = went src c.of-mark.result (mark_of p c.args.n) c.args.n c.marked.result c.recall.new.desk.work c.advance.new.self.work c.of-mark.ensures c.marked.ensures le c.in_ok-recall.ensures.comes c.advance.ensures.work in
    (c.advance.new.self.work, (comes, c.in-Ok.ensures.ok))

pub returns-in-Ok-clause-gets : goal.returns-in-Ok-clause-gets
returns-in-Ok-clause-gets g c =
    let p = c.args.marks.now in
    let pages = sym c.advance.ensures.pages in
    let same = ap vec_capacity c.advance.ensures.buffer in
    let fits = fits_on c.recall.new.desk c.advance.new.self pages (omega (arith, same)) c.recall.ensures.gets.reads.fits in
    gets_as g.K.Storage p c.args.journal.now (c.of-mark.result ∷ []) (mark_of p c.args.n ∷ []) (Ok tt) c.args.desk.now c.advance.new.self c.args.keepers.now.items c.recall.new.keepers.items (ap (λ (i : ℕ). i ∷ []) c.of-mark.ensures)
    (gets_moved g.K.Storage p c.args.journal.now (c.of-mark.result ∷ []) (Ok tt) c.args.desk.now c.recall.new.desk c.advance.new.self c.args.keepers.now.items c.recall.new.keepers.items pages c.advance.ensures.store fits
    (gets_ok g.K.Storage p c.args.journal.now (c.of-mark.result ∷ []) c.recall.result _ tt c.args.desk.now c.recall.new.desk c.args.keepers.now.items c.recall.new.keepers.items c.in_ok-recall.was c.recall.ensures.gets))

pub returns-in-Ok-clause-counted : goal.returns-in-Ok-clause-counted
returns-in-Ok-clause-counted g c =
    let at = c.marked.ensures ∙ ap (marked c.args.marks.now) c.of-mark.ensures in
    omega (arith, at)

pub returns-in-Err-clause-missed : goal.returns-in-Err-clause-missed
returns-in-Err-clause-missed g c e =
    let p = c.args.marks.now in
    let src = source p c.args.journal.now c.args.desk.now (told_by g.K.Storage c.args.keepers.now.items) in
    let low = mark_at_most p c.args.n in
    let at = ap (marked p) c.of-mark.ensures in
    let le : c.marked.result ≤ c.args.n = omega (arith, c.marked.ensures, at, low) in
    let comes = went src c.of-mark.result (mark_of p c.args.n) c.args.n c.marked.result c.recall.new.desk.work c.advance.new.self.work c.of-mark.ensures c.marked.ensures le c.in_ok-recall.ensures.comes c.advance.ensures.work in
    (c.advance.new.self.work, (comes, c.in-Err.ensures.refused))

pub returns-in-Err-clause-gets : goal.returns-in-Err-clause-gets
returns-in-Err-clause-gets g c =
    let p = c.args.marks.now in
    let pages = sym c.advance.ensures.pages in
    let same = ap vec_capacity c.advance.ensures.buffer in
    let fits = fits_on c.recall.new.desk c.advance.new.self pages (omega (arith, same)) c.recall.ensures.gets.reads.fits in
    gets_as g.K.Storage p c.args.journal.now (c.of-mark.result ∷ []) (mark_of p c.args.n ∷ []) (Err Visitor) c.args.desk.now c.advance.new.self c.args.keepers.now.items c.recall.new.keepers.items (ap (λ (i : ℕ). i ∷ []) c.of-mark.ensures)
    (gets_moved g.K.Storage p c.args.journal.now (c.of-mark.result ∷ []) (Err Visitor) c.args.desk.now c.recall.new.desk c.advance.new.self c.args.keepers.now.items c.recall.new.keepers.items pages c.advance.ensures.store fits
    (gets_unseen g.K.Storage p c.args.journal.now (c.of-mark.result ∷ []) c.recall.result _ c.args.desk.now c.recall.new.desk c.args.keepers.now.items c.recall.new.keepers.items c.in_ok-recall.was c.recall.ensures.gets))

pub returns-in-Err-clause-not_got : goal.returns-in-Err-clause-not_got
returns-in-Err-clause-not_got g c ne = absurd (ne refl)

pub returns-in-Err-clause-counted_unseen : goal.returns-in-Err-clause-counted_unseen
returns-in-Err-clause-counted_unseen g c e =
    let at = c.marked.ensures ∙ ap (marked c.args.marks.now) c.of-mark.ensures in
    omega (arith, at)

pub overflow_sub-n : goal.overflow_sub-n
overflow_sub-n g c =
    let low = mark_at_most c.args.marks.now c.args.n in
    let at = ap (marked c.args.marks.now) c.of-mark.ensures in
    omega (arith, c.marked.ensures, at, low)

pub returns-in-Ok-clause-seen : goal.returns-in-Ok-clause-seen
returns-in-Ok-clause-seen g c = record {
  unseen = tt;
  faults = record {
    cause = λ e. absurd cc;
    quiet = λ ne. c.in-Ok.ensures.quiet;
    later = c.state.ensures.later;
  };
}

pub returns-in-Err-clause-seen : goal.returns-in-Err-clause-seen
returns-in-Err-clause-seen g c = record {
  unseen = λ ne. absurd (ne refl);
  faults = record {
    cause = λ e. c.in-Err.ensures.cause;
    quiet = λ ne. absurd (ne refl);
    later = c.state.ensures.later;
  };
}
