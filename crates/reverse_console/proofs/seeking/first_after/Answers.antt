use Rattle.std.proofs.Common.{◌≡◌, ℕ, ◌+◌, ◌-◌, ◌≤◌, [], ◌∷◌, unwrap_or, Ok, IfErr, refl, sym, ◌∙◌, ap, subst, arith}
use Rattle.std.specs.Vec.{vec_capacity}
use Rattle.std.proofs.lemmas.Result.{IfErr-at_err, err_from_is_err_and}
use Rattle.rv_machine.specs.States.{state_number}
use Rattle.reverse_runner.specs.KeepersSeen.{told_by}
use Rattle.reverse_runner.specs.declared.fault.RunFault.{RunFault}
use Rattle.reverse_console.specs.Answer.{IsFirst}
use Rattle.reverse_console.specs.Costs.{asking, looking_on, BreaksOn}
use Rattle.reverse_console.specs.Marks.{marked, mark_of}
use Rattle.reverse_console.specs.MarkInvariant.{source}
use Rattle.reverse_console.specs.Refusals.{IsNotGot}
use Rattle.reverse_console.specs.StateSources.{HasPc}
use Rattle.reverse_console.proofs.OrderCosts.{never_done, looked_on, first_behind}
use Rattle.reverse_console.proofs.MarkGets.{err_at, fits_on, gets_as, gets_err, gets_ok, gets_moved}
use Rattle.reverse_console.proofs.Numbers.{mark_at_most, mark_of_known}
use Rattle.reverse_console.proofs.FetchedStates.{went, first_on}
use Rattle.reverse_console.proofs.seeking.first_after.Goals as goal

pub recall-requires-clause-known : goal.recall-requires-clause-known
recall-requires-clause-known g c = let known = mark_of_known c.args.marks.now c.args.place in omega (arith, known, c.of-mark.ensures)

pub seek_first-requires : goal.seek_first-requires
seek_first-requires g c = omega (arith, c.steps.ensures.value, c.requires.before_end)

pub returns-in_err-recall-clause-looks : goal.returns-in_err-recall-clause-looks
returns-in_err-recall-clause-looks g c =
    let p = c.args.marks.now in
    let i = mark_of p c.args.place in
    let q = err_from_is_err_and c.from_residual.result c.from_residual.ensures.1 in
    let src = source p c.args.journal.now c.args.desk.now (told_by g.K.Storage c.args.keepers.now.items) in
    let R : ℕ → Type 0 = λ m. IfErr c.recall.result (IsNotGot src m) in
    let missed = subst R c.of-mark.ensures c.recall.ensures.not_got in
    let E : RunFault → Type 0 = λ fault. (mark : ℕ) × (BreaksOn p c.args.place mark (asking i) × IsNotGot src mark fault) in
    record {
      effort = asking i;
      got = gets_as g.K.Storage p c.args.journal.now (c.of-mark.result ∷ []) (i ∷ []) c.from_residual.result c.args.desk.now c.recall.new.desk c.args.keepers.now.items c.recall.new.keepers.items (ap (λ (m : ℕ). m ∷ []) c.of-mark.ensures)
          (gets_err g.K.Storage p c.args.journal.now (c.of-mark.result ∷ []) c.recall.result c.from_residual.result _ _ c.args.desk.now c.recall.new.desk c.args.keepers.now.items c.recall.new.keepers.items c.in_err-recall.was q.1 q.2 c.recall.ensures.gets);
      counted = omega arith;
      done = never_done (λ answer. asking i ≡ looking_on p c.args.place answer) c.from_residual.result q.0 q.1;
      broken = err_at E c.from_residual.result q.0 q.1
          (i, (record { before_end = c.requires.before_end; mark_is = refl; effort_is = refl }, subst (IsNotGot src i) (sym q.2) (IfErr-at_err (IsNotGot src i) c.in_err-recall.was missed)));
    }

pub returns-clause-seen : goal.returns-clause-seen
returns-clause-seen g c =
    let p = c.args.marks.now in
    let j = c.args.journal.now in
    let old = c.args.keepers.now.items in
    let w = c.args.desk.now in
    let v1 = c.recall.new.desk in
    let low = mark_at_most p c.args.place in
    let at = ap (marked p) c.of-mark.ensures in
    let le : c.marked.result ≤ c.args.place = omega (arith, c.marked.ensures, at, low) in
    let src = source p j w (told_by g.K.Storage old) in
    let comes = went src c.of-mark.result (mark_of p c.args.place) c.args.place c.marked.result v1.work c.advance.new.self.work c.of-mark.ensures c.marked.ensures le c.in_ok-recall.ensures.comes c.advance.ensures.work in
    let P : ℕ → Type 0 = λ last. IsFirst (λ n. HasPc c.args.address (state_number c.advance.new.self.work j (n - c.args.place))) c.args.place last c.seek_first.result in
    first_on src c.args.address (mark_of p c.args.place) c.args.place p.count c.advance.new.self.work c.seek_first.result comes (subst P c.steps.ensures.value c.seek_first.ensures.first)

pub returns-clause-looks : goal.returns-clause-looks
returns-clause-looks g c =
    let p = c.args.marks.now in
    let j = c.args.journal.now in
    let i = mark_of p c.args.place in
    let old = c.args.keepers.now.items in
    let w = c.args.desk.now in
    let v1 = c.recall.new.desk in
    let low = mark_at_most p c.args.place in
    let at = ap (marked p) c.of-mark.ensures in
    let pages = c.seek_first.ensures.mapped ∙ sym c.advance.ensures.pages in
    let same = ap vec_capacity c.advance.ensures.buffer in
    let w2 = record c.advance.new.self { work = c.seek_first.new.work } in
    let fits = fits_on v1 w2 pages (omega (arith, same)) c.recall.ensures.gets.reads.fits in
    let end = unwrap_or c.seek_first.result p.count in
    let S : ℕ → Type 0 = λ n. c.seek_first.new.steps + c.args.place ≡ c.advance.new.steps + unwrap_or c.seek_first.result n in
    let counted = subst S c.steps.ensures.value c.seek_first.ensures.counted in
    let P : ℕ → Type 0 = λ last. IsFirst (λ n. HasPc c.args.address (state_number c.advance.new.self.work j (n - c.args.place))) c.args.place last c.seek_first.result in
    let behind = first_behind (λ n. HasPc c.args.address (state_number c.advance.new.self.work j (n - c.args.place))) c.args.place p.count c.seek_first.result c.requires.before_end (subst P c.steps.ensures.value c.seek_first.ensures.first) in
    record {
      effort = record { marks = i ∷ []; steps = end - marked p i };
      got = gets_as g.K.Storage p j (c.of-mark.result ∷ []) (i ∷ []) (Ok c.seek_first.result) w w2 old c.recall.new.keepers.items (ap (λ (m : ℕ). m ∷ []) c.of-mark.ensures)
          (gets_moved g.K.Storage p j (c.of-mark.result ∷ []) (Ok c.seek_first.result) w v1 w2 old c.recall.new.keepers.items pages c.advance.ensures.store fits
          (gets_ok g.K.Storage p j (c.of-mark.result ∷ []) c.recall.result _ c.seek_first.result w v1 old c.recall.new.keepers.items c.in_ok-recall.was c.recall.ensures.gets));
      counted = omega (arith, counted, behind, c.advance.ensures.counted, c.marked.ensures, at, low);
      done = looked_on p c.args.place c.seek_first.result c.requires.before_end;
      broken = tt;
    }

pub overflow_sub-place : goal.overflow_sub-place
overflow_sub-place g c =
    let low = mark_at_most c.args.marks.now c.args.place in
    let at = ap (marked c.args.marks.now) c.of-mark.ensures in
    omega (arith, c.marked.ensures, at, low)
