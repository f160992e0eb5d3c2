use Rattle.std.proofs.Common.{◌≡◌, ℕ, List, Result, OnOk, ◌+◌, ◌-◌, ◌<◌, length, Ok, refl, sym, ◌∙◌, ap, subst, arith}
use Rattle.std.specs.Vec.{vec_capacity}
use Rattle.std.proofs.lemmas.Result.{IfErr-at_err, err_from_is_err_and}
use Rattle.rv_machine.specs.MachineState.{MachineState}
use Rattle.rv_machine.specs.States.{state_number}
use Rattle.rv_pages.specs.Memory.{page_numbers}
use Rattle.rv_machine.proofs.Runs.{state_number_keeps_pages}
use Rattle.keepers.specs.declared.storage.Storage.{Ghosts}
use Rattle.reverse_runner.specs.KeepersSeen.{calls_to, told_by, Called, HaveRoom}
use Rattle.reverse_console.specs.Costs.{puts_of}
use Rattle.reverse_console.specs.Marks.{MarkPlan, marked, mark_count, span, stride}
use Rattle.reverse_console.specs.MarkInvariant.{AreSet, AreKept, StandAt, LeavesDesk}
use Rattle.reverse_console.specs.Refusals.{IsOfPutting}
use Rattle.reverse_runner.specs.declared.fault.RunFault.TheVariants.{Keeper, Memory}
use Rattle.reverse_runner.specs.declared.desk.Desk.{Desk}
use Rattle.reverse_runner.specs.declared.fault.RunFault.{RunFault}
use Rattle.reverse_runner.specs.SessionState.{SamePages}
use Rattle.reverse_runner.specs.Rooms.{image_room, rooms_by, AreRoomy, AreShort}
use Rattle.reverse_runner.proofs.Rooms.{same_room, short_same, still_roomy}
use Rattle.reverse_runner.proofs.KeeperCalls.{are_ok, are_err}
use Rattle.reverse_queries.proofs.Progress.{same_fault}
use Rattle.reverse_console.proofs.KeeperCalls.{are_after}
use Rattle.reverse_console.proofs.MarkGets.{fits_on, err_at, at_ok, ok_never}
use Rattle.reverse_console.proofs.Numbers.{first_known, marked_first, marked_within, one_less}
use Rattle.reverse_console.proofs.MarkPuts.{puts_more, puts_none, puts_within, next_state, same_mark}
use Rattle.reverse_console.proofs.marking.set_marks.Goals as goal

-- what setting a mark leaves, after steps that come before it
leaves_on : {K T : Type 0} (seen : Ghosts K) (p : MarkPlan) (r : Result T RunFault) (v w x : Desk) (old new : List K) → SamePages v.work w.work → w.store ≡ v.store →
    LeavesDesk seen p r w x old new → LeavesDesk seen p r v x old new
leaves_on seen p r v w x old new pages store left =
    let rooms = rooms_by seen old in
    let same = same_room w.work v.work (sym pages) in
    let S : ℕ → Type 0 = λ most. AreShort most w.store in
    let P : ℕ → Type 0 = λ most. OnOk r (AreShort most x.store) in
    record {
      fits = left.fits;
      are = left.are;
      short = λ short. subst P same (left.short (subst S (sym same) (short_same (image_room v.work) v.store w.store store short)));
      roomy = λ has. left.roomy (still_roomy v.work w.work p.slots p.slots rooms rooms (sym pages) refl (λ k. refl) has);
    }

pub set_mark-requires-clause-known : goal.set_mark-requires-clause-known
set_mark-requires-clause-known g c = first_known c.args.marks.now

pub loop-mark-init : goal.loop-mark-init
loop-mark-init g c =
    let p = c.args.marks.now in
    let done = c.in_ok-set_mark.ensures in
    let old = (calls_to g.K.Storage c.args.keepers.now.items) in
    let first : marked p (1 - 1) ≡ 0 = marked_first p in
    let some = first_known p in
    let told = told_by g.K.Storage in
    let stand_first = λ (stands : StandAt c.args.desk.now.work c.args.journal.now p 0 c.args.desk.now.store (told c.args.keepers.now.items)).
    at_ok c.set_mark.result _ c.in_ok-set_mark.was (c.set_mark.ensures.sets.stand c.args.desk.now.work c.args.journal.now stands (sym (ap (state_number c.args.desk.now.work c.args.journal.now) (marked_first p)))) in
    record {
      set = done.sets.set;
      stand = λ stands. stand_first stands;
      kept = at_ok c.set_mark.result _ c.in_ok-set_mark.was (c.set_mark.ensures.sets.kept c.args.desk.now.work c.args.journal.now (λ j lt. absurd (omega (arith, lt))) (sym (ap (state_number c.args.desk.now.work c.args.journal.now) (marked_first p))));
      work = c.set_mark.ensures.work ∙ sym (ap (state_number c.args.desk.now.work c.args.journal.now) first);
      fits = c.set_mark.ensures.leaves.fits;
      counted = omega (arith, first);
      called = puts_more p 0 old old (calls_to g.K.Storage c.set_mark.new.keepers.items) (puts_none p old) c.set_mark.ensures.puts.called;
      are = are_ok g.K.Storage _ c.set_mark.result _ tt _ _ c.in_ok-set_mark.was c.set_mark.ensures.leaves.are;
      known = omega (arith, some);
      short = λ short. at_ok c.set_mark.result _ c.in_ok-set_mark.was (c.set_mark.ensures.leaves.short short);
    }

pub loop-mark-preserved : goal.loop-mark-preserved
loop-mark-preserved g c =
    let p = c.args.marks.now in
    let so_far = c.loop-mark.invariant in
    let i = c.loop-mark.mark in
    let done = c.in_ok-set_mark-2.ensures in
    let told = told_by g.K.Storage in
    let some : 0 < i = omega arith in
    let came = c.advance.ensures.work ∙ ap (state_number c.loop-mark.desk.work c.args.journal.now) c.stride.ensures in
    let work = next_state c.args.desk.now.work c.args.journal.now p i c.loop-mark.desk.work c.advance.new.self.work some so_far.work came in
    let left = leaves_on g.K.Storage p c.set_mark-in-loop-mark.result c.loop-mark.desk c.advance.new.self c.set_mark-in-loop-mark.new.desk _ _ c.advance.ensures.pages c.advance.ensures.store c.set_mark-in-loop-mark.ensures.leaves in
    let here = same_mark p i in
    let step = one_less p i some in
    let below : i < mark_count p = omega (arith, c.number-mark-end.ensures) in
    let T : ℕ → Type 0 = λ k. k < length p.slots in
    record {
      set = done.sets.set;
      stand = λ stands. at_ok c.set_mark-in-loop-mark.result _ c.in_ok-set_mark-2.was (c.set_mark-in-loop-mark.ensures.sets.stand c.args.desk.now.work c.args.journal.now (subst (λ s. StandAt c.args.desk.now.work c.args.journal.now p i s (told c.loop-mark.keepers.items)) (sym c.advance.ensures.store) (so_far.stand stands)) work);
      kept = at_ok c.set_mark-in-loop-mark.result _ c.in_ok-set_mark-2.was (c.set_mark-in-loop-mark.ensures.sets.kept c.args.desk.now.work c.args.journal.now (subst (λ s. AreKept c.args.desk.now.work c.args.journal.now p i s) (sym c.advance.ensures.store) so_far.kept) work);
      work = c.set_mark-in-loop-mark.ensures.work ∙ work ∙ sym (ap (state_number c.args.desk.now.work c.args.journal.now) here);
      fits = c.set_mark-in-loop-mark.ensures.leaves.fits;
      counted = omega (arith, so_far.counted, c.advance.ensures.counted, c.stride.ensures, step, here);
      called = puts_more p i (calls_to g.K.Storage c.args.keepers.now.items) (calls_to g.K.Storage c.loop-mark.keepers.items) (calls_to g.K.Storage c.set_mark-in-loop-mark.new.keepers.items) so_far.called c.set_mark-in-loop-mark.ensures.puts.called;
      are = are_after {B = Unit} g.K.Storage T (Ok tt) _ _ _ so_far.are (are_ok g.K.Storage T c.set_mark-in-loop-mark.result _ tt _ _ c.in_ok-set_mark-2.was c.set_mark-in-loop-mark.ensures.leaves.are);
      known = omega (arith, below);
      short = λ short.
          let pages = same_room c.loop-mark.desk.work c.args.desk.now.work (ap (λ (s : MachineState). page_numbers s.memory) so_far.work ∙ state_number_keeps_pages c.args.desk.now.work c.args.journal.now (marked p (i - 1))) in
          let S : ℕ → Type 0 = λ most. AreShort most c.loop-mark.desk.store in
          let P : ℕ → Type 0 = λ most. AreShort most c.set_mark-in-loop-mark.new.desk.store in
          subst P pages (at_ok c.set_mark-in-loop-mark.result _ c.in_ok-set_mark-2.was (left.short (subst S (sym pages) (so_far.short short))));
    }

pub returns-in_err-set_mark-clause-puts : goal.returns-in_err-set_mark-clause-puts
returns-in_err-set_mark-clause-puts g c =
    let p = c.args.marks.now in
    let old = (calls_to g.K.Storage c.args.keepers.now.items) in
    let some = first_known p in
    let q = err_from_is_err_and c.from_residual.result c.from_residual.ensures.1 in
    let P = IsOfPutting c.args.marks.now in
    let calls = calls_to g.K.Storage in
    let first = marked_first p in
    record {
      counted = ok_never _ c.from_residual.result q.0 q.1;
      called = ok_never _ c.from_residual.result q.0 q.1;
      counted_at_most = (omega arith, omega arith);
      called_at_most = puts_within p 1 (mark_count p) old (calls_to g.K.Storage c.set_mark.new.keepers.items) (omega (arith, some)) (puts_more p 0 old old (calls_to g.K.Storage c.set_mark.new.keepers.items) (puts_none p old) c.set_mark.ensures.puts.called);
      putting = err_at P c.from_residual.result q.0 q.1 (subst P (sym q.2) (IfErr-at_err P c.in_err-set_mark.was c.set_mark.ensures.puts.putting));
      put_until = λ k e.
          let old = calls c.args.keepers.now.items in
          record {
            mark = 0;
            known = first_known p;
            level_is = c.set_mark.ensures.puts.on_level k (same_fault c.set_mark.result c.from_residual.result _ _ (Keeper k) c.in_err-set_mark.was q.1 q.2 e);
            counted = omega (arith, first);
            called = puts_more p 0 old old (calls c.set_mark.new.keepers.items) (puts_none p old) c.set_mark.ensures.puts.called;
          };
    }

pub returns-in_err-set_mark-clause-machine : goal.returns-in_err-set_mark-clause-machine
returns-in_err-set_mark-clause-machine g c = ap (λ (s : MachineState). page_numbers s.memory) c.set_mark.ensures.work

pub returns-in_err-set_mark-2-clause-machine : goal.returns-in_err-set_mark-2-clause-machine
returns-in_err-set_mark-2-clause-machine g c =
    ap (λ (s : MachineState). page_numbers s.memory) c.set_mark-in-loop-mark.ensures.work ∙ sym c.advance.ensures.pages ∙ ap (λ (s : MachineState). page_numbers s.memory) c.loop-mark.invariant.work ∙ state_number_keeps_pages c.args.desk.now.work c.args.journal.now (marked c.args.marks.now (c.loop-mark.mark - 1))

pub returns-in_err-set_mark-2-clause-puts : goal.returns-in_err-set_mark-2-clause-puts
returns-in_err-set_mark-2-clause-puts g c =
    let p = c.args.marks.now in
    let i = c.loop-mark.mark in
    let some : 0 < i = omega arith in
    let step = one_less p i some in
    let below : i < mark_count p = omega (arith, c.number-mark-end.ensures) in
    let last = marked_within p i (mark_count p - 1) (omega (arith, below)) in
    let old = (calls_to g.K.Storage c.args.keepers.now.items) in
    let q = err_from_is_err_and c.from_residual-in_err-set_mark-2.result c.from_residual-in_err-set_mark-2.ensures.1 in
    let P = IsOfPutting c.args.marks.now in
    let calls = calls_to g.K.Storage in
    record {
      counted = ok_never _ c.from_residual-in_err-set_mark-2.result q.0 q.1;
      called = ok_never _ c.from_residual-in_err-set_mark-2.result q.0 q.1;
      counted_at_most = (omega (arith, c.loop-mark.invariant.counted, c.advance.ensures.counted, c.stride.ensures), omega (arith, c.loop-mark.invariant.counted, c.advance.ensures.counted, c.stride.ensures, step, last));
      called_at_most = puts_within p (i + 1) (mark_count p) old (calls_to g.K.Storage c.set_mark-in-loop-mark.new.keepers.items) (omega (arith, below)) (puts_more p i old (calls_to g.K.Storage c.loop-mark.keepers.items) (calls_to g.K.Storage c.set_mark-in-loop-mark.new.keepers.items) c.loop-mark.invariant.called c.set_mark-in-loop-mark.ensures.puts.called);
      putting = err_at P c.from_residual-in_err-set_mark-2.result q.0 q.1 (subst P (sym q.2) (IfErr-at_err P c.in_err-set_mark-2.was c.set_mark-in-loop-mark.ensures.puts.putting));
      put_until = λ k e.
          record {
            mark = i;
            known = omega (arith, c.number-mark-end.ensures);
            level_is = c.set_mark-in-loop-mark.ensures.puts.on_level k (same_fault c.set_mark-in-loop-mark.result c.from_residual-in_err-set_mark-2.result _ _ (Keeper k) c.in_err-set_mark-2.was q.1 q.2 e);
            counted = omega (arith, c.loop-mark.invariant.counted, c.advance.ensures.counted, c.stride.ensures, step);
            called = puts_more p i (calls c.args.keepers.now.items) (calls c.loop-mark.keepers.items) (calls c.set_mark-in-loop-mark.new.keepers.items) c.loop-mark.invariant.called c.set_mark-in-loop-mark.ensures.puts.called;
          };
    }

pub returns-clause-set : goal.returns-clause-set
returns-clause-set g c =
    let all : c.loop-mark.mark ≡ mark_count c.args.marks.now = omega (arith, c.number-mark-end.ensures, c.loop-mark.invariant.known) in
    subst (λ (i : ℕ). AreSet c.args.marks.now i c.loop-mark.desk.store) all c.loop-mark.invariant.set

pub returns-clause-stand : goal.returns-clause-stand
returns-clause-stand g c stands =
    let all : c.loop-mark.mark ≡ mark_count c.args.marks.now = omega (arith, c.number-mark-end.ensures, c.loop-mark.invariant.known) in
    subst (λ (i : ℕ). StandAt c.args.desk.now.work c.args.journal.now c.args.marks.now i c.loop-mark.desk.store (told_by g.K.Storage c.loop-mark.keepers.items)) all (c.loop-mark.invariant.stand stands)

pub returns-clause-kept : goal.returns-clause-kept
returns-clause-kept g c =
    let all : c.loop-mark.mark ≡ mark_count c.args.marks.now = omega (arith, c.number-mark-end.ensures, c.loop-mark.invariant.known) in
    subst (λ (i : ℕ). AreKept c.args.desk.now.work c.args.journal.now c.args.marks.now i c.loop-mark.desk.store) all c.loop-mark.invariant.kept

pub returns-clause-machine : goal.returns-clause-machine
returns-clause-machine g c = ap (λ (s : MachineState). page_numbers s.memory) c.loop-mark.invariant.work ∙ state_number_keeps_pages c.args.desk.now.work c.args.journal.now (marked c.args.marks.now (c.loop-mark.mark - 1))

pub returns-clause-puts : goal.returns-clause-puts
returns-clause-puts g c =
    let all : c.loop-mark.mark ≡ mark_count c.args.marks.now = omega (arith, c.number-mark-end.ensures, c.loop-mark.invariant.known) in
    let same = ap (λ (i : ℕ). marked c.args.marks.now (i - 1)) all in
    record {
      counted = omega (arith, c.loop-mark.invariant.counted, same);
      called = subst (λ (i : ℕ). Called (puts_of c.args.marks.now i) (calls_to g.K.Storage c.args.keepers.now.items) (calls_to g.K.Storage c.loop-mark.keepers.items)) all c.loop-mark.invariant.called;
      counted_at_most = (omega (arith, c.loop-mark.invariant.counted), omega (arith, c.loop-mark.invariant.counted, same));
      called_at_most = puts_within c.args.marks.now c.loop-mark.mark (mark_count c.args.marks.now) (calls_to g.K.Storage c.args.keepers.now.items) (calls_to g.K.Storage c.loop-mark.keepers.items) c.loop-mark.invariant.known c.loop-mark.invariant.called;
      putting = tt;
      put_until = λ k e. absurd cc;
    }

pub set_mark-requires-in-loop-mark-clause-may_set : goal.set_mark-requires-in-loop-mark-clause-may_set
set_mark-requires-in-loop-mark-clause-may_set g c =
    let so_far = c.loop-mark.invariant in
    let same = ap vec_capacity c.advance.ensures.buffer in
    record {
      set = subst (λ s. AreSet c.args.marks.now c.loop-mark.mark s) (sym c.advance.ensures.store) so_far.set;
      room = subst (HaveRoom (span c.args.marks.now) c.args.marks.now.slots) (sym so_far.are.slots) c.requires.may_set.room;
      fits = fits_on c.loop-mark.desk c.advance.new.self (sym c.advance.ensures.pages) (omega (arith, same)) so_far.fits;
    }

pub returns-in_err-set_mark-clause-leaves : goal.returns-in_err-set_mark-clause-leaves
returns-in_err-set_mark-clause-leaves g c =
    let q = err_from_is_err_and c.from_residual.result c.from_residual.ensures.1 in
    let left = c.set_mark.ensures.leaves in
    record {
      fits = left.fits;
      are = are_err g.K.Storage _ c.set_mark.result c.from_residual.result _ _ _ _ c.in_err-set_mark.was q.1 q.2 left.are;
      short = λ _. ok_never _ c.from_residual.result q.0 q.1;
      roomy = λ has e. left.roomy has (same_fault c.set_mark.result c.from_residual.result _ _ Memory c.in_err-set_mark.was q.1 q.2 e);
    }

pub returns-in_err-set_mark-2-clause-leaves : goal.returns-in_err-set_mark-2-clause-leaves
returns-in_err-set_mark-2-clause-leaves g c =
    let q = err_from_is_err_and c.from_residual-in_err-set_mark-2.result c.from_residual-in_err-set_mark-2.ensures.1 in
    let p = c.args.marks.now in
    let so_far = c.loop-mark.invariant in
    let left = leaves_on g.K.Storage p c.set_mark-in-loop-mark.result c.loop-mark.desk c.advance.new.self c.set_mark-in-loop-mark.new.desk _ _ c.advance.ensures.pages c.advance.ensures.store c.set_mark-in-loop-mark.ensures.leaves in
    let T : ℕ → Type 0 = λ k. k < length p.slots in
    let pages = ap (λ (s : MachineState). page_numbers s.memory) so_far.work ∙ state_number_keeps_pages c.args.desk.now.work c.args.journal.now (marked p (c.loop-mark.mark - 1)) in
    record {
      fits = left.fits;
      are =
          are_err g.K.Storage T c.set_mark-in-loop-mark.result c.from_residual-in_err-set_mark-2.result _ _ _ _ c.in_err-set_mark-2.was q.1 q.2
          (are_after g.K.Storage T c.set_mark-in-loop-mark.result _ _ _ so_far.are left.are);
      short = λ _. ok_never _ c.from_residual-in_err-set_mark-2.result q.0 q.1;
      roomy = λ has e.
          let here = still_roomy c.args.desk.now.work c.loop-mark.desk.work p.slots p.slots (rooms_by g.K.Storage c.args.keepers.now.items) (rooms_by g.K.Storage c.loop-mark.keepers.items) pages refl so_far.are.rooms has in
          left.roomy here (same_fault c.set_mark-in-loop-mark.result c.from_residual-in_err-set_mark-2.result _ _ Memory c.in_err-set_mark-2.was q.1 q.2 e);
    }

pub returns-clause-leaves : goal.returns-clause-leaves
returns-clause-leaves g c =
    let so_far = c.loop-mark.invariant in
    record { fits = so_far.fits; are = so_far.are; short = so_far.short; roomy = λ has e. absurd cc }
