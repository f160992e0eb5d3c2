use Rattle.std.proofs.Common.{◌≡◌, ◌≢◌, ℕ, [], ◌∷◌, ◌++◌, true, false, None, Some, Ok, refl, sym, ◌∙◌, ap, subst, arith}
use Rattle.std.proofs.lemmas.Result.{IfErr-at_err, err_from_is_err_and, on_err_weaker}
use Rattle.reverse_runner.specs.KeepersSeen.{told_by, calls_to}
use Rattle.reverse_runner.specs.declared.fault.RunFault.{RunFault}
use Rattle.reverse_runner.specs.declared.fault.RunFault.TheVariants.{Visitor}
use Rattle.reverse_queries.proofs.Progress.{same_fault, on_err_always}
use Rattle.reverse_console.specs.Costs.{looking, BreaksLooking, TookUntil}
use Rattle.reverse_console.specs.Marks.{mark_of}
use Rattle.reverse_console.specs.Refusals.{IsNotGot}
use Rattle.reverse_console.specs.MarkInvariant.{source}
use Rattle.reverse_console.specs.StateSources.{IsAnswerSeen}
use Rattle.reverse_console.proofs.OrderCosts.{takes_both, takes_none, stops_looking, stops_going, took_until, other_fault, both_ways, pass_on, never_done}
use Rattle.reverse_console.proofs.MarkGets.{err_at, gets_err, gets_ok, gets_then, comes_then, not_got_then}
use Rattle.reverse_console.proofs.OrderEffects.{refused_on}
use Rattle.reverse_console.proofs.Scripts.{if_ok_at}
use Rattle.reverse_console.proofs.FetchedStates.{answer_within}
use Rattle.reverse_console.proofs.BackwardSearch.{ready_still}
use Rattle.reverse_console.proofs.console.answer.Goals as goal

pub go-requires-clause-within : goal.go-requires-clause-within
go-requires-clause-within g c =
    let p = c.args.marks.now in
    let j = c.args.journal.now in
    let old = c.args.keepers.now.items in
    let mid = c.new_place.new.keepers.items in
    let w = c.args.desk.now in
    let v = c.new_place.new.desk in
    let looks = c.new_place.ensures.looks in
    let src = source p j w (told_by g.K.Storage old) in
    let found : c.new_place.result ≡ Ok (Some c.in-Some.n) = c.in_ok-found.was ∙ ap Ok c.in-Some.is in
    let seen = subst (IsAnswerSeen src c.args.place.now c.args.order.now) c.in-Some.is c.in_ok-found.ensures.seen in
    answer_within src c.args.place.now c.args.order.now (Some c.in-Some.n) c.in-Some.n c.requires.order c.requires.within seen refl

pub go-requires-clause-ready : goal.go-requires-clause-ready
go-requires-clause-ready g c =
    let p = c.args.marks.now in
    let j = c.args.journal.now in
    let old = c.args.keepers.now.items in
    let mid = c.new_place.new.keepers.items in
    let w = c.args.desk.now in
    let v = c.new_place.new.desk in
    let looks = c.new_place.ensures.looks in
    let src = source p j w (told_by g.K.Storage old) in
    ready_still g.K.Storage p j looks.effort.marks c.new_place.result w v old mid looks.got c.requires.ready

pub returns-in_err-found-clause-performed : goal.returns-in_err-found-clause-performed
returns-in_err-found-clause-performed g c =
    let p = c.args.marks.now in
    let j = c.args.journal.now in
    let old = c.args.keepers.now.items in
    let mid = c.new_place.new.keepers.items in
    let w = c.args.desk.now in
    let v = c.new_place.new.desk in
    let looks = c.new_place.ensures.looks in
    let src = source p j w (told_by g.K.Storage old) in
    let q = err_from_is_err_and c.from_residual.result c.from_residual.ensures.1 in
    let calls = calls_to g.K.Storage in
    let B : RunFault → Type 0 = λ fault. (mark : ℕ) × (BreaksLooking p c.args.place.now c.args.order.now mark looks.effort × IsNotGot src mark fault) in
    let broken = subst B (sym q.2) (IfErr-at_err B c.in_err-found.was looks.broken) in
    let stops = stops_looking src c.args.place.now c.args.order.now q.0 c.args.steps.now c.new_place.new.steps (calls old) (calls mid) looks.effort looks.counted looks.got.reads.called broken in
    record {
      answered = never_done _ c.from_residual.result q.0 q.1;
      takes = never_done _ c.from_residual.result q.0 q.1;
      misses = λ e.
          let b = IfErr-at_err (λ fault. (mark : ℕ) × (BreaksLooking p c.args.place.now c.args.order.now mark looks.effort × IsNotGot src mark fault)) (same_fault c.new_place.result c.from_residual.result _ _ Visitor c.in_err-found.was q.1 q.2 e) looks.broken in
          absurd b.1.1;
      took_until =
          err_at (λ fault. TookUntil src c.args.place.now c.args.order.now fault c.args.steps.now c.new_place.new.steps (calls old) (calls mid)) c.from_residual.result q.0 q.1
          (took_until src c.args.place.now c.args.order.now q.0 c.args.steps.now c.new_place.new.steps (calls old) (calls mid) (λ ne. stops));
    }

pub returns-in_err-found-clause-seen : goal.returns-in_err-found-clause-seen
returns-in_err-found-clause-seen g c =
    let p = c.args.marks.now in
    let j = c.args.journal.now in
    let old = c.args.keepers.now.items in
    let mid = c.new_place.new.keepers.items in
    let w = c.args.desk.now in
    let v = c.new_place.new.desk in
    let looks = c.new_place.ensures.looks in
    let src = source p j w (told_by g.K.Storage old) in
    let q = err_from_is_err_and c.from_residual.result c.from_residual.ensures.1 in
    record {
      unseen = on_err_always c.from_residual.result (λ ne. refl);
      faults = record {
        cause = λ e.
            let b = IfErr-at_err (λ fault. (mark : ℕ) × (BreaksLooking p c.args.place.now c.args.order.now mark looks.effort × IsNotGot src mark fault)) (same_fault c.new_place.result c.from_residual.result _ _ Visitor c.in_err-found.was q.1 q.2 e) looks.broken in
            absurd b.1.1;
        quiet = λ ne. refl;
        later = omega arith;
      };
    }

pub returns-in_err-found-clause-gets : goal.returns-in_err-found-clause-gets
returns-in_err-found-clause-gets g c =
    let p = c.args.marks.now in
    let j = c.args.journal.now in
    let old = c.args.keepers.now.items in
    let mid = c.new_place.new.keepers.items in
    let w = c.args.desk.now in
    let v = c.new_place.new.desk in
    let looks = c.new_place.ensures.looks in
    let src = source p j w (told_by g.K.Storage old) in
    let q = err_from_is_err_and c.from_residual.result c.from_residual.ensures.1 in
    (looks.effort.marks, gets_err g.K.Storage p j looks.effort.marks c.new_place.result c.from_residual.result _ _ w v old mid c.in_err-found.was q.1 q.2 looks.got)

pub returns-in_err-go-in-Some-clause-performed : goal.returns-in_err-go-in-Some-clause-performed
returns-in_err-go-in-Some-clause-performed g c =
    let p = c.args.marks.now in
    let j = c.args.journal.now in
    let old = c.args.keepers.now.items in
    let mid = c.new_place.new.keepers.items in
    let w = c.args.desk.now in
    let v = c.new_place.new.desk in
    let looks = c.new_place.ensures.looks in
    let src = source p j w (told_by g.K.Storage old) in
    let calls = calls_to g.K.Storage in
    let found : c.new_place.result ≡ Ok (Some c.in-Some.n) = c.in_ok-found.was ∙ ap Ok c.in-Some.is in
    let seen = subst (IsAnswerSeen src c.args.place.now c.args.order.now) c.in-Some.is c.in_ok-found.ensures.seen in
    let how = if_ok_at (λ answer. looks.effort ≡ looking p c.args.place.now c.args.order.now answer) c.new_place.result (Some c.in-Some.n) found looks.done in
    let gets = gets_then g.K.Storage p j looks.effort.marks (mark_of p c.in-Some.n ∷ []) c.new_place.result _ c.go.result w v c.go.new.desk old mid c.go.new.keepers.items c.in_ok-found.was looks.got c.go.ensures.gets in
    let q = err_from_is_err_and c.from_residual-in_err-go-in-Some.result c.from_residual-in_err-go-in-Some.ensures.1 in
    let i = mark_of p c.in-Some.n in
    record {
      answered = never_done _ c.from_residual-in_err-go-in-Some.result q.0 q.1;
      takes = never_done _ c.from_residual-in_err-go-in-Some.result q.0 q.1;
      misses = λ e.
          let refused = same_fault c.go.result c.from_residual-in_err-go-in-Some.result _ _ Visitor c.in_err-go-in-Some.was q.1 q.2 e in
          let missed = c.go.ensures.missed refused in
          let comes = comes_then g.K.Storage p j looks.effort.marks w v old mid looks.got.reads (mark_of p c.in-Some.n) c.in-Some.n missed.0 missed.1.0 in
          let takes = takes_both p looks.effort c.args.place.now c.args.order.now c.in-Some.n c.args.steps.now c.new_place.new.steps c.go.new.steps (calls old) (calls c.go.new.keepers.items) how looks.counted (c.go.ensures.counted_unseen refused) gets.reads.called in
          (c.in-Some.n, (missed.0, (seen, comes, missed.1.1, takes)));
      took_until =
          let stops = λ (ne : q.0 ≢ Visitor).
          let other = other_fault c.go.result _ q.0 c.in_err-go-in-Some.was q.2 ne in
          let idle = c.go.ensures.idle (λ e. absurd (both_ways c.go.result _ e c.in_err-go-in-Some.was)) other in
          let there = source p j v (told_by g.K.Storage mid) in
          let missed = subst (IsNotGot there i) (sym q.2) (IfErr-at_err (IsNotGot there i) c.in_err-go-in-Some.was (c.go.ensures.not_got other)) in
          stops_going src c.args.place.now c.args.order.now q.0 c.in-Some.n c.args.steps.now c.new_place.new.steps c.go.new.steps (calls old) (calls c.go.new.keepers.items) looks.effort seen how looks.counted idle gets.reads.called
          (not_got_then g.K.Storage p j looks.effort.marks w v old mid looks.got.reads i q.0 missed) in
          err_at (λ fault. TookUntil src c.args.place.now c.args.order.now fault c.args.steps.now c.go.new.steps (calls old) (calls c.go.new.keepers.items)) c.from_residual-in_err-go-in-Some.result q.0 q.1
          (took_until src c.args.place.now c.args.order.now q.0 c.args.steps.now c.go.new.steps (calls old) (calls c.go.new.keepers.items) stops);
    }

pub returns-in_err-go-in-Some-clause-seen : goal.returns-in_err-go-in-Some-clause-seen
returns-in_err-go-in-Some-clause-seen g c =
    let q = err_from_is_err_and c.from_residual-in_err-go-in-Some.result c.from_residual-in_err-go-in-Some.ensures.1 in
    record {
      unseen = refused_on _ c.go.result c.from_residual-in_err-go-in-Some.result _ c.in_err-go-in-Some.was (on_err_weaker c.go.result (λ same ne. same (λ e. ne (pass_on c.go.result c.from_residual-in_err-go-in-Some.result _ _ Visitor c.in_err-go-in-Some.was q.1 q.2 e))) c.go.ensures.seen.unseen);
      faults = record {
        cause = λ e. c.go.ensures.seen.faults.cause (same_fault c.go.result c.from_residual-in_err-go-in-Some.result _ _ Visitor c.in_err-go-in-Some.was q.1 q.2 e);
        quiet = λ ne. c.go.ensures.seen.faults.quiet (λ e. ne (pass_on c.go.result c.from_residual-in_err-go-in-Some.result _ _ Visitor c.in_err-go-in-Some.was q.1 q.2 e));
        later = c.go.ensures.seen.faults.later;
      };
    }

pub returns-in_err-go-in-Some-clause-gets : goal.returns-in_err-go-in-Some-clause-gets
returns-in_err-go-in-Some-clause-gets g c =
    let p = c.args.marks.now in
    let j = c.args.journal.now in
    let old = c.args.keepers.now.items in
    let mid = c.new_place.new.keepers.items in
    let w = c.args.desk.now in
    let v = c.new_place.new.desk in
    let looks = c.new_place.ensures.looks in
    let src = source p j w (told_by g.K.Storage old) in
    let gets = gets_then g.K.Storage p j looks.effort.marks (mark_of p c.in-Some.n ∷ []) c.new_place.result _ c.go.result w v c.go.new.desk old mid c.go.new.keepers.items c.in_ok-found.was looks.got c.go.ensures.gets in
    let q = err_from_is_err_and c.from_residual-in_err-go-in-Some.result c.from_residual-in_err-go-in-Some.ensures.1 in
    (looks.effort.marks ++ mark_of p c.in-Some.n ∷ [], gets_err g.K.Storage p j (looks.effort.marks ++ mark_of p c.in-Some.n ∷ []) c.go.result c.from_residual-in_err-go-in-Some.result _ _ w c.go.new.desk old c.go.new.keepers.items c.in_err-go-in-Some.was q.1 q.2 gets)

pub returns-in_ok-go-in-Some-clause-performed : goal.returns-in_ok-go-in-Some-clause-performed
returns-in_ok-go-in-Some-clause-performed g c =
    let p = c.args.marks.now in
    let j = c.args.journal.now in
    let old = c.args.keepers.now.items in
    let mid = c.new_place.new.keepers.items in
    let w = c.args.desk.now in
    let v = c.new_place.new.desk in
    let looks = c.new_place.ensures.looks in
    let src = source p j w (told_by g.K.Storage old) in
    let found : c.new_place.result ≡ Ok (Some c.in-Some.n) = c.in_ok-found.was ∙ ap Ok c.in-Some.is in
    let seen = subst (IsAnswerSeen src c.args.place.now c.args.order.now) c.in-Some.is c.in_ok-found.ensures.seen in
    let got = c.in_ok-go-in-Some.ensures.got in
    let comes = comes_then g.K.Storage p j looks.effort.marks w v old mid looks.got.reads (mark_of p c.in-Some.n) c.in-Some.n got.0 got.1.0 in
    let calls = calls_to g.K.Storage in
    let how = if_ok_at (λ answer. looks.effort ≡ looking p c.args.place.now c.args.order.now answer) c.new_place.result (Some c.in-Some.n) found looks.done in
    let gets = gets_then g.K.Storage p j looks.effort.marks (mark_of p c.in-Some.n ∷ []) c.new_place.result _ c.go.result w v c.go.new.desk old mid c.go.new.keepers.items c.in_ok-found.was looks.got c.go.ensures.gets in
    record {
      answered = (Some c.in-Some.n, (seen, (refl, refl, (got.0, (comes, got.1.1)))));
      takes = takes_both p looks.effort c.args.place.now c.args.order.now c.in-Some.n c.args.steps.now c.new_place.new.steps c.go.new.steps (calls old) (calls c.go.new.keepers.items) how looks.counted c.in_ok-go-in-Some.ensures.counted gets.reads.called;
      misses = λ e. absurd cc;
      took_until = tt;
    }

pub returns-in_ok-go-in-Some-clause-within : goal.returns-in_ok-go-in-Some-clause-within
returns-in_ok-go-in-Some-clause-within g c =
    let p = c.args.marks.now in
    let j = c.args.journal.now in
    let old = c.args.keepers.now.items in
    let mid = c.new_place.new.keepers.items in
    let w = c.args.desk.now in
    let v = c.new_place.new.desk in
    let looks = c.new_place.ensures.looks in
    let src = source p j w (told_by g.K.Storage old) in
    let found : c.new_place.result ≡ Ok (Some c.in-Some.n) = c.in_ok-found.was ∙ ap Ok c.in-Some.is in
    let seen = subst (IsAnswerSeen src c.args.place.now c.args.order.now) c.in-Some.is c.in_ok-found.ensures.seen in
    answer_within src c.args.place.now c.args.order.now (Some c.in-Some.n) c.in-Some.n c.requires.order c.requires.within seen refl

pub returns-in_ok-go-in-Some-clause-gets : goal.returns-in_ok-go-in-Some-clause-gets
returns-in_ok-go-in-Some-clause-gets g c =
    let p = c.args.marks.now in
    let j = c.args.journal.now in
    let old = c.args.keepers.now.items in
    let mid = c.new_place.new.keepers.items in
    let w = c.args.desk.now in
    let v = c.new_place.new.desk in
    let looks = c.new_place.ensures.looks in
    let src = source p j w (told_by g.K.Storage old) in
    let gets = gets_then g.K.Storage p j looks.effort.marks (mark_of p c.in-Some.n ∷ []) c.new_place.result _ c.go.result w v c.go.new.desk old mid c.go.new.keepers.items c.in_ok-found.was looks.got c.go.ensures.gets in
    (looks.effort.marks ++ mark_of p c.in-Some.n ∷ [], gets_ok g.K.Storage p j (looks.effort.marks ++ mark_of p c.in-Some.n ∷ []) c.go.result _ true w c.go.new.desk old c.go.new.keepers.items c.in_ok-go-in-Some.was gets)

pub returns-in-None-clause-performed : goal.returns-in-None-clause-performed
returns-in-None-clause-performed g c =
    let p = c.args.marks.now in
    let j = c.args.journal.now in
    let old = c.args.keepers.now.items in
    let mid = c.new_place.new.keepers.items in
    let w = c.args.desk.now in
    let v = c.new_place.new.desk in
    let looks = c.new_place.ensures.looks in
    let src = source p j w (told_by g.K.Storage old) in
    let seen = subst (IsAnswerSeen src c.args.place.now c.args.order.now) c.in-None.is c.in_ok-found.ensures.seen in
    let calls = calls_to g.K.Storage in
    let none = c.in_ok-found.was ∙ ap Ok c.in-None.is in
    let how = if_ok_at (λ answer. looks.effort ≡ looking p c.args.place.now c.args.order.now answer) c.new_place.result None none looks.done in
    record {
      answered = (None, (seen, (refl, refl, refl)));
      takes = takes_none p looks.effort c.args.place.now c.args.order.now c.args.steps.now c.new_place.new.steps (calls old) (calls mid) how looks.counted looks.got.reads.called;
      misses = λ e. absurd cc;
      took_until = tt;
    }

pub returns-in-None-clause-gets : goal.returns-in-None-clause-gets
returns-in-None-clause-gets g c =
    let p = c.args.marks.now in
    let j = c.args.journal.now in
    let old = c.args.keepers.now.items in
    let mid = c.new_place.new.keepers.items in
    let w = c.args.desk.now in
    let v = c.new_place.new.desk in
    let looks = c.new_place.ensures.looks in
    let src = source p j w (told_by g.K.Storage old) in
    (looks.effort.marks, gets_ok g.K.Storage p j looks.effort.marks c.new_place.result _ false w v old mid c.in_ok-found.was looks.got)

pub returns-in_ok-go-in-Some-clause-seen : goal.returns-in_ok-go-in-Some-clause-seen
returns-in_ok-go-in-Some-clause-seen g c = record {
  unseen = tt;
  faults = record {
    cause = λ e. absurd cc;
    quiet = λ ne. c.go.ensures.seen.faults.quiet (λ e. both_ways c.go.result Visitor c.in_ok-go-in-Some.was e);
    later = c.go.ensures.seen.faults.later;
  };
}

pub returns-in-None-clause-seen : goal.returns-in-None-clause-seen
returns-in-None-clause-seen g c = record {
  unseen = tt;
  faults = record {
    cause = λ e. absurd cc;
    quiet = λ ne. refl;
    later = omega arith;
  };
}
