-- A search from a session's start for the last step with a property: what it needs, and what is told of it.
use Rattle.std.proofs.Common.{◌≡◌, ◌≢◌, ℕ, ◌+◌, ◌≤◌, ◌<◌, List, map, Option, refl, sym, ◌∙◌, ap, subst, arith, slice_get, inl, inr}
use Rattle.std.specs.Prelude.{Result, Ok, Err, IfOk, IfErr}
use Rattle.keepers.specs.declared.sink.Sink as sink
use Rattle.keepers.specs.declared.storage.Storage as storage
use Rattle.plan_types.specs.declared.action.Action.{Action}
use Rattle.reverse_runner.specs.declared.fault.RunFault.{RunFault}
use Rattle.reverse_runner.specs.declared.fault.RunFault.TheVariants.{Visitor, Ended}
use Rattle.reverse_runner.specs.KeepersSeen.{told_by, calls_to}
use Rattle.reverse_runner.specs.SessionState.{SessionState}
use Rattle.reverse_runner.proofs.KeeperCalls.{past_others}
use Rattle.reverse_queries.specs.ListExecution.{AwaitsList, done_after, RefusedIn}
use Rattle.reverse_queries.specs.QuestionEffects.{FindsLast}
use Rattle.endings.specs.declared.outcome.Outcome.{Outcome}
use Rattle.endings.specs.Endings.{status_of}
use Rattle.requests.specs.declared.question.Question.{Question}
use Rattle.reversal.specs.Job.{ask}
use Rattle.reversal.specs.Moment.{moment}
use Rattle.reversal.specs.Deeds.{States}
use Rattle.reversal.specs.Course.{Course}
use Rattle.reversal.specs.CommandAsk.{asking, asking_last}
use Rattle.reversal.specs.JobModel.{WorksBy, DoesBegun, IsBegun, WritesAnswer, fault_ending, run_from}
use Rattle.reversal.proofs.Progress.{FaultCounts, same_Err}
use Rattle.reversal.proofs.QuestionProgress.{performed_so_far, last_told, last_refused, is_found}
use Rattle.reversal.proofs.MemoryFaults.{is_memory}

-- a session at its start awaits its list
pub awaits : (s : SessionState) (list : List Action) (counts : List ℕ) → IsBegun s list counts → AwaitsList s list counts
awaits s list counts is =
    record { start = ap (λ (t : SessionState). t.situation.at) is.begins; lasts = ap (λ (t : SessionState). t.ended) is.begins; valid = is.valid; room = is.room }

module _ {X K : Type 0} (writing : sink.Ghosts X) (seen : storage.Ghosts K) (Holds : States → ℕ → Type 0) (s t : SessionState) (list : List Action)
    (ks ls : List K) (steps steps' : ℕ) (begun : IsBegun s list (map seen.slot_count ks)) where
  -- the fault of a search can be told
  pub can_be_told : (found : Result (Option ℕ) RunFault) → FindsLast seen Holds found list s t ks ls steps steps' →
      IfErr found (λ fault. (fault ≢ Ended) × (t.done < 18446744073709551615))
  can_be_told (Ok answer) finds = tt
  can_be_told (Err fault) finds =
      let refused = finds.refused in
      let none = ap (λ (s : SessionState). s.done) begun.begins in
      let count = refused.done ∙ ap (λ n. done_after n refused.place) none ∙ performed_so_far refused.place (omega (arith, refused.within, begun.few)) in
      let E : RunFault → Result (Option ℕ) RunFault = λ f. Err f in
      (λ e. finds.spared.not_ended (ap E e), omega (arith, count, refused.within, begun.few))

  -- what was found is told, or the fault
  pub is_told : (q : Question) (found : Result (Option ℕ) RunFault) (e : Outcome) (out out' : X) → asking q (run_from s list) ≡ asking_last Holds (run_from s list) →
      FindsLast seen Holds found list s t ks ls steps steps' → IfOk found (λ answer. WritesAnswer writing answer e out out') →
      IfErr found (λ fault. (e ≡ fault_ending (t.done + 1) fault) × (out' ≡ out)) → DoesBegun writing seen (ask q (run_from s list)) e out out' ks ls steps steps'
  is_told q (Ok answer) e out out' same finds wrote none =
      let old = moment writing seen out ks steps in
      let new = moment writing seen out' ls steps' in
      let W : Course → Type 0 = λ course. WorksBy course e old new in
      let L : Course → Type 0 = λ course. (k : ℕ) → course.levels ≤ k → slice_get ls k ≡ slice_get ks k in
      let found = is_found Holds s t list answer old new begun.begins finds.found in
      record {
        works = subst W (sym same) (last_told (run_from s list) Holds answer old new (found, λ tells. finds.answer s.work begun.state (begun.stands (told_by seen ks) tells))
            wrote.calls finds.performed.counted finds.performed.called e wrote.ends (λ j. finds.kept.quiet j (λ e. cc)));
        others = (record { slots_same = finds.kept.slots; places_same = finds.kept.places }, subst L (sym same) (past_others seen _ _ _ _ finds.kept));
        roomy = λ roomy status. elim wrote.ends [
          | inl done ↦ let is = ap status_of done.0 in absurd (omega (arith, is, status))
          | inr stopped ↦ let is = ap status_of stopped.0 in absurd (omega (arith, is, status))
        ];
      }
  is_told q (Err fault) e out out' same finds wrote ended =
      let old = moment writing seen out ks steps in
      let new = moment writing seen out ls steps' in
      let W : Course → Type 0 = λ course. WorksBy course e old new in
      let L : Course → Type 0 = λ course. (k : ℕ) → course.levels ≤ k → slice_get ls k ≡ slice_get ks k in
      let R : SessionState → Type 0 = λ s. RefusedIn (λ action held. ⊥) list fault s t (told_by seen ks) steps steps' (calls_to seen ks) (calls_to seen ls) in
      let E : RunFault → Result (Option ℕ) RunFault = λ f. Err f in
      let is = λ (f : RunFault) (e : fault ≡ f). ap E e in
      let unseen = λ (e : fault ≡ Visitor). finds.not_visitor (is _ e) in
      let counts : FaultCounts fault old new = record {
        sink = λ e. absurd (unseen e);
        sink_quiet = λ ne. refl;
        keeper = λ k e. (finds.kept.cause k (is _ e)).1;
        keepers_quiet = λ j ne. finds.kept.quiet j (λ e. ne (same_Err (Err fault) _ _ refl e));
      } in
      let D : X → Type 0 = λ o. DoesBegun writing seen (ask q (run_from s list)) e out o ks ls steps steps' in
      subst D (sym ended.1) (record {
        works = subst W (sym same) (last_refused (run_from s list) Holds fault t e old new begun.few (subst R begun.begins finds.refused) ended.0 refl refl unseen
            (λ k put got e tells. finds.spared.undamaged s.work begun.state (begun.stands (told_by seen ks) tells) k put got (is _ e)) counts);
        others = (record { slots_same = finds.kept.slots; places_same = finds.kept.places }, subst L (sym same) (past_others seen _ _ _ _ finds.kept));
        roomy = λ roomy status. finds.spared.roomy roomy (is _ (is_memory (t.done + 1) fault (λ q. finds.spared.not_ended (is _ q)) (sym (ap status_of ended.0) ∙ status)));
      })
