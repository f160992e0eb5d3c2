-- What was done of a search: steps up to the start of the last segment, and then its answer.
use Rattle.std.proofs.Common.{◌≡◌, ◌⊎◌, inl, inr, ℕ, ◌+◌, ◌≤◌, List, [], ◌∷◌, append-nil, Option, None, refl, sym, subst, arith}
use Rattle.keepers.specs.Counts.{raised, Rose}
use Rattle.keepers.specs.Claims.{Tells, AddsPrefix}
use Rattle.rv_machine.specs.MachineState.{MachineState}
use Rattle.segment_sweep.specs.LastMatch.{Found}
use Rattle.segment_sweep.specs.MarkedRun.{last_start}
use Rattle.reverse_runner.specs.KeepersSeen.{Calls, Called, CalledBetween}
use Rattle.endings.specs.declared.outcome.Outcome.{Outcome}
use Rattle.endings.specs.Outcomes.{no_memory, done, stopped}
use Rattle.reversal.specs.Output.{Adds}
use Rattle.reversal.specs.Moment.{Moment, KeepersAreQuiet, NothingFails, SinkFails}
use Rattle.reversal.specs.Deeds.{no_calls, writing, Did}
use Rattle.reversal.specs.Course.{Shown, Course, BreaksOff, EndsShowing}
use Rattle.reversal.specs.CommandAsk.{answer_text}
use Rattle.reversal.specs.CommandFind.{query_of, marking, searching}
use Rattle.reversal.specs.JobModel.{WorksBy}
use Rattle.reversal.proofs.DeedSequences.{tells_nothing, raised_none, did_then, did_one, is_until_first}
use Rattle.reversal.proofs.Pieces.{not_called}
use Rattle.reversal.proofs.DemoDeeds.{uncalled}

-- no calls, at least and at most
between_none : (old new : Calls) → new ≡ old → CalledBetween no_calls no_calls old new
between_none old new is = subst (CalledBetween no_calls no_calls old) (sym is) (record {
  put_calls = λ k. (omega arith, omega arith);
  get_calls = λ k. (omega arith, omega arith);
  free_calls = λ k. (omega arith, omega arith);
})

module _ (first : MachineState) (journal : List (List ℕ)) (steps workers : ℕ) (digest : List ℕ) (a c : Moment) (calls : c.calls ≡ a.calls) where
  abbrev course : Course
  course = searching first journal steps workers digest

  abbrev found : Option ℕ → Shown
  found answer = record { states = λ n. first; answer = answer; orders = [] }

  -- memory ran out on the way to the last segment
  pub marking_halted : c.told ≡ a.told → c.writes ≡ a.writes → a.steps ≤ c.steps → c.steps ≤ a.steps + last_start steps workers → NothingFails a c → WorksBy course no_memory a c
  marking_halted told wrote least most quiet =
      let breaks : BreaksOff (course.deeds (found None)) 0 a c = record {
        next = marking steps workers;
        there = refl;
        added = tells_nothing a.told c.told told;
        wrote = let same = wrote in let none = raised_none a.writes in omega (arith, same, none);
        steps_least = omega (arith, least);
        steps_most = omega (arith, most);
        called = between_none a.calls c.calls calls;
      } in
      inr (refl, (found None, (tt, (0, record { breaks = breaks; wants = tt; held = tt; quiet = quiet }))))

  -- the steps were taken
  module _ (counted : c.steps ≡ a.steps + last_start steps workers) where
    -- and memory ran out among the workers
    pub seeking_halted : c.told ≡ a.told → c.writes ≡ a.writes → NothingFails a c → WorksBy course no_memory a c
    seeking_halted told wrote quiet =
        let breaks : BreaksOff (course.deeds (found None)) 1 a c = record {
          next = writing (answer_text None ∷ []);
          there = refl;
          added = tells_nothing a.told c.told told;
          wrote = let same = wrote in let none = raised_none a.writes in omega (arith, same, none);
          steps_least = omega (arith, counted);
          steps_most = omega (arith, counted);
          called = between_none a.calls c.calls calls;
        } in
        inr (refl, (found None, (tt, (1, record { breaks = breaks; wants = tt; held = tt; quiet = quiet }))))

    module _ (answer : Option ℕ) (is : Found (query_of first journal steps digest) answer) (once : c.writes ≡ raised a.writes 1) where
      -- before the answer was written
      abbrev between : Moment
      between = record { told = a.told; writes = a.writes; faults = a.faults; steps = c.steps; calls = c.calls; images = a.images; keeper_faults = a.keeper_faults }

      marked : Did (marking steps workers ∷ []) a between
      marked = did_one (marking steps workers) a between [] 0 refl refl (tells_nothing a.told a.told refl) (raised_none a.writes) counted (subst (Called no_calls a.calls) (sym calls) (not_called a.calls))

      told_whole : Tells a.told c.told (Adds (answer_text answer)) → NothingFails a c → EndsShowing course done a c
      told_whole added quiet =
          let text = answer_text answer in
          let last = writing (text ∷ []) in
          let did = did_then (marking steps workers ∷ []) (last ∷ []) a between c marked (did_one last between c text 1 (append-nil text) refl added once (omega arith) (not_called c.calls)) in
          (found answer, (tt, inl (refl, record { did = did; output_whole = added; stepped = counted; answered = is; held = tt; quiet = quiet })))

      told_part : Tells a.told c.told (AddsPrefix (answer_text answer)) → SinkFails a c → EndsShowing course (stopped 0) a c
      told_part part fails =
          let text = answer_text answer in
          let last = writing (text ∷ []) in
          let until = is_until_first (marking steps workers ∷ last ∷ []) 1 last text a between c refl refl marked part once refl (uncalled c.calls) in
          (found answer, (tt, inr (inl (1, refl, record { until = until; answered = is; held = tt; fails = fails }))))

      -- the whole of the answer was written, or a part
      pub seek_told : (e : Outcome) → ((e ≡ done) × Tells a.told c.told (Adds (answer_text answer)) × (c.faults ≡ a.faults)) ⊎ ((e ≡ stopped 0) × Tells a.told c.told (AddsPrefix (answer_text answer)) × Rose a.faults c.faults) →
          KeepersAreQuiet a c → WorksBy course e a c
      seek_told e ends keepers =
          let E : Outcome → Type 0 = λ x. WorksBy course x a c in
          elim ends [
            | inl whole ↦ subst E (sym whole.0) (inl (told_whole whole.1 (record { sink = whole.2; keepers = keepers })))
            | inr part ↦ subst E (sym part.0) (inl (told_part part.1 (record { sink = part.2; keepers = keepers })))
          ]
