-- What was done of a demonstration: actions that write nothing and call no keeper, and then one write.
use Rattle.std.proofs.Common.{◌≡◌, ℕ, ◌+◌, inl, inr, List, [], ◌∷◌, ◌++◌, length, map, take, append-nil, None, refl, sym, ◌∙◌, ap, subst, arith, sum_by}
use Rattle.std.proofs.lemmas.List.{take_at, take-map}
use Rattle.std.proofs.lemmas.List.Folds.{fold-map}
use Rattle.std.proofs.lemmas.List.Sums.{sum_by-cons}
use Rattle.plan_types.specs.declared.action.Action.{Action}
use Rattle.sha2.specs.Sha256.{sha256}
use Rattle.level_book.specs.BookCosts.{slots_of, plain}
use Rattle.level_book.specs.CostFold.{forward}
use Rattle.keepers.specs.Counts.{raised}
use Rattle.keepers.specs.Claims.{Tells, AddsPrefix}
use Rattle.rv_machine.specs.MachineState.{MachineState}
use Rattle.rv_machine.specs.States.{state_number}
use Rattle.reverse_runner.specs.SessionState.{SessionState}
use Rattle.reverse_runner.specs.SessionOfRun.{begun}
use Rattle.reverse_runner.specs.KeepersSeen.{Calls, Called, CalledAtMost}
use Rattle.reversal.specs.declared.demo.Demonstrated.{Demonstrated}
use Rattle.endings.specs.declared.outcome.Outcome.{Outcome}
use Rattle.endings.specs.Outcomes.{done, stopped}
use Rattle.requests.proofs.Lists.{get_map}
use Rattle.reversal.specs.Job.{demonstrate}
use Rattle.reversal.specs.Output.{lines_down, Adds}
use Rattle.reversal.specs.Moment.{Moment, NothingFails, SinkFails}
use Rattle.reversal.specs.Deeds.{Deed, no_calls, silent_deed, writing, bytes_written, calls_made, Did}
use Rattle.reversal.specs.Course.{Shown, HaltsShowing, EndsShowing}
use Rattle.reversal.specs.CommandDemo.{demonstrating}
use Rattle.reversal.specs.Decision.{course_of}
use Rattle.reversal.specs.Demo.{demo_list, summary_text, summary}
use Rattle.reversal.specs.DemoStates.{BreaksWithin}
use Rattle.reversal.proofs.DeedSequences.{tells_nothing, get_front, take_front, raised_none, did_then, did_one, is_until_first, broke_off, halted_at}
use Rattle.reversal.proofs.DemoProgress.{behind}

-- nothing is written
nothing_written : (list : List Action) → bytes_written (map silent_deed list) ≡ []
nothing_written [] = refl
nothing_written (a ∷ rest) = nothing_written rest

-- a count that is 0 for each of these deeds is 0 for them all
none_made : (f : Deed → ℕ) → ((a : Action) → f (silent_deed a) ≡ 0) → (list : List Action) → sum_by f (map silent_deed list) ≡ 0
none_made f none [] = refl
none_made f none (a ∷ rest) =
    let here = sum_by-cons f (silent_deed a) (map silent_deed rest) in
    let there = none_made f none rest in
    omega (arith, here, there, none a)

-- no keeper was called
not_called : (calls : Calls) (list : List Action) → Called (calls_made (map silent_deed list)) calls calls
not_called calls list =
    let none = λ (f : Calls → ℕ → ℕ) (k : ℕ) (e : f no_calls k ≡ 0). raised_none (f calls k) ∙ ap (raised (f calls k)) (sym (none_made (λ (d : Deed). f d.calls k) (λ a. e) list)) in
    record { put_calls = λ k. none (λ c. c.puts) k refl; get_calls = λ k. none (λ c. c.gets) k refl; free_calls = λ k. none (λ c. c.frees) k refl }

pub uncalled : (calls : Calls) → CalledAtMost no_calls calls calls
uncalled calls = record { put_calls = λ k. (omega arith, omega arith); get_calls = λ k. (omega arith, omega arith); free_calls = λ k. (omega arith, omega arith) }

-- some actions were done where only the count of steps rose
did_silent : (list : List Action) (a b : Moment) → b.told ≡ a.told → b.writes ≡ a.writes → b.steps ≡ a.steps + forward list → b.calls ≡ a.calls → Did (map silent_deed list) a b
did_silent list a b told writes steps calls = record {
  added = let P : List ℕ → Type 0 = λ l. Tells a.told b.told (Adds l) in subst P (sym (nothing_written list)) (tells_nothing a.told b.told told);
  wrote = writes ∙ raised_none a.writes ∙ ap (raised a.writes) (sym (none_made (λ (d : Deed). length d.pieces) (λ _. refl) list));
  counted = steps ∙ ap (λ n. a.steps + n) (sym (fold-map (λ n (d : Deed). n + d.steps) silent_deed 0 list));
  called = let P : Calls → Type 0 = λ c. Called (calls_made (map silent_deed list)) a.calls c in subst P (sym calls) (not_called a.calls list);
}

module _ (number : ℕ) (first : MachineState) (steps slots : ℕ) where
  abbrev pub silent : List Deed
  silent = map silent_deed (demo_list steps slots)

  abbrev pub text : List ℕ
  text = summary number first steps slots

  -- no state is shown
  abbrev pub shown : Shown
  shown = record { states = λ n. first; answer = None; orders = [] }

  -- the actions were done up to one, which wanted memory
  pub halted : (d : Demonstrated) (a c : Moment) → d.actions ≡ demo_list steps slots → BreaksWithin d.actions a.steps c.steps → c.told ≡ a.told → c.writes ≡ a.writes → c.calls ≡ a.calls → NothingFails a c →
      HaltsShowing (demonstrating number first steps slots) a c
  halted d a c is_list breaks told writes calls quiet =
      let list = demo_list steps slots in
      let B : List Action → Type 0 = λ l. BreaksWithin l a.steps c.steps in
      let h = subst B is_list breaks in
      let i = h.performed in
      let last = writing (text ∷ []) ∷ [] in
      let at = get_map silent_deed list i h.next h.there in
      let P : List Deed → Type 0 = λ ds. Did ds a c in
      let front : map silent_deed (take i list) ≡ take i (silent ++ last) = sym (take-map silent_deed i list) ∙ sym (take_front silent last i (silent_deed h.next) at) in
      let broke = broke_off (silent ++ last) i (silent_deed h.next) a c c (get_front silent last i (silent_deed h.next) at) (subst P front (did_silent (take i list) a c told writes h.counted calls)) refl refl refl (uncalled c.calls) in
      (shown, (tt, (i, halted_at (demonstrating number first steps slots) shown i (silent_deed h.next) a c broke refl tt quiet)))

  -- what is seen after the actions, before the write
  abbrev pub between : Moment → Moment → Moment
  between a c = record { told = a.told; writes = a.writes; faults = a.faults; steps = c.steps; calls = a.calls; images = a.images; keeper_faults = a.keeper_faults }

  -- The whole run was made, and its digest found; then the line of its summary was given to the sink.
  module _ (d : Demonstrated) (session : d.session ≡ begun first [] 1 steps (slots_of (plain slots))) (list : d.actions ≡ demo_list steps slots) (digest line bytes : List ℕ)
      (is_digest : digest ≡ sha256 (lines_down (state_number d.session.work d.session.journal) d.session.situation.steps))
      (is_line : line ≡ summary_text number steps slots (forward (demo_list steps slots)) digest) (is_bytes : bytes ≡ line) (a c : Moment) (counted : c.steps ≡ a.steps + forward d.actions) where
    the_text : bytes ≡ text
    the_text =
        is_bytes ∙ is_line
        ∙ ap (summary_text number steps slots (forward (demo_list steps slots)))
        (is_digest ∙ ap (λ (s : SessionState). sha256 (lines_down (state_number s.work s.journal) s.situation.steps)) session)

    stepped : c.steps ≡ a.steps + forward (demo_list steps slots)
    stepped = counted ∙ ap (λ l. a.steps + forward l) list

    -- it was written
    pub whole : (e : Outcome) → NothingFails a c → e ≡ done → Tells a.told c.told (Adds bytes) → c.writes ≡ raised a.writes 1 → c.calls ≡ a.calls → EndsShowing (course_of (demonstrate number first steps slots)) e a c
    whole e quiet is added wrote calls =
        let b = between a c in
        let C : Calls → Type 0 = λ x. Called no_calls a.calls x in
        let T : List ℕ → Type 0 = λ l. Tells a.told c.told (Adds l) in
        let all = subst T the_text added in (
          shown,
          (
            tt,
            inl (
              is,
              record {
                did =
                    did_then silent (writing (text ∷ []) ∷ []) a b c (did_silent (demo_list steps slots) a b refl refl stepped refl)
                    (did_one (writing (text ∷ [])) b c text 1 (append-nil text) refl all wrote (omega arith) (subst C (sym calls) (not_called a.calls [])));
                output_whole = all;
                stepped = stepped;
                answered = tt;
                held = tt;
                quiet = quiet;
              },
            ),
          ),
        )

    -- a part of it was written
    pub in_part : (e : Outcome) → SinkFails a c → e ≡ stopped 0 → Tells a.told c.told (AddsPrefix bytes) → c.writes ≡ raised a.writes 1 → c.calls ≡ a.calls → EndsShowing (course_of (demonstrate number first steps slots)) e a c
    in_part e fails is added wrote calls =
        let b = between a c in
        let last = writing (text ∷ []) in
        let i = length silent in
        let D : List Deed → Type 0 = λ ds. Did ds a b in
        let C : Calls → Type 0 = λ x. CalledAtMost no_calls a.calls x in
        let T : List ℕ → Type 0 = λ l. Tells a.told c.told (AddsPrefix l) in
        let before = subst D (sym (take_at silent (last ∷ []) i refl)) (did_silent (demo_list steps slots) a b refl refl stepped refl) in (
          shown,
          (
            tt,
            inr (inl (
              i,
              is,
              record {
                until = is_until_first (silent ++ last ∷ []) i last text a b c (behind silent last []) refl before (subst T the_text added) wrote refl (subst C (sym calls) (uncalled a.calls));
                answered = tt;
                held = tt;
                fails = fails;
              },
            )),
          ),
        )
