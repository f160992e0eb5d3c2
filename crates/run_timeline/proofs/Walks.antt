-- Walks over a run, whatever they have in work.
use Rattle.std.proofs.Common.{◌≡◌, ℕ, ◌+◌, ◌-◌, ◌≤◌, ◌<◌, max, true, List, Option, length, refl, sym, ap, subst, ◌∙◌, arith, inl, inr}
use Rattle.std.proofs.lemmas.Bool.{cases_lt}
use Rattle.rv_pages.specs.Memory.{page_numbers, IsMemory}
use Rattle.rv_machine.specs.MachineState.{MachineState, IsMachineState}
use Rattle.rv_machine.specs.States.{state_number}
use Rattle.rv_machine.specs.StepTable.{is_running}
use Rattle.rv_machine.specs.Watchers.{GoesOn}
use Rattle.rv_machine.proofs.Runs.{state_number_keeps_pages, state_number-add}
use Rattle.rv_machine.proofs.StateInvariant.{number_is_state}
use Rattle.input_journal.specs.Form.{IsRecorded}
use Rattle.run_timeline.specs.Moves.{StopList}
use Rattle.run_timeline.specs.declared.marks.Marks.{Marks}
use Rattle.run_timeline.specs.declared.mark.Mark.{Mark}
use Rattle.run_timeline.specs.declared.walk.Walk.TheInside.{Inside}
use Rattle.run_timeline.specs.Mark.{CanGive, HaveRoom, IsMarkOf}
use Rattle.run_timeline.specs.RunMarks.{AreMarks, Spans}
use Rattle.run_timeline.specs.declared.stops.Hit.{Hit}
use Rattle.run_timeline.specs.StepObservations.{is_hit, seen, IsLastSeen}
use Rattle.run_timeline.specs.WalkFields.{IsWalk}

-- steps from its place
pub steps_from : (w : Inside) (n : ℕ) (s : MachineState) → IsWalk w → s ≡ state_number w.work w.journal n → s ≡ state_number w.first w.journal (w.place + n)
steps_from w n s h e = e ∙ ap (λ (x : MachineState). state_number x w.journal n) h.work ∙ sym (state_number-add w.first w.journal w.place n)

-- the states of a run map the same pages
same_pages : (w : Inside) (at : ℕ) → IsWalk w → page_numbers (state_number w.first w.journal at).memory ≡ page_numbers w.work.memory
same_pages w at h =
    state_number_keeps_pages w.first w.journal at ∙ sym (ap (λ (s : MachineState). page_numbers s.memory) h.work ∙ state_number_keeps_pages w.first w.journal w.place)

pub room_for : (w : Inside) (taken : ℕ) (work : MachineState) → IsWalk w → work ≡ state_number w.work w.journal taken → HaveRoom (length (page_numbers work.memory)) w.marks.marks.items
room_for w taken work h e =
    let pages = ap (λ (s : MachineState). page_numbers s.memory) (steps_from w taken work h e) ∙ state_number_keeps_pages w.first w.journal (w.place + taken) in
    subst (λ (ns : List ℕ). HaveRoom (length ns) w.marks.marks.items) (sym pages) h.marks.pages

-- the walk stands at another place that was reached
moved : (w : Inside) (work : MachineState) (place : ℕ) → IsWalk w → work ≡ state_number w.first w.journal place → place ≤ w.reached → IsWalk (record w { work = work; place = place })
moved w work place h e known = record { marks = h.marks; spans = h.spans; work = e; known = known; within = h.within; runs = h.runs }

-- a mark gives its state to what has another one of the run
pub can_give : (w : Inside) (m : Mark) (at : ℕ) → IsWalk w → IsMachineState w.first → IsRecorded w.journal → IsMarkOf (state_number w.first w.journal at) m → CanGive m (page_numbers w.work.memory)
can_give w m at h is recorded mark = (state_number w.first w.journal at, (mark, number_is_state w.first w.journal at is recorded, same_pages w at h))

pub given : (w : Inside) (m : Mark) (at : ℕ) (new : MachineState) → IsWalk w → IsMachineState w.first → IsRecorded w.journal → IsMarkOf (state_number w.first w.journal at) m → at ≤ w.reached →
    ((s : MachineState) → IsMarkOf s m → IsMemory s.memory → page_numbers s.memory ≡ page_numbers w.work.memory → new ≡ s) → IsWalk (record w { work = new; place = at })
given w m at new h is recorded mark known gives =
    moved w new at h (gives (state_number w.first w.journal at) mark (number_is_state w.first w.journal at is recorded).memory (same_pages w at h)) known

-- it goes on to a place that was reached
pub went_on : (w : Inside) (work : MachineState) (place : ℕ) → IsWalk w → w.place ≤ place → place ≤ w.reached → work ≡ state_number w.work w.journal (place - w.place) → IsWalk (record w { work = work; place = place })
went_on w work place h order known e =
    let is : w.place + (place - w.place) ≡ place = omega arith in
    moved w work place h (steps_from w (place - w.place) work h e ∙ ap (state_number w.first w.journal) is) known

-- it goes on from its place, maybe further than it has reached
pub arrived : (w : Inside) (marks : Marks) (work : MachineState) (taken reached : ℕ) → IsWalk w → work ≡ state_number w.work w.journal taken →
    ((k : ℕ) → k < taken → is_running (state_number w.work w.journal k).status ≡ true) → w.place + taken ≤ w.most → reached ≡ max w.reached (w.place + taken) →
    ((states : ℕ → MachineState) → AreMarks states w.marks → work ≡ states (w.place + taken) → AreMarks states marks) →
    ((r : ℕ) → Spans w.marks r → Spans marks (max r (w.place + taken))) →
    IsWalk (record w { marks = marks; work = work; place = w.place + taken; reached = reached })
arrived w marks work taken reached h e runs small is pm ps =
    let went = steps_from w taken work h e in
    record {
      marks = pm (state_number w.first w.journal) h.marks went;
      spans = subst (λ (n : ℕ). Spans marks n) (sym is) (ps w.reached h.spans);
      work = went;
      known = omega (arith, is);
      within = omega (arith, is, h.within, small);
      runs = λ k l. elim (cases_lt k w.reached) [
        | inl lt ↦ h.runs k lt
        | inr ge ↦
            (let known : w.place ≤ w.reached = h.known in
            let j : ℕ = k - w.place in
            let sum : w.place + j ≡ k = omega arith in
            let there : state_number w.work w.journal j ≡ state_number w.first w.journal k = steps_from w j (state_number w.work w.journal j) h refl ∙ ap (state_number w.first w.journal) sum in
            subst (λ (s : MachineState). is_running s.status ≡ true) there (runs j (omega (arith, is))))
      ];
    }

-- where the states from the place on go on, those of the run do
pub goes_on_there : (stops : StopList) (w : Inside) (taken k : ℕ) → IsWalk w →
    ((j : ℕ) → j < taken → GoesOn (is_hit stops) w.journal (state_number w.work w.journal j)) → w.place ≤ k → k < w.place + taken → GoesOn (is_hit stops) w.journal (state_number w.first w.journal k)
goes_on_there stops w taken k h go low high =
    let j : ℕ = k - w.place in
    let sum : w.place + j ≡ k = omega (arith, low) in
    let there : state_number w.work w.journal j ≡ state_number w.first w.journal k = steps_from w j (state_number w.work w.journal j) h refl ∙ ap (state_number w.first w.journal) sum in
    subst (λ (s : MachineState). GoesOn (is_hit stops) w.journal s) there (go j (omega (arith, low, high)))

-- what is seen at the states from the place on is seen at those of the run
pub last_there : (stops : StopList) (w : Inside) (n m : ℕ) (o : Option (ℕ × Hit)) → IsWalk w → m ≡ n →
    IsLastSeen (λ k. seen stops w.journal (w.place + k) (state_number w.work w.journal k)) m o → IsLastSeen (λ k. seen stops w.journal (w.place + k) (state_number w.first w.journal (w.place + k))) n o
last_there stops w n m o h is last =
    subst (λ (j : ℕ). IsLastSeen (λ k. seen stops w.journal (w.place + k) (state_number w.first w.journal (w.place + k))) j o) is
    (subst (λ (see : ℕ → Option (ℕ × Hit)). IsLastSeen see m o) (λ i k. seen stops w.journal (w.place + k) (steps_from w k (state_number w.work w.journal k) h refl i)) last)
