-- Over any keepers what a run shows, and what a question is answered by, is of the run, or the images of two states collide.
use Rattle.std.proofs.Common.{◌≡◌, ◌⊎◌, inl, inr, ℕ, zero, suc, ◌+◌, ◌≤◌, List, [], ◌∷◌, ◌++◌, length, map, take, slice_get, get_or, Option, Some, Contains, append-nil, refl, sym, ◌∙◌, ap, subst, arith}
use Rattle.std.specs.Option.{option_map}
use Rattle.std.proofs.lemmas.Bool.{cases_eq, cases_lt}
use Rattle.std.proofs.lemmas.List.{length-map, take_all}
use Rattle.std.proofs.lemmas.List.Elements.{Contains-append_cases, Contains-append_left, Contains-append_right}
use Rattle.std.proofs.lemmas.Option.{same_Some, slice_get-get_or, slice_get-map}
use Rattle.keepers.specs.Claims.{Tells}
use Rattle.plan_types.specs.declared.action.Action.{Action}
use Rattle.plan_types.specs.declared.action.Action.TheVariants.{EndReverse}
use Rattle.level_book.specs.declared.book.Slots.{Slots}
use Rattle.level_book.specs.Configuration.{Configuration, start}
use Rattle.level_book.specs.Valid.{Leads, Valid}
use Rattle.schedule_rules.proofs.VerdictReasons.{take_one_more}
use Rattle.schedule_rules.proofs.Reachability.{leads_apart, leads_unique, sound_on, sound_start}
use Rattle.input_journal.specs.Form.{IsRecorded}
use Rattle.rv_machine.specs.MachineState.{MachineState, IsMachineState}
use Rattle.reverse_runner.specs.ActionEffects.{Holdings}
use Rattle.reverse_runner.specs.Collision.{StandsByDigests}
use Rattle.reverse_runner.specs.StateOrder.{handed_by, handed, countdown}
use Rattle.reverse_runner.proofs.StateOrder.{valid_hands}
use Rattle.reverse_queries.specs.Collision.{CollidesOn}
use Rattle.reverse_queries.specs.HoldingsTrace.{HaveOut}
use Rattle.reverse_queries.specs.ListExecution.{IsOut}
use Rattle.reverse_queries.specs.Queries.{WritesIn, ChangesIn, IsLast, front_to, up_to}
use Rattle.reverse_queries.proofs.Collision.{run_or_collides, out_by_digests, state_or_collides, write_or_collides, change_or_collides}
use Rattle.requests.specs.declared.question.Question.TheVariants.{State}
use Rattle.reversal.specs.Job.{Run, last_of, state_of, unit_state}
use Rattle.reversal.specs.Output.{line_of, lines_down, Adds}
use Rattle.reversal.specs.Moment.{Moment}
use Rattle.reversal.specs.Deeds.{States, deed_of}
use Rattle.reversal.specs.RunTrace.{SameLevels, Went, IsFound, ComesTo}
use Rattle.reversal.specs.Course.{Shown, Done}
use Rattle.reversal.specs.CommandRun.{performing}
use Rattle.reversal.specs.CommandAsk.{asking}
use Rattle.reversal.proofs.TraceSteps.{in_front}

take_leads : (steps : ℕ) (slots : List Slots) (n : ℕ) (list : List Action) (c d : Configuration) → Leads steps slots c list d → (e : Configuration) × Leads steps slots c (take n list) e
take_leads steps slots zero list c d leads = (c, refl)
take_leads steps slots (suc n) [] c d leads = (c, refl)
take_leads steps slots (suc n) (a ∷ rest) c d leads =
    let more = take_leads steps slots n rest leads.0 d leads.2 in
    (more.0, (leads.0, leads.1, more.1))

-- what a list hands out with one action more
handed_more : (unit steps : ℕ) (list : List Action) (a : Action) (n : ℕ) → Contains (handed unit steps (list ++ a ∷ [])) n → Contains (handed unit steps list) n ⊎ Contains (handed_by unit steps a) n
handed_more unit steps [] a n h = inr (let L : List ℕ → Type 0 = λ l. Contains l n in subst L (append-nil (handed_by unit steps a)) h)
handed_more unit steps (b ∷ rest) a n h = elim (Contains-append_cases (handed_by unit steps b) (handed unit steps (rest ++ a ∷ [])) n h) [
  | inl here ↦ inl (Contains-append_left (handed_by unit steps b) (handed unit steps rest) n here)
  | inr later ↦ elim (handed_more unit steps rest a n later) [
    | inl there ↦ inl (Contains-append_right (handed_by unit steps b) (handed unit steps rest) n there)
    | inr last ↦ inr last
  ]
]

-- a number that an action hands out stands for a state that it hands out
is_out : (unit steps : ℕ) (a : Action) (held : Holdings) (states : ℕ → MachineState) (n : ℕ) → HaveOut unit steps a held states → Contains (handed_by unit steps a) n → IsOut unit steps n (states n) a held
is_out unit steps a held states n out h =
    let numbers = handed_by unit steps a in
    let number : slice_get numbers h.0 ≡ Some n = slice_get-get_or numbers h.0 n h.1 ∙ ap (λ m. Some m) h.2 in
    record {
      place = h.0;
      number = number;
      state = ap (λ l. slice_get l h.0) (sym out) ∙ slice_get-map states numbers h.0 ∙ ap (option_map states) number;
    }

-- and a state that it hands out is the one with its number
out_is : (unit steps : ℕ) (a : Action) (held : Holdings) (states : ℕ → MachineState) (n : ℕ) (state : MachineState) → HaveOut unit steps a held states → IsOut unit steps n state a held → state ≡ states n
out_is unit steps a held states n state out h =
    sym (same_Some (states n) state (ap (option_map states) (sym h.number) ∙ sym (slice_get-map states (handed_by unit steps a) h.place) ∙ ap (λ l. slice_get l h.place) out ∙ h.state))

-- images that collide in a front of a list collide in the list
in_list : (states : ℕ → MachineState) (n : ℕ) (list : List Action) (held : ℕ → Holdings) → CollidesOn states (take n list) held → CollidesOn states list held
in_list states n list held h = record { place = h.place; action = h.action; there = (in_front list n h.place h.action h.there).1; collides = h.collides }

countdown_has : (last n : ℕ) → n ≤ last → Contains (countdown last) n
countdown_has zero n le = (0, omega arith, omega (arith, le))
countdown_has (suc last) n le = elim (cases_eq (suc last) n) [
  | inl e ↦ (0, omega arith, e)
  | inr ne ↦ (let rest = countdown_has last n (omega (arith, le, ne)) in let lt = rest.1 in (suc rest.0, omega (arith, lt), rest.2))
]

lines_same : (f g : States) (last : ℕ) → ((n : ℕ) → n ≤ last → f n ≡ g n) → lines_down f last ≡ lines_down g last
lines_same f g zero same = (λ i. line_of_same 0 (same 0 (omega arith)) i ++ [])
  where
    line_of_same : (n : ℕ) → f n ≡ g n → line_of f n ≡ line_of g n
    line_of_same n e = ap (λ s. line_of (λ _. s) n) e
lines_same f g (suc last) same = (λ i. line_of_same (suc last) (same (suc last) (omega arith)) i ++ lines_same f g last (λ n le. same n (omega (arith, le))) i)
  where
    line_of_same : (n : ℕ) → f n ≡ g n → line_of f n ≡ line_of g n
    line_of_same n e = ap (λ s. line_of (λ _. s) n) e

module _ (run : Run) (is : IsMachineState run.first) (recorded : IsRecorded run.journal) (valid : Valid run.steps run.slots run.list) where
  -- the states that a run shows, of the actions so far and of the next one
  pub shown_or_collides : (Same : SameLevels) (performed : ℕ) (states : States) (old new : Moment) (went : Went Same run performed states old new) →
      ((n : ℕ) → Contains (handed run.unit run.steps (take (performed + 1) run.list)) n → states n ≡ state_of run n) ⊎ CollidesOn (unit_state run) (take performed run.list) went.through.held
  shown_or_collides Same performed states old new went =
      let front = take performed run.list in
      let first_one = take_leads run.steps run.slots performed run.list (start run.steps run.slots) valid.0 valid.1 in
      elim (run_or_collides run.first run.journal run.unit run.steps run.slots front first_one.0 old.images went.held states is recorded first_one.1 went.through) [
        | inr collides ↦ inr collides
        | inl right ↦ inl (elim (cases_lt performed (length run.list)) [
          | inr past ↦
              (let all : take (performed + 1) run.list ≡ front = take_all (performed + 1) run.list (omega (arith, past)) ∙ sym (take_all performed run.list past) in
              λ n h. right.0 n (subst (λ (l : List Action). Contains (handed run.unit run.steps l) n) all h))
          | inl within ↦
              (let a = get_or run.list performed EndReverse in
              let at : slice_get run.list performed ≡ Some a = slice_get-get_or run.list performed EndReverse within in
              let more = take_one_more run.list performed a at in
              let last = take_leads run.steps run.slots (performed + 1) run.list (start run.steps run.slots) valid.0 valid.1 in
              let L : List Action → Type 0 = λ l. Leads run.steps run.slots (start run.steps run.slots) l last.0 in
              let apart = leads_apart run.steps run.slots (start run.steps run.slots) front (a ∷ []) last.0 (subst L more last.1) in
              let same : first_one.0 ≡ apart.0 = leads_unique run.steps run.slots (start run.steps run.slots) front first_one.0 apart.0 first_one.1 apart.1 in
              let S : Configuration → Type 0 = λ c. StandsByDigests run.first run.journal run.unit c went.held in
              let sound = sound_on run.steps run.slots (start run.steps run.slots) front apart.0 (sound_start run.steps run.slots) apart.1 in
              let out = out_by_digests run.first run.unit run.steps run.slots run.journal apart.0 a apart.2.0 went.held apart.2.1 sound (subst S same right.1) in
              λ n h. elim (handed_more run.unit run.steps front a n (subst (λ (l : List Action). Contains (handed run.unit run.steps l) n) more h)) [
                | inl before ↦ right.0 n before
                | inr next ↦ went.next a n (state_of run n) at (is_out run.unit run.steps a went.held (state_of run) n out next)
              ])
        ])
      ]

  -- the lines of a run that was done
  pub lines_or_collide : (shown : Shown) (old new : Moment) (done : Done (performing run) shown old new) →
      Tells old.told new.told (Adds (lines_down (state_of run) (last_of run))) ⊎ CollidesOn (unit_state run) run.list done.held.through.held
  lines_or_collide shown old new done =
      let count = length (map (deed_of shown.states run.unit run.steps) run.list) in
      let front = take_leads run.steps run.slots count run.list (start run.steps run.slots) valid.0 valid.1 in
      let whole : take count run.list ≡ run.list = take_all count run.list (omega (arith, length-map run.list (deed_of shown.states run.unit run.steps))) in
      elim (run_or_collides run.first run.journal run.unit run.steps run.slots (take count run.list) front.0 old.images done.held.held shown.states is recorded front.1 done.held.through) [
        | inr collides ↦ inr (in_list (unit_state run) count run.list done.held.through.held collides)
        | inl right ↦ inl (
            let all : handed run.unit run.steps (take count run.list) ≡ countdown (last_of run) =
            ap (handed run.unit run.steps) whole ∙ valid_hands run.unit run.steps run.slots run.list valid in
            let same : lines_down shown.states (last_of run) ≡ lines_down (state_of run) (last_of run) =
            lines_same shown.states (state_of run) (last_of run) (λ n le. right.0 n (subst (λ (l : List ℕ). Contains l n) (sym all) (countdown_has (last_of run) n le))) in
            subst (λ (bytes : List ℕ). Tells old.told new.told (Adds bytes)) same done.output_whole
            )
      ]

  -- the line of a state that was asked for
  pub answer_line_or_collides : (place : ℕ) (shown : Shown) (old new : Moment) → place ≤ last_of run → (done : Done (asking (State place) run) shown old new) →
      Tells old.told new.told (Adds (line_of (state_of run) place)) ⊎ CollidesOn (unit_state run) (front_to run.unit run.steps place run.list) done.answered.2.through.held
  answer_line_or_collides place shown old new within done =
      let found = done.answered.2 in
      elim (state_or_collides run.first run.journal run.unit run.steps run.slots run.list old.images done.answered.0 found.states is recorded valid place within found.through) [
        | inr collides ↦ inr collides
        | inl e ↦ inl (
            let same : line_of shown.states place ≡ line_of (state_of run) place = ap (λ s. line_of (λ _. s) place) (sym found.holds ∙ e) in
            subst (λ (bytes : List ℕ). Tells old.told new.told (Adds bytes)) same done.output_whole
            )
      ]

  -- the state whose line was written in part
  pub part_or_collides : (place performed : ℕ) (state : MachineState) (old : Moment) (comes : ComesTo (IsOut run.unit run.steps place state) run performed old) →
      (state ≡ state_of run place) ⊎ CollidesOn (unit_state run) (take performed run.list) comes.through.held
  part_or_collides place performed state old comes =
      let front = take performed run.list in
      let a = comes.next in
      let more = take_one_more run.list performed a comes.there in
      let last = take_leads run.steps run.slots (performed + 1) run.list (start run.steps run.slots) valid.0 valid.1 in
      let L : List Action → Type 0 = λ l. Leads run.steps run.slots (start run.steps run.slots) l last.0 in
      let apart = leads_apart run.steps run.slots (start run.steps run.slots) front (a ∷ []) last.0 (subst L more last.1) in
      elim (run_or_collides run.first run.journal run.unit run.steps run.slots front apart.0 old.images comes.held comes.states is recorded apart.1 comes.through) [
        | inr collides ↦ inr collides
        | inl right ↦ inl (
            let sound = sound_on run.steps run.slots (start run.steps run.slots) front apart.0 (sound_start run.steps run.slots) apart.1 in
            let out = out_by_digests run.first run.unit run.steps run.slots run.journal apart.0 a apart.2.0 comes.held apart.2.1 sound right.1 in
            out_is run.unit run.steps a comes.held (state_of run) place state out comes.holds
            )
      ]

  -- the last step that writes a word, and the last that changes it
  pub last_write_or_collides : (address : ℕ) (answer : Option ℕ) (old new : Moment) (found : IsFound (λ states. IsLast (WritesIn states run.journal address) (last_of run) answer) run answer old new) →
      IsLast (WritesIn (state_of run) run.journal address) (last_of run) answer ⊎ CollidesOn (unit_state run) (up_to run.unit run.steps answer run.list) found.2.through.held
  last_write_or_collides address answer old new found =
      write_or_collides run.first run.journal run.unit run.steps run.slots run.list old.images found.0 found.2.states is recorded valid address answer found.2.through found.2.holds

  pub last_change_or_collides : (address : ℕ) (answer : Option ℕ) (old new : Moment) (found : IsFound (λ states. IsLast (ChangesIn states address) (last_of run) answer) run answer old new) →
      IsLast (ChangesIn (state_of run) address) (last_of run) answer ⊎ CollidesOn (unit_state run) (up_to run.unit run.steps answer run.list) found.2.through.held
  last_change_or_collides address answer old new found =
      change_or_collides run.first run.journal run.unit run.steps run.slots run.list old.images found.0 found.2.states is recorded valid address answer found.2.through found.2.holds
