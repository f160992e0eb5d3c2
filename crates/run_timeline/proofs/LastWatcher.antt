-- What was looked at on a stretch of a run.
use Rattle.std.proofs.Common.{◌≡◌, ℕ, zero, suc, ◌+◌, ◌<◌, List, Option, None, Some, sym, ap, subst, ◌∙◌, arith, inl, inr}
use Rattle.std.specs.Option.{option_or}
use Rattle.std.proofs.lemmas.Bool.{cases_lt}
use Rattle.rv_machine.specs.MachineState.{MachineState}
use Rattle.rv_machine.specs.States.{state_number}
use Rattle.rv_machine.specs.Watchers.{AreNoted}
use Rattle.run_timeline.specs.Moves.{StopList}
use Rattle.run_timeline.specs.declared.stops.Hit.{Hit}
use Rattle.run_timeline.specs.declared.observing.Last.{Last}
use Rattle.run_timeline.specs.LastWatcher.{IsNotedLast}
use Rattle.run_timeline.specs.StepObservations.{seen, IsLastSeen}

-- one more thing is seen, or not
last_more : (see : ℕ → Option (ℕ × Hit)) (n : ℕ) (o f : Option (ℕ × Hit)) → see n ≡ o → IsLastSeen see n f → IsLastSeen see (suc n) (option_or o f)
last_more see n (Some x) f e h = (n, (omega arith, e, λ j above below. absurd (omega arith)))
last_more see n None (Some x) e h = (
  h.0,
  (
    (let l : h.0 < n = h.1.0 in omega (arith, l)),
    h.1.1,
    λ j above below. elim (cases_lt j n) [
      | inl lt ↦ h.1.2 j above lt
      | inr ge ↦ let here : j ≡ n = omega arith in subst (λ (i : ℕ). see i ≡ None) (sym here) e
    ],
  ),
)
last_more see n None None e h = λ j below. elim (cases_lt j n) [
  | inl lt ↦ h j lt
  | inr ge ↦ let here : j ≡ n = omega arith in subst (λ (i : ℕ). see i ≡ None) (sym here) e
]

pub noted_at : (first : MachineState) (journal : List (List ℕ)) (n : ℕ) (v w : Last) → AreNoted IsNotedLast first journal n v w → w.at ≡ v.at + n
noted_at first journal zero v w h = let same : w.at ≡ v.at = ap (λ (l : Last). l.at) h in omega (arith, same)
noted_at first journal (suc n) v w h =
    let before : h.0.at ≡ v.at + n = noted_at first journal n v h.0 h.1.0 in
    let more : w.at ≡ h.0.at + 1 = h.1.1.at in
    omega (arith, before, more)

noted_stops : (first : MachineState) (journal : List (List ℕ)) (n : ℕ) (v w : Last) → AreNoted IsNotedLast first journal n v w → w.stops.now ≡ v.stops.now
noted_stops first journal zero v w h = ap (λ (l : Last). l.stops.now) h
noted_stops first journal (suc n) v w h = h.1.1.stops ∙ noted_stops first journal n v h.0 h.1.0

-- the last of them, from a place on
pub noted_last : (stops : StopList) (first : MachineState) (journal : List (List ℕ)) (from n : ℕ) (v w : Last) → v.stops.now ≡ stops → v.at ≡ from → v.found ≡ None →
    AreNoted IsNotedLast first journal n v w → IsLastSeen (λ k. seen stops journal (from + k) (state_number first journal k)) n w.found
noted_last stops first journal from zero v w s a f h =
    subst (λ (o : Option (ℕ × Hit)). IsLastSeen (λ k. seen stops journal (from + k) (state_number first journal k)) 0 o) (sym (ap (λ (l : Last). l.found) h ∙ f)) (λ j below. absurd (omega arith))
noted_last stops first journal from (suc n) v w s a f h =
    let u : Last = h.0 in
    let see : ℕ → Option (ℕ × Hit) = λ k. seen stops journal (from + k) (state_number first journal k) in
    let at : u.at ≡ from + n = (let here : u.at ≡ v.at + n = noted_at first journal n v u h.1.0 in omega (arith, here, a)) in
    let same : u.stops.now ≡ stops = noted_stops first journal n v u h.1.0 ∙ s in
    let saw : see n ≡ seen u.stops.now journal u.at (state_number first journal n) = λ i. seen (sym same i) journal (sym at i) (state_number first journal n) in
    subst (λ (o : Option (ℕ × Hit)). IsLastSeen see (suc n) o) (sym h.1.1.found) (last_more see n (seen u.stops.now journal u.at (state_number first journal n)) u.found saw (noted_last stops first journal from n v u s a f h.1.0))
