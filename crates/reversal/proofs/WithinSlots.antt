-- At every configuration on the way of a run each level is within its slots.
use Rattle.std.proofs.Common.{◌≡◌, ℕ, zero, suc, ◌+◌, ◌<◌, ◌≤◌, List, [], ◌∷◌, length, take, slice_get, Option, Some, IsSome, refl, sym, subst, arith}
use Rattle.std.specs.FinMap as finmap
use Rattle.std.proofs.lemmas.List.{length-take}
use Rattle.std.proofs.lemmas.Option.{none-some}
use Rattle.plan_types.specs.declared.action.Action.{Action}
use Rattle.level_book.specs.declared.book.Slots.{Slots}
use Rattle.level_book.specs.Configuration.{Configuration, start}
use Rattle.level_book.specs.Valid.{Leads}
use Rattle.schedule_rules.specs.Reachability.{IsSound}
use Rattle.schedule_rules.proofs.Reachability.{sound_on, sound_start}
use Rattle.input_journal.specs.Form.{IsRecorded}
use Rattle.keepers.specs.Claims.{Images}
use Rattle.rv_machine.specs.MachineState.{MachineState, IsMachineState}
use Rattle.reverse_runner.specs.ActionEffects.{Holdings, Acts}
use Rattle.reverse_runner.specs.HoldingsOfRun.{HoldingsStandAt, AreAlone, IsLaidOut}
use Rattle.reverse_runner.proofs.HoldingsInvariant.{laid_out_after, alone_after, stand_after}
use Rattle.reverse_runner.proofs.ExactContents.{holds_just}
use Rattle.reverse_runner.proofs.RoomLeft.{begun_is_laid_out, begun_stands, begun_is_alone}
use Rattle.reversal.specs.RunStart.{IsGoneOver}
use Rattle.reversal.specs.Deeds.{States}
use Rattle.reversal.specs.RunTrace.{GoesOver, IsWithinSlots, held_at_start}
use Rattle.reversal.specs.Job.{Run}
use Rattle.reversal.specs.Moment.{Moment}

-- what a front of a list has, the list has
of_front : {X : Type 0} (xs : List X) (m i : ℕ) (x : X) → slice_get (take m xs) i ≡ Some x → slice_get xs i ≡ Some x
of_front [] zero i x e = absurd (none-some x e)
of_front [] (suc m) i x e = absurd (none-some x e)
of_front (y ∷ ys) zero i x e = absurd (none-some x e)
of_front (y ∷ ys) (suc m) zero x e = e
of_front (y ∷ ys) (suc m) (suc i) x e = of_front ys m i x e

one_later : (i : ℕ) → suc i + 1 ≡ suc (i + 1)
one_later i = omega arith

module _ (first : MachineState) (journal : List (List ℕ)) (unit steps : ℕ) (slots : List Slots) (is : IsMachineState first) (recorded : IsRecorded journal) where
  -- what is held is laid out for a configuration, and stands there alone
  record Stand (c : Configuration) (h : Holdings) : Type 0 where
    laid : IsLaidOut steps slots c h.levels.store
    stands : HoldingsStandAt first journal unit c h
    alone : AreAlone h.levels

  -- so it is along a list
  along : (list : List Action) (c d : Configuration) (held : ℕ → Holdings) → IsSound steps slots c → Leads steps slots c list d → Stand c (held 0) →
      ((i : ℕ) (a : Action) → slice_get list i ≡ Some a → Acts unit journal a (held i) (held (i + 1))) → Stand d (held (length list))
  along [] c d held sound leads here acts = let P : Configuration → Type 0 = λ x. Stand x (held 0) in subst P (sym leads) here
  along (a ∷ rest) c d held sound leads here acts =
      let m = leads.0 in
      let g = leads.1 in
      let did = acts 0 a refl in
      along rest m d (λ i. held (suc i)) (sound_on steps slots c (a ∷ []) m sound (m, g, refl)) leads.2 (record {
        laid = laid_out_after journal unit steps slots c a m (held 0) (held 1) sound g did here.laid;
        stands = stand_after first journal unit steps slots c a m (held 0) (held 1) is recorded sound g did here.laid here.stands;
        alone = alone_after journal unit steps slots c a m (held 0) (held 1) sound g did here.laid here.alone;
      }) (λ i b at. let P : ℕ → Type 0 = λ j. Acts unit journal b (held (suc i)) (held j) in subst P (one_later i) (acts (suc i) b at))

pub within_slots : (run : Run) → IsGoneOver run → (actions : List Action) (last : Holdings) (states : States) (old : Moment) (through : GoesOver run actions old last states) → (done : ℕ) → done ≤ length actions →
    (c : Configuration) → Leads run.steps run.slots (start run.steps run.slots) (take done actions) c → IsWithinSlots run c (through.held done) old
within_slots run begins actions last states old through done some c leads =
    let first = run.first in
    let journal = run.journal in
    let at = start run.steps run.slots in
    let sound = sound_on run.steps run.slots at (take done actions) c (sound_start run.steps run.slots) leads in
    record {
      within = sound.room;
      just = λ empty k within.
          let tells : (j : ℕ) → j < length run.slots → IsSome (old.images j) = λ j lt. some_there (old.images j) (empty j lt) in
          let S : Holdings → Type 0 = Stand first journal run.unit run.steps run.slots begins.start.state begins.start.recorded at in
          let begun : S (held_at_start run old) = record {
            laid = begun_is_laid_out run.steps run.slots;
            stands = begun_stands first journal run.unit run.steps run.slots (held_at_start run old).tape old.images tells;
            alone = begun_is_alone run.steps run.slots old.images empty;
          } in
          let here = along first journal run.unit run.steps run.slots begins.start.state begins.start.recorded (take done actions) at c through.held (sound_start run.steps run.slots) leads (subst S (sym through.from) begun)
          (λ i a there. through.acts i a (of_front actions done i a there)) in
          let long : length (take done actions) ≡ done = length_of actions done some in
          let T : ℕ → Type 0 = λ n. Stand first journal run.unit run.steps run.slots begins.start.state begins.start.recorded c (through.held n) in
          let stand = subst T long here in
          let levels = stand.laid.levels in
          holds_just first journal run.unit c (through.held done) stand.stands stand.alone k (omega (arith, within, levels));
    }
  where
    some_there : (o : Option Images) → o ≡ Some finmap.empty → IsSome o
    some_there o e = subst (λ (x : Option Images). IsSome x) (sym e) refl

    length_of : (xs : List Action) (m : ℕ) → m ≤ length xs → length (take m xs) ≡ m
    length_of xs m le = let e = length-take m xs in omega (arith, e, le)
