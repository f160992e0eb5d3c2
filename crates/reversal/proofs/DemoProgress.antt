-- A run that is shown: what is known of it after each action.
use Rattle.std.proofs.Common.{◌≡◌, ℕ, zero, suc, ◌+◌, ◌*◌, ◌<◌, false, List, [], ◌∷◌, ◌++◌, length, map, take, append-nil, append_assoc, IsSome, Option, Some, None, Result, Ok, Err, OnOk, OnErr, refl, sym, ◌∙◌, ap, subst, arith, slice_get}
use Rattle.std.specs.List.{flat_map}
use Rattle.std.specs.Result.{result_ok}
use Rattle.std.proofs.lemmas.Grind.{flat_map-append}
use Rattle.std.proofs.lemmas.List.{take_at}
use Rattle.std.proofs.lemmas.List.Sums.{sum_by-append}
use Rattle.sha2.specs.Hashers.{Holds256}
use Rattle.plan_types.specs.declared.action.Action.{Action}
use Rattle.level_book.specs.declared.book.Slots.{Slots}
use Rattle.level_book.specs.declared.book.Slots.TheVariants.{Count}
use Rattle.level_book.specs.BookCosts.{slots_of, total_room, plain}
use Rattle.level_book.specs.Configuration.{start}
use Rattle.level_book.specs.CostFold.{forward, steps_of}
use Rattle.level_book.specs.Moves.{Goes}
use Rattle.level_book.specs.Rules.{rule}
use Rattle.level_book.specs.Valid.{Leads, Valid}
use Rattle.keepers.specs.KeeperState.{KeeperState}
use Rattle.keepers.specs.Claims.{Images}
use Rattle.schedule_rules.proofs.VerdictReasons.{kept_on_the_way}
use Rattle.schedule_rules.proofs.Reachability.{leads_more, sound_on, sound_start}
use Rattle.revolve_gen.specs.Plans.{HasPlan}
use Rattle.revolve_gen.specs.RevolveList.{revolve_list}
use Rattle.revolve_gen.proofs.Books.{book_right}
use Rattle.rv_machine.specs.MachineState.{MachineState, IsMachineState}
use Rattle.rv_machine.specs.States.{state_number}
use Rattle.state_image.specs.Line.{line}
use Rattle.reverse_runner.specs.StateOrder.{handed, handed_by, countdown}
use Rattle.reverse_runner.specs.Units.{unit_states}
use Rattle.reverse_runner.specs.KeepersSeen.{HaveRoom, by_number}
use Rattle.reverse_runner.specs.VisitorCalls.{states_out, GetsAll}
use Rattle.reverse_runner.specs.SessionState.{SessionState}
use Rattle.reverse_runner.specs.SessionOfRun.{begun, Performs, StandsAt}
use Rattle.reverse_runner.proofs.StateOrder.{valid_hands}
use Rattle.reverse_runner.proofs.StatesInvariant.{TapeIs}
use Rattle.reversal.specs.declared.demo.Demonstrated.{Demonstrated}
use Rattle.reversal.specs.declared.line_hasher.LineHasher.{LineHasher}
use Rattle.reversal.specs.DemoStates.{IsAtStart, BreaksWithin, IsOneKeeper}
use Rattle.reversal.specs.Output.{line_of, lines_down}
use Rattle.reversal.proofs.ShownStates.{Shows, hands_of_run, handed_more}
use Rattle.reversal.proofs.Progress.{one_times}

-- ---- the start

-- one keeper has room for the level of a plain book
room_for_one : (steps slots : ℕ) (k : KeeperState) → k.slots ≡ slots → HaveRoom steps (Count slots ∷ []) (map (λ (k : KeeperState). k.slots) (k ∷ []))
room_for_one steps slots k is zero within = (omega arith, omega (arith, is))
room_for_one steps slots k is (suc n) within = absurd (omega (arith, within))

-- the first keeper tells
one_tells : (steps slots : ℕ) (keeper : KeeperState) (k : ℕ) → k < length (slots_of (plain slots)) → IsSome (by_number None (λ (k : KeeperState). Some k.images) (keeper ∷ []) k)
one_tells steps slots keeper zero within = refl
one_tells steps slots keeper (suc n) within = absurd (omega (arith, within))

-- a session over one keeper in memory
pub at_start : (d : Demonstrated) (first : MachineState) (steps slots : ℕ) → IsMachineState first → HasPlan steps (total_room (plain slots) steps) →
    d.session ≡ begun first [] 1 steps (slots_of (plain slots)) → d.actions ≡ revolve_list steps (plain slots) → IsOneKeeper slots d.keepers.items →
    ((told : ℕ → Option Images) → ((k : ℕ) → k < length (slots_of (plain slots)) → IsSome (told k)) → StandsAt first d.session told) → IsAtStart d
at_start d first steps slots good plan session actions one stands =
    let keeper = one.keeper in
    record {
      state = (let P : SessionState → Type 0 = λ s. IsMachineState s.work in subst P (sym session) good);
      begun_so = session ∙ sym (ap (λ (s : SessionState). begun s.work s.journal 1 s.situation.steps s.situation.slots) session);
      stands =
          (let P : SessionState → Type 0 = λ s. StandsAt s.work d.session (by_number None (λ (k : KeeperState). Some k.images) d.keepers.items) in
          let Q : List KeeperState → Type 0 = λ ks. StandsAt first d.session (by_number None (λ (k : KeeperState). Some k.images) ks) in
          subst P (sym session) (subst Q (sym one.one) (stands (by_number None (λ (k : KeeperState). Some k.images) (keeper ∷ [])) (one_tells steps slots keeper))));
      room =
          (let P : SessionState → Type 0 = λ s. HaveRoom s.situation.steps s.situation.slots (map (λ (k : KeeperState). k.slots) d.keepers.items) in
          let Q : List KeeperState → Type 0 = λ ks. HaveRoom steps (slots_of (plain slots)) (map (λ (k : KeeperState). k.slots) ks) in
          subst P (sym session) (subst Q (sym one.one) (room_for_one steps slots keeper one.slots_of_it)));
      valid =
          (let P : SessionState → Type 0 = λ s. Valid s.situation.steps s.situation.slots d.actions in
          let Q : List Action → Type 0 = λ l. Valid steps (slots_of (plain slots)) l in
          subst P (sym session) (subst Q (sym actions) (book_right steps (plain slots) plan).0));
    }

-- ---- on the way

-- Some actions were done, from the first on, and the others are to come. The session stands where they lead, over the
-- keeper, their lines were hashed, and the count of steps rose by their forward steps.
pub record HasDone (d now : Demonstrated) (hasher : LineHasher) (before after : ℕ) : Type 0 where
  pub done : List Action
  pub split : d.actions ≡ done ++ now.actions
  pub lasts : now.session.ended ≡ false
  pub steps : now.session.situation.steps ≡ d.session.situation.steps
  pub slots : now.session.situation.slots ≡ d.session.situation.slots
  pub journal : now.session.journal ≡ d.session.journal
  pub unit : now.session.unit ≡ 1
  pub leads : Leads d.session.situation.steps d.session.situation.slots (start d.session.situation.steps d.session.situation.slots) done now.session.situation.at
  pub room : map (λ (k : KeeperState). k.slots) now.keepers.items ≡ map (λ (k : KeeperState). k.slots) d.keepers.items
  pub stands : StandsAt d.session.work now.session (by_number None (λ (k : KeeperState). Some k.images) now.keepers.items)
  pub hashed : Holds256 hasher.hasher (flat_map (line_of (state_number d.session.work d.session.journal)) (handed 1 d.session.situation.steps done))
  pub counted : after ≡ before + forward done

pub none_done : (d : Demonstrated) (hasher : LineHasher) (n : ℕ) → IsAtStart d → Holds256 hasher.hasher [] → HasDone d d hasher n n
none_done d hasher n h holds = record {
  done = [];
  split = refl;
  lasts = ap (λ (s : SessionState). s.ended) h.begun_so;
  steps = refl;
  slots = refl;
  journal = refl;
  unit = ap (λ (s : SessionState). s.unit) h.begun_so;
  leads = ap (λ (s : SessionState). s.situation.at) h.begun_so;
  room = refl;
  stands = h.stands;
  hashed = holds;
  counted = omega arith;
}

-- an element behind the front of a list
pub behind : {X : Type 0} (front : List X) (x : X) (rest : List X) → slice_get (front ++ x ∷ rest) (length front) ≡ Some x
behind [] x rest = refl
behind (y ∷ front) x rest = behind front x rest

-- the next action may be done
pub next_allowed : (d now : Demonstrated) (hasher : LineHasher) (before after : ℕ) (a : Action) (rest : List Action) → IsAtStart d → HasDone d now hasher before after → now.actions ≡ a ∷ rest →
    rule now.session.situation.steps now.session.situation.slots now.session.situation.at a ≡ 0
next_allowed d now hasher before after a rest at_start h next =
    let steps = d.session.situation.steps in
    let slots = d.session.situation.slots in
    let list = h.done ++ a ∷ rest in
    let whole : d.actions ≡ list = h.split ∙ ap (λ l. h.done ++ l) next in
    let V : List Action → Type 0 = λ l. Valid steps slots l in
    let T : List Action → Type 0 = λ l. Leads steps slots (start steps slots) l now.session.situation.at in
    let valid : Valid steps slots list = subst V whole at_start.valid in
    (λ j. rule (h.steps j) (h.slots j) now.session.situation.at a)
    ∙ kept_on_the_way steps slots list (length h.done) now.session.situation.at a valid.0 (behind h.done a rest) (subst T (sym (take_at h.done (a ∷ rest) (length h.done) refl)) h.leads) valid.1

-- the keepers have the room that they had
pub room_still : (d now : Demonstrated) (hasher : LineHasher) (before after : ℕ) → IsAtStart d → HasDone d now hasher before after →
    HaveRoom now.session.situation.steps now.session.situation.slots (map (λ (k : KeeperState). k.slots) now.keepers.items)
room_still d now hasher before after at_start h =
    let N : ℕ → Type 0 = λ n. HaveRoom n now.session.situation.slots (map (λ (k : KeeperState). k.slots) now.keepers.items) in
    let S : List Slots → Type 0 = λ s. HaveRoom d.session.situation.steps s (map (λ (k : KeeperState). k.slots) now.keepers.items) in
    let C : List ℕ → Type 0 = λ l. HaveRoom d.session.situation.steps d.session.situation.slots l in
    subst N (sym h.steps) (subst S (sym h.slots) (subst C (sym h.room) at_start.room))

-- what a hasher gets of a state that is handed out
abbrev pub Hashed : LineHasher → ℕ → MachineState → List (List ℕ) → LineHasher → Type 0
Hashed h n s journal g = (lines : List ℕ) → Holds256 h.hasher lines → Holds256 g.hasher (lines ++ (line n s ++ 10 ∷ []))

-- the hasher holds the lines of the states that one action more hands out
hashed_more : (shown : ℕ → MachineState) (journal : List (List ℕ)) (numbers : List ℕ) (states : List MachineState) (x y : LineHasher) (lines : List ℕ) → Shows shown numbers states →
    GetsAll Hashed journal numbers states x y → Holds256 x.hasher lines → Holds256 y.hasher (lines ++ flat_map (line_of shown) numbers)
hashed_more shown journal [] [] x y lines shows got holds =
    let P : LineHasher → Type 0 = λ v. Holds256 v.hasher (lines ++ []) in
    let Q : List ℕ → Type 0 = λ l. Holds256 x.hasher l in
    subst P (sym got) (subst Q (sym (append-nil lines)) holds)
hashed_more shown journal [] (s ∷ states) x y lines shows got holds = absurd got
hashed_more shown journal (n ∷ numbers) [] x y lines shows got holds = absurd got
hashed_more shown journal (n ∷ numbers) (s ∷ states) x y lines shows got holds =
    let P : List ℕ → Type 0 = λ l. Holds256 got.0.hasher (lines ++ l) in
    let Q : List ℕ → Type 0 = λ l. Holds256 y.hasher l in
    let here = subst P (ap (λ s. line n s ++ 10 ∷ []) (sym shows.0)) (got.1.0 lines holds) in
    subst Q (append_assoc lines (line_of shown n) (flat_map (line_of shown) numbers)) (hashed_more shown journal numbers states got.0 y (lines ++ line_of shown n) shows.1 got.1.1 here)

-- one action more was done
pub one_more_done : (d now then : Demonstrated) (hasher hasher' : LineHasher) (before after after' : ℕ) (a : Action) → HasDone d now hasher before after → now.actions ≡ a ∷ then.actions →
    Performs now.session a then.session → map (λ (k : KeeperState). k.slots) then.keepers.items ≡ map (λ (k : KeeperState). k.slots) now.keepers.items →
    StandsAt d.session.work then.session (by_number None (λ (k : KeeperState). Some k.images) then.keepers.items) →
    GetsAll Hashed now.session.journal (handed_by now.session.unit now.session.situation.steps a) (states_out a now.session.work now.session.tape.states) hasher hasher' →
    after' ≡ after + now.session.unit * steps_of a → HasDone d then hasher' before after'
one_more_done d now then hasher hasher' before after after' a h next performs room stands got counted =
    let steps = d.session.situation.steps in
    let slots = d.session.situation.slots in
    let first = d.session.work in
    let journal = d.session.journal in
    let c = now.session.situation.at in
    let states = state_number first journal in
    let G : ℕ → Type 0 = λ n. Goes n now.session.situation.slots c a then.session.situation.at in
    let H : List Slots → Type 0 = λ s. Goes steps s c a then.session.situation.at in
    let goes = subst H h.slots (subst G h.steps performs.goes) in
    let W : List (List ℕ) → ℕ → Type 0 = λ j u. now.session.work ≡ unit_states first j u c.work in
    let T : List (List ℕ) → ℕ → Type 0 = λ j u. TapeIs first j u c.tape now.session.tape in
    let N : ℕ → ℕ → Type 0 = λ u n. GetsAll Hashed now.session.journal (handed_by u n a) (states_out a now.session.work now.session.tape.states) hasher hasher' in
    let work = subst (λ j. W j 1) h.journal (subst (W now.session.journal) h.unit h.stands.work) in
    let tape = subst (λ j. T j 1) h.journal (subst (T now.session.journal) h.unit h.stands.tape) in
    let L : List ℕ → Type 0 = λ l. Holds256 hasher'.hasher l in
    let taped = (sound_on steps slots (start steps slots) h.done c (sound_start steps slots) h.leads).tape_is_next in
    record {
      done = h.done ++ a ∷ [];
      split = h.split ∙ ap (λ l. h.done ++ l) next ∙ sym (append_assoc h.done (a ∷ []) then.actions);
      lasts = performs.lasts;
      steps = performs.steps ∙ h.steps;
      slots = performs.slots ∙ h.slots;
      journal = performs.journal ∙ h.journal;
      unit = performs.unit ∙ h.unit;
      leads = leads_more steps slots (start steps slots) h.done c a then.session.situation.at h.leads goes;
      room = room ∙ h.room;
      stands = stands;
      hashed =
          subst L
          (sym (flat_map-append (line_of states) (handed 1 steps h.done) (handed_by 1 steps a)) ∙ ap (flat_map (line_of states)) (sym (handed_more 1 steps h.done a)))
          (hashed_more states now.session.journal (handed_by 1 steps a) (states_out a now.session.work now.session.tape.states) hasher hasher' _ (hands_of_run first journal 1 steps slots c a then.session.situation.at now.session.work now.session.tape goes work tape taped)
          (subst (N 1) h.steps (subst (λ u. N u now.session.situation.steps) h.unit got)) h.hashed);
      counted =
          (let two = sum_by-append steps_of h.done (a ∷ []) in
          let one = ap (λ u. after + u * steps_of a) h.unit in
          omega (arith, two, h.counted, counted, one));
    }

-- ---- the end

-- the next action was not done
pub broken : (d now : Demonstrated) (hasher : LineHasher) (before after after' : ℕ) (a : Action) (rest : List Action) → HasDone d now hasher before after → now.actions ≡ a ∷ rest → after' ≡ after →
    BreaksWithin d.actions before after'
broken d now hasher before after after' a rest h next still =
    let whole : d.actions ≡ h.done ++ a ∷ rest = h.split ∙ ap (λ l. h.done ++ l) next in
    let front : take (length h.done) d.actions ≡ h.done = ap (take (length h.done)) whole ∙ take_at h.done (a ∷ rest) (length h.done) refl in
    record {
      performed = length h.done;
      next = a;
      there = ap (λ l. slice_get l (length h.done)) whole ∙ behind h.done a rest;
      counted = still ∙ h.counted ∙ ap (λ l. before + forward l) (sym front);
    }

-- the whole list was done, and the lines of all states were hashed
pub all_done : (d now : Demonstrated) (hasher : LineHasher) (before after : ℕ) → IsAtStart d → HasDone d now hasher before after → now.actions ≡ [] →
    Holds256 hasher.hasher (lines_down (state_number d.session.work d.session.journal) d.session.situation.steps) × (after ≡ before + forward d.actions)
all_done d now hasher before after at_start h none =
    let whole : d.actions ≡ h.done = h.split ∙ ap (λ l. h.done ++ l) none ∙ append-nil h.done in
    let states = state_number d.session.work d.session.journal in
    let P : List ℕ → Type 0 = λ l. Holds256 hasher.hasher (flat_map (line_of states) l) in (
      subst P (ap (handed 1 d.session.situation.steps) (sym whole) ∙ valid_hands 1 d.session.situation.steps d.session.situation.slots d.actions at_start.valid ∙ ap countdown (one_times d.session.situation.steps)) h.hashed,
      h.counted ∙ ap (λ l. before + forward l) (sym whole),
    )

-- ---- a result that is asked for its value

pub where_ok : {E X : Type 0} (r : Result (Unit {0}) E) (u : Unit {0}) → Some u ≡ result_ok r → OnOk r X → X
where_ok (Ok v) u e x = x
where_ok (Err v) u e x = absurd cc

pub where_err : {E X : Type 0} (r : Result (Unit {0}) E) → None ≡ result_ok r → OnErr r X → X
where_err (Ok v) e x = absurd cc
where_err (Err v) e x = x
