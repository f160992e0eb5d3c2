-- Over any keepers a list that is gone through hands out the states of the run, or the images of two states collide.
use Rattle.std.proofs.Common.{◌≡◌, ◌⊎◌, inl, inr, ℕ, zero, suc, ◌+◌, ◌*◌, ◌<◌, ◌≤◌, Bool, true, cond, List, [], ◌∷◌, ◌++◌, length, map, slice_get, Option, Some, None, Contains, Any, refl, sym, ◌∙◌, ap, subst, arith}
use Rattle.std.proofs.lemmas.Bool.{cases_eq, cases_lt, cases_Bool}
use Rattle.std.proofs.lemmas.List.{map-append}
use Rattle.std.proofs.lemmas.List.Elements.{Contains-append_left, Contains-append_right}
use Rattle.keepers.specs.Claims.{Images}
use Rattle.plan_types.specs.declared.action.Action.{Action}
use Rattle.plan_types.specs.declared.action.Action.TheVariants.{Forward, Reverse, Copy, Move, EndForward, EndReverse}
use Rattle.level_book.specs.declared.book.Slots.{Slots}
use Rattle.level_book.specs.Configuration.{Configuration, start}
use Rattle.level_book.specs.Moves.{Goes}
use Rattle.level_book.specs.Valid.{Leads, Valid}
use Rattle.schedule_rules.specs.Reachability.{IsSound}
use Rattle.schedule_rules.proofs.Reachability.{sound_on, sound_start}
use Rattle.input_journal.specs.Form.{IsRecorded}
use Rattle.rv_pages.specs.Memory.{byte_at}
use Rattle.rv_machine.specs.MachineState.{MachineState, IsMachineState}
use Rattle.rv_machine.specs.States.{state_number}
use Rattle.rv_machine.specs.StepTable.{written}
use Rattle.reverse_runner.specs.ActionEffects.{Holdings, Acts}
use Rattle.reverse_runner.specs.Collision.{StandsByDigests, Collides}
use Rattle.reverse_runner.specs.StateOrder.{numbers_from, handed_by, handed}
use Rattle.reverse_runner.specs.HoldingsOfRun.{IsLaidOut}
use Rattle.reverse_runner.specs.SessionState.{holdings_of}
use Rattle.reverse_runner.specs.SessionOfRun.{begun}
use Rattle.reverse_runner.specs.Units.{unit_states}
use Rattle.reverse_runner.proofs.Collision.{stand_or_collide, begun_by_digests}
use Rattle.reverse_runner.proofs.HoldingsInvariant.{laid_out_after}
use Rattle.reverse_runner.proofs.RoomLeft.{begun_is_laid_out}
use Rattle.reverse_queries.specs.Collision.{CollidesOn}
use Rattle.reverse_queries.specs.Queries.{WritesIn, WritesWord, Differ, ChangesIn, ChangesWord, IsLast, hands_out, front_to, up_to}
use Rattle.reverse_queries.specs.HoldingsTrace.{HaveOut, GoesThrough}
use Rattle.reverse_queries.proofs.Numbers.{head_same, rest_same}
use Rattle.reverse_queries.proofs.ReversalOrder.{on_tape, Turns, turns_start, turns_on, left, left_at_end, left_before, hands_of}

-- where what is held stands by the digests, the states of the run have those that are handed out
pub out_by_digests : (first : MachineState) (unit steps : ℕ) (slots : List Slots) (journal : List (List ℕ)) (c : Configuration) (a : Action) (d : Configuration) (held : Holdings) → Goes steps slots c a d → IsSound steps slots c →
    StandsByDigests first journal unit c held → HaveOut unit steps a held (state_number first journal)
out_by_digests first unit steps slots journal c (Forward from to keep) d held g sound stands = refl
out_by_digests first unit steps slots journal c (Copy m k dest) d held g sound stands = refl
out_by_digests first unit steps slots journal c (Move m k dest) d held g sound stands = refl
out_by_digests first unit steps slots journal c EndReverse d held g sound stands = refl
out_by_digests first unit steps slots journal c EndForward d held g sound stands = ap (λ s. s ∷ []) (sym (stands.work ∙ ap (unit_states first journal unit) g.2))
out_by_digests first unit steps slots journal c (Reverse from to) d held g sound stands =
    sym (on_tape first journal unit c.tape held.tape c.reverse from to g.2 sound.tape_is_next stands.tape g.3 g.4)

-- functions that agree on a list agree on each of its numbers
pub agree_at : (f g : ℕ → MachineState) (numbers : List ℕ) → map f numbers ≡ map g numbers → (n : ℕ) → Contains numbers n → f n ≡ g n
agree_at f g [] same n (k, lt, at) = absurd (omega (arith, lt))
agree_at f g (m ∷ numbers) same n (zero, lt, at) = ap f (sym at) ∙ head_same same ∙ ap g at
agree_at f g (m ∷ numbers) same n (suc k, lt, at) = agree_at f g numbers (rest_same same) n (k, omega (arith, lt), at)

one_later : (i : ℕ) → suc i + 1 ≡ suc (i + 1)
one_later i = omega arith

-- two images collide in the rest of a list
later : (states : ℕ → MachineState) (a : Action) (rest : List Action) (held : ℕ → Holdings) → CollidesOn states rest (λ i. held (suc i)) → CollidesOn states (a ∷ rest) held
later states a rest held h = record {
  place = suc h.place;
  action = h.action;
  there = h.there;
  collides = (let P : ℕ → Type 0 = λ i. Collides states h.action (held i).work in subst P (sym (one_later h.place)) h.collides);
}

module _ (first : MachineState) (journal : List (List ℕ)) (unit steps : ℕ) (slots : List Slots) (states : ℕ → MachineState) (is : IsMachineState first) (recorded : IsRecorded journal) where
  -- each action hands out states of the run, and what is held after the last one stands by the digests
  abbrev Right : List Action → Configuration → Holdings → Type 0
  Right list d last = (map states (handed unit steps list) ≡ map (state_number first journal) (handed unit steps list)) × StandsByDigests first journal unit d last

  right_or_collides : (list : List Action) (c d : Configuration) (held : ℕ → Holdings) → IsSound steps slots c → Leads steps slots c list d → IsLaidOut steps slots c (held 0).levels.store →
      StandsByDigests first journal unit c (held 0) → ((i : ℕ) (a : Action) → slice_get list i ≡ Some a → Acts unit journal a (held i) (held (i + 1))) →
      ((i : ℕ) (a : Action) → slice_get list i ≡ Some a → HaveOut unit steps a (held i) states) →
      Right list d (held (length list)) ⊎ CollidesOn (unit_states first journal unit) list held
  right_or_collides [] c d held sound leads laid stands acts hands =
      inl (refl, (let P : Configuration → Type 0 = λ x. StandsByDigests first journal unit x (held 0) in subst P (sym leads) stands))
  right_or_collides (a ∷ rest) c d held sound leads laid stands acts hands =
      let m = leads.0 in
      let g = leads.1 in
      let did = acts 0 a refl in
      elim (stand_or_collide first journal unit steps slots c a m (held 0) (held 1) is recorded sound g did laid stands) [
        | inr collides ↦ inr (record { place = 0; action = a; there = refl; collides = collides })
        | inl after ↦
            elim (right_or_collides rest m d (λ i. held (suc i)) (sound_on steps slots c (a ∷ []) m sound (m, g, refl)) leads.2
            (laid_out_after journal unit steps slots c a m (held 0) (held 1) sound g did laid) after
            (λ i b at. let P : ℕ → Type 0 = λ j. Acts unit journal b (held (suc i)) (held j) in subst P (one_later i) (acts (suc i) b at))
            (λ i b at. hands (suc i) b at)) [
              | inr collides ↦ inr (later (unit_states first journal unit) a rest held collides)
              | inl right ↦ inl (
                map-append states (handed_by unit steps a) (handed unit steps rest)
                    ∙ (λ j. (hands 0 a refl ∙ sym (out_by_digests first unit steps slots journal c a m (held 0) g sound stands)) j ++ right.0 j)
                    ∙ sym (map-append (state_number first journal) (handed_by unit steps a) (handed unit steps rest)),
                right.1,
              )
            ]
      ]

-- a list that was gone through from the start
pub run_or_collides : (first : MachineState) (journal : List (List ℕ)) (unit steps : ℕ) (slots : List Slots) (list : List Action) (c : Configuration) (told : ℕ → Option Images) (last : Holdings) (states : ℕ → MachineState) →
    IsMachineState first → IsRecorded journal → Leads steps slots (start steps slots) list c →
    (through : GoesThrough unit steps journal list (holdings_of (begun first journal unit steps slots) told) last states) →
    (((n : ℕ) → Contains (handed unit steps list) n → states n ≡ state_number first journal n) × StandsByDigests first journal unit c last)
    ⊎ CollidesOn (unit_states first journal unit) list through.held
run_or_collides first journal unit steps slots list c told last states is recorded leads through =
    let L : Holdings → Type 0 = λ h. IsLaidOut steps slots (start steps slots) h.levels.store in
    let S : Holdings → Type 0 = λ h. StandsByDigests first journal unit (start steps slots) h in
    let E : Holdings → Type 0 = λ h. StandsByDigests first journal unit c h in
    elim (right_or_collides first journal unit steps slots states is recorded list (start steps slots) c through.held (sound_start steps slots) leads
    (subst L (sym through.from) (begun_is_laid_out steps slots)) (subst S (sym through.from) (begun_by_digests first journal unit steps slots told)) through.acts through.hands) [
      | inl right ↦ inl (agree_at states (state_number first journal) (handed unit steps list) right.0, subst E through.to right.1)
      | inr collides ↦ inr collides
    ]

-- ---- what an answer takes

contains_number : (from count m : ℕ) → from ≤ m → m < from + count → Contains (numbers_from from count) m
contains_number from zero m low high = absurd (omega (arith, low, high))
contains_number from (suc count) m low high = elim (cases_eq (from + count) m) [
  | inl e ↦ (0, omega arith, e)
  | inr ne ↦ (let rest = contains_number from count m low (omega (arith, high, ne)) in let lt = rest.1 in (suc rest.0, omega (arith, lt), rest.2))
]

-- from its number on, of what is left the front of a list hands out all
front_hands : (unit steps : ℕ) (slots : List Slots) (n : ℕ) (list : List Action) (c d : Configuration) → Leads steps slots c list d → Turns steps c → d.ended ≡ true →
    (m : ℕ) → n ≤ m → m < left unit steps c → Contains (handed unit steps (front_to unit steps n list)) m
front_hands unit steps slots n [] c d leads turns ended m low high =
    let none = left_at_end unit steps c turns (sym (ap (λ (x : Configuration). x.ended) leads) ∙ ended) in
    absurd (omega (arith, high, none))
front_hands unit steps slots n (a ∷ rest) c d leads turns ended m low high =
    let mid = leads.0 in
    let h = hands_of unit steps slots c a mid leads.1 turns in
    elim (cases_lt m (left unit steps mid)) [
      | inl below ↦
          let later = left_before unit steps c a mid n h (omega (arith, low, below)) in
          let P : Bool → Type 0 = λ b. Contains (handed unit steps (a ∷ cond b [] (front_to unit steps n rest))) m in
          subst P (sym later.1) (Contains-append_right (handed_by unit steps a) (handed unit steps (front_to unit steps n rest)) m
          (front_hands unit steps slots n rest mid d leads.2 (turns_on steps slots c a mid leads.1 turns) ended m low below))
      | inr above ↦
          let more = h.more in
          let L : List ℕ → Type 0 = λ l. Contains l m in
          Contains-append_left (handed_by unit steps a) (handed unit steps (cond (hands_out unit steps n a) [] (front_to unit steps n rest))) m
          (subst L (sym h.numbers) (contains_number (left unit steps mid) h.count m above (omega (arith, high, more))))
    ]

-- the whole list hands out all that is left
list_hands : (unit steps : ℕ) (slots : List Slots) (list : List Action) (c d : Configuration) → Leads steps slots c list d → Turns steps c → d.ended ≡ true →
    (m : ℕ) → m < left unit steps c → Contains (handed unit steps list) m
list_hands unit steps slots [] c d leads turns ended m high =
    let none = left_at_end unit steps c turns (sym (ap (λ (x : Configuration). x.ended) leads) ∙ ended) in
    absurd (omega (arith, high, none))
list_hands unit steps slots (a ∷ rest) c d leads turns ended m high =
    let mid = leads.0 in
    let h = hands_of unit steps slots c a mid leads.1 turns in
    elim (cases_lt m (left unit steps mid)) [
      | inl below ↦ Contains-append_right (handed_by unit steps a) (handed unit steps rest) m (list_hands unit steps slots rest mid d leads.2 (turns_on steps slots c a mid leads.1 turns) ended m below)
      | inr above ↦
          let more = h.more in
          let L : List ℕ → Type 0 = λ l. Contains l m in
          Contains-append_left (handed_by unit steps a) (handed unit steps rest) m
          (subst L (sym h.numbers) (contains_number (left unit steps mid) h.count m above (omega (arith, high, more))))
    ]

front_leads : (unit steps : ℕ) (slots : List Slots) (n : ℕ) (list : List Action) (c d : Configuration) → Leads steps slots c list d → (e : Configuration) × Leads steps slots c (front_to unit steps n list) e
front_leads unit steps slots n [] c d leads = (c, refl)
front_leads unit steps slots n (a ∷ rest) c d leads =
    let mid = leads.0 in
    let more = front_leads unit steps slots n rest mid d leads.2 in
    let P : Bool → Type 0 = λ b. (e : Configuration) × Leads steps slots c (a ∷ cond b [] (front_to unit steps n rest)) e in
    elim (cases_Bool (hands_out unit steps n a)) [
      | inl e ↦ subst P (sym e) (mid, (mid, leads.1, refl))
      | inr e ↦ subst P (sym e) (more.0, (mid, leads.1, more.1))
    ]

up_leads : (unit steps : ℕ) (slots : List Slots) (answer : Option ℕ) (list : List Action) (d : Configuration) → Leads steps slots (start steps slots) list d →
    (e : Configuration) × Leads steps slots (start steps slots) (up_to unit steps answer list) e
up_leads unit steps slots (Some n) list d leads = front_leads unit steps slots n list (start steps slots) d leads
up_leads unit steps slots None list d leads = (d, leads)

-- the least number that an answer speaks of
abbrev least_told : Option ℕ → ℕ
least_told (Some n) = n
least_told None = 0

up_hands : (unit steps : ℕ) (slots : List Slots) (answer : Option ℕ) (list : List Action) (d : Configuration) → Leads steps slots (start steps slots) list d → d.ended ≡ true →
    (m : ℕ) → least_told answer ≤ m → m ≤ unit * steps → Contains (handed unit steps (up_to unit steps answer list)) m
up_hands unit steps slots (Some n) list d leads ended m low high =
    front_hands unit steps slots n list (start steps slots) d leads (turns_start steps slots (start steps slots) refl) ended m low (omega (arith, high))
up_hands unit steps slots None list d leads ended m low high =
    list_hands unit steps slots list (start steps slots) d leads (turns_start steps slots (start steps slots) refl) ended m (omega (arith, high))

-- what is performed for an answer hands out the states of the run that the answer speaks of, or images collide
pub answer_or_collides : (first : MachineState) (journal : List (List ℕ)) (unit steps : ℕ) (slots : List Slots) (list : List Action) (answer : Option ℕ) (told : ℕ → Option Images) (last : Holdings) (states : ℕ → MachineState) →
    IsMachineState first → IsRecorded journal → Valid steps slots list →
    (through : GoesThrough unit steps journal (up_to unit steps answer list) (holdings_of (begun first journal unit steps slots) told) last states) →
    ((m : ℕ) → least_told answer ≤ m → m ≤ unit * steps → states m ≡ state_number first journal m) ⊎ CollidesOn (unit_states first journal unit) (up_to unit steps answer list) through.held
answer_or_collides first journal unit steps slots list answer told last states is recorded valid through =
    let front = up_leads unit steps slots answer list valid.0 valid.1 in
    elim (run_or_collides first journal unit steps slots (up_to unit steps answer list) front.0 told last states is recorded front.1 through) [
      | inl right ↦ inl (λ m low high. right.0 m (up_hands unit steps slots answer list valid.0 valid.1 valid.2 m low high))
      | inr collides ↦ inr collides
    ]

-- the last place by one is that by another, where they say the same from there on
same_last : (P Q : ℕ → Type 0) (bound : ℕ) (answer : Option ℕ) → ((n : ℕ) → least_told answer ≤ n → n < bound → (P n → Q n) × (Q n → P n)) → IsLast P bound answer → IsLast Q bound answer
same_last P Q bound (Some m) same h =
    let within = h.1 in
    ((same m (omega arith) within).0 h.0, within, λ n above below q. h.2 n above below ((same n (omega (arith, above)) below).1 q))
same_last P Q bound None same h = λ n below q. h n below ((same n (omega arith) below).1 q)

writes_same : (f g : ℕ → MachineState) (journal : List (List ℕ)) (word n : ℕ) → f n ≡ g n → WritesIn f journal word n → WritesIn g journal word n
writes_same f g journal word n same h = subst (λ (s : MachineState). Any (λ at. (word ≤ at) × (at < word + 4)) (written s journal)) same h

changes_same : (f g : ℕ → MachineState) (word n : ℕ) → f n ≡ g n → f (n + 1) ≡ g (n + 1) → ChangesIn f word n → ChangesIn g word n
changes_same f g word n here next h =
    let N : MachineState → Type 0 = λ s. (k : ℕ) × ((k < 4) × Differ (byte_at (g n).memory (word + k)) (byte_at s.memory (word + k))) in
    let H : MachineState → Type 0 = λ s. (k : ℕ) × ((k < 4) × Differ (byte_at s.memory (word + k)) (byte_at (f (n + 1)).memory (word + k))) in
    subst N next (subst H here h)

-- what is asked of a list that was gone through
module _ (first : MachineState) (journal : List (List ℕ)) (unit steps : ℕ) (slots : List Slots) (list : List Action) (told : ℕ → Option Images) (last : Holdings) (states : ℕ → MachineState)
    (is : IsMachineState first) (recorded : IsRecorded journal) (valid : Valid steps slots list) where
  pub state_or_collides : (place : ℕ) → place ≤ unit * steps → (through : GoesThrough unit steps journal (front_to unit steps place list) (holdings_of (begun first journal unit steps slots) told) last states) →
      (states place ≡ state_number first journal place) ⊎ CollidesOn (unit_states first journal unit) (front_to unit steps place list) through.held
  state_or_collides place within through = elim (answer_or_collides first journal unit steps slots list (Some place) told last states is recorded valid through) [
    | inl right ↦ inl (right place (omega arith) within)
    | inr collides ↦ inr collides
  ]

  pub write_or_collides : (word : ℕ) (answer : Option ℕ) → (through : GoesThrough unit steps journal (up_to unit steps answer list) (holdings_of (begun first journal unit steps slots) told) last states) →
      IsLast (WritesIn states journal word) (unit * steps) answer → IsLast (WritesWord first journal word) (unit * steps) answer ⊎ CollidesOn (unit_states first journal unit) (up_to unit steps answer list) through.held
  write_or_collides word answer through h = elim (answer_or_collides first journal unit steps slots list answer told last states is recorded valid through) [
    | inl right ↦ inl (same_last (WritesIn states journal word) (WritesWord first journal word) (unit * steps) answer
        (λ n low high. (let same = right n low (omega (arith, high)) in
        (writes_same states (state_number first journal) journal word n same, writes_same (state_number first journal) states journal word n (sym same)))) h)
    | inr collides ↦ inr collides
  ]

  pub change_or_collides : (word : ℕ) (answer : Option ℕ) → (through : GoesThrough unit steps journal (up_to unit steps answer list) (holdings_of (begun first journal unit steps slots) told) last states) →
      IsLast (ChangesIn states word) (unit * steps) answer → IsLast (ChangesWord first journal word) (unit * steps) answer ⊎ CollidesOn (unit_states first journal unit) (up_to unit steps answer list) through.held
  change_or_collides word answer through h = elim (answer_or_collides first journal unit steps slots list answer told last states is recorded valid through) [
    | inl right ↦ inl (same_last (ChangesIn states word) (ChangesWord first journal word) (unit * steps) answer
        (λ n low high. (let here = right n low (omega (arith, high)) in
        let next = right (n + 1) (omega (arith, low)) (omega (arith, high)) in
        (changes_same states (state_number first journal) word n here next, changes_same (state_number first journal) states word n (sym here) (sym next)))) h)
    | inr collides ↦ inr collides
  ]
