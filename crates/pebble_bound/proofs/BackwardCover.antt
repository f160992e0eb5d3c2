-- What an action does to the cover, told backward: from the configuration that it leads to, to the one that it comes from.
use Rattle.std.proofs.Common.{◌≡◌, ◌⊎◌, ℕ, zero, suc, ◌+◌, ◌<◌, ◌≤◌, true, cond, ◌&&◌, nat_le, nat_lt, List, [], ◌∷◌, refl, sym, ◌∙◌, ap, subst, inl, inr, arith, Option, Some, None, IsSome, true≢false}
use Rattle.std.proofs.lemmas.Bool.{cases_lt}
use Rattle.std.proofs.lemmas.Bool.Decides.{nat_tests}
use Rattle.std.proofs.lemmas.List.Sums.{sum_by-cons}
use Rattle.plan_types.specs.declared.action.Keep.TheVariants.{Nothing, Store, Tape}
use Rattle.plan_types.specs.declared.action.Dest.TheVariants.{Work, Level}
use Rattle.plan_types.specs.declared.action.Action.{Action}
use Rattle.plan_types.specs.declared.action.Action.TheVariants.{Forward, Reverse, Copy, Move, EndForward, EndReverse}
use Rattle.level_book.specs.declared.book.Slots.{Slots}
use Rattle.level_book.specs.Configuration.{Configuration, with_held, without_held}
use Rattle.level_book.specs.Moves.{Goes}
use Rattle.level_book.specs.Valid.{Leads}
use Rattle.schedule_rules.specs.Transitions.{after}
use Rattle.schedule_rules.specs.Reachability.{IsSound}
use Rattle.schedule_rules.proofs.MovesByRules.{goes_after}
use Rattle.schedule_rules.proofs.Reachability.{sound_on}
use Rattle.binomials.specs.Binomials.{beta_before}
use Rattle.binomials.proofs.Monotonicity.{beta_pos}
use Rattle.pebble_bound.specs.Crossings.{is_crossed, crossings, passing}
use Rattle.pebble_bound.proofs.ConfigurationMeasures.{still_to_tape, untaped, is_held}
use Rattle.pebble_bound.proofs.SublevelCounts.{few, passing_more, passing_next, few_next, few_zero}
use Rattle.pebble_bound.proofs.StepCovers.{Covers, alone, more_crossed, advanced, one_taped}
use Rattle.pebble_bound.proofs.HeldPositions.{on_level, held_more, held_less}

-- the work state stands there, or an image of the state is held
abbrev pub Occupied : Configuration → ℕ → Type 0
Occupied c i = (c.work ≡ i) ⊎ (is_held c i ≡ true)

-- nothing is left to tape, or state 0 is there and the steps from it on are covered
abbrev pub Covered : ℕ → (ℕ → ℕ) → Configuration → Type 0
Covered room x c = (untaped c ≡ 0) ⊎ (Occupied c 0 × Covers (Occupied c) x (untaped c) room 0)

-- an action that tapes nothing and occupies nothing new
still_covered : (room : ℕ) (x y : ℕ → ℕ) (c d : Configuration) → untaped c ≡ untaped d → ((i : ℕ) → Occupied d i → Occupied c i) → ((i : ℕ) → y i ≤ x i) →
    Covered room y d → Covered room x c
still_covered room x y c d same occupied more (inl none) = inl (same ∙ none)
still_covered room x y c d same occupied more (inr (here, covers)) =
    let P : ℕ → Type 0 = λ end. Covers (Occupied c) x end room 0 in
    inr (occupied 0 here, subst P (sym same) (more_crossed (Occupied c) (Occupied d) x y (untaped d) room 0 (λ i _. occupied i) (λ i _. more i) covers))

-- an action that goes on from a position to another
moved_on : (room : ℕ) (x y : ℕ → ℕ) (c d : Configuration) (from to : ℕ) → untaped c ≡ untaped d → from < to → Occupied c from →
    ((i : ℕ) → Occupied d i → Occupied c i ⊎ (i ≡ to)) → ((i : ℕ) → y i ≤ x i) → ((i : ℕ) → from ≤ i → i < to → y i < x i) →
    Covered room y d → Covered room x c
moved_on room x y c d from to same ahead at occupied more once (inl none) = inl (same ∙ none)
moved_on room x y c d from to same ahead at occupied more once (inr (here, covers)) =
    let P : ℕ → Type 0 = λ end. Covers (Occupied c) x end room 0 in
    let first : Occupied c 0 = elim (occupied 0 here) [ inl before ↦ before | inr e ↦ absurd (omega arith) ] in
    inr (first, subst P (sym same) (advanced (Occupied c) (Occupied d) x y (untaped d) from to room 0 ahead at occupied more once covers))

-- the last step to be taped, alone
one_left : (room : ℕ) (x : ℕ → ℕ) (c : Configuration) (end : ℕ) → untaped c ≡ suc end → end ≡ 0 → Occupied c end → Covered room x c
one_left room x c end before none here =
    let P : ℕ → Type 0 = λ end. Covers (Occupied c) x end room 0 in
    let f : (k : ℕ) → few x k 1 ≤ beta_before room k + few x k 0 = elim [
      | zero ↦ omega (arith, few_zero x 1)
      | suc k ↦ omega (arith, few_next x (suc k) 0, beta_pos room k)
    ] in
    let only : untaped c ≡ 1 = omega arith in
    inr (subst (Occupied c) none here, subst P (sym only) (alone room 0 (omega arith) f))

-- an action that tapes the step at `end` from the work state
step_taped : (room : ℕ) (x y : ℕ → ℕ) (c d : Configuration) (end : ℕ) → untaped c ≡ suc end → untaped d ≡ end → Occupied c end →
    ((i : ℕ) → i < end → Occupied d i → is_held c i ≡ true) → passing (is_held c) end ≤ room → ((i : ℕ) → y i ≤ x i) → Covered room y d → Covered room x c
step_taped room x y c d end before after_ here held few_held more (inl none) = one_left room x c end before (sym after_ ∙ none) here
step_taped room x y c d end before after_ here held few_held more (inr (first, covers)) = elim (cases_lt 0 end) [
  | inr ge ↦ one_left room x c end before (omega arith) here
  | inl lt ↦
      let P : ℕ → Type 0 = λ end. Covers (Occupied c) x end room 0 in
      let Q : ℕ → Type 0 = λ end. Covers (Occupied d) x end room 0 in
      let first_held = held 0 lt first in
      let counted : passing (is_held c) end < room + passing (is_held c) (suc 0) = omega (arith, few_held, passing_next (is_held c) 0 first_held) in
      let lifted : Covers (Occupied d) x (untaped d) room 0 = more_crossed (Occupied d) (Occupied d) x y (untaped d) room 0 (λ i _ o. o) (λ i _. more i) covers in
      let taped = one_taped (Occupied c) (Occupied d) (is_held c) x end room 0 here (λ i b o. inr (held i b o)) held counted (subst Q after_ lifted) in
      inr (inr first_held, subst P (sym before) taped)
]

crossed_once : (from to i m : ℕ) → from ≤ i → i < to → m < cond (nat_le from i && nat_lt i to) 1 0 + m
crossed_once from to i m h g = grind (arith, nat_tests)

-- the image that is put on a level is of a state that was there
put_there : (c : Configuration) (n k : ℕ) → Occupied c n → (i : ℕ) → is_held (with_held c n k) i ≡ true → Occupied c i
put_there c n k here i h = elim (held_more c n k i h) [ inl old ↦ inr old | inr e ↦ subst (Occupied c) (sym e) here ]

pub reversed_same : (c : Configuration) (to : ℕ) (t : Option ℕ) → IsSome t → to + 1 ≡ c.reverse → still_to_tape t c.reverse ≡ to
reversed_same c to None there e = absurd (true≢false (sym there))
reversed_same c to (Some n) there e = omega arith

covered_before : (steps room : ℕ) (slots : List Slots) (c : Configuration) (a : Action) (d : Configuration) (y : ℕ → ℕ) → IsSound steps slots c → passing (is_held c) steps ≤ room →
    Goes steps slots c a d → Covered room y (after c a) → Covered room (λ i. cond (is_crossed i a) 1 0 + y i) c
covered_before steps room slots c (Forward from to Nothing) d y sound few_held g covered =
    moved_on room _ y c (after c (Forward from to Nothing)) from to refl g.1.ahead (inl g.1.here)
    (λ i o. elim o [ inl e ↦ inr (sym e) | inr h ↦ inl (inr h) ])
    (λ i. omega arith) (λ i h b. crossed_once from to i (y i) h b) covered
covered_before steps room slots c (Forward from to (Store k)) d y sound few_held g covered =
    moved_on room _ y c (after c (Forward from to (Store k))) from to refl g.1.ahead (inl g.1.here)
    (λ i o. elim o [ inl e ↦ inr (sym e) | inr h ↦ inl (put_there c from k (inl g.1.here) i h) ])
    (λ i. omega arith) (λ i h b. crossed_once from to i (y i) h b) covered
covered_before steps room slots c (Forward from to Tape) d y sound few_held g covered =
    let last : c.reverse ≡ suc from = omega (arith, g.2, g.3) in
    step_taped room _ y c (after c (Forward from to Tape)) from
    (ap (λ t. still_to_tape t c.reverse) g.4 ∙ last) (omega arith) (inl g.1.here)
    (λ i b o. elim o [ inl e ↦ absurd (omega (arith, g.2)) | inr h ↦ h ])
    (omega (arith, few_held, sound.within, passing_more (is_held c) from steps (omega (arith, sound.within))))
    (λ i. omega arith) covered
covered_before steps room slots c (Reverse from to) d y sound few_held g covered =
    still_covered room _ y c (after c (Reverse from to)) (reversed_same c to c.tape g.2 (omega (arith, g.3, g.4))) (λ i o. o) (λ i. omega arith) covered
covered_before steps room slots c (Copy n k Work) d y sound few_held g covered =
    still_covered room _ y c (after c (Copy n k Work)) refl
    (λ i o. elim o [ inl e ↦ subst (Occupied c) e (inr (on_level c k n g.1.there)) | inr h ↦ inr h ]) (λ i. omega arith) covered
covered_before steps room slots c (Copy n k (Level j)) d y sound few_held g covered =
    still_covered room _ y c (after c (Copy n k (Level j))) refl
    (λ i o. elim o [ inl e ↦ inl e | inr h ↦ put_there c n j (inr (on_level c k n g.1.there)) i h ]) (λ i. omega arith) covered
covered_before steps room slots c (Move n k Work) d y sound few_held g covered =
    still_covered room _ y c (after c (Move n k Work)) refl
    (λ i o. elim o [ inl e ↦ subst (Occupied c) e (inr (on_level c k n g.1.there)) | inr h ↦ inr (held_less c n k i h) ]) (λ i. omega arith) covered
covered_before steps room slots c (Move n k (Level j)) d y sound few_held g covered =
    still_covered room _ y c (after c (Move n k (Level j))) refl
    (λ i o. elim o [
      | inl e ↦ inl e
      | inr h ↦ elim (held_more (without_held c n k) n j i h) [
        | inl old ↦ inr (held_less c n k i old)
        | inr e ↦ subst (Occupied c) (sym e) (inr (on_level c k n g.1.there))
      ]
    ])
    (λ i. omega arith) covered
covered_before steps room slots c EndForward d y sound few_held g covered = still_covered room _ y c (after c EndForward) refl (λ i o. o) (λ i. omega arith) covered
covered_before steps room slots c EndReverse d y sound few_held g covered = still_covered room _ y c (after c EndReverse) refl (λ i o. o) (λ i. omega arith) covered

-- the cover of what a list takes steps for, at the configuration that it starts from
pub covered_on : (steps room : ℕ) (slots : List Slots) (c : Configuration) (list : List Action) (d : Configuration) → IsSound steps slots c →
    ((m : Configuration) → IsSound steps slots m → passing (is_held m) steps ≤ room) →
    Leads steps slots c list d → untaped d ≡ 0 → Covered room (crossings list) c
covered_on steps room slots c [] d sound within h end = inl (ap untaped (sym h) ∙ end)
covered_on steps room slots c (a ∷ rest) d sound within h end =
    let next : h.0 ≡ after c a = goes_after steps slots c a h.0 h.1 in
    let sound_next : IsSound steps slots h.0 = sound_on steps slots c (a ∷ []) h.0 sound (h.0, h.1, refl) in
    let P : Configuration → Type 0 = Covered room (crossings rest) in
    let later : Covered room (crossings rest) (after c a) = subst P next (covered_on steps room slots h.0 rest d sound_next within h.2 end) in
    let x : ℕ → ℕ = λ i. cond (is_crossed i a) 1 0 + crossings rest i in
    still_covered room (crossings (a ∷ rest)) x c c refl (λ i o. o) (λ i. omega (arith, sum_by-cons (λ (b : Action). cond (is_crossed i b) 1 0) a rest))
    (covered_before steps room slots c a h.0 (crossings rest) sound (within c sound) h.1 later)
