-- Where moves over a run end: each has an end, and parts of a move backward join.
use Rattle.std.proofs.Common.{◌≡◌, ℕ, zero, suc, ◌+◌, ◌≤◌, ◌<◌, Bool, true, false, cond, nat_lt, Option, None, Some, refl, sym, ap, subst, ◌∙◌, arith, inl, inr}
use Rattle.std.specs.Option.{option_map, option_or}
use Rattle.std.specs.Prelude.{◌||◌, not, ⊤}
use Rattle.std.proofs.lemmas.Bool.{cases_lt, false≢true, lt-ltb, le-ltb, ne_eqb}
use Rattle.std.proofs.lemmas.Option.{none-some}
use Rattle.run_timeline.specs.declared.stops.Hit.{Hit}
use Rattle.run_timeline.specs.declared.stops.Hit.TheVariants.{Watch}
use Rattle.run_timeline.specs.declared.stops.Part.{Part}
use Rattle.run_timeline.specs.declared.stops.Part.TheVariants.{Ended, GoesOn}
use Rattle.run_timeline.specs.MoveParts.{MatchPart}
use Rattle.run_timeline.specs.Moves.{StopList, Run, IsPlace, is_end, broken, watched, ahead, behind, NothingHit, EndsForward, EndsBackward, CameForward, CameBackward}
use Rattle.run_timeline.proofs.StopHits.{nothing_more}
use Rattle.run_timeline.proofs.MoveEnds.{last_ends}

-- ---- forward

-- a move forward from p that came to q ends from there on
pub record EndsOn (r : Run) (stops : StopList) (p q : ℕ) : Type 0 where
  pub m : ℕ
  pub hit : Option Hit
  pub order : q ≤ m
  pub ends : EndsForward r stops p m hit

pub came_none : (r : Run) (stops : StopList) (p : ℕ) → CameForward r stops p p
came_none r stops p = (omega arith, λ k low high. absurd (omega (arith, low, high)))

ends_on_at : (r : Run) (stops : StopList) (p q : ℕ) (o : Option Hit) (e : Bool) → ahead r stops p q ≡ o → is_end r q ≡ e → CameForward r stops p q → (e ≡ false → o ≡ None → EndsOn r stops p (q + 1)) → EndsOn r stops p q
ends_on_at r stops p q (Some hit) e is end came further = record { m = q; hit = Some hit; order = omega arith; ends = (came.0, is, came.1) }
ends_on_at r stops p q None true is end came further = record { m = q; hit = None; order = omega arith; ends = (came.0, end, nothing_more (ahead r stops p) p q came.1 is) }
ends_on_at r stops p q None false is end came further = let there = further refl refl in record { m = there.m; hit = there.hit; order = omega (arith, there.order); ends = there.ends }

pub ends_on : (r : Run) (stops : StopList) (n p q : ℕ) → q + n ≡ r.most → CameForward r stops p q → EndsOn r stops p q
ends_on r stops zero p q most came =
    ends_on_at r stops p q (ahead r stops p q) (is_end r q) refl refl came (λ running none. absurd (false≢true (sym running ∙ last_ends r q (omega (arith, most)))))
ends_on r stops (suc n) p q most came =
    let order = came.0 in
    ends_on_at r stops p q (ahead r stops p q) (is_end r q) refl refl came
    (λ running none. ends_on r stops n p (q + 1) (omega (arith, most)) (omega (arith, order), nothing_more (ahead r stops p) p q came.1 none))

-- a move that came to a place doesn't end before it
not_before : (r : Run) (stops : StopList) (p q m : ℕ) (hit : Option Hit) → IsPlace r q → CameForward r stops p q → EndsForward r stops p m hit → q ≤ m
not_before r stops p q m (Some hit) place came ends = elim (cases_lt m q) [
  | inl lt ↦ absurd (none-some hit (sym (came.1 m ends.0 lt) ∙ ends.1))
  | inr ge ↦ ge
]
not_before r stops p q m None place came ends = elim (cases_lt m q) [
  | inl lt ↦
      (let most = place.0 in
      let other = ne_eqb m r.most (λ e. absurd (omega (arith, e, lt, most))) in
      let runs = place.1 m lt in
      let on : is_end r m ≡ false = λ i. other i || not (runs i) in
      absurd (false≢true (sym on ∙ ends.1)))
  | inr ge ↦ ge
]

pub order_on : (r : Run) (stops : StopList) (q m : ℕ) (part : Part) → IsPlace r q → ((p : ℕ) × (p < q) × CameForward r stops p q) → ((p : ℕ) → p < q → CameForward r stops p q → MatchPart part (EndsForward r stops p m) (CameForward r stops p m)) →
    MatchPart part (λ _. ⊤) (q < m) → q ≤ m
order_on r stops q m (Ended hit) place here ends further = not_before r stops here.0 q m hit place here.2 (ends here.0 here.1 here.2)
order_on r stops q m GoesOn place here ends further = omega (arith, further)

-- ---- backward

pub record EndsBack (r : Run) (stops : StopList) (p : ℕ) : Type 0 where
  pub m : ℕ
  pub hit : Option Hit
  pub ends : EndsBackward r stops p m hit

-- nothing is hit from one place before on
nothing_before : (hit : ℕ → Option Hit) (q low bound : ℕ) → q + 1 ≡ low → hit q ≡ None → NothingHit hit low bound → NothingHit hit q bound
nothing_before hit q low bound e none h k above below = elim (cases_lt q k) [
  | inl lt ↦ h k (omega (arith, lt, e)) below
  | inr ge ↦ let same : q ≡ k = omega (arith, ge, above) in subst (λ (i : ℕ). hit i ≡ None) same none
]

ends_back_at : (r : Run) (stops : StopList) (p q : ℕ) (o : Option Hit) → behind r stops p q ≡ o → q ≤ p → NothingHit (behind r stops p) (q + 1) (p + 1) → (o ≡ None → EndsBack r stops p) → EndsBack r stops p
ends_back_at r stops p q (Some hit) is le nothing further = record { m = q; hit = Some hit; ends = (le, is, nothing) }
ends_back_at r stops p q None is le nothing further = further refl

ends_back_from : (r : Run) (stops : StopList) (p q : ℕ) → q ≤ p → NothingHit (behind r stops p) (q + 1) (p + 1) → EndsBack r stops p
ends_back_from r stops p zero le nothing =
    ends_back_at r stops p 0 (behind r stops p 0) refl le nothing (λ none. record { m = 0; hit = None; ends = (refl, nothing_before (behind r stops p) 0 1 (p + 1) refl none nothing) })
ends_back_from r stops p (suc q) le nothing =
    ends_back_at r stops p (suc q) (behind r stops p (suc q)) refl le nothing
    (λ none. ends_back_from r stops p q (omega (arith, le)) (λ k above below. nothing_before (behind r stops p) (suc q) (suc q + 1) (p + 1) refl none nothing k (omega (arith, above)) below))

pub ends_back : (r : Run) (stops : StopList) (p : ℕ) → EndsBack r stops p
ends_back r stops p = ends_back_from r stops p p (omega arith) (λ k above below. absurd (omega (arith, above, below)))

pub back_none : (r : Run) (stops : StopList) (p : ℕ) → CameBackward r stops p p
back_none r stops p = (omega arith, λ k low high. absurd (omega (arith, low, high)))

pub back_joined : (r : Run) (stops : StopList) (p q m : ℕ) → CameBackward r stops p q → CameBackward r stops q m → CameBackward r stops p m
back_joined r stops p q m h g =
    let one = h.0 in
    let two = g.0 in
    (omega (arith, one, two), λ k low high. elim (cases_lt k q) [ inl lt ↦ g.1 k low lt | inr ge ↦ h.1 k ge high ])

-- a breakpoint where the second part of a move begins counts as one where the first does, since there is none
break_same : (r : Run) (stops : StopList) (p q k : ℕ) → CameBackward r stops p q → k ≤ q → cond (nat_lt k p) (broken r stops k) None ≡ cond (nat_lt k q) (broken r stops k) None
break_same r stops p q k h le =
    let order = h.0 in
    elim (cases_lt k q) [
      | inl lt ↦ ap (λ (b : Bool). cond b (broken r stops k) None) (lt-ltb k p (omega (arith, lt, order)) ∙ sym (lt-ltb k q lt))
      | inr ge ↦
          (let none : cond (nat_lt k q) (broken r stops k) None ≡ None = ap (λ (b : Bool). cond b (broken r stops k) None) (le-ltb k q ge) in
          elim (cases_lt k p) [
            | inl below ↦ ap (λ (b : Bool). cond b (broken r stops k) None) (lt-ltb k p below) ∙ (h.1 k ge below).0 ∙ sym none
            | inr above ↦ ap (λ (b : Bool). cond b (broken r stops k) None) (le-ltb k p above) ∙ sym none
          ])
    ]

behind_same : (r : Run) (stops : StopList) (p q k : ℕ) → CameBackward r stops p q → k ≤ q → behind r stops p k ≡ behind r stops q k
behind_same r stops p q zero h le = break_same r stops p q 0 h le
behind_same r stops p q (suc k) h le = ap (λ (o : Option Hit). option_or o (option_map Watch (watched r stops k))) (break_same r stops p q (suc k) h le)

-- nothing is hit on the way of the first part
none_at : (r : Run) (stops : StopList) (p q k : ℕ) → CameBackward r stops p q → q < k → cond (nat_lt k p) (broken r stops k) None ≡ None
none_at r stops p q k h lt = elim (cases_lt k p) [
  | inl below ↦ ap (λ (b : Bool). cond b (broken r stops k) None) (lt-ltb k p below) ∙ (h.1 k (omega (arith, lt)) below).0
  | inr above ↦ ap (λ (b : Bool). cond b (broken r stops k) None) (le-ltb k p above)
]

none_behind : (r : Run) (stops : StopList) (p q k : ℕ) → CameBackward r stops p q → q < k → k < p + 1 → behind r stops p k ≡ None
none_behind r stops p q zero h lt le = absurd (omega (arith, lt))
none_behind r stops p q (suc k) h lt le =
    let at : cond (nat_lt (suc k) p) (broken r stops (suc k)) None ≡ None = none_at r stops p q (suc k) h lt in
    let step : watched r stops k ≡ None = (h.1 k (omega (arith, lt)) (omega (arith, le))).1 in
    λ i. option_or (at i) (option_map Watch (step i))

nothing_behind : (r : Run) (stops : StopList) (p q low : ℕ) → CameBackward r stops p q → NothingHit (behind r stops q) low (q + 1) → NothingHit (behind r stops p) low (p + 1)
nothing_behind r stops p q low h nothing k above below = elim (cases_lt q k) [
  | inl lt ↦ none_behind r stops p q k h lt below
  | inr ge ↦ behind_same r stops p q k h ge ∙ nothing k above (omega (arith, ge))
]

-- a move that came back to q ends where one from there ends
pub back_then : (r : Run) (stops : StopList) (p q m : ℕ) (hit : Option Hit) → CameBackward r stops p q → EndsBackward r stops q m hit → EndsBackward r stops p m hit
back_then r stops p q m (Some hit) h ends =
    let one = h.0 in
    let two = ends.0 in
    (omega (arith, one, two), behind_same r stops p q m h two ∙ ends.1, nothing_behind r stops p q (m + 1) h ends.2)
back_then r stops p q m None h ends = (ends.0, nothing_behind r stops p q 0 h ends.1)

pub first_behind : (r : Run) (stops : StopList) → NothingHit (behind r stops 0) 0 1
first_behind r stops k low high = let same : 0 ≡ k = omega (arith, high) in subst (λ (i : ℕ). behind r stops 0 i ≡ None) same refl

-- one that came to the first place ends there
pub back_to_first : (r : Run) (stops : StopList) (p : ℕ) → CameBackward r stops p 0 → EndsBackward r stops p 0 None
back_to_first r stops p h = back_then r stops p 0 0 None h (refl, first_behind r stops)
