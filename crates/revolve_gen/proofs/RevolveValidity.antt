-- The written list leads from the start to the end.
use Rattle.std.proofs.Common.{◌≡◌, ℕ, zero, suc, ◌+◌, ◌-◌, ◌<◌, ◌≤◌, Bool, true, false, not, List, [], ◌∷◌, ◌++◌, length, map, None, Some, refl, sym, ◌∙◌, ap, subst, inl, inr, arith, true≢false}
use Rattle.std.specs.FinSet as set
use Rattle.std.specs.Ordering.{nat_cmp}
use Rattle.std.proofs.lemmas.List.{get_or-map, get_or_past, length-map}
use Rattle.std.proofs.lemmas.Bool.{cases_lt}
use Rattle.plan_types.specs.declared.action.Action.{Action}
use Rattle.plan_types.specs.declared.action.Action.TheVariants.{EndReverse}
use Rattle.level_book.specs.declared.book.Slots.{Slots}
use Rattle.level_book.specs.declared.book.Slots.TheVariants.{Count}
use Rattle.level_book.specs.Configuration.{Configuration}
use Rattle.level_book.specs.Valid.{Leads}
use Rattle.binomials.specs.Advances.{split}
use Rattle.binomials.specs.Laws.{IsStretch}
use Rattle.revolve_gen.specs.Places.{IsRoomy}
use Rattle.revolve_gen.specs.Laws.{RevolveIsValid}
use Rattle.revolve_gen.specs.RevolveList.{one_step, fresh, held}
use Rattle.revolve_gen.proofs.RevolveRules.{fresh_one, held_one, fresh_more, held_more, parts, split_of, one_or_more, has_slot, planned}
use Rattle.revolve_gen.proofs.HeldImages.{Images, on, stored, Holds, there, on_stored, released, holds_more, room_at}

-- a configuration with nothing on the tape, before the end
abbrev pub at : Images → ℕ → ℕ → Bool → Configuration
at h w r ended = record { work = w; held = h; tape = None; reverse = r; forward_ended = ended; ended = false }

pub leads_on : (steps : ℕ) (slots : List Slots) (c m d : Configuration) (xs ys : List Action) → Leads steps slots c xs m → Leads steps slots m ys d → Leads steps slots c (xs ++ ys) d
leads_on steps slots c m d [] ys h g =
    let P : Configuration → Type 0 = λ c. Leads steps slots c ys d in
    subst P h g
leads_on steps slots c m d (x ∷ xs) ys h g = (h.0, h.1, leads_on steps slots h.0 m d xs ys h.2 g)

-- one step is taped and reversed
step_leads : (steps : ℕ) (slots : List Slots) (h : Images) (first : Bool) (b r : ℕ) → r ≡ b + 1 → (first ≡ true → b + 1 ≡ steps) →
    Leads steps slots (at h b r (not first)) (one_step first b) (at h (b + 1) b true)
step_leads steps slots h true b r e last = (
  record (at h (b + 1) r false) { tape = Some b },
  (refl, record { here = refl; ahead = omega arith; within = omega arith }, refl, sym e, refl, refl),
  (
    record (at h (b + 1) r true) { tape = Some b },
    (refl, refl, last refl, refl),
    (at h (b + 1) b true, (refl, refl, refl, sym e, refl, refl), refl),
  ),
)
step_leads steps slots h false b r e last = (
  record (at h (b + 1) r true) { tape = Some b },
  (refl, record { here = refl; ahead = omega arith; within = omega arith }, refl, sym e, refl, refl),
  (at h (b + 1) b true, (refl, refl, refl, sym e, refl, refl), refl),
)

-- what is taken for granted of a stretch: where it stands, and what is held below it
pub record Stands (steps : ℕ) (slots : List Slots) (level : ℕ → ℕ) (room : ℕ) (h : Images) (b l c p : ℕ) : Type 0 where
  pub stretch : IsStretch l c
  pub places : p + c ≡ room
  pub holds : Holds slots level p h b

pub listed : (steps : ℕ) (slots : List Slots) (c d : Configuration) (xs ys : List Action) → xs ≡ ys → Leads steps slots c ys d → Leads steps slots c xs d
listed steps slots c d xs ys e h =
    let P : List Action → Type 0 = λ list. Leads steps slots c list d in
    subst P (sym e) h

module _ (steps : ℕ) (slots : List Slots) (level : ℕ → ℕ) (room : ℕ) (roomy : IsRoomy slots level room) where
  -- what the two rules do with a stretch of l steps
  pub record StretchLeads (more l : ℕ) : Type 0 where
    pub anew : (h : Images) (first : Bool) (b r c p : ℕ) → Stands steps slots level room h b l c p → r ≡ b + l → (first ≡ true → r ≡ steps) →
        Leads steps slots (at h b r (not first)) (fresh more level first b l c p) (at h (b + 1) b true)
    pub again : (h : Images) (w b r c p : ℕ) → Stands steps slots level room h b l c p → p < room → r ≡ b + l →
        Leads steps slots (at (stored h b (level p)) w r true) (held more level b l c p) (at h (b + 1) b true)

  parts_lead : (more : ℕ) (h : Images) (first : Bool) (b l r c p : ℕ) → Stands steps slots level room h b l c p → 2 ≤ l → p < room → r ≡ b + l → (first ≡ true → r ≡ steps) →
      StretchLeads more (l - split l c) → StretchLeads more (split l c) →
      Leads steps slots (at (stored h b (level p)) (b + split l c) r (not first)) (parts more level first b l c p) (at h (b + 1) b true)
  parts_lead more h first b l r c p s two within e last rest begin =
      let j = split l c in
      let is = split_of l c s.stretch two in
      let some = is.before.some in
      let shorter = is.shorter in
      leads_on steps slots (at (stored h b (level p)) (b + j) r (not first)) (at (stored h b (level p)) (b + j + 1) (b + j) true) (at h (b + 1) b true)
      (fresh more level first (b + j) (l - j) (c - 1) (p + 1)) (held more level b j c p)
      (rest.anew (stored h b (level p)) first (b + j) r (c - 1) (p + 1)
      (record { stretch = is.after; places = omega (arith, s.places); holds = holds_more slots level p h b (b + j) s.holds (roomy.known p within) (omega arith) })
      (omega arith) last)
      (begin.again h (b + j + 1) b (b + j) c p (record { stretch = is.before; places = s.places; holds = s.holds }) within refl)

  pub both : (more l : ℕ) → l ≤ more → 1 ≤ l → StretchLeads more l
  both zero l le some = absurd (omega arith)
  both (suc more) l le some = elim (one_or_more l some) [
    | inl one ↦ record {
      anew = λ h first b r c p s e last.
          listed steps slots (at h b r (not first)) (at h (b + 1) b true) _ _ (fresh_one (suc more) level first b l c p one)
          (step_leads steps slots h first b r (omega arith) (λ f. omega (arith, last f)));
      again = λ h w b r c p s within e.
          let k = level p in
          let known = roomy.known p within in
          let inside : k < length h = omega (arith, s.holds.count) in
          let new = s.holds.none k b (omega arith) in
          listed steps slots (at (stored h b k) w r true) (at h (b + 1) b true) _ _ (held_one (suc more) level b l c p one) (
            at h b r true,
            (refl, record { level = known; there = ap (λ s. set.contains s b) (on_stored h b k inside) ∙ there (on h k) b }, ap (λ (held : Images). at held b r true) (sym (released h b k inside new))),
            step_leads steps slots h false b r (omega arith) (λ f. absurd (true≢false (sym f))),
          );
    }
    | inr two ↦
        let rest = λ (c : ℕ) (s : IsStretch l c). let is = split_of l c s two in both more (l - split l c) (omega (arith, is.before.some)) is.after.some in
        let begin = λ (c : ℕ) (s : IsStretch l c). let is = split_of l c s two in both more (split l c) (omega (arith, is.shorter)) is.before.some in
        record {
          anew = λ h first b r c p s e last.
              let k = level p in
              let j = split l c in
              let is = split_of l c s.stretch two in
              let some = is.before.some in
              let shorter = is.shorter in
              let within : p < room = omega (arith, s.places, has_slot l c s.stretch two) in
              let known = roomy.known p within in
              listed steps slots (at h b r (not first)) (at h (b + 1) b true) _ _ (fresh_more more level first b l c p two) (
                at (stored h b k) (b + j) r (not first),
                (refl, record { here = refl; ahead = omega arith; within = omega arith }, record { level = known; room = room_at slots level room p h b roomy within s.holds; new = s.holds.none k b (omega arith) }, refl),
                parts_lead more h first b l r c p s two within e last (rest c s.stretch) (begin c s.stretch),
              );
          again = λ h w b r c p s within e.
              let k = level p in
              let j = split l c in
              let is = split_of l c s.stretch two in
              let some = is.before.some in
              let shorter = is.shorter in
              let known = roomy.known p within in
              let inside : k < length h = omega (arith, s.holds.count) in
              listed steps slots (at (stored h b k) w r true) (at h (b + 1) b true) _ _ (held_more more level b l c p two) (
                at (stored h b k) b r true,
                (refl, record { level = known; there = ap (λ s. set.contains s b) (on_stored h b k inside) ∙ there (on h k) b }, refl),
                (
                  at (stored h b k) (b + j) r true,
                  (refl, record { here = refl; ahead = omega arith; within = omega arith }, refl),
                  parts_lead more h false b l r c p s two within e (λ f. absurd (true≢false (sym f))) (rest c s.stretch) (begin c s.stretch),
                ),
              );
        }
  ]

-- nothing is held at the start
pub none_held : (slots : List Slots) (level : ℕ → ℕ) → Holds slots level 0 (map (λ _. set.empty) slots) 0
none_held slots level =
    let h : Images = map (λ _. set.empty) slots in
    let each : (k : ℕ) → on h k ≡ set.empty = λ k. elim (cases_lt k (length slots)) [
      | inl within ↦ get_or-map (λ (_ : Slots). set.empty {R = nat_cmp}) slots k (Count 0) set.empty within
      | inr past ↦ get_or_past h k set.empty (omega (arith, length-map slots (λ (_ : Slots). set.empty {R = nat_cmp})))
    ] in
    record {
      count = length-map slots (λ (_ : Slots). set.empty {R = nat_cmp});
      few = λ k. omega (arith, ap set.len (each k), set.len-empty nat_cmp);
      none = λ k n past. ap (λ s. set.contains s n) (each k) ∙ set.contains-empty nat_cmp n;
    }

pub revolve_valid : (steps : ℕ) (slots : List Slots) → RevolveIsValid steps slots
revolve_valid zero slots level c roomy plan =
    let h : Images = map (λ _. set.empty) slots in
    (record (at h 0 0 true) { ended = true }, (at h 0 0 true, (refl, refl, refl, refl), (record (at h 0 0 true) { ended = true }, (refl, refl, refl, refl), refl)), refl)
revolve_valid (suc n) slots level c roomy plan =
    let h : Images = map (λ _. set.empty) slots in
    let is = planned (suc n) c plan (omega arith) in
    let leads = (both (suc n) slots level c roomy (suc n) (suc n) (omega arith) (omega arith)).anew h true 0 (suc n) c 0
    (record { stretch = is; places = omega arith; holds = none_held slots level }) (omega arith) (λ _. refl) in
    let last = at h (0 + 1) 0 true in (
      record last { ended = true },
      leads_on (suc n) slots (at h 0 (suc n) false) last (record last { ended = true }) (fresh (suc n) level true 0 (suc n) c 0) (EndReverse ∷ []) leads
          (record last { ended = true }, (refl, refl, refl, refl), refl),
      refl,
    )
