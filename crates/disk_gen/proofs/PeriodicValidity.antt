-- The periodic list leads from the start to the end.
use Rattle.std.proofs.Common.{◌≡◌, ℕ, zero, suc, ◌+◌, ◌-◌, ◌*◌, ◌<◌, ◌≤◌, Bool, true, false, not, cond, nat_le, List, [], ◌∷◌, ◌++◌, length, get_or, map, refl, sym, ◌∙◌, ap, subst, arith, true≢false}
use Rattle.std.specs.FinSet as set
use Rattle.std.proofs.lemmas.List.{length-map}
use Rattle.plan_types.specs.declared.action.Keep.TheVariants.{Nothing, Store}
use Rattle.plan_types.specs.declared.action.Dest.TheVariants.{Work}
use Rattle.plan_types.specs.declared.action.Action.TheVariants.{Forward, Copy, Move, EndReverse}
use Rattle.level_book.specs.declared.book.Level.{Level}
use Rattle.level_book.specs.declared.book.Slots.{Slots}
use Rattle.level_book.specs.declared.book.Slots.TheVariants.{Count}
use Rattle.level_book.specs.BookCosts.{BookCosts, slots_of, room}
use Rattle.level_book.specs.Configuration.{Configuration}
use Rattle.level_book.specs.Valid.{Leads}
use Rattle.binomials.specs.Advances.{split}
use Rattle.binomials.specs.Laws.{IsStretch}
use Rattle.revolve_gen.specs.RevolveList.{one_step, fresh, held}
use Rattle.revolve_gen.proofs.RevolveRules.{planned}
use Rattle.revolve_gen.proofs.HeldImages.{Images, on, stored, there, on_stored, released, room_at}
use Rattle.revolve_gen.proofs.RevolveValidity.{at, leads_on, listed, both}
use Rattle.disk_gen.specs.PeriodicList.{images, last_steps, ahead, back}
use Rattle.disk_gen.specs.Plans.{HasSlots}
use Rattle.disk_gen.specs.Laws.{PeriodicIsValid}
use Rattle.disk_gen.proofs.StretchCounts.{images_fit, last_some, last_planned, each_planned}
use Rattle.disk_gen.proofs.HeldImages.{level_to, from_i, kept, kept_slow, kept_holds, room_slots, fewer_slots, slow_roomy, roomy}

-- a stretch is the same where the levels of its places are
record SameWritten (more : ℕ) (level other : ℕ → ℕ) (p q : ℕ) : Type 0 where
  of_fresh : (first : Bool) (b l c : ℕ) → fresh more level first b l c p ≡ fresh more other first b l c q
  of_held : (b l c : ℕ) → held more level b l c p ≡ held more other b l c q

top_same : (level other : ℕ → ℕ) (p q : ℕ) → ((i : ℕ) → level (p + i) ≡ other (q + i)) → level p ≡ other q
top_same level other p q e =
    let here : p ≡ p + 0 = omega arith in
    let there : q + 0 ≡ q = omega arith in
    ap level here ∙ e 0 ∙ ap other there

next_same : (level other : ℕ → ℕ) (p q : ℕ) → ((i : ℕ) → level (p + i) ≡ other (q + i)) → (i : ℕ) → level (p + 1 + i) ≡ other (q + 1 + i)
next_same level other p q e i =
    let here : p + 1 + i ≡ p + suc i = omega arith in
    let there : q + suc i ≡ q + 1 + i = omega arith in
    ap level here ∙ e (suc i) ∙ ap other there

same_written : (more : ℕ) (level other : ℕ → ℕ) (p q : ℕ) → ((i : ℕ) → level (p + i) ≡ other (q + i)) → SameWritten more level other p q
unfolding fresh held
same_written zero level other p q e =
    let at_top = top_same level other p q e in
    record {
      of_fresh = λ first b l c. refl;
      of_held = λ b l c. ap (λ k. Move b k Work ∷ one_step false b) at_top;
    }
same_written (suc more) level other p q e =
    let at_top = top_same level other p q e in
    let same = same_written more level other p q e in
    let next = same_written more level other (p + 1) (q + 1) (next_same level other p q e) in
    let parts = λ (first : Bool) (b l c : ℕ).
    let j = split l c in
    let both_parts : fresh more level first (b + j) (l - j) (c - 1) (p + 1) ++ held more level b j c p ≡ fresh more other first (b + j) (l - j) (c - 1) (q + 1) ++ held more other b j c q =
    ap (λ t. t ++ held more level b j c p) (next.of_fresh first (b + j) (l - j) (c - 1)) ∙ ap (λ t. fresh more other first (b + j) (l - j) (c - 1) (q + 1) ++ t) (same.of_held b j c) in
    both_parts in
    record {
      of_fresh = λ first b l c.
          ap (λ k. cond (nat_le l 1) (one_step first b) (Forward b (b + split l c) (Store k) ∷ (fresh more level first (b + split l c) (l - split l c) (c - 1) (p + 1) ++ held more level b (split l c) c p))) at_top
          ∙ ap (λ t. cond (nat_le l 1) (one_step first b) (Forward b (b + split l c) (Store (other q)) ∷ t)) (parts first b l c);
      of_held = λ b l c.
          ap (λ k. cond (nat_le l 1) (Move b k Work ∷ one_step false b) (Copy b k Work ∷ Forward b (b + split l c) Nothing ∷ (fresh more level false (b + split l c) (l - split l c) (c - 1) (p + 1) ++ held more level b (split l c) c p))) at_top
          ∙ ap (λ t. cond (nat_le l 1) (Move b (other q) Work ∷ one_step false b) (Copy b (other q) Work ∷ Forward b (b + split l c) Nothing ∷ t)) (parts false b l c);
    }

-- with the images of the first i stretches, and the state of the next in work
abbrev pub ready : List Slots → ℕ → ℕ → ℕ → Bool → Configuration
ready slots period i r ended = at (kept slots period i) (i * period) r ended

module _ (steps period : ℕ) (slots : List Slots) (two : length slots ≡ 2) (some : 1 ≤ period) where
  -- the way over stretches to that with number m
  ahead_leads : (i n m : ℕ) → i + n ≡ m → HasSlots (get_or slots 1 (Count 0)) m → m * period ≤ steps → Leads steps slots (ready slots period i steps false) (ahead period i n) (ready slots period m steps false)
  ahead_leads i zero m e slow within =
      let same : m ≡ i = omega arith in
      ap (λ m. ready slots period m steps false) same
  ahead_leads i (suc n) m e slow within =
      let h = kept slots period i in
      let b = i * period in
      let slow_room = slow_roomy slots m two slow in
      let holds = kept_slow slots period i two some in
      let near : suc i * period ≡ b + period = omega arith in
      let product = before_end i n m e in
      let P : ℕ → Type 0 = λ w. Leads steps slots (at (kept slots period (suc i)) w steps false) (ahead period (suc i) n) (ready slots period m steps false) in (
        at (stored h b 1) (b + period) steps false,
        (refl, record { here = refl; ahead = omega arith; within = omega arith }, record { level = omega arith; room = room_at slots (λ _. 1) m i h b slow_room (omega arith) holds; new = holds.none 1 b (omega arith) }, refl),
        subst P near (ahead_leads (suc i) n m (omega arith) slow within),
      )
    where
      before_end : (i n m : ℕ) → i + suc n ≡ m → i * period + period ≤ m * period
      before_end i n m e =
          let same = ap (λ m. m * period) (sym e) in
          omega arith

  -- a stretch behind the images of the first i
  stretch_leads : (i l c r : ℕ) (first : Bool) → HasSlots (get_or slots 1 (Count 0)) i → HasSlots (get_or slots 0 (Count 0)) c → IsStretch l c → r ≡ i * period + l → (first ≡ true → r ≡ steps) →
      Leads steps slots (ready slots period i r (not first)) (fresh l (λ _. 0) first (i * period) l c 0) (at (kept slots period i) (i * period + 1) (i * period) true)
  stretch_leads i l c r first slow fast is e last =
      let h = kept slots period i in
      let b = i * period in
      let same = same_written l (λ _. 0) (level_to i) 0 i (λ d. sym (from_i i (i + d) (omega arith))) in
      listed steps slots (at h b r (not first)) (at h (b + 1) b true) _ _ (same.of_fresh first b l c)
      ((both steps slots (level_to i) (i + c) (roomy slots i c two slow fast) l l (omega arith) is.some).anew h first b r c i
      (record { stretch = is; places = refl; holds = kept_holds slots period i two some }) e last)

  -- the way back over the first i stretches, wherever work is
  back_leads : (i w c : ℕ) → HasSlots (get_or slots 1 (Count 0)) i → HasSlots (get_or slots 0 (Count 0)) c → (1 ≤ i → IsStretch period c) →
      (last : ℕ) × Leads steps slots (at (kept slots period i) w (i * period) true) (back period c i) (at (kept slots period 0) last 0 true)
  back_leads zero w c slow fast plan =
      let none : 0 ≡ 0 * period = omega arith in
      (w, ap (λ r. at (kept slots period 0) w r true) none)
  back_leads (suc i) w c slow fast plan =
      let h = kept slots period i in
      let b = i * period in
      let r = suc i * period in
      let fewer = fewer_slots (get_or slots 1 (Count 0)) (suc i) i slow (omega arith) in
      let holds = kept_slow slots period i two some in
      let inside : 1 < length h = omega (arith, holds.count) in
      let new = holds.none 1 b (omega arith) in
      let rest = back_leads i (b + 1) c fewer fast (λ _. plan (omega arith)) in (
        rest.0,
        (
          at h b r true,
          (refl, record { level = omega arith; there = ap (λ s. set.contains s b) (on_stored h b 1 inside) ∙ there (on h 1) b }, ap (λ (held : Images). at held b r true) (sym (released h b 1 inside new))),
          leads_on steps slots (at h b r true) (at h (b + 1) b true) (at (kept slots period 0) rest.0 0 true) (fresh period (λ _. 0) false b period c 0) (back period c i)
              (stretch_leads i period c r false fewer fast (plan (omega arith)) (omega arith) (λ f. absurd (true≢false (sym f)))) rest.1,
        ),
      )

pub periodic_valid : (steps period : ℕ) (book : BookCosts) → PeriodicIsValid steps period book
periodic_valid zero period book some plan =
    let h : Images = map (λ _. set.empty) (slots_of book) in
    (record (at h 0 0 true) { ended = true }, (at h 0 0 true, (refl, refl, refl, refl), (record (at h 0 0 true) { ended = true }, (refl, refl, refl, refl), refl)), refl)
periodic_valid (suc m) period book some plan =
    let steps = suc m in
    let slots = slots_of book in
    let c = room book 0 steps in
    let n = images steps period in
    let l = last_steps steps period in
    let fit = images_fit steps period (omega arith) some in
    let below = fit.0 in
    let two : length slots ≡ 2 = length-map book.levels (λ (level : Level). level.slots) ∙ plan.two in
    let fast : HasSlots (get_or slots 0 (Count 0)) c = room_slots (get_or slots 0 (Count 0)) steps in
    let is : IsStretch l c = planned l c (last_planned steps period book some plan) (last_some steps period (omega arith) some) in
    let each : 1 ≤ n → IsStretch period c = λ h. planned period c (each_planned steps period book some plan h) some in
    let over = back_leads steps period slots two some n (n * period + 1) c plan.slow fast each in
    let end = at (kept slots period 0) over.0 0 true in
    let after = record end { ended = true } in
    let none : 0 * period ≡ 0 = omega arith in
    let begin : ready slots period 0 steps false ≡ at (kept slots period 0) 0 steps false = ap (λ w. at (kept slots period 0) w steps false) none in
    let rest : l ≡ steps - n * period = refl in
    let P : Configuration → Type 0 = λ c. Leads steps slots c (ahead period 0 n) (ready slots period n steps false) in (
      after,
      leads_on steps slots (at (kept slots period 0) 0 steps false) (ready slots period n steps false) after (ahead period 0 n) _
          (subst P begin (ahead_leads steps period slots two some 0 n n (omega arith) plan.slow (omega arith)))
          (leads_on steps slots (ready slots period n steps false) (at (kept slots period n) (n * period + 1) (n * period) true) after (fresh l (λ _. 0) true (n * period) l c 0) _
          (stretch_leads steps period slots two some n l c steps true plan.slow fast is (omega arith) (λ _. refl))
          (leads_on steps slots (at (kept slots period n) (n * period + 1) (n * period) true) end after (back period c n) (EndReverse ∷ []) over.1
          (after, (refl, refl, refl, refl), refl))),
      refl,
    )
