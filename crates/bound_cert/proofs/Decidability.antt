-- The certificate of a valid list is accepted, or it isn't for a first reason; and a planned list has a threshold.
use Rattle.std.proofs.Common.{◌≡◌, ◌==◌, ◌⊎◌, ℕ, zero, suc, ◌+◌, ◌-◌, ◌*◌, ◌^◌, ◌<◌, ◌≤◌, List, [], ◌∷◌, map, length, get_or, refl, sym, ◌∙◌, ap, subst, inl, inr, arith}
use Rattle.std.proofs.Math.Nat.{mul-le-mul}
use Rattle.std.specs.List.{AllByRecursion, range_with_len}
use Rattle.std.proofs.lemmas.Bool.{cases_eq, cases_lt}
use Rattle.std.proofs.lemmas.List.FromFn.{length-map-range_with_len, get_or-map-range_with_len}
use Rattle.std.proofs.lemmas.List.Sums.{count_by-le-length}
use Rattle.plan_types.specs.declared.action.Action.{Action}
use Rattle.binomials.specs.Binomials.{beta_before}
use Rattle.level_book.specs.declared.book.Level.{Level}
use Rattle.level_book.specs.BookCosts.{BookCosts, slots_of, room, total_room, IsWithinLimits, IsLevelWithinLimits}
use Rattle.level_book.specs.CostFold.{forward, cost}
use Rattle.level_book.specs.UnderTable.{top_entry, number}
use Rattle.level_book.specs.DiskUnderTable.{disk_top_entry}
use Rattle.level_book.specs.Valid.{Valid}
use Rattle.cost_tables.specs.TableRows.{TableRows, AreFor, fastest, tables_in}
use Rattle.hrevolve_gen.proofs.ListExistence.{same_or_other}
use Rattle.disk_gen.specs.DiskRows.{DiskRows, disk_tables_in}
use Rattle.revolve_gen.specs.Places.{places_on}
use Rattle.revolve_gen.specs.Stack.{places_used, times, written, read}
use Rattle.revolve_gen.specs.Multistage.{saving}
use Rattle.multistage_gen.specs.MultistageList.{IsMultistageList}
use Rattle.multistage_gen.specs.Threshold.{AreSavings}
use Rattle.multistage_gen.proofs.ClassMembership.{planned_in_class, revolve_short}
use Rattle.multistage_gen.proofs.Savings.{written_few, read_few}
use Rattle.class_rules.proofs.Decidability.{nested_or_not, disk_or_not}
use Rattle.class_rules.proofs.MultistageMembership.{levels_or_not, has_place_levels}
use Rattle.table_clauses.specs.declared.entry.Entry.{Entry as Place}
use Rattle.table_clauses.proofs.Decidability.{under_or_first, disk_under_or_first}
use Rattle.cert_text.specs.declared.certificate.Certificate.{Certificate}
use Rattle.cert_text.specs.declared.certificate.Certificate.TheVariants.{Revolve, Places, Nested, Disk}
use Rattle.bound_cert.specs.declared.verdict.Reason.{Reason}
use Rattle.bound_cert.specs.declared.verdict.Reason.TheVariants.{WrongShape, OutsideClass, Inequality, ValueDiffers}
use Rattle.bound_cert.specs.Acceptance.{IsAccepted, IsFirstReason}
use Rattle.bound_cert.specs.Laws.{AcceptedOrRefused, PlanHasThreshold}
use Rattle.bound_cert.specs.TableTests.{entry_value, AreSized, AreSizedDisk}
use Rattle.bound_cert.specs.Thresholds.{AreOn, Misfits, StandsBefore, IsThresholdOf}
use Rattle.bound_cert.proofs.ThresholdFit.{two_levels, below_first, above_first, short_first, none_misfit, fitting}

-- ---- what is so or isn't

abbrev IsKnown : Type 0 → Type 0
IsKnown P = P ⊎ (P → ⊥)

at_most : (m n : ℕ) → IsKnown (m ≤ n)
at_most m n = elim (cases_lt n m) [ inl more ↦ inr (λ h. absurd (omega (arith, more, h))) | inr le ↦ inl le ]

-- something holds of all numbers below n, or it doesn't
all_known : (P : ℕ → Type 0) → ((i : ℕ) → IsKnown (P i)) → (n : ℕ) → IsKnown ((i : ℕ) → i < n → P i)
all_known P known zero = inl (λ i low. absurd (omega (arith, low)))
all_known P known (suc n) = elim (all_known P known n) [
  | inr other ↦ inr (λ all. other (λ i low. all i (omega (arith, low))))
  | inl before ↦ elim (known n) [
    | inr other ↦ inr (λ all. other (all n (omega arith)))
    | inl here ↦ inl (λ i low. elim (cases_lt i n) [
      | inl lt ↦ before i lt
      | inr ge ↦ let e : n ≡ i = omega (arith, ge, low) in subst P e here
    ])
  ]
]

-- the first number of those below n of which two things hold, or there is none
first_or_none : (P Q : ℕ → Type 0) → ((i : ℕ) → IsKnown (P i)) → ((i : ℕ) → IsKnown (Q i)) → (n : ℕ) →
    ((i : ℕ) × (i < n) × P i × Q i × ((k : ℕ) → k < i → P k → Q k → ⊥)) ⊎ ((i : ℕ) → i < n → P i → Q i → ⊥)
first_or_none P Q p q zero = inr (λ i low. absurd (omega (arith, low)))
first_or_none P Q p q (suc n) =
    let last : (P n → Q n → ⊥) → ((i : ℕ) → i < n → P i → Q i → ⊥) → (i : ℕ) → i < suc n → P i → Q i → ⊥ = λ other none i low. elim (cases_lt i n) [
      | inl lt ↦ none i lt
      | inr ge ↦ let e : n ≡ i = omega (arith, ge, low) in let R : ℕ → Type 0 = λ k. P k → Q k → ⊥ in subst R e other
    ] in
    elim (first_or_none P Q p q n) [
      | inl found ↦ inl (found.0, omega (arith, found.1), found.2, found.3, found.4)
      | inr none ↦ elim (p n) [
        | inr other ↦ inr (last (λ x y. other x) none)
        | inl first ↦ elim (q n) [
          | inr other ↦ inr (last (λ x y. other y) none)
          | inl second ↦ inl (n, omega arith, first, second, none)
        ]
      ]
    ]

-- ---- thresholds

module _ (steps : ℕ) (book : BookCosts) (list : List Action) (fast slow : Level) where
  savings_of : (savings : List ℕ) × AreSavings list fast slow savings
  savings_of =
      let n = places_used list in (
        map (saving list fast slow) (range_with_len 0 n),
        record {
          count = length-map-range_with_len (saving list fast slow) 0 n;
          each = λ p low. get_or-map-range_with_len (saving list fast slow) 0 n p p 0 low (omega arith);
        },
      )

  -- the first place at which a threshold doesn't fit, or there is none
  misfit_or_none : (threshold : ℕ) (levels : List ℕ) → AreOn steps book list fast slow levels →
      ((e : Place) → Misfits threshold steps book list fast slow levels e → ⊥)
      ⊎ ((e : Place) × Misfits threshold steps book list fast slow levels e × ((other : Place) → StandsBefore other e → Misfits threshold steps book list fast slow levels other → ⊥))
  misfit_or_none threshold levels on =
      let s = savings_of in
      let savings = s.0 in
      elim (first_or_none (λ p. get_or levels p 0 ≡ 0) (λ p. get_or savings p 0 < threshold) (λ p. cases_eq (get_or levels p 0) 0) (λ p. at_most (suc (get_or savings p 0)) threshold) (length levels)) [
        | inl low ↦
            let p = low.0 in
            let e : Place = record { table = 4; level = 0; free = p; steps = 0; clause = 21 } in
            let first = below_first threshold steps book list fast slow levels savings on s.1 p e refl (record { within = low.1; on = low.2; holds = low.3; none_before = low.4 }) in
            inr (e, first.0, first.1)
        | inr none_low ↦ elim (first_or_none (λ p. get_or levels p 0 ≡ 1) (λ p. threshold < get_or savings p 0) (λ p. cases_eq (get_or levels p 0) 1) (λ p. at_most (suc threshold) (get_or savings p 0)) (length levels)) [
          | inl high ↦
              let p = high.0 in
              let e : Place = record { table = 4; level = 1; free = p; steps = 0; clause = 22 } in
              let first = above_first threshold steps book list fast slow levels savings on s.1 p e refl none_low (record { within = high.1; on = high.2; holds = high.3; none_before = high.4 }) in
              inr (e, first.0, first.1)
          | inr none_high ↦ elim (cases_eq threshold 0) [
            | inl none ↦ inl (none_misfit threshold steps book list fast slow levels savings on s.1 none_low none_high (inl none))
            | inr some ↦ elim (cases_lt (places_on (λ p. get_or levels p 0) 0 (length levels)) (room book 0 steps)) [
              | inr all ↦ inl (none_misfit threshold steps book list fast slow levels savings on s.1 none_low none_high (inr all))
              | inl short ↦
                  let e : Place = record { table = 4; level = 0; free = 0; steps = 0; clause = 23 } in
                  let first = short_first threshold steps book list fast slow levels savings on s.1 e refl none_low none_high some short in
                  inr (e, first.0, first.1)
            ]
          ]
        ]
      ]

places_decided : (list : List Action) (steps : ℕ) (book : BookCosts) (threshold : ℕ) → Valid steps (slots_of book) list → IsAccepted list steps book (Places threshold) ⊎ ((reason : Reason) × IsFirstReason list steps book (Places threshold) reason)
places_decided list steps book threshold valid = elim (levels_or_not steps book list) [
  | inr other ↦ inr (OutsideClass, (valid, other))
  | inl found ↦
      let levels = found.0 in
      let two = two_levels book.levels found.1.two in
      let on : AreOn steps book list two.0 two.1 levels = record { two = two.2; has = found.1 } in
      elim (misfit_or_none steps book list two.0 two.1 threshold levels on) [
        | inl none ↦ inl (valid, fitting threshold steps book list two.0 two.1 levels on none)
        | inr first ↦ inr (Inequality first.0, (valid, record { fast = two.0; slow = two.1; levels = levels; are_on = on; misfits = first.1; none_before = first.2 }))
      ]
]

-- ---- numbers

value_decided : (list : List Action) (steps : ℕ) (book : BookCosts) (k value : ℕ) → Valid steps (slots_of book) list → IsAccepted list steps book (Revolve k value) ⊎ ((reason : Reason) × IsFirstReason list steps book (Revolve k value) reason)
value_decided list steps book k value valid = elim (cases_eq (forward list) value) [
  | inr other ↦ inr (ValueDiffers (forward list) value, (valid, refl, inl (other, refl)))
  | inl same ↦
      let all = steps + k * steps in
      let less = beta_before (total_room book steps + 1) k in
      elim (cases_eq (value + less) all) [
        | inl is ↦ inl (valid, same, is)
        | inr other ↦ elim (cases_lt all less) [
          | inl more ↦ inr (ValueDiffers (forward list) 0, (valid, refl, inr (same, other, inr (more, refl))))
          | inr most ↦ inr (ValueDiffers (forward list) (all - less), (valid, refl, inr (same, other, inl (omega (arith, most)))))
        ]
      ]
]

-- ---- tables

are_for : (steps : ℕ) (book : BookCosts) (t : TableRows) → IsKnown (AreFor steps book t)
are_for steps book t = elim (cases_eq t.steps steps) [
  | inr other ↦ inr (λ are. other are.steps_are)
  | inl same ↦ elim (cases_eq (length t.rooms) (length book.levels)) [
    | inr other ↦ inr (λ are. other are.level_count)
    | inl count ↦ elim (all_known (λ k. get_or t.rooms k 0 ≡ room book k steps) (λ k. cases_eq (get_or t.rooms k 0) (room book k steps)) (length book.levels)) [
      | inr other ↦ inr (λ are. other are.rooms_are)
      | inl rooms ↦ inl (record { steps_are = same; level_count = count; rooms_are = rooms })
    ]
  ]
]

sized_or_not : (steps : ℕ) (book : BookCosts) (t : TableRows) → IsKnown (AreSized steps book t)
sized_or_not steps book t = elim (at_most steps 2048) [
  | inr other ↦ inr (λ sized. other sized.0.few)
  | inl few ↦ elim (all_known (λ k. room book k steps ≤ 64) (λ k. at_most (room book k steps) 64) (length book.levels)) [
    | inr other ↦ inr (λ sized. other sized.0.narrow)
    | inl narrow ↦ elim (are_for steps book t) [
      | inr other ↦ inr (λ sized. other sized.1)
      | inl are ↦ inl (record { few = few; narrow = narrow }, are)
    ]
  ]
]

sized_disk_or_not : (steps : ℕ) (book : BookCosts) (t : DiskRows) → IsKnown (AreSizedDisk steps book t)
sized_disk_or_not steps book t = elim (at_most steps 8192) [
  | inr other ↦ inr (λ sized. other sized.0.few)
  | inl few ↦ elim (at_most (room book 0 steps) 64) [
    | inr other ↦ inr (λ sized. other sized.0.narrow)
    | inl narrow ↦ elim (are_for steps (fastest book) t.fast) [
      | inr other ↦ inr (λ sized. other sized.1)
      | inl are ↦ inl (record { few = few; narrow = narrow }, are)
    ]
  ]
]

nested_decided : (list : List Action) (steps : ℕ) (book : BookCosts) (t : TableRows) → Valid steps (slots_of book) list → IsAccepted list steps book (Nested t) ⊎ ((reason : Reason) × IsFirstReason list steps book (Nested t) reason)
nested_decided list steps book t valid =
    let top = top_entry steps book (tables_in t) in
    elim (sized_or_not steps book t) [
      | inr other ↦ inr (WrongShape, (valid, other))
      | inl sized ↦ elim (nested_or_not steps (slots_of book) list valid) [
        | inr other ↦ inr (OutsideClass, (valid, sized, other))
        | inl member ↦ elim (under_or_first steps book (tables_in t)) [
          | inr first ↦ inr (Inequality first.0, (valid, sized, member, first.1))
          | inl under ↦ elim (same_or_other top (number (cost list book))) [
            | inl same ↦ inl (valid, sized, member, under, same)
            | inr other ↦ inr (ValueDiffers (cost list book) (entry_value top), (valid, sized, member, under, other, refl, refl))
          ]
        ]
      ]
    ]

disk_decided : (list : List Action) (steps : ℕ) (book : BookCosts) (t : DiskRows) → Valid steps (slots_of book) list → IsAccepted list steps book (Disk t) ⊎ ((reason : Reason) × IsFirstReason list steps book (Disk t) reason)
disk_decided list steps book t valid =
    let top = disk_top_entry steps (disk_tables_in t) in
    elim (sized_disk_or_not steps book t) [
      | inr other ↦ inr (WrongShape, (valid, other))
      | inl sized ↦ elim (disk_or_not steps (slots_of book) list valid) [
        | inr other ↦ inr (OutsideClass, (valid, sized, other))
        | inl member ↦ elim (disk_under_or_first steps book (disk_tables_in t)) [
          | inr first ↦ inr (Inequality first.0, (valid, sized, member, first.1))
          | inl under ↦ elim (same_or_other top (number (cost list book))) [
            | inl same ↦ inl (valid, sized, member, under, same)
            | inr other ↦ inr (ValueDiffers (cost list book) (entry_value top), (valid, sized, member, under, other, refl, refl))
          ]
        ]
      ]
    ]

-- ---- all certificates

pub accepted_or_refused : (list : List Action) (steps : ℕ) (book : BookCosts) (certificate : Certificate) → AcceptedOrRefused list steps book certificate
accepted_or_refused list steps book (Revolve k value) valid = value_decided list steps book k value valid
accepted_or_refused list steps book (Places threshold) valid = places_decided list steps book threshold valid
accepted_or_refused list steps book (Nested t) valid = nested_decided list steps book t valid
accepted_or_refused list steps book (Disk t) valid = disk_decided list steps book t valid

-- ---- the threshold of a planned list

-- the most that a place on level 1 comes to, and 0 where none is there
most_on : (f level : ℕ → ℕ) (n : ℕ) → (t : ℕ) × ((p : ℕ) → p < n → level p ≡ 1 → f p ≤ t) × ((t ≡ 0) ⊎ ((p : ℕ) × (p < n) × (level p ≡ 1) × (f p ≡ t)))
most_on f level zero = (0, (λ p low. absurd (omega (arith, low))), inl refl)
most_on f level (suc n) =
    let before = most_on f level n in
    let t = before.0 in
    let taken : (t ≡ 0) ⊎ ((p : ℕ) × (p < suc n) × (level p ≡ 1) × (f p ≡ t)) = elim before.2 [
      | inl none ↦ inl none
      | inr some ↦ inr (some.0, omega (arith, some.1), some.2, some.3)
    ] in
    elim (cases_eq (level n) 1) [
      | inr off ↦ (t, (λ p low on. elim (cases_lt p n) [ inl lt ↦ before.1 p lt on | inr ge ↦ let e : p ≡ n = omega (arith, ge, low) in absurd (off (ap level (sym e) ∙ on)) ]), taken)
      | inl here ↦ elim (cases_lt t (f n)) [
        | inl more ↦ (
          f n,
          (λ p low on. elim (cases_lt p n) [
            | inl lt ↦ (let few = before.1 p lt on in omega (arith, few, more))
            | inr ge ↦ (let e : f p ≡ f n = ap f (omega (arith, ge, low)) in omega (arith, e))
          ]),
          inr (n, omega arith, here, refl),
        )
        | inr enough ↦ (
          t,
          (λ p low on. elim (cases_lt p n) [
            | inl lt ↦ before.1 p lt on
            | inr ge ↦ (let e : f p ≡ f n = ap f (omega (arith, ge, low)) in omega (arith, e, enough))
          ]),
          taken,
        )
      ]
    ]

pub threshold_exists : (steps : ℕ) (book : BookCosts) (list : List Action) → PlanHasThreshold steps book list
threshold_exists steps book list is =
    let found = has_place_levels steps book list (planned_in_class steps book list is) in
    let levels = found.0 in
    let on : AreOn steps book list is.fast is.slow levels = record { two = is.two; has = found.1 } in
    let most = most_on (saving list is.fast is.slow) (λ p. get_or levels p 0) (length levels) in
    (most.0, record { fast = is.fast; slow = is.slow; levels = levels; are_on = on; greatest = record { most = most.1; taken = most.2 } })

-- it is low where the costs are within limits
two_within : (levels : List Level) (fast slow : Level) → AllByRecursion IsLevelWithinLimits levels → levels ≡ fast ∷ slow ∷ [] → IsLevelWithinLimits slow
two_within levels fast slow within two = let P : List Level → Type 0 = λ l. AllByRecursion IsLevelWithinLimits l in (subst P two within).1.0

saving_low : (list : List Action) (fast slow : Level) (p : ℕ) → length list ≤ 16777216 → IsLevelWithinLimits slow → saving list fast slow p < 2 ^ 64
saving_low list fast slow p short within =
    let w = count_by-le-length (λ q. q == p) (written 0 list) in
    let r = count_by-le-length (λ q. q == p) (read 0 list) in
    let ws = written_few 0 list in
    let rs = read_few 0 list in
    let write_limit = within.write in
    let read_limit = within.read in
    let writes : times p (written 0 list) ≤ 16777216 = omega (arith, w, ws, short) in
    let reads : times p (read 0 list) ≤ 16777216 = omega (arith, r, rs, short) in
    let write_more : slow.write - fast.write ≤ 1000000 = omega (arith, write_limit) in
    let read_more : slow.read - fast.read ≤ 1000000 = omega (arith, read_limit) in
    let first : times p (written 0 list) * (slow.write - fast.write) ≤ 16777216 * 1000000 = mul-le-mul writes write_more in
    let second : times p (read 0 list) * (slow.read - fast.read) ≤ 16777216 * 1000000 = mul-le-mul reads read_more in
    omega (arith, first, second)

pub threshold_low : (threshold steps : ℕ) (book : BookCosts) (list : List Action) → steps ≤ 1000000 → IsWithinLimits book → IsMultistageList steps book list → IsThresholdOf threshold steps book list → threshold < 2 ^ 64
threshold_low threshold steps book list few limits is of =
    let short : length list ≤ 16777216 = subst (λ (l : List Action). length l ≤ 16777216) (sym is.planned.is) (revolve_short is.level steps (total_room book steps) is.plan few) in
    let within = two_within book.levels of.fast of.slow limits.levels of.are_on.two in
    elim of.greatest.taken [
      | inl none ↦ omega (arith, none)
      | inr some ↦ (let low = saving_low list of.fast of.slow some.0 short within in let e = some.3 in omega (arith, low, e))
    ]
