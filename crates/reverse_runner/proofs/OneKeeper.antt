-- The keeper of one level was called: what is seen of the keepers then.
use Rattle.reverse_runner.proofs.Common.{◌≡◌, ℕ, ◌∙◌, false, refl, ap, sym, subst, arith, ◌≢◌, inl, inr, List, get_or, set, Option, Some, None, length, IsSome, ◌<◌, true, ◌≤◌, slice_get, eq-eqb, ◌==◌, length-set, cases_eq, false≢true, cases_lt, ne_eqb, get_or-set_same, get_or-set_other, slice_get-get_or, slice_get_past, option_map_or, Location, raised, Ghosts, StoreFault, one_put, one_get, fault_on, IsKeeping, one_free, Remain, OthersRemain, one_if, Called, by_number, calls_to}
use Rattle.std.proofs.Math.Seq.{map-set_same}
use Rattle.image_store.specs.declared.shelf.StoreFault.TheVariants as store
use Rattle.reverse_runner.specs.declared.fault.RunFault.TheVariants.{Damaged}

raised_none : (a : ℕ) → a ≡ raised a 0
raised_none a = omega arith

same_number : (k j : ℕ) → j ≡ k → (k == j) ≡ true
same_number k j e = eq-eqb k j (sym e)

other_number : (k j : ℕ) → (j ≡ k → ⊥) → (k == j) ≡ false
other_number k j ne = ne_eqb k j (λ e. ne (sym e))

module _ {K : Type 0} (ks : List K) (k : ℕ) (x y : K) (within : k < length ks) (is : x ≡ get_or ks k x) where
  -- the keeper is there, and the others are as they were
  pub is_set : slice_get (set ks k y) k ≡ Some y
  is_set = slice_get-get_or (set ks k y) k y (omega (arith, length-set ks k y, within)) ∙ ap (λ v. Some v) (get_or-set_same ks k y y within)

  pub was_there : slice_get ks k ≡ Some x
  was_there = slice_get-get_or ks k x within ∙ ap (λ v. Some v) (sym is)

  pub others_remain : OthersRemain k ks (set ks k y)
  others_remain j ne = elim (cases_lt j (length ks)) [
    | inl lt ↦
        slice_get-get_or (set ks k y) j y (omega (arith, length-set ks k y, lt)) ∙ ap (λ v. Some v) (get_or-set_other ks k j y y ne)
        ∙ sym (slice_get-get_or ks j y lt)
    | inr ge ↦ slice_get_past (set ks k y) j (omega (arith, length-set ks k y, ge)) ∙ sym (slice_get_past ks j ge)
  ]

  module _ {A : Type 0} (nothing : A) (f : K → A) where
    pub seen_there : by_number nothing f (set ks k y) k ≡ f y
    seen_there = ap (λ o. option_map_or f o nothing) is_set

    pub seen_before : by_number nothing f ks k ≡ f x
    seen_before = ap (λ o. option_map_or f o nothing) was_there

    pub seen_else : (j : ℕ) → j ≢ k → by_number nothing f (set ks k y) j ≡ by_number nothing f ks j
    seen_else j ne = ap (λ o. option_map_or f o nothing) (others_remain j ne)

    -- nothing else is seen of it
    pub seen_same : f y ≡ f x → (j : ℕ) → by_number nothing f (set ks k y) j ≡ by_number nothing f ks j
    seen_same same j = elim (cases_eq j k) [
      | inl e ↦
          let P : ℕ → Type 0 = λ i. by_number nothing f (set ks k y) i ≡ by_number nothing f ks i in
          subst P (sym e) (seen_there ∙ same ∙ sym seen_before)
      | inr ne ↦ seen_else j ne
    ]

  -- one call of a kind was counted at its level, and none of another kind
  module _ (count : K → ℕ) where
    pub counted : count y ≡ raised (count x) 1 → (j : ℕ) → by_number 0 count (set ks k y) j ≡ raised (by_number 0 count ks j) (one_if (k == j))
    counted more j = elim (cases_eq j k) [
      | inl e ↦
          let P : ℕ → Type 0 = λ i. by_number 0 count (set ks k y) i ≡ raised (by_number 0 count ks i) 1 in
          subst P (sym e) (seen_there 0 count ∙ more ∙ ap (λ n. raised n 1) (sym (seen_before 0 count)))
          ∙ ap (λ b. raised (by_number 0 count ks j) (one_if b)) (sym (same_number k j e))
      | inr ne ↦
          seen_else 0 count j ne ∙ raised_none (by_number 0 count ks j) ∙ ap (λ b. raised (by_number 0 count ks j) (one_if b)) (sym (other_number k j ne))
    ]

    pub uncounted : count y ≡ count x → (j : ℕ) → by_number 0 count (set ks k y) j ≡ raised (by_number 0 count ks j) 0
    uncounted same j = seen_same 0 count same j ∙ raised_none (by_number 0 count ks j)

  module _ (seen : Ghosts K) where
    pub put_was_called : seen.put_count y ≡ raised (seen.put_count x) 1 → seen.get_count y ≡ seen.get_count x → seen.free_count y ≡ seen.free_count x → Called (one_put k) (calls_to seen ks) (calls_to seen (set ks k y))
    put_was_called p g f = record { put_calls = counted seen.put_count p; get_calls = uncounted seen.get_count g; free_calls = uncounted seen.free_count f }

    pub get_was_called : seen.put_count y ≡ seen.put_count x → seen.get_count y ≡ raised (seen.get_count x) 1 → seen.free_count y ≡ seen.free_count x → Called (one_get k) (calls_to seen ks) (calls_to seen (set ks k y))
    get_was_called p g f = record { put_calls = uncounted seen.put_count p; get_calls = counted seen.get_count g; free_calls = uncounted seen.free_count f }

    pub free_was_called : seen.put_count y ≡ seen.put_count x → seen.get_count y ≡ seen.get_count x → seen.free_count y ≡ raised (seen.free_count x) 1 → Called (one_free k) (calls_to seen ks) (calls_to seen (set ks k y))
    free_was_called p g f = record { put_calls = uncounted seen.put_count p; get_calls = uncounted seen.get_count g; free_calls = counted seen.free_count f }

  -- the slots and the places are those that they were, and no count of faults fell
  module _ (slots : K → ℕ) (places : K → Location) (faults : K → ℕ) where
    pub remain : slots y ≡ slots x → places y ≡ places x → faults x ≤ faults y → Remain slots places faults ks (set ks k y)
    remain same there later = record {
      slots_same = map-set_same slots ks k y x (same ∙ ap slots is);
      places_same = map-set_same places ks k y x (there ∙ ap places is);
      later = λ j. elim (cases_eq j k) [
        | inl e ↦
            let P : ℕ → Type 0 = λ i. by_number 0 faults ks i ≤ by_number 0 faults (set ks k y) i in
            subst P (sym e) (omega (arith, later, seen_there 0 faults, seen_before 0 faults))
        | inr ne ↦ omega (arith, seen_else 0 faults j ne)
      ];
    }

-- a pair that is held
pub some_kept : {X : Type 0} (o : Option X) → IsSome o → (x : X) × (o ≡ Some x)
some_kept None h = absurd (false≢true h)
some_kept (Some x) h = (x, refl)

-- which fault of the store says that an image is damaged, and what else a fault says
pub damage_is : (level : ℕ) (fault : StoreFault) (k : ℕ) (put got : List ℕ) → fault_on level fault ≡ Damaged k put got → (k ≡ level) × (fault ≡ store.Damaged put got)
damage_is level store.Keeper k put got e = absurd cc
damage_is level (store.Damaged p q) k put got e = (cc, cc)
damage_is level store.Memory k put got e = absurd cc

pub never_damage : (level : ℕ) (fault : StoreFault) → ((put got : List ℕ) → fault ≢ store.Damaged put got) → IsKeeping level (fault_on level fault)
never_damage level store.Keeper h = refl
never_damage level (store.Damaged p q) h = absurd (h p q refl)
never_damage level store.Memory h = tt
