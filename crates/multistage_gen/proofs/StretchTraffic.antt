-- The traffic of the places of a list of Revolve, as it is counted by the numbers of its stretches.
use Rattle.std.proofs.Common.{◌≡◌, ◌==◌, ◌⊎◌, ℕ, zero, suc, ◌+◌, ◌-◌, ◌*◌, ◌<◌, ◌≤◌, Bool, true, false, cond, List, [], ◌∷◌, ◌++◌, length, get_or, set as put, Some, refl, sym, ap, ◌∙◌, subst, inl, inr, arith, eq-eqb}
use Rattle.std.specs.List.{AllByRecursion, insert, slice_get}
use Rattle.std.proofs.Math.Nat.{add-mul, mul-add, mul_comm}
use Rattle.std.proofs.lemmas.Bool.{cases_eq, cases_lt, ne_eqb}
use Rattle.std.proofs.lemmas.List.Sums.{sum_by-cons, sum_by-append, sum_by-insert, sum_by-set}
use Rattle.binomials.specs.Advances.{split}
use Rattle.binomials.specs.Laws.{IsStretch, IsSplit}
use Rattle.revolve_gen.specs.Plans.{HasPlan}
use Rattle.revolve_gen.specs.Stack.{times, enough, written, read}
use Rattle.revolve_gen.specs.RevolveList.{revolve}
use Rattle.multistage_gen.specs.declared.traffic.PlaceTraffic.{PlaceTraffic}
use Rattle.multistage_gen.specs.declared.numbers.Stretches.{Stretches}
use Rattle.multistage_gen.specs.Traffic.{IsTraffic}
use Rattle.multistage_gen.specs.Numbers.{begun_writes, held_writes, begun_visits, held_visits, weigh, steps_of, count_of, IsOf, AreOf, IsCountedOn, traffic_at, AreCounted}
use Rattle.multistage_gen.proofs.Counts.{times_past}
use Rattle.multistage_gen.proofs.PlaceUses.{none_begin, none_begin_none, one_begins, one_begins_none, one_writes, one_visits, begin_writes, begin_visits, split_writes, split_visits, revolve_writes, revolve_visits}

-- ---- weights

abbrev of_one : (ℕ → ℕ) → Stretches → ℕ
of_one weight s = s.count * weight s.steps

pub weigh_insert : (weight : ℕ → ℕ) (xs : List Stretches) (i : ℕ) (y : Stretches) → weigh weight (insert xs i y) ≡ weigh weight xs + y.count * weight y.steps
weigh_insert weight xs i y = sum_by-insert (of_one weight) xs i y

-- some with as many steps are counted together
pub weigh_put : (weight : ℕ → ℕ) (xs : List Stretches) (i steps count : ℕ) (x : Stretches) → i < length xs → x ≡ get_or xs i x → x.steps ≡ steps →
    weigh weight (put xs i (record { steps = x.steps; count = x.count + count })) ≡ weigh weight xs + count * weight steps
weigh_put weight xs i steps count x within is same =
    let more : Stretches = record { steps = x.steps; count = x.count + count } in
    let sums = sum_by-set (of_one weight) xs i more x within in
    let here : of_one weight (get_or xs i x) ≡ x.count * weight x.steps = ap (of_one weight) (sym is) in
    let both : (x.count + count) * weight x.steps ≡ x.count * weight x.steps + count * weight x.steps = add-mul x.count count (weight x.steps) in
    let kind : count * weight x.steps ≡ count * weight steps = ap (λ s. count * weight s) same in
    omega (arith, sums, here, both, kind)

weigh_end : (weight : ℕ → ℕ) (xs : List Stretches) (x : Stretches) → weigh weight (xs ++ x ∷ []) ≡ weigh weight xs + x.count * weight x.steps
weigh_end weight xs x =
    sum_by-append (of_one weight) xs (x ∷ []) ∙ ap (λ n. weigh weight xs + n) (sum_by-cons (of_one weight) x [] ∙ omega arith)

weigh_next : (weight : ℕ → ℕ) (x : Stretches) (xs : List Stretches) → weigh weight (x ∷ xs) ≡ x.count * weight x.steps + weigh weight xs
weigh_next weight x xs = sum_by-cons (of_one weight) x xs

-- one of them is no more than all
pub count_within : (xs : List Stretches) (i : ℕ) (x : Stretches) → i < length xs → x ≡ get_or xs i x → x.count ≤ count_of xs
count_within xs i x within is =
    let sums = sum_by-set (of_one (λ _. 1)) xs i (record { steps = 0; count = 0 }) x within in
    let here : of_one (λ _. 1) (get_or xs i x) ≡ x.count * 1 = ap (of_one (λ _. 1)) (sym is) in
    omega (arith, sums, here)

-- ---- what holds of each

module _ (P : Stretches → Type 0) where
  pub all_insert : (xs : List Stretches) (i : ℕ) (y : Stretches) → AllByRecursion P xs → P y → AllByRecursion P (insert xs i y)
  all_insert [] zero y all is = (is, tt)
  all_insert [] (suc i) y all is = (is, tt)
  all_insert (x ∷ xs) zero y all is = (is, all)
  all_insert (x ∷ xs) (suc i) y all is = (all.0, all_insert xs i y all.1 is)

  pub all_put : (xs : List Stretches) (i : ℕ) (y : Stretches) → AllByRecursion P xs → P y → AllByRecursion P (put xs i y)
  all_put [] i y all is = tt
  all_put (x ∷ xs) zero y all is = (is, all.1)
  all_put (x ∷ xs) (suc i) y all is = (all.0, all_put xs i y all.1 is)

  pub all_front : (xs ys : List Stretches) → AllByRecursion P (xs ++ ys) → AllByRecursion P xs
  all_front [] ys all = tt
  all_front (x ∷ xs) ys all = (all.0, all_front xs ys all.1)

  all_back : (xs ys : List Stretches) → AllByRecursion P (xs ++ ys) → AllByRecursion P ys
  all_back [] ys all = all
  all_back (x ∷ xs) ys all = all_back xs ys all.1

  pub all_get : (xs : List Stretches) (i : ℕ) (d : Stretches) → i < length xs → AllByRecursion P xs → P (get_or xs i d)
  all_get [] i d h all = absurd (omega (arith, h))
  all_get (x ∷ xs) zero d h all = all.0
  all_get (x ∷ xs) (suc i) d h all = all_get xs i d (omega (arith, h)) all.1

pub of_insert : (least c : ℕ) (xs : List Stretches) (i : ℕ) (y : Stretches) → AreOf least c xs → IsOf least c y → AreOf least c (insert xs i y)
of_insert least c xs i y all is = all_insert (IsOf least c) xs i y all is

pub of_put : (least c : ℕ) (xs : List Stretches) (i count : ℕ) (x : Stretches) → i < length xs → x ≡ get_or xs i x → AreOf least c xs → AreOf least c (put xs i (record { steps = x.steps; count = x.count + count }))
of_put least c xs i count x within is all =
    let of : IsOf least c x = subst (IsOf least c) (sym is) (all_get (IsOf least c) xs i x within all) in
    let some = of.some in
    all_put (IsOf least c) xs i _ all (record { stretch = of.stretch; long = of.long; some = omega (arith, some) })

-- those of two steps or more are of one or more
of_fewer : (c : ℕ) (xs : List Stretches) → AreOf 2 c xs → AreOf 1 c xs
of_fewer c [] all = tt
of_fewer c (x ∷ xs) all = (record { stretch = all.0.stretch; long = all.0.stretch.some; some = all.0.some }, of_fewer c xs all.1)

least_product : (m n : ℕ) → 1 ≤ n → m ≤ m * n
least_product m zero h = absurd (omega (arith, h))
least_product m (suc n) h = let e = mul-add m 1 n in let f : suc n ≡ 1 + n = omega arith in let g = ap (λ k. m * k) f in omega (arith, e, g)

-- there are no more than they have steps
pub count_few : (c : ℕ) (xs : List Stretches) → AreOf 1 c xs → count_of xs ≤ steps_of xs
count_few c [] all = omega arith
count_few c (x ∷ xs) all =
    let others = count_few c xs all.1 in
    let a = weigh_next (λ _. 1) x xs in
    let b = weigh_next (λ l. l) x xs in
    let l = least_product x.count x.steps all.0.long in
    omega (arith, others, a, b, l)

pub count_few_begun : (c : ℕ) (xs : List Stretches) → AreOf 2 c xs → count_of xs ≤ steps_of xs
count_few_begun c xs all = count_few c xs (of_fewer c xs all)

-- ---- the stretches of one place

-- Of the stretches that were begun on a place, these are still held, and these were begun above it; so many visits are counted.
pub record AreHeld (c : ℕ) (begun left above : List Stretches) (visits : ℕ) : Type 0 where
  pub all : AreOf 1 c left
  pub above_all : AreOf 2 (c - 1) above
  pub spent : visits + steps_of left ≤ steps_of begun
  pub kept : steps_of above + steps_of left ≤ steps_of begun
  pub many : count_of begun ≤ visits + count_of left
  pub writes : (q p : ℕ) → weigh (λ l. held_writes l q l c p) begun ≡ weigh (λ l. held_writes l q l c p) left + weigh (λ l. begun_writes l q l (c - 1) (p + 1)) above
  pub visits_are : (q p : ℕ) →
      weigh (λ l. held_visits l q l c p) begun ≡ cond (p == q) visits 0 + weigh (λ l. held_visits l q l c p) left + weigh (λ l. begun_visits l q l (c - 1) (p + 1)) above

no_visits : (t : Bool) → cond {A = ℕ} t 0 0 ≡ 0
no_visits true = refl
no_visits false = refl

more_visits : (t : Bool) (a m : ℕ) → cond t (a + m) 0 ≡ cond t a 0 + m * cond t 1 0
more_visits true a m = omega arith
more_visits false a m = omega arith

pub all_held : (c : ℕ) (begun : List Stretches) → AreOf 2 c begun → AreHeld c begun begun [] 0
all_held c begun all = record {
  all = of_fewer c begun all;
  above_all = tt;
  spent = omega arith;
  kept = omega arith;
  many = omega arith;
  writes = λ q p. omega arith;
  visits_are = λ q p. let none = no_visits (p == q) in omega (arith, none);
}

-- the longest ones are taken
pub taken_of : (c : ℕ) (left : List Stretches) (x : Stretches) → AreOf 1 c (left ++ x ∷ []) → IsOf 1 c x
taken_of c left x all = (all_back (IsOf 1 c) left (x ∷ []) all).0

module _ (c : ℕ) (begun left above : List Stretches) (visits : ℕ) (x : Stretches) (is : AreHeld c begun (left ++ x ∷ []) above visits) where
  of : IsOf 1 c x
  of = taken_of c left x is.all

  -- how great these numbers are at most
  pub taken_short : x.steps ≤ steps_of begun
  taken_short =
      let spent = is.spent in
      let some = of.some in
      let steps_end = weigh_end (λ l. l) left x in
      let product : x.steps ≤ x.count * x.steps = omega (arith, least_product x.steps x.count some, mul_comm x.steps x.count) in
      omega (arith, spent, steps_end, product)

  pub taken_few : count_of left + x.count ≤ steps_of begun
  taken_few =
      let spent = is.spent in
      let few = count_few c (left ++ x ∷ []) is.all in
      let count_end = weigh_end (λ _. 1) left x in
      omega (arith, spent, few, count_end)

  pub above_few : count_of above + x.count ≤ steps_of begun
  above_few =
      let kept = is.kept in
      let few = count_few_begun (c - 1) above is.above_all in
      let steps_end = weigh_end (λ l. l) left x in
      let least = least_product x.count x.steps of.long in
      omega (arith, kept, few, steps_end, least)

  pub taken_slot : 2 ≤ x.steps → 1 ≤ c
  taken_slot two = elim (cases_lt 0 c) [
    | inl more ↦ omega (arith, more)
    | inr none ↦ (let one = of.stretch.slots (omega (arith, none)) in absurd (omega (arith, one, two)))
  ]

  pub fewer_left : steps_of left < steps_of (left ++ x ∷ [])
  fewer_left =
      let some = of.some in
      let steps_end = weigh_end (λ l. l) left x in
      let least = least_product x.count x.steps of.long in
      omega (arith, some, steps_end, least)

  pub fewer_held : (j : ℕ) (held : List Stretches) → j < x.steps → steps_of held ≡ steps_of left + x.count * j → steps_of held < steps_of (left ++ x ∷ [])
  fewer_held j held shorter weighs =
      let some = of.some in
      let steps_end = weigh_end (λ l. l) left x in
      let whole : x.steps ≡ j + (x.steps - j) = omega (arith, shorter) in
      let product : x.count * x.steps ≡ x.count * j + x.count * (x.steps - j) = ap (λ n. x.count * n) whole ∙ mul-add x.count j (x.steps - j) in
      let least = least_product x.count (x.steps - j) (omega (arith, shorter)) in
      omega (arith, some, steps_end, weighs, product, least)

  -- they have one step
  pub one_taken : x.steps ≤ 1 → AreHeld c begun left above (visits + x.count)
  one_taken one =
      let long = of.long in
      let same : x.steps ≡ 1 = omega (arith, one, long) in
      let spent = is.spent in
      let kept = is.kept in
      let many = is.many in
      let steps_end = weigh_end (λ l. l) left x in
      let count_end = weigh_end (λ _. 1) left x in
      let least = least_product x.count x.steps long in
      record {
        all = all_front (IsOf 1 c) left (x ∷ []) is.all;
        above_all = is.above_all;
        spent = omega (arith, spent, steps_end, least);
        kept = omega (arith, kept, steps_end);
        many = omega (arith, many, count_end);
        writes = λ q p.
            let before = is.writes q p in
            let last = weigh_end (λ l. held_writes l q l c p) left x in
            let none : x.count * held_writes x.steps q x.steps c p ≡ 0 = ap (λ l. x.count * held_writes l q l c p) same ∙ ap (λ n. x.count * n) (one_writes q c p) ∙ omega arith in
            omega (arith, before, last, none);
        visits_are = λ q p.
            let before = is.visits_are q p in
            let last = weigh_end (λ l. held_visits l q l c p) left x in
            let here : x.count * held_visits x.steps q x.steps c p ≡ x.count * cond (p == q) 1 0 =
            ap (λ l. x.count * held_visits l q l c p) same ∙ ap (λ n. x.count * n) (one_visits q c p) in
            let more = more_visits (p == q) visits x.count in
            omega (arith, before, last, here, more);
      }

  -- they are split: the first parts stay held, and the parts behind them are begun above
  pub split_taken : (j : ℕ) (held begun_above : List Stretches) → 2 ≤ x.steps → j ≡ split x.steps c → IsSplit x.steps c j →
      ((weight : ℕ → ℕ) → weigh weight held ≡ weigh weight left + x.count * weight j) →
      ((least d : ℕ) → AreOf least d left → IsOf least d (record { steps = j; count = x.count }) → AreOf least d held) →
      ((weight : ℕ → ℕ) → weight 1 ≡ 0 → 1 ≤ x.steps - j → weigh weight begun_above ≡ weigh weight above + x.count * weight (x.steps - j)) →
      steps_of begun_above ≤ steps_of above + x.count * (x.steps - j) →
      ((d : ℕ) → AreOf 2 d above → IsOf 1 d (record { steps = x.steps - j; count = x.count }) → AreOf 2 d begun_above) →
      AreHeld c begun held begun_above (visits + x.count)
  split_taken j held begun_above two at parts held_weighs held_all above_weighs above_short above_all =
      let s : IsStretch x.steps c = of.stretch in
      let before_some = parts.before.some in
      let after_some = parts.after.some in
      let shorter = parts.shorter in
      let spent = is.spent in
      let kept = is.kept in
      let many = is.many in
      let steps_end = weigh_end (λ l. l) left x in
      let count_end = weigh_end (λ _. 1) left x in
      let held_steps = held_weighs (λ l. l) in
      let held_count = held_weighs (λ _. 1) in
      let whole : x.steps ≡ j + (x.steps - j) = omega (arith, shorter) in
      let product : x.count * x.steps ≡ x.count * j + x.count * (x.steps - j) = ap (λ n. x.count * n) whole ∙ mul-add x.count j (x.steps - j) in
      let least = least_product x.count (x.steps - j) after_some in
      record {
        all = held_all 1 c (all_front (IsOf 1 c) left (x ∷ []) is.all) (record { stretch = parts.before; long = before_some; some = of.some });
        above_all = above_all (c - 1) is.above_all (record { stretch = parts.after; long = after_some; some = of.some });
        spent = omega (arith, spent, steps_end, held_steps, product, least);
        kept = omega (arith, kept, steps_end, held_steps, product, above_short);
        many = omega (arith, many, count_end, held_count);
        writes = λ q p.
            let before = is.writes q p in
            let last = weigh_end (λ l. held_writes l q l c p) left x in
            let stays = held_weighs (λ l. held_writes l q l c p) in
            let goes = above_weighs (λ l. begun_writes l q l (c - 1) (p + 1)) (one_begins q (c - 1) (p + 1)) after_some in
            let splits : held_writes x.steps q x.steps c p ≡ begun_writes (x.steps - j) q (x.steps - j) (c - 1) (p + 1) + held_writes j q j c p =
            subst (λ (n : ℕ). held_writes x.steps q x.steps c p ≡ begun_writes (x.steps - n) q (x.steps - n) (c - 1) (p + 1) + held_writes n q n c p) (sym at)
            (split_writes q x.steps c p s two) in
            let each = ap (λ n. x.count * n) splits ∙ mul-add x.count (begun_writes (x.steps - j) q (x.steps - j) (c - 1) (p + 1)) (held_writes j q j c p) in
            omega (arith, before, last, stays, goes, each);
        visits_are = λ q p.
            let before = is.visits_are q p in
            let last = weigh_end (λ l. held_visits l q l c p) left x in
            let stays = held_weighs (λ l. held_visits l q l c p) in
            let goes = above_weighs (λ l. begun_visits l q l (c - 1) (p + 1)) (one_begins_none q (c - 1) (p + 1)) after_some in
            let splits : held_visits x.steps q x.steps c p ≡ cond (p == q) 1 0 + (begun_visits (x.steps - j) q (x.steps - j) (c - 1) (p + 1) + held_visits j q j c p) =
            subst (λ (n : ℕ). held_visits x.steps q x.steps c p ≡ cond (p == q) 1 0 + (begun_visits (x.steps - n) q (x.steps - n) (c - 1) (p + 1) + held_visits n q n c p)) (sym at)
            (split_visits q x.steps c p s two) in
            let parts_are = begun_visits (x.steps - j) q (x.steps - j) (c - 1) (p + 1) + held_visits j q j c p in
            let each = ap (λ n. x.count * n) splits ∙ mul-add x.count (cond (p == q) 1 0) parts_are in
            let both = mul-add x.count (begun_visits (x.steps - j) q (x.steps - j) (c - 1) (p + 1)) (held_visits j q j c p) in
            let more = more_visits (p == q) visits x.count in
            omega (arith, before, last, stays, goes, each, both, more);
      }

-- ---- the place is counted when none is held any more

begun_weighs : (c : ℕ) (q p : ℕ) (begun : List Stretches) → AreOf 2 c begun →
    weigh (λ l. begun_writes l q l c p) begun ≡ cond (p == q) (count_of begun) 0 + weigh (λ l. held_writes l q l c p) begun
begun_weighs c q p [] all = let none = no_visits (p == q) in omega (arith, none)
begun_weighs c q p (x ∷ xs) all =
    let others = begun_weighs c q p xs all.1 in
    let a = weigh_next (λ l. begun_writes l q l c p) x xs in
    let b = weigh_next (λ l. held_writes l q l c p) x xs in
    let n : count_of (x ∷ xs) ≡ count_of xs + x.count = weigh_next (λ _. 1) x xs ∙ omega arith in
    let counts = ap (λ m. cond {A = ℕ} (p == q) m 0) n ∙ more_visits (p == q) (count_of xs) x.count in
    let each = ap (λ m. x.count * m) (begin_writes q x.steps c p all.0.stretch all.0.long) ∙ mul-add x.count (cond (p == q) 1 0) (held_writes x.steps q x.steps c p) in
    omega (arith, others, a, b, counts, each)

begun_visited : (c : ℕ) (q p : ℕ) (begun : List Stretches) → AreOf 2 c begun → weigh (λ l. begun_visits l q l c p) begun ≡ weigh (λ l. held_visits l q l c p) begun
begun_visited c q p [] all = refl
begun_visited c q p (x ∷ xs) all =
    let others = begun_visited c q p xs all.1 in
    let a = weigh_next (λ l. begun_visits l q l c p) x xs in
    let b = weigh_next (λ l. held_visits l q l c p) x xs in
    let each = ap (λ m. x.count * m) (begin_visits q x.steps c p all.0.stretch all.0.long) in
    omega (arith, others, a, b, each)

pub place_counted : (c : ℕ) (begun above : List Stretches) (visits writes reads : ℕ) → AreOf 2 c begun → AreHeld c begun [] above visits → writes ≡ count_of begun → reads ≡ visits - writes →
    IsCountedOn c begun (record { writes = writes; reads = reads }) above
place_counted c begun above visits writes reads all is begins rest =
    let kept = is.kept in
    let many = is.many in
    let sum : writes + reads ≡ visits = omega (arith, many, begins, rest) in
    record {
      all = is.above_all;
      short = omega (arith, kept);
      begins = begins;
      writes = λ q p.
          let a = begun_weighs c q p begun all in
          let b = is.writes q p in
          let n = ap (λ m. cond {A = ℕ} (p == q) m 0) begins in
          omega (arith, a, b, n);
      visits = λ q p.
          let a = begun_visited c q p begun all in
          let b = is.visits_are q p in
          let n = ap (λ m. cond {A = ℕ} (p == q) m 0) sum in
          omega (arith, a, b, n);
    }

-- ---- the places one after another

-- the list as a whole
pub all_begun : (steps slots : ℕ) (stretches : List Stretches) → HasPlan steps slots → ((steps ≤ 1) × (stretches ≡ [])) ⊎ ((2 ≤ steps) × (stretches ≡ record { steps = steps; count = 1 } ∷ [])) →
    AreCounted steps slots slots [] stretches
all_begun steps slots stretches plan (inl few) = subst (AreCounted steps slots slots []) (sym few.1) (record {
  all = tt;
  short = omega arith;
  left = omega arith;
  used = λ p h. absurd (omega (arith, h));
  writes = λ q. no_writes steps q slots few.0;
  visits = λ q. no_visited steps q slots few.0;
})
  where
    no_writes : (n q c : ℕ) → n ≤ 1 → begun_writes n q n c 0 ≡ 0
    no_writes zero q c h = none_begin q c 0
    no_writes (suc zero) q c h = one_begins q c 0
    no_writes (suc (suc n)) q c h = absurd (omega (arith, h))

    no_visited : (n q c : ℕ) → n ≤ 1 → begun_visits n q n c 0 ≡ 0
    no_visited zero q c h = none_begin_none q c 0
    no_visited (suc zero) q c h = one_begins_none q c 0
    no_visited (suc (suc n)) q c h = absurd (omega (arith, h))
all_begun steps slots stretches plan (inr more) =
    let x : Stretches = record { steps = steps; count = 1 } in
    let two = more.0 in
    let some = plan two in
    let total = weigh_next (λ l. l) x [] in
    subst (AreCounted steps slots slots []) (sym more.1) (record {
      all = (record { stretch = record { some = omega (arith, two); slots = λ none. absurd (omega (arith, none, some)) }; long = two; some = omega arith }, tt);
      short = omega (arith, total);
      left = omega arith;
      used = λ p h. absurd (omega (arith, h));
      writes = λ q. let w = weigh_next (λ l. begun_writes l q l slots 0) x [] in omega (arith, w);
      visits = λ q. let w = weigh_next (λ l. begun_visits l q l slots 0) x [] in omega (arith, w);
    })

-- what is counted of one place more
at_more : (places : List PlaceTraffic) (t : PlaceTraffic) (q : ℕ) → traffic_at (places ++ t ∷ []) q ≡ cond (length places == q) t (traffic_at places q)
at_more places t q = elim (cases_eq (length places) q) [
  | inl same ↦ here places t q same ∙ ap (λ b. cond b t (traffic_at places q)) (sym (eq-eqb (length places) q same))
  | inr other ↦ there places t q other ∙ ap (λ b. cond b t (traffic_at places q)) (sym (ne_eqb (length places) q other))
]
  where
    here : (places : List PlaceTraffic) (t : PlaceTraffic) (q : ℕ) → length places ≡ q → traffic_at (places ++ t ∷ []) q ≡ t
    here [] t zero e = refl
    here [] t (suc q) e = absurd (omega (arith, e))
    here (x ∷ places) t zero e = absurd (omega (arith, e))
    here (x ∷ places) t (suc q) e = here places t q (omega (arith, e))

    there : (places : List PlaceTraffic) (t : PlaceTraffic) (q : ℕ) → (length places ≡ q → ⊥) → traffic_at (places ++ t ∷ []) q ≡ traffic_at places q
    there [] t zero other = absurd (other refl)
    there [] t (suc q) other = refl
    there (x ∷ places) t zero other = refl
    there (x ∷ places) t (suc q) other = there places t q (λ e. other (ap suc e))

past_none : (places : List PlaceTraffic) (q : ℕ) → length places ≤ q → traffic_at places q ≡ record { writes = 0; reads = 0 }
past_none [] q h = refl
past_none (x ∷ places) zero h = absurd (omega (arith, h))
past_none (x ∷ places) (suc q) h = past_none places q (omega (arith, h))

-- there is a slot where stretches are begun
pub free_slot : (c : ℕ) (stretches : List Stretches) → AreOf 2 c stretches → 1 ≤ length stretches → 1 ≤ c
free_slot c [] all some = absurd (omega (arith, some))
free_slot c (x ∷ xs) all some = elim (cases_lt 0 c) [
  | inl more ↦ omega (arith, more)
  | inr none ↦ (let one = all.0.stretch.slots (omega (arith, none)) in let long = all.0.long in absurd (omega (arith, one, long)))
]

some_begin : (c : ℕ) (stretches : List Stretches) → AreOf 2 c stretches → 1 ≤ length stretches → 1 ≤ count_of stretches
some_begin c [] all some = absurd (omega (arith, some))
some_begin c (x ∷ xs) all some = let n = weigh_next (λ _. 1) x xs in let one = all.0.some in omega (arith, n, one)

pub place_more : (steps slots c : ℕ) (places : List PlaceTraffic) (begun above : List Stretches) (t : PlaceTraffic) → AreCounted steps slots c places begun → 1 ≤ length begun →
    IsCountedOn c begun t above → AreCounted steps slots (c - 1) (places ++ t ∷ []) above
place_more steps slots c places begun above t is some on =
    let n = length places in
    let slot = free_slot c begun is.all some in
    let longer : length (places ++ t ∷ []) ≡ n + 1 = longer_by places in
    let left = is.left in
    let short = is.short in
    let shorter = on.short in
    record {
      all = on.all;
      short = omega (arith, short, shorter);
      left = omega (arith, left, longer, slot);
      used = λ p h. elim (cases_eq n p) [
        | inl same ↦
            let at : traffic_at (places ++ t ∷ []) p ≡ t = at_more places t p ∙ ap (λ b. cond b t (traffic_at places p)) (eq-eqb n p same) in
            let w = ap (λ (x : PlaceTraffic). x.writes) at in
            let begins = on.begins in
            let one = some_begin c begun is.all some in
            omega (arith, w, begins, one)
        | inr other ↦
            let at : traffic_at (places ++ t ∷ []) p ≡ traffic_at places p = at_more places t p ∙ ap (λ b. cond b t (traffic_at places p)) (ne_eqb n p other) in
            let w = ap (λ (x : PlaceTraffic). x.writes) at in
            let before = is.used p (omega (arith, h, longer, other)) in
            omega (arith, w, before)
      ];
      writes = λ q.
          let before = is.writes q in
          let step = on.writes q n in
          let at = part_of (λ x. x.writes) q (refl) in
          let next : weigh (λ l. begun_writes l q l (c - 1) (n + 1)) above ≡ weigh (λ l. begun_writes l q l (c - 1) (length (places ++ t ∷ []))) above =
          ap (λ m. weigh (λ l. begun_writes l q l (c - 1) m) above) (sym longer) in
          omega (arith, before, step, at, next);
      visits = λ q.
          let before = is.visits q in
          let step = on.visits q n in
          let at = part_of (λ x. x.writes + x.reads) q (refl) in
          let next : weigh (λ l. begun_visits l q l (c - 1) (n + 1)) above ≡ weigh (λ l. begun_visits l q l (c - 1) (length (places ++ t ∷ []))) above =
          ap (λ m. weigh (λ l. begun_visits l q l (c - 1) m) above) (sym longer) in
          omega (arith, before, step, at, next);
    }
  where
    longer_by : (xs : List PlaceTraffic) → length (xs ++ t ∷ []) ≡ length xs + 1
    longer_by [] = refl
    longer_by (x ∷ xs) = let e = longer_by xs in omega (arith, e)

    -- a number of the traffic that is 0 of none
    part_of : (part : PlaceTraffic → ℕ) (q : ℕ) → part (record { writes = 0; reads = 0 }) ≡ 0 → part (traffic_at (places ++ t ∷ []) q) ≡ part (traffic_at places q) + cond (length places == q) (part t) 0
    part_of part q none = elim (cases_eq (length places) q) [
      | inl same ↦
          let at : traffic_at (places ++ t ∷ []) q ≡ t = at_more places t q ∙ ap (λ b. cond b t (traffic_at places q)) (eq-eqb (length places) q same) in
          let past : part (traffic_at places q) ≡ 0 = ap part (past_none places q (omega (arith, same))) ∙ none in
          let here : cond (length places == q) (part t) 0 ≡ part t = ap (λ b. cond b (part t) 0) (eq-eqb (length places) q same) in
          let e = ap part at in
          omega (arith, e, past, here)
      | inr other ↦
          let at : traffic_at (places ++ t ∷ []) q ≡ traffic_at places q = at_more places t q ∙ ap (λ b. cond b t (traffic_at places q)) (ne_eqb (length places) q other) in
          let here : cond (length places == q) (part t) 0 ≡ 0 = ap (λ b. cond b (part t) 0) (ne_eqb (length places) q other) in
          let e = ap part at in
          omega (arith, e, here)
    ]

-- ---- all places are counted when no stretch is begun any more

named_below : (xs : List ℕ) (p : ℕ) → 1 ≤ times p xs → p < enough xs
named_below xs p some = elim (cases_lt p (enough xs)) [ inl less ↦ less | inr past ↦ (let none = times_past p xs past in absurd (omega (arith, some, none))) ]

-- the least number above all places is no greater than one from which on none is named
few_named : (xs : List ℕ) (n : ℕ) → ((p : ℕ) → n ≤ p → times p xs ≡ 0) → enough xs ≤ n
few_named [] n none = omega arith
few_named (x ∷ xs) n none =
    let first : x < n = elim (cases_lt x n) [
      | inl less ↦ less
      | inr past ↦
          let here = none x past in
          let sum = sum_by-cons (λ r. cond (r == x) 1 0) x xs in
          let one : cond {A = ℕ} (x == x) 1 0 ≡ 1 = ap (λ b. cond {A = ℕ} b 1 0) (eq-eqb x x refl) in
          absurd (omega (arith, here, sum, one))
    ] in
    let others = few_named xs n (λ p past. let here = none p past in let sum = sum_by-cons (λ r. cond (r == p) 1 0) x xs in omega (arith, here, sum)) in
    omega (arith, first, others)

times_of_both : (q : ℕ) (xs ys : List ℕ) → times q (xs ++ ys) ≡ times q xs + times q ys
times_of_both q xs ys = sum_by-append (λ r. cond (r == q) 1 0) xs ys

got_at : (places : List PlaceTraffic) (p : ℕ) → p < length places → slice_get places p ≡ Some (traffic_at places p)
got_at [] p h = absurd (omega (arith, h))
got_at (x ∷ places) zero h = refl
got_at (x ∷ places) (suc p) h = got_at places p (omega (arith, h))

pub all_counted : (level : ℕ → ℕ) (steps slots c : ℕ) (places : List PlaceTraffic) → AreCounted steps slots c places [] →
    IsTraffic (written 0 (revolve level steps slots)) (read 0 (revolve level steps slots)) places
all_counted level steps slots c places is =
    let ws = written 0 (revolve level steps slots) in
    let rs = read 0 (revolve level steps slots) in
    let writes_at : (q : ℕ) → times q ws ≡ (traffic_at places q).writes = λ q. let a = revolve_writes level q steps slots in let b = is.writes q in omega (arith, a, b) in
    let reads_at : (q : ℕ) → times q rs ≡ (traffic_at places q).reads =
    λ q. let a = revolve_visits level q steps slots in let b = is.visits q in let w = writes_at q in omega (arith, a, b, w) in
    let past : enough (ws ++ rs) ≤ length places = few_named (ws ++ rs) (length places) (λ p h.
    let both = times_of_both p ws rs in
    let w = writes_at p in
    let r = reads_at p in
    let none = past_none places p h in
    let w_none = ap (λ (t : PlaceTraffic). t.writes) none in
    let r_none = ap (λ (t : PlaceTraffic). t.reads) none in
    omega (arith, both, w, r, w_none, r_none)) in
    let within : length places ≤ enough (ws ++ rs) = elim (cases_lt 0 (length places)) [
      | inl some ↦
          let p = length places - 1 in
          let h : p < length places = omega (arith, some) in
          let used = is.used p h in
          let w = writes_at p in
          let both = times_of_both p ws rs in
          let below = named_below (ws ++ rs) p (omega (arith, used, w, both)) in
          omega (arith, below)
      | inr none ↦ omega (arith, none)
    ] in
    record {
      many = omega (arith, past, within);
      each = λ p h. got_at places p h ∙ (λ i. Some (record { writes = sym (writes_at p) i; reads = sym (reads_at p) i }));
    }
