-- Which positions are held, and how many.
use Rattle.std.proofs.Common.{◌≡◌, ◌⊎◌, ℕ, zero, suc, ◌+◌, ◌<◌, ◌≤◌, Bool, true, false, not, cond, ◌&&◌, ◌||◌, List, [], ◌∷◌, length, slice_index_or, get_or, set as put, refl, sym, ◌∙◌, ap, inl, inr, arith, true≢false}
use Rattle.std.specs.FinSet as set
use Rattle.std.specs.List.{list_any, fold}
use Rattle.std.specs.Ordering.{nat_cmp, eq_by_cmp}
use Rattle.std.specs.Cmp.{nat_cmp_total, unsigned_tied}
use Rattle.std.proofs.lemmas.Bool.{eqb-true, ne_eqb}
use Rattle.level_book.specs.declared.book.Slots.{Slots}
use Rattle.level_book.specs.declared.book.Slots.TheVariants.{Count, Unlimited}
use Rattle.level_book.specs.BookCosts.{BookCosts, both, least, slots_of, total_room}
use Rattle.level_book.specs.Configuration.{Configuration, held_on, with_held, without_held}
use Rattle.schedule_rules.specs.Reachability.{IsWithin, IsSound}
use Rattle.schedule_rules.proofs.BitsLemmas.{len_one_less, len_of_member}
use Rattle.pebble_bound.specs.Crossings.{passing}
use Rattle.pebble_bound.proofs.ConfigurationMeasures.{is_held}

or_cases : (a b : Bool) → (a || b) ≡ true → (a ≡ true) ⊎ (b ≡ true)
or_cases true b h = inl refl
or_cases false b h = inr h

or_right : (a b : Bool) → b ≡ true → (a || b) ≡ true
or_right true b h = refl
or_right false b h = h

or_left : (a b : Bool) → a ≡ true → (a || b) ≡ true
or_left true b h = refl
or_left false b h = absurd (true≢false (sym h))

and_right : (a b : Bool) → (a && b) ≡ true → b ≡ true
and_right true b h = h
and_right false b h = absurd (true≢false (sym h))

-- an element that passes a test after one was put in is that one, or was there
any_put : {X : Type 0} (p : X → Bool) (xs : List X) (k : ℕ) (v : X) → list_any p (put xs k v) ≡ true → (p v ≡ true) ⊎ (list_any p xs ≡ true)
any_put p [] k v h = absurd (true≢false (sym h))
any_put p (x ∷ xs) zero v h = elim (or_cases (p v) (list_any p xs) h) [
  | inl here ↦ inl here
  | inr there ↦ inr (or_right (p x) (list_any p xs) there)
]
any_put p (x ∷ xs) (suc k) v h = elim (or_cases (p x) (list_any p (put xs k v)) h) [
  | inl here ↦ inr (or_left (p x) (list_any p xs) here)
  | inr there ↦ elim (any_put p xs k v there) [
    | inl new ↦ inl new
    | inr old ↦ inr (or_right (p x) (list_any p xs) old)
  ]
]

any_at : {X : Type 0} (p : X → Bool) (xs : List X) (k : ℕ) (d : X) → p d ≡ false → p (get_or xs k d) ≡ true → list_any p xs ≡ true
any_at p [] k d none h = absurd (true≢false (sym h ∙ none))
any_at p (x ∷ xs) zero d none h = or_left (p x) (list_any p xs) h
any_at p (x ∷ xs) (suc k) d none h = or_right (p x) (list_any p xs) (any_at p xs k d none h)

-- what a level holds is held
pub on_level : (c : Configuration) (k i : ℕ) → set.contains (held_on c k) i ≡ true → is_held c i ≡ true
on_level c k i h = any_at (λ (images : set.FinSet nat_cmp). set.contains images i) c.held k set.empty (set.contains-empty nat_cmp i) h

pub held_more : (c : Configuration) (n k i : ℕ) → is_held (with_held c n k) i ≡ true → (is_held c i ≡ true) ⊎ (i ≡ n)
held_more c n k i h = elim (any_put (λ (images : set.FinSet nat_cmp). set.contains images i) c.held k (set.insert (held_on c k) n) h) [
  | inl new ↦ elim (or_cases (eq_by_cmp nat_cmp i n) (set.contains (held_on c k) i) (sym (set.contains-insert nat_cmp_total (held_on c k) n i) ∙ new)) [
    | inl same ↦ inr (eqb-true i n (sym (unsigned_tied i n) ∙ same))
    | inr old ↦ inl (on_level c k i old)
  ]
  | inr old ↦ inl old
]

pub held_less : (c : Configuration) (n k i : ℕ) → is_held (without_held c n k) i ≡ true → is_held c i ≡ true
held_less c n k i h = elim (any_put (λ (images : set.FinSet nat_cmp). set.contains images i) c.held k (set.remove (held_on c k) n) h) [
  | inl new ↦ on_level c k i (and_right (not (eq_by_cmp nat_cmp i n)) (set.contains (held_on c k) i) (sym (set.contains-remove nat_cmp_total (held_on c k) n i) ∙ new))
  | inr old ↦ old
]

abbrev one_if : Bool → ℕ
one_if b = cond b 1 0

passing_alike : (f g : ℕ → Bool) (n : ℕ) → ((i : ℕ) → i < n → f i ≡ g i) → passing f n ≡ passing g n
passing_alike f g zero h = refl
passing_alike f g (suc n) h =
    let rest = passing_alike f g n (λ i b. h i (omega arith)) in
    let here = ap one_if (h n (omega arith)) in
    omega (arith, rest, here)

both_count : (a b : Bool) → cond (a || b) 1 0 ≤ cond a 1 0 + cond b 1 0
both_count true b = omega arith
both_count false b = omega arith

passing_or : (f g : ℕ → Bool) (n : ℕ) → passing (λ i. f i || g i) n ≤ passing f n + passing g n
passing_or f g zero = omega arith
passing_or f g (suc n) = omega (arith, passing_or f g n, both_count (f n) (g n))

passing_none : (n : ℕ) → passing (λ i. false) n ≡ 0
passing_none zero = refl
passing_none (suc n) = omega (arith, passing_none n)

one_or_none : (b : Bool) → cond b 1 0 ≤ 1
one_or_none true = omega arith
one_or_none false = omega arith

passing_within : (f : ℕ → Bool) (n : ℕ) → passing f n ≤ n
passing_within f zero = omega arith
passing_within f (suc n) = omega (arith, passing_within f n, one_or_none (f n))

-- a set has at least as many members as it has below n
member_more : (images : set.FinSet nat_cmp) (n : ℕ) (b : Bool) → ((s : set.FinSet nat_cmp) → passing (set.contains s) n ≤ set.len s) →
    set.contains images n ≡ b → passing (set.contains images) (suc n) ≤ set.len images
member_more images n false rest h = omega (arith, rest images, ap one_if h)
member_more images n true rest h =
    let others = passing_alike (set.contains images) (set.contains (set.remove images n)) n (λ i below.
    sym (set.contains-remove nat_cmp_total images n i ∙ ap (λ b. not b && set.contains images i) (unsigned_tied i n ∙ ne_eqb i n (λ e. omega arith)))) in
    omega (arith, rest (set.remove images n), others, len_one_less images n h, len_of_member images n h, ap one_if h)

passing_members : (images : set.FinSet nat_cmp) (n : ℕ) → passing (set.contains images) n ≤ set.len images
passing_members images zero = omega arith
passing_members images (suc n) = member_more images n (set.contains images n) (λ s. passing_members s n) refl

-- levels of which one is unlimited count no slots
unlimited_stays : (slots : List Slots) → fold both Unlimited slots ≡ Unlimited
unlimited_stays [] = refl
unlimited_stays (level ∷ slots) = unlimited_stays slots

uncounted : (slots : List Slots) (s : ℕ) → fold both Unlimited slots ≡ Count s → ⊥
uncounted slots s h = let e = unlimited_stays slots in cc

-- the positions below n that some level holds are no more than the slots, where all levels count theirs
held_count : (slots : List Slots) (held : List (set.FinSet nat_cmp)) (n a s : ℕ) → length held ≡ length slots →
    ((k : ℕ) → k < length slots → IsWithin (slice_index_or slots k (Count 0)) (slice_index_or held k set.empty)) →
    fold both (Count a) slots ≡ Count s → a + passing (λ i. list_any (λ images. set.contains images i) held) n ≤ s
held_count [] [] n a s e h all = let same : a ≡ s = cc in omega (arith, passing_none n)
held_count [] (images ∷ held) n a s e h all = absurd (omega arith)
held_count (level ∷ slots) [] n a s e h all = absurd (omega arith)
held_count (Count m ∷ slots) (images ∷ held) n a s e h all =
    omega (
      arith,
      passing_or (set.contains images) (λ i. list_any (λ (images : set.FinSet nat_cmp). set.contains images i) held) n,
      h 0 (omega arith),
      passing_members images n,
      held_count slots held n (a + m) s (omega arith) (λ k below. h (suc k) (omega arith)) all,
    )
held_count (Unlimited ∷ slots) (images ∷ held) n a s e h all = absurd (uncounted slots s all)

-- what is no more than the steps, and no more than the slots where they are counted, is no more than the room
within_least : (all : Slots) (n steps : ℕ) → n ≤ steps → ((s : ℕ) → all ≡ Count s → n ≤ s) → n ≤ least all steps
within_least (Count s) n steps few counted = omega (arith, counted s refl)
within_least Unlimited n steps few counted = few

-- at a sound configuration no more positions are held than there is room
pub held_within_room : (steps : ℕ) (book : BookCosts) (c : Configuration) → IsSound steps (slots_of book) c → passing (is_held c) steps ≤ total_room book steps
held_within_room steps book c sound =
    within_least (fold both (Count 0) (slots_of book)) (passing (is_held c) steps) steps (passing_within (is_held c) steps)
    (λ s all. omega (arith, held_count (slots_of book) c.held steps 0 s sound.level_count sound.room all))
