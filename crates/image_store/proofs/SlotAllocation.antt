-- Slots as pairs come and go.
use Rattle.image_store.proofs.Common.{◌≡◌, ◌≢◌, ℕ, ◌<◌, inl, inr, List, length, set, Option, Some, None, cond, refl, sym, ◌∙◌, ap, subst, ◌+◌, zero, suc, get_or, arith, ◌-◌, replicate, ◌⊎◌, cases_eq, cases_lt, get_or-set_same, get_or-set_other, get_or_default, get_or_past, none-some, same_Some, pair_at, IsFreeSlot, held, HaveOwnSlots, SharesOut}
use Rattle.std.specs.Option.{is_some}
use Rattle.std.proofs.Math.ListN.{length-set}
use Rattle.std.proofs.lemmas.List.Sums.{sum_by-set}
use Rattle.image_store.specs.declared.shelf.Kept.{Kept}

abbrev one_if : Option Kept → ℕ
one_if o = cond (is_some o) 1 0

-- a held pair is within the list
pub is_within : (pairs : List (Option Kept)) (n : ℕ) (kept : Kept) → pair_at pairs n ≡ Some kept → n < length pairs
is_within pairs n kept at = elim (cases_lt n (length pairs)) [
  | inl within ↦ within
  | inr past ↦ absurd (none-some kept (sym (get_or_past pairs n None past) ∙ at))
]

-- what a pair is after one was changed
pub after_change : (pairs : List (Option Kept)) (n m : ℕ) (o : Option Kept) (kept : Kept) → n < length pairs → pair_at (set pairs n o) m ≡ Some kept →
    ((m ≡ n) × (o ≡ Some kept)) ⊎ ((m ≢ n) × (pair_at pairs m ≡ Some kept))
after_change pairs n m o kept within at = elim (cases_eq m n) [
  | inl e ↦ inl (e, sym (get_or-set_same pairs n o None within) ∙ sym (ap (λ i. get_or (set pairs n o) i None) e) ∙ at)
  | inr ne ↦ inr (ne, sym (get_or-set_other pairs n m o None ne) ∙ at)
]

-- a new pair in a slot that no other has
pub own_more : (pairs : List (Option Kept)) (n : ℕ) (kept : Kept) → n < length pairs → HaveOwnSlots pairs → IsFreeSlot pairs kept.slot →
    HaveOwnSlots (set pairs n (Some kept))
own_more pairs n kept within own unused a b ka kb at_a at_b e =
    elim (after_change pairs n a (Some kept) ka within at_a) [
      | inl here ↦ elim (after_change pairs n b (Some kept) kb within at_b) [
        | inl there ↦ here.0 ∙ sym there.0
        | inr there ↦ absurd (unused b kb there.1 (sym e ∙ ap (λ (k : Kept). k.slot) (sym (same_Some kept ka here.1))))
      ]
      | inr here ↦ elim (after_change pairs n b (Some kept) kb within at_b) [
        | inl there ↦ absurd (unused a ka here.1 (e ∙ ap (λ (k : Kept). k.slot) (sym (same_Some kept kb there.1))))
        | inr there ↦ own a b ka kb here.1 there.1 e
      ]
    ]

-- a pair less
pub stays : (pairs : List (Option Kept)) (n m : ℕ) (kept : Kept) → n < length pairs → pair_at (set pairs n None) m ≡ Some kept → (m ≢ n) × (pair_at pairs m ≡ Some kept)
stays pairs n m kept within at = elim (after_change pairs n m None kept within at) [
  | inl here ↦ absurd (none-some kept here.1)
  | inr there ↦ there
]

pub own_less : (pairs : List (Option Kept)) (n : ℕ) → n < length pairs → HaveOwnSlots pairs → HaveOwnSlots (set pairs n None)
own_less pairs n within own a b ka kb at_a at_b e = own a b ka kb (stays pairs n a ka within at_a).1 (stays pairs n b kb within at_b).1 e

pub held_more : (pairs : List (Option Kept)) (n : ℕ) (kept : Kept) → n < length pairs → pair_at pairs n ≡ None → held (set pairs n (Some kept)) ≡ held pairs + 1
held_more pairs n kept within none =
    let step = sum_by-set one_if pairs n (Some kept) None within in
    let at : one_if (get_or pairs n None) ≡ 0 = ap one_if none in
    omega (arith, step, at)

pub held_less : (pairs : List (Option Kept)) (n : ℕ) (kept : Kept) → n < length pairs → pair_at pairs n ≡ Some kept → held (set pairs n None) + 1 ≡ held pairs
held_less pairs n kept within some =
    let step = sum_by-set one_if pairs n None None within in
    let at : one_if (get_or pairs n None) ≡ 1 = ap one_if some in
    omega (arith, step, at)

-- the last free slot goes to a new pair
pub shares_more : (pairs : List (Option Kept)) (free : List ℕ) (count n : ℕ) (kept : Kept) → SharesOut pairs free count → 0 < count → n < length pairs → pair_at pairs n ≡ None →
    kept.slot ≡ get_or free (count - 1) 0 → SharesOut (set pairs n (Some kept)) free (count - 1)
shares_more pairs free count n kept s some within none slot =
    let last : count - 1 < count = omega arith in
    let unused : IsFreeSlot pairs kept.slot = subst (IsFreeSlot pairs) (sym slot) (s.unused (count - 1) last) in
    record {
      counted = (let more = held_more pairs n kept within none in let c = s.counted in omega (arith, more, c));
      within = λ i h. s.within i (omega arith);
      once = λ i j hi hj e. s.once i j (omega arith) (omega arith) e;
      unused = λ i h m k at e. elim (after_change pairs n m (Some kept) k within at) [
        | inl here ↦
            let same : i ≡ count - 1 = s.once i (count - 1) (omega arith) last (sym e ∙ ap (λ (q : Kept). q.slot) (sym (same_Some kept k here.1)) ∙ slot) in
            absurd (omega (arith, same))
        | inr there ↦ s.unused i (omega arith) m k there.1 e
      ];
      slots = λ m k at. elim (after_change pairs n m (Some kept) k within at) [
        | inl here ↦ subst (λ (q : ℕ). q < length free) (sym slot ∙ ap (λ (q : Kept). q.slot) (same_Some kept k here.1)) (s.within (count - 1) last)
        | inr there ↦ s.slots m k there.1
      ];
      own = own_more pairs n kept within s.own unused;
    }

-- the slot of a pair that goes is free
pub shares_less : (pairs : List (Option Kept)) (free : List ℕ) (count n : ℕ) (kept : Kept) → SharesOut pairs free count → pair_at pairs n ≡ Some kept →
    SharesOut (set pairs n None) (set free count kept.slot) (count + 1)
shares_less pairs free count n kept s some =
    let within = is_within pairs n kept some in
    let less = held_less pairs n kept within some in
    let counted = s.counted in
    let room : count < length free = omega (arith, less, counted) in
    let long : length (set free count kept.slot) ≡ length free = length-set free count kept.slot in
    let top : get_or (set free count kept.slot) count 0 ≡ kept.slot = get_or-set_same free count kept.slot 0 room in
    let other : (i : ℕ) → i ≢ count → get_or (set free count kept.slot) i 0 ≡ get_or free i 0 = λ i ne. get_or-set_other free count i kept.slot 0 ne in
    record {
      counted = omega (arith, less, counted, long);
      within = λ i h. elim (cases_eq i count) [
        | inl e ↦ (let at : get_or (set free count kept.slot) i 0 ≡ kept.slot = ap (λ q. get_or (set free count kept.slot) q 0) e ∙ top in
            let low = s.slots n kept some in omega (arith, at, low, long))
        | inr ne ↦ (let at = other i ne in let low = s.within i (omega (arith, ne)) in omega (arith, at, low, long))
      ];
      once = λ i j hi hj e. elim (cases_eq i count) [
        | inl ei ↦ elim (cases_eq j count) [
          | inl ej ↦ ei ∙ sym ej
          | inr nj ↦ absurd (s.unused j (omega (arith, nj)) n kept some (sym (ap (λ q. get_or (set free count kept.slot) q 0) ei ∙ top) ∙ e ∙ other j nj))
        ]
        | inr ni ↦ elim (cases_eq j count) [
          | inl ej ↦ absurd (s.unused i (omega (arith, ni)) n kept some (sym (ap (λ q. get_or (set free count kept.slot) q 0) ej ∙ top) ∙ sym e ∙ other i ni))
          | inr nj ↦ s.once i j (omega (arith, ni)) (omega (arith, nj)) (sym (other i ni) ∙ e ∙ other j nj)
        ]
      ];
      unused = λ i h m k at e.
          let there = stays pairs n m k within at in
          elim (cases_eq i count) [
            | inl ei ↦ absurd (there.0 (s.own m n k kept there.1 some (e ∙ ap (λ q. get_or (set free count kept.slot) q 0) ei ∙ top)))
            | inr ni ↦ s.unused i (omega (arith, ni)) m k there.1 (e ∙ other i ni)
          ];
      slots = λ m k at. subst (λ (q : ℕ). k.slot < q) (sym long) (s.slots m k (stays pairs n m k within at).1);
      own = own_less pairs n within s.own;
    }

-- the last free slot
pub last_free : (pairs : List (Option Kept)) (free : List ℕ) (count slot : ℕ) → SharesOut pairs free count → 0 < count → slot ≡ get_or free (count - 1) slot →
    (slot ≡ get_or free (count - 1) 0) × IsFreeSlot pairs slot
last_free pairs free count slot s some is =
    let low : count - 1 < count = omega arith in
    let counted = s.counted in
    let at : slot ≡ get_or free (count - 1) 0 = is ∙ get_or_default free (count - 1) slot 0 (omega (arith, counted)) in
    (at, subst (IsFreeSlot pairs) (sym at) (s.unused (count - 1) low))

pub no_pair : (count : ℕ) (n : ℕ) → get_or (replicate {A = Option Kept} count None) n None ≡ None
no_pair zero n = refl
no_pair (suc count) zero = refl
no_pair (suc count) (suc n) = no_pair count n

pub none_held : (count : ℕ) → held (replicate count None) ≡ 0
none_held zero = refl
none_held (suc count) = none_held count

-- at the start each slot is free, and the first is taken first
pub shares_all : (count room : ℕ) (free : List ℕ) → length free ≡ room → ((i : ℕ) → i < room → get_or free i 0 ≡ room - 1 - i) → SharesOut (replicate count None) free room
shares_all count room free long is = record {
  counted = (let none = none_held count in omega (arith, none, long));
  within = λ i h. (let at = is i h in omega (arith, at, long));
  once = λ i j hi hj e. (let a = is i hi in let b = is j hj in omega (arith, a, b, e));
  unused = λ i h m k at e. none-some k (sym (no_pair count m) ∙ at);
  slots = λ m k at. absurd (none-some k (sym (no_pair count m) ∙ at));
  own = λ a b ka kb at_a at_b e. absurd (none-some ka (sym (no_pair count a) ∙ at_a));
}
