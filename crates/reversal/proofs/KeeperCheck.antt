-- The line of the table of a run that looks at the keepers' slots.
use Rattle.std.proofs.Common.{◌≡◌, ◌⊎◌, inl, inr, ℕ, zero, suc, ◌<◌, ◌≤◌, List, length, get_or, refl, sym, ◌∙◌, ap, arith}
use Rattle.std.proofs.lemmas.Bool.{cases_order}
use Rattle.level_book.specs.declared.book.Slots.{Slots}
use Rattle.reverse_runner.specs.KeepersSeen.{HaveRoom}
use Rattle.endings.specs.declared.outcome.Outcome.{Outcome}
use Rattle.endings.specs.Outcomes.{no_memory, few_keepers, small_keeper}
use Rattle.reversal.specs.Job.{Job}
use Rattle.reversal.specs.Table.{Decision, refuse, accept, IsFirstSmall, Keep}
use Rattle.reversal.proofs.Refusals.{IsRefusing, refusing_past}

-- ---- slots enough

-- there is a keeper for each level
all_below : (n m : ℕ) → ((k : ℕ) → k < n → k < m) → n ≤ m
all_below zero m h = omega arith
all_below (suc n) m h = let last = h n (omega arith) in omega (arith, last)

pub keeper_each : (steps : ℕ) (slots : List Slots) (counts : List ℕ) → HaveRoom steps slots counts → length slots ≤ length counts
keeper_each steps slots counts room = all_below (length slots) (length counts) (λ k below. (room k below).0)

-- a keeper that is too small has no room
small_without_room : (steps : ℕ) (slots : List Slots) (counts : List ℕ) (level : ℕ) → IsFirstSmall steps slots counts level → HaveRoom steps slots counts → ⊥
small_without_room steps slots counts level first room = let enough = (room level first.within).1 in omega (arith, first.small, enough)

-- one keeper is the first that is too small
first_small_one : (steps : ℕ) (slots : List Slots) (counts : List ℕ) (a b : ℕ) → IsFirstSmall steps slots counts a → IsFirstSmall steps slots counts b → a ≡ b
first_small_one steps slots counts a b h g = elim (cases_order a b) [
  | inl same ↦ same
  | inr other ↦ elim other [
    | inl less ↦ let enough = g.before a less in absurd (omega (arith, h.small, enough))
    | inr more ↦ let enough = h.before b more in absurd (omega (arith, g.small, enough))
  ]
]

-- ---- the line decides in one way

same_refusal : (c d : Decision) (e f : Outcome) → e ≡ f → c ≡ refuse e → d ≡ refuse f → c ≡ d
same_refusal c d e f same h g = h ∙ ap (λ x. refuse x) same ∙ sym g

pub keep_one : (steps : ℕ) (slots : List Slots) (counts : List ℕ) (c d : Decision) (Below Other : Type 0) → (Below → Other → c ≡ d) → Keep steps slots counts c Below → Keep steps slots counts d Other → c ≡ d
keep_one steps slots counts c d Below Other one h g = elim h [
  | inl few ↦ elim g [ inl other ↦ few.1 ∙ sym other.1 | inr other ↦ absurd (few.0 other.0) ]
  | inr x ↦ elim g [
    | inl other ↦ absurd (other.0 x.0)
    | inr y ↦ elim x.1 [
      | inl small ↦ elim y.1 [
        | inl other ↦
            same_refusal c d _ _ (ap (λ level. small_keeper level (get_or counts level 0)) (first_small_one steps slots counts small.0 other.0 small.1.0 other.1.0)) small.1.1 other.1.1
        | inr other ↦ absurd (small_without_room steps slots counts small.0 small.1.0 other.0)
      ]
      | inr below ↦ elim y.1 [ inl other ↦ absurd (small_without_room steps slots counts other.0 other.1.0 below.0) | inr other ↦ one below.1 other.1 ]
    ]
  ]
]

-- ---- what the line comes to

-- it refuses with a status of its own, or the lines below decide
pub keep_comes_to : (steps : ℕ) (slots : List Slots) (counts : List ℕ) (d : Decision) (Below : Type 0) → Keep steps slots counts d Below → ((e : Outcome) × ((d ≡ refuse e) × IsRefusing e)) ⊎ Below
keep_comes_to steps slots counts d Below h = elim h [
  | inl few ↦ inl (_, (few.1, refusing_past _ 16 refl (omega arith) (omega arith)))
  | inr x ↦ elim x.1 [ inl small ↦ inl (_, (small.1.1, refusing_past _ 16 refl (omega arith) (omega arith))) | inr met ↦ inr met.1 ]
]

-- a job is accepted where the keepers have room, by the lines below
pub keep_met : (steps : ℕ) (slots : List Slots) (counts : List ℕ) (job : Job) (Below : Type 0) → Keep steps slots counts (accept job) Below → HaveRoom steps slots counts × Below
keep_met steps slots counts job Below h = elim h [
  | inl few ↦ absurd (let is : accept job ≡ refuse (few_keepers (length slots) (length counts)) = few.1 in cc)
  | inr x ↦ elim x.1 [
    | inl small ↦ absurd (let is : accept job ≡ refuse (small_keeper small.0 (get_or counts small.0 0)) = small.1.1 in cc)
    | inr met ↦ met
  ]
]

-- what this line refuses is refused, whatever the lines below say
pub keep_refuses : (steps : ℕ) (slots : List Slots) (counts : List ℕ) (d : Decision) (Below : Type 0) → Keep steps slots counts d ⊥ → Keep steps slots counts d Below
keep_refuses steps slots counts d Below h = elim h [
  | inl few ↦ inl few
  | inr x ↦ elim x.1 [ inl small ↦ inr (x.0, inl small) | inr none ↦ absurd none.1 ]
]

-- where the keepers have room the lines below decide
pub keep_accepts : (steps : ℕ) (slots : List Slots) (counts : List ℕ) (d : Decision) (Below : Type 0) → HaveRoom steps slots counts → Below → Keep steps slots counts d Below
keep_accepts steps slots counts d Below room below = inr (keeper_each steps slots counts room, inr (room, below))

pub keep_passes : (steps : ℕ) (slots : List Slots) (counts : List ℕ) (e : Outcome) (Below : Type 0) → HaveRoom steps slots counts → (e ≡ no_memory) ⊎ Below → (e ≡ no_memory) ⊎ Keep steps slots counts (refuse e) Below
keep_passes steps slots counts e Below room h = elim h [
  | inl memory ↦ inl memory
  | inr below ↦ inr (keep_accepts steps slots counts (refuse e) Below room below)
]
