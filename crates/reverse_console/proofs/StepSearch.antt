-- Steps of the machine, and what is sought on the way.
use Rattle.std.proofs.Common.{◌≡◌, inl, inr, ℕ, zero, suc, ◌+◌, ◌-◌, ◌<◌, ◌≤◌, List, get_or, Option, Some, None, refl, sym, ◌∙◌, ap, subst, arith, add-zero}
use Rattle.std.proofs.lemmas.Bool.{cases_eq}
use Rattle.rv_pages.specs.Memory.{Memory, byte_at}
use Rattle.rv_machine.specs.MachineState.{MachineState}
use Rattle.rv_machine.specs.States.{state_number}
use Rattle.rv_machine.specs.StepTable.{next}
use Rattle.reverse_queries.specs.Queries.{word_bytes, IsLast, Differ, SomeDiffer}
use Rattle.reverse_console.specs.declared.order.Sought.{Sought}
use Rattle.reverse_console.specs.SearchTargets.{Meets, MeetsFrom}
use Rattle.reverse_console.specs.StateSources.{Changes}

-- the bytes of a word, one by one
byte_of_word : (m : Memory) (word k : ℕ) → k < 4 → get_or (word_bytes m word) k None ≡ byte_at m (word + k)
byte_of_word m word zero lt = ap (byte_at m) (sym (add-zero word))
byte_of_word m word (suc zero) lt = refl
byte_of_word m word (suc (suc zero)) lt = refl
byte_of_word m word (suc (suc (suc zero))) lt = refl
byte_of_word m word (suc (suc (suc (suc k)))) lt = absurd (omega (arith, lt))

-- a step changes a word where one of its bytes differs before it and after it
pub differ_changes : (journal : List (List ℕ)) (word : ℕ) (s t : MachineState) (before after : List (Option ℕ)) → before ≡ word_bytes s.memory word → after ≡ word_bytes t.memory word → t ≡ next s journal → SomeDiffer before after → Changes journal word s
differ_changes journal word s t before after eb ea step (k, (lt, h)) =
    let B : List (Option ℕ) → Type 0 = λ l. Differ (get_or l k None) (get_or after k None) in
    let A : List (Option ℕ) → Type 0 = λ l. Differ (get_or (word_bytes s.memory word) k None) (get_or l k None) in
    let C : Option ℕ → Type 0 = λ o. Differ o (get_or (word_bytes t.memory word) k None) in
    let D : Option ℕ → Type 0 = λ o. Differ (byte_at s.memory (word + k)) o in
    let E : MachineState → Type 0 = λ x. Differ (byte_at s.memory (word + k)) (byte_at x.memory (word + k)) in
    (k, (lt, subst E step (subst D (byte_of_word t.memory word k lt) (subst C (byte_of_word s.memory word k lt) (subst A ea (subst B eb h))))))

pub changes_differ : (journal : List (List ℕ)) (word : ℕ) (s t : MachineState) (before after : List (Option ℕ)) → before ≡ word_bytes s.memory word → after ≡ word_bytes t.memory word → t ≡ next s journal → Changes journal word s → SomeDiffer before after
changes_differ journal word s t before after eb ea step (k, (lt, h)) =
    let B : List (Option ℕ) → Type 0 = λ l. Differ (get_or l k None) (get_or after k None) in
    let A : List (Option ℕ) → Type 0 = λ l. Differ (get_or (word_bytes s.memory word) k None) (get_or l k None) in
    let C : Option ℕ → Type 0 = λ o. Differ o (get_or (word_bytes t.memory word) k None) in
    let D : Option ℕ → Type 0 = λ o. Differ (byte_at s.memory (word + k)) o in
    let E : MachineState → Type 0 = λ x. Differ (byte_at s.memory (word + k)) (byte_at x.memory (word + k)) in
    (k, (lt, subst B (sym eb) (subst A (sym ea) (subst C (sym (byte_of_word s.memory word k lt)) (subst D (sym (byte_of_word t.memory word k lt)) (subst E (sym step) h))))))

-- ---- the last so far

pub last_none : (Holds : ℕ → Type 0) (from : ℕ) → ((n : ℕ) → Holds n → from ≤ n) → IsLast Holds from None
last_none Holds from low n below h = let le = low n h in absurd (omega (arith, below, le))

pub last_here : (Holds : ℕ → Type 0) (n : ℕ) → Holds n → IsLast Holds (n + 1) (Some n)
last_here Holds n h = (h, omega arith, λ m above below hm. absurd (omega (arith, above, below)))

pub last_more : (Holds : ℕ → Type 0) (n : ℕ) (last : Option ℕ) → (Holds n → ⊥) → IsLast Holds n last → IsLast Holds (n + 1) last
last_more Holds n (Some m) never h = (
  h.0,
  (let lt = h.1 in omega (arith, lt)),
  λ k above below hk. elim (cases_eq k n) [
    | inl e ↦ never (subst Holds e hk)
    | inr ne ↦ h.2 k above (omega (arith, below, ne)) hk
  ],
)
last_more Holds n None never h = λ k below hk. elim (cases_eq k n) [
  | inl e ↦ never (subst Holds e hk)
  | inr ne ↦ h k (omega (arith, below, ne)) hk
]

-- what is sought holds of the state that the machine is in
pub meets_now : (sought : Sought) (journal : List (List ℕ)) (old work : MachineState) (from n : ℕ) → from ≤ n → work ≡ state_number old journal (n - from) → Meets sought journal work → MeetsFrom sought journal old from n
meets_now sought journal old work from n le is h = (le, subst (Meets sought journal) is h)

pub fails_now : (sought : Sought) (journal : List (List ℕ)) (old work : MachineState) (from n : ℕ) → work ≡ state_number old journal (n - from) → (Meets sought journal work → ⊥) → MeetsFrom sought journal old from n → ⊥
fails_now sought journal old work from n is never h = never (subst (Meets sought journal) (sym is) h.1)

-- one step more
pub one_step : (old work work' : MachineState) (journal : List (List ℕ)) (from n : ℕ) → from ≤ n → work ≡ state_number old journal (n - from) → work' ≡ next work journal → work' ≡ state_number old journal (n + 1 - from)
one_step old work work' journal from n le here step =
    let e : suc (n - from) ≡ n + 1 - from = omega (arith, le) in
    step ∙ ap (λ s. next s journal) here ∙ ap (state_number old journal) e

-- none so far, and not this one either
pub none_more : (P : ℕ → Type 0) (from n : ℕ) → ((m : ℕ) → from < m → m ≤ n → P m → ⊥) → (P (n + 1) → ⊥) → (m : ℕ) → from < m → m ≤ n + 1 → P m → ⊥
none_more P from n none never m above below h = elim (cases_eq m (n + 1)) [
  | inl e ↦ never (subst P e h)
  | inr ne ↦ none m above (omega (arith, below, ne)) h
]
