-- Tables, line by line: what they decide is one decision, a refusal of theirs or a job that may be done; and they decide something.
use Rattle.std.proofs.Common.{◌≡◌, ◌⊎◌, inl, inr, ℕ, ◌<◌, ◌≤◌, List, length, refl, sym, ◌∙◌, ap, subst, arith}
use Rattle.std.proofs.lemmas.Bool.{cases_lt}
use Rattle.plan_types.specs.declared.action.Action.{Action}
use Rattle.level_book.specs.declared.book.Slots.{Slots}
use Rattle.level_book.specs.BookCosts.{BookCosts, room}
use Rattle.level_book.specs.Valid.{Valid}
use Rattle.rv_machine.specs.MachineState.{MachineState}
use Rattle.schedule_rules.proofs.RuleLaws.{one_break}
use Rattle.endings.specs.declared.outcome.Outcome.{Outcome}
use Rattle.requests.specs.declared.question.Question.{Question}
use Rattle.requests.specs.Operands.{question_bound}
use Rattle.requests.specs.Bounds.{IsWithin}
use Rattle.endings.specs.Outcomes.{invalid, out_of_range}
use Rattle.reverse_console.specs.declared.order.Order.{Order}
use Rattle.reverse_console.specs.Marks.{MarkPlan}
use Rattle.reversal.specs.Job.{Run, last_of, Job, perform, ask as ask_job, seek, write, console, demonstrate}
use Rattle.reversal.specs.Table.{Decision, refuse, accept, Judge, IsFirstWide, Tabulate, Table, needs, reads, judges, keeps, tabulates, weighs, grants, ends, Decided}
use Rattle.reversal.proofs.Refusals.{IsRefusing, refusing_at, IsOne, Excludes}
use Rattle.reversal.proofs.KeeperCheck.{keep_one, keep_comes_to}
use Rattle.reversal.proofs.CertificateCheck.{weigh_one, weigh_comes_to}

-- ---- what may be accepted

-- a list that is performed is valid, also for a question, whose number is within its bounds; texts are written, or a demonstration is shown
pub data IsMet (job : Job) : Type 0 where
  asks : (question : Question) (run : Run) → IsWithin (question_bound (last_of run) question) → Valid run.steps run.slots run.list → job ≡ ask_job question run → IsMet job
  performs : (run : Run) → Valid run.steps run.slots run.list → job ≡ perform run → IsMet job
  seeks : (first : MachineState) (journal : List (List ℕ)) (steps workers : ℕ) (digest : List ℕ) → job ≡ seek first journal steps workers digest → IsMet job
  writes : (texts : List (List ℕ)) → job ≡ write texts → IsMet job
  moves : (first : MachineState) (journal : List (List ℕ)) (p : MarkPlan) (orders : List Order) → job ≡ console first journal p orders → IsMet job
  shows : (number : ℕ) (first : MachineState) (steps slots : ℕ) → job ≡ demonstrate number first steps slots → IsMet job

-- a refusal with a status of its own, or a job that may be accepted
abbrev pub IsOfTable : Decision → Type 0
IsOfTable d = ((e : Outcome) × ((d ≡ refuse e) × IsRefusing e)) ⊎ ((job : Job) × ((d ≡ accept job) × IsMet job))

-- ---- what is to be shown of a table

-- bytes say one thing at most, or have one fault, and not both, and are refused by it
pub record IsRead {A F : Type 0} (IsText : A → Type 0) (HasFault : F → Type 0) (ended : F → Outcome) : Type 0 where
  pub one : IsOne IsText
  pub fault : IsOne HasFault
  pub excludes : Excludes IsText HasFault
  pub refuses : (f : F) → HasFault f → IsRefusing (ended f)

-- a last line decides in one way, and accepts a job
pub record IsLast (Last : Decision → Type 0) : Type 0 where
  pub one : (c d : Decision) → Last c → Last d → c ≡ d
  pub job : (d : Decision) → Last d → (job : Job) × ((d ≡ accept job) × IsMet job)

abbrev pub IsSound : Table → Type 0
IsSound (needs Holds e below) = IsRefusing e × (Holds → IsSound below)
IsSound (reads {A} {F} IsText HasFault ended below) = IsRead IsText HasFault ended × ((x : A) → IsText x → IsSound (below x))
IsSound (judges steps slots list below) = Valid steps slots list → IsSound below
IsSound (keeps steps slots counts below) = IsSound below
IsSound (tabulates steps book below) = ((k : ℕ) → k < length book.levels → room book k steps ≤ 64) → IsSound below
IsSound (weighs steps book list certificate below) = IsSound below
IsSound (grants Holds below) = Holds → IsSound below
IsSound (ends Last) = IsLast Last

-- ---- lines

-- two levels that are the first of their kind are one
one_wide : (steps : ℕ) (book : BookCosts) (k l : ℕ) → IsFirstWide steps book k → IsFirstWide steps book l → k ≡ l
one_wide steps book k l h g = elim (cases_lt k l) [
  | inl less ↦ (let small = g.before k less in let wide = h.wide in absurd (omega arith))
  | inr more ↦ elim (cases_lt l k) [
    | inl less ↦ (let small = h.before l less in let wide = g.wide in absurd (omega arith))
    | inr same ↦ (omega arith)
  ]
]

tabulate_one : (steps : ℕ) (b : BookCosts) (c d : Decision) (Below Other : Type 0) → (((k : ℕ) → k < length b.levels → room b k steps ≤ 64) → Below → Other → c ≡ d) → Tabulate steps b c Below → Tabulate steps b d Other → c ≡ d
tabulate_one steps b c d Below Other one h g = elim h [
  | inl x ↦ elim g [
    | inl y ↦ x.1.1 ∙ ap (λ k. refuse (out_of_range (room b k steps) 64 9)) (one_wide steps b x.0 y.0 x.1.0 y.1.0) ∙ sym y.1.1
    | inr y ↦ (let wide = x.1.0.wide in let small = y.0 x.0 x.1.0.within in absurd (omega arith))
  ]
  | inr x ↦ elim g [
    | inl y ↦ (let wide = y.1.0.wide in let small = x.0 y.0 y.1.0.within in absurd (omega arith))
    | inr y ↦ one x.0 x.1 y.1
  ]
]

tabulate_comes_to : (steps : ℕ) (b : BookCosts) (d : Decision) (Below : Type 0) → Tabulate steps b d Below →
    ((e : Outcome) × ((d ≡ refuse e) × IsRefusing e)) ⊎ (((k : ℕ) → k < length b.levels → room b k steps ≤ 64) × Below)
tabulate_comes_to steps b d Below h = elim h [ inl x ↦ inl (_, (x.1.1, refusing_at _ 10 refl (omega arith) (omega arith))) | inr y ↦ inr y ]

judge_comes_to : (steps : ℕ) (slots : List Slots) (list : List Action) (d : Decision) (Below : Type 0) → Judge steps slots list d Below → ((e : Outcome) × ((d ≡ refuse e) × IsRefusing e)) ⊎ (Valid steps slots list × Below)
judge_comes_to steps slots list d Below h = elim h [ inl x ↦ inl (_, (x.5, refusing_at _ 8 refl (omega arith) (omega arith))) | inr y ↦ inr y ]

-- ---- tables

pub one_decided : (t : Table) → IsSound t → (c d : Decision) → Decided t c → Decided t d → c ≡ d
one_decided (needs Holds e below) s c d h g = elim h [
  | inl x ↦ elim g [ inl y ↦ x.1 ∙ sym y.1 | inr y ↦ absurd (x.0 y.0) ]
  | inr x ↦ elim g [ inl y ↦ absurd (y.0 x.0) | inr y ↦ one_decided below (s.1 x.0) c d x.1 y.1 ]
]
one_decided (reads IsText HasFault ended below) s c d h g = elim h [
  | inl x ↦ elim g [ inl y ↦ x.2 ∙ ap (λ f. refuse (ended f)) (s.0.fault x.0 y.0 x.1 y.1) ∙ sym y.2 | inr y ↦ absurd (s.0.excludes y.0 x.0 y.1 x.1) ]
  | inr x ↦ elim g [
    | inl y ↦ absurd (s.0.excludes x.0 y.0 x.1 y.1)
    | inr y ↦ one_decided (below x.0) (s.1 x.0 x.1) c d x.2 (subst (λ z. Decided (below z) d) (s.0.one y.0 x.0 y.1 x.1) y.2)
  ]
]
one_decided (judges steps slots list below) s c d h g = elim h [
  | inl x ↦ elim g [
    | inl y ↦
        let same = one_break steps slots list x.0 y.0 x.1 y.1 x.2 y.2 x.3 y.3 in
        x.5 ∙ (λ i. refuse (invalid (same.0 i) (same.2 i) (same.1 i))) ∙ sym y.5
    | inr y ↦ absurd (x.4 y.0)
  ]
  | inr x ↦ elim g [ inl y ↦ absurd (y.4 x.0) | inr y ↦ one_decided below (s x.0) c d x.1 y.1 ]
]
one_decided (keeps steps slots counts below) s c d h g = keep_one steps slots counts c d (Decided below c) (Decided below d) (one_decided below s c d) h g
one_decided (tabulates steps book below) s c d h g = tabulate_one steps book c d (Decided below c) (Decided below d) (λ narrow. one_decided below (s narrow) c d) h g
one_decided (weighs steps book list certificate below) s c d h g = weigh_one steps book list certificate c d (Decided below c) (Decided below d) (one_decided below s c d) h g
one_decided (grants Holds below) s c d h g = one_decided below (s h.0) c d h.1 g.1
one_decided (ends Last) s c d h g = s.one c d h g

pub comes_to : (t : Table) → IsSound t → (d : Decision) → Decided t d → IsOfTable d
comes_to (needs Holds e below) s d h = elim h [ inl x ↦ inl (e, (x.1, s.0)) | inr y ↦ comes_to below (s.1 y.0) d y.1 ]
comes_to (reads IsText HasFault ended below) s d h = elim h [ inl x ↦ inl (ended x.0, (x.2, s.0.refuses x.0 x.1)) | inr y ↦ comes_to (below y.0) (s.1 y.0 y.1) d y.2 ]
comes_to (judges steps slots list below) s d h = elim (judge_comes_to steps slots list d (Decided below d) h) [ inl x ↦ inl x | inr y ↦ comes_to below (s y.0) d y.1 ]
comes_to (keeps steps slots counts below) s d h = elim (keep_comes_to steps slots counts d (Decided below d) h) [ inl x ↦ inl x | inr y ↦ comes_to below s d y ]
comes_to (tabulates steps book below) s d h = elim (tabulate_comes_to steps book d (Decided below d) h) [ inl x ↦ inl x | inr y ↦ comes_to below (s y.0) d y.1 ]
comes_to (weighs steps book list certificate below) s d h = elim (weigh_comes_to steps book list certificate d (Decided below d) h) [ inl x ↦ inl x | inr y ↦ comes_to below s d y ]
comes_to (grants Holds below) s d h = comes_to below (s h.0) d h.1
comes_to (ends Last) s d h = inr (s.job d h)
