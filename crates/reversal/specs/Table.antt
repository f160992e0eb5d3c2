-- The possible decisions on a call, and the lines of a table. The first line that isn't met decides, and the last line
-- is what is to be done. A table is a list of such lines.
use Rattle.std.specs.Prelude.{◌≡◌, ◌⊎◌, ℕ, ◌<◌, ◌≤◌, slice_index_or, List, length}
use Rattle.plan_types.specs.declared.action.Action.{Action}
use Rattle.level_book.specs.declared.book.Slots.{Slots}
use Rattle.level_book.specs.declared.book.Slots.TheVariants.{Count}
use Rattle.level_book.specs.BookCosts.{BookCosts, least, room, total_room}
use Rattle.level_book.specs.Valid.{Valid, BrokenAt}
use Rattle.reverse_runner.specs.KeepersSeen.{HaveRoom}
use Rattle.revolve_gen.specs.Plans as revolve
use Rattle.cert_text.specs.declared.certificate.Certificate.{Certificate}
use Rattle.bound_cert.specs.declared.verdict.Reason.{Reason}
use Rattle.bound_cert.specs.Acceptance.{IsAccepted, IsFirstReason}
use Rattle.endings.specs.declared.outcome.Outcome.{Outcome}
use Rattle.endings.specs.Outcomes.{few_keepers, small_keeper, invalid, out_of_range, no_plan, not_least}
use Rattle.reversal.specs.Job.{Job}

pub data Decision : Type 0 where
  refuse : Outcome → Decision
  accept : Job → Decision

-- ---- lines of tables, which commands share

-- this holds and the lines below decide; otherwise the call is refused with this ending
abbrev pub Need : Type 0 → Outcome → Decision → Type 0 → Type 0
Need Holds e d below = ((Holds → ⊥) × (d ≡ refuse e)) ⊎ (Holds × below)

-- the bytes mean something, and the lines below decide by it, or their fault refuses the call
abbrev pub Read : {A F : Type 0} → (A → Type 0) → (F → Type 0) → (F → Outcome) → Decision → (A → Type 0) → Type 0
Read {A} {F} IsText HasFault ended d below = ((fault : F) × HasFault fault × (d ≡ refuse (ended fault))) ⊎ ((x : A) × IsText x × below x)

-- the list is valid and the lines below decide; otherwise it is refused where it is first broken
abbrev pub Judge : ℕ → List Slots → List Action → Decision → Type 0 → Type 0
Judge steps slots list d below =
    ((place : ℕ) × (rule : ℕ) × (level : ℕ) × BrokenAt steps slots list place rule level × (Valid steps slots list → ⊥)
    × (d ≡ refuse (invalid place level rule)))
    ⊎ (Valid steps slots list × below)

-- Revolve has a list for so many steps and this book, and the lines below decide. Otherwise the call is refused.
abbrev pub Plan : ℕ → BookCosts → Decision → Type 0 → Type 0
Plan steps book d below = Need (revolve.HasPlan steps (total_room book steps)) (no_plan steps (total_room book steps) 1) d below

-- the first level that can hold more than 64 images of a list for so many steps
pub record IsFirstWide (steps : ℕ) (book : BookCosts) (level : ℕ) : Type 0 where
  pub within : level < length book.levels
  pub wide : 64 < room book level steps
  pub before : (k : ℕ) → k < level → room book k steps ≤ 64

-- Tables are kept small. If no level of the book holds more than 64 images, the lines below decide. Otherwise the call
-- is refused for the first that does, by rule 9.
abbrev pub Tabulate : ℕ → BookCosts → Decision → Type 0 → Type 0
Tabulate steps book d below =
    ((level : ℕ) × (IsFirstWide steps book level × (d ≡ refuse (out_of_range (room book level steps) 64 9))))
    ⊎ (((k : ℕ) → k < length book.levels → room book k steps ≤ 64) × below)

-- The certificate of a valid list is accepted, and the lines below decide. Otherwise it is refused for the first
-- reason.
abbrev pub Weigh : ℕ → BookCosts → List Action → Certificate → Decision → Type 0 → Type 0
Weigh steps book list certificate d below =
    ((reason : Reason) × IsFirstReason list steps book certificate reason × (d ≡ refuse (not_least reason)))
    ⊎ (IsAccepted list steps book certificate × below)

-- the first keeper with fewer slots than a run of so many steps can use
pub record IsFirstSmall (steps : ℕ) (slots : List Slots) (counts : List ℕ) (level : ℕ) : Type 0 where
  pub within : level < length slots
  pub small : slice_index_or counts level 0 < least (slice_index_or slots level (Count 0)) steps
  pub before : (k : ℕ) → k < level → least (slice_index_or slots k (Count 0)) steps ≤ slice_index_or counts k 0

-- There is a keeper for each level, with slots enough, and the lines below decide. Otherwise there are too few keepers,
-- or one has too few slots. The keepers are given by the numbers of their slots.
abbrev pub Keep : ℕ → List Slots → List ℕ → Decision → Type 0 → Type 0
Keep steps slots counts d below =
    Need (length slots ≤ length counts) (few_keepers (length slots) (length counts)) d
    (((level : ℕ) × (IsFirstSmall steps slots counts level × (d ≡ refuse (small_keeper level (slice_index_or counts level 0)))))
    ⊎ (HaveRoom steps slots counts × below))

-- ---- tables

-- A new line is a case here and in `Decided`, with its proofs in `proofs/Tables`.
pub data Table : Type 1 where
  needs : Type 0 → Outcome → Table → Table
  reads : {A F : Type 0} → (A → Type 0) → (F → Type 0) → (F → Outcome) → (A → Table) → Table
  judges : ℕ → List Slots → List Action → Table → Table
  keeps : ℕ → List Slots → List ℕ → Table → Table
  tabulates : ℕ → BookCosts → Table → Table
  weighs : ℕ → BookCosts → List Action → Certificate → Table → Table
  -- what holds of each request that reaches this line
  grants : Type 0 → Table → Table
  -- the last line: which decisions are possible
  ends : (Decision → Type 0) → Table

-- the last line of most tables: this job is to be done
abbrev pub does : Job → Table
does job = ends (λ d. d ≡ accept job)

-- Revolve has a list for so many steps and this book
abbrev pub plans : ℕ → BookCosts → Table → Table
plans steps book below = needs (revolve.HasPlan steps (total_room book steps)) (no_plan steps (total_room book steps) 1) below

-- what a table decides
abbrev pub Decided : Table → Decision → Type 0
Decided (needs Holds e below) d = Need Holds e d (Decided below d)
Decided (reads IsText HasFault ended below) d = Read IsText HasFault ended d (λ x. Decided (below x) d)
Decided (judges steps slots list below) d = Judge steps slots list d (Decided below d)
Decided (keeps steps slots counts below) d = Keep steps slots counts d (Decided below d)
Decided (tabulates steps book below) d = Tabulate steps book d (Decided below d)
Decided (weighs steps book list certificate below) d = Weigh steps book list certificate d (Decided below d)
Decided (grants Holds below) d = Holds × Decided below d
Decided (ends Last) d = Last d
