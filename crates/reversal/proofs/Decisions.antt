-- Decisions that are reached by an error, or by what another function decides.
use Rattle.std.proofs.Common.{◌≡◌, ◌⊎◌, inl, inr, ℕ, List, Some, Result, Ok, Err, IsErrAnd}
use Rattle.endings.specs.declared.outcome.Outcome.{Outcome}
use Rattle.endings.specs.Outcomes.{no_memory}
use Rattle.reversal.specs.declared.job.Job.{Job}
use Rattle.reversal.specs.Table.{Decision, accept, refuse}
use Rattle.requests.specs.Request.{Choice}
use Rattle.requests.specs.Loaded.{Loaded}
use Rattle.reversal.specs.Job.{Run, Job as AJob}
use Rattle.reversal.specs.declared.asking.Over.{Over}
use Rattle.reversal.specs.InputMeaning.{DecidesOver}
use Rattle.reversal.specs.JobModel.{job_of, IsDecided, IsDecidedOver}

-- an error that another was made into
pub by_error : (D : Decision → Type 0) (counts : List ℕ) (r : Result Job Outcome) (P : Outcome → Type 0) → IsErrAnd r P → ((e : Outcome) → P e → (e ≡ no_memory) ⊎ D (refuse e)) → IsDecided D counts r
by_error D counts (Ok job) P h f = absurd h
by_error D counts (Err e) P h f = record { accepted = tt; can_be_done = tt; room = tt; refused = f e h }

-- what a decision is, it is by what follows of it
pub by_another : (D E : Decision → Type 0) (counts : List ℕ) (r : Result Job Outcome) → IsDecided D counts r → ((d : Decision) → D d → E d) → IsDecided E counts r
by_another D E counts (Ok job) h f = record { accepted = f (accept (job_of job)) h.accepted; can_be_done = h.can_be_done; room = h.room; refused = tt }
by_another D E counts (Err e) h f = record { accepted = tt; can_be_done = tt; room = tt; refused = elim h.refused [ inl memory ↦ inl memory | inr decides ↦ inr (f (refuse e) decides) ] }

-- and what a list is performed over
pub over_error : (options : List Choice) (count : ℕ) (l : Loaded) (counts : List ℕ) (r : Result Over Outcome) (P : Outcome → Type 0) → IsErrAnd r P →
    ((e : Outcome) → P e → (job : Run → AJob) → (e ≡ no_memory) ⊎ DecidesOver job options count l.program l.journal l.book (Some l.schedule) counts (refuse e)) → IsDecidedOver options count l counts r
over_error options count l counts (Ok o) P h f = absurd h
over_error options count l counts (Err e) P h f = record { accepted = tt; over = tt; steps = tt; unit = tt; room = tt; refused = λ job. f e h job }
