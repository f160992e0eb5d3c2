-- From what the steps of the top call answer to what it promises.
use Rattle.std.proofs.Common.{◌≡◌, ◌≢◌, ◌⊎◌, ◌<◌, inl, inr, ℕ, List, Option, Result, Ok, Err, IfOk, IfErr, sym, ap, subst, arith, refl}
use Rattle.keepers.specs.Claims.{Files}
use Rattle.endings.specs.declared.outcome.Outcome.{Outcome}
use Rattle.endings.specs.Outcomes.{no_memory, unreadable, too_long as longer}
use Rattle.endings.specs.Endings.{ended_of, status_of}
use Rattle.requests.specs.Request.{Request, Says}
use Rattle.requests.specs.Inputs.{inputs_of, FailsAtInput}
use Rattle.requests.specs.Loaded.{Loaded, loaded_of}
use Rattle.requests.specs.InputOutcome.{all, too_long, Reads, Stops}
use Rattle.reversal.specs.Job.{Job}
use Rattle.reversal.specs.Course.{Shown, HaltsShowing, Course, Ends}
use Rattle.reversal.specs.Moment.{Moment}
use Rattle.reversal.specs.JobModel.{Works}
use Rattle.reversal.specs.Table.{Decision, refuse, accept}
use Rattle.reversal.specs.Decision.{DecidesLoaded, Comes, EndsBy, course_of}
use Rattle.requests.proofs.Requests.{one_request}
use Rattle.reversal.proofs.Refusals.{refusing_at}
use Rattle.reversal.proofs.DecisionLaws.{read_decides, long_decides, refuse_by, decided_refusal}

-- ---- what a decision is come to by

pub comes_by : (r : Request) (told : Option Files) (before after : List (List ℕ)) (bytes : List (List ℕ)) (slots : List ℕ) (d : Decision) → Reads (inputs_of r.command) told before after (all bytes) → DecidesLoaded r.options r.command (loaded_of (inputs_of r.command) bytes) slots d →
    Comes r told before after slots d
comes_by r told before after bytes slots d reads decides = record {
  given = reads.given;
  as_told = reads.as_told;
  decides = read_decides 1 (inputs_of r.command) reads.given bytes d (λ b. DecidesLoaded r.options r.command (loaded_of (inputs_of r.command) b) slots d) reads.reads decides;
  asked = reads.asked;
}

comes_long : (r : Request) (told : Option Files) (before after : List (List ℕ)) (place limit : ℕ) (slots : List ℕ) (e : Outcome) → Reads (inputs_of r.command) told before after (too_long place limit) → e ≡ longer place limit →
    Comes r told before after slots (refuse e)
comes_long r told before after place limit slots e reads is =
    let P : Decision → Type 0 = λ d. Comes r told before after slots d in
    subst P (sym (refuse_by e (longer place limit) is)) (record {
      given = reads.given;
      as_told = reads.as_told;
      decides = long_decides 1 (inputs_of r.command) reads.given place limit (λ b. DecidesLoaded r.options r.command (loaded_of (inputs_of r.command) b) slots (refuse (longer place limit))) reads.reads;
      asked = reads.asked;
    })

pub comes_of : (words : List (List ℕ)) (q r : Request) (told : Option Files) (before after : List (List ℕ)) (slots : List ℕ) (d : Decision) → Says words q → Says words r → Comes q told before after slots d → Comes r told before after slots d
comes_of words q r told before after slots d says other h = let P : Request → Type 0 = λ x. Comes x told before after slots d in subst P (one_request words q r says other) h

-- ---- why a call was refused before its job

-- why no job was come to: an input can't be read, memory ran out, or the call is refused by a decision
abbrev pub Refused : Request → Option Files → Outcome → List (List ℕ) → List (List ℕ) → List ℕ → Type 0
Refused r told e before after slots =
    ((place : ℕ) × (e ≡ unreadable place) × FailsAtInput (inputs_of r.command) told place before after)
    ⊎ (e ≡ no_memory)
    ⊎ ((status_of e ≢ 3) × (status_of e ≢ 17) × (status_of e ≢ 2) × (status_of e ≢ 12) × (status_of e ≢ 14) × Comes r told before after slots (refuse e))

pub stops_refused : (r : Request) (told : Option Files) (e : Outcome) (before after : List (List ℕ)) (slots : List ℕ) → Stops (inputs_of r.command) told e before after → Refused r told e before after slots
stops_refused r told e before after slots stops = elim stops [
  | inl input ↦ inl input
  | inr more ↦ elim more [
    | inl memory ↦ inr (inl memory)
    | inr long ↦
        let is = refusing_at e 10 (ap status_of long.2) (omega arith) (omega arith) in
        inr (inr (is.not_input, is.not_memory, is.not_words, is.not_keeper, is.not_sink, comes_long r told before after long.0 long.1 slots e long.3 long.2))
  ]
]

pub decides_refused : (r : Request) (told : Option Files) (e : Outcome) (before after : List (List ℕ)) (bytes : List (List ℕ)) (slots : List ℕ) → Reads (inputs_of r.command) told before after (all bytes) →
    (e ≡ no_memory) ⊎ DecidesLoaded r.options r.command (loaded_of (inputs_of r.command) bytes) slots (refuse e) → Refused r told e before after slots
decides_refused r told e before after bytes slots reads h = elim h [
  | inl memory ↦ inr (inl memory)
  | inr decides ↦
      let is = decided_refusal r.options r.command (loaded_of (inputs_of r.command) bytes) slots e decides in
      inr (inr (is.not_input, is.not_memory, is.not_words, is.not_keeper, is.not_sink, comes_by r told before after bytes slots (refuse e) reads decides))
]

pub no_input_fault : (r : Request) (e : Outcome) (l : Loaded) (slots : List ℕ) → (e ≡ no_memory) ⊎ DecidesLoaded r.options r.command l slots (refuse e) → status_of e ≢ 3
no_input_fault r e l slots h three = elim h [
  | inl memory ↦ let status = ap status_of memory in absurd (omega (arith, status, three))
  | inr decides ↦ (decided_refusal r.options r.command l slots e decides).not_input three
]

pub if_error : {A : Type 0} (r : Result A Outcome) (P Q : Outcome → Type 0) → ((e : Outcome) → P e → Q e) → IfErr r P → IfErr r Q
if_error (Ok x) P Q f h = tt
if_error (Err e) P Q f h = f e h

pub if_okay : {A : Type 0} (r : Result A Outcome) (P Q : A → Type 0) → ((x : A) → P x → Q x) → IfOk r P → IfOk r Q
if_okay (Ok x) P Q f h = f x h
if_okay (Err e) P Q f h = tt

-- ---- endings

-- a job that was begun ends by a status of its own
pub record IsWorking (e : Outcome) : Type 0 where
  pub not_words : status_of e ≢ 2
  pub not_input : status_of e ≢ 3

working_at : (e : Outcome) (status : ℕ) → status_of e ≡ status → 3 < status → IsWorking e
working_at e status is above = record { not_words = λ x. absurd (omega (arith, x, is, above)); not_input = λ x. absurd (omega (arith, x, is, above)) }

working_done : (e : Outcome) → status_of e ≡ 0 → IsWorking e
working_done e is = record { not_words = λ x. absurd (omega (arith, x, is)); not_input = λ x. absurd (omega (arith, x, is)) }

ends_working : (course : Course) (shown : Shown) (e : Outcome) (old new : Moment) → Ends course shown e old new → IsWorking e × (status_of e ≢ 17)
ends_working course shown e old new h = elim h [
  | inl finished ↦ let status = ap status_of finished.0 in (working_done e status, λ x. absurd (omega (arith, x, status)))
  | inr more ↦ elim more [
    | inl sink ↦ let status = ap status_of sink.1 in (working_at e 14 status (omega arith), λ x. absurd (omega (arith, x, status)))
    | inr faults ↦ elim faults [
      | inl keeper ↦ let status = ap status_of keeper.2 in (working_at e 12 status (omega arith), λ x. absurd (omega (arith, x, status)))
      | inr damage ↦ let status = ap status_of damage.4 in (working_at e 13 status (omega arith), λ x. absurd (omega (arith, x, status)))
    ]
  ]
]

pub works_ends : (job : Job) (e : Outcome) (old new : Moment) → Works job e old new → status_of e ≢ 17 → EndsBy (accept job) (ended_of e) old new
works_ends job e old new h n17 = elim h [
  | inl ends ↦ (e, refl, ends)
  | inr memory ↦ absurd (n17 (ap status_of memory.0))
]

pub works_halts : (job : Job) (e : Outcome) (old new : Moment) → Works job e old new → status_of e ≡ 17 → (e ≡ no_memory) × HaltsShowing (course_of job) old new
works_halts job e old new h is = elim h [
  | inl ends ↦ absurd ((ends_working (course_of job) ends.0 e old new ends.1.1).1 is)
  | inr memory ↦ memory
]

pub works_not : (job : Job) (e : Outcome) (old new : Moment) → Works job e old new → IsWorking e
works_not job e old new h = elim h [
  | inl ends ↦ (ends_working (course_of job) ends.0 e old new ends.1.1).0
  | inr memory ↦ working_at e 17 (ap status_of memory.0) (omega arith)
]
