-- The endings that a decision refuses with, and what a text of each kind says: one thing, or one fault.
use Rattle.std.proofs.Common.{◌≡◌, ◌≢◌, inl, inr, ℕ, ◌<◌, Bool, true, false, List, Option, None, Some, refl, sym, ◌∙◌, ap, subst, arith}
use Rattle.std.proofs.lemmas.Bool.{cases_order}
use Rattle.level_book.specs.declared.fault.BookFault.{BookFault}
use Rattle.level_book.specs.declared.fault.BookFault.TheVariants as book
use Rattle.level_book.specs.BookCosts.{BookCosts, names_of}
use Rattle.level_book.specs.BookFaults.{IsBookText}
use Rattle.level_book.proofs.OneBook.{one_text, not_refused, one_fault as one_book_fault, text_names}
use Rattle.input_journal.proofs.JournalUniqueness.{one_spelling, one_fault, no_fault}
use Rattle.line_texts.specs.declared.fault.Fault.{Fault}
use Rattle.line_texts.specs.declared.fault.Fault.TheVariants as text
use Rattle.action_text.specs.ScheduleText.{IsSchedule}
use Rattle.action_text.specs.Faults.{HasFirstFault}
use Rattle.action_text.proofs.WholeText.{one_schedule, one_first_fault, schedule_faultless}
use Rattle.input_journal.specs.declared.fault.JournalFault.{JournalFault}
use Rattle.input_journal.specs.declared.fault.JournalFault.TheVariants as journal
use Rattle.elf_load.specs.declared.fault.ElfFault.{ElfFault}
use Rattle.elf_load.specs.declared.fault.ElfFault.TheVariants as program
use Rattle.elf_load.specs.Faults.{number_of}
use Rattle.elf_load.proofs.StartUniqueness.{one_start, one_fault as one_file_fault, programs_have_no_fault, one_raw_start, one_raw_fault, raw_programs_have_no_fault}
use Rattle.cert_text.specs.Meaning.{IsCertificateText}
use Rattle.cert_text.specs.Faults.{HasFirstFault as CertificateFirst}
use Rattle.cert_text.proofs.TextLaws.{one_certificate, one_fault as one_certificate_fault, no_fault as certificates_have_no_fault}
use Rattle.rv_asm.specs.Source.{Means, HasFault}
use Rattle.rv_asm.proofs.SourceLaws.{one_meaning, one_fault as one_source_fault, no_fault as meanings_have_no_fault}
use Rattle.reverse_console.specs.Script.{IsScript}
use Rattle.reverse_console.specs.ScriptFaults.{HasFirstFault as ScriptFirst}
use Rattle.reverse_console.proofs.ScriptWhole.{one_script, one_fault as one_script_fault, no_fault as scripts_have_no_fault}
use Rattle.endings.specs.declared.outcome.Outcome.{Outcome}
use Rattle.endings.specs.Outcomes.{bad_program, bad_journal, bad_book, bad_text, bad_certificate, bad_source, bad_script}
use Rattle.endings.specs.Endings.{status_of}
use Rattle.reversal.specs.JobModel.{IsRefusal}
use Rattle.reversal.specs.InputMeaning.{HasBookFault, IsStartOf, HasProgramFault, AreItemsOf, HasJournalFault}

-- a decision to refuse has a status of its own
pub record IsRefusing (e : Outcome) : Type 0 where
  pub not_words : status_of e ≢ 2
  pub not_input : status_of e ≢ 3
  pub not_keeper : status_of e ≢ 12
  pub not_damaged : status_of e ≢ 13
  pub not_sink : status_of e ≢ 14
  pub not_memory : status_of e ≢ 17

pub refusing_at : (e : Outcome) (status : ℕ) → status_of e ≡ status → 3 < status → status < 12 → IsRefusing e
refusing_at e status is above below = record {
  not_words = λ x. absurd (omega (arith, x, is, above, below));
  not_input = λ x. absurd (omega (arith, x, is, above, below));
  not_keeper = λ x. absurd (omega (arith, x, is, above, below));
  not_damaged = λ x. absurd (omega (arith, x, is, above, below));
  not_sink = λ x. absurd (omega (arith, x, is, above, below));
  not_memory = λ x. absurd (omega (arith, x, is, above, below));
}

-- a refusal for the certificate or for the keepers
pub refusing_past : (e : Outcome) (status : ℕ) → status_of e ≡ status → 14 < status → status < 17 → IsRefusing e
refusing_past e status is above below = record {
  not_words = λ x. absurd (omega (arith, x, is, above, below));
  not_input = λ x. absurd (omega (arith, x, is, above, below));
  not_keeper = λ x. absurd (omega (arith, x, is, above, below));
  not_damaged = λ x. absurd (omega (arith, x, is, above, below));
  not_sink = λ x. absurd (omega (arith, x, is, above, below));
  not_memory = λ x. absurd (omega (arith, x, is, above, below));
}

-- a refusal for the source
pub refusing_above : (e : Outcome) (status : ℕ) → status_of e ≡ status → 17 < status → IsRefusing e
refusing_above e status is above = record {
  not_words = λ x. absurd (omega (arith, x, is, above));
  not_input = λ x. absurd (omega (arith, x, is, above));
  not_keeper = λ x. absurd (omega (arith, x, is, above));
  not_damaged = λ x. absurd (omega (arith, x, is, above));
  not_sink = λ x. absurd (omega (arith, x, is, above));
  not_memory = λ x. absurd (omega (arith, x, is, above));
}

-- ---- faults end a call by a status of theirs

pub program_refuses : (f : ElfFault) → (f ≡ program.Memory → ⊥) → IsRefusing (bad_program f)
program_refuses program.Memory h = absurd (h refl)
program_refuses program.NotElf h = refusing_at _ 4 refl (omega arith) (omega arith)
program_refuses program.Class h = refusing_at _ 4 refl (omega arith) (omega arith)
program_refuses program.Kind h = refusing_at _ 4 refl (omega arith) (omega arith)
program_refuses program.Machine h = refusing_at _ 4 refl (omega arith) (omega arith)
program_refuses program.Headers h = refusing_at _ 4 refl (omega arith) (omega arith)
program_refuses (program.Segment i) h = refusing_at _ 4 refl (omega arith) (omega arith)
program_refuses (program.Overlap i j) h = refusing_at _ 4 refl (omega arith) (omega arith)
program_refuses (program.TooLarge n) h = refusing_at _ 4 refl (omega arith) (omega arith)
program_refuses (program.Entry at) h = refusing_at _ 4 refl (omega arith) (omega arith)
program_refuses (program.RawLength n) h = refusing_at _ 4 refl (omega arith) (omega arith)

pub journal_refuses : (f : JournalFault) → (f ≡ journal.Memory → ⊥) → IsRefusing (bad_journal f)
journal_refuses journal.Memory h = absurd (h refl)
journal_refuses journal.Magic h = refusing_at _ 5 refl (omega arith) (omega arith)
journal_refuses journal.Version h = refusing_at _ 5 refl (omega arith) (omega arith)
journal_refuses (journal.Truncated at) h = refusing_at _ 5 refl (omega arith) (omega arith)
journal_refuses (journal.TooLong at) h = refusing_at _ 5 refl (omega arith) (omega arith)
journal_refuses (journal.Trailing at) h = refusing_at _ 5 refl (omega arith) (omega arith)

pub book_refuses : (f : BookFault) → (f ≡ book.Memory → ⊥) → IsRefusing (bad_book f)
book_refuses book.Memory h = absurd (h refl)
book_refuses book.NotJson h = refusing_at _ 6 refl (omega arith) (omega arith)
book_refuses (book.Shape n) h = refusing_at _ 6 refl (omega arith) (omega arith)
book_refuses (book.Levels n) h = refusing_at _ 6 refl (omega arith) (omega arith)
book_refuses (book.Name n) h = refusing_at _ 6 refl (omega arith) (omega arith)
book_refuses (book.CostRange n) h = refusing_at _ 6 refl (omega arith) (omega arith)
book_refuses (book.SlotRange n) h = refusing_at _ 6 refl (omega arith) (omega arith)
book_refuses (book.CostOrder n) h = refusing_at _ 6 refl (omega arith) (omega arith)

pub text_refuses : (f : Fault) → (f ≡ text.Memory → ⊥) → IsRefusing (bad_text f)
text_refuses text.Memory h = absurd (h refl)
text_refuses (text.At rule line column) h = refusing_at _ 7 refl (omega arith) (omega arith)

pub certificate_refuses : (f : Fault) → (f ≡ text.Memory → ⊥) → IsRefusing (bad_certificate f)
certificate_refuses text.Memory h = absurd (h refl)
certificate_refuses (text.At rule line column) h = refusing_at _ 9 refl (omega arith) (omega arith)

pub source_refuses : (f : Fault) → (f ≡ text.Memory → ⊥) → IsRefusing (bad_source f)
source_refuses text.Memory h = absurd (h refl)
source_refuses (text.At rule line column) h = refusing_above _ 19 refl (omega arith)

pub script_refuses : (f : Fault) → (f ≡ text.Memory → ⊥) → IsRefusing (bad_script f)
script_refuses text.Memory h = absurd (h refl)
script_refuses (text.At rule line column) h = refusing_above _ 20 refl (omega arith)

-- ---- want of memory is no fault of the bytes

pub program_fault_is_other : (raw : Bool) (stack : ℕ) (bytes : List ℕ) (f : ElfFault) → HasProgramFault raw stack bytes f → f ≡ program.Memory → ⊥
program_fault_is_other true stack bytes f h e = let P : ElfFault → Type 0 = λ x. HasProgramFault true stack bytes x in subst P e h
program_fault_is_other false stack bytes f h e = let P : ElfFault → Type 0 = λ x. HasProgramFault false stack bytes x in (subst P e h).missed

pub journal_fault_is_other : (bytes : Option (List ℕ)) (f : JournalFault) → HasJournalFault bytes f → f ≡ journal.Memory → ⊥
journal_fault_is_other None f h e = absurd h
journal_fault_is_other (Some bytes) f h e = let P : JournalFault → Type 0 = λ x. HasJournalFault (Some bytes) x in subst P e h

pub text_fault_is_other : (names : List (List ℕ)) (bytes : List ℕ) (f : Fault) → HasFirstFault names bytes f → f ≡ text.Memory → ⊥
text_fault_is_other names bytes f h e = let P : Fault → Type 0 = λ x. HasFirstFault names bytes x in subst P e h

-- a text that isn't read has a fault, or memory ran out
pub text_refused : (names : List (List ℕ)) (bytes : List ℕ) (f : Fault) (e : Outcome) → (f ≢ text.Memory → HasFirstFault names bytes f) → e ≡ bad_text f → IsRefusal (HasFirstFault names bytes) bad_text e
text_refused names bytes text.Memory e h is = inl is
text_refused names bytes (text.At rule line column) e h is = inr (text.At rule line column, h (λ same. absurd cc), is)

pub certificate_fault_is_other : (steps : ℕ) (b : BookCosts) (bytes : List ℕ) (f : Fault) → CertificateFirst steps b bytes f → f ≡ text.Memory → ⊥
certificate_fault_is_other steps b bytes f h e = let P : Fault → Type 0 = λ x. CertificateFirst steps b bytes x in subst P e h

pub source_fault_is_other : (source : List ℕ) (f : Fault) → HasFault source f → f ≡ text.Memory → ⊥
source_fault_is_other source f (inl first) e = absurd (cc (first.is, e))
source_fault_is_other source f (inr empty) e = absurd (cc (empty.1, e))

-- a source that isn't assembled has a fault, or memory ran out
pub source_refused : (source : List ℕ) (f : Fault) (e : Outcome) → (f ≢ text.Memory → HasFault source f) → e ≡ bad_source f → IsRefusal (HasFault source) bad_source e
source_refused source text.Memory e h is = inl is
source_refused source (text.At rule line column) e h is = inr (text.At rule line column, h (λ same. absurd cc), is)

pub script_fault_is_other : (steps : ℕ) (source : List ℕ) (f : Fault) → ScriptFirst steps source f → f ≡ text.Memory → ⊥
script_fault_is_other steps source f h e = let P : Fault → Type 0 = λ x. ScriptFirst steps source x in subst P e h

-- a script that isn't read has a fault, or memory ran out
pub script_refused : (steps : ℕ) (source : List ℕ) (f : Fault) (e : Outcome) → (f ≢ text.Memory → ScriptFirst steps source f) → e ≡ bad_script f → IsRefusal (ScriptFirst steps source) bad_script e
script_refused steps source text.Memory e h is = inl is
script_refused steps source (text.At rule line column) e h is = inr (text.At rule line column, h (λ same. absurd cc), is)

-- a program that isn't loaded has a fault, or memory ran out
memory_by_number : (f : ElfFault) → number_of f ≡ 10 → f ≡ program.Memory
memory_by_number program.Memory e = refl
memory_by_number f e = absurd (omega (arith, e))

pub program_refused : (raw : Bool) (stack : ℕ) (bytes : List ℕ) (f : ElfFault) (e : Outcome) → (f ≢ program.Memory → HasProgramFault raw stack bytes f) → e ≡ bad_program f → IsRefusal (HasProgramFault raw stack bytes) bad_program e
program_refused raw stack bytes f e h is =
    elim (cases_order (number_of f) 10) [
      | inl ten ↦ inl (is ∙ ap bad_program (memory_by_number f ten))
      | inr other ↦ inr (f, h (λ memory. let ten : number_of f ≡ 10 = ap number_of memory in elim other [ inl less ↦ absurd (omega (arith, ten, less)) | inr more ↦ absurd (omega (arith, ten, more)) ]), is)
    ]

-- recorded input that isn't read has a fault, or memory ran out
pub journal_refused : (bytes : Option (List ℕ)) (f : JournalFault) (e : Outcome) → (f ≢ journal.Memory → HasJournalFault bytes f) → e ≡ bad_journal f → IsRefusal (HasJournalFault bytes) bad_journal e
journal_refused bytes journal.Memory e h is = inl is
journal_refused bytes journal.Magic e h is = inr (journal.Magic, h (λ same. absurd cc), is)
journal_refused bytes journal.Version e h is = inr (journal.Version, h (λ same. absurd cc), is)
journal_refused bytes (journal.Truncated at) e h is = inr (journal.Truncated at, h (λ same. absurd cc), is)
journal_refused bytes (journal.TooLong at) e h is = inr (journal.TooLong at, h (λ same. absurd cc), is)
journal_refused bytes (journal.Trailing at) e h is = inr (journal.Trailing at, h (λ same. absurd cc), is)

-- ---- bytes say one thing at most, or have one fault, and not both

-- what is said is one
abbrev pub IsOne : {A : Type 0} → (A → Type 0) → Type 0
IsOne {A} P = (x y : A) → P x → P y → x ≡ y

-- what is said has no fault
abbrev pub Excludes : {A F : Type 0} → (A → Type 0) → (F → Type 0) → Type 0
Excludes {A} {F} IsText HasFault = (x : A) (f : F) → IsText x → HasFault f → ⊥

-- books

pub book_one : (bytes : List ℕ) → IsOne (IsBookText bytes)
book_one bytes a b h g = one_text bytes a b h g

pub book_fault_one : (bytes : List ℕ) → IsOne (HasBookFault bytes)
book_fault_one bytes a b h g = one_book_fault bytes a b h.0 g.0 h.1 g.1

pub book_excludes : (bytes : List ℕ) → Excludes (IsBookText bytes) (HasBookFault bytes)
book_excludes bytes b f h g = g.1 (not_refused bytes b f h g.0)

-- programs

pub start_one : (raw : Bool) (stack : ℕ) (bytes : List ℕ) → IsOne (IsStartOf raw stack bytes)
start_one true stack bytes a b h g = one_raw_start bytes stack a b h g
start_one false stack bytes a b h g = one_start bytes stack a b h g

pub program_fault_one : (raw : Bool) (stack : ℕ) (bytes : List ℕ) → IsOne (HasProgramFault raw stack bytes)
program_fault_one true stack bytes a b h g = one_raw_fault bytes stack a b h g
program_fault_one false stack bytes a b h g = one_file_fault bytes stack a b h g

pub start_excludes : (raw : Bool) (stack : ℕ) (bytes : List ℕ) → Excludes (IsStartOf raw stack bytes) (HasProgramFault raw stack bytes)
start_excludes true stack bytes s f h g = raw_programs_have_no_fault bytes stack s f h g
start_excludes false stack bytes s f h g = programs_have_no_fault bytes stack s f h g

-- recorded input

pub items_one : (bytes : Option (List ℕ)) → IsOne (AreItemsOf bytes)
items_one None a b h g = h ∙ sym g
items_one (Some bytes) a b h g = one_spelling bytes a b h g

pub journal_fault_one : (bytes : Option (List ℕ)) → IsOne (HasJournalFault bytes)
journal_fault_one None a b h g = absurd h
journal_fault_one (Some bytes) a b h g = one_fault bytes a b h g

pub items_exclude : (bytes : Option (List ℕ)) → Excludes (AreItemsOf bytes) (HasJournalFault bytes)
items_exclude None items f h g = g
items_exclude (Some bytes) items f h g = no_fault bytes items f h g

-- schedules, over the levels of a book

pub list_one : (text : List ℕ) (b : BookCosts) (bytes : List ℕ) → IsBookText text b → IsOne (IsSchedule (names_of b) bytes)
list_one text b bytes is x y h g = one_schedule (names_of b) (text_names text b is) bytes x y h g

pub text_fault_one : (text : List ℕ) (b : BookCosts) (bytes : List ℕ) → IsBookText text b → IsOne (HasFirstFault (names_of b) bytes)
text_fault_one text b bytes is x y h g = one_first_fault (names_of b) (text_names text b is) bytes x y h g

pub list_excludes : (text : List ℕ) (b : BookCosts) (bytes : List ℕ) → IsBookText text b → Excludes (IsSchedule (names_of b) bytes) (HasFirstFault (names_of b) bytes)
list_excludes text b bytes is list f h g = schedule_faultless (names_of b) (text_names text b is) bytes list f h g

-- certificates

pub certificate_one : (steps : ℕ) (b : BookCosts) (bytes : List ℕ) → IsOne (IsCertificateText steps b bytes)
certificate_one steps b bytes k l h g = one_certificate steps b bytes k l h g

pub certificate_fault_one : (steps : ℕ) (b : BookCosts) (bytes : List ℕ) → IsOne (CertificateFirst steps b bytes)
certificate_fault_one steps b bytes f e h g = one_certificate_fault steps b bytes f e h g

pub certificate_excludes : (steps : ℕ) (b : BookCosts) (bytes : List ℕ) → Excludes (IsCertificateText steps b bytes) (CertificateFirst steps b bytes)
certificate_excludes steps b bytes c f h g = certificates_have_no_fault steps b bytes c f h g

-- sources

pub source_one : (text : List ℕ) → IsOne (Means text)
source_one text a b h g = one_meaning text a b h g

pub source_fault_one : (text : List ℕ) → IsOne (HasFault text)
source_fault_one text a b h g = one_source_fault text a b h g

pub source_excludes : (text : List ℕ) → Excludes (Means text) (HasFault text)
source_excludes text words f h g = meanings_have_no_fault text words f h g

-- scripts

pub script_one : (steps : ℕ) (text : List ℕ) → IsOne (IsScript steps text)
script_one steps text a b h g = one_script steps text a b h g

pub script_fault_one : (steps : ℕ) (text : List ℕ) → IsOne (ScriptFirst steps text)
script_fault_one steps text a b h g = one_script_fault steps text a b h g

pub script_excludes : (steps : ℕ) (text : List ℕ) → Excludes (IsScript steps text) (ScriptFirst steps text)
script_excludes steps text orders f h g = scripts_have_no_fault steps text orders f h g
