-- Bytes are of one journal at most, or have one first fault.
use Rattle.std.proofs.Common.{◌≡◌, ◌≢◌, ◌⊎◌, ℕ, List, Result, Ok, Err, refl, sym, ◌∙◌, inl, inr, zero, suc, [], ◌∷◌, ◌<◌, arith}
use Rattle.std.specs.List.{AllByRecursion}
use Rattle.std.specs.Prelude.{MatchResult, IfOk, IfErr}
use Rattle.input_journal.specs.declared.fault.JournalFault.{JournalFault}
use Rattle.input_journal.specs.declared.fault.JournalFault.TheVariants.{Magic, Version, Truncated, TooLong, Trailing, Memory}
use Rattle.input_journal.specs.Form.{IsJournal}
use Rattle.input_journal.specs.Faults.{FirstFault}
use Rattle.input_journal.specs.Laws.{OneSpelling, OneFault, JournalsHaveNoFault, JournalOrFault}
use Rattle.input_journal.specs.Parser.{Gives, Fails, reading}
use Rattle.input_journal.proofs.Fields.{IsBytes, ok_is, err_is, not_both}
use Rattle.input_journal.proofs.WholeJournals.{journal_read, fault_read, read_is_journal, read_is_fault}

pub one_spelling : OneSpelling
one_spelling bytes a b is is' = ok_is a b (sym (journal_read bytes a is) ∙ journal_read bytes b is')

pub one_fault : OneFault
one_fault bytes a b f f' = err_is (List (List ℕ)) a b (sym (fault_read bytes a f) ∙ fault_read bytes b f')

pub no_fault : JournalsHaveNoFault
no_fault bytes items d is f = not_both items d (sym (journal_read bytes items is) ∙ fault_read bytes d f)

bytes_fit : (bytes : List ℕ) → AllByRecursion (λ b. b < 256) bytes → IsBytes bytes
bytes_fit [] all i = omega arith
bytes_fit (b ∷ bytes) all zero = all.0
bytes_fit (b ∷ bytes) all (suc i) = bytes_fit bytes all.1 i

either_read : (bytes : List ℕ) (read : Result (List (List ℕ)) JournalFault) → IsBytes bytes → reading bytes ≡ read → ((items : List (List ℕ)) × IsJournal bytes items) ⊎ ((fault : JournalFault) × FirstFault bytes fault)
either_read bytes (Ok items) fits e = inl (items, read_is_journal bytes items fits e)
either_read bytes (Err d) fits e = inr (d, read_is_fault bytes d fits e)

pub journal_or_fault : JournalOrFault
journal_or_fault bytes all = either_read bytes (reading bytes) (bytes_fit bytes all) refl

-- ---- what was returned, where it is what is read unless memory ran out

pub found : {X : Type 0} (bytes : List ℕ) (view : X → List (List ℕ)) (r : Result X JournalFault) → IsBytes bytes → Gives view r (reading bytes) → IfOk r (λ x. IsJournal bytes (view x))
found bytes view (Ok x) fits given = read_is_journal bytes (view x) fits given
found bytes view (Err d) fits given = tt

fails_so : (d e : JournalFault) (read : Result (List (List ℕ)) JournalFault) → Fails d read → read ≡ Err e → (d ≡ e) ⊎ (d ≡ Memory)
fails_so Magic e read given is = inl (err_is (List (List ℕ)) Magic e (sym given ∙ is))
fails_so Version e read given is = inl (err_is (List (List ℕ)) Version e (sym given ∙ is))
fails_so (Truncated at) e read given is = inl (err_is (List (List ℕ)) (Truncated at) e (sym given ∙ is))
fails_so (TooLong at) e read given is = inl (err_is (List (List ℕ)) (TooLong at) e (sym given ∙ is))
fails_so (Trailing at) e read given is = inl (err_is (List (List ℕ)) (Trailing at) e (sym given ∙ is))
fails_so Memory e read given is = inr refl

only_memory : (d : JournalFault) (items : List (List ℕ)) (read : Result (List (List ℕ)) JournalFault) → Fails d read → read ≡ Ok items → d ≡ Memory
only_memory Magic items read given is = absurd (not_both items Magic (sym is ∙ given))
only_memory Version items read given is = absurd (not_both items Version (sym is ∙ given))
only_memory (Truncated at) items read given is = absurd (not_both items (Truncated at) (sym is ∙ given))
only_memory (TooLong at) items read given is = absurd (not_both items (TooLong at) (sym is ∙ given))
only_memory (Trailing at) items read given is = absurd (not_both items (Trailing at) (sym is ∙ given))
only_memory Memory items read given is = refl

pub only : {X : Type 0} (bytes : List ℕ) (view : X → List (List ℕ)) (r : Result X JournalFault) → Gives view r (reading bytes) →
    (items : List (List ℕ)) → IsJournal bytes items → MatchResult r (λ x. view x ≡ items) (λ fault. fault ≡ Memory)
only bytes view (Ok x) given items is = ok_is (view x) items (sym given ∙ journal_read bytes items is)
only bytes view (Err d) given items is = only_memory d items (reading bytes) given (journal_read bytes items is)

fails_at : (d : JournalFault) (read : Result (List (List ℕ)) JournalFault) → d ≢ Memory → Fails d read → read ≡ Err d
fails_at Magic read ne given = given
fails_at Version read ne given = given
fails_at (Truncated at) read ne given = given
fails_at (TooLong at) read ne given = given
fails_at (Trailing at) read ne given = given
fails_at Memory read ne given = absurd (ne refl)

pub refused : {X : Type 0} (bytes : List ℕ) (view : X → List (List ℕ)) (r : Result X JournalFault) → IsBytes bytes → Gives view r (reading bytes) →
    IfErr r (λ fault. fault ≢ Memory → FirstFault bytes fault)
refused bytes view (Ok x) fits given = tt
refused bytes view (Err d) fits given = λ ne. read_is_fault bytes d fits (fails_at d (reading bytes) ne given)

pub first : {X : Type 0} (bytes : List ℕ) (view : X → List (List ℕ)) (r : Result X JournalFault) → Gives view r (reading bytes) →
    (fault : JournalFault) → FirstFault bytes fault → MatchResult r (λ _. ⊥) (λ answer. (answer ≡ fault) ⊎ (answer ≡ Memory))
first bytes view (Ok x) given fault f = not_both (view x) fault (sym given ∙ fault_read bytes fault f)
first bytes view (Err d) given fault f = fails_so d fault (reading bytes) given (fault_read bytes fault f)
