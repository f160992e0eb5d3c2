-- The recorded input of a run that is loaded, and why it isn't read.
use Rattle.std.proofs.Common.{◌≡◌, ◌≢◌, inl, inr, ℕ, Bool, List, Option, None, Some, Err, sym, ap, subst}
use Rattle.keepers.specs.Counts.{Rose}
use Rattle.keepers.specs.Claims.{Files}
use Rattle.keepers.specs.declared.inputs.Inputs.{Ghosts}
use Rattle.input_journal.specs.declared.fault.JournalFault.{JournalFault}
use Rattle.input_journal.specs.declared.fault.JournalFault.TheVariants as journal
use Rattle.input_journal.specs.RecordedInput.{HasJournalFault}
use Rattle.elf_load.specs.Start.{IsStartOf}
use Rattle.rv_machine.specs.MachineState.{MachineState}
use Rattle.endings.specs.declared.outcome.Outcome.{Outcome}
use Rattle.requests.specs.declared.input_kind.InputKind.TheVariants as input
use Rattle.requests.specs.Operands.{Input, limit_of, named}
use Rattle.requests.specs.InputOutcome.{ReadsInput, IsLonger, IsThere}
use Rattle.endings.specs.Outcomes.{bad_journal, too_long}
use Rattle.reversal_gdb.specs.declared.words.Run.{Run}
use Rattle.reversal_gdb.specs.Loading.{IsJournalText, IsUnloaded, journal_name}

module _ {I : Type 0} (seen : Ghosts I) (run : Run) where
  -- recorded input that isn't read has a fault, or memory ran out
  pub journal_unloaded : (text : Option (List ℕ)) (f : JournalFault) (e : Outcome) (old new : I) → IsJournalText (seen.told old) (journal_name run) text → (f ≢ journal.Memory → HasJournalFault text f) → e ≡ bad_journal f →
      IsUnloaded seen run old new e
  journal_unloaded text journal.Memory e old new there h is = inl is
  journal_unloaded text journal.Magic e old new there h is = inr (inr (inr (text, journal.Magic, there, h (λ same. absurd cc), is)))
  journal_unloaded text journal.Version e old new there h is = inr (inr (inr (text, journal.Version, there, h (λ same. absurd cc), is)))
  journal_unloaded text (journal.Truncated at) e old new there h is = inr (inr (inr (text, journal.Truncated at, there, h (λ same. absurd cc), is)))
  journal_unloaded text (journal.TooLong at) e old new there h is = inr (inr (inr (text, journal.TooLong at, there, h (λ same. absurd cc), is)))
  journal_unloaded text (journal.Trailing at) e old new there h is = inr (inr (inr (text, journal.Trailing at, there, h (λ same. absurd cc), is)))

module _ {I A : Type 0} (seen : Ghosts I) (run : Run) where
  -- the recorded input isn't read
  pub second_unread : (name : List ℕ) (i : Input) (e : Outcome) (old mid new : I) → journal_name run ≡ Some name → i ≡ named input.Journal name → seen.told mid ≡ seen.told old → seen.fault_count mid ≡ seen.fault_count old →
      ReadsInput {I = I} {A = A} seen 2 i (Err e) mid new → IsUnloaded seen run old new e
  second_unread name i e old mid new has is same quiet r = elim r.stops [
    | inl failed ↦
        let N : ℕ → Type 0 = λ n. Rose n (seen.fault_count new) in
        inr (inl (inl (inr failed, subst N quiet (r.cause (ap (λ (a : Outcome). Err a) failed)))))
    | inr (inl memory) ↦ inl memory
    | inr (inr long) ↦
        let P : Input → Type 0 = λ j. (e ≡ too_long 2 (limit_of j.kind)) × IsLonger (seen.told mid) j in
        let W : Option Files → Type 0 = λ t. IsLonger t (named input.Journal name) in
        let there = subst P is long in
        inr (inl (inr (inr (name, has, there.0, subst W same there.1))))
  ]

-- ---- what a loaded run begins with

pub same_start : (raw : Bool) (stack : ℕ) (bytes bytes' : List ℕ) (s s' : MachineState) → bytes ≡ bytes' → s ≡ s' → IsStartOf raw stack bytes s → IsStartOf raw stack bytes' s'
same_start raw stack bytes bytes' s s' text state h =
    let D : List ℕ → Type 0 = λ x. IsStartOf raw stack x s in
    let E : MachineState → Type 0 = λ x. IsStartOf raw stack bytes' x in
    subst E state (subst D text h)

pub journal_there : (told : Option Files) (name bytes : Option (List ℕ)) (i : Input) (n b : List ℕ) → name ≡ Some n → bytes ≡ Some b → i ≡ named input.Journal n → IsThere told i b → IsJournalText told name bytes
journal_there told name bytes i n b has text is h =
    let A : Input → Type 0 = λ x. IsThere told x b in
    let B : Option (List ℕ) → Type 0 = λ x. IsJournalText told (Some n) x in
    let D : Option (List ℕ) → Type 0 = λ x. IsJournalText told x bytes in
    subst D (sym has) (subst B (sym text) (subst A is h))

pub no_journal : (told : Option Files) (name bytes : Option (List ℕ)) → name ≡ None → bytes ≡ None → IsJournalText told name bytes
no_journal told name bytes has text =
    let B : Option (List ℕ) → Type 0 = λ x. IsJournalText told None x in
    let D : Option (List ℕ) → Type 0 = λ x. IsJournalText told x bytes in
    subst D (sym has) (subst B (sym text) tt)
