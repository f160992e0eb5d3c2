-- What is known of a finder on the way through a list.
use Rattle.std.proofs.Common.{◌≡◌, inl, inr, ℕ, zero, suc, ◌+◌, ◌<◌, ◌≤◌, List, [], ◌∷◌, map, slice_index_or, Option, Some, None, Any, IsSome, refl, sym, ◌∙◌, ap, subst, arith, add-zero}
use Rattle.std.proofs.lemmas.Bool.{cases_eq}
use Rattle.std.proofs.lemmas.Option.{none-some, same_Some}
use Rattle.rv_pages.specs.Memory.{Memory, byte_at}
use Rattle.rv_machine.specs.MachineState.{MachineState}
use Rattle.rv_machine.specs.StepTable.{written}
use Rattle.reverse_runner.specs.StateOrder.{numbers_from}
use Rattle.reverse_runner.specs.VisitorCalls.{GetsAll}
use Rattle.reverse_queries.specs.declared.finder.Sought.{Sought}
use Rattle.reverse_queries.specs.declared.finder.Sought.TheVariants.{Write, Change}
use Rattle.reverse_queries.specs.declared.finder.Finder.{Finder}
use Rattle.reverse_queries.specs.Queries.{word_bytes, Differ, IsLast}
use Rattle.reverse_queries.specs.FinderModel.{DoesWhatIsAsked, Finds, Looked, Got}
use Rattle.reverse_queries.proofs.Numbers.{head_same, rest_same}

-- the bytes of a word, one by one
byte_of_word : (m : Memory) (word k : ℕ) → k < 4 → slice_index_or (word_bytes m word) k None ≡ byte_at m (word + k)
byte_of_word m word zero lt = ap (byte_at m) (sym (add-zero word))
byte_of_word m word (suc zero) lt = refl
byte_of_word m word (suc (suc zero)) lt = refl
byte_of_word m word (suc (suc (suc zero))) lt = refl
byte_of_word m word (suc (suc (suc (suc k)))) lt = absurd (omega (arith, lt))

-- what a finder finds at a state is what its step does
finds_does : (question : Sought) (states : ℕ → MachineState) (journal : List (List ℕ)) (word n : ℕ) (s : MachineState) (later : List (Option ℕ)) → s ≡ states n →
    later ≡ word_bytes (states (n + 1)).memory word → Finds question word later s journal → DoesWhatIsAsked question journal word states n
finds_does Write states journal word n s later is after h = let P : MachineState → Type 0 = λ x. Any (λ at. (word ≤ at) × (at < word + 4)) (written x journal) in subst P is h
finds_does Change states journal word n s later is after (k, (lt, h)) =
    let A : MachineState → Type 0 = λ x. Differ (slice_index_or (word_bytes x.memory word) k None) (slice_index_or later k None) in
    let B : List (Option ℕ) → Type 0 = λ l. Differ (slice_index_or (word_bytes (states n).memory word) k None) (slice_index_or l k None) in
    let C : Option ℕ → Type 0 = λ o. Differ o (slice_index_or (word_bytes (states (n + 1)).memory word) k None) in
    let D : Option ℕ → Type 0 = λ o. Differ (byte_at (states n).memory (word + k)) o in
    (k, (lt, subst D (byte_of_word (states (n + 1)).memory word k lt) (subst C (byte_of_word (states n).memory word k lt) (subst B after (subst A is h)))))

does_finds : (question : Sought) (states : ℕ → MachineState) (journal : List (List ℕ)) (word n : ℕ) (s : MachineState) (later : List (Option ℕ)) → s ≡ states n →
    later ≡ word_bytes (states (n + 1)).memory word → DoesWhatIsAsked question journal word states n → Finds question word later s journal
does_finds Write states journal word n s later is after h = let P : MachineState → Type 0 = λ x. Any (λ at. (word ≤ at) × (at < word + 4)) (written x journal) in subst P (sym is) h
does_finds Change states journal word n s later is after (k, (lt, h)) =
    let A : MachineState → Type 0 = λ x. Differ (slice_index_or (word_bytes x.memory word) k None) (slice_index_or later k None) in
    let B : List (Option ℕ) → Type 0 = λ l. Differ (slice_index_or (word_bytes (states n).memory word) k None) (slice_index_or l k None) in
    let C : Option ℕ → Type 0 = λ o. Differ o (slice_index_or (word_bytes (states (n + 1)).memory word) k None) in
    let D : Option ℕ → Type 0 = λ o. Differ (byte_at (states n).memory (word + k)) o in
    (k, (lt, subst A (sym is) (subst B (sym after) (subst C (sym (byte_of_word (states n).memory word k lt)) (subst D (sym (byte_of_word (states (n + 1)).memory word k lt)) h)))))

-- A finder without an answer, that got all states from one number on: it keeps what it is asked, and none of them is one whose
-- step does it.
pub record Unfound (question : Sought) (states : ℕ → MachineState) (journal : List (List ℕ)) (word last from : ℕ) (f : Finder) : Type 0 where
  pub none : (m : ℕ) → from ≤ m → m < last → DoesWhatIsAsked question journal word states m → ⊥
  pub later : from ≤ last → f.later ≡ word_bytes (states from).memory word

-- what a finder is asked stays
pub record Asked (question : Sought) (word last : ℕ) (f : Finder) : Type 0 where
  pub question_is : f.question ≡ question
  pub word_is : f.word ≡ word
  pub last_is : f.last ≡ last
  pub unanswered : f.answer ≡ None

-- the finds of a finder that is asked so
same_finds : (question : Sought) (word : ℕ) (steps : ℕ) (f : Finder) (s : MachineState) (journal : List (List ℕ)) → Asked question word steps f → Finds f.question f.word f.later s journal → Finds question word f.later s journal
same_finds question word steps f s journal asked h =
    let Q : Sought → Type 0 = λ q. Finds q f.word f.later s journal in
    let W : ℕ → Type 0 = λ w. Finds question w f.later s journal in
    subst W asked.word_is (subst Q asked.question_is h)

finds_same : (question : Sought) (word : ℕ) (steps : ℕ) (f : Finder) (s : MachineState) (journal : List (List ℕ)) → Asked question word steps f → Finds question word f.later s journal → Finds f.question f.word f.later s journal
finds_same question word steps f s journal asked h =
    let Q : Sought → Type 0 = λ q. Finds q f.word f.later s journal in
    let W : ℕ → Type 0 = λ w. Finds question w f.later s journal in
    subst Q (sym asked.question_is) (subst W (sym asked.word_is) h)

-- a finder that got one state more, and still has no answer
unfound_on : (question : Sought) (states : ℕ → MachineState) (journal : List (List ℕ)) (word last m n : ℕ) (s : MachineState) (f g : Finder) → Asked question word last f → Looked f n s journal g →
    (n < f.last → Finds f.question f.word f.later s journal → ⊥) → s ≡ states n → m ≡ n + 1 → Unfound question states journal word last m f → Unfound question states journal word last n g
unfound_on question states journal word last m n s f g asked looked none is next unfound =
    let no : n < last → DoesWhatIsAsked question journal word states n → ⊥ = λ lt does.
    let later = unfound.later (omega (arith, lt, next)) ∙ ap (λ k. word_bytes (states k).memory word) next in
    let finds = does_finds question states journal word n s f.later is later does in
    none (let same = asked.last_is in omega (arith, lt, same)) (finds_same question word last f s journal asked finds) in
    let P : ℕ → Type 0 = λ k. k < last → DoesWhatIsAsked question journal word states k → ⊥ in
    record {
      none = λ k from lt does. elim (cases_eq k n) [
        | inl e ↦ subst P (sym e) no lt does
        | inr ne ↦ unfound.none k (omega (arith, from, ne, next)) lt does
      ];
      later = λ le. looked.later ∙ ap (λ (t : MachineState). word_bytes t.memory f.word) is ∙ ap (λ w. word_bytes (states n).memory w) asked.word_is;
    }

-- an answer is the last place
found_last : (question : Sought) (states : ℕ → MachineState) (journal : List (List ℕ)) (word last m n : ℕ) (s : MachineState) (f : Finder) → Asked question word last f → n < f.last → Finds f.question f.word f.later s journal →
    s ≡ states n → m ≡ n + 1 → Unfound question states journal word last m f → IsLast (DoesWhatIsAsked question journal word states) last (Some n)
found_last question states journal word last m n s f asked lt finds is next unfound =
    let same = asked.last_is in
    let later = unfound.later (omega (arith, lt, next, same)) ∙ ap (λ k. word_bytes (states k).memory word) next in (
      finds_does question states journal word n s f.later is later (same_finds question word last f s journal asked finds),
      omega (arith, lt, same),
      λ k above below does. unfound.none k (omega (arith, above, next)) below does,
    )

-- a finder is asked the same after a state
asked_on : (question : Sought) (word last n : ℕ) (s : MachineState) (journal : List (List ℕ)) (f g : Finder) → Asked question word last f → Looked f n s journal g → g.answer ≡ f.answer → Asked question word last g
asked_on question word last n s journal f g asked looked still = record {
  question_is = looked.question ∙ asked.question_is;
  word_is = looked.word ∙ asked.word_is;
  last_is = looked.last ∙ asked.last_is;
  unanswered = still ∙ asked.unanswered;
}

-- one that has an answer keeps it
answer_kept : (journal : List (List ℕ)) (numbers : List ℕ) (out : List MachineState) (k : ℕ) (f g : Finder) → f.answer ≡ Some k → GetsAll Got journal numbers out f g → g.answer ≡ Some k
answer_kept journal [] [] k f g answer h = ap (λ (x : Finder). x.answer) h ∙ answer
answer_kept journal [] (s ∷ out) k f g answer h = absurd h
answer_kept journal (n ∷ numbers) [] k f g answer h = absurd h
answer_kept journal (n ∷ numbers) (s ∷ out) k f g answer h =
    let P : Option ℕ → Type 0 = λ o. IsSome o in
    let same : h.0 ≡ f = h.1.0.keeps (subst P (sym answer) refl) in
    answer_kept journal numbers out k h.0 g (ap (λ (x : Finder). x.answer) same ∙ answer) h.1.1

-- what a finder is after the states with so many numbers, the last one first: by any states that have them it has no answer, or
-- its answer is the last place
pub record Ran (question : Sought) (word last from count : ℕ) (journal : List (List ℕ)) (out : List MachineState) (f g : Finder) : Type 0 where
  pub unanswered : g.answer ≡ None → Asked question word last g × ((states : ℕ → MachineState) → map states (numbers_from from count) ≡ out → Unfound question states journal word last (from + count) f → Unfound question states journal word last from g)
  pub answered :
      (k : ℕ) → g.answer ≡ Some k →
      (from ≤ k) × (k < from + count) × ((states : ℕ → MachineState) → map states (numbers_from from count) ≡ out → Unfound question states journal word last (from + count) f → IsLast (DoesWhatIsAsked question journal word states) last (Some k))

pub finder_runs : (question : Sought) (word last from count : ℕ) (journal : List (List ℕ)) (out : List MachineState) (f g : Finder) → Asked question word last f → GetsAll Got journal (numbers_from from count) out f g →
    Ran question word last from count journal out f g
finder_runs question word last from zero journal [] f g asked h =
    let P : Finder → Type 0 = λ x. Asked question word last x in
    record {
      unanswered = λ still. (
        subst P (sym h) asked,
        λ states have unfound.
            (let U : ℕ → Type 0 = λ m. Unfound question states journal word last m f in
            let F : Finder → Type 0 = λ x. Unfound question states journal word last from x in
            subst F (sym h) (subst U (add-zero from) unfound)),
      );
      answered = λ k answer. absurd (none-some k (sym asked.unanswered ∙ sym (ap (λ (x : Finder). x.answer) h) ∙ answer));
    }
finder_runs question word last from zero journal (s ∷ out) f g asked h = absurd h
finder_runs question word last from (suc count) journal [] f g asked h = absurd h
finder_runs question word last from (suc count) journal (s ∷ out) f g asked h =
    let n : ℕ = from + count in
    let next : from + suc count ≡ n + 1 = omega arith in
    let looked = h.1.0.looks asked.unanswered in
    elim looked.answer [
      | inl found ↦
          (let kept = answer_kept journal (numbers_from from count) out n h.0 g found.0 h.1.1 in
          record {
            unanswered = λ still. absurd (none-some n (sym still ∙ kept));
            answered = λ k answer.
                (let same : n ≡ k = same_Some n k (sym kept ∙ answer) in (
                  omega (arith, same),
                  omega (arith, same),
                  λ states have unfound.
                      (let P : ℕ → Type 0 = λ m. IsLast (DoesWhatIsAsked question journal word states) last (Some m) in
                      subst P same (found_last question states journal word last (from + suc count) n s f asked found.1 found.2 (sym (head_same have)) next unfound)),
                ));
          })
      | inr none ↦
          (let rest = finder_runs question word last from count journal out h.0 g (asked_on question word last n s journal f h.0 asked looked none.0) h.1.1 in
          let on : (states : ℕ → MachineState) → map states (numbers_from from (suc count)) ≡ s ∷ out → Unfound question states journal word last (from + suc count) f → Unfound question states journal word last n h.0 =
          λ states have unfound. unfound_on question states journal word last (from + suc count) n s f h.0 asked looked none.1 (sym (head_same have)) next unfound in
          record {
            unanswered = λ still. (let r = rest.unanswered still in (r.0, λ states have unfound. r.1 states (rest_same have) (on states have unfound)));
            answered = λ k answer.
                (let r = rest.answered k answer in
                let above = r.1 in
                (r.0, omega (arith, above), λ states have unfound. r.2 states (rest_same have) (on states have unfound)));
          })
    ]

-- where nothing is left there is no place
pub found_none : (question : Sought) (states : ℕ → MachineState) (journal : List (List ℕ)) (word last from : ℕ) (f : Finder) → from ≡ 0 → Unfound question states journal word last from f →
    IsLast (DoesWhatIsAsked question journal word states) last None
found_none question states journal word last from f all unfound = λ n lt does. unfound.none n (omega (arith, all)) lt does
