-- The states that come from marks are those of the run, or the bytes that came back of a mark collide with its image.
use Rattle.std.proofs.Common.{◌≡◌, ◌≢◌, ◌⊎◌, inl, inr, ℕ, zero, suc, ◌+◌, ◌-◌, ◌<◌, ◌≤◌, List, [], ◌∷◌, ◌++◌, Some, None, Option, sym, ◌∙◌, ap, subst, arith}
use Rattle.std.specs.Str.{bytes_eq}
use Rattle.std.proofs.lemmas.Bool.{cases_eq, cases_lt, cases_Bool}
use Rattle.std.proofs.lemmas.Bool.Decides.{not_from_Decides}
use Rattle.std.proofs.lemmas.Slice.Eq.{bytes_eq-Decides}
use Rattle.std.proofs.lemmas.Option.{same_Some}
use Rattle.input_journal.specs.Form.{IsRecorded}
use Rattle.rv_machine.specs.MachineState.{MachineState, IsMachineState}
use Rattle.rv_machine.specs.States.{state_number}
use Rattle.rv_machine.proofs.Runs.{state_number_keeps_pages, state_number-add}
use Rattle.rv_machine.proofs.StateInvariant.{number_is_state}
use Rattle.state_image.specs.Image.{image}
use Rattle.state_image.specs.Line.{line}
use Rattle.state_image.proofs.ImageInjectivity.{image_tells}
use Rattle.image_store.specs.declared.shelf.Kept.{Kept}
use Rattle.reverse_queries.specs.Queries.{IsLast, ChangesWord, WritesWord}
use Rattle.reverse_console.specs.declared.order.Order.{Order}
use Rattle.reverse_console.specs.declared.order.Order.TheVariants.{Back, Step, Goto, BackTo, RunTo, BackChange, BackWrite}
use Rattle.reverse_console.specs.Answer.{IsAnswer, IsFirst, IsAt}
use Rattle.reverse_console.specs.Marks.{marked, mark_of}
use Rattle.reverse_console.specs.StateSources.{Source, ComesFrom, IsSeen, IsLastSeen, IsFirstSeen, HasPc, Changes, Writes, IsAnswerSeen}
use Rattle.reverse_console.specs.ScriptAnswers.{IsTextOf, answer_text}
use Rattle.reverse_console.specs.MarksOfRun.{KeepsMarks}
use Rattle.reverse_console.specs.Collision.{Collides, SeenCollides, LastCollides, FirstCollides, AnswerCollides, TextCollides}
use Rattle.reverse_console.proofs.FetchedStates.{changes_there, changes_back}

same_bytes : (xs ys : List ℕ) → (xs ≡ ys) ⊎ (xs ≢ ys)
same_bytes xs ys = elim (cases_Bool (bytes_eq xs ys)) [
  | inl e ↦ inl ((bytes_eq-Decides xs ys).0 e)
  | inr e ↦ inr (not_from_Decides (bytes_eq xs ys) (bytes_eq-Decides xs ys) e)
]

-- of each number below a bound one thing holds, or of one of them the other does
all_or_one : (P : ℕ → Type 0) (bound : ℕ) (Q : (n : ℕ) → n < bound → Type 0) → ((n : ℕ) (lt : n < bound) → P n ⊎ Q n lt) → ((n : ℕ) → n < bound → P n) ⊎ ((n : ℕ) × (lt : n < bound) × Q n lt)
all_or_one P zero Q each = inl (λ n lt. absurd (omega (arith, lt)))
all_or_one P (suc b) Q each =
    let less : (n : ℕ) → n < b → n < suc b = λ n lt. omega (arith, lt) in
    let last : b < suc b = omega arith in
    elim (each b last) [
      | inr q ↦ inr (b, last, q)
      | inl p ↦ elim (all_or_one P b (λ n lt. Q n (less n lt)) (λ n lt. each n (less n lt))) [
        | inr q ↦ inr (q.0, less q.0 q.1, q.2)
        | inl all ↦ inl (λ n lt. elim (cases_eq n b) [
          | inl e ↦ subst P (sym e) p
          | inr ne ↦ all n (omega (arith, lt, ne))
        ])
      ]
    ]

module _ (first : MachineState) (from : Source) (is : IsMachineState first) (recorded : IsRecorded from.journal) (keeps : KeepsMarks first from) where
  -- a state that comes from a mark is that of the run, or what came back collides
  pub state_or_collides : (i n : ℕ) (s : MachineState) (came : ComesFrom from i n s) → (s ≡ state_number first from.journal n) ⊎ Collides first from i n s came
  state_or_collides i n s came =
      let m = marked from.plan i in
      let mark = keeps.marks i came.known in
      let kept = came.fetched.0 in
      let one : mark.kept ≡ kept = same_Some mark.kept kept (sym mark.held ∙ came.fetched.1) in
      let digest = came.fetched.4 ∙ sym (ap (λ (k : Kept). k.digest) one) ∙ mark.digest_is in
      let below = came.below in
      let whole : m + (n - m) ≡ n = omega (arith, below) in
      elim (same_bytes came.bytes (image (state_number first from.journal m))) [
        | inr ne ↦ inr (record { other = ne; one_digest = digest })
        | inl e ↦ inl (
            let pages = came.decoded.2 ∙ keeps.machine ∙ sym (state_number_keeps_pages first from.journal m) in
            let there = image_tells came.state (state_number first from.journal m) came.decoded.0 (number_is_state first from.journal m is recorded) pages (came.decoded.1 ∙ e) in
            came.there ∙ ap (λ x. state_number x from.journal (n - m)) there ∙ sym (state_number-add first from.journal m (n - m)) ∙ ap (state_number first from.journal) whole
            )
      ]

  module _ (P : MachineState → Type 0) (Holds : ℕ → Type 0) (there : (n : ℕ) → P (state_number first from.journal n) → Holds n) (back : (n : ℕ) → Holds n → P (state_number first from.journal n)) where
    holds_or : (n : ℕ) (seen : IsSeen from P n) → Holds n ⊎ SeenCollides first from P n seen
    holds_or n seen = elim (state_or_collides seen.0 n seen.1.0 seen.1.1.0) [
      | inl e ↦ inl (there n (subst P e seen.1.1.1))
      | inr c ↦ inr c
    ]

    fails_or : (n : ℕ) (seen : IsSeen from (λ s. P s → ⊥) n) → (Holds n → ⊥) ⊎ SeenCollides first from (λ s. P s → ⊥) n seen
    fails_or n seen =
        let Q : MachineState → Type 0 = λ s. P s → ⊥ in
        elim (state_or_collides seen.0 n seen.1.0 seen.1.1.0) [
          | inl e ↦ inl (λ holds. subst Q e seen.1.1.1 (back n holds))
          | inr c ↦ inr c
        ]

    last_or : (bound : ℕ) (answer : Option ℕ) (h : IsLastSeen from P bound answer) → IsLast Holds bound answer ⊎ LastCollides first from P bound answer h
    last_or bound (Some m) h = elim (holds_or m h.0) [
      | inr c ↦ inr (inl c)
      | inl holds ↦
          let Q : (n : ℕ) → n < bound → Type 0 = λ n below. (above : m < n) × SeenCollides first from (λ s. P s → ⊥) n (h.2 n above below) in
          elim (all_or_one (λ n. m < n → Holds n → ⊥) bound Q (λ n below. elim (cases_lt m n) [
            | inr le ↦ inl (λ above. absurd (omega (arith, le, above)))
            | inl above ↦ elim (fails_or n (h.2 n above below)) [ inl fails ↦ inl (λ _. fails) | inr c ↦ inr (above, c) ]
          ])) [
            | inl all ↦ inl (holds, h.1, λ n above below. all n below above)
            | inr one ↦ inr (inr (one.0, one.2.0, one.1, one.2.1))
          ]
    ]
    last_or bound None h =
        let Q : (n : ℕ) → n < bound → Type 0 = λ n below. SeenCollides first from (λ s. P s → ⊥) n (h n below) in
        elim (all_or_one (λ n. Holds n → ⊥) bound Q (λ n below. fails_or n (h n below))) [
          | inl all ↦ inl all
          | inr one ↦ inr one
        ]

    first_or : (bound last : ℕ) (answer : Option ℕ) (h : IsFirstSeen from P bound last answer) → IsFirst Holds bound last answer ⊎ FirstCollides first from P bound last answer h
    first_or bound last (Some m) h = elim (holds_or m h.0) [
      | inr c ↦ inr (inl c)
      | inl holds ↦
          let Q : (n : ℕ) → n < m → Type 0 = λ n below. (above : bound < n) × SeenCollides first from (λ s. P s → ⊥) n (h.3 n above below) in
          elim (all_or_one (λ n. bound < n → Holds n → ⊥) m Q (λ n below. elim (cases_lt bound n) [
            | inr le ↦ inl (λ above. absurd (omega (arith, le, above)))
            | inl above ↦ elim (fails_or n (h.3 n above below)) [ inl fails ↦ inl (λ _. fails) | inr c ↦ inr (above, c) ]
          ])) [
            | inl all ↦ inl (holds, h.1, h.2, λ n above below. all n below above)
            | inr one ↦ inr (inr (one.0, one.2.0, one.1, one.2.1))
          ]
    ]
    first_or bound last None h =
        let most : (n : ℕ) → n < suc last → n ≤ last = λ n lt. omega (arith, lt) in
        let Q : (n : ℕ) → n < suc last → Type 0 = λ n lt. (above : bound < n) × SeenCollides first from (λ s. P s → ⊥) n (h n above (most n lt)) in
        elim (all_or_one (λ n. bound < n → Holds n → ⊥) (suc last) Q (λ n lt. elim (cases_lt bound n) [
          | inr le ↦ inl (λ above. absurd (omega (arith, le, above)))
          | inl above ↦ elim (fails_or n (h n above (most n lt))) [ inl fails ↦ inl (λ _. fails) | inr c ↦ inr (above, c) ]
        ])) [
          | inl all ↦ inl (λ n above le. all n (omega (arith, le)) above)
          | inr one ↦ inr (one.0, one.2.0, most one.0 one.1, one.2.1)
        ]

  -- an answer is that of an index into the states of the run, or what came back collides
  pub answer_or_collides : (place : ℕ) (order : Order) (answer : Option ℕ) (seen : IsAnswerSeen from place order answer) →
      IsAnswer first from.journal from.plan.count place order answer ⊎ AnswerCollides first from place order answer seen
  answer_or_collides place (Back k) answer h = inl h
  answer_or_collides place (Step k) answer h = inl h
  answer_or_collides place (Goto k) answer h = inl h
  answer_or_collides place (BackTo address) answer h = last_or (HasPc address) (IsAt first from.journal address) (λ n p. p) (λ n p. p) place answer h
  answer_or_collides place (RunTo address) answer h = first_or (HasPc address) (IsAt first from.journal address) (λ n p. p) (λ n p. p) place from.plan.count answer h
  answer_or_collides place (BackChange word) answer h =
      last_or (Changes from.journal word) (ChangesWord first from.journal word) (changes_there first from.journal word) (changes_back first from.journal word) place answer h
  answer_or_collides place (BackWrite word) answer h = last_or (Writes from.journal word) (WritesWord first from.journal word) (λ n p. p) (λ n p. p) place answer h

  -- and so is the line that is written
  pub text_or_collides : (answer : Option ℕ) (text : List ℕ) (says : IsTextOf from answer text) → (text ≡ answer_text first from.journal answer) ⊎ TextCollides first from answer text says
  text_or_collides (Some n) text h = elim (state_or_collides (mark_of from.plan n) n h.0 h.1.0) [
    | inl e ↦ inl (h.1.1 ∙ ap (λ s. line n s ++ 10 ∷ []) e)
    | inr c ↦ inr c
  ]
  text_or_collides None text h = inl h
