-- What is read at the front of bytes is what their first run is, where no run goes on behind it.
use Rattle.std.proofs.Common.{◌≡◌, ℕ, ◌+◌, ◌-◌, ◌*◌, ◌<◌, ◌≤◌, ◌≢◌, true, false, cond, eqb, ltb, List, [], ◌∷◌, ◌++◌, length, take, drop, Option, Some, None, refl, sym, ap, ◌∙◌, arith, inl, inr, length-append, length-drop}
use Rattle.std.specs.Char.{is_ascii_digit}
use Rattle.std.specs.List.{list_all}
use Rattle.std.specs.Str.{bytes_eq}
use Rattle.std.proofs.lemmas.Bool.Decides.{nat_tests}
use Rattle.std.proofs.lemmas.Option.{some_pair_parts, same_Some}
use Rattle.std.proofs.lemmas.Bool.{eqb-true, eqb-false, ne_eqb}
use Rattle.std.proofs.lemmas.List.{append-nil, length-take-le, take-append-drop}
use Rattle.action_text.specs.Tokens.{is_run_byte, starts_run}
use Rattle.line_texts.specs.Numbers.{starts_with_digit}
use Rattle.action_text.specs.CursorState.{Rest, seen}
use Rattle.action_text.specs.Bytes.{run_length, run_of, behind_run, IsWord, behind_word, behind_front}
use Rattle.action_text.specs.Parser.{number_of, alone, text_at, behind, TakesWord}
use Rattle.line_texts.specs.Parsers.{digits_at, number_at, whole, number_of as line_number}
use Rattle.line_texts.proofs.Steps.{which, both, chosen, passed, passed_then}
use Rattle.action_text.proofs.NextToken.{run_more, run_stops, run_within, AtToken, word_there, no_word_there}
use Rattle.action_text.proofs.LevelWords.{same_bytes, bytes_same}

digit_is_run : (b : ℕ) → is_ascii_digit b ≡ true → is_run_byte b ≡ true
digit_is_run b digit = grind (arith, nat_tests)

-- a number, and the bytes behind it
abbrev some_before : ℕ → List ℕ → Option (ℕ × List ℕ)
some_before n bs = Some (n, bs)

run_of-more : (b : ℕ) (bs : List ℕ) → is_run_byte b ≡ true → run_of (b ∷ bs) ≡ b ∷ run_of bs
run_of-more b bs run = ap (λ (k : ℕ). take k (b ∷ bs)) (run_more b bs run)

run_of-stops : (b : ℕ) (bs : List ℕ) → is_run_byte b ≡ false → run_of (b ∷ bs) ≡ []
run_of-stops b bs other = ap (λ (k : ℕ). take k (b ∷ bs)) (run_stops b bs other)

behind_run-more : (b : ℕ) (bs : List ℕ) → is_run_byte b ≡ true → behind_run (b ∷ bs) ≡ behind_run bs
behind_run-more b bs run = ap (λ (k : ℕ). drop k (b ∷ bs)) (run_more b bs run)

behind_run-stops : (b : ℕ) (bs : List ℕ) → is_run_byte b ≡ false → behind_run (b ∷ bs) ≡ b ∷ bs
behind_run-stops b bs other = ap (λ (k : ℕ). drop k (b ∷ bs)) (run_stops b bs other)

run_of-none : (bs : List ℕ) → starts_run bs ≡ false → run_of bs ≡ []
unfolding run_length
run_of-none [] none = refl
run_of-none (b ∷ bs) none = run_of-stops b bs none

behind_run-none : (bs : List ℕ) → starts_run bs ≡ false → behind_run bs ≡ bs
unfolding run_length
behind_run-none [] none = refl
behind_run-none (b ∷ bs) none = behind_run-stops b bs none

-- ---- digits

not_whole : (n c : ℕ) (cs : List ℕ) → whole (some_before n (c ∷ cs)) ≡ None
not_whole n c cs = let some : length (c ∷ cs) ≢ 0 = λ e. omega (arith, e) in rw (ne_eqb (length (c ∷ cs)) 0 some) refl

alone-digits : (limit n : ℕ) (bs : List ℕ) → alone (digits_at limit n bs) ≡ whole (digits_at limit n (run_of bs))
unfolding digits_at run_length
alone-digits limit n [] = refl
alone-digits limit n (c ∷ cs) = elim (which (is_ascii_digit c)) [
  | inl digit ↦ rw (run_of-more c cs (digit_is_run c digit), digit) (elim (which (ltb limit (n * 10 + (c - 48)))) [
    | inl over ↦ rw over refl
    | inr fits ↦ rw fits (alone-digits limit (n * 10 + (c - 48)) cs)
  ])
  | inr other ↦ elim (which (is_run_byte c)) [
    | inl run ↦ rw (run_of-more c cs run, other, run) (sym (not_whole n c (run_of cs)))
    | inr stops ↦ rw (run_of-stops c cs stops, other, stops) refl
  ]
]

-- digits that no run goes on behind end the run
digits-behind : (limit n : ℕ) (bs : List ℕ) (x : ℕ) (rest : List ℕ) → digits_at limit n bs ≡ Some (x, rest) → starts_run rest ≡ false → rest ≡ behind_run bs
unfolding digits_at run_length
digits-behind limit n [] x rest e stops = sym (some_pair_parts n x [] rest e).1
digits-behind limit n (c ∷ cs) x rest e stops =
    elim (chosen (is_ascii_digit c) (cond (ltb limit (n * 10 + (c - 48))) None (digits_at limit (n * 10 + (c - 48)) cs)) (Some (n, c ∷ cs)) (Some (x, rest)) e) [
      | inl h ↦
          let below = passed (ltb limit (n * 10 + (c - 48))) (digits_at limit (n * 10 + (c - 48)) cs) (x, rest) h.1 in
          digits-behind limit (n * 10 + (c - 48)) cs x rest below.1 stops ∙ sym (behind_run-more c cs (digit_is_run c h.0))
      | inr h ↦
          let is : c ∷ cs ≡ rest = (some_pair_parts n x (c ∷ cs) rest h.1).1 in
          sym is ∙ sym (behind_run-none (c ∷ cs) (ap starts_run is ∙ stops))
    ]

-- ---- numbers

first_digit : (bs : List ℕ) → starts_with_digit (run_of bs) ≡ starts_with_digit bs
unfolding run_length
first_digit [] = refl
first_digit (c ∷ cs) = elim (which (is_run_byte c)) [
  | inl run ↦ rw (run_of-more c cs run) refl
  | inr stops ↦ elim (which (is_ascii_digit c)) [
    | inl digit ↦ absurd (cc (sym stops ∙ digit_is_run c digit))
    | inr other ↦ rw (run_of-stops c cs stops, other) refl
  ]
]

zero_alone : (cs : List ℕ) → alone (some_before 0 cs) ≡ whole (some_before 0 (run_of cs))
unfolding run_length
zero_alone [] = refl
zero_alone (c ∷ cs) = elim (which (is_run_byte c)) [
  | inl run ↦ rw (run_of-more c cs run, run) (sym (not_whole 0 c (run_of cs)))
  | inr stops ↦ rw (run_of-stops c cs stops, stops) refl
]

number_of_digits : (c : ℕ) (cs : List ℕ) → eqb c 48 ≡ false → is_ascii_digit c ≡ true → number_at 1000000 (c ∷ cs) ≡ digits_at 1000000 0 (c ∷ cs)
unfolding number_at
number_of_digits c cs other digit = rw (other, digit) refl

pub alone-number : (bs : List ℕ) → alone (number_at 1000000 bs) ≡ number_of (run_of bs)
unfolding number_at line_number
alone-number [] = rw (run_of-none [] refl) refl
alone-number (c ∷ cs) = elim (which (eqb c 48)) [
  | inl zero_digit ↦
      let is : c ≡ 48 = eqb-true _ _ zero_digit in
      rw (run_of-more c cs (rw is refl), zero_digit, first_digit cs) (elim (which (starts_with_digit cs)) [
        | inl more ↦ rw more refl
        | inr last ↦ rw last (zero_alone cs)
      ])
  | inr other ↦ elim (which (is_ascii_digit c)) [
    | inl digit ↦
        let more = run_of-more c cs (digit_is_run c digit) in
        ap alone (number_of_digits c cs other digit) ∙ alone-digits 1000000 0 (c ∷ cs)
        ∙ ap whole (ap (digits_at 1000000 0) more ∙ sym (number_of_digits c (run_of cs) other digit) ∙ ap (number_at 1000000) (sym more))
    | inr none ↦ elim (which (is_run_byte c)) [
      | inl run ↦ rw (run_of-more c cs run, other, none) refl
      | inr stops ↦ rw (run_of-stops c cs stops, other, none) refl
    ]
  ]
]

pub number-behind : (bs : List ℕ) (x : ℕ) (rest : List ℕ) → number_at 1000000 bs ≡ Some (x, rest) → starts_run rest ≡ false → rest ≡ behind_run bs
unfolding number_at
number-behind [] x rest e stops = absurd cc
number-behind (c ∷ cs) x rest e stops =
    elim (chosen (eqb c 48) (cond (starts_with_digit cs) None (Some (0, cs))) (cond (is_ascii_digit c) (digits_at 1000000 0 (c ∷ cs)) None) (Some (x, rest)) e) [
      | inl h ↦
          let is : c ≡ 48 = eqb-true _ _ h.0 in
          let last = passed (starts_with_digit cs) (Some (0, cs)) (x, rest) h.1 in
          let same : cs ≡ rest = (some_pair_parts 0 x cs rest last.1).1 in
          sym same ∙ sym (behind_run-none cs (ap starts_run same ∙ stops)) ∙ sym (behind_run-more c cs (rw is refl))
      | inr h ↦
          let some = passed_then (is_ascii_digit c) (digits_at 1000000 0 (c ∷ cs)) (x, rest) h.1 in
          digits-behind 1000000 0 (c ∷ cs) x rest some.1 stops
    ]

-- ---- whether there is a run

run_begins : (bs : List ℕ) → starts_run bs ≡ true → 0 < run_length bs
unfolding run_length
run_begins [] run = absurd cc
run_begins (b ∷ bs) run = rw run (omega arith)

run_is_none : (bs : List ℕ) → starts_run bs ≡ false → run_length bs ≡ 0
unfolding run_length
run_is_none [] none = refl
run_is_none (b ∷ bs) none = rw none refl

run_of_starts : (bs : List ℕ) → starts_run (run_of bs) ≡ true → starts_run bs ≡ true
run_of_starts bs run = elim (which (starts_run bs)) [
  | inl is ↦ is
  | inr none ↦ absurd (cc (sym run ∙ ap starts_run (run_of-none bs none)))
]

-- ---- words

over_word : (word rest : List ℕ) → list_all is_run_byte word ≡ true → (run_of (word ++ rest) ≡ word ++ run_of rest) × (behind_run (word ++ rest) ≡ behind_run rest)
over_word [] rest each = (refl, refl)
over_word (w ∷ ws) rest each =
    let p = both (is_run_byte w) (list_all is_run_byte ws) each in
    let others = over_word ws rest p.1 in
    (run_of-more w (ws ++ rest) p.0 ∙ ap (λ (xs : List ℕ). w ∷ xs) others.0, behind_run-more w (ws ++ rest) p.0 ∙ others.1)

-- a run at the front is a front
run_is_front : (bs word : List ℕ) → run_of bs ≡ word → take (length word) bs ≡ word
run_is_front bs word is =
    let len : length word ≡ run_length bs = ap length (sym is) ∙ length-take-le (run_length bs) bs (run_within bs) in
    ap (λ (k : ℕ). take k bs) len ∙ is

pub word_front : (bs word : List ℕ) → IsWord word → take (length word) bs ≡ word → starts_run (drop (length word) bs) ≡ false →
    behind_word bs word ≡ Some (drop (length word) bs)
word_front bs word is front stops =
    let rest = drop (length word) bs in
    let parts : bs ≡ word ++ rest = sym (take-append-drop (length word) bs) ∙ ap (λ (xs : List ℕ). xs ++ rest) front in
    let over = over_word word rest is.each in
    let run : run_of bs ≡ word = ap run_of parts ∙ over.0 ∙ ap (λ (xs : List ℕ). word ++ xs) (run_of-none rest stops) ∙ append-nil word in
    let behind : behind_run bs ≡ rest = ap behind_run parts ∙ over.1 ∙ behind_run-none rest stops in
    rw (bytes_same _ _ run) (ap Some behind)

pub word_differs : (bs word : List ℕ) → (run_of bs ≡ word → ⊥) → behind_word bs word ≡ None
word_differs bs word differs = elim (which (bytes_eq (run_of bs) word)) [
  | inl same ↦ absurd (differs (same_bytes _ _ same))
  | inr other ↦ rw other refl
]

pub word_longer : (bs word : List ℕ) → IsWord word → take (length word) bs ≡ word → starts_run (drop (length word) bs) ≡ true → behind_word bs word ≡ None
word_longer bs word is front more = word_differs bs word (λ (same : run_of bs ≡ word).
    let rest = drop (length word) bs in
    let parts : bs ≡ word ++ rest = sym (take-append-drop (length word) bs) ∙ ap (λ (xs : List ℕ). xs ++ rest) front in
    let run : word ++ run_of rest ≡ word = sym (over_word word rest is.each).0 ∙ ap run_of (sym parts) ∙ same in
    omega (arith, ap length run, length-append word (run_of rest), length-take-le (run_length rest) rest (run_within rest), run_begins rest more))

pub front_differs : (bs word : List ℕ) → (take (length word) bs ≡ word → ⊥) → behind_word bs word ≡ None
front_differs bs word differs = word_differs bs word (λ (same : run_of bs ≡ word). differs (run_is_front bs word same))

-- ---- fronts

pub begun_with : (bs word rest : List ℕ) → behind_front bs word ≡ Some rest → (take (length word) bs ≡ word) × (rest ≡ drop (length word) bs)
unfolding behind_front
begun_with bs [] rest e = (refl, sym (same_Some _ _ e))
begun_with [] (w ∷ ws) rest e = absurd cc
begun_with (b ∷ bs) (w ∷ ws) rest e = elim (which (eqb b w)) [
  | inl same ↦
      let others = begun_with bs ws rest (sym (rw same refl) ∙ e) in
      (ap (λ (xs : List ℕ). b ∷ xs) others.0 ∙ ap (λ (x : ℕ). x ∷ ws) (eqb-true _ _ same), others.1)
  | inr other ↦ absurd cc
]

pub not_begun_with : (bs word : List ℕ) → behind_front bs word ≡ None → take (length word) bs ≡ word → ⊥
unfolding behind_front
not_begun_with bs [] e front = absurd cc
not_begun_with [] (w ∷ ws) e front = absurd cc
not_begun_with (b ∷ bs) (w ∷ ws) e front =
    let head : b ≡ w = cc front in
    let tail : take (length ws) bs ≡ ws = cc front in
    elim (which (eqb b w)) [
      | inl same ↦ not_begun_with bs ws (sym (rw same refl) ∙ e) tail
      | inr other ↦ absurd (eqb-false b w other head)
    ]

-- ---- the next token

-- it is the run where the cursor stands, if there is one
next_run : (start : ℕ) (w : List ℕ) (old : Rest) → AtToken start w old → starts_run w ≡ true →
    (text_at old ≡ run_of w) × (seen start (behind_run w) ≡ behind old) × (starts_run (text_at old) ≡ true)
next_run start w old at run = word_there start w old at (run_begins w run)

no_run : (start : ℕ) (w : List ℕ) (old : Rest) → AtToken start w old → starts_run w ≡ false → starts_run (text_at old) ≡ false
no_run start w old at none = no_word_there start w old at (run_is_none w none)

run_number : (bs : List ℕ) (n : ℕ) → number_of (run_of bs) ≡ Some n → starts_run bs ≡ true
unfolding line_number number_at run_length
run_number bs n is = elim (which (starts_run bs)) [
  | inl run ↦ run
  | inr none ↦ absurd (cc (ap number_of (run_of-none bs none), is))
]

unrun_number : (text : List ℕ) → starts_run text ≡ false → number_of text ≡ None
unfolding line_number number_at
unrun_number [] none = refl
unrun_number (c ∷ cs) none = elim (which (is_ascii_digit c)) [
  | inl digit ↦ absurd (cc (sym none ∙ digit_is_run c digit))
  | inr other ↦ elim (which (eqb c 48)) [
    | inl zero_digit ↦ let run : is_run_byte c ≡ true = rw (eqb-true _ _ zero_digit) refl in absurd (cc (sym none ∙ run))
    | inr more ↦ rw (more, other) refl
  ]
]

pub number_there : (start : ℕ) (w : List ℕ) (old : Rest) (n : ℕ) (rest : List ℕ) → AtToken start w old → number_at 1000000 w ≡ Some (n, rest) → starts_run rest ≡ false →
    (number_of (text_at old) ≡ Some n) × (starts_run (text_at old) ≡ true) × (seen start rest ≡ behind old)
number_there start w old n rest at is stops =
    let run_is : number_of (run_of w) ≡ Some n = sym (alone-number w) ∙ ap alone is ∙ rw stops refl in
    let next = next_run start w old at (run_number w n run_is) in
    (ap number_of next.0 ∙ run_is, next.2, ap (seen start) (number-behind w n rest is stops) ∙ next.1)

pub number_within : (w : List ℕ) (n : ℕ) (rest : List ℕ) → number_at 1000000 w ≡ Some (n, rest) → starts_run rest ≡ false → length rest ≤ length w
number_within w n rest is stops = omega (arith, ap length (number-behind w n rest is stops), length-drop (run_length w) w)

pub no_number_there : (start : ℕ) (w : List ℕ) (old : Rest) → AtToken start w old → alone (number_at 1000000 w) ≡ None → number_of (text_at old) ≡ None
no_number_there start w old at none = elim (which (starts_run w)) [
  | inl run ↦ ap number_of (next_run start w old at run).0 ∙ sym (alone-number w) ∙ none
  | inr other ↦ unrun_number (text_at old) (no_run start w old at other)
]

pub word_within : (w word rest : List ℕ) → behind_word w word ≡ Some rest → length rest ≤ length w
word_within w word rest found = elim (chosen (bytes_eq (run_of w) word) (Some (behind_run w)) None (Some rest) found) [
  | inr other ↦ absurd (cc other.1)
  | inl same ↦ let is : behind_run w ≡ rest = same_Some _ _ same.1 in omega (arith, ap length is, length-drop (run_length w) w)
]

-- the word that stands there, and another one
pub this_word_there : (start : ℕ) (w : List ℕ) (old : Rest) (word rest : List ℕ) → AtToken start w old → IsWord word → behind_word w word ≡ Some rest →
    TakesWord true word old (seen start rest)
this_word_there start w old word rest at is found =
    elim (chosen (bytes_eq (run_of w) word) (Some (behind_run w)) None (Some rest) found) [
      | inr other ↦ absurd (cc other.1)
      | inl same ↦
          let run : starts_run w ≡ true = run_of_starts w (ap starts_run (same_bytes (run_of w) word same.0) ∙ is.some) in
          let next = next_run start w old at run in
          let behind_is : behind_run w ≡ rest = same_Some _ _ same.1 in
          (ap (λ (t : List ℕ). bytes_eq t word) next.0 ∙ same.0, next.2, ap (seen start) (sym behind_is) ∙ next.1)
    ]

pub other_word_there : (start : ℕ) (w : List ℕ) (old : Rest) (word : List ℕ) → AtToken start w old → IsWord word → behind_word w word ≡ None → bytes_eq (text_at old) word ≡ false
other_word_there start w old word at is none = elim (which (bytes_eq (text_at old) word)) [
  | inr other ↦ other
  | inl same ↦
      let starts : starts_run (text_at old) ≡ true = ap starts_run (same_bytes (text_at old) word same) ∙ is.some in
      elim (which (starts_run w)) [
        | inr stops ↦ absurd (cc (sym starts ∙ no_run start w old at stops))
        | inl run ↦
            let hit : bytes_eq (run_of w) word ≡ true = ap (λ (t : List ℕ). bytes_eq t word) (sym (next_run start w old at run).0) ∙ same in
            absurd (cc (rw hit at none))
      ]
]
