-- What a cursor sees of bytes: the next token and its place, and what is seen behind it; and the lines of a text.
use Rattle.std.proofs.Common.{◌≡◌, ℕ, zero, suc, ◌+◌, ◌-◌, ◌<◌, ◌≤◌, Bool, true, false, cond, eqb, ◌&&◌, List, [], ◌∷◌, length, take, drop, Some, None, refl, sym, ◌∙◌, ap, arith, inl, inr}
use Rattle.std.specs.Str.{bytes_eq}
use Rattle.std.proofs.lemmas.Bool.{eqb-true, ne_eqb}
use Rattle.line_texts.specs.Lines.{lines, longer_line}
use Rattle.line_texts.specs.Tokens.{Token, is_blank, starts_run, longer, tokens}
use Rattle.line_texts.specs.Parsers.{without_blanks, past, run_length, token_length, length_before}
use Rattle.line_texts.specs.Cursors.{token_of, text_in, IsMark}
use Rattle.line_texts.proofs.Steps.{which, itself}

-- no blank is in a run
abbrev pub IsApart : (ℕ → Bool) → Type 0
IsApart in_run = (b : ℕ) → in_run b ≡ true → is_blank b ≡ false

-- ---- blanks

without_blank : (b : ℕ) (bs : List ℕ) → is_blank b ≡ true → without_blanks (b ∷ bs) ≡ without_blanks bs
unfolding without_blanks
without_blank b bs blank = rw blank refl

with_other : (b : ℕ) (bs : List ℕ) → is_blank b ≡ false → without_blanks (b ∷ bs) ≡ b ∷ bs
unfolding without_blanks
with_other b bs other = rw other refl

with_nothing : without_blanks [] ≡ []
unfolding without_blanks
with_nothing = refl

pub without_blanks_within : (bs : List ℕ) → length (without_blanks bs) ≤ length bs
without_blanks_within [] = omega (arith, ap length with_nothing)
without_blanks_within (b ∷ bs) = elim (which (is_blank b)) [
  | inl blank ↦ omega (arith, ap length (without_blank b bs blank), without_blanks_within bs)
  | inr other ↦ omega (arith, ap length (with_other b bs other))
]

-- the first byte isn't a blank
pub first_is_no_blank : (bs : List ℕ) (b : ℕ) (rest : List ℕ) → without_blanks bs ≡ b ∷ rest → is_blank b ≡ false
unfolding without_blanks
first_is_no_blank [] b rest is = absurd cc
first_is_no_blank (c ∷ bs) b rest is = elim (which (is_blank c)) [
  | inl blank ↦ first_is_no_blank bs b rest (rw blank at is)
  | inr other ↦ let same : c ≡ b = cc (rw other at is) in rw (← same) other
]

-- ---- a byte that comes first

past_some : (byte : ℕ) (w behind : List ℕ) → past byte w ≡ Some behind → w ≡ byte ∷ behind
past_some byte [] behind is = absurd cc
past_some byte (b ∷ bs) behind is = elim (which (eqb b byte)) [
  | inl same ↦
      let byte_is : b ≡ byte = eqb-true _ _ same in
      let rest_is : bs ≡ behind = cc (rw same at is) in
      ap (λ (x : ℕ). x ∷ bs) byte_is ∙ ap (λ (xs : List ℕ). byte ∷ xs) rest_is
  | inr other ↦ absurd (cc (rw other at is))
]

other_text : (byte b : ℕ) (bs : List ℕ) → eqb b byte ≡ false → bytes_eq (b ∷ bs) (byte ∷ []) ≡ false
other_text byte b bs other = rw other refl

past_none : (byte b : ℕ) (bs : List ℕ) → past byte (b ∷ bs) ≡ None → eqb b byte ≡ false
past_none byte b bs none = elim (which (eqb b byte)) [
  | inl same ↦ absurd (cc (rw same at none))
  | inr other ↦ other
]

-- ---- the first line

line_end : (b : ℕ) (bs : List ℕ) → eqb b 10 ≡ true → (length_before 10 (b ∷ bs) ≡ 0) × (lines (b ∷ bs) ≡ [] ∷ lines bs)
unfolding lines
line_end b bs end = (rw end refl, rw end refl)

line_more : (b : ℕ) (bs : List ℕ) → eqb b 10 ≡ false → (length_before 10 (b ∷ bs) ≡ suc (length_before 10 bs)) × (lines (b ∷ bs) ≡ longer_line b (lines bs))
unfolding lines
line_more b bs more = (rw more (omega arith), rw more refl)

line_none : (length_before 10 [] ≡ 0) × (lines [] ≡ [] ∷ [])
unfolding lines
line_none = (refl, refl)

abbrev parted : List ℕ → ℕ → List (List ℕ)
parted bs n = take n bs ∷ cond (eqb (length (drop n bs)) 0) [] (lines (drop 1 (drop n bs)))

no_bytes : (b : ℕ) (bs : List ℕ) → parted (b ∷ bs) 0 ≡ [] ∷ lines bs
no_bytes b bs =
    let some : eqb (suc (length bs)) 0 ≡ false = ne_eqb (suc (length bs)) 0 (omega arith) in
    rw some refl

pub first_line : (bs : List ℕ) → lines bs ≡ parted bs (length_before 10 bs)
first_line [] = line_none.1 ∙ sym (ap (parted []) line_none.0)
first_line (b ∷ bs) = elim (which (eqb b 10)) [
  | inl end ↦ let e = line_end b bs end in e.1 ∙ sym (ap (parted (b ∷ bs)) e.0 ∙ no_bytes b bs)
  | inr more ↦ let e = line_more b bs more in e.1 ∙ ap (longer_line b) (first_line bs) ∙ sym (ap (parted (b ∷ bs)) e.0)
]

pub line_next : (rest line behind after : List ℕ) (n k : ℕ) (over : Bool) (old : List (List ℕ)) → cond over [] (lines rest) ≡ old → over ≡ false → length_before 10 rest ≡ n → line ≡ take n rest → behind ≡ drop n rest →
    k ≡ length behind → after ≡ drop 1 behind → old ≡ line ∷ cond (eqb k 0) [] (lines after)
line_next rest line behind after n k over old sees more len front back count rest_is =
    sym sees
    ∙ ap (λ (b : Bool). cond b [] (lines rest)) more
    ∙ first_line rest
    ∙ ap (parted rest) len
    ∙ ap (λ (xs : List ℕ). xs ∷ cond (eqb (length (drop n rest)) 0) [] (lines (drop 1 (drop n rest)))) (sym front)
    ∙ ap (λ (xs : List ℕ). line ∷ cond (eqb (length xs) 0) [] (lines (drop 1 xs))) (sym back)
    ∙ ap (λ (m : ℕ). line ∷ cond (eqb m 0) [] (lines (drop 1 behind))) (sym count)
    ∙ ap (λ (xs : List ℕ). line ∷ cond (eqb k 0) [] (lines xs)) (sym rest_is)

-- ---- how many lines

pub some_line : (bs : List ℕ) → (l : List ℕ) × (ls : List (List ℕ)) × (lines bs ≡ l ∷ ls)
unfolding lines
some_line [] = ([], [], refl)
some_line (b ∷ bs) = elim (which (eqb b 10)) [
  | inl end ↦ ([], lines bs, rw end refl)
  | inr more ↦ let s = some_line bs in (b ∷ s.0, s.1, rw more (ap (longer_line b) s.2))
]

pub lines_few : (bs : List ℕ) → length (lines bs) ≤ length bs + 1
unfolding lines
lines_few [] = omega arith
lines_few (b ∷ bs) = elim (which (eqb b 10)) [
  | inl end ↦ rw end (omega (arith, lines_few bs))
  | inr more ↦ let s = some_line bs in rw more (omega (arith, lines_few bs, ap (λ (ls : List (List ℕ)). length (longer_line b ls)) s.2, ap length s.2))
]

-- ---- tokens, where these bytes make runs

module _ (in_run : ℕ → Bool) (apart : IsApart in_run) where
  -- ---- one byte

  pub past_blank : (column b : ℕ) (bs : List ℕ) → is_blank b ≡ true → tokens in_run column (b ∷ bs) ≡ tokens in_run (column + 1) bs
  unfolding tokens
  past_blank column b bs blank = rw blank refl

  pub alone : (column b : ℕ) (bs : List ℕ) → is_blank b ≡ false → (in_run b && starts_run in_run bs) ≡ false →
      tokens in_run column (b ∷ bs) ≡ token_of column (b ∷ []) ∷ tokens in_run (column + 1) bs
  unfolding tokens
  alone column b bs blank single = rw (blank, single) refl

  pub longer_run : (column b : ℕ) (bs : List ℕ) → in_run b ≡ true → starts_run in_run bs ≡ true →
      tokens in_run column (b ∷ bs) ≡ longer column b (tokens in_run (column + 1) bs)
  unfolding tokens
  longer_run column b bs run goes_on = rw (apart b run, run, goes_on) refl

  pub nothing : (column : ℕ) → tokens in_run column [] ≡ []
  unfolding tokens
  nothing column = refl

  pub past_blanks : (column : ℕ) (bs : List ℕ) → tokens in_run column bs ≡ tokens in_run (column + (length bs - length (without_blanks bs))) (without_blanks bs)
  past_blanks column [] =
      let same : without_blanks [] ≡ [] = with_nothing in
      nothing column ∙ sym (ap (tokens in_run (column + (0 - length (without_blanks [])))) same ∙ nothing _)
  past_blanks column (b ∷ bs) = elim (which (is_blank b)) [
    | inl blank ↦
        let same = without_blank b bs blank in
        let within = without_blanks_within bs in
        let columns : (column + 1) + (length bs - length (without_blanks bs)) ≡ column + (length (b ∷ bs) - length (without_blanks (b ∷ bs))) = omega (arith, ap length same) in
        past_blank column b bs blank ∙ past_blanks (column + 1) bs
        ∙ ap (λ (k : ℕ). tokens in_run k (without_blanks bs)) columns
        ∙ ap (tokens in_run (column + (length (b ∷ bs) - length (without_blanks (b ∷ bs))))) (sym same)
    | inr other ↦
        let same = with_other b bs other in
        let columns : column ≡ column + (length (b ∷ bs) - length (without_blanks (b ∷ bs))) = omega (arith, ap length same) in
        ap (λ (k : ℕ). tokens in_run k (b ∷ bs)) columns
        ∙ ap (tokens in_run (column + (length (b ∷ bs) - length (without_blanks (b ∷ bs))))) (sym same)
  ]

  -- ---- runs

  pub run_none : (bs : List ℕ) → run_length in_run bs ≡ 0 → starts_run in_run bs ≡ false
  run_none [] none = refl
  run_none (b ∷ bs) none = elim (which (in_run b)) [
    | inl run ↦ absurd (omega (arith, rw run at none))
    | inr other ↦ other
  ]

  pub run_some : (bs : List ℕ) → 0 < run_length in_run bs → starts_run in_run bs ≡ true
  run_some [] some = absurd (omega arith)
  run_some (b ∷ bs) some = elim (which (in_run b)) [
    | inl run ↦ run
    | inr other ↦ absurd (omega (arith, rw other at some))
  ]

  pub run_more : (b : ℕ) (bs : List ℕ) → in_run b ≡ true → run_length in_run (b ∷ bs) ≡ suc (run_length in_run bs)
  run_more b bs run = rw run (omega arith)

  pub run_stops : (b : ℕ) (bs : List ℕ) → in_run b ≡ false → run_length in_run (b ∷ bs) ≡ 0
  run_stops b bs other = rw other refl

  run_empty : (n : ℕ) → run_length in_run [] ≡ suc n → ⊥
  run_empty n e = omega arith

  abbrev RunFrom : List ℕ → Type 0
  RunFrom bs = (n column : ℕ) → run_length in_run bs ≡ suc n → tokens in_run column bs ≡ token_of column (take (suc n) bs) ∷ tokens in_run (column + suc n) (drop (suc n) bs)

  behind_first : (b : ℕ) (bs : List ℕ) (column : ℕ) → RunFrom bs → (m : ℕ) → run_length in_run bs ≡ m → in_run b ≡ true →
      tokens in_run column (b ∷ bs) ≡ token_of column (take (suc m) (b ∷ bs)) ∷ tokens in_run (column + suc m) (drop (suc m) (b ∷ bs))
  behind_first b bs column others zero none run =
      let single : (in_run b && starts_run in_run bs) ≡ false = rw (run_none bs none, run) refl in
      alone column b bs (apart b run) single
  behind_first b bs column others (suc m) some run =
      let columns : (column + 1) + suc m ≡ column + suc (suc m) = omega arith in
      longer_run column b bs run (run_some bs (omega arith))
      ∙ ap (longer column b) (others m (column + 1) some)
      ∙ ap (λ (k : ℕ). token_of column (b ∷ take (suc m) bs) ∷ tokens in_run k (drop (suc m) bs)) columns

  from_run : (bs : List ℕ) → RunFrom bs
  from_run [] n column len = absurd (run_empty n len)
  from_run (b ∷ bs) n column len = elim (which (in_run b)) [
    | inr other ↦ absurd (omega (arith, rw other at len))
    | inl run ↦ behind_first b bs column (from_run bs) n (omega (arith, rw run at len)) run
  ]

  -- ---- the first token

  pub no_token : (column : ℕ) (w : List ℕ) → token_length in_run w ≡ 0 → tokens in_run column w ≡ []
  no_token column [] none = nothing column
  no_token column (b ∷ bs) none = elim (which (in_run b)) [
    | inl run ↦ absurd (omega (arith, rw run at none))
    | inr other ↦ absurd (omega (arith, rw other at none))
  ]

  token_some : (column : ℕ) (w : List ℕ) (n : ℕ) → ((b : ℕ) (bs : List ℕ) → w ≡ b ∷ bs → is_blank b ≡ false) → token_length in_run w ≡ suc n →
      tokens in_run column w ≡ token_of column (take (suc n) w) ∷ tokens in_run (column + suc n) (drop (suc n) w)
  token_some column [] n first some = absurd (omega arith)
  token_some column (b ∷ bs) n first some = elim (which (in_run b)) [
    | inl run ↦
        let more : suc (run_length in_run bs) ≡ suc n = omega (arith, rw run at some) in
        from_run (b ∷ bs) n column (run_more b bs run ∙ more)
    | inr other ↦
        let one : 1 ≡ suc n = rw other at some in
        let single : (in_run b && starts_run in_run bs) ≡ false = rw other refl in
        alone column b bs (first b bs refl) single
        ∙ ap (λ (k : ℕ). token_of column (take k (b ∷ bs)) ∷ tokens in_run (column + k) (drop k (b ∷ bs))) one
  ]

  -- behind blanks
  pub next_none : (column : ℕ) (rest w : List ℕ) → w ≡ without_blanks rest → token_length in_run w ≡ 0 → tokens in_run column rest ≡ []
  next_none column rest w is none =
      past_blanks column rest ∙ no_token _ (without_blanks rest) (ap (token_length in_run) (sym is) ∙ none)

  some_next : (column : ℕ) (rest w : List ℕ) (n k : ℕ) → w ≡ without_blanks rest → token_length in_run w ≡ n → n ≡ suc k →
      tokens in_run column rest ≡ token_of (column + (length rest - length w)) (take n w) ∷ tokens in_run ((column + (length rest - length w)) + n) (drop n w)
  some_next column rest w n k is len one =
      let first : (b : ℕ) (bs : List ℕ) → w ≡ b ∷ bs → is_blank b ≡ false = λ b bs parts. first_is_no_blank rest b bs (sym is ∙ parts) in
      let columns : length rest - length (without_blanks rest) ≡ length rest - length w = ap (λ (xs : List ℕ). length rest - length xs) (sym is) in
      past_blanks column rest
      ∙ ap (λ (j : ℕ). tokens in_run (column + j) (without_blanks rest)) columns
      ∙ ap (tokens in_run (column + (length rest - length w))) (sym is)
      ∙ token_some (column + (length rest - length w)) w k first (len ∙ one)
      ∙ ap (λ (j : ℕ). token_of (column + (length rest - length w)) (take j w) ∷ tokens in_run ((column + (length rest - length w)) + j) (drop j w)) (sym one)

  pub next_some : (column : ℕ) (rest w : List ℕ) (n : ℕ) → w ≡ without_blanks rest → token_length in_run w ≡ n → 0 < n →
      tokens in_run column rest ≡ token_of (column + (length rest - length w)) (take n w) ∷ tokens in_run ((column + (length rest - length w)) + n) (drop n w)
  next_some column rest w zero is len some = absurd (omega arith)
  next_some column rest w (suc k) is len some = some_next column rest w (suc k) k is len refl

  -- ---- a byte that is a token by itself

  mark_length : (byte : ℕ) (behind : List ℕ) → IsMark in_run byte → token_length in_run (byte ∷ behind) ≡ 1
  mark_length byte behind is = rw is.no_run refl

  mark_seen : (column : ℕ) (rest behind : List ℕ) (byte : ℕ) → IsMark in_run byte → without_blanks rest ≡ byte ∷ behind →
      tokens in_run column rest ≡ token_of (column + (length rest - length (byte ∷ behind))) (byte ∷ []) ∷ tokens in_run (column + (length rest - length behind)) behind
  mark_seen column rest behind byte is front =
      let within : suc (length behind) ≤ length rest = omega (arith, ap length front, without_blanks_within rest) in
      let columns : (column + (length rest - length (byte ∷ behind))) + 1 ≡ column + (length rest - length behind) = omega arith in
      next_some column rest (byte ∷ behind) 1 (sym front) (mark_length byte behind is) (omega arith)
      ∙ ap (λ (k : ℕ). token_of (column + (length rest - length (byte ∷ behind))) (byte ∷ []) ∷ tokens in_run k behind) columns

  pub mark_taken : (column next byte : ℕ) (rest w behind : List ℕ) (old : List Token) → IsMark in_run byte → tokens in_run column rest ≡ old → w ≡ without_blanks rest → past byte w ≡ Some behind →
      next ≡ column + (length rest - length behind) → (true ≡ bytes_eq (text_in old) (byte ∷ [])) × (tokens in_run next behind ≡ drop 1 old)
  mark_taken column next byte rest w behind old is sees front some at =
      let seen : old ≡ token_of (column + (length rest - length (byte ∷ behind))) (byte ∷ []) ∷ tokens in_run (column + (length rest - length behind)) behind =
      sym sees ∙ mark_seen column rest behind byte is (sym front ∙ past_some byte w behind some) in (
        sym (ap (λ (ts : List Token). bytes_eq (text_in ts) (byte ∷ [])) seen ∙ itself (byte ∷ [])),
        ap (λ (k : ℕ). tokens in_run k behind) at ∙ sym (ap (λ (ts : List Token). drop 1 ts) seen),
      )

  -- no token begins with another byte
  other_seen : (column byte n : ℕ) (rest w : List ℕ) → w ≡ without_blanks rest → past byte w ≡ None → token_length in_run w ≡ n → bytes_eq (text_in (tokens in_run column rest)) (byte ∷ []) ≡ false
  other_seen column byte zero rest w front none len = ap (λ (ts : List Token). bytes_eq (text_in ts) (byte ∷ [])) (next_none column rest w front len)
  other_seen column byte (suc n) rest [] front none len = absurd (omega arith)
  other_seen column byte (suc n) rest (b ∷ bs) front none len =
      ap (λ (ts : List Token). bytes_eq (text_in ts) (byte ∷ [])) (next_some column rest (b ∷ bs) (suc n) front len (omega arith))
      ∙ other_text byte b (take n bs) (past_none byte b bs none)

  pub mark_other : (column byte : ℕ) (rest w : List ℕ) (old : List Token) → tokens in_run column rest ≡ old → w ≡ without_blanks rest → past byte w ≡ None → false ≡ bytes_eq (text_in old) (byte ∷ [])
  mark_other column byte rest w old sees front none =
      sym (ap (λ (ts : List Token). bytes_eq (text_in ts) (byte ∷ [])) (sym sees) ∙ other_seen column byte (token_length in_run w) rest w front none refl)

  -- ---- what a step of a cursor gives

  pub next_at : (column : ℕ) (rest w text behind : List ℕ) (n at next : ℕ) (old : List Token) → tokens in_run column rest ≡ old → w ≡ without_blanks rest → token_length in_run w ≡ n → (n ≡ 0 → ⊥) →
      text ≡ take n w → behind ≡ drop n w → at ≡ column + (length rest - length w) → next ≡ at + n → old ≡ token_of at text ∷ tokens in_run next behind
  next_at column rest w text behind n at next old sees is len some front back columns nexts =
      let there : ℕ = column + (length rest - length w) in
      sym sees
      ∙ next_some column rest w n is len (omega (arith, some))
      ∙ ap (λ (k : ℕ). token_of k (take n w) ∷ tokens in_run (k + n) (drop n w)) (sym columns)
      ∙ ap (λ (k : ℕ). token_of at (take n w) ∷ tokens in_run k (drop n w)) (sym nexts)
      ∙ ap (λ (xs : List ℕ). token_of at xs ∷ tokens in_run next (drop n w)) (sym front)
      ∙ ap (λ (xs : List ℕ). token_of at text ∷ tokens in_run next xs) (sym back)
