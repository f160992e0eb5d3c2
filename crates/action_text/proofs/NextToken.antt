-- What a cursor sees of bytes: the next token and its place, and what is seen behind it.
use Rattle.std.proofs.Common.{◌≡◌, ℕ, zero, suc, ◌+◌, ◌-◌, ◌<◌, ◌≤◌, true, false, eqb, ◌&&◌, List, [], ◌∷◌, length, take, drop, Some, None, Ok, Err, refl, sym, ◌∙◌, ap, subst, arith, inl, inr}
use Rattle.std.specs.Str.{bytes_eq}
use Rattle.std.proofs.lemmas.Bool.{eqb-true, eq-eqb}
use Rattle.std.proofs.lemmas.Bool.Decides.{nat_tests}
use Rattle.action_text.specs.Tokens.{is_run_byte, starts_run, tokens}
use Rattle.line_texts.specs.Tokens.{Token, is_blank, longer, tokens as line_tokens}
use Rattle.line_texts.specs.Lines.{lines, longer_line}
use Rattle.action_text.specs.CursorState.{Rest, first_line, later_lines, seen_from, seen}
use Rattle.action_text.specs.Bytes.{behind_line, ends_line, begins_nothing, run_length}
use Rattle.line_texts.specs.Parsers.{without_blanks, past}
use Rattle.action_text.specs.Parser.{text_at, column_at, behind, mark_next, end_next, not_action, has_line, next_line, says_nothing, is_nothing}
use Rattle.line_texts.proofs.Steps.{which}
use Rattle.line_texts.proofs.NextToken.{without_blanks_within, first_is_no_blank}

-- ---- bytes

pub blank_is_no_end : (b : ℕ) → is_blank b ≡ true → eqb b 10 ≡ false
blank_is_no_end b blank = grind (arith, nat_tests)

pub blank_is_no_run : (b : ℕ) → is_blank b ≡ true → is_run_byte b ≡ false
blank_is_no_run b blank = grind (arith, nat_tests)

pub run_is_no_end : (b : ℕ) → is_run_byte b ≡ true → eqb b 10 ≡ false
run_is_no_end b run = grind (arith, nat_tests)

pub run_is_no_blank : (b : ℕ) → is_run_byte b ≡ true → is_blank b ≡ false
run_is_no_blank b run = grind (arith, nat_tests)

-- a token before what is seen, and a byte before its first token
abbrev pub push : Token → Rest → Rest
push t rest = record rest { tokens = t ∷ rest.tokens }

abbrev pub put_before : ℕ → ℕ → Rest → Rest
put_before column b rest = record rest { tokens = longer column b rest.tokens }

-- the end of a line lies at the same place, counted from a byte or from the one behind it
end_moves : (ts : List Token) (column n : ℕ) (later : List (List ℕ)) (e : ℕ) → e ≡ column + suc n →
    ◌≡◌ {A = Rest} (record { tokens = ts; end = e; later = later }) (record { tokens = ts; end = (column + 1) + n; later = later })
end_moves ts column n later e is = ap (λ (x : ℕ). let r : Rest = record { tokens = ts; end = x; later = later } in r) (omega arith)

from_blank : (column b : ℕ) (bs : List ℕ) → is_blank b ≡ true → seen_from column (b ∷ bs) ≡ seen_from (column + 1) bs
unfolding line_tokens first_line later_lines
from_blank column b bs blank =
    rw (blank_is_no_end b blank, blank) (end_moves (tokens (column + 1) (first_line bs)) column (length (first_line bs)) (later_lines bs) _ refl)

from_alone : (column b : ℕ) (bs : List ℕ) → is_blank b ≡ false → eqb b 10 ≡ false → (is_run_byte b && starts_run (first_line bs)) ≡ false →
    seen_from column (b ∷ bs) ≡ push (record { column = column; text = b ∷ [] }) (seen_from (column + 1) bs)
unfolding line_tokens first_line later_lines
from_alone column b bs blank end alone =
    rw (end, blank, alone) (end_moves (record { column = column; text = b ∷ [] } ∷ tokens (column + 1) (first_line bs)) column (length (first_line bs)) (later_lines bs) _ refl)

from_longer : (column b : ℕ) (bs : List ℕ) → is_blank b ≡ false → eqb b 10 ≡ false → (is_run_byte b && starts_run (first_line bs)) ≡ true →
    seen_from column (b ∷ bs) ≡ put_before column b (seen_from (column + 1) bs)
unfolding line_tokens first_line later_lines
from_longer column b bs blank end run =
    rw (end, blank, run) (end_moves (longer column b (tokens (column + 1) (first_line bs))) column (length (first_line bs)) (later_lines bs) _ refl)

-- ---- runs

starts_run_first : (bs : List ℕ) → starts_run (first_line bs) ≡ starts_run bs
unfolding first_line
starts_run_first [] = refl
starts_run_first (c ∷ cs) = elim (which (eqb c 10)) [
  | inl end ↦ let is : c ≡ 10 = eqb-true _ _ end in rw is refl
  | inr more ↦ rw more refl
]

pub run_none : (bs : List ℕ) → run_length bs ≡ 0 → starts_run bs ≡ false
unfolding run_length
run_none [] none = refl
run_none (b ∷ bs) none = elim (which (is_run_byte b)) [
  | inl run ↦ absurd (omega (arith, rw run at none))
  | inr other ↦ other
]

pub run_some : (bs : List ℕ) → 0 < run_length bs → starts_run bs ≡ true
unfolding run_length
run_some [] some = absurd (omega arith)
run_some (b ∷ bs) some = elim (which (is_run_byte b)) [
  | inl run ↦ run
  | inr other ↦ absurd (omega (arith, rw other at some))
]

pub run_within : (bs : List ℕ) → run_length bs ≤ length bs
unfolding run_length
run_within [] = omega arith
run_within (b ∷ bs) = elim (which (is_run_byte b)) [
  | inl run ↦ rw run (omega (arith, run_within bs))
  | inr other ↦ rw other (omega arith)
]

-- one byte more, or the end of the run
pub run_more : (b : ℕ) (bs : List ℕ) → is_run_byte b ≡ true → run_length (b ∷ bs) ≡ suc (run_length bs)
unfolding run_length
run_more b bs run = rw run (omega arith)

pub run_stops : (b : ℕ) (bs : List ℕ) → is_run_byte b ≡ false → run_length (b ∷ bs) ≡ 0
unfolding run_length
run_stops b bs other = rw other refl

run_empty : (n : ℕ) → run_length [] ≡ suc n → ⊥
unfolding run_length
run_empty n e = omega arith

abbrev RunFrom : List ℕ → Type 0
RunFrom bs = (n column : ℕ) → run_length bs ≡ suc n →
    seen_from column bs ≡ push (record { column = column; text = take (suc n) bs }) (seen_from (column + suc n) (drop (suc n) bs))

behind_first : (b : ℕ) (bs : List ℕ) (column : ℕ) → RunFrom bs → (m : ℕ) → run_length bs ≡ m → is_run_byte b ≡ true →
    seen_from column (b ∷ bs) ≡ push (record { column = column; text = take (suc m) (b ∷ bs) }) (seen_from (column + suc m) (drop (suc m) (b ∷ bs)))
behind_first b bs column others zero none run =
    let alone : (is_run_byte b && starts_run (first_line bs)) ≡ false = rw (starts_run_first bs, run_none bs none, run) refl in
    from_alone column b bs (run_is_no_blank b run) (run_is_no_end b run) alone
behind_first b bs column others (suc m) some run =
    let longer_run : (is_run_byte b && starts_run (first_line bs)) ≡ true = rw (starts_run_first bs, run_some bs (omega arith), run) refl in
    let rest = others m (column + 1) some in
    let columns : (column + 1) + suc m ≡ column + suc (suc m) = omega arith in
    from_longer column b bs (run_is_no_blank b run) (run_is_no_end b run) longer_run
    ∙ ap (put_before column b) rest
    ∙ ap (λ (k : ℕ). push (record { column = column; text = b ∷ take (suc m) bs }) (seen_from k (drop (suc m) bs))) columns

from_run : (bs : List ℕ) → RunFrom bs
from_run [] n column len = absurd (run_empty n len)
from_run (b ∷ bs) n column len = elim (which (is_run_byte b)) [
  | inr other ↦ absurd (omega (arith, run_stops b bs other, len))
  | inl run ↦ behind_first b bs column (from_run bs) n (omega (arith, run_more b bs run, len)) run
]

-- ---- what a cursor sees

-- a cursor's column, where so many bytes were left at the beginning of its line
pub from_start : (start column : ℕ) (bs : List ℕ) → column ≡ start - length bs + 1 → seen_from column bs ≡ seen start bs
unfolding seen
from_start start column bs is = ap (λ (k : ℕ). seen_from k bs) is

pub seen_blank : (start b : ℕ) (bs : List ℕ) → is_blank b ≡ true → length (b ∷ bs) ≤ start → seen start (b ∷ bs) ≡ seen start bs
unfolding seen
seen_blank start b bs blank within = from_blank (start - length (b ∷ bs) + 1) b bs blank ∙ from_start start _ bs (omega arith)

pub seen_without_blanks : (start : ℕ) (bs : List ℕ) → length bs ≤ start → seen start (without_blanks bs) ≡ seen start bs
unfolding without_blanks
seen_without_blanks start [] within = refl
seen_without_blanks start (b ∷ bs) within = elim (which (is_blank b)) [
  | inl blank ↦ rw blank (seen_without_blanks start bs (omega arith) ∙ sym (seen_blank start b bs blank within))
  | inr other ↦ rw other refl
]

drop_length : (k : ℕ) (xs : List ℕ) → k ≤ length xs → length (drop k xs) + k ≡ length xs
drop_length zero xs le = omega arith
drop_length (suc k) [] le = absurd (omega arith)
drop_length (suc k) (x ∷ xs) le = omega (arith, drop_length k xs (omega arith))

run_of_length : (start : ℕ) (bs : List ℕ) → length bs ≤ start → (k : ℕ) → 0 < k → run_length bs ≡ k →
    seen start bs ≡ push (record { column = start - length bs + 1; text = take k bs }) (seen start (drop k bs))
unfolding seen
run_of_length start bs within zero some len = absurd (omega arith)
run_of_length start bs within (suc k) some len =
    let left = drop_length (suc k) bs (omega (arith, run_within bs, len)) in
    from_run bs k (start - length bs + 1) len
    ∙ ap (push (record { column = start - length bs + 1; text = take (suc k) bs })) (from_start start ((start - length bs + 1) + suc k) (drop (suc k) bs) (omega arith))

pub seen_run : (start : ℕ) (bs : List ℕ) → length bs ≤ start → 0 < run_length bs →
    seen start bs ≡ push (record { column = start - length bs + 1; text = take (run_length bs) bs }) (seen start (drop (run_length bs) bs))
seen_run start bs within some = run_of_length start bs within (run_length bs) some refl

pub seen_mark : (start b : ℕ) (bs : List ℕ) → length (b ∷ bs) ≤ start → is_blank b ≡ false → is_run_byte b ≡ false → eqb b 10 ≡ false →
    seen start (b ∷ bs) ≡ push (record { column = start - length (b ∷ bs) + 1; text = b ∷ [] }) (seen start bs)
unfolding seen
seen_mark start b bs within blank run end =
    let alone : (is_run_byte b && starts_run (first_line bs)) ≡ false = rw run refl in
    from_alone (start - length (b ∷ bs) + 1) b bs blank end alone
    ∙ ap (push (record { column = start - length (b ∷ bs) + 1; text = b ∷ [] })) (from_start start ((start - length (b ∷ bs) + 1) + 1) bs (omega arith))

-- a first token that begins with this byte stands in this column
pub record BeginsAt (rest : Rest) (b column : ℕ) : Type 0 where
  pub text : List ℕ
  pub others : List Token
  pub parts : rest.tokens ≡ record { column = column; text = b ∷ text } ∷ others

longer_begins : (column b : ℕ) (ts : List Token) → (text : List ℕ) × (others : List Token) × (longer column b ts ≡ record { column = column; text = b ∷ text } ∷ others)
longer_begins column b [] = ([], [], refl)
longer_begins column b (t ∷ ts) = (t.text, ts, refl)

pub begins : (start b : ℕ) (bs : List ℕ) → is_blank b ≡ false → eqb b 10 ≡ false → BeginsAt (seen start (b ∷ bs)) b (start - length (b ∷ bs) + 1)
unfolding seen
begins start b bs blank end =
    let column = start - length (b ∷ bs) + 1 in
    elim (which (is_run_byte b && starts_run (first_line bs))) [
      | inl run ↦
          let is = ap (λ (r : Rest). r.tokens) (from_longer column b bs blank end run) in
          let l = longer_begins column b (tokens (column + 1) (first_line bs)) in
          record { text = l.0; others = l.1; parts = is ∙ l.2 }
      | inr alone ↦ record { text = []; others = tokens (column + 1) (first_line bs); parts = ap (λ (r : Rest). r.tokens) (from_alone column b bs blank end alone) }
    ]

-- bytes at the end of their line
pub record EndsLine (rest : Rest) (column : ℕ) : Type 0 where
  pub none : rest.tokens ≡ []
  pub column_is : rest.end ≡ column

pub ends_nothing : (start : ℕ) → EndsLine (seen start []) (start - 0 + 1)
unfolding seen line_tokens first_line
ends_nothing start = record { none = refl; column_is = omega arith }

pub ends_at_line : (start b : ℕ) (bs : List ℕ) → eqb b 10 ≡ true → EndsLine (seen start (b ∷ bs)) (start - length (b ∷ bs) + 1)
unfolding seen line_tokens first_line
ends_at_line start b bs end = rw end (record { none = refl; column_is = omega arith })

-- ---- lines

pub lines_are : (bs : List ℕ) → lines bs ≡ first_line bs ∷ later_lines bs
unfolding lines first_line later_lines
lines_are [] = refl
lines_are (b ∷ bs) = elim (which (eqb b 10)) [
  | inl end ↦ rw end refl
  | inr more ↦ rw more (ap (longer_line b) (lines_are bs))
]

pub seen_whole : (bs : List ℕ) → seen (length bs) bs ≡ next_line (lines bs)
unfolding seen
seen_whole bs =
    let column : length bs - length bs + 1 ≡ 1 = omega arith in
    let end : 1 + length (first_line bs) ≡ length (first_line bs) + 1 = omega arith in
    ap (λ (k : ℕ). seen_from k bs) column
    ∙ ap (λ (e : ℕ). let r : Rest = record { tokens = tokens 1 (first_line bs); end = e; later = later_lines bs } in r) end
    ∙ sym (ap next_line (lines_are bs))

pub later_seen : (start : ℕ) (bs : List ℕ) → (seen start bs).later ≡ later_lines bs
unfolding seen
later_seen start bs = refl

pub later_none : (bs : List ℕ) → behind_line bs ≡ None → later_lines bs ≡ []
unfolding behind_line later_lines
later_none [] is = refl
later_none (b ∷ bs) is = elim (which (eqb b 10)) [
  | inl end ↦ absurd (cc (rw end at is))
  | inr more ↦ rw more (later_none bs (rw more at is))
]

pub later_some : (bs : List ℕ) (rest : List ℕ) → behind_line bs ≡ Some rest → later_lines bs ≡ lines rest
unfolding behind_line later_lines
later_some [] rest is = absurd cc
later_some (c ∷ bs) rest is = elim (which (eqb c 10)) [
  | inl end ↦ rw end (let same : bs ≡ rest = cc (rw end at is) in ap lines same)
  | inr more ↦ rw more (later_some bs rest (rw more at is))
]

pub behind_line_within : (bs : List ℕ) (rest : List ℕ) → behind_line bs ≡ Some rest → length rest ≤ length bs
unfolding behind_line
behind_line_within [] rest is = absurd cc
behind_line_within (c ∷ bs) rest is = elim (which (eqb c 10)) [
  | inl end ↦ let same : bs ≡ rest = cc (rw end at is) in omega (arith, ap length same)
  | inr more ↦ omega (arith, behind_line_within bs rest (rw more at is))
]

pub has_line_lines : (bs : List ℕ) → has_line (lines bs) ≡ true
has_line_lines bs = ap has_line (lines_are bs)

-- ---- the cursor at a token

-- it is at the first byte that isn't a blank, and sees what it saw
pub record AtToken (start : ℕ) (w : List ℕ) (old : Rest) : Type 0 where
  pub within : length w ≤ start
  pub sees : seen start w ≡ old
  pub no_blank : (b : ℕ) (bs : List ℕ) → w ≡ b ∷ bs → is_blank b ≡ false

pub at_token : (start : ℕ) (rest w : List ℕ) (old : Rest) → length rest ≤ start → w ≡ without_blanks rest → seen start rest ≡ old → AtToken start w old
at_token start rest w old within is sees = record {
  within = omega (arith, ap length is, without_blanks_within rest);
  sees = ap (seen start) is ∙ seen_without_blanks start rest within ∙ sees;
  no_blank = λ b bs parts. first_is_no_blank rest b bs (sym is ∙ parts);
}

-- what stands there, where a byte does that doesn't end the line
begins_old : (start b : ℕ) (bs : List ℕ) (old : Rest) → AtToken start (b ∷ bs) old → eqb b 10 ≡ false → BeginsAt old b (start - length (b ∷ bs) + 1)
begins_old start b bs old at more =
    let P : Rest → Type 0 = λ r. BeginsAt r b (start - length (b ∷ bs) + 1) in
    subst P at.sees (begins start b bs (at.no_blank b bs refl) more)

ends_old : (start : ℕ) (w : List ℕ) (old : Rest) → AtToken start w old → ends_line w ≡ true → EndsLine old (start - length w + 1)
ends_old start [] old at end = let P : Rest → Type 0 = λ r. EndsLine r (start - 0 + 1) in subst P at.sees (ends_nothing start)
ends_old start (b ∷ bs) old at end = let P : Rest → Type 0 = λ r. EndsLine r (start - length (b ∷ bs) + 1) in subst P at.sees (ends_at_line start b bs end)

-- the place of the next token, or of the line's end
pub column_there : (start : ℕ) (w : List ℕ) (old : Rest) → AtToken start w old → column_at old ≡ start - length w + 1
unfolding column_at
column_there start [] old at = let e = ends_old start [] old at refl in rw e.none e.column_is
column_there start (b ∷ bs) old at = elim (which (eqb b 10)) [
  | inl end ↦ let e = ends_old start (b ∷ bs) old at end in rw e.none e.column_is
  | inr more ↦ let g = begins_old start b bs old at more in rw g.parts refl
]

-- its text begins with another byte than this one, or there is none
pub text_differs : (start : ℕ) (w : List ℕ) (old : Rest) (byte : ℕ) (others : List ℕ) → AtToken start w old → past byte w ≡ None → eqb byte 10 ≡ false → bytes_eq (text_at old) (byte ∷ others) ≡ false
unfolding text_at
text_differs start [] old byte others at none mark = let e = ends_old start [] old at refl in rw e.none refl
text_differs start (b ∷ bs) old byte others at none mark = elim (which (eqb b 10)) [
  | inl end ↦ let e = ends_old start (b ∷ bs) old at end in rw e.none refl
  | inr more ↦ let g = begins_old start b bs old at more in rw (g.parts, not_first b none) refl
]
  where
    not_first : (b : ℕ) → past byte (b ∷ bs) ≡ None → eqb b byte ≡ false
    not_first b none = elim (which (eqb b byte)) [
      | inl same ↦ absurd (cc (rw same at none))
      | inr other ↦ other
    ]

-- the mark that stands there, and what is seen behind it
pub mark_there : (start : ℕ) (w : List ℕ) (old : Rest) (byte : ℕ) (rest : List ℕ) → AtToken start w old → past byte w ≡ Some rest → is_run_byte byte ≡ false → eqb byte 10 ≡ false →
    (text_at old ≡ byte ∷ []) × (seen start rest ≡ behind old) × (length rest ≤ length w)
unfolding text_at
mark_there start [] old byte rest at is run end = absurd cc
mark_there start (b ∷ bs) old byte rest at is run end = elim (which (eqb b byte)) [
  | inr other ↦ absurd (cc (rw other at is))
  | inl same ↦
      let byte_is : b ≡ byte = eqb-true _ _ same in
      let rest_is : bs ≡ rest = cc (rw same at is) in
      let there = sym (seen_mark start b bs at.within (at.no_blank b bs refl) (rw byte_is run) (rw byte_is end)) ∙ at.sees in
      (ap text_at (sym there) ∙ ap (λ (x : ℕ). x ∷ []) byte_is, ap (seen start) (sym rest_is) ∙ ap behind there, omega (arith, ap length rest_is))
]

-- whether the text of the next token is this byte
pub mark_is : (old : Rest) (byte : ℕ) (new : Rest) → text_at old ≡ byte ∷ [] → new ≡ behind old → mark_next (byte ∷ []) old ≡ Ok (text_at old, new)
unfolding mark_next
mark_is old byte new text is = rw (is, text, eq-eqb byte byte refl) refl

pub mark_isnt : (old : Rest) (byte column : ℕ) → bytes_eq (text_at old) (byte ∷ []) ≡ false → column ≡ column_at old → mark_next (byte ∷ []) old ≡ Err (not_action column)
unfolding mark_next
mark_isnt old byte column text is = rw (is, text) refl

-- a word that stands there
pub word_there : (start : ℕ) (w : List ℕ) (old : Rest) → AtToken start w old → 0 < run_length w →
    (text_at old ≡ take (run_length w) w) × (seen start (drop (run_length w) w) ≡ behind old) × (starts_run (text_at old) ≡ true)
unfolding text_at
word_there start w old at some =
    let there = sym (seen_run start w at.within some) ∙ at.sees in
    let text : text_at old ≡ take (run_length w) w = ap text_at (sym there) in
    (text, ap behind there, ap starts_run text ∙ taken w (run_length w) some (run_some w some))
  where
    taken : (xs : List ℕ) (k : ℕ) → 0 < k → starts_run xs ≡ true → starts_run (take k xs) ≡ true
    taken xs zero some run = absurd (omega arith)
    taken [] (suc k) some run = absurd cc
    taken (x ∷ xs) (suc k) some run = run

pub no_word_there : (start : ℕ) (w : List ℕ) (old : Rest) → AtToken start w old → run_length w ≡ 0 → starts_run (text_at old) ≡ false
unfolding text_at
no_word_there start [] old at none = let e = ends_old start [] old at refl in rw e.none refl
no_word_there start (b ∷ bs) old at none = elim (which (eqb b 10)) [
  | inl end ↦ let e = ends_old start (b ∷ bs) old at end in rw e.none refl
  | inr more ↦ let g = begins_old start b bs old at more in rw g.parts (run_none (b ∷ bs) none)
]

-- whether nothing stands there, or a comment
pub nothing_there : (start : ℕ) (w : List ℕ) (old : Rest) → AtToken start w old → begins_nothing w ≡ says_nothing old.tokens
nothing_there start [] old at = let e = ends_old start [] old at refl in rw e.none refl
nothing_there start (b ∷ bs) old at = elim (which (eqb b 10)) [
  | inl end ↦ let e = ends_old start (b ∷ bs) old at end in rw (e.none, end) refl
  | inr more ↦ elim (which (eqb b 35)) [
    | inl comment ↦
        let is : b ≡ 35 = eqb-true _ _ comment in
        let there = sym (seen_mark start b bs at.within (at.no_blank b bs refl) (rw is refl) more) ∙ at.sees in
        rw (← there, more, comment) refl
    | inr other ↦ let g = begins_old start b bs old at more in rw (g.parts, more, other) refl
  ]
]

pub end_there : (start : ℕ) (w : List ℕ) (old : Rest) → AtToken start w old → ends_line w ≡ is_nothing old.tokens
end_there start [] old at = let e = ends_old start [] old at refl in rw e.none refl
end_there start (b ∷ bs) old at = elim (which (eqb b 10)) [
  | inl end ↦ let e = ends_old start (b ∷ bs) old at end in rw (e.none, end) refl
  | inr more ↦ let g = begins_old start b bs old at more in rw (g.parts, more) refl
]

pub end_is : (old : Rest) → is_nothing old.tokens ≡ true → end_next old ≡ Ok []
unfolding end_next
end_is old none = rw none refl

pub end_isnt : (old : Rest) (column : ℕ) → is_nothing old.tokens ≡ false → column ≡ column_at old → end_next old ≡ Err (not_action column)
unfolding end_next
end_isnt old column some is = rw (some, is) refl

-- ---- from line to line

pub goes_on : (start : ℕ) (rest behind : List ℕ) (old : Rest) → seen start rest ≡ old → behind_line rest ≡ Some behind →
    (has_line old.later ≡ true) × (seen (length behind) behind ≡ next_line old.later)
goes_on start rest behind old sees is =
    let later : old.later ≡ lines behind = ap (λ (r : Rest). r.later) (sym sees) ∙ later_seen start rest ∙ later_some rest behind is in
    (ap has_line later ∙ has_line_lines behind, seen_whole behind ∙ sym (ap next_line later))

pub goes_nowhere : (start : ℕ) (rest : List ℕ) (old : Rest) → seen start rest ≡ old → behind_line rest ≡ None → has_line old.later ≡ false
goes_nowhere start rest old sees is =
    let later : old.later ≡ [] = ap (λ (r : Rest). r.later) (sym sees) ∙ later_seen start rest ∙ later_none rest is in
    ap has_line later
