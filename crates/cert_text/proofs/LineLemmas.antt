-- The lines of bytes, one after the other.
use Rattle.std.proofs.Common.{◌≡◌, ℕ, suc, ◌+◌, ◌-◌, ◌<◌, ◌≤◌, true, false, eqb, List, [], ◌∷◌, length, take, drop, refl, sym, ap, ◌∙◌, inl, inr, arith, length-drop, length-take}
use Rattle.std.specs.List.{position_or_len}
use Rattle.line_texts.specs.Lines.{lines, longer_line}
use Rattle.cert_text.specs.MarkedLines.{is_marked, marked, line_count}
use Rattle.std.proofs.Math.Seq.{take-length}
use Rattle.line_texts.proofs.Steps.{which}

-- how many bytes stand before the first that ends a line
abbrev pub of_line : List ℕ → ℕ
of_line bs = position_or_len (λ b. eqb b 10) bs

-- a line that is ended, and one that isn't
pub line_ended : (bs : List ℕ) (x : ℕ) (later : List ℕ) → drop (of_line bs) bs ≡ x ∷ later → lines bs ≡ take (of_line bs) bs ∷ lines later
unfolding lines
line_ended [] x later is = absurd cc
line_ended (b ∷ bs) x later is = elim (which (eqb b 10)) [
  | inl end ↦ let rest : bs ≡ later = cc (rw end at is) in rw end (ap (λ (cs : List ℕ). [] ∷ lines cs) rest)
  | inr more ↦
      let next : 1 + of_line bs ≡ suc (of_line bs) = omega arith in
      rw (more, next) (ap (longer_line b) (line_ended bs x later (rw (more, next) at is)))
]

pub line_open : (bs : List ℕ) → drop (of_line bs) bs ≡ [] → lines bs ≡ take (of_line bs) bs ∷ []
unfolding lines
line_open [] is = refl
line_open (b ∷ bs) is = elim (which (eqb b 10)) [
  | inl end ↦ absurd (let e : b ∷ bs ≡ [] = rw end at is in cc)
  | inr more ↦
      let next : 1 + of_line bs ≡ suc (of_line bs) = omega arith in
      rw (more, next) (ap (longer_line b) (line_open bs (rw (more, next) at is)))
]

-- an empty text has no marked line
pub none_in_empty : (n : ℕ) → marked n (lines []) ≡ []
unfolding marked lines
none_in_empty n = refl

pub none_left : (n : ℕ) (bs : List ℕ) → length bs ≡ 0 → marked n (lines bs) ≡ []
none_left n [] none = none_in_empty n
none_left n (b ∷ bs) none = absurd (omega arith)

-- all bytes behind the first two
behind_mark : (line : List ℕ) → take (length line - 2) (drop 2 line) ≡ drop 2 line
behind_mark [] = refl
behind_mark (a ∷ []) = refl
behind_mark (a ∷ b ∷ rest) = let size : length (a ∷ b ∷ rest) - 2 ≡ length rest = omega arith in ap (λ (i : ℕ). take i rest) size ∙ take-length rest

pub behind_mark_within : (line : List ℕ) → length (take (length line - 2) (drop 2 line)) ≤ length line
behind_mark_within line = omega (arith, ap length (behind_mark line), length-drop 2 line)

marked_open : (n : ℕ) (line : List ℕ) → marked n (line ∷ []) ≡ marked n (line ∷ lines [])
unfolding marked lines
marked_open n line = refl

-- what stands behind the line, where it is ended, and where it isn't
pub split_ended : (n k : ℕ) (bs line rest : List ℕ) → k ≡ of_line bs → line ≡ take k bs → rest ≡ drop k bs → 1 ≤ length rest →
    marked n (lines bs) ≡ marked n (line ∷ lines (take (length rest - 1) (drop 1 rest)))
split_ended n k bs line [] k_is line_is rest_is some = absurd (omega arith)
split_ended n k bs line (x ∷ later) k_is line_is rest_is some =
    let behind : drop (of_line bs) bs ≡ x ∷ later = ap (λ (i : ℕ). drop i bs) (sym k_is) ∙ sym rest_is in
    let front : line ≡ take (of_line bs) bs = line_is ∙ ap (λ (i : ℕ). take i bs) k_is in
    let size : length (x ∷ later) - 1 ≡ length later = omega arith in
    let all : take (length (x ∷ later) - 1) (drop 1 (x ∷ later)) ≡ later = ap (λ (i : ℕ). take i later) size ∙ take-length later in
    ap (marked n) (line_ended bs x later behind)
    ∙ ap (λ (ls : List (List ℕ)). marked n (take (of_line bs) bs ∷ ls)) (sym (ap lines all))
    ∙ ap (λ (l : List ℕ). marked n (l ∷ lines (take (length (x ∷ later) - 1) (drop 1 (x ∷ later))))) (sym front)

pub split_open : (n k : ℕ) (bs line rest : List ℕ) → k ≡ of_line bs → line ≡ take k bs → rest ≡ drop k bs → length rest < 1 →
    marked n (lines bs) ≡ marked n (line ∷ lines rest)
split_open n k bs line [] k_is line_is rest_is none =
    let behind : drop (of_line bs) bs ≡ [] = ap (λ (i : ℕ). drop i bs) (sym k_is) ∙ sym rest_is in
    let front : line ≡ take (of_line bs) bs = line_is ∙ ap (λ (i : ℕ). take i bs) k_is in
    ap (marked n) (line_open bs behind) ∙ ap (λ (l : List ℕ). marked n (l ∷ [])) (sym front) ∙ marked_open n line
split_open n k bs line (x ∷ later) k_is line_is rest_is none = absurd (omega arith)

-- ---- how many there are

-- there is always one, if empty
some_lines : (bs : List ℕ) → (line : List ℕ) × (rest : List (List ℕ)) × (lines bs ≡ line ∷ rest)
unfolding lines
some_lines [] = ([], [], refl)
some_lines (b ∷ bs) = elim (which (eqb b 10)) [
  | inl end ↦ ([], lines bs, rw end refl)
  | inr more ↦
      let behind = some_lines bs in
      (b ∷ behind.0, behind.1, rw (more, behind.2) refl)
]

none_counted : line_count (lines []) ≡ 0
unfolding lines
none_counted = refl

counted_before : (line next : List ℕ) (rest : List (List ℕ)) → line_count (line ∷ next ∷ rest) ≡ 1 + line_count (next ∷ rest)
counted_before [] next rest = refl
counted_before (b ∷ bs) next rest = refl

counted_ended : (line later : List ℕ) → line_count (line ∷ lines later) ≡ 1 + line_count (lines later)
counted_ended line later = let some = some_lines later in rw some.2 (counted_before line some.0 some.1)

counted_open : (line : List ℕ) → 0 < length line → line_count (line ∷ []) ≡ 1
counted_open [] some = absurd (omega arith)
counted_open (b ∷ bs) some = refl

pub split_counted : (k : ℕ) (bs rest : List ℕ) → k ≡ of_line bs → rest ≡ drop k bs → 1 ≤ length rest →
    line_count (lines bs) ≡ 1 + line_count (lines (take (length rest - 1) (drop 1 rest)))
split_counted k bs [] k_is rest_is some = absurd (omega arith)
split_counted k bs (x ∷ later) k_is rest_is some =
    let behind : drop (of_line bs) bs ≡ x ∷ later = ap (λ (i : ℕ). drop i bs) (sym k_is) ∙ sym rest_is in
    let size : length (x ∷ later) - 1 ≡ length later = omega arith in
    let all : take (length (x ∷ later) - 1) (drop 1 (x ∷ later)) ≡ later = ap (λ (i : ℕ). take i later) size ∙ take-length later in
    ap line_count (line_ended bs x later behind)
    ∙ counted_ended (take (of_line bs) bs) later
    ∙ ap (λ (l : List ℕ). 1 + line_count (lines l)) (sym all)

all_taken : (k : ℕ) (bs : List ℕ) → length (drop k bs) ≡ 0 → length (take k bs) ≡ length bs
all_taken k bs none = omega (arith, length-drop k bs, length-take k bs)

pub open_counted : (k : ℕ) (bs rest : List ℕ) → k ≡ of_line bs → rest ≡ drop k bs → length rest < 1 → 0 < length bs → line_count (lines bs) ≡ 1 + line_count (lines rest)
open_counted k bs [] k_is rest_is none some =
    let behind : drop (of_line bs) bs ≡ [] = ap (λ (i : ℕ). drop i bs) (sym k_is) ∙ sym rest_is in
    let whole : length (take (of_line bs) bs) ≡ length bs = all_taken (of_line bs) bs (ap length behind) in
    ap line_count (line_open bs behind) ∙ counted_open (take (of_line bs) bs) (omega arith) ∙ ap (λ (n : ℕ). 1 + n) (sym none_counted)
open_counted k bs (x ∷ later) k_is rest_is none some = absurd (omega arith)

pub no_line_counted : (bs : List ℕ) → length bs ≡ 0 → line_count (lines bs) ≡ 0
no_line_counted [] none = none_counted
no_line_counted (b ∷ bs) none = absurd (omega arith)

-- ---- marks

-- a line that is marked, and one that isn't
pub marked_here : (n : ℕ) (line : List ℕ) (rest : List (List ℕ)) → is_marked line ≡ true → marked n (line ∷ rest) ≡ record { number = n; text = drop 2 line } ∷ marked (n + 1) rest
unfolding marked
marked_here n line rest is = rw is refl

pub marked_first : (n : ℕ) (line : List ℕ) (rest : List (List ℕ)) → is_marked line ≡ true →
    marked n (line ∷ rest) ≡ record { number = n; text = take (length line - 2) (drop 2 line) } ∷ marked (n + 1) rest
marked_first n line rest is =
    marked_here n line rest is ∙ ap (λ (text : List ℕ). record { number = n; text = text } ∷ marked (n + 1) rest) (sym (behind_mark line))

pub marked_later : (n : ℕ) (line : List ℕ) (rest : List (List ℕ)) → is_marked line ≡ false → marked n (line ∷ rest) ≡ marked (n + 1) rest
unfolding marked
marked_later n line rest is = rw is refl
