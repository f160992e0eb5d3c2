-- What is found at the front of bytes is in its canonical spelling, and a line that is one is read as its action.
use Rattle.std.proofs.Common.{◌≡◌, ◌≤◌, ◌<◌, ℕ, zero, suc, ◌+◌, ◌-◌, true, false, eqb, List, [], ◌∷◌, ◌++◌, length, take, drop, get_or, Option, Some, None, Result, Ok, Err, slice_get, refl, sym, ap, subst, ◌∙◌, arith, append_assoc, length-append}
use Rattle.std.specs.Prelude.{codes, decimal}
use Rattle.std.specs.Int.{w32, w64, from_le_bytes}
use Rattle.std.proofs.lemmas.Nat.{le_bytes_4, le_bytes_8}
use Rattle.std.proofs.lemmas.Option.{slice_get_within, get_or_from_slice_get}
use Rattle.std.proofs.lemmas.List.{take_all, take-append-drop}
use Rattle.level_book.specs.BookCosts.{BookCosts, names_of}
use Rattle.level_book.specs.Names.{AreNames}
use Rattle.level_book.specs.declared.book.Level.{Level}
use Rattle.plan_types.specs.declared.action.Keep.{Keep}
use Rattle.plan_types.specs.declared.action.Keep.TheVariants as keep
use Rattle.plan_types.specs.declared.action.Dest.{Dest}
use Rattle.plan_types.specs.declared.action.Dest.TheVariants as dest
use Rattle.plan_types.specs.declared.action.Action.{Action}
use Rattle.plan_types.specs.declared.action.Action.TheVariants as action
use Rattle.action_text.specs.declared.fault.Rule.{Rule}
use Rattle.line_texts.specs.declared.fault.LineFault.{LineFault}
use Rattle.action_text.specs.CursorState.{first_line, later_lines, seen}
use Rattle.action_text.specs.Meaning.{Says}
use Rattle.action_text.specs.ScheduleText.{texts}
use Rattle.action_text.specs.Bytes.{behind_front, ends_line}
use Rattle.action_text.specs.Canonical.{name_of, keep_text, dest_text, copy_text, canonical}
use Rattle.action_text.specs.Parser.{whole_line, next_line, line_of, number_of_rule}
use Rattle.line_texts.specs.Parsers.{number_at}
use Rattle.action_text.specs.CanonicalPrefix.{IsLevelAt, IsDestAt, IsKeepAt, IsImageAt, IsActionAt}
use Rattle.line_texts.proofs.Decimal.{number_taken}
use Rattle.action_text.proofs.FirstRun.{begun_with}
use Rattle.action_text.proofs.LevelWords.{name_of_level}
use Rattle.action_text.proofs.LineFaults.{IsAnswer, line_answer}
use Rattle.action_text.proofs.OneFault.{said_no_fault, said_not_passed}
use Rattle.action_text.proofs.ArgumentMeaning.{one_action}
use Rattle.action_text.proofs.NextToken.{lines_are, seen_whole, later_seen}
use Rattle.action_text.proofs.CanonicalRoundTrip.{HasNoEnd, canonical_says, endless}
use Rattle.line_texts.proofs.Steps.{done}

-- ---- bytes that were compared

abbrev pub AreBytes : List ℕ → Type 0
AreBytes bs = (i : ℕ) → get_or bs i 0 < 256

same_eight : (a b : List ℕ) (n m : ℕ) → length a ≡ 8 → length b ≡ 8 → AreBytes a → AreBytes b → n ≡ from_le_bytes w64 a → m ≡ from_le_bytes w64 b → n ≡ m → a ≡ b
same_eight a b n m eight also are bytes n_is m_is same = sym (le_bytes_8 a n eight are n_is) ∙ le_bytes_8 b n also bytes (same ∙ m_is)

same_four : (a b : List ℕ) (n m : ℕ) → length a ≡ 4 → length b ≡ 4 → AreBytes a → AreBytes b → n ≡ from_le_bytes w32 a → m ≡ from_le_bytes w32 b → n ≡ m → a ≡ b
same_four a b n m four also are bytes n_is m_is same = sym (le_bytes_4 a n four are n_is) ∙ le_bytes_4 b n also bytes (same ∙ m_is)

front_bytes : (xs rest : List ℕ) → AreBytes (xs ++ rest) → AreBytes xs
front_bytes [] rest are i = omega arith
front_bytes (x ∷ xs) rest are zero = are zero
front_bytes (x ∷ xs) rest are (suc i) = front_bytes xs rest (λ j. are (suc j)) i

-- the bytes behind so many
behind_all : (k : ℕ) (front rest : List ℕ) → length front ≡ k → take (length (front ++ rest) - k) rest ≡ rest
behind_all k front rest is = take_all (length (front ++ rest) - k) rest (omega (arith, length-append front rest, is))

pub eight_there : (bs word : List ℕ) (n m : ℕ) → 8 ≤ length bs → AreBytes bs → length word ≡ 8 → AreBytes word →
    n ≡ from_le_bytes w64 (get_or bs 0 0 ∷ get_or bs 1 0 ∷ get_or bs 2 0 ∷ get_or bs 3 0 ∷ get_or bs 4 0 ∷ get_or bs 5 0 ∷ get_or bs 6 0 ∷ get_or bs 7 0 ∷ []) →
    m ≡ from_le_bytes w64 word → n ≡ m → bs ≡ word ++ take (length bs - 8) (drop 8 bs)
eight_there (a ∷ b ∷ c ∷ d ∷ e ∷ f ∷ g ∷ h ∷ rest) word n m some are eight also n_is m_is same =
    let front : List ℕ = a ∷ b ∷ c ∷ d ∷ e ∷ f ∷ g ∷ h ∷ [] in
    let is : front ≡ word = same_eight front word n m refl eight (front_bytes front rest are) also n_is m_is same in
    ap (λ (xs : List ℕ). front ++ xs) (sym (behind_all 8 front rest refl)) ∙ ap (λ (xs : List ℕ). xs ++ take (length (front ++ rest) - 8) rest) is
eight_there [] word n m some are eight also n_is m_is same = absurd (omega (arith, some))
eight_there (a ∷ []) word n m some are eight also n_is m_is same = absurd (omega (arith, some))
eight_there (a ∷ b ∷ []) word n m some are eight also n_is m_is same = absurd (omega (arith, some))
eight_there (a ∷ b ∷ c ∷ []) word n m some are eight also n_is m_is same = absurd (omega (arith, some))
eight_there (a ∷ b ∷ c ∷ d ∷ []) word n m some are eight also n_is m_is same = absurd (omega (arith, some))
eight_there (a ∷ b ∷ c ∷ d ∷ e ∷ []) word n m some are eight also n_is m_is same = absurd (omega (arith, some))
eight_there (a ∷ b ∷ c ∷ d ∷ e ∷ f ∷ []) word n m some are eight also n_is m_is same = absurd (omega (arith, some))
eight_there (a ∷ b ∷ c ∷ d ∷ e ∷ f ∷ g ∷ []) word n m some are eight also n_is m_is same = absurd (omega (arith, some))

pub four_there : (bs word : List ℕ) (n m : ℕ) → 4 ≤ length bs → AreBytes bs → length word ≡ 4 → AreBytes word →
    n ≡ from_le_bytes w32 (get_or bs 0 0 ∷ get_or bs 1 0 ∷ get_or bs 2 0 ∷ get_or bs 3 0 ∷ []) →
    m ≡ from_le_bytes w32 word → n ≡ m → bs ≡ word ++ take (length bs - 4) (drop 4 bs)
four_there (a ∷ b ∷ c ∷ d ∷ rest) word n m some are four also n_is m_is same =
    let front : List ℕ = a ∷ b ∷ c ∷ d ∷ [] in
    let is : front ≡ word = same_four front word n m refl four (front_bytes front rest are) also n_is m_is same in
    ap (λ (xs : List ℕ). front ++ xs) (sym (behind_all 4 front rest refl)) ∙ ap (λ (xs : List ℕ). xs ++ take (length (front ++ rest) - 4) rest) is
four_there [] word n m some are four also n_is m_is same = absurd (omega (arith, some))
four_there (a ∷ []) word n m some are four also n_is m_is same = absurd (omega (arith, some))
four_there (a ∷ b ∷ []) word n m some are four also n_is m_is same = absurd (omega (arith, some))
four_there (a ∷ b ∷ c ∷ []) word n m some are four also n_is m_is same = absurd (omega (arith, some))

pub front_parts : (bs word rest : List ℕ) → behind_front bs word ≡ Some rest → bs ≡ word ++ rest
front_parts bs word rest found =
    let begun = begun_with bs word rest found in
    sym (take-append-drop (length word) bs) ∙ ap (λ (xs : List ℕ). xs ++ drop (length word) bs) begun.0 ∙ ap (λ (xs : List ℕ). word ++ xs) (sym begun.1)

-- ---- the parts of an action

pub level_written : (book : BookCosts) (k : ℕ) (level : Level) (bytes rest : List ℕ) → slice_get book.levels k ≡ Some level → behind_front bytes level.name ≡ Some rest →
    IsLevelAt (names_of book) bytes k rest
level_written book k level bytes rest at found =
    let named = name_of_level book k level at in
    record {
      is = slice_get_within (names_of book) k level.name named;
      parts = front_parts bytes level.name rest found ∙ ap (λ (xs : List ℕ). xs ++ rest) (sym (get_or_from_slice_get (names_of book) k level.name [] named));
    }

two_parts : (before n between m after rest : List ℕ) → before ++ (n ++ (between ++ (m ++ (after ++ rest)))) ≡ ((((before ++ n) ++ between) ++ m) ++ after) ++ rest
two_parts before n between m after rest = sym (simp append_assoc)

one_part : (before n after rest : List ℕ) → before ++ (n ++ (after ++ rest)) ≡ ((before ++ n) ++ after) ++ rest
one_part before n after rest = sym (simp append_assoc)

-- a number, a comma, another number, and what stands behind it
numbers_parts : (bytes second third rest after : List ℕ) (n m : ℕ) → bytes ≡ decimal n ++ second → second ≡ codes ", " ++ third → third ≡ decimal m ++ rest → (before back : List ℕ) → rest ≡ after ++ back →
    before ++ bytes ≡ ((((before ++ decimal n) ++ codes ", ") ++ decimal m) ++ after) ++ back
numbers_parts bytes second third rest after n m first comma next before back last =
    ap (λ (xs : List ℕ). before ++ xs) (first ∙ ap (λ (xs : List ℕ). decimal n ++ xs) (comma ∙ ap (λ (xs : List ℕ). codes ", " ++ xs) (next ∙ ap (λ (xs : List ℕ). decimal m ++ xs) last)))
    ∙ two_parts before (decimal n) (codes ", ") (decimal m) after back

pub tape_written : (names : List (List ℕ)) (bytes second third rest : List ℕ) (n m : ℕ) → bytes ≡ codes ", False," ++ second → second ≡ codes " True, W" ++ third → third ≡ codes "ORK)" ++ rest → m ≡ n + 1 →
    IsKeepAt names n m bytes keep.Tape rest
tape_written names bytes second third rest n m first next last one = record {
  can = one;
  parts = first ∙ ap (λ (xs : List ℕ). codes ", False," ++ xs) (next ∙ ap (λ (xs : List ℕ). codes " True, W" ++ xs) last);
}

pub nothing_written : (names : List (List ℕ)) (bytes second third fourth rest : List ℕ) (n m : ℕ) → bytes ≡ codes ", False," ++ second → second ≡ codes " False, " ++ third → third ≡ codes "NONE" ++ fourth →
    fourth ≡ codes ")" ++ rest → IsKeepAt names n m bytes keep.Nothing rest
nothing_written names bytes second third fourth rest n m first next last close = record {
  can = tt;
  parts = first ∙ ap (λ (xs : List ℕ). codes ", False," ++ xs) (next ∙ ap (λ (xs : List ℕ). codes " False, " ++ xs) (last ∙ ap (λ (xs : List ℕ). codes "NONE" ++ xs) close));
}

store_parts : (before name close rest : List ℕ) → before ++ (name ++ (close ++ rest)) ≡ ((before ++ name) ++ close) ++ rest
store_parts before name close rest = sym (simp append_assoc)

pub store_written : (names : List (List ℕ)) (bytes second third fourth place last rest : List ℕ) (k n m : ℕ) → bytes ≡ codes ", True, " ++ second → second ≡ codes "Fals" ++ third → behind_front third (codes "e") ≡ Some fourth →
    fourth ≡ codes ", " ++ place → IsLevelAt names place k last → last ≡ codes ")" ++ rest → IsKeepAt names n m bytes (keep.Store k) rest
store_written names bytes second third fourth place last rest k n m first next e comma level close =
    let name = name_of names k in
    let inner : place ≡ name ++ (codes ")" ++ rest) = level.parts ∙ ap (λ (xs : List ℕ). name ++ xs) close in
    let false_parts : third ≡ codes "e, " ++ place = front_parts third (codes "e") fourth e ∙ ap (λ (xs : List ℕ). codes "e" ++ xs) comma in
    let whole : bytes ≡ codes ", True, False, " ++ place = first ∙ ap (λ (xs : List ℕ). codes ", True, " ++ xs) (next ∙ ap (λ (xs : List ℕ). codes "Fals" ++ xs) false_parts) in
    record { can = level.is; parts = whole ∙ ap (λ (xs : List ℕ). codes ", True, False, " ++ xs) inner ∙ store_parts (codes ", True, False, ") name (codes ")") rest }

pub work_written : (names : List (List ℕ)) (bytes rest : List ℕ) → bytes ≡ codes "WORK" ++ rest → IsDestAt names bytes dest.Work rest
work_written names bytes rest is = record { is = tt; parts = is }

pub goes_to_level : (names : List (List ℕ)) (bytes rest : List ℕ) (k : ℕ) → IsLevelAt names bytes k rest → IsDestAt names bytes (dest.Level k) rest
goes_to_level names bytes rest k level = record { is = level.is; parts = level.parts }

pub forward_written : (names : List (List ℕ)) (bytes second third fourth rest : List ℕ) (n m : ℕ) (kept_as : Keep) →
    number_at 1000000 bytes ≡ Some (n, second) → second ≡ codes ", " ++ third → number_at 1000000 third ≡ Some (m, fourth) → IsKeepAt names n m fourth kept_as rest →
    IsActionAt names (codes "Forward(" ++ bytes) (action.Forward n m kept_as) rest
forward_written names bytes second third fourth rest n m kept_as first comma next kept =
    let a = number_taken 1000000 bytes n second (omega arith) first in
    let b = number_taken 1000000 third m fourth (omega arith) next in
    record {
      spelling = (a.small, b.small, kept.can);
      parts = numbers_parts bytes second third fourth (keep_text names kept_as) n m a.text comma b.text (codes "Forward(") rest kept.parts;
    }

pub reverse_written : (names : List (List ℕ)) (bytes second third fourth rest : List ℕ) (n m : ℕ) →
    number_at 1000000 bytes ≡ Some (n, second) → second ≡ codes ", " ++ third → number_at 1000000 third ≡ Some (m, fourth) → fourth ≡ codes ", True)" ++ rest → n ≡ m + 1 →
    IsActionAt names (codes "Reverse(" ++ bytes) (action.Reverse n m) rest
reverse_written names bytes second third fourth rest n m first comma next last one =
    let a = number_taken 1000000 bytes n second (omega arith) first in
    let b = number_taken 1000000 third m fourth (omega arith) next in
    record {
      spelling = (a.small, b.small, one);
      parts = numbers_parts bytes second third fourth (codes ", True)") n m a.text comma b.text (codes "Reverse(") rest last;
    }

pub last_true : (fourth last rest : List ℕ) → fourth ≡ codes ", Tr" ++ last → behind_front last (codes "ue)") ≡ Some rest → fourth ≡ codes ", True)" ++ rest
last_true fourth last rest is found = is ∙ ap (λ (xs : List ℕ). codes ", Tr" ++ xs) (front_parts last (codes "ue)") rest found)

copy_parts : (between name comma to close rest : List ℕ) → between ++ (name ++ (comma ++ (to ++ (close ++ rest)))) ≡ ((((between ++ name) ++ comma) ++ to) ++ close) ++ rest
copy_parts between name comma to close rest = sym (simp append_assoc)

pub image_written : (names : List (List ℕ)) (bytes first second third fourth fifth last rest : List ℕ) (n k : ℕ) (d : Dest) →
    behind_front bytes (codes "(") ≡ Some first → number_at 1000000 first ≡ Some (n, second) → second ≡ codes ", " ++ third → IsLevelAt names third k fourth →
    fourth ≡ codes ", " ++ fifth → IsDestAt names fifth d last → last ≡ codes ")" ++ rest → IsImageAt names bytes n k d rest
image_written names bytes first second third fourth fifth last rest n k d begun number comma level also goes close =
    let a = number_taken 1000000 first n second (omega arith) number in
    let name = name_of names k in
    let to : fifth ≡ dest_text names d ++ (codes ")" ++ rest) = goes.parts ∙ ap (λ (xs : List ℕ). dest_text names d ++ xs) close in
    let from : third ≡ name ++ (codes ", " ++ (dest_text names d ++ (codes ")" ++ rest))) = level.parts ∙ ap (λ (xs : List ℕ). name ++ xs) (also ∙ ap (λ (xs : List ℕ). codes ", " ++ xs) to) in
    let behind_number : second ≡ copy_text names k d ++ rest =
    comma ∙ ap (λ (xs : List ℕ). codes ", " ++ xs) from ∙ copy_parts (codes ", ") name (codes ", ") (dest_text names d) (codes ")") rest in
    record {
      low = a.small;
      level = level.is;
      goes = goes.is;
      parts = front_parts bytes (codes "(") first begun ∙ ap (λ (xs : List ℕ). codes "(" ++ xs) (a.text ∙ ap (λ (xs : List ℕ). decimal n ++ xs) behind_number);
    }

-- ---- a line that is the canonical spelling of an action

first_more : (b : ℕ) (bs rest : List ℕ) → eqb b 10 ≡ false → (first_line (bs ++ rest) ≡ bs) × (later_lines (bs ++ rest) ≡ later_lines rest) →
    (first_line (b ∷ (bs ++ rest)) ≡ b ∷ bs) × (later_lines (b ∷ (bs ++ rest)) ≡ later_lines rest)
unfolding first_line later_lines
first_more b bs rest more is = (rw more (ap (λ (xs : List ℕ). b ∷ xs) is.0), rw more is.1)

first_is : (line rest : List ℕ) → HasNoEnd line → ends_line rest ≡ true → (first_line (line ++ rest) ≡ line) × (later_lines (line ++ rest) ≡ later_lines rest)
unfolding first_line
first_is [] [] all ends = (refl, refl)
first_is [] (b ∷ rest) all ends = (rw ends refl, refl)
first_is (b ∷ bs) rest all ends = first_more b bs rest all.0 (first_is bs rest all.1 ends)

-- such a line is read, where there is room
said_is_read : (names : List (List ℕ)) (line : List ℕ) (later : List (List ℕ)) (a : Action) → AreNames names → Says names (texts line) a → line_of names false (whole_line line later) ≡ Ok (Some a)
said_is_read names line later a are says = by_answer (line_of names false (whole_line line later)) (line_answer names 0 line later are)
  where
    by_answer : (r : Result (Option Action) (LineFault Rule)) → IsAnswer names 0 line r → r ≡ Ok (Some a)
    by_answer (Ok None) is = absurd (said_not_passed names line a are says (is.none refl))
    by_answer (Ok (Some b)) is = ap (λ (x : Action). done (LineFault Rule) (Some x)) (one_action names (texts line) b a are (is.some b refl) says)
    by_answer (Err f) is = absurd (omega (arith, said_no_fault names 0 line a (number_of_rule f.rule) f.column are says is.1))

pub line_written : (names : List (List ℕ)) (start : ℕ) (bytes rest : List ℕ) (a : Action) → AreNames names → start ≡ length bytes → IsActionAt names bytes a rest → ends_line rest ≡ true →
    (line_of names false (seen start bytes) ≡ Ok (Some a)) × ((seen start rest).later ≡ (seen start bytes).later)
line_written names start bytes rest a are at is ends =
    let first = first_is (canonical names a) rest (endless names a are is.spelling) ends in
    let line : first_line bytes ≡ canonical names a = ap first_line is.parts ∙ first.0 in
    let whole : seen start bytes ≡ whole_line (first_line bytes) (later_lines bytes) = ap (λ (k : ℕ). seen k bytes) at ∙ seen_whole bytes ∙ ap next_line (lines_are bytes) in
    let says : Says names (texts (first_line bytes)) a = subst (λ (xs : List ℕ). Says names (texts xs) a) (sym line) (canonical_says names a are is.spelling) in (
      ap (line_of names false) whole ∙ said_is_read names (first_line bytes) (later_lines bytes) a are says,
      later_seen start rest ∙ sym first.1 ∙ sym (ap later_lines is.parts) ∙ sym (later_seen start bytes),
    )

pub action_within : (names : List (List ℕ)) (bytes rest : List ℕ) (a : Action) → IsActionAt names bytes a rest → length rest ≤ length bytes
action_within names bytes rest a is = omega (arith, ap length is.parts, length-append (canonical names a) rest)
