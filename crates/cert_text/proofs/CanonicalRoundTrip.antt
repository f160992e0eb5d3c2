-- The canonical text of a certificate says it.
use Rattle.std.proofs.Common.{◌≡◌, ◌≢◌, ℕ, zero, suc, ◌+◌, ◌/◌, ◌%◌, ◌<◌, ◌≤◌, false, eqb, ltb, List, [], ◌∷◌, ◌++◌, length, take, drop, refl, sym, ap, ◌∙◌, inl, inr, append-nil, append_assoc, arith}
use Rattle.std.specs.Prelude.{codes, decimal, map, slice_index_or}
use Rattle.std.specs.List.{AllByRecursion, range_with_len, flat_map, concat}
use Rattle.std.specs.Fmt.{digits, digits_onto, digit_glyph}
use Rattle.std.proofs.lemmas.Bool.{ne_eqb}
use Rattle.std.proofs.lemmas.Bool.Decides.{nat_tests}
use Rattle.std.proofs.lemmas.List.Folds.{concat-append}
use Rattle.level_book.specs.BookCosts.{BookCosts}
use Rattle.level_book.specs.UnderTable.{Entry, number, never}
use Rattle.cost_tables.specs.TableRows.{TableRows, tables_in}
use Rattle.disk_gen.specs.DiskRows.{disk_tables_in}
use Rattle.line_texts.specs.Tokens.{is_blank, words, tokens}
use Rattle.line_texts.specs.Lines.{lines}
use Rattle.cert_text.specs.declared.certificate.Certificate.{Certificate}
use Rattle.cert_text.specs.declared.certificate.Certificate.TheVariants.{Revolve, Places, Nested, Disk}
use Rattle.cert_text.specs.MarkedLines.{marked, certificate_lines}
use Rattle.cert_text.specs.Words.{texts_of}
use Rattle.cert_text.proofs.WordLemmas.{starts_word, of_word, word_at}
use Rattle.cert_text.specs.WordLines.{entry_word, row_line, row_lines, level_lines, column_lines, word_lines}
use Rattle.cert_text.specs.Meaning.{HasText}
use Rattle.cert_text.specs.Canonical.{line_of, pieces_from}
use Rattle.cert_text.specs.Laws.{IsOtherLine, PiecesJoin, CanonicalIsRead}
use Rattle.cert_text.specs.ReaderState.{texts}
use Rattle.line_texts.proofs.Steps.{which}
use Rattle.cert_text.proofs.Ranges.{all_mapped, all_appended, all_flat}
use Rattle.cert_text.proofs.LineLemmas.{marked_here, marked_later, none_in_empty}

-- ---- lines

-- a line, and byte 10 behind it
line_first : (line rest : List ℕ) → AllByRecursion (λ b. b ≢ 10) line → lines (line ++ 10 ∷ rest) ≡ line ∷ lines rest
unfolding lines
line_first [] rest all = refl
line_first (b ∷ line) rest all = rw (ne_eqb b 10 all.0, line_first line rest all.1) refl

-- other lines only count
behind_others : (others : List (List ℕ)) (n : ℕ) (rest : List ℕ) → AllByRecursion IsOtherLine others →
    marked n (lines (flat_map (λ line. line ++ 10 ∷ []) others ++ rest)) ≡ marked (n + length others) (lines rest)
behind_others [] n rest all = let here : n + 0 ≡ n = omega arith in rw here refl
behind_others (line ∷ others) n rest all =
    let text = flat_map (λ line. line ++ 10 ∷ []) others ++ rest in
    let parts : ((line ++ 10 ∷ []) ++ flat_map (λ line. line ++ 10 ∷ []) others) ++ rest ≡ line ++ 10 ∷ text = simp append_assoc in
    let there : (n + 1) + length others ≡ n + suc (length others) = omega arith in
    ap (λ (bs : List ℕ). marked n (lines bs)) parts
    ∙ ap (marked n) (line_first line text all.0.one_end)
    ∙ marked_later n line (lines text) all.0.unmarked
    ∙ behind_others others (n + 1) rest all.1
    ∙ ap (λ (k : ℕ). marked k (lines rest)) there

-- ---- words

-- a byte of a word that is no line's end: a letter of ASCII or a digit is one
pub record IsPlain (b : ℕ) : Type 0 where
  pub no_end : b ≢ 10
  pub no_blank : is_blank b ≡ false

plain : (b : ℕ) → 33 ≤ b → IsPlain b
plain b high = record { no_end = omega arith; no_blank = grind (arith, nat_tests) }

-- a word of such bytes
pub record IsPlainWord (w : List ℕ) : Type 0 where
  pub some : 0 < length w
  pub plain : AllByRecursion IsPlain w

-- all bytes are above the blanks
abbrev pub AreHigh : List ℕ → Type 0
AreHigh w = AllByRecursion (λ b. 33 ≤ b) w

high_plain : (w : List ℕ) → AreHigh w → AllByRecursion IsPlain w
high_plain [] high = tt
high_plain (b ∷ w) high = (plain b high.0, high_plain w high.1)

pub high_word : (b : ℕ) (w : List ℕ) → AreHigh (b ∷ w) → IsPlainWord (b ∷ w)
high_word b w high = record { some = omega arith; plain = high_plain (b ∷ w) high }

-- the digits of a number, however great it is
glyph_plain : (d : ℕ) → IsPlain (digit_glyph false d)
glyph_plain d = elim (which (ltb d 10)) [
  | inl low ↦ rw low (plain (48 + d) (omega arith))
  | inr high ↦ rw high (plain (87 + d) (omega arith))
]

onto_plain : (k n : ℕ) (acc : List ℕ) → AllByRecursion IsPlain acc → AllByRecursion IsPlain (digits_onto k 10 false n acc)
onto_plain zero n acc all = all
onto_plain (suc k) n acc all = elim (which (eqb (n / 10) 0)) [
  | inl last ↦ rw last (glyph_plain (n % 10), all)
  | inr more ↦ rw more (onto_plain k (n / 10) (digit_glyph false (n % 10) ∷ acc) (glyph_plain (n % 10), all))
]

onto_some : (k n : ℕ) (acc : List ℕ) → 0 < length acc → 0 < length (digits_onto k 10 false n acc)
onto_some zero n acc some = some
onto_some (suc k) n acc some = elim (which (eqb (n / 10) 0)) [
  | inl last ↦ rw last (omega arith)
  | inr more ↦ rw more (onto_some k (n / 10) (digit_glyph false (n % 10) ∷ acc) (omega arith))
]

onto_one : (k n : ℕ) → 0 < length (digits_onto (suc k) 10 false n [])
onto_one k n = elim (which (eqb (n / 10) 0)) [
  | inl last ↦ rw last (omega arith)
  | inr more ↦ rw more (onto_some k (n / 10) (digit_glyph false (n % 10) ∷ []) (omega arith))
]

pub number_word : (n : ℕ) → IsPlainWord (decimal n)
unfolding digits
number_word n = record { some = onto_one 63 n; plain = onto_plain 64 n [] tt }

of_plain : (w rest : List ℕ) → AllByRecursion IsPlain w → starts_word rest ≡ false → of_word (w ++ rest) ≡ length w
of_plain [] [] all ends = refl
of_plain [] (b ∷ rest) all ends = rw ends refl
of_plain (b ∷ w) rest all ends = rw all.0.no_blank (omega (arith, of_plain w rest all.1 ends))

front : (w rest : List ℕ) → take (length w) (w ++ rest) ≡ w
front [] rest = refl
front (b ∷ w) rest = ap (λ (bs : List ℕ). b ∷ bs) (front w rest)

behind : (w rest : List ℕ) → drop (length w) (w ++ rest) ≡ rest
behind [] rest = refl
behind (b ∷ w) rest = behind w rest

-- a word stands first
word_first : (column : ℕ) (w rest : List ℕ) → IsPlainWord w → starts_word rest ≡ false → texts (words column (w ++ rest)) ≡ w ∷ texts (words (column + length w) rest)
word_first column [] rest is ends = absurd (omega (arith, is.some))
word_first column (b ∷ w) rest is ends =
    let long = of_plain (b ∷ w) rest is.plain ends in
    ap texts (word_at column (b ∷ (w ++ rest)) (rw is.plain.0.no_blank refl))
    ∙ rw (long, front (b ∷ w) rest, behind (b ∷ w) rest) refl

blank_first : (column : ℕ) (rest : List ℕ) → words column (32 ∷ rest) ≡ words (column + 1) rest
unfolding tokens
blank_first column rest = refl

no_words : (column : ℕ) → words column [] ≡ []
unfolding tokens
no_words column = refl

-- ---- a line

-- the bytes of words, a blank before each
abbrev pub spelled : List (List ℕ) → List ℕ
spelled [] = []
spelled (w ∷ ws) = 32 ∷ (w ++ spelled ws)

no_word_starts : (ws : List (List ℕ)) → starts_word (spelled ws) ≡ false
no_word_starts [] = refl
no_word_starts (w ∷ ws) = refl

spelled_texts : (column : ℕ) (ws : List (List ℕ)) → AllByRecursion IsPlainWord ws → texts (words column (spelled ws)) ≡ ws
spelled_texts column [] all = ap texts (no_words column)
spelled_texts column (w ∷ ws) all =
    ap texts (blank_first column (w ++ spelled ws))
    ∙ word_first (column + 1) w (spelled ws) all.0 (no_word_starts ws)
    ∙ ap (λ (ts : List (List ℕ)). w ∷ ts) (spelled_texts (column + 1 + length w) ws all.1)

all_no_end : (w rest : List ℕ) → AllByRecursion IsPlain w → AllByRecursion (λ b. b ≢ 10) rest → AllByRecursion (λ b. b ≢ 10) (w ++ rest)
all_no_end [] rest all others = others
all_no_end (b ∷ w) rest all others = (all.0.no_end, all_no_end w rest all.1 others)

pub spelled_no_end : (ws : List (List ℕ)) → AllByRecursion IsPlainWord ws → AllByRecursion (λ b. b ≢ 10) (spelled ws)
spelled_no_end [] all = tt
spelled_no_end (w ∷ ws) all = let blank : 32 ≢ 10 = omega arith in (blank, all_no_end w (spelled ws) all.0.plain (spelled_no_end ws all.1))

-- however its words stand in writes, a line's bytes are these
line_bytes : (room : ℕ) (text : List ℕ) (ws : List (List ℕ)) → concat (pieces_from room text ws) ≡ text ++ (spelled ws ++ 10 ∷ [])
line_bytes room text [] = append-nil (text ++ 10 ∷ [])
line_bytes zero text (w ∷ ws) =
    ap (λ (l : List ℕ). text ++ l) (line_bytes 15 (32 ∷ w) ws)
    ∙ ap (λ (l : List ℕ). text ++ 32 ∷ l) (sym (append_assoc w (spelled ws) (10 ∷ [])))
line_bytes (suc room) text (w ∷ ws) =
    line_bytes room (text ++ 32 ∷ w) ws
    ∙ append_assoc text (32 ∷ w) (spelled ws ++ 10 ∷ [])
    ∙ ap (λ (l : List ℕ). text ++ 32 ∷ l) (sym (append_assoc w (spelled ws) (10 ∷ [])))

-- ---- the whole text

-- the bytes of lines
abbrev pub all_spelled : List (List (List ℕ)) → List ℕ
all_spelled [] = []
all_spelled (ws ∷ more) = (35 ∷ 33 ∷ spelled ws) ++ 10 ∷ all_spelled more

pub text_bytes : (more : List (List (List ℕ))) → concat (flat_map (pieces_from 16 (codes "#!")) more) ≡ all_spelled more
text_bytes [] = refl
text_bytes (ws ∷ more) =
    concat-append (pieces_from 16 (codes "#!") ws) (flat_map (pieces_from 16 (codes "#!")) more)
    ∙ (λ i. line_bytes 16 (codes "#!") ws i ++ text_bytes more i)
    ∙ ap (λ (l : List ℕ). 35 ∷ 33 ∷ l) (append_assoc (spelled ws) (10 ∷ []) (all_spelled more))

-- the words of a line, and the canonical lines, are the same bytes
spelled_is : (ws : List (List ℕ)) → flat_map (λ word. 32 ∷ word) ws ≡ spelled ws
spelled_is [] = refl
spelled_is (w ∷ ws) = ap (λ (l : List ℕ). 32 ∷ (w ++ l)) (spelled_is ws)

pub canonical_bytes : (more : List (List (List ℕ))) → flat_map line_of more ≡ all_spelled more
canonical_bytes [] = refl
canonical_bytes (ws ∷ more) =
    (λ i. ((codes "#!" ++ spelled_is ws i) ++ 10 ∷ []) ++ canonical_bytes more i)
    ∙ ap (λ (l : List ℕ). 35 ∷ 33 ∷ l) (append_assoc (spelled ws) (10 ∷ []) (all_spelled more))

-- the writes join to the canonical text
pub joined : PiecesJoin
joined certificate = text_bytes (word_lines certificate) ∙ sym (canonical_bytes (word_lines certificate))

abbrev pub ArePlain : List (List (List ℕ)) → Type 0
ArePlain more = AllByRecursion (λ ws. AllByRecursion IsPlainWord ws) more

lines_said : (n : ℕ) (more : List (List (List ℕ))) → ArePlain more → map texts_of (marked n (lines (all_spelled more))) ≡ more
lines_said n [] all = ap (map texts_of) (none_in_empty n)
lines_said n (ws ∷ more) all =
    let one : 35 ≢ 10 = omega arith in
    let two : 33 ≢ 10 = omega arith in
    ap (λ (ls : List (List ℕ)). map texts_of (marked n ls)) (line_first (35 ∷ 33 ∷ spelled ws) (all_spelled more) (one, (two, spelled_no_end ws all.0)))
    ∙ ap (map texts_of) (marked_here n (35 ∷ 33 ∷ spelled ws) (lines (all_spelled more)) refl)
    ∙ (λ i. spelled_texts 3 ws all.0 i ∷ lines_said (n + 1) more all.1 i)

plain_entry : (e : Entry) → IsPlainWord (entry_word e)
plain_entry (number n) = number_word n
plain_entry never = let high : AreHigh (codes "-") = (omega arith, tt) in high_word 45 [] high

plain_rows : (letter : List ℕ) (k steps n : ℕ) (e : ℕ → ℕ → Entry) → IsPlainWord letter → ArePlain (row_lines letter k steps n e)
unfolding row_lines
plain_rows letter k steps n e is =
    all_mapped (λ ws. AllByRecursion IsPlainWord ws) (λ m. row_line (letter ∷ decimal k ∷ decimal m ∷ []) steps (e m)) 0 n
    (λ m low high. (is, (number_word k, (number_word m, all_mapped IsPlainWord (λ l. entry_word (e m l)) 1 steps (λ l least most. plain_entry (e m l))))))

plain_level : (t : TableRows) (k : ℕ) → ArePlain (level_lines t k)
unfolding level_lines
plain_level t k =
    let f : AreHigh (codes "F") = (omega arith, tt) in
    let h : AreHigh (codes "H") = (omega arith, tt) in
    all_appended (λ ws. AllByRecursion IsPlainWord ws) (row_lines (codes "F") k t.steps (slice_index_or t.rooms k 0 + 1) (λ m l. (tables_in t).fresh k l m)) (row_lines (codes "H") k t.steps (slice_index_or t.rooms k 0) (λ m l. (tables_in t).held k l m))
    (plain_rows (codes "F") k t.steps (slice_index_or t.rooms k 0 + 1) (λ m l. (tables_in t).fresh k l m) (high_word 70 [] f))
    (plain_rows (codes "H") k t.steps (slice_index_or t.rooms k 0) (λ m l. (tables_in t).held k l m) (high_word 72 [] h))

pub plain_lines : (steps : ℕ) (book : BookCosts) (certificate : Certificate) → HasText steps book certificate → ArePlain (word_lines certificate)
plain_lines steps book (Revolve k v) has =
    let high : AreHigh (codes "revolve") = (omega arith, (omega arith, (omega arith, (omega arith, (omega arith, (omega arith, (omega arith, tt))))))) in
    ((high_word 114 (codes "evolve") high, (number_word k, (number_word v, tt))), tt)
plain_lines steps book (Places n) has =
    let high : AreHigh (codes "places") = (omega arith, (omega arith, (omega arith, (omega arith, (omega arith, (omega arith, tt)))))) in
    ((high_word 112 (codes "laces") high, (number_word n, tt)), tt)
plain_lines steps book (Nested t) has =
    let nested : AreHigh (codes "nested") = (omega arith, (omega arith, (omega arith, (omega arith, (omega arith, (omega arith, tt)))))) in
    let end : AreHigh (codes "end") = (omega arith, (omega arith, (omega arith, tt))) in
    let flat = all_flat (λ ws. AllByRecursion IsPlainWord ws) (level_lines t) 0 (length t.rooms) (λ k low high. plain_level t k) in (
      (high_word 110 (codes "ested") nested, tt),
      all_appended (λ ws. AllByRecursion IsPlainWord ws) (flat_map (level_lines t) (range_with_len 0 (length t.rooms))) ((codes "end" ∷ []) ∷ []) flat ((high_word 101 (codes "nd") end, tt), tt),
    )
plain_lines steps book (Disk t) has =
    let disk : AreHigh (codes "disk") = (omega arith, (omega arith, (omega arith, (omega arith, tt)))) in
    let fd : AreHigh (codes "Fd") = (omega arith, (omega arith, tt)) in
    let hd : AreHigh (codes "Hd") = (omega arith, (omega arith, tt)) in
    let end : AreHigh (codes "end") = (omega arith, (omega arith, (omega arith, tt))) in
    let flat = all_flat (λ ws. AllByRecursion IsPlainWord ws) (level_lines t.fast) 0 (length t.fast.rooms) (λ k low high. plain_level t.fast k) in
    let fresh = all_mapped IsPlainWord (λ l. entry_word ((disk_tables_in t).disk_fresh l)) 1 t.fast.steps (λ l least most. plain_entry ((disk_tables_in t).disk_fresh l)) in
    let held = all_mapped IsPlainWord (λ l. entry_word ((disk_tables_in t).disk_held l)) 1 t.fast.steps (λ l least most. plain_entry ((disk_tables_in t).disk_held l)) in (
      (high_word 100 (codes "isk") disk, tt),
      all_appended (λ ws. AllByRecursion IsPlainWord ws) (flat_map (level_lines t.fast) (range_with_len 0 (length t.fast.rooms))) (column_lines t) flat
          ((high_word 70 (codes "d") fd, fresh), ((high_word 72 (codes "d") hd, held), ((high_word 101 (codes "nd") end, tt), tt))),
    )

pub canonical_read : CanonicalIsRead
canonical_read steps book certificate has others all =
    let before : List ℕ = flat_map (λ line. line ++ 10 ∷ []) others in
    record {
      has_text = has;
      says =
          ap (λ (bs : List ℕ). map texts_of (certificate_lines (before ++ bs))) (canonical_bytes (word_lines certificate))
          ∙ ap (map texts_of) (behind_others others 1 (all_spelled (word_lines certificate)) all)
          ∙ lines_said (1 + length others) (word_lines certificate) (plain_lines steps book certificate has);
    }
