-- Words, their bytes and their lines: bytes are those of one list of words, and words have one list of lines, which is the one that is
-- computed.
use Rattle.std.proofs.Common.{◌≡◌, inl, inr, ℕ, zero, suc, ◌*◌, ◌<◌, ◌≤◌, ◌++◌, List, [], ◌∷◌, length, map, take, drop, Option, None, Some, get_or, refl, sym, ◌∙◌, ap, arith}
use Rattle.std.specs.Prelude.{find, min, codes}
use Rattle.std.specs.Int.{to_le_bytes, from_le_bytes, w32}
use Rattle.std.specs.List.{AllByRecursion}
use Rattle.std.proofs.lemmas.Bool.{cases_lt}
use Rattle.std.proofs.lemmas.List.{take_all, drop_all, take-map, length-map}
use Rattle.std.proofs.lemmas.Nat.{le_bytes_4, from_le_bytes-to_le_bytes_4}
use Rattle.rv_asm.specs.Table.{wants}
use Rattle.rv_asm.specs.PackedWords.{takes}
use Rattle.rv_asm.specs.Encoder.{entries}
use Rattle.rv_asm.specs.Canonical.{unpacked, operands_text, IsCanonical}
use Rattle.line_texts.specs.Numbers.{hex_word}
use Rattle.rv_asm.specs.Laws.{AreCanonical}
use Rattle.rv_asm.proofs.CanonicalLines.{canonical_row, canonical_word, one_line}
use Rattle.reversal.specs.CommandAsm.{word_bytes, listing}
use Rattle.reversal.specs.Contents.{AreBytes}
use Rattle.reversal.specs.Plans.{in_pieces}
use Rattle.reversal.specs.Listing.{made_or, word_line, ended_line, word_pieces, IsWord}

-- ---- words and bytes

-- the word that four bytes are
word_tells : (m n : ℕ) → IsWord m → IsWord n → to_le_bytes w32 m ≡ to_le_bytes w32 n → m ≡ n
word_tells m n l k e = sym (from_le_bytes-to_le_bytes_4 m l) ∙ ap (from_le_bytes w32) e ∙ from_le_bytes-to_le_bytes_4 n k

-- two lists that are alike have the same first four, and the same behind them
first_four : (p q r s a b c d : ℕ) (xs ys : List ℕ) → p ∷ q ∷ r ∷ s ∷ xs ≡ a ∷ b ∷ c ∷ d ∷ ys → (p ∷ q ∷ r ∷ s ∷ [] ≡ a ∷ b ∷ c ∷ d ∷ []) × (xs ≡ ys)
first_four p q r s a b c d xs ys e = (cc, cc)

-- bytes are those of one list of words at most
pub one_words : (a b : List ℕ) → AllByRecursion IsWord a → AllByRecursion IsWord b → word_bytes a ≡ word_bytes b → a ≡ b
one_words [] [] small also e = refl
one_words [] (w ∷ ws) small also e = absurd cc
one_words (w ∷ ws) [] small also e = absurd cc
one_words (w ∷ ws) (v ∷ vs) small also e =
    let parts = first_four _ _ _ _ _ _ _ _ (word_bytes ws) (word_bytes vs) e in
    let first = word_tells w v small.0 also.0 parts.0 in
    let rest = one_words ws vs small.1 also.1 parts.1 in
    λ i. first i ∷ rest i

byte_at : (bytes : List ℕ) → AreBytes bytes → (i : ℕ) → get_or bytes i 0 < 256
byte_at [] are i = omega arith
byte_at (b ∷ bytes) are zero = are.0
byte_at (b ∷ bytes) are (suc i) = byte_at bytes are.1 i

-- bytes that are four for each of n words are those of some words
pub some_words : (n : ℕ) (bytes : List ℕ) → length bytes ≡ 4 * n → AreBytes bytes → (words : List ℕ) × (AllByRecursion IsWord words × (bytes ≡ word_bytes words))
some_words zero [] four are = ([], (tt, refl))
some_words zero (b ∷ bytes) four are = absurd (omega (arith, four))
some_words (suc n) [] four are = absurd (omega (arith, four))
some_words (suc n) (a ∷ []) four are = absurd (omega (arith, four))
some_words (suc n) (a ∷ b ∷ []) four are = absurd (omega (arith, four))
some_words (suc n) (a ∷ b ∷ c ∷ []) four are = absurd (omega (arith, four))
some_words (suc n) (a ∷ b ∷ c ∷ d ∷ bytes) four are =
    let front : List ℕ = a ∷ b ∷ c ∷ d ∷ [] in
    let word = from_le_bytes w32 front in
    let more = some_words n bytes (omega (arith, four)) are.1.1.1.1 in
    let small : IsWord word = omega (arith, are.0, are.1.0, are.1.1.0, are.1.1.1.0) in
    let says = le_bytes_4 front word refl (byte_at front (are.0, (are.1.0, (are.1.1.0, (are.1.1.1.0, tt))))) refl in
    (word ∷ more.0, ((small, more.1.0), (λ i. sym says i ++ more.1.1 i)))

-- ---- words and lines

pub line_is_canonical : (word : ℕ) → IsWord word → IsCanonical word (word_line word)
unfolding word_line
line_is_canonical word small = by_row _ refl
  where
    by_row : (found : Option (List ℕ × _)) → find (λ row. takes row.1.format row.1.base word) entries ≡ found →
        IsCanonical word (made_or found (λ row. row.0 ++ operands_text (unpacked row.1.format word) (wants row.1.format)) (codes ".word 0x" ++ hex_word word))
    by_row (Some row) is = canonical_row word row.0 row.1 small is
    by_row None is = canonical_word word small is

-- the line that a word has is the one that is computed
pub is_word_line : (word : ℕ) (line : List ℕ) → IsWord word → IsCanonical word line → line ≡ word_line word
is_word_line word line small canonical = one_line word line (word_line word) canonical (line_is_canonical word small)

pub lines_are_canonical : (words : List ℕ) → AllByRecursion IsWord words → AreCanonical words (map word_line words)
lines_are_canonical [] small = tt
lines_are_canonical (w ∷ ws) small = (small.0, line_is_canonical w small.0, lines_are_canonical ws small.1)

-- words have one list of lines at most
pub one_lines : (words : List ℕ) (a b : List (List ℕ)) → AreCanonical words a → AreCanonical words b → a ≡ b
one_lines [] [] [] are also = refl
one_lines [] [] (l ∷ ls) are also = absurd also
one_lines [] (l ∷ ls) b are also = absurd are
one_lines (w ∷ ws) [] b are also = absurd are
one_lines (w ∷ ws) (l ∷ ls) [] are also = absurd also
one_lines (w ∷ ws) (l ∷ ls) (m ∷ ms) are also =
    let first = one_line w l m are.1 also.1 in
    let rest = one_lines ws ls ms are.2 also.2 in
    λ i. first i ∷ rest i

pub canonical_small : (words : List ℕ) (lines : List (List ℕ)) → AreCanonical words lines → AllByRecursion IsWord words
canonical_small [] lines are = tt
canonical_small (w ∷ ws) [] are = absurd are
canonical_small (w ∷ ws) (l ∷ ls) are = (are.0, canonical_small ws ls are.2)

-- what is written of the lines of words
lines_many : (words : List ℕ) → length (map word_line words) ≡ length words
lines_many [] = refl
lines_many (w ∷ ws) = let rest = lines_many ws in omega (arith, rest)

lines_ended : (words : List ℕ) → map (λ (l : List ℕ). l ++ 10 ∷ []) (map word_line words) ≡ map ended_line words
lines_ended [] = refl
lines_ended (w ∷ ws) = ap (λ l. ended_line w ∷ l) (lines_ended ws)

pub listing_is : (words : List ℕ) → listing (map word_line words) ≡ word_pieces words
listing_is words = λ i. in_pieces (lines_many words i) (lines_ended words i)

-- as many as there are of the first sixty-four are those
most_taken : {A : Type 0} (xs : List A) (n : ℕ) → n ≡ min (length xs) 64 → (take n xs ≡ take 64 xs) × (drop n xs ≡ drop 64 xs)
most_taken xs n is = elim (cases_lt (length xs) 64) [
  | inl few ↦
      let all : n ≡ length xs = omega (arith, is, few) in (
        take_all n xs (omega (arith, all)) ∙ sym (take_all 64 xs (omega (arith, few))),
        drop_all n xs (omega (arith, all)) ∙ sym (drop_all 64 xs (omega (arith, few))),
      )
  | inr many ↦ let all : n ≡ 64 = omega (arith, is, many) in (ap (λ k. take k xs) all, ap (λ k. drop k xs) all)
]

pub first_lines : (f : ℕ → List ℕ) (words first : List ℕ) (n i : ℕ) → first ≡ take n words → n ≡ min (length words) 64 → length first ≤ i → take i (map f first) ≡ take 64 (map f words)
first_lines f words first n i is most whole =
    take_all i (map f first) (omega (arith, length-map first f, whole))
    ∙ ap (map f) (is ∙ (most_taken words n most).0)
    ∙ sym (take-map f 64 words)

pub words_left : (words rest : List ℕ) (n : ℕ) → rest ≡ drop n words → n ≡ min (length words) 64 → rest ≡ drop 64 words
words_left words rest n is most = is ∙ (most_taken words n most).1
