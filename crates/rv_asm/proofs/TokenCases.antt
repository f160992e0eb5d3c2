-- The tokens of bytes that begin with a blank, a comment, or a token.
use Rattle.std.proofs.Common.{◌≡◌, ℕ, suc, ◌+◌, Bool, true, false, eqb, ◌&&◌, List, [], ◌∷◌, refl, ◌∙◌, ap, arith, inl, inr}
use Rattle.std.proofs.lemmas.Bool.{eqb-true}
use Rattle.std.proofs.lemmas.Bool.Decides.{nat_tests}
use Rattle.line_texts.specs.Tokens.{is_blank, longer, tokens as line_tokens}
use Rattle.line_texts.specs.Cursors.{token_of}
use Rattle.line_texts.specs.Parsers.{length_before}
use Rattle.line_texts.proofs.Steps.{which}
use Rattle.line_texts.proofs.NextToken as texts
use Rattle.rv_asm.specs.Tokens.{is_run_byte, starts_run, before_comment, tokens}

-- ---- bytes

pub run_is_no_blank : (b : ℕ) → is_run_byte b ≡ true → is_blank b ≡ false
run_is_no_blank b run = grind (arith, nat_tests)

pub run_is_no_comment : (b : ℕ) → is_run_byte b ≡ true → eqb b 35 ≡ false
run_is_no_comment b run = grind (arith, nat_tests)

blank_is_no_comment : (b : ℕ) → is_blank b ≡ true → eqb b 35 ≡ false
blank_is_no_comment b blank = grind (arith, nat_tests)

-- ---- before a comment

nothing_before : (b : ℕ) (bs : List ℕ) → eqb b 35 ≡ true → before_comment (b ∷ bs) ≡ []
nothing_before b bs is = rw is refl

more_before : (b : ℕ) (bs : List ℕ) → eqb b 35 ≡ false → before_comment (b ∷ bs) ≡ b ∷ before_comment bs
more_before b bs more =
    let next : 1 + length_before 35 bs ≡ suc (length_before 35 bs) = omega arith in
    rw (more, next) refl

-- no comment begins as a run does
starts_before : (bs : List ℕ) → starts_run (before_comment bs) ≡ starts_run bs
starts_before [] = refl
starts_before (c ∷ cs) = elim (which (eqb c 35)) [
  | inl is ↦ let same : c ≡ 35 = eqb-true _ _ is in rw same refl
  | inr more ↦ ap starts_run (more_before c cs more)
]

-- ---- one byte

pub past_blank : (column b : ℕ) (bs : List ℕ) → is_blank b ≡ true → tokens column (b ∷ bs) ≡ tokens (column + 1) bs
unfolding tokens
past_blank column b bs blank =
    ap (line_tokens is_run_byte column) (more_before b bs (blank_is_no_comment b blank))
    ∙ texts.past_blank is_run_byte run_is_no_blank column b (before_comment bs) blank

pub comment : (column b : ℕ) (bs : List ℕ) → eqb b 35 ≡ true → tokens column (b ∷ bs) ≡ []
unfolding tokens
comment column b bs is = ap (line_tokens is_run_byte column) (nothing_before b bs is) ∙ texts.nothing is_run_byte run_is_no_blank column

pub alone : (column b : ℕ) (bs : List ℕ) → is_blank b ≡ false → eqb b 35 ≡ false → (is_run_byte b && starts_run bs) ≡ false →
    tokens column (b ∷ bs) ≡ token_of column (b ∷ []) ∷ tokens (column + 1) bs
unfolding tokens
alone column b bs blank more single =
    ap (line_tokens is_run_byte column) (more_before b bs more)
    ∙ texts.alone is_run_byte run_is_no_blank column b (before_comment bs) blank (ap (λ (x : Bool). is_run_byte b && x) (starts_before bs) ∙ single)

pub in_run : (column b : ℕ) (bs : List ℕ) → is_run_byte b ≡ true → starts_run bs ≡ true →
    tokens column (b ∷ bs) ≡ longer column b (tokens (column + 1) bs)
unfolding tokens
in_run column b bs run goes_on =
    ap (line_tokens is_run_byte column) (more_before b bs (run_is_no_comment b run))
    ∙ texts.longer_run is_run_byte run_is_no_blank column b (before_comment bs) run (starts_before bs ∙ goes_on)

pub nothing : (column : ℕ) → tokens column [] ≡ []
unfolding tokens
nothing column = texts.nothing is_run_byte run_is_no_blank column
