-- A word at the front of bytes.
use Rattle.std.proofs.Common.{◌≡◌, ℕ, suc, ◌+◌, Bool, true, false, not, List, [], ◌∷◌, take, drop, refl, ap, inl, inr, arith}
use Rattle.std.specs.List.{prefix_len}
use Rattle.line_texts.specs.Tokens.{is_blank, starts_run, tokens, in_word, words}
use Rattle.line_texts.proofs.Steps.{which}

-- the first byte is one of a word
abbrev pub starts_word : List ℕ → Bool
starts_word bytes = starts_run in_word bytes

-- how many bytes of a word stand at the front
abbrev pub of_word : List ℕ → ℕ
of_word bs = prefix_len (λ b. not (is_blank b)) bs

one_more : (k : ℕ) → 1 + k ≡ suc k
one_more k = omega arith

drop_more : (k b : ℕ) (bs : List ℕ) → drop (1 + k) (b ∷ bs) ≡ drop k bs
drop_more k b bs = ap (λ (n : ℕ). drop n (b ∷ bs)) (one_more k)

take_more : (k b : ℕ) (bs : List ℕ) → take (1 + k) (b ∷ bs) ≡ b ∷ take k bs
take_more k b bs = ap (λ (n : ℕ). take n (b ∷ bs)) (one_more k)

no_word : (bs : List ℕ) → starts_word bs ≡ false → of_word bs ≡ 0
no_word [] none = refl
no_word (b ∷ bs) none = rw none refl

-- a word at the front
pub word_at : (column : ℕ) (bs : List ℕ) → starts_word bs ≡ true →
    words column bs ≡ record { column = column; text = take (of_word bs) bs } ∷ words (column + of_word bs) (drop (of_word bs) bs)
unfolding tokens
word_at column [] some = absurd cc
word_at column (b ∷ bs) some = elim (which (is_blank b)) [
  | inl blank ↦ absurd (let e : false ≡ true = rw blank at some in cc)
  | inr other ↦ elim (which (starts_word bs)) [
    | inl more ↦
        let there : (column + 1) + of_word bs ≡ column + (1 + of_word bs) = omega arith in
        rw (other, more, word_at (column + 1) bs more)
        (rw (take_more (of_word bs) b bs, drop_more (of_word bs) b bs, ← there) refl)
    | inr last ↦ rw (other, last, no_word bs last) refl
  ]
]
