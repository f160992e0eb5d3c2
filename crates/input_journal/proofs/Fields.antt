-- What is read of one number and of one item, both ways: from the bytes, and from what they spell.
use Rattle.std.proofs.Common.{◌≡◌, ◌⊎◌, ℕ, ◌+◌, ◌^◌, ◌<◌, ◌≤◌, Bool, true, false, cond, nat_lt, List, ◌++◌, length, get_or, take, drop, Result, Ok, Err, refl, sym, ap, subst, ◌∙◌, append_assoc, arith, inl, inr}
use Rattle.std.specs.Int.{w32, from_le_bytes}
use Rattle.std.proofs.lemmas.Bool.{cases_lt, ltb-true, ltb-false, le-ltb, lt-ltb}
use Rattle.std.proofs.lemmas.List.{take_at, take-append-drop, length-append, length-take, length-drop, get_or-drop, get_or-take, get_or_past, drop-drop}
use Rattle.std.proofs.lemmas.Nat.{le_bytes_4, from_le_bytes-to_le_bytes_4}
use Rattle.input_journal.specs.declared.fault.JournalFault.{JournalFault}
use Rattle.input_journal.specs.declared.fault.JournalFault.TheVariants.{Truncated, TooLong}
use Rattle.input_journal.specs.Form.{number, item_bytes, IsShort}
use Rattle.input_journal.specs.Parser.{◌>>=◌, number_at, item_at}

abbrev pub IsBytes : List ℕ → Type 0
IsBytes bytes = (i : ℕ) → get_or bytes i 0 < 256

pub IsBytes-drop : (n : ℕ) (bytes : List ℕ) → IsBytes bytes → IsBytes (drop n bytes)
IsBytes-drop n bytes h i = rw get_or-drop (h (n + i))

IsBytes-take : (n : ℕ) (bytes : List ℕ) → IsBytes bytes → IsBytes (take n bytes)
IsBytes-take n bytes h i =
    elim (cases_lt i n) [
      | inl lt ↦ rw (get_or-take n bytes i 0 lt) (h i)
      | inr le ↦ rw (get_or_past (take n bytes) i 0 (omega (arith, length-take n bytes))) (omega arith)
    ]

-- ---- steps that may fail

-- what a step gave that didn't fail, and what one did that failed
pub bind_ok : {A B : Type 0} (r : Result A JournalFault) (f : A → Result B JournalFault) (y : B) → (r >>= f) ≡ Ok y → (x : A) × (r ≡ Ok x) × (f x ≡ Ok y)
bind_ok (Ok x) f y e = (x, refl, e)
bind_ok (Err d) f y e = absurd cc

abbrev done : {A : Type 0} → A → Result A JournalFault
done x = Ok x

abbrev pub failed : {A : Type 0} → JournalFault → Result A JournalFault
failed d = Err d

pub ok_is : {A : Type 0} (x y : A) → done x ≡ done y → x ≡ y
ok_is x y e = cc

pub err_is : (A : Type 0) (x y : JournalFault) → failed {A = A} x ≡ failed y → x ≡ y
err_is A x y e = cc

pub not_both : {A : Type 0} (x : A) (d : JournalFault) → done x ≡ failed d → ⊥
not_both x d e = cc

pub bind_err : {A B : Type 0} (r : Result A JournalFault) (f : A → Result B JournalFault) (d : JournalFault) → (r >>= f) ≡ Err d → (r ≡ Err d) ⊎ ((x : A) × (r ≡ Ok x) × (f x ≡ Err d))
bind_err (Ok x) f d e = inr (x, refl, e)
bind_err {B = B} (Err d') f d e = inl (ap (λ x. Err x) (err_is B d' d e))

-- which way a test went
pub chosen : {A : Type 0} (b : Bool) (x y z : A) → cond b x y ≡ z → ((b ≡ true) × (x ≡ z)) ⊎ ((b ≡ false) × (y ≡ z))
chosen true x y z e = inl (refl, e)
chosen false x y z e = inr (refl, e)

-- ---- numbers

pub number_again : (at n : ℕ) (rest : List ℕ) → n < 2 ^ 32 → number_at at (number n ++ rest) ≡ Ok n
number_again at n rest lt =
    let long : nat_lt (length (number n ++ rest)) 4 ≡ false = le-ltb _ _ (omega (arith, length-append (number n) rest)) in
    ap (λ b. cond b (Err (Truncated at)) (Ok (from_le_bytes w32 (take 4 (number n ++ rest))))) long
    ∙ ap (λ k. Ok k) (from_le_bytes-to_le_bytes_4 n lt)

pub number_short : (at : ℕ) (part : List ℕ) → length part < 4 → number_at at part ≡ Err (Truncated at)
number_short at part lt = rw (lt-ltb (length part) 4 lt) refl

pub number_takes : (at : ℕ) (bytes : List ℕ) (n : ℕ) → IsBytes bytes → number_at at bytes ≡ Ok n → (bytes ≡ number n ++ drop 4 bytes) × (n < 2 ^ 32)
number_takes at bytes n fits e = elim (chosen (nat_lt (length bytes) 4) (Err (Truncated at)) (Ok (from_le_bytes w32 (take 4 bytes))) (Ok n) e) [
  | inl short ↦ absurd (not_both n (Truncated at) (sym short.1))
  | inr long ↦
      let at_least : 4 ≤ length bytes = ltb-false _ _ long.0 in
      let is : from_le_bytes w32 (take 4 bytes) ≡ n = ok_is _ n long.1 in
      let front : number n ≡ take 4 bytes = le_bytes_4 (take 4 bytes) n (omega (arith, length-take 4 bytes)) (IsBytes-take 4 bytes fits) (sym is) in
      let here = IsBytes-take 4 bytes fits in
      (sym (take-append-drop 4 bytes) ∙ ap (λ xs. xs ++ drop 4 bytes) (sym front), subst (λ k. k < 2 ^ 32) is (omega (arith, here 0, here 1, here 2, here 3)))
]

pub number_faults : (at : ℕ) (bytes : List ℕ) (d : JournalFault) → number_at at bytes ≡ Err d → (length bytes < 4) × (d ≡ Truncated at)
number_faults at bytes d e = elim (chosen (nat_lt (length bytes) 4) (Err (Truncated at)) (Ok (from_le_bytes w32 (take 4 bytes))) (Err d) e) [
  | inl short ↦ (ltb-true _ _ short.0, sym (err_is ℕ (Truncated at) d short.1))
  | inr long ↦ absurd (not_both _ d long.1)
]

-- ---- items

-- what follows the length of an item
abbrev pub item_behind : ℕ → List ℕ → ℕ → Result (List ℕ) JournalFault
item_behind at rest n =
    cond (nat_lt 1048576 n) (Err (TooLong at)) (cond (nat_lt (length (drop 4 rest)) n) (Err (Truncated (at + 4))) (Ok (take n (drop 4 rest))))

pub item_from : (at : ℕ) (rest : List ℕ) → item_at at rest ≡ (number_at at rest >>= item_behind at rest)
unfolding item_at
item_from at rest = refl

behind_whole : (at : ℕ) (rest : List ℕ) (n : ℕ) → n ≤ 1048576 → n ≤ length (drop 4 rest) → item_behind at rest n ≡ Ok (take n (drop 4 rest))
behind_whole at rest n small there = rw (le-ltb 1048576 n small, le-ltb (length (drop 4 rest)) n there) refl

behind_large : (at : ℕ) (rest : List ℕ) (n : ℕ) → 1048576 < n → item_behind at rest n ≡ Err (TooLong at)
behind_large at rest n large = rw (lt-ltb 1048576 n large) refl

behind_cut : (at : ℕ) (rest : List ℕ) (n : ℕ) → n ≤ 1048576 → length (drop 4 rest) < n → item_behind at rest n ≡ Err (Truncated (at + 4))
behind_cut at rest n small cut = rw (le-ltb 1048576 n small, lt-ltb (length (drop 4 rest)) n cut) refl

-- what is read at a place of the bytes
pub item_read : (at n : ℕ) (bytes : List ℕ) → number_at at (drop at bytes) ≡ Ok n → n ≤ 1048576 → at + 4 + n ≤ length bytes → item_at at (drop at bytes) ≡ Ok (take n (drop (at + 4) bytes))
item_read at n bytes e small there =
    let behind : drop 4 (drop at bytes) ≡ drop (at + 4) bytes = drop-drop 4 at bytes in
    item_from at (drop at bytes)
    ∙ ap (λ r. r >>= item_behind at (drop at bytes)) e
    ∙ behind_whole at (drop at bytes) n small (omega (arith, ap length behind, length-drop (at + 4) bytes))
    ∙ ap (λ xs. Ok (take n xs)) behind

pub item_again : (at : ℕ) (item rest : List ℕ) → IsShort item → item_at at (item_bytes item ++ rest) ≡ Ok item
item_again at item rest short =
    let all = item_bytes item ++ rest in
    let parts : all ≡ number (length item) ++ (item ++ rest) = append_assoc (number (length item)) item rest in
    item_from at all
    ∙ ap (λ r. r >>= item_behind at all) (ap (number_at at) parts ∙ number_again at (length item) (item ++ rest) (omega arith))
    ∙ behind_whole at all (length item) short (omega (arith, length-append item rest))
    ∙ ap (λ xs. Ok xs) (take_at item rest (length item) refl)

pub item_short : (at : ℕ) (part : List ℕ) → length part < 4 → item_at at part ≡ Err (Truncated at)
item_short at part lt = item_from at part ∙ ap (λ r. r >>= item_behind at part) (number_short at part lt)

pub item_large : (at n : ℕ) (rest : List ℕ) → n < 2 ^ 32 → 1048576 < n → item_at at (number n ++ rest) ≡ Err (TooLong at)
item_large at n rest fits large =
    item_from at (number n ++ rest)
    ∙ ap (λ r. r >>= item_behind at (number n ++ rest)) (number_again at n rest fits)
    ∙ behind_large at (number n ++ rest) n large

pub item_cut : (at n : ℕ) (part : List ℕ) → n ≤ 1048576 → length part < n → item_at at (number n ++ part) ≡ Err (Truncated (at + 4))
item_cut at n part small cut =
    item_from at (number n ++ part)
    ∙ ap (λ r. r >>= item_behind at (number n ++ part)) (number_again at n part (omega arith))
    ∙ behind_cut at (number n ++ part) n small cut

pub item_takes : (at : ℕ) (bytes item : List ℕ) → IsBytes bytes → item_at at bytes ≡ Ok item → (bytes ≡ item_bytes item ++ drop (4 + length item) bytes) × IsShort item
item_takes at bytes item fits e =
    let b = bind_ok (number_at at bytes) (item_behind at bytes) item (sym (item_from at bytes) ∙ e) in
    let n = number_takes at bytes b.0 fits b.1 in
    elim (chosen (nat_lt 1048576 b.0) (Err (TooLong at)) (cond (nat_lt (length (drop 4 bytes)) b.0) (Err (Truncated (at + 4))) (Ok (take b.0 (drop 4 bytes)))) (Ok item) b.2) [
      | inl large ↦ absurd (not_both item (TooLong at) (sym large.1))
      | inr small ↦ elim (chosen (nat_lt (length (drop 4 bytes)) b.0) (Err (Truncated (at + 4))) (Ok (take b.0 (drop 4 bytes))) (Ok item) small.1) [
        | inl cut ↦ absurd (not_both item (Truncated (at + 4)) (sym cut.1))
        | inr whole ↦
            let is : take b.0 (drop 4 bytes) ≡ item = ok_is _ item whole.1 in
            let there : b.0 ≤ length (drop 4 bytes) = ltb-false _ _ whole.0 in
            let len : length item ≡ b.0 = ap length (sym is) ∙ omega (arith, length-take b.0 (drop 4 bytes)) in
            let few : b.0 ≤ 1048576 = ltb-false _ _ small.0 in
            let behind : drop b.0 (drop 4 bytes) ≡ drop (4 + length item) bytes = drop-drop b.0 4 bytes ∙ ap (λ k. drop (4 + k) bytes) (sym len) in
            let parts : drop 4 bytes ≡ item ++ drop (4 + length item) bytes = sym (take-append-drop b.0 (drop 4 bytes)) ∙ ap (λ xs. xs ++ drop b.0 (drop 4 bytes)) is ∙ ap (λ xs. item ++ xs) behind in (
              n.0
                  ∙ ap (λ xs. number b.0 ++ xs) parts
                  ∙ ap (λ k. number k ++ (item ++ drop (4 + length item) bytes)) (sym len)
                  ∙ sym (append_assoc (number (length item)) item (drop (4 + length item) bytes)),
              omega (arith, len, few),
            )
      ]
    ]

-- why no item is read: its length isn't all there, or is too large, or its bytes aren't all there
pub data ItemFault (at : ℕ) (bytes : List ℕ) (d : JournalFault) : Type 0 where
  no_length : length bytes < 4 → d ≡ Truncated at → ItemFault at bytes d
  large : (n : ℕ) → bytes ≡ number n ++ drop 4 bytes → n < 2 ^ 32 → 1048576 < n → d ≡ TooLong at → ItemFault at bytes d
  cut : (n : ℕ) → bytes ≡ number n ++ drop 4 bytes → n ≤ 1048576 → length (drop 4 bytes) < n → d ≡ Truncated (at + 4) → ItemFault at bytes d

pub item_faults : (at : ℕ) (bytes : List ℕ) (d : JournalFault) → IsBytes bytes → item_at at bytes ≡ Err d → ItemFault at bytes d
item_faults at bytes d fits e = elim (bind_err (number_at at bytes) (item_behind at bytes) d (sym (item_from at bytes) ∙ e)) [
  | inl first ↦ let f = number_faults at bytes d first in ItemFault.no_length f.0 f.1
  | inr later ↦
      let n = number_takes at bytes later.0 fits later.1 in
      elim (chosen (nat_lt 1048576 later.0) (Err (TooLong at)) (cond (nat_lt (length (drop 4 bytes)) later.0) (Err (Truncated (at + 4))) (Ok (take later.0 (drop 4 bytes)))) (Err d) later.2) [
        | inl is_large ↦ ItemFault.large later.0 n.0 n.1 (ltb-true _ _ is_large.0) (sym (err_is (List ℕ) _ d is_large.1))
        | inr small ↦ elim (chosen (nat_lt (length (drop 4 bytes)) later.0) (Err (Truncated (at + 4))) (Ok (take later.0 (drop 4 bytes))) (Err d) small.1) [
          | inl is_cut ↦ ItemFault.cut later.0 n.0 (ltb-false _ _ small.0) (ltb-true _ _ is_cut.0) (sym (err_is (List ℕ) _ d is_cut.1))
          | inr whole ↦ absurd (not_both _ d whole.1)
        ]
      ]
]
