-- What is read of whole journals, both ways.
use Rattle.std.proofs.Common.{◌≡◌, ◌==◌, ℕ, suc, ◌+◌, ◌-◌, ◌^◌, ◌<◌, ◌≤◌, Bool, true, false, cond, nat_lt, nat_eq, List, [], ◌++◌, length, take, drop, Result, Ok, Err, refl, sym, ap, subst, ◌∙◌, append_assoc, arith, inl, inr, true≢false, length-append}
use Rattle.std.specs.List.{flat_map, AllByRecursion, starts_with}
use Rattle.std.proofs.lemmas.Bool.{ltb-true, ltb-false, le-ltb, lt-ltb, eqb-true, ne_eqb}
use Rattle.std.proofs.lemmas.List.{append-nil, take-append-drop}
use Rattle.std.proofs.lemmas.List.{drop-drop}
use Rattle.std.proofs.lemmas.Slice.Eq.{bytes_eq-Decides}
use Rattle.input_journal.specs.declared.fault.JournalFault.{JournalFault}
use Rattle.input_journal.specs.declared.fault.JournalFault.TheVariants.{Magic, Version, Truncated, TooLong, Trailing, Memory}
use Rattle.input_journal.specs.Form.{letters, number, item_bytes, beginning, journal_bytes, IsShort, IsJournal}
use Rattle.input_journal.specs.Faults.{HasMore, IsDue, IsTooLarge, FirstFault}
use Rattle.input_journal.specs.Parser.{◌>>=◌, number_at, items_at, count_of, reading}
use Rattle.input_journal.proofs.Fields.{IsBytes, IsBytes-drop, bind_ok, bind_err, chosen, ok_is, err_is, not_both, number_again, number_short, number_takes, number_faults, item_short, item_large, item_cut}
use Rattle.input_journal.proofs.Items.{with_front, no_more, none_left, some_left, items_pass, items_take, items_fault}

-- ---- the number of items

-- what follows the number, the version, and the letters
abbrev behind_number : ℕ → Result ℕ JournalFault
behind_number n = cond (nat_lt 65536 n) (Err (TooLong 8)) (Ok n)

abbrev behind_version : List ℕ → ℕ → Result ℕ JournalFault
behind_version bytes version = cond (version == 1) (number_at 8 (drop 8 bytes) >>= behind_number) (Err Version)

abbrev behind_letters : List ℕ → Result ℕ JournalFault
behind_letters bytes = number_at 4 (drop 4 bytes) >>= behind_version bytes

count_from : (bytes : List ℕ) → count_of bytes ≡ cond (starts_with nat_eq bytes letters) (behind_letters bytes) (Err Magic)
unfolding count_of
count_from bytes = refl

count_behind : (rest : List ℕ) → count_of (letters ++ rest) ≡ (number_at 4 rest >>= behind_version (letters ++ rest))
count_behind rest = count_from (letters ++ rest)

version_again : (n : ℕ) (rest : List ℕ) → n < 2 ^ 32 → count_of (letters ++ (number n ++ rest)) ≡ behind_version (letters ++ (number n ++ rest)) n
version_again n rest fits =
    count_behind (number n ++ rest) ∙ ap (λ r. r >>= behind_version (letters ++ (number n ++ rest))) (number_again 4 n rest fits)

-- behind the version 1 the number of items is read
number_next : (rest : List ℕ) → count_of (letters ++ (number 1 ++ rest)) ≡ (number_at 8 rest >>= behind_number)
number_next rest = version_again 1 rest (omega arith)

count_again : (count : ℕ) (rest : List ℕ) → count ≤ 65536 → count_of (letters ++ (number 1 ++ (number count ++ rest))) ≡ Ok count
count_again count rest few =
    number_next (number count ++ rest)
    ∙ ap (λ r. r >>= behind_number) (number_again 8 count rest (omega arith))
    ∙ rw (le-ltb 65536 count few) refl

count_large : (n : ℕ) (rest : List ℕ) → n < 2 ^ 32 → 65536 < n → count_of (letters ++ (number 1 ++ (number n ++ rest))) ≡ Err (TooLong 8)
count_large n rest fits large =
    number_next (number n ++ rest)
    ∙ ap (λ r. r >>= behind_number) (number_again 8 n rest fits)
    ∙ rw (lt-ltb 65536 n large) refl

starts_so : (bytes : List ℕ) → starts_with nat_eq bytes letters ≡ true → bytes ≡ letters ++ drop 4 bytes
starts_so bytes e = sym (take-append-drop 4 bytes) ∙ ap (λ xs. xs ++ drop 4 bytes) (sym ((bytes_eq-Decides letters (take 4 bytes)).0 e))

-- a test that isn't true is false
not_true : (b : Bool) → (b ≡ true → ⊥) → b ≡ false
not_true true h = absurd (h refl)
not_true false h = refl

-- bytes with a number of items begin so
count_takes : (bytes : List ℕ) (count : ℕ) → IsBytes bytes → count_of bytes ≡ Ok count → (bytes ≡ letters ++ (number 1 ++ (number count ++ drop 12 bytes))) × (count ≤ 65536)
count_takes bytes count fits e = elim (chosen (starts_with nat_eq bytes letters) (behind_letters bytes) (Err Magic) (Ok count) (sym (count_from bytes) ∙ e)) [
  | inr other ↦ absurd (not_both count Magic (sym other.1))
  | inl same ↦
      let v = bind_ok (number_at 4 (drop 4 bytes)) (behind_version bytes) count same.1 in
      elim (chosen (v.0 == 1) (number_at 8 (drop 8 bytes) >>= behind_number) (Err Version) (Ok count) v.2) [
        | inr other ↦ absurd (not_both count Version (sym other.1))
        | inl one ↦
            let n = bind_ok (number_at 8 (drop 8 bytes)) behind_number count one.1 in
            elim (chosen (nat_lt 65536 n.0) (Err (TooLong 8)) (Ok n.0) (Ok count) n.2) [
              | inl large ↦ absurd (not_both count (TooLong 8) (sym large.1))
              | inr small ↦
                  let version = (number_takes 4 (drop 4 bytes) v.0 (IsBytes-drop 4 bytes fits) v.1).0 in
                  let counted = (number_takes 8 (drop 8 bytes) n.0 (IsBytes-drop 8 bytes fits) n.1).0 in
                  let is_one : v.0 ≡ 1 = eqb-true v.0 1 one.0 in
                  let is : n.0 ≡ count = ok_is n.0 count small.1 in (
                    starts_so bytes same.0
                        ∙ ap (λ xs. letters ++ xs) (version
                        ∙ ap (λ k. number k ++ drop 4 (drop 4 bytes)) is_one
                        ∙ ap (λ xs. number 1 ++ xs) (drop-drop 4 4 bytes ∙ counted
                        ∙ ap (λ k. number k ++ drop 4 (drop 8 bytes)) is
                        ∙ ap (λ xs. number count ++ xs) (drop-drop 4 8 bytes))),
                    omega (arith, is, ltb-false _ _ small.0),
                  )
            ]
      ]
]

-- the fault that is met before the items is the first one
count_fault : (bytes : List ℕ) (d : JournalFault) → IsBytes bytes → count_of bytes ≡ Err d → FirstFault bytes d
count_fault bytes d fits e = elim (chosen (starts_with nat_eq bytes letters) (behind_letters bytes) (Err Magic) (Err d) (sym (count_from bytes) ∙ e)) [
  | inr other ↦
      subst (FirstFault bytes) (err_is ℕ Magic d other.1) (λ h. true≢false (sym ((bytes_eq-Decides letters (take 4 bytes)).1 (sym h)) ∙ other.0))
  | inl same ↦
      let begins = starts_so bytes same.0 in
      elim (bind_err (number_at 4 (drop 4 bytes)) (behind_version bytes) d same.1) [
        | inl short ↦
            let f = number_faults 4 (drop 4 bytes) d short in
            subst (FirstFault bytes) (sym f.1) (letters, drop 4 bytes, 4, IsDue.version refl refl, begins, f.0, refl)
        | inr v ↦
            let version = number_takes 4 (drop 4 bytes) v.0 (IsBytes-drop 4 bytes fits) v.1 in
            elim (chosen (v.0 == 1) (number_at 8 (drop 8 bytes) >>= behind_number) (Err Version) (Err d) v.2) [
              | inr other ↦
                  subst (FirstFault bytes) (err_is ℕ Version d other.1)
                  (v.0, drop 4 (drop 4 bytes), begins ∙ ap (λ xs. letters ++ xs) version.0, version.1, λ h. true≢false (sym (ap (λ k. k == 1) h) ∙ other.0))
              | inl one ↦
                  let is_one : v.0 ≡ 1 = eqb-true v.0 1 one.0 in
                  let so_far : bytes ≡ (letters ++ number 1) ++ drop 8 bytes =
                  begins ∙ ap (λ xs. letters ++ xs) (version.0 ∙ ap (λ k. number k ++ drop 4 (drop 4 bytes)) is_one ∙ ap (λ xs. number 1 ++ xs) (drop-drop 4 4 bytes)) in
                  elim (bind_err (number_at 8 (drop 8 bytes)) behind_number d one.1) [
                    | inl short ↦
                        let f = number_faults 8 (drop 8 bytes) d short in
                        subst (FirstFault bytes) (sym f.1) (letters ++ number 1, drop 8 bytes, 4, IsDue.count refl refl, so_far, f.0, refl)
                    | inr n ↦
                        let counted = number_takes 8 (drop 8 bytes) n.0 (IsBytes-drop 8 bytes fits) n.1 in
                        elim (chosen (nat_lt 65536 n.0) (Err (TooLong 8)) (Ok n.0) (Err d) n.2) [
                          | inl large ↦
                              subst (FirstFault bytes) (err_is ℕ (TooLong 8) d large.1) (
                                letters ++ number 1,
                                drop 4 (drop 8 bytes),
                                n.0,
                                IsTooLarge.count refl (ltb-true _ _ large.0),
                                so_far ∙ ap (λ xs. (letters ++ number 1) ++ xs) counted.0,
                                counted.1,
                                refl,
                              )
                          | inr small ↦ absurd (not_both n.0 d small.1)
                        ]
                  ]
            ]
      ]
]

-- ---- all of the bytes

reading_from : (bytes : List ℕ) → reading bytes ≡ (count_of bytes >>= λ count. items_at count 12 (drop 12 bytes))
unfolding reading
reading_from bytes = refl

-- behind the number of items the items are read
pub items_next : (bytes : List ℕ) (count : ℕ) → count_of bytes ≡ Ok count → reading bytes ≡ items_at count 12 (drop 12 bytes)
items_next bytes count e = reading_from bytes ∙ ap (λ r. r >>= λ count. items_at count 12 (drop 12 bytes)) e

beginning_behind : (count : ℕ) (items : List (List ℕ)) (rest : List ℕ) → beginning count items ++ rest ≡ letters ++ (number 1 ++ (number count ++ (flat_map item_bytes items ++ rest)))
beginning_behind count items rest = append_assoc (letters ++ (number 1 ++ number count)) (flat_map item_bytes items) rest

-- a beginning is read, and then what is behind it
beginning_pass : (count left place : ℕ) (items : List (List ℕ)) (rest : List ℕ) → count ≤ 65536 → AllByRecursion IsShort items → count ≡ length items + left → place ≡ length (beginning count items) →
    reading (beginning count items ++ rest) ≡ with_front items (items_at left place rest)
beginning_pass count left place items rest few short parts at =
    let behind = flat_map item_bytes items ++ rest in
    let here : place ≡ 12 + length (flat_map item_bytes items) = omega (arith, at, length-append (letters ++ (number 1 ++ number count)) (flat_map item_bytes items)) in
    ap reading (beginning_behind count items rest)
    ∙ reading_from (letters ++ (number 1 ++ (number count ++ behind)))
    ∙ ap (λ r. r >>= λ n. items_at n 12 behind) (count_again count behind few)
    ∙ items_pass items count left 12 place rest short parts here

-- a fault before the items is the answer
early : (bytes : List ℕ) (d : JournalFault) → count_of bytes ≡ Err d → reading bytes ≡ Err d
early bytes d e = reading_from bytes ∙ ap (λ r. r >>= λ count. items_at count 12 (drop 12 bytes)) e

-- what is spelled is read
pub journal_read : (bytes : List ℕ) (items : List (List ℕ)) → IsJournal bytes items → reading bytes ≡ Ok items
journal_read bytes items is =
    ap reading (is.spelled ∙ sym (append-nil (journal_bytes items)))
    ∙ beginning_pass (length items) 0 (length (journal_bytes items)) items [] is.few is.short (omega arith) refl
    ∙ ap (with_front items) (none_left (length (journal_bytes items)))
    ∙ ap (λ xs. Ok xs) (append-nil items)

-- where more items are to come, the fault of the next is the answer
late : (count : ℕ) (items : List (List ℕ)) (rest : List ℕ) (d : JournalFault) → HasMore count items → ((left : ℕ) → items_at (suc left) (length (beginning count items)) rest ≡ Err d) → reading (beginning count items ++ rest) ≡ Err d
late count items rest d more fails =
    let left = count - length items - 1 in
    let less = more.more in
    beginning_pass count (suc left) (length (beginning count items)) items rest more.few more.short (omega (arith, less)) refl
    ∙ ap (with_front items) (fails left)

due_read : (bytes before part : List ℕ) (size at : ℕ) → IsDue before size → bytes ≡ before ++ part → length part < size → at ≡ length before → reading bytes ≡ Err (Truncated at)
due_read bytes before part size at (IsDue.version b s) parts short place =
    ap reading (parts ∙ ap (λ xs. xs ++ part) b)
    ∙ early (letters ++ part) (Truncated 4) (count_behind part ∙ ap (λ r. r >>= behind_version (letters ++ part)) (number_short 4 part (omega (arith, s, short))))
    ∙ ap (λ k. Err (Truncated k)) (sym (place ∙ ap length b))
due_read bytes before part size at (IsDue.count b s) parts short place =
    ap reading (parts ∙ ap (λ xs. xs ++ part) b)
    ∙ early (letters ++ (number 1 ++ part)) (Truncated 8) (number_next part ∙ ap (λ r. r >>= behind_number) (number_short 8 part (omega (arith, s, short))))
    ∙ ap (λ k. Err (Truncated k)) (sym (place ∙ ap length b))
due_read bytes before part size at (IsDue.item_length n items more b s) parts short place =
    let here = length (beginning n items) in
    ap reading (parts ∙ ap (λ xs. xs ++ part) b)
    ∙ late n items part (Truncated here) more (λ left. no_more left here part (Truncated here) (item_short here part (omega (arith, s, short))))
    ∙ ap (λ k. Err (Truncated k)) (sym (place ∙ ap length b))
due_read bytes before part size at (IsDue.item n items more b small) parts short place =
    let here = length (beginning n items) in
    ap reading (parts ∙ ap (λ xs. xs ++ part) b ∙ append_assoc (beginning n items) (number size) part)
    ∙ late n items (number size ++ part) (Truncated (here + 4)) more (λ left. no_more left here (number size ++ part) (Truncated (here + 4)) (item_cut here size part small short))
    ∙ ap (λ k. Err (Truncated k)) (sym (place ∙ ap length b ∙ length-append (beginning n items) (number size)))

large_read : (bytes before rest : List ℕ) (n at : ℕ) → IsTooLarge before n → bytes ≡ before ++ (number n ++ rest) → n < 2 ^ 32 → at ≡ length before → reading bytes ≡ Err (TooLong at)
large_read bytes before rest n at (IsTooLarge.count b over) parts fits place =
    ap reading (parts ∙ ap (λ xs. xs ++ (number n ++ rest)) b)
    ∙ early (letters ++ (number 1 ++ (number n ++ rest))) (TooLong 8) (count_large n rest fits over)
    ∙ ap (λ k. Err (TooLong k)) (sym (place ∙ ap length b))
large_read bytes before rest n at (IsTooLarge.item_length count items more b over) parts fits place =
    let here = length (beginning count items) in
    ap reading (parts ∙ ap (λ xs. xs ++ (number n ++ rest)) b)
    ∙ late count items (number n ++ rest) (TooLong here) more (λ left. no_more left here (number n ++ rest) (TooLong here) (item_large here n rest fits over))
    ∙ ap (λ k. Err (TooLong k)) (sym (place ∙ ap length b))

-- what has a fault first is refused for it
pub fault_read : (bytes : List ℕ) (d : JournalFault) → FirstFault bytes d → reading bytes ≡ Err d
fault_read bytes Magic f =
    early bytes Magic (count_from bytes ∙ ap (λ b. cond b (behind_letters bytes) (Err Magic)) (not_true _ (λ e. f (sym ((bytes_eq-Decides letters (take 4 bytes)).0 e)))))
fault_read bytes Version f =
    let n = f.0 in
    let other : (n == 1) ≡ false = ne_eqb n 1 f.4 in
    let all = letters ++ (number n ++ f.1) in
    ap reading f.2
    ∙ early all Version (version_again n f.1 f.3 ∙ ap (λ b. cond b (number_at 8 (drop 8 all) >>= behind_number) (Err Version)) other)
fault_read bytes (Truncated at) f = due_read bytes f.0 f.1 f.2 at f.3 f.4 f.5 f.6
fault_read bytes (TooLong at) f = large_read bytes f.0 f.1 f.2 at f.3 f.4 f.5 f.6
fault_read bytes (Trailing at) f =
    let items = f.0 in
    let is = f.3 in
    ap reading (f.4 ∙ ap (λ xs. xs ++ f.2) is.spelled)
    ∙ beginning_pass (length items) 0 (length (journal_bytes items)) items f.2 is.few is.short (omega arith) refl
    ∙ ap (with_front items) (some_left (length (journal_bytes items)) f.2 f.5)
    ∙ ap (λ k. Err (Trailing k)) (sym (f.6 ∙ ap length is.spelled))
fault_read bytes Memory f = absurd f

-- what is read is spelled so
pub read_is_journal : (bytes : List ℕ) (items : List (List ℕ)) → IsBytes bytes → reading bytes ≡ Ok items → IsJournal bytes items
read_is_journal bytes items fits e =
    let a = bind_ok (count_of bytes) (λ count. items_at count 12 (drop 12 bytes)) items (sym (reading_from bytes) ∙ e) in
    let front = count_takes bytes a.0 fits a.1 in
    let back = items_take a.0 12 (drop 12 bytes) items (IsBytes-drop 12 bytes fits) a.2 in
    record {
      few = omega (arith, front.1, back.1);
      short = back.2;
      spelled = front.0 ∙ ap (λ xs. letters ++ (number 1 ++ (number a.0 ++ xs))) back.0 ∙ ap (λ k. beginning k items) (sym back.1);
    }

-- what is refused has that fault first
pub read_is_fault : (bytes : List ℕ) (d : JournalFault) → IsBytes bytes → reading bytes ≡ Err d → FirstFault bytes d
read_is_fault bytes d fits e = elim (bind_err (count_of bytes) (λ count. items_at count 12 (drop 12 bytes)) d (sym (reading_from bytes) ∙ e)) [
  | inl first ↦ count_fault bytes d fits first
  | inr a ↦
      let front = count_takes bytes a.0 fits a.1 in
      let P : List ℕ → Type 0 = λ xs. FirstFault xs d in
      subst P (sym front.0) (items_fault a.0 [] a.0 12 (drop 12 bytes) d (IsBytes-drop 12 bytes fits) tt front.1 (omega arith) refl a.2)
]
