-- What is read of items one behind the other, both ways.
use Rattle.std.proofs.Common.{◌≡◌, ◌≢◌, ℕ, zero, suc, ◌+◌, ◌-◌, ◌<◌, ◌≤◌, cond, List, [], ◌∷◌, ◌++◌, length, drop, Result, Ok, Err, refl, sym, ap, subst, ◌∙◌, append_assoc, arith, inl, inr, length-append}
use Rattle.std.specs.List.{flat_map, AllByRecursion}
use Rattle.std.proofs.lemmas.Bool.{ne_eqb}
use Rattle.std.proofs.lemmas.List.{append-nil, nil_from_length, drop_at, drop-drop, length-drop}
use Rattle.std.proofs.lemmas.List.Concat.{flat_map-append}
use Rattle.input_journal.specs.declared.fault.JournalFault.{JournalFault}
use Rattle.input_journal.specs.declared.fault.JournalFault.TheVariants.{Magic, Version, Truncated, TooLong, Trailing, Memory}
use Rattle.input_journal.specs.Form.{letters, number, item_bytes, beginning, IsShort}
use Rattle.input_journal.specs.Faults.{HasMore, IsDue, IsTooLarge, FirstFault}
use Rattle.input_journal.specs.Parser.{◌>>=◌, Fails, item_at, items_at}
use Rattle.input_journal.proofs.Fields.{IsBytes, IsBytes-drop, bind_ok, bind_err, ok_is, err_is, not_both, item_again, item_takes, ItemFault, item_faults}

-- what was read before, and what is still read
abbrev pub with_front : List (List ℕ) → Result (List (List ℕ)) JournalFault → Result (List (List ℕ)) JournalFault
with_front front read = read >>= λ items. Ok (front ++ items)

pub with_none : (read : Result (List (List ℕ)) JournalFault) → read ≡ with_front [] read
with_none (Ok items) = refl
with_none (Err d) = refl

with_one : (item : List ℕ) (front : List (List ℕ)) (read : Result (List (List ℕ)) JournalFault) → (with_front front read >>= λ others. Ok (item ∷ others)) ≡ with_front (item ∷ front) read
with_one item front (Ok items) = refl
with_one item front (Err d) = refl

-- where an item is read, the others follow
pub one_more : (count at : ℕ) (rest item : List ℕ) → item_at at rest ≡ Ok item →
    items_at (suc count) at rest ≡ (items_at count (at + (4 + length item)) (drop (4 + length item) rest) >>= λ others. Ok (item ∷ others))
unfolding items_at
one_more count at rest item e = ap (λ r. r >>= λ item. items_at count (at + (4 + length item)) (drop (4 + length item) rest) >>= λ others. Ok (item ∷ others)) e

-- where none is read, that is the fault
pub no_more : (count at : ℕ) (rest : List ℕ) (d : JournalFault) → item_at at rest ≡ Err d → items_at (suc count) at rest ≡ Err d
unfolding items_at
no_more count at rest d e = ap (λ r. r >>= λ item. items_at count (at + (4 + length item)) (drop (4 + length item) rest) >>= λ others. Ok (item ∷ others)) e

pub none_left : (at : ℕ) → items_at 0 at [] ≡ Ok []
unfolding items_at
none_left at = refl

pub some_left : (at : ℕ) (rest : List ℕ) → 0 < length rest → items_at 0 at rest ≡ Err (Trailing at)
unfolding items_at
some_left at [] h = absurd (omega arith)
some_left at (b ∷ rest) h =
    let some : length (b ∷ rest) ≢ 0 = λ e. omega arith in
    ap (λ t. cond t (Ok []) (Err (Trailing at))) (ne_eqb (length (b ∷ rest)) 0 some)

regroup : (item : List ℕ) (items : List (List ℕ)) (rest : List ℕ) → flat_map item_bytes (item ∷ items) ++ rest ≡ item_bytes item ++ (flat_map item_bytes items ++ rest)
regroup item items rest = append_assoc (item_bytes item) (flat_map item_bytes items) rest

item_len : (item : List ℕ) → length (item_bytes item) ≡ 4 + length item
item_len item = omega (arith, length-append (number (length item)) item)

-- items that are spelled are read, and then what is behind them
pub items_pass : (items : List (List ℕ)) (count left at place : ℕ) (rest : List ℕ) → AllByRecursion IsShort items → count ≡ length items + left → place ≡ at + length (flat_map item_bytes items) →
    items_at count at (flat_map item_bytes items ++ rest) ≡ with_front items (items_at left place rest)
items_pass [] count left at place rest short e p =
    let same : count ≡ left = omega (arith, e) in
    let here : place ≡ at = omega (arith, p) in
    ap (λ k. items_at k at rest) same ∙ ap (λ k. items_at left k rest) (sym here) ∙ with_none (items_at left place rest)
items_pass (item ∷ items) count left at place rest short e p =
    let behind = flat_map item_bytes items ++ rest in
    let fewer : count ≡ suc (length items + left) = omega (arith, e) in
    let cut_off : drop (4 + length item) (item_bytes item ++ behind) ≡ behind = drop_at (item_bytes item) behind (4 + length item) (item_len item) in
    let here : place ≡ at + (4 + length item) + length (flat_map item_bytes items) = omega (arith, p, item_len item, length-append (item_bytes item) (flat_map item_bytes items)) in
    ap (λ k. items_at k at (flat_map item_bytes (item ∷ items) ++ rest)) fewer
    ∙ ap (items_at (suc (length items + left)) at) (regroup item items rest)
    ∙ one_more (length items + left) at (item_bytes item ++ behind) item (item_again at item behind short.0)
    ∙ ap (λ xs. items_at (length items + left) (at + (4 + length item)) xs >>= λ others. Ok (item ∷ others)) cut_off
    ∙ ap (λ r. r >>= λ others. Ok (item ∷ others)) (items_pass items (length items + left) left (at + (4 + length item)) place rest short.1 refl here)
    ∙ with_one item items (items_at left place rest)

-- what is read is spelled so
pub items_take : (count at : ℕ) (rest : List ℕ) (items : List (List ℕ)) → IsBytes rest → items_at count at rest ≡ Ok items → (rest ≡ flat_map item_bytes items) × (length items ≡ count) × AllByRecursion IsShort items
unfolding items_at
items_take zero at [] items fits e =
    let is : [] ≡ items = ok_is [] items e in
    subst (λ xs. ([] ≡ flat_map item_bytes xs) × (length xs ≡ 0) × AllByRecursion IsShort xs) is (refl, refl, tt)
items_take zero at (b ∷ rest) items fits e = absurd (not_both items (Trailing at) (sym e ∙ some_left at (b ∷ rest) (omega arith)))
items_take (suc count) at rest items fits e =
    let a = bind_ok (item_at at rest) (λ item. items_at count (at + (4 + length item)) (drop (4 + length item) rest) >>= λ others. Ok (item ∷ others)) items e in
    let b = bind_ok (items_at count (at + (4 + length a.0)) (drop (4 + length a.0) rest)) (λ others. Ok (a.0 ∷ others)) items a.2 in
    let first = item_takes at rest a.0 fits a.1 in
    let others = items_take count (at + (4 + length a.0)) (drop (4 + length a.0) rest) b.0 (IsBytes-drop (4 + length a.0) rest fits) b.1 in
    subst (λ xs. (rest ≡ flat_map item_bytes xs) × (length xs ≡ suc count) × AllByRecursion IsShort xs) (ok_is (a.0 ∷ b.0) items b.2) (
      first.0 ∙ ap (λ xs. item_bytes a.0 ++ xs) others.0,
      ap suc others.1,
      (first.1, others.2),
    )

-- one item more of a beginning
beginning_more : (count : ℕ) (items : List (List ℕ)) (item rest : List ℕ) → beginning count (items ++ item ∷ []) ++ rest ≡ beginning count items ++ (item_bytes item ++ rest)
beginning_more count items item rest =
    let front = letters ++ (number 1 ++ number count) in
    ap (λ xs. (front ++ xs) ++ rest) (flat_map-append item_bytes items (item ∷ []) ∙ ap (λ xs. flat_map item_bytes items ++ xs) (append-nil (item_bytes item)))
    ∙ ap (λ xs. xs ++ rest) (sym (append_assoc front (flat_map item_bytes items) (item_bytes item)))
    ∙ append_assoc (front ++ flat_map item_bytes items) (item_bytes item) rest

beginning_len : (count : ℕ) (items : List (List ℕ)) (item : List ℕ) → length (beginning count (items ++ item ∷ [])) ≡ length (beginning count items) + (4 + length item)
beginning_len count items item =
    ap length (sym (append-nil (beginning count (items ++ item ∷ []))) ∙ beginning_more count items item [] ∙ ap (λ xs. beginning count items ++ xs) (append-nil (item_bytes item)))
    ∙ length-append (beginning count items) (item_bytes item)
    ∙ ap (λ k. length (beginning count items) + k) (item_len item)

all_more : (items : List (List ℕ)) (item : List ℕ) → AllByRecursion IsShort items → IsShort item → AllByRecursion IsShort (items ++ item ∷ [])
all_more [] item all here = (here, tt)
all_more (x ∷ items) item all here = (all.0, all_more items item all.1 here)

-- the first fault where an item is due
item_row : (count at : ℕ) (items : List (List ℕ)) (rest : List ℕ) (d : JournalFault) → HasMore count items → at ≡ length (beginning count items) → ItemFault at rest d → FirstFault (beginning count items ++ rest) d
item_row count at items rest d more place (ItemFault.no_length short is) =
    subst (FirstFault (beginning count items ++ rest)) (sym is)
    (beginning count items, rest, 4, IsDue.item_length count items more refl refl, refl, short, place)
item_row count at items rest d more place (ItemFault.large n parts fits over is) =
    subst (FirstFault (beginning count items ++ rest)) (sym is)
    (beginning count items, drop 4 rest, n, IsTooLarge.item_length count items more refl over, ap (λ xs. beginning count items ++ xs) parts, fits, place)
item_row count at items rest d more place (ItemFault.cut n parts small short is) =
    subst (FirstFault (beginning count items ++ rest)) (sym is) (
      beginning count items ++ number n,
      drop 4 rest,
      n,
      IsDue.item count items more refl small,
      ap (λ xs. beginning count items ++ xs) parts ∙ sym (append_assoc (beginning count items) (number n) (drop 4 rest)),
      short,
      omega (arith, place, length-append (beginning count items) (number n)),
    )

-- the fault that is met behind items is the first one
pub items_fault : (left : ℕ) (items : List (List ℕ)) (count at : ℕ) (rest : List ℕ) (d : JournalFault) → IsBytes rest → AllByRecursion IsShort items → count ≤ 65536 → count ≡ length items + left →
    at ≡ length (beginning count items) → items_at left at rest ≡ Err d → FirstFault (beginning count items ++ rest) d
unfolding items_at
items_fault zero items count at [] d fits short few parts place e = absurd (not_both [] d e)
items_fault zero items count at (b ∷ rest) d fits short few parts place e =
    let all : length items ≡ count = omega (arith, parts) in
    subst (FirstFault (beginning count items ++ b ∷ rest)) (err_is (List (List ℕ)) (Trailing at) d (sym (some_left at (b ∷ rest) (omega arith)) ∙ e)) (
      items,
      beginning count items,
      b ∷ rest,
      record { few = omega (arith, all, few); short = short; spelled = ap (λ k. beginning k items) (sym all) },
      refl,
      omega arith,
      place,
    )
items_fault (suc left) items count at rest d fits short few parts place e =
    elim (bind_err (item_at at rest) (λ item. items_at left (at + (4 + length item)) (drop (4 + length item) rest) >>= λ others. Ok (item ∷ others)) d e) [
      | inl here ↦
          item_row count at items rest d (record { few = few; short = short; more = omega (arith, parts) }) place (item_faults at rest d fits here)
      | inr later ↦
          let item = later.0 in
          let taken = item_takes at rest item fits later.1 in
          let next = drop (4 + length item) rest in
          elim (bind_err (items_at left (at + (4 + length item)) next) (λ others. Ok (item ∷ others)) d later.2) [
            | inl there ↦
                subst (λ xs. FirstFault xs d) (beginning_more count items item next ∙ ap (λ xs. beginning count items ++ xs) (sym taken.0))
                (items_fault left (items ++ item ∷ []) count (at + (4 + length item)) next d (IsBytes-drop (4 + length item) rest fits) (all_more items item short taken.1) few
                (omega (arith, parts, length-append items (item ∷ []))) (omega (arith, place, beginning_len count items item)) there)
            | inr never ↦ absurd (not_both _ d never.2)
          ]
    ]

-- ---- a loop over the items

regroup_read : (front : List (List ℕ)) (item : List ℕ) (read : Result (List (List ℕ)) JournalFault) → with_front front (read >>= λ others. Ok (item ∷ others)) ≡ with_front (front ++ item ∷ []) read
regroup_read front item (Ok items) = ap (λ xs. Ok xs) (sym (append_assoc front (item ∷ []) items))
regroup_read front item (Err d) = refl

-- with one item more read, the others are left
pub goes_on : (front : List (List ℕ)) (count i at : ℕ) (bytes item : List ℕ) (total : Result (List (List ℕ)) JournalFault) → i < count → item_at at (drop at bytes) ≡ Ok item →
    with_front front (items_at (count - i) at (drop at bytes)) ≡ total →
    with_front (front ++ item ∷ []) (items_at (count - (i + 1)) (at + (4 + length item)) (drop (at + (4 + length item)) bytes)) ≡ total
goes_on front count i at bytes item total lt e so_far =
    let left = count - (i + 1) in
    let next = at + (4 + length item) in
    let one : count - i ≡ suc left = omega arith in
    sym (ap (λ k. with_front front (items_at k at (drop at bytes))) one
    ∙ ap (with_front front) (one_more left at (drop at bytes) item e)
    ∙ ap (λ xs. with_front front (items_at left next xs >>= λ others. Ok (item ∷ others))) (drop-drop (4 + length item) at bytes)
    ∙ regroup_read front item (items_at left next (drop next bytes)))
    ∙ so_far

-- where an item isn't read, that is the fault of all
stops : (front : List (List ℕ)) (count i at : ℕ) (rest : List ℕ) (d : JournalFault) (total : Result (List (List ℕ)) JournalFault) → i < count → item_at at rest ≡ Err d →
    with_front front (items_at (count - i) at rest) ≡ total → total ≡ Err d
stops front count i at rest d total lt e so_far =
    let one : count - i ≡ suc (count - (i + 1)) = omega arith in
    sym so_far ∙ ap (λ k. with_front front (items_at k at rest)) one ∙ ap (with_front front) (no_more (count - (i + 1)) at rest d e)

pub ends : (d : JournalFault) (front : List (List ℕ)) (count i at : ℕ) (rest : List ℕ) (total : Result (List (List ℕ)) JournalFault) → i < count → Fails d (item_at at rest) →
    with_front front (items_at (count - i) at rest) ≡ total → Fails d total
ends Magic front count i at rest total lt e so_far = stops front count i at rest Magic total lt e so_far
ends Version front count i at rest total lt e so_far = stops front count i at rest Version total lt e so_far
ends (Truncated k) front count i at rest total lt e so_far = stops front count i at rest (Truncated k) total lt e so_far
ends (TooLong k) front count i at rest total lt e so_far = stops front count i at rest (TooLong k) total lt e so_far
ends (Trailing k) front count i at rest total lt e so_far = stops front count i at rest (Trailing k) total lt e so_far
ends Memory front count i at rest total lt e so_far = tt

-- behind the last item nothing is left, or that is a fault
pub is_done : (front : List (List ℕ)) (count i at : ℕ) (bytes : List ℕ) (total : Result (List (List ℕ)) JournalFault) → count ≤ i → length bytes ≤ at →
    with_front front (items_at (count - i) at (drop at bytes)) ≡ total → total ≡ Ok front
is_done front count i at bytes total le past so_far =
    let none : count - i ≡ 0 = omega arith in
    let nothing : drop at bytes ≡ [] = nil_from_length (drop at bytes) (omega (arith, length-drop at bytes)) in
    sym so_far
    ∙ ap (λ k. with_front front (items_at k at (drop at bytes))) none
    ∙ ap (λ xs. with_front front (items_at 0 at xs)) nothing
    ∙ ap (with_front front) (none_left at)
    ∙ ap (λ xs. Ok xs) (append-nil front)

pub is_trailing : (front : List (List ℕ)) (count i at : ℕ) (bytes : List ℕ) (total : Result (List (List ℕ)) JournalFault) → count ≤ i → at < length bytes →
    with_front front (items_at (count - i) at (drop at bytes)) ≡ total → total ≡ Err (Trailing at)
is_trailing front count i at bytes total le more so_far =
    let none : count - i ≡ 0 = omega arith in
    sym so_far
    ∙ ap (λ k. with_front front (items_at k at (drop at bytes))) none
    ∙ ap (with_front front) (some_left at (drop at bytes) (omega (arith, length-drop at bytes)))
