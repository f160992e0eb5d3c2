-- Bytes that end behind the header of an image, or behind a right page, are filled up with pages to an image.
use Rattle.std.proofs.Common.{◌≡◌, ◌==◌, ℕ, zero, suc, ◌+◌, ◌-◌, ◌%◌, ◌<◌, ◌≤◌, Bool, true, false, ◌||◌, nat_lt, nat_eq, codes, List, [], ◌∷◌, ◌++◌, length, take, drop, replicate, inl, inr, refl, sym, ap, ◌∙◌, subst, append-nil, append_assoc, arith}
use Rattle.std.proofs.lemmas.Bool.{cases_lt, lt-ltb}
use Rattle.std.proofs.lemmas.List.{length-append, length-replicate, length-take-le, get_or-replicate, get_or_past, get_or_append_left, get_or-append_right, take_all, take_at, take-take, drop-take}
use Rattle.std.proofs.lemmas.Nat.{from_le_bytes-to_le_bytes_4}
use Rattle.std.specs.Int.{to_le_bytes, from_le_bytes, w32}
use Rattle.std.specs.List.{list_all, starts_with}
use Rattle.std.specs.Cmp.Lexicographic.{pointwise}
use Rattle.state_image.specs.ImageForm.{part, number_at, is_value, page_count, page_start, page_number, page_part, rises, HasNumbersLeft}
use Rattle.state_image.specs.Decoder.{IsRightPage, IsRight}
use Rattle.state_image.proofs.Images.{part_past}
use Rattle.state_image.proofs.ImageRoundTrip.{IsBytes, part_small}

-- ---- bytes that are the same before a place

part_again : (xs : List ℕ) (p n at : ℕ) → p + n ≤ at → part (take at xs) p n ≡ part xs p n
part_again xs p n at fits =
    let to : p + (at - p) ≡ at = omega (arith, fits) in
    ap (λ m. part (take m xs) p n) (sym to)
    ∙ ap (take n) (drop-take p (at - p) xs)
    ∙ take-take n (at - p) (drop p xs) (omega (arith, fits))

module _ (xs ys : List ℕ) (at : ℕ) (same : take at xs ≡ take at ys) where
  pub part_same : (p n : ℕ) → p + n ≤ at → part xs p n ≡ part ys p n
  part_same p n fits = sym (part_again xs p n at fits) ∙ ap (λ zs. part zs p n) same ∙ part_again ys p n at fits

  pub number_same : (p : ℕ) → p + 4 ≤ at → number_at xs p ≡ number_at ys p
  number_same p fits = ap (from_le_bytes w32) (part_same p 4 fits)

  pub letters_same : 4 ≤ at → starts_with nat_eq xs (codes "RVST") ≡ starts_with nat_eq ys (codes "RVST")
  letters_same fits = ap (pointwise nat_eq (codes "RVST")) (part_same 0 4 fits)

-- a page is right by what stands before its end
pub page_same : (xs ys : List ℕ) (at k : ℕ) → take at xs ≡ take at ys → page_start k + 4100 ≤ at → page_start k + 4100 ≤ length ys → IsRightPage xs k → IsRightPage ys k
page_same xs ys at k same fits there h =
    let number = number_same ys xs at (sym same) (page_start k) (omega (arith, fits)) in
    let before = number_same ys xs at (sym same) (page_start (k - 1)) (omega (arith, fits)) in
    let bytes = part_same ys xs at (sym same) (page_start k + 4) 4096 (omega (arith, fits)) in
    let below = h.below in
    record {
      there = there;
      up = (λ i. k == 0 || nat_lt (before i) (number i)) ∙ h.up;
      below = omega (arith, number, below);
      stored = ap (list_all (λ b. b == 0)) bytes ∙ h.stored;
    }

-- all numbers of the header are right
pub record IsRightHeader (bytes : List ℕ) : Type 0 where
  pub letters : starts_with nat_eq bytes (codes "RVST") ≡ true
  pub version : number_at bytes 4 ≡ 1
  pub pc : number_at bytes 8 % 4 ≡ 0
  pub kind : number_at bytes 136 ≤ 2
  pub value : is_value (number_at bytes 136) (number_at bytes 140) ≡ true
  pub few : page_count bytes ≤ 4096

header_same : (xs ys : List ℕ) (at : ℕ) → take at xs ≡ take at ys → 164 ≤ at → IsRightHeader xs → IsRightHeader ys
header_same xs ys at same fits h =
    let kind = number_same ys xs at (sym same) 136 (omega (arith, fits)) in
    let value = number_same ys xs at (sym same) 140 (omega (arith, fits)) in
    record {
      letters = letters_same ys xs at (sym same) (omega (arith, fits)) ∙ h.letters;
      version = number_same ys xs at (sym same) 4 (omega (arith, fits)) ∙ h.version;
      pc = ap (λ n. n % 4) (number_same ys xs at (sym same) 8 (omega (arith, fits))) ∙ h.pc;
      kind = subst (λ n. n ≤ 2) (sym kind) h.kind;
      value = (λ i. is_value (kind i) (value i)) ∙ h.value;
      few = subst (λ n. n ≤ 4096) (number_same xs ys at same 160 (omega (arith, fits))) h.few;
    }

-- ---- one page more

-- so many bytes that aren't all zero
blank : (size : ℕ) → (bytes : List ℕ) × (length bytes ≡ suc size) × (list_all (λ b. b == 0) bytes ≡ false) × IsBytes bytes
blank size = (1 ∷ replicate size 0, (let l = length-replicate {A = ℕ} size 0 in omega (arith, l)), refl, small)
  where
    small : IsBytes (1 ∷ replicate size 0)
    small zero = omega arith
    small (suc i) = elim (cases_lt i size) [
      | inl low ↦ subst (λ b. b < 256) (sym (get_or-replicate size i 0 0 low)) (omega arith)
      | inr past ↦ subst (λ b. b < 256) (sym (get_or_past (replicate size 0) i 0 (let l = length-replicate {A = ℕ} size 0 in omega (arith, l, past)))) (omega arith)
    ]

blank_page : (bytes : List ℕ) × (length bytes ≡ 4096) × (list_all (λ b. b == 0) bytes ≡ false) × IsBytes bytes
blank_page = blank 4095

abbrev filled : ℕ → List ℕ
filled n = to_le_bytes w32 n ++ blank_page.0

filled_long : (n : ℕ) → length (filled n) ≡ 4100
filled_long n = (let long = blank_page.1 in omega (arith, long, length-append (to_le_bytes w32 n) blank_page.0))

pub small_append : (xs ys : List ℕ) → IsBytes xs → IsBytes ys → IsBytes (xs ++ ys)
small_append xs ys first last i = elim (cases_lt i (length xs)) [
  | inl low ↦ subst (λ b. b < 256) (sym (get_or_append_left xs ys 0 i low)) (first i)
  | inr past ↦ subst (λ b. b < 256) (sym (get_or-append_right xs ys (length xs) i 0 refl past)) (last (i - length xs))
]

small_word : (n : ℕ) → IsBytes (to_le_bytes w32 n)
small_word n zero = omega arith
small_word n (suc zero) = omega arith
small_word n (suc (suc zero)) = omega arith
small_word n (suc (suc (suc zero))) = omega arith
small_word n (suc (suc (suc (suc i)))) = omega arith

-- the header and the first j pages of an image, and nothing after them
record Begins (bytes : List ℕ) (j : ℕ) : Type 0 where
  size : length bytes ≡ page_start j
  header : IsRightHeader bytes
  pages : (k : ℕ) → k < j → IsRightPage bytes k

module _ (bytes : List ℕ) (j n : ℕ) (h : Begins bytes j) where
  abbrev more : List ℕ
  more = bytes ++ filled n

  same : take (page_start j) bytes ≡ take (page_start j) more
  same = (let size = h.size in take_all (page_start j) bytes (omega (arith, size)) ∙ sym (take_at bytes (filled n) (page_start j) size))

  more_long : length more ≡ page_start (suc j)
  more_long = (let size = h.size in let long = filled_long n in omega (arith, size, long, length-append bytes (filled n)))

  number_is : n < 1048576 → page_number more j ≡ n
  number_is below =
      let to : page_start j ≡ page_start j + 0 = omega arith in
      ap (number_at more) to
      ∙ ap (from_le_bytes w32) (part_past bytes (filled n) (page_start j) 0 4 h.size)
      ∙ from_le_bytes-to_le_bytes_4 n (omega (arith, below))

  part_is : page_part more j ≡ blank_page.0
  part_is = part_past bytes (filled n) (page_start j) 4 4096 h.size ∙ take_all 4096 blank_page.0 (let long = blank_page.1 in omega (arith, long))

  last : n < 1048576 → ((i : ℕ) → j ≡ suc i → page_number bytes i < n) → IsRightPage more j
  last below above = record {
    there = (let long = more_long in omega (arith, long));
    up = risen j refl;
    below = (let is = number_is below in omega (arith, is, below));
    stored = ap (list_all (λ b. b == 0)) part_is ∙ blank_page.2;
  }
    where
      or_last : (a b : Bool) → b ≡ true → (a || b) ≡ true
      or_last true b h = refl
      or_last false b h = h

      risen : (k : ℕ) → j ≡ k → rises more k ≡ true
      risen zero is = refl
      risen (suc i) is =
          let before : suc i - 1 ≡ i = omega arith in
          let old = number_same bytes more (page_start j) same (page_start i) (omega (arith, is)) in
          let here : page_number more (suc i) ≡ n = subst (λ k. page_number more k ≡ n) is (number_is below) in
          let less = above i is in
          let up : page_number more i < page_number more (suc i) = omega (arith, old, here, less) in
          or_last (suc i == 0) _ (ap (λ k. nat_lt (page_number more k) (page_number more (suc i))) before ∙ lt-ltb (page_number more i) (page_number more (suc i)) up)

  begins_next : n < 1048576 → ((i : ℕ) → j ≡ suc i → page_number bytes i < n) → Begins more (suc j)
  begins_next below above = record {
    size = more_long;
    header = header_same bytes more (page_start j) same (omega arith) h.header;
    pages = λ k low. elim (cases_lt k j) [
      | inl before ↦ page_same bytes more (page_start j) k same (omega (arith, before)) (let long = more_long in omega (arith, before, long)) (h.pages k before)
      | inr past ↦ (let is : j ≡ k = omega (arith, low, past) in subst (IsRightPage more) is (last below above))
    ];
  }

-- ---- all pages that follow

right_whole : (bytes : List ℕ) (j : ℕ) → Begins bytes j → j ≡ page_count bytes → IsRight bytes
right_whole bytes j h is =
    let size = h.size in
    record {
      whole = omega (arith, size);
      letters = h.header.letters;
      version = h.header.version;
      pc = h.header.pc;
      kind = h.header.kind;
      value = h.header.value;
      few = h.header.few;
      pages = λ k low. h.pages k (subst (λ n. k < n) (sym is) low);
      end = size ∙ ap page_start is;
    }

-- bytes that are an image with bytes that follow
abbrev pub Completes : List ℕ → Type 0
Completes bytes = (rest : List ℕ) × IsBytes (bytes ++ rest) × IsRight (bytes ++ rest)

more_completes : (bytes more : List ℕ) → Completes (bytes ++ more) → Completes bytes
more_completes bytes more h = (more ++ h.0, subst IsBytes (append_assoc bytes more h.0) h.1, subst IsRight (append_assoc bytes more h.0) h.2)

fill : (n : ℕ) (bytes : List ℕ) (j next : ℕ) → IsBytes bytes → Begins bytes j → j + n ≡ page_count bytes → next + n ≤ 1048576 → ((i : ℕ) → j ≡ suc i → page_number bytes i < next) → Completes bytes
fill zero bytes j next small h many left above =
    let all : j ≡ page_count bytes = omega (arith, many) in
    ([], subst IsBytes (sym (append-nil bytes)) small, subst IsRight (sym (append-nil bytes)) (right_whole bytes j h all))
fill (suc n) bytes j next small h many left above =
    let below : next < 1048576 = omega (arith, left) in
    let count = number_same bytes (bytes ++ filled next) (page_start j) (same bytes j next h) 160 (omega arith) in
    let is = number_is bytes j next h below in
    more_completes bytes (filled next) (fill n (bytes ++ filled next) (suc j) (next + 1)
    (small_append bytes (filled next) small (small_append (to_le_bytes w32 next) blank_page.0 (small_word next) blank_page.3))
    (begins_next bytes j next h below above)
    (omega (arith, many, count))
    (omega (arith, left))
    (λ i e. let there : j ≡ i = omega (arith, e) in let here = ap (page_number (bytes ++ filled next)) there in omega (arith, is, here)))

-- the numbers that are left are enough for the pages that follow
module _ (bytes : List ℕ) (small : IsBytes bytes) (j : ℕ) (many : j ≤ page_count bytes) (fits : page_start j ≤ length bytes) (header : IsRightHeader bytes) (pages : (k : ℕ) → k < j → IsRightPage bytes k) where
  abbrev front : List ℕ
  front = take (page_start j) bytes

  front_same : take (page_start j) bytes ≡ take (page_start j) front
  front_same = sym (take-take (page_start j) (page_start j) bytes (omega arith))

  front_long : length front ≡ page_start j
  front_long = length-take-le (page_start j) bytes fits

  front_begins : Begins front j
  front_begins = record {
    size = front_long;
    header = header_same bytes front (page_start j) front_same (omega arith) header;
    pages = λ k low. page_same bytes front (page_start j) k front_same (omega (arith, low)) (let long = front_long in omega (arith, low, long)) (pages k low);
  }

  count_same : page_count bytes ≡ page_count front
  count_same = number_same bytes front (page_start j) front_same 160 (omega arith)

  front_from : (next : ℕ) → next + (page_count bytes - j) ≤ 1048576 → ((i : ℕ) → j ≡ suc i → page_number front i < next) → Completes front
  front_from next left above = fill (page_count bytes - j) front j next (part_small bytes small 0 (page_start j)) front_begins (let same = count_same in omega (arith, many, same)) left above

  pub fill_up : HasNumbersLeft bytes (page_start j) → Completes front
  fill_up left = from j refl
    where
      from : (k : ℕ) → j ≡ k → Completes front
      from zero is = front_from 0 (let few = header.few in omega (arith, few)) (λ i e. absurd (omega (arith, is, e)))
      from (suc i) is =
          let below = (pages i (omega (arith, is))).below in
          let same = number_same bytes front (page_start j) front_same (page_start i) (omega (arith, is)) in
          front_from (page_number bytes i + 1)
          (elim (cases_lt (i + 1) (page_count bytes)) [
            | inl more ↦ (let enough = left i more (omega (arith, is)) in omega (arith, enough, more, is))
            | inr last ↦ omega (arith, below, last, is)
          ])
          (λ k e. let there : i ≡ k = omega (arith, is, e) in let here = ap (page_number front) there in omega (arith, same, here))
