-- Tables with one more lower table, and with one more entry.
use Rattle.std.proofs.Common.{◌≡◌, ◌≢◌, ℕ, ◌+◌, ◌-◌, ◌*◌, ◌/◌, ◌%◌, ◌<◌, ◌≤◌, inl, inr, List, ◌++◌, length, get_or, set, replicate, refl, sym, ap, ◌∙◌, arith}
use Rattle.std.proofs.lemmas.Bool.{cases_lt, cases_eq}
use Rattle.std.proofs.lemmas.List.{length-set, length-append, length-replicate, get_or-set_same, get_or-set_other, get_or_append_left, get_or-append_right, get_or-replicate, get_or_past}
use Rattle.rv_pages.specs.Tables.{AreTables, entry_of}

pub length-more_lows : (lows : List ℕ) (size : ℕ) → length (lows ++ replicate size 0) ≡ length lows + size
length-more_lows lows size = omega (arith, length-append lows (replicate size 0), length-replicate {A = ℕ} size 0)

zero_after : (lows : List ℕ) (size k : ℕ) → length lows ≤ k → get_or (lows ++ replicate size 0) k 0 ≡ 0
zero_after lows size k past =
    get_or-append_right lows (replicate size 0) (length lows) k 0 refl past
    ∙ elim (cases_lt (k - length lows) size) [ inl l ↦ get_or-replicate size (k - length lows) 0 0 l | inr r ↦ get_or_past (replicate size 0) (k - length lows) 0 (omega (arith, length-replicate {A = ℕ} size 0)) ]

module _ (tops lows : List ℕ) (top table size : ℕ) (is : size ≡ 1024) (are : AreTables tops lows) (inside : top < 1024) (none : get_or tops top 0 ≡ 0) (last : table ≡ length lows / 1024) where
  start_of_table : table * 1024 ≡ length lows
  start_of_table = let whole = are.whole in omega arith

  pub some_table : 0 < table
  some_table = let first = are.inside top in omega arith

  pub at_top : get_or (set tops top table) top 0 ≡ table
  at_top = get_or-set_same tops top table 0 (let c = are.count in omega arith)

  at_other : (a : ℕ) → a ≢ top → get_or (set tops top table) a 0 ≡ get_or tops a 0
  at_other a other = get_or-set_other tops top a table 0 other

  before_table : (a : ℕ) → get_or tops a 0 < table
  before_table a = let room = are.inside a in let start = start_of_table in omega arith

  inside_more : (a : ℕ) → get_or (set tops top table) a 0 * 1024 + 1024 ≤ length (lows ++ replicate size 0)
  inside_more a =
      let long = length-more_lows lows size in
      let start = start_of_table in
      elim (cases_eq a top) [
        | inl same ↦ let e : get_or (set tops top table) a 0 ≡ table = ap (λ n. get_or (set tops top table) n 0) same ∙ at_top in omega arith
        | inr other ↦ let e = at_other a other in let room = are.inside a in omega arith
      ]

  apart_more : (a b : ℕ) → a ≢ b → get_or (set tops top table) a 0 ≡ get_or (set tops top table) b 0 → get_or (set tops top table) a 0 ≡ 0
  apart_more a b differ equal =
      elim (cases_eq a top) [
        | inl same ↦
            let e : get_or (set tops top table) a 0 ≡ table = ap (λ n. get_or (set tops top table) n 0) same ∙ at_top in
            let f = at_other b (λ (g : b ≡ top). differ (same ∙ sym g)) in
            let less = before_table b in
            absurd (omega arith)
        | inr other ↦ elim (cases_eq b top) [
          | inl same ↦
              let e : get_or (set tops top table) b 0 ≡ table = ap (λ n. get_or (set tops top table) n 0) same ∙ at_top in
              let f = at_other a other in
              let less = before_table a in
              absurd (omega arith)
          | inr other_too ↦ at_other a other ∙ are.apart a b differ (sym (at_other a other) ∙ equal ∙ at_other b other_too)
        ]
      ]

  none_more : (place : ℕ) → place < 1024 → get_or (lows ++ replicate size 0) place 0 ≡ 0
  none_more place below = let room = are.inside top in get_or_append_left lows (replicate size 0) 0 place (omega arith) ∙ are.none place below

  pub tables_more : AreTables (set tops top table) (lows ++ replicate size 0)
  tables_more = record {
    count = length-set tops top table ∙ are.count;
    whole = let long = length-more_lows lows size in let whole = are.whole in omega arith;
    inside = inside_more;
    none = none_more;
    apart = apart_more;
  }

  pub entries_more : (q : ℕ) → entry_of (set tops top table) (lows ++ replicate size 0) q ≡ entry_of tops lows q
  entries_more q =
      elim (cases_eq (q / 1024) top) [
        | inl same ↦
            let new : get_or (set tops top table) (q / 1024) 0 ≡ table = ap (λ n. get_or (set tops top table) n 0) same ∙ at_top in
            let old : get_or tops (q / 1024) 0 ≡ 0 = ap (λ n. get_or tops n 0) same ∙ none in
            let start = start_of_table in
            let past : length lows ≤ get_or (set tops top table) (q / 1024) 0 * 1024 + q % 1024 = omega arith in
            let place : get_or tops (q / 1024) 0 * 1024 + q % 1024 ≡ q % 1024 = omega arith in
            zero_after lows size _ past ∙ sym (ap (λ n. get_or lows n 0) place ∙ are.none (q % 1024) (omega arith))
        | inr other ↦
            let same = at_other (q / 1024) other in
            let room = are.inside (q / 1024) in
            ap (λ t. get_or (lows ++ replicate size 0) (t * 1024 + q % 1024) 0) same
            ∙ get_or_append_left lows (replicate size 0) 0 (get_or tops (q / 1024) 0 * 1024 + q % 1024) (omega arith)
      ]

-- one more entry, in a lower table that is there
abbrev pub entered : List ℕ → List ℕ → ℕ → ℕ → List ℕ
entered tops lows number entry = set lows (get_or tops (number / 1024) 0 * 1024 + number % 1024) entry

module _ (tops lows : List ℕ) (number entry : ℕ) (are : AreTables tops lows) (some : 0 < get_or tops (number / 1024) 0) where
  pub entry_of-entered_same : entry_of tops (entered tops lows number entry) number ≡ entry
  entry_of-entered_same = get_or-set_same lows (get_or tops (number / 1024) 0 * 1024 + number % 1024) entry 0 (let room = are.inside (number / 1024) in omega arith)

  other_place : (q : ℕ) → q ≢ number → get_or tops (q / 1024) 0 * 1024 + q % 1024 ≢ get_or tops (number / 1024) 0 * 1024 + number % 1024
  other_place q other =
      elim (cases_eq (q / 1024) (number / 1024)) [
        | inl same ↦ λ e. let t : get_or tops (q / 1024) 0 ≡ get_or tops (number / 1024) 0 = ap (λ n. get_or tops n 0) same in other (omega arith)
        | inr differ ↦ λ e.
            let t : get_or tops (number / 1024) 0 ≡ get_or tops (q / 1024) 0 = omega arith in
            let none = are.apart (number / 1024) (q / 1024) (λ (g : number / 1024 ≡ q / 1024). differ (sym g)) t in
            omega arith
      ]

  pub entry_of-entered_other : (q : ℕ) → q ≢ number → entry_of tops (entered tops lows number entry) q ≡ entry_of tops lows q
  entry_of-entered_other q other = get_or-set_other lows (get_or tops (number / 1024) 0 * 1024 + number % 1024) (get_or tops (q / 1024) 0 * 1024 + q % 1024) entry 0 (other_place q other)

  pub tables_entered : AreTables tops (entered tops lows number entry)
  tables_entered =
      let long : length (entered tops lows number entry) ≡ length lows = length-set lows (get_or tops (number / 1024) 0 * 1024 + number % 1024) entry in
      record {
        count = are.count;
        whole = ap (λ n. n % 1024) long ∙ are.whole;
        inside = λ a. let room = are.inside a in omega (arith, long);
        none = λ place below. get_or-set_other lows (get_or tops (number / 1024) 0 * 1024 + number % 1024) place entry 0 (λ (e : place ≡ get_or tops (number / 1024) 0 * 1024 + number % 1024). omega arith) ∙ are.none place below;
        apart = are.apart;
      }

-- tables of zeros
pub zeros_get : (size k : ℕ) → get_or {A = ℕ} (replicate size 0) k 0 ≡ 0
zeros_get size k = elim (cases_lt k size) [ inl l ↦ get_or-replicate size k 0 0 l | inr r ↦ get_or_past (replicate size 0) k 0 (omega (arith, length-replicate {A = ℕ} size 0)) ]

pub entry_of-zeros : (tops : List ℕ) (size q : ℕ) → entry_of tops (replicate size 0) q ≡ 0
entry_of-zeros tops size q = zeros_get size (get_or tops (q / 1024) 0 * 1024 + q % 1024)

pub tables_of_zeros : (size : ℕ) → size ≡ 1024 → AreTables (replicate size 0) (replicate size 0)
tables_of_zeros size is =
    let long : length {A = ℕ} (replicate size 0) ≡ size = length-replicate size 0 in
    record {
      count = long ∙ is;
      whole = omega (arith, long);
      inside = λ top. let none = zeros_get size top in omega (arith, long);
      none = λ place below. zeros_get size place;
      apart = λ a b differ same. zeros_get size a;
    }
