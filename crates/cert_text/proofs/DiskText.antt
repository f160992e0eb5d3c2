-- Disk tables, and the lines that say them.
use Rattle.std.proofs.Common.{◌≡◌, ◌⊎◌, ℕ, ◌+◌, ◌-◌, ◌≤◌, List, [], ◌∷◌, ◌++◌, length, map, get_or, refl, sym, ap, subst, ◌∙◌, inl, inr, arith}
use Rattle.std.specs.Prelude.{codes}
use Rattle.std.specs.List.{range_with_len, flat_map}
use Rattle.std.proofs.lemmas.Bool.{cases_lt}
use Rattle.std.proofs.lemmas.List.{append_cancel_left}
use Rattle.std.proofs.lemmas.List.FromFn.{length-map-range_with_len, get_or-map-range_with_len}
use Rattle.level_book.specs.BookCosts.{BookCosts, room}
use Rattle.level_book.specs.UnderTable.{Entry, number}
use Rattle.cost_tables.specs.TableRows.{TableRows, FastestTablesFit, fastest, tables_in}
use Rattle.disk_gen.specs.DiskRows.{DiskRows, disk_tables_in}
use Rattle.cert_text.specs.declared.kind.Kind.TheVariants as kind
use Rattle.cert_text.specs.MarkedLines.{CertificateLine}
use Rattle.cert_text.specs.Words.{words_of, texts_of}
use Rattle.cert_text.specs.WordLines.{entry_word, row_line, level_lines, column_lines}
use Rattle.cert_text.specs.Meaning.{HasWord, HaveDiskText}
use Rattle.cert_text.specs.Grammar.{Want, level_wants, column_wants, later_wants}
use Rattle.cert_text.proofs.LineOutcomes.{FitLines}
use Rattle.cert_text.proofs.Ranges.{map_same, mapped_same}
use Rattle.cert_text.proofs.TableEquality.{same_by}
use Rattle.cert_text.proofs.EntryLines.{some_wants, some_lines, one_entry, line_said, line_fits, one_word, levels_said, FitRows, fit_joined, levels_fit}
use Rattle.cert_text.proofs.NestedTables.{all_levels_said, wants_are, made, made_said, made_text, fresh_words, held_words, same_tables}

pub disk_fits_or_not : (steps : ℕ) (book : BookCosts) → FastestTablesFit steps book ⊎ (FastestTablesFit steps book → ⊥)
disk_fits_or_not steps book = elim (cases_lt 8192 steps) [
  | inl many ↦ inr (λ fits. omega (arith, fits.few))
  | inr few ↦ elim (cases_lt 64 (room book 0 steps)) [
    | inl wide ↦ inr (λ fits. omega (arith, fits.narrow))
    | inr narrow ↦ inl (record { few = few; narrow = narrow })
  ]
]

-- ---- a line of entries

same_line : (head : List (List ℕ)) (steps : ℕ) (e d : ℕ → Entry) → ((l : ℕ) → 1 ≤ l → l ≤ steps → e l ≡ d l) → row_line head steps e ≡ row_line head steps d
same_line head steps e d same =
    ap (λ (ts : List (List ℕ)). head ++ ts) (map_same (λ l. entry_word (e l)) (λ l. entry_word (d l)) 1 steps (λ l least most. ap entry_word (same l least (omega arith))))

one_line : (head : List (List ℕ)) (steps l : ℕ) (e d : ℕ → Entry) → row_line head steps e ≡ row_line head steps d → 1 ≤ l → l ≤ steps → HasWord (e l) → HasWord (d l) → e l ≡ d l
one_line head steps l e d same least most a b =
    let words = append_cancel_left head (map (λ l. entry_word (e l)) (range_with_len 1 steps)) (map (λ l. entry_word (d l)) (range_with_len 1 steps)) same in
    one_entry (e l) (d l) a b (mapped_same (λ l. entry_word (e l)) (λ l. entry_word (d l)) 1 steps l words least (omega arith))

abbrev fresh_head : List (List ℕ)
fresh_head = codes "Fd" ∷ []

abbrev held_head : List (List ℕ)
held_head = codes "Hd" ∷ []

abbrev end_line : List (List ℕ)
end_line = codes "end" ∷ []

-- ---- lines that fit say some

columns_said : (steps : ℕ) (ls : List CertificateLine) → FitLines (column_wants steps) ls →
    (e : ℕ → Entry) × (d : ℕ → Entry) × ((l : ℕ) → HasWord (e l)) × ((l : ℕ) → HasWord (d l)) × (map texts_of ls ≡ row_line fresh_head steps e ∷ row_line held_head steps d ∷ end_line ∷ [])
columns_said steps [] f = absurd f
columns_said steps (a ∷ []) f = absurd f.1
columns_said steps (a ∷ b ∷ []) f = absurd f.1.1
columns_said steps (a ∷ b ∷ c ∷ []) f =
    let x = line_said fresh_head steps (words_of a) f.0 in
    let y = line_said held_head steps (words_of b) f.1.0 in
    let z : texts_of c ≡ end_line = one_word (codes "end") (words_of c) f.1.1.0 in
    (x.0, y.0, x.1, y.1, (λ i. x.2 i ∷ y.2 i ∷ z i ∷ []))
columns_said steps (a ∷ b ∷ c ∷ d ∷ others) f = absurd f.1.1.1

-- the entries over both levels
abbrev column : ℕ → (ℕ → Entry) → List Entry
column steps e = map (λ r. e (r + 1)) (range_with_len 0 steps)

column_at : (steps l : ℕ) (e : ℕ → Entry) → 1 ≤ l → l ≤ steps → get_or (column steps e) (l - 1) (number 0) ≡ e l
column_at steps l e least most =
    let back : (l - 1) + 1 ≡ l = omega arith in
    get_or-map-range_with_len (λ r. e (r + 1)) 0 steps (l - 1) (l - 1) (number 0) (omega arith) (omega arith) ∙ ap e back

pub disk_said : (steps : ℕ) (book : BookCosts) (ls : List CertificateLine) → FastestTablesFit steps book → FitLines (later_wants kind.Disk steps book) ls →
    (t : DiskRows) × HaveDiskText steps book t × (map texts_of ls ≡ flat_map (level_lines t.fast) (range_with_len 0 (length t.fast.rooms)) ++ column_lines t)
disk_said steps book ls fit f =
    let one = fastest book in
    let f' = subst (λ (w : List (List Want)). FitLines (w ++ column_wants steps) ls) (wants_are steps one (length one.levels)) f in
    let some = levels_said steps (λ k. room one k steps) 0 (length one.levels) (column_wants steps) ls f' in
    let last = columns_said steps some.4 some.5 in
    let tables = made_text steps one some.0 some.1 some.2 some.3 in
    let fast = made steps (length one.levels) (λ k. room one k steps) some.0 some.1 in
    let t : DiskRows = record { fast = fast; disk_fresh = column steps last.0; disk_held = column steps last.1 } in
    let first : row_line fresh_head steps last.0 ≡ row_line fresh_head t.fast.steps (disk_tables_in t).disk_fresh =
    same_line fresh_head steps last.0 (disk_tables_in t).disk_fresh (λ l least most. sym (column_at steps l last.0 least most)) ∙ ap (λ (n : ℕ). row_line fresh_head n (disk_tables_in t).disk_fresh) (sym tables.sized.steps_are) in
    let second : row_line held_head steps last.1 ≡ row_line held_head t.fast.steps (disk_tables_in t).disk_held =
    same_line held_head steps last.1 (disk_tables_in t).disk_held (λ l least most. sym (column_at steps l last.1 least most)) ∙ ap (λ (n : ℕ). row_line held_head n (disk_tables_in t).disk_held) (sym tables.sized.steps_are) in
    let columns : map texts_of some.4 ≡ column_lines t = last.4 ∙ (λ i. first i ∷ second i ∷ end_line ∷ []) in
    let levels = sym (made_said steps one some.0 some.1) in (
      t,
      record {
        fit = fit;
        fast = tables;
        fresh_long = length-map-range_with_len (λ r. last.0 (r + 1)) 0 steps;
        held_long = length-map-range_with_len (λ r. last.1 (r + 1)) 0 steps;
        fresh = λ l least most. subst HasWord (sym (column_at steps l last.0 least most)) (last.2 l);
        held = λ l least most. subst HasWord (sym (column_at steps l last.1 least most)) (last.3 l);
      },
      some.6 ∙ (λ i. levels i ++ columns i),
    )

-- ---- what says disk tables fits

pub disk_fit : (steps : ℕ) (book : BookCosts) (t : DiskRows) → HaveDiskText steps book t →
    FitRows (later_wants kind.Disk steps book) (flat_map (level_lines t.fast) (range_with_len 0 (length t.fast.rooms)) ++ column_lines t)
disk_fit steps book t has =
    let one = fastest book in
    let fresh : ℕ → ℕ → ℕ → Entry = λ k m l. (tables_in t.fast).fresh k l m in
    let held : ℕ → ℕ → ℕ → Entry = λ k m l. (tables_in t.fast).held k l m in
    let levels = levels_fit steps (λ k. room one k steps) fresh held 0 (length one.levels)
    (λ k m l low in_room. fresh_words steps one t.fast k m l has.fast (omega arith) in_room) (λ k m l low in_room. held_words steps one t.fast k m l has.fast (omega arith) in_room) in
    let C : ℕ → Type 0 = λ n. FitRows (column_wants steps) (row_line fresh_head n (disk_tables_in t).disk_fresh ∷ row_line held_head n (disk_tables_in t).disk_held ∷ end_line ∷ []) in
    let some : C steps = (line_fits fresh_head steps (disk_tables_in t).disk_fresh has.fresh, (line_fits held_head steps (disk_tables_in t).disk_held has.held, ((refl, tt), tt))) in
    let columns : FitRows (column_wants steps) (column_lines t) = subst C (sym has.fast.sized.steps_are) some in
    let W : List (List Want) → Type 0 = λ w. FitRows (w ++ column_wants steps) (flat_map (some_lines steps (λ k. room one k steps) fresh held) (range_with_len 0 (length one.levels)) ++ column_lines t) in
    let L : List (List (List ℕ)) → Type 0 = λ l. FitRows (flat_map (level_wants steps one) (range_with_len 0 (length one.levels)) ++ column_wants steps) (l ++ column_lines t) in
    let plain = fit_joined (flat_map (some_wants steps (λ k. room one k steps)) (range_with_len 0 (length one.levels))) (column_wants steps)
    (flat_map (some_lines steps (λ k. room one k steps) fresh held) (range_with_len 0 (length one.levels))) (column_lines t) levels columns in
    subst L (sym (all_levels_said steps one t.fast has.fast.sized)) (subst W (sym (wants_are steps one (length one.levels))) plain)

-- ---- the same lines say the same

one_column : (head : List (List ℕ)) (steps : ℕ) (x y : List Entry) → length x ≡ steps → length y ≡ steps → row_line head steps (λ l. get_or x (l - 1) (number 0)) ≡ row_line head steps (λ l. get_or y (l - 1) (number 0)) →
    ((l : ℕ) → 1 ≤ l → l ≤ steps → HasWord (get_or x (l - 1) (number 0))) → ((l : ℕ) → 1 ≤ l → l ≤ steps → HasWord (get_or y (l - 1) (number 0))) → x ≡ y
one_column head steps x y x_long y_long same a b =
    same_by (number 0) x y (x_long ∙ sym y_long)
    (λ r low.
    let e : (r + 1) - 1 ≡ r = omega arith in
    let most : r + 1 ≤ steps = omega (arith, x_long) in
    let here = one_line head steps (r + 1) (λ l. get_or x (l - 1) (number 0)) (λ l. get_or y (l - 1) (number 0)) same (omega arith) most (a (r + 1) (omega arith) most) (b (r + 1) (omega arith) most) in
    subst (λ (q : ℕ). get_or x q (number 0) ≡ get_or y q (number 0)) e here)

abbrev levels_of : TableRows → List (List (List ℕ))
levels_of t = flat_map (level_lines t) (range_with_len 0 (length t.rooms))

pub same_disk : (steps : ℕ) (book : BookCosts) (s t : DiskRows) → HaveDiskText steps book s → HaveDiskText steps book t →
    flat_map (level_lines s.fast) (range_with_len 0 (length s.fast.rooms)) ++ column_lines s ≡ flat_map (level_lines t.fast) (range_with_len 0 (length t.fast.rooms)) ++ column_lines t → s ≡ t
same_disk steps book s t a b e =
    let fast : s.fast ≡ t.fast = same_tables steps (fastest book) s.fast t.fast (column_lines s) (column_lines t) a.fast b.fast e in
    let last : column_lines s ≡ column_lines t = append_cancel_left (levels_of t.fast) (column_lines s) (column_lines t) (ap (λ (r : TableRows). levels_of r ++ column_lines s) (sym fast) ∙ e) in
    let fs = (disk_tables_in s).disk_fresh in let ft = (disk_tables_in t).disk_fresh in
    let hs = (disk_tables_in s).disk_held in let ht = (disk_tables_in t).disk_held in
    let d : row_line fresh_head s.fast.steps fs ∷ row_line held_head s.fast.steps hs ∷ end_line ∷ [] ≡ row_line fresh_head t.fast.steps ft ∷ row_line held_head t.fast.steps ht ∷ end_line ∷ [] = last in
    let first : row_line fresh_head s.fast.steps fs ≡ row_line fresh_head t.fast.steps ft = ap (λ (l : List (List (List ℕ))). get_or l 0 []) d in
    let second : row_line held_head s.fast.steps hs ≡ row_line held_head t.fast.steps ht = ap (λ (l : List (List (List ℕ))). get_or l 1 []) d in
    let s_steps = a.fast.sized.steps_are in let t_steps = b.fast.sized.steps_are in
    let fresh = one_column fresh_head steps s.disk_fresh t.disk_fresh a.fresh_long b.fresh_long
    (sym (ap (λ (n : ℕ). row_line fresh_head n fs) s_steps) ∙ first ∙ ap (λ (n : ℕ). row_line fresh_head n ft) t_steps) a.fresh b.fresh in
    let held = one_column held_head steps s.disk_held t.disk_held a.held_long b.held_long
    (sym (ap (λ (n : ℕ). row_line held_head n hs) s_steps) ∙ second ∙ ap (λ (n : ℕ). row_line held_head n ht) t_steps) a.held b.held in
    λ i. record { fast = fast i; disk_fresh = fresh i; disk_held = held i }
