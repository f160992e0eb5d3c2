-- Lines that fit what a kind wants say a certificate of that kind, and those of a certificate fit.
use Rattle.std.proofs.Common.{◌≡◌, ℕ, zero, suc, ◌+◌, ◌^◌, ◌<◌, ◌≤◌, List, [], ◌∷◌, ◌++◌, length, map, get_or, refl, sym, ap, subst, ◌∙◌, inl, inr, arith}
use Rattle.std.specs.Prelude.{codes, decimal}
use Rattle.std.proofs.lemmas.Fmt.{decimal_injective}
use Rattle.std.specs.List.{AllByRecursion, range_with_len, flat_map}
use Rattle.level_book.specs.BookCosts.{BookCosts, room}
use Rattle.level_book.specs.UnderTable.{Entry}
use Rattle.cost_tables.specs.TableRows.{TableRows, TablesFit, FastestTablesFit, fastest, tables_in}
use Rattle.line_texts.specs.Tokens.{Token}
use Rattle.cert_text.specs.declared.certificate.Certificate.{Certificate}
use Rattle.cert_text.specs.declared.certificate.Certificate.TheVariants.{Revolve, Places, Nested, Disk}
use Rattle.cert_text.specs.declared.kind.Kind.{Kind}
use Rattle.cert_text.specs.declared.kind.Kind.TheVariants as kind
use Rattle.cert_text.specs.MarkedLines.{CertificateLine}
use Rattle.cert_text.specs.Words.{words_of, texts_of}
use Rattle.cert_text.specs.WordLines.{level_lines, column_lines, word_lines}
use Rattle.cert_text.specs.Meaning.{HasText, HaveText}
use Rattle.cert_text.specs.Grammar.{Want, this_word, kind_word, first_wants, row_wants, rows_wants, level_wants, column_wants, IsTooLarge, later_wants, wants_of}
use Rattle.cert_text.specs.Faults.{FitAll, Names}
use Rattle.cert_text.specs.ReaderState.{texts}
use Rattle.cert_text.proofs.LineOutcomes.{IsNarrow, AreNarrow, FitLines}
use Rattle.cert_text.proofs.Ranges.{all_mapped, all_appended, all_flat}
use Rattle.cert_text.proofs.EntryLines.{some_wants, some_lines, one_word, levels_said, FitRows, rows_fit, fit_joined, levels_fit}
use Rattle.cert_text.proofs.NestedTables.{all_levels_said, wants_are, made, made_said, made_text, fits_or_not, fresh_words, held_words, same_tables}
use Rattle.cert_text.proofs.DiskText.{disk_fits_or_not, disk_said, disk_fit, same_disk}

-- ---- kinds

abbrev pub kind_of : Certificate → Kind
kind_of (Revolve k value) = kind.Revolve
kind_of (Places threshold) = kind.Places
kind_of (Nested t) = kind.Nested
kind_of (Disk t) = kind.Disk

-- a word names one kind at most
pub one_kind : (a b : Kind) → kind_word a ≡ kind_word b → a ≡ b
one_kind kind.Revolve kind.Revolve e = refl
one_kind kind.Revolve kind.Places e = absurd (let d : 114 ≡ 112 = ap (λ (t : List ℕ). get_or t 0 0) e in omega arith)
one_kind kind.Places kind.Revolve e = absurd (let d : 112 ≡ 114 = ap (λ (t : List ℕ). get_or t 0 0) e in omega arith)
one_kind kind.Places kind.Places e = refl
one_kind kind.Revolve kind.Nested e = absurd (let d : 114 ≡ 110 = ap (λ (t : List ℕ). get_or t 0 0) e in omega arith)
one_kind kind.Places kind.Nested e = absurd (let d : 112 ≡ 110 = ap (λ (t : List ℕ). get_or t 0 0) e in omega arith)
one_kind kind.Nested kind.Revolve e = absurd (let d : 110 ≡ 114 = ap (λ (t : List ℕ). get_or t 0 0) e in omega arith)
one_kind kind.Nested kind.Places e = absurd (let d : 110 ≡ 112 = ap (λ (t : List ℕ). get_or t 0 0) e in omega arith)
one_kind kind.Nested kind.Nested e = refl
one_kind kind.Revolve kind.Disk e = absurd (let d : 114 ≡ 100 = ap (λ (t : List ℕ). get_or t 0 0) e in omega arith)
one_kind kind.Places kind.Disk e = absurd (let d : 112 ≡ 100 = ap (λ (t : List ℕ). get_or t 0 0) e in omega arith)
one_kind kind.Nested kind.Disk e = absurd (let d : 110 ≡ 100 = ap (λ (t : List ℕ). get_or t 0 0) e in omega arith)
one_kind kind.Disk kind.Revolve e = absurd (let d : 100 ≡ 114 = ap (λ (t : List ℕ). get_or t 0 0) e in omega arith)
one_kind kind.Disk kind.Places e = absurd (let d : 100 ≡ 112 = ap (λ (t : List ℕ). get_or t 0 0) e in omega arith)
one_kind kind.Disk kind.Nested e = absurd (let d : 100 ≡ 110 = ap (λ (t : List ℕ). get_or t 0 0) e in omega arith)
one_kind kind.Disk kind.Disk e = refl

pub one_name : (ws : List Token) (a b : Kind) → Names a ws → Names b ws → a ≡ b
one_name [] a b x y = absurd x
one_name (w ∷ ws) a b x y = one_kind a b (sym x ∙ y)

narrow_row : (head : List (List ℕ)) (steps : ℕ) → AllByRecursion IsNarrow (row_wants head steps)
narrow_row [] zero = tt
narrow_row [] (suc steps) = (tt, narrow_row [] steps)
narrow_row (word ∷ head) steps = (tt, narrow_row head steps)

narrow_rows : (letter : List ℕ) (k steps n : ℕ) → AreNarrow (rows_wants letter k steps n)
unfolding rows_wants
narrow_rows letter k steps n =
    all_mapped (λ wants. AllByRecursion IsNarrow wants) (λ m. row_wants (letter ∷ decimal k ∷ decimal m ∷ []) steps) 0 n (λ m low high. narrow_row (letter ∷ decimal k ∷ decimal m ∷ []) steps)

narrow_level : (steps : ℕ) (book : BookCosts) (k : ℕ) → AreNarrow (level_wants steps book k)
unfolding level_wants
narrow_level steps book k =
    all_appended (λ wants. AllByRecursion IsNarrow wants) (rows_wants (codes "F") k steps (room book k steps + 1)) (rows_wants (codes "H") k steps (room book k steps))
    (narrow_rows (codes "F") k steps (room book k steps + 1)) (narrow_rows (codes "H") k steps (room book k steps))

pub narrow : (kind : Kind) (steps : ℕ) (book : BookCosts) → AreNarrow (wants_of kind steps book)
narrow kind.Revolve steps book = ((tt, (omega arith, (omega arith, tt))), tt)
narrow kind.Places steps book = ((tt, (omega arith, tt)), tt)
narrow kind.Nested steps book = (
  (tt, tt),
  all_appended (λ wants. AllByRecursion IsNarrow wants) (flat_map (level_wants steps book) (range_with_len 0 (length book.levels))) ((this_word (codes "end") ∷ []) ∷ [])
      (all_flat (λ wants. AllByRecursion IsNarrow wants) (level_wants steps book) 0 (length book.levels) (λ k low high. narrow_level steps book k))
      ((tt, tt), tt),
)
narrow kind.Disk steps book = (
  (tt, tt),
  all_appended (λ wants. AllByRecursion IsNarrow wants) (flat_map (level_wants steps (fastest book)) (range_with_len 0 (length (fastest book).levels))) (column_wants steps)
      (all_flat (λ wants. AllByRecursion IsNarrow wants) (level_wants steps (fastest book)) 0 (length (fastest book).levels) (λ k low high. narrow_level steps (fastest book) k))
      (narrow_row (codes "Fd" ∷ []) steps, (narrow_row (codes "Hd" ∷ []) steps, ((tt, tt), tt))),
)

-- ---- one line

-- the words behind the kind's are these numbers
pub repeats_said : (ws : List Token) → FitAll (first_wants kind.Revolve) ws → (k : ℕ) × (value : ℕ) × (k < 1000001) × (value < 2 ^ 64) × (texts ws ≡ decimal k ∷ decimal value ∷ [])
repeats_said [] f = absurd f
repeats_said (a ∷ []) f = absurd f.1
repeats_said (a ∷ b ∷ []) f = (f.0.0, f.1.0.0, omega (arith, f.0.1), omega (arith, f.1.0.1), (λ i. f.0.2 i ∷ f.1.0.2 i ∷ []))
repeats_said (a ∷ b ∷ c ∷ ws) f = absurd f.1.1

pub threshold_said : (ws : List Token) → FitAll (first_wants kind.Places) ws → (n : ℕ) × (n < 2 ^ 64) × (texts ws ≡ decimal n ∷ [])
threshold_said [] f = absurd f
threshold_said (a ∷ []) f = (f.0.0, omega (arith, f.0.1), (λ i. f.0.2 i ∷ []))
threshold_said (a ∷ b ∷ ws) f = absurd f.1

pub repeats_fit : (ws : List Token) (k value : ℕ) → k < 1000001 → value < 2 ^ 64 → texts ws ≡ decimal k ∷ decimal value ∷ [] → FitAll (first_wants kind.Revolve) ws
repeats_fit [] k v small wide e = absurd cc
repeats_fit (a ∷ []) k v small wide e = absurd (let d : a.text ∷ [] ≡ decimal k ∷ decimal v ∷ [] = e in cc)
repeats_fit (a ∷ b ∷ []) k v small wide e =
    let d : a.text ∷ b.text ∷ [] ≡ decimal k ∷ decimal v ∷ [] = e in
    let first : a.text ≡ decimal k = cc in
    let second : b.text ≡ decimal v = cc in
    ((k, omega arith, first), ((v, omega arith, second), tt))
repeats_fit (a ∷ b ∷ c ∷ ws) k v small wide e = absurd (let d : a.text ∷ b.text ∷ c.text ∷ texts ws ≡ decimal k ∷ decimal v ∷ [] = e in cc)

pub threshold_fits : (ws : List Token) (n : ℕ) → n < 2 ^ 64 → texts ws ≡ decimal n ∷ [] → FitAll (first_wants kind.Places) ws
threshold_fits [] n wide e = absurd cc
threshold_fits (a ∷ []) n wide e =
    let d : a.text ∷ [] ≡ decimal n ∷ [] = e in
    let first : a.text ≡ decimal n = cc in
    ((n, omega arith, first), tt)
threshold_fits (a ∷ b ∷ ws) n wide e = absurd (let d : a.text ∷ b.text ∷ texts ws ≡ decimal n ∷ [] = e in cc)

-- ---- all lines

-- the first word fits, and the others are left
pub whole_line : (word : List ℕ) (more : List Want) (ws : List Token) → FitAll (this_word word ∷ more) ws → (rest : List Token) × FitAll more rest × (texts ws ≡ word ∷ texts rest)
whole_line word more [] f = absurd f
whole_line word more (w ∷ ws) f = (ws, f.1, ap (λ (t : List ℕ). t ∷ texts ws) f.0)

pub line_fits : (word : List ℕ) (more : List Want) (ws : List Token) (rest : List (List ℕ)) → texts ws ≡ word ∷ rest →
    ((others : List Token) → texts others ≡ rest → FitAll more others) → FitAll (this_word word ∷ more) ws
line_fits word more [] rest e then = absurd cc
line_fits word more (w ∷ ws) rest e then =
    let d : w.text ∷ texts ws ≡ word ∷ rest = e in
    let first : w.text ≡ word = cc in
    let behind : texts ws ≡ rest = cc in
    (first, then ws behind)

pub named_by : (kind : Kind) (ws : List Token) (rest : List (List ℕ)) → texts ws ≡ kind_word kind ∷ rest → Names kind ws
named_by kind [] rest e = absurd cc
named_by kind (w ∷ ws) rest e = let d : w.text ∷ texts ws ≡ kind_word kind ∷ rest = e in cc

-- lines that say a certificate of this kind
abbrev pub SayOne : Kind → ℕ → BookCosts → List CertificateLine → Type 0
SayOne kind steps book ls = (certificate : Certificate) × HasText steps book certificate × (map texts_of ls ≡ word_lines certificate)

end_said : (ls : List CertificateLine) → FitLines ((this_word (codes "end") ∷ []) ∷ []) ls → map texts_of ls ≡ (codes "end" ∷ []) ∷ []
end_said [] f = absurd f
end_said (next ∷ []) f = ap (λ (ts : List (List ℕ)). ts ∷ []) (one_word (codes "end") (words_of next) f.0)
end_said (next ∷ other ∷ others) f = absurd f.1

both_appended : {A : Type 0} {a b c d : List A} → a ≡ b → c ≡ d → a ++ c ≡ b ++ d
both_appended e f = λ i. e i ++ f i

-- lines of tables say some
tables_said : (steps : ℕ) (book : BookCosts) (ls : List CertificateLine) → TablesFit steps book → FitLines (later_wants kind.Nested steps book) ls →
    (t : TableRows) × HaveText steps book t × (map texts_of ls ≡ flat_map (level_lines t) (range_with_len 0 (length t.rooms)) ++ (codes "end" ∷ []) ∷ [])
tables_said steps book ls fit f =
    let end : List (List Want) = (this_word (codes "end") ∷ []) ∷ [] in
    let f' = subst (λ (w : List (List Want)). FitLines (w ++ end) ls) (wants_are steps book (length book.levels)) f in
    let some = levels_said steps (λ k. room book k steps) 0 (length book.levels) end ls f' in
    let t = made steps (length book.levels) (λ k. room book k steps) some.0 some.1 in (
      t,
      record { fit = fit; tables = made_text steps book some.0 some.1 some.2 some.3 },
      some.6 ∙ both_appended (sym (made_said steps book some.0 some.1)) (end_said some.4 some.5),
    )

pub fits_say : (kind : Kind) (steps : ℕ) (book : BookCosts) (ls : List CertificateLine) → (IsTooLarge kind steps book → ⊥) → FitLines (wants_of kind steps book) ls → SayOne kind steps book ls
fits_say kind.Revolve steps book [] small f = absurd f
fits_say kind.Revolve steps book (first ∷ []) _ f =
    let line = whole_line (codes "revolve") (first_wants kind.Revolve) (words_of first) f.0 in
    let p = repeats_said line.0 line.1 in
    let says : texts_of first ≡ codes "revolve" ∷ decimal p.0 ∷ decimal p.1 ∷ [] = line.2 ∙ ap (λ (ts : List (List ℕ)). codes "revolve" ∷ ts) p.4 in
    let small : p.0 ≤ 1000000 = omega (arith, p.2) in
    (Revolve p.0 p.1, (small, p.3), ap (λ (ts : List (List ℕ)). ts ∷ []) says)
fits_say kind.Revolve steps book (first ∷ next ∷ others) small f = absurd f.1
fits_say kind.Places steps book [] small f = absurd f
fits_say kind.Places steps book (first ∷ []) _ f =
    let line = whole_line (codes "places") (first_wants kind.Places) (words_of first) f.0 in
    let p = threshold_said line.0 line.1 in
    let says : texts_of first ≡ codes "places" ∷ decimal p.0 ∷ [] = line.2 ∙ ap (λ (ts : List (List ℕ)). codes "places" ∷ ts) p.2 in
    (Places p.0, p.1, ap (λ (ts : List (List ℕ)). ts ∷ []) says)
fits_say kind.Places steps book (first ∷ next ∷ others) small f = absurd f.1
fits_say kind.Nested steps book [] small f = absurd f
fits_say kind.Nested steps book (first ∷ others) small f =
    let fit : TablesFit steps book = elim (fits_or_not steps book) [ inl fit ↦ fit | inr not ↦ absurd (small not) ] in
    let some = tables_said steps book others fit f.1 in
    let line = one_word (codes "nested") (words_of first) f.0 in
    (Nested some.0, some.1, (λ i. line i ∷ some.2 i))
fits_say kind.Disk steps book [] small f = absurd f
fits_say kind.Disk steps book (first ∷ others) small f =
    let fit : FastestTablesFit steps book = elim (disk_fits_or_not steps book) [ inl fit ↦ fit | inr not ↦ absurd (small not) ] in
    let some = disk_said steps book others fit f.1 in
    let line = one_word (codes "disk") (words_of first) f.0 in
    (Disk some.0, some.1, (λ i. line i ∷ some.2 i))

pub says_fit : (steps : ℕ) (book : BookCosts) (certificate : Certificate) (ls : List CertificateLine) → HasText steps book certificate → map texts_of ls ≡ word_lines certificate →
    FitLines (wants_of (kind_of certificate) steps book) ls
says_fit steps book (Revolve k v) [] has e = absurd cc
says_fit steps book (Revolve k v) (first ∷ []) has e =
    let d : texts_of first ∷ [] ≡ (codes "revolve" ∷ decimal k ∷ decimal v ∷ []) ∷ [] = e in
    let says : texts_of first ≡ codes "revolve" ∷ decimal k ∷ decimal v ∷ [] = cc in
    let small : k < 1000001 = omega (arith, has.0) in
    (line_fits (codes "revolve") (first_wants kind.Revolve) (words_of first) (decimal k ∷ decimal v ∷ []) says (λ ws is. repeats_fit ws k v small has.1 is), tt)
says_fit steps book (Revolve k v) (first ∷ next ∷ others) has e =
    absurd (let d : texts_of first ∷ texts_of next ∷ map texts_of others ≡ (codes "revolve" ∷ decimal k ∷ decimal v ∷ []) ∷ [] = e in cc)
says_fit steps book (Places n) [] has e = absurd cc
says_fit steps book (Places n) (first ∷ []) has e =
    let d : texts_of first ∷ [] ≡ (codes "places" ∷ decimal n ∷ []) ∷ [] = e in
    let says : texts_of first ≡ codes "places" ∷ decimal n ∷ [] = cc in
    (line_fits (codes "places") (first_wants kind.Places) (words_of first) (decimal n ∷ []) says (λ ws is. threshold_fits ws n has is), tt)
says_fit steps book (Places n) (first ∷ next ∷ others) has e =
    absurd (let d : texts_of first ∷ texts_of next ∷ map texts_of others ≡ (codes "places" ∷ decimal n ∷ []) ∷ [] = e in cc)
says_fit steps book (Nested t) ls has e =
    let end : List (List Want) = (this_word (codes "end") ∷ []) ∷ [] in
    let said : List (List (List ℕ)) = (codes "end" ∷ []) ∷ [] in
    let fresh : ℕ → ℕ → ℕ → Entry = λ k m l. (tables_in t).fresh k l m in
    let held : ℕ → ℕ → ℕ → Entry = λ k m l. (tables_in t).held k l m in
    let levels = levels_fit steps (λ k. room book k steps) fresh held 0 (length book.levels)
    (λ k m l low in_room. fresh_words steps book t k m l has.tables (omega arith) in_room) (λ k m l low in_room. held_words steps book t k m l has.tables (omega arith) in_room) in
    let W : List (List Want) → Type 0 = λ w. FitRows (w ++ end) (flat_map (some_lines steps (λ k. room book k steps) fresh held) (range_with_len 0 (length book.levels)) ++ said) in
    let L : List (List (List ℕ)) → Type 0 = λ l. FitRows (flat_map (level_wants steps book) (range_with_len 0 (length book.levels)) ++ end) (l ++ said) in
    let plain = fit_joined (flat_map (some_wants steps (λ k. room book k steps)) (range_with_len 0 (length book.levels))) end (flat_map (some_lines steps (λ k. room book k steps) fresh held) (range_with_len 0 (length book.levels))) said levels ((refl, tt), tt) in
    let later = subst L (sym (all_levels_said steps book t has.tables.sized)) (subst W (sym (wants_are steps book (length book.levels))) plain) in
    let R : List (List (List ℕ)) → Type 0 = λ rows. FitRows (wants_of kind.Nested steps book) rows in
    rows_fit (wants_of kind.Nested steps book) ls (subst R (sym e) ((refl, tt), later))
says_fit steps book (Disk t) ls has e =
    let R : List (List (List ℕ)) → Type 0 = λ rows. FitRows (wants_of kind.Disk steps book) rows in
    rows_fit (wants_of kind.Disk steps book) ls (subst R (sym e) ((refl, tt), disk_fit steps book t has))

-- tables that have a text aren't too large
pub says_small : (steps : ℕ) (book : BookCosts) (certificate : Certificate) → HasText steps book certificate → IsTooLarge (kind_of certificate) steps book → ⊥
says_small steps book (Revolve k v) has large = large tt
says_small steps book (Places n) has large = large tt
says_small steps book (Nested t) has large = large has.fit
says_small steps book (Disk t) has large = large has.fit

-- the first line names the kind
pub says_kind : (certificate : Certificate) (first : CertificateLine) (others : List CertificateLine) → map texts_of (first ∷ others) ≡ word_lines certificate → Names (kind_of certificate) (words_of first)
says_kind (Revolve k v) first others e =
    let d : texts_of first ∷ map texts_of others ≡ (codes "revolve" ∷ decimal k ∷ decimal v ∷ []) ∷ [] = e in
    let says : texts_of first ≡ codes "revolve" ∷ decimal k ∷ decimal v ∷ [] = cc in
    named_by kind.Revolve (words_of first) (decimal k ∷ decimal v ∷ []) says
says_kind (Places n) first others e =
    let d : texts_of first ∷ map texts_of others ≡ (codes "places" ∷ decimal n ∷ []) ∷ [] = e in
    let says : texts_of first ≡ codes "places" ∷ decimal n ∷ [] = cc in
    named_by kind.Places (words_of first) (decimal n ∷ []) says
says_kind (Nested t) first others e =
    let d : texts_of first ∷ map texts_of others ≡ (codes "nested" ∷ []) ∷ (flat_map (level_lines t) (range_with_len 0 (length t.rooms)) ++ (codes "end" ∷ []) ∷ []) = e in
    let says : texts_of first ≡ codes "nested" ∷ [] = cc in
    named_by kind.Nested (words_of first) [] says
says_kind (Disk t) first others e =
    let d : texts_of first ∷ map texts_of others ≡ (codes "disk" ∷ []) ∷ (flat_map (level_lines t.fast) (range_with_len 0 (length t.fast.rooms)) ++ column_lines t) = e in
    let says : texts_of first ≡ codes "disk" ∷ [] = cc in
    named_by kind.Disk (words_of first) [] says

-- there is a first line
pub says_some : (certificate : Certificate) → [] ≡ word_lines certificate → ⊥
says_some (Revolve k v) e = absurd cc
says_some (Places n) e = absurd cc
says_some (Nested t) e = absurd cc
says_some (Disk t) e = absurd cc

-- lines say one certificate at most
pub one_said : (steps : ℕ) (book : BookCosts) (a b : Certificate) → HasText steps book a → HasText steps book b → word_lines a ≡ word_lines b → a ≡ b
one_said steps book (Revolve k v) (Revolve k' v') x y e =
    let d : (codes "revolve" ∷ decimal k ∷ decimal v ∷ []) ∷ [] ≡ (codes "revolve" ∷ decimal k' ∷ decimal v' ∷ []) ∷ [] = e in
    let ks : decimal k ≡ decimal k' = cc in
    let vs : decimal v ≡ decimal v' = cc in
    let one_k = decimal_injective k k' (omega (arith, x.0)) (omega (arith, y.0)) ks in
    let one_v = decimal_injective v v' x.1 y.1 vs in
    λ i. Revolve (one_k i) (one_v i)
one_said steps book (Revolve k v) (Places n) x y e =
    absurd (let d : (codes "revolve" ∷ decimal k ∷ decimal v ∷ []) ∷ [] ≡ (codes "places" ∷ decimal n ∷ []) ∷ [] = e in cc)
one_said steps book (Places n) (Revolve k v) x y e =
    absurd (let d : (codes "places" ∷ decimal n ∷ []) ∷ [] ≡ (codes "revolve" ∷ decimal k ∷ decimal v ∷ []) ∷ [] = e in cc)
one_said steps book (Places n) (Places n') x y e =
    let d : (codes "places" ∷ decimal n ∷ []) ∷ [] ≡ (codes "places" ∷ decimal n' ∷ []) ∷ [] = e in
    let ns : decimal n ≡ decimal n' = cc in
    ap Places (decimal_injective n n' x y ns)
one_said steps book (Nested s) (Nested t) x y e =
    let a = flat_map (level_lines s) (range_with_len 0 (length s.rooms)) ++ (codes "end" ∷ []) ∷ [] in
    let b = flat_map (level_lines t) (range_with_len 0 (length t.rooms)) ++ (codes "end" ∷ []) ∷ [] in
    let d : (codes "nested" ∷ []) ∷ a ≡ (codes "nested" ∷ []) ∷ b = e in
    let later : a ≡ b = cc in
    ap Nested (same_tables steps book s t ((codes "end" ∷ []) ∷ []) ((codes "end" ∷ []) ∷ []) x.tables y.tables later)
one_said steps book (Nested s) (Revolve k v) x y e =
    absurd (let d : (codes "nested" ∷ []) ∷ (flat_map (level_lines s) (range_with_len 0 (length s.rooms)) ++ (codes "end" ∷ []) ∷ []) ≡ (codes "revolve" ∷ decimal k ∷ decimal v ∷ []) ∷ [] = e in cc)
one_said steps book (Nested s) (Places n) x y e =
    absurd (let d : (codes "nested" ∷ []) ∷ (flat_map (level_lines s) (range_with_len 0 (length s.rooms)) ++ (codes "end" ∷ []) ∷ []) ≡ (codes "places" ∷ decimal n ∷ []) ∷ [] = e in cc)
one_said steps book (Revolve k v) (Nested s) x y e =
    absurd (let d : (codes "revolve" ∷ decimal k ∷ decimal v ∷ []) ∷ [] ≡ (codes "nested" ∷ []) ∷ (flat_map (level_lines s) (range_with_len 0 (length s.rooms)) ++ (codes "end" ∷ []) ∷ []) = e in cc)
one_said steps book (Places n) (Nested s) x y e =
    absurd (let d : (codes "places" ∷ decimal n ∷ []) ∷ [] ≡ (codes "nested" ∷ []) ∷ (flat_map (level_lines s) (range_with_len 0 (length s.rooms)) ++ (codes "end" ∷ []) ∷ []) = e in cc)
one_said steps book (Disk s) (Disk t) x y e =
    let a = flat_map (level_lines s.fast) (range_with_len 0 (length s.fast.rooms)) ++ column_lines s in
    let b = flat_map (level_lines t.fast) (range_with_len 0 (length t.fast.rooms)) ++ column_lines t in
    let d : (codes "disk" ∷ []) ∷ a ≡ (codes "disk" ∷ []) ∷ b = e in
    let later : a ≡ b = cc in
    ap Disk (same_disk steps book s t x y later)
one_said steps book (Disk s) (Revolve k v) x y e =
    absurd (let d : (codes "disk" ∷ []) ∷ (flat_map (level_lines s.fast) (range_with_len 0 (length s.fast.rooms)) ++ column_lines s) ≡ (codes "revolve" ∷ decimal k ∷ decimal v ∷ []) ∷ [] = e in cc)
one_said steps book (Disk s) (Places n) x y e =
    absurd (let d : (codes "disk" ∷ []) ∷ (flat_map (level_lines s.fast) (range_with_len 0 (length s.fast.rooms)) ++ column_lines s) ≡ (codes "places" ∷ decimal n ∷ []) ∷ [] = e in cc)
one_said steps book (Disk s) (Nested t) x y e =
    absurd (let d : (codes "disk" ∷ []) ∷ (flat_map (level_lines s.fast) (range_with_len 0 (length s.fast.rooms)) ++ column_lines s) ≡ (codes "nested" ∷ []) ∷ (flat_map (level_lines t) (range_with_len 0 (length t.rooms)) ++ (codes "end" ∷ []) ∷ []) = e in cc)
one_said steps book (Revolve k v) (Disk s) x y e =
    absurd (let d : (codes "revolve" ∷ decimal k ∷ decimal v ∷ []) ∷ [] ≡ (codes "disk" ∷ []) ∷ (flat_map (level_lines s.fast) (range_with_len 0 (length s.fast.rooms)) ++ column_lines s) = e in cc)
one_said steps book (Places n) (Disk s) x y e =
    absurd (let d : (codes "places" ∷ decimal n ∷ []) ∷ [] ≡ (codes "disk" ∷ []) ∷ (flat_map (level_lines s.fast) (range_with_len 0 (length s.fast.rooms)) ++ column_lines s) = e in cc)
one_said steps book (Nested s) (Disk t) x y e =
    absurd (let d : (codes "nested" ∷ []) ∷ (flat_map (level_lines s) (range_with_len 0 (length s.rooms)) ++ (codes "end" ∷ []) ∷ []) ≡ (codes "disk" ∷ []) ∷ (flat_map (level_lines t.fast) (range_with_len 0 (length t.fast.rooms)) ++ column_lines t) = e in cc)
