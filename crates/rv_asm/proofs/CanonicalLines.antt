-- The line of a row that takes a word is its canonical line, and where no row takes it there is none.
use Rattle.std.proofs.Common.{◌≡◌, ◌≢◌, ℕ, ◌^◌, ◌<◌, Bool, true, false, ◌&&◌, List, [], ◌∷◌, ◌++◌, length, ◌≤◌, map, Option, Some, None, refl, sym, ap, subst, ◌∙◌, inl, inr}
use Rattle.std.specs.Prelude.{find, option_map, codes, nat_le, is_none}
use Rattle.std.specs.Str.{bytes_eq}
use Rattle.std.specs.List.{AllByRecursion, list_all}
use Rattle.std.specs.Map.{lookup}
use Rattle.rv_decode.specs.declared.instruction.Inst.{Inst}
use Rattle.rv_decode.specs.Rows.{decoded}
use Rattle.rv_decode.specs.Words.{word_of}
use Rattle.rv_decode.proofs.EncodingRoundTrip.{read}
use Rattle.rv_decode.proofs.EncodingUniqueness.{only as only_word}
use Rattle.rv_asm.specs.declared.table.Format.{Format}
use Rattle.rv_asm.specs.declared.table.Format.TheVariants.{Word}
use Rattle.rv_asm.specs.declared.table.Want.{Want}
use Rattle.rv_asm.specs.declared.table.Operands.{Operands}
use Rattle.rv_asm.specs.declared.table.Code.{Code}
use Rattle.rv_asm.specs.Table.{Statement, instruction, bare, Row, wants, rows, named}
use Rattle.rv_asm.specs.PackedWords.{packed, is_base, IsBase, InFormat, takes}
use Rattle.rv_asm.specs.Encoder.{code_row, entries, coded, code_table, encoded}
use Rattle.rv_asm.specs.Canonical.{unpacked, operands_text, IsSpelled, IsCanonical}
use Rattle.line_texts.specs.Numbers.{hex_word}
use Rattle.line_texts.proofs.Steps.{which, both, itself, other_bytes}
use Rattle.rv_asm.proofs.OperandRanges.{at_most}
use Rattle.rv_asm.specs.Laws.{OneLine, SomeLine}
use Rattle.rv_asm.proofs.Names.{name_of, name_in}
use Rattle.rv_asm.proofs.RowAgreement.{base_of, HasStatement, Alike, AreAlike, named_alike, named_name}
use Rattle.rv_asm.proofs.WordOperands.{unpacked_in, taken_packed, packed_base, base_takes}

-- ---- tables

rows_of : (test : List ℕ → Bool) (es : List (List ℕ × Code)) → lookup test (map (λ (e : List ℕ × Code). (e.0, code_row e.1)) es) ≡ option_map (λ (c : Code). code_row c) (lookup test es)
rows_of test [] = refl
rows_of test (e ∷ es) = elim (which (test e.0)) [
  | inl hit ↦ rw hit refl
  | inr miss ↦ rw miss (rows_of test es)
]

pub named_code : (name : List ℕ) → named code_table name ≡ option_map (λ (c : Code). code_row c) (coded name)
unfolding named code_table coded
named_code name = rows_of (bytes_eq name) entries

-- an entry that is found passes the test, and all that holds of each entry
find_has : (test : (List ℕ × Code) → Bool) (P : (List ℕ × Code) → Type 0) (es : List (List ℕ × Code)) (e : List ℕ × Code) → AllByRecursion P es → find test es ≡ Some e → (test e ≡ true) × P e
find_has test P [] e all is = absurd cc
find_has test P (x ∷ es) e all is = elim (which (test x)) [
  | inl hit ↦
      let same : x ≡ e = cc (rw hit at is) in
      subst (λ (y : List ℕ × Code). (test y ≡ true) × P y) same (hit, all.0)
  | inr miss ↦ find_has test P es e all.1 (rw miss at is)
]

-- where none is found, none passes
find_none : (test : Code → Bool) (key : List ℕ → Bool) (es : List (List ℕ × Code)) (code : Code) → find (λ (e : List ℕ × Code). test e.1) es ≡ None → lookup key es ≡ Some code → test code ≡ false
find_none test key [] code none is = absurd cc
find_none test key (e ∷ es) code none is = elim (which (test e.1)) [
  | inl hit ↦ absurd (cc (rw hit at none))
  | inr miss ↦ elim (which (key e.0)) [
    | inl there ↦ let same : e.1 ≡ code = cc (rw there at is) in subst (λ (c : Code). test c ≡ false) same miss
    | inr other ↦ find_none test key es code (rw miss at none) (rw other at is)
  ]
]

-- a row that is looked up has what each has
lookup_has : (P : Code → Bool) (key : List ℕ → Bool) (es : List (List ℕ × Code)) (code : Code) → list_all (λ (e : List ℕ × Code). P e.1) es ≡ true → lookup key es ≡ Some code → P code ≡ true
lookup_has P key [] code all is = absurd cc
lookup_has P key (e ∷ es) code all is =
    let p = both (P e.1) (list_all (λ (x : List ℕ × Code). P x.1) es) all in
    elim (which (key e.0)) [
      | inl there ↦ let same : e.1 ≡ code = cc (rw there at is) in subst (λ (c : Code). P c ≡ true) same p.0
      | inr other ↦ lookup_has P key es code p.1 (rw other at is)
    ]

bases : list_all (λ (e : List ℕ × Code). is_base e.1.format e.1.base) entries ≡ true
unfolding entries
bases = refl

pub coded_base : (name : List ℕ) (code : Code) → coded name ≡ Some code → IsBase code.format code.base
unfolding coded
coded_base name code is = base_of code.format code.base (lookup_has (λ (c : Code). is_base c.format c.base) (bytes_eq name) entries code bases is)

-- each entry is the one of its name, since no two have one name
abbrev are_apart : List (List ℕ × Code) → Bool
are_apart [] = true
are_apart (e ∷ es) = is_none (lookup (bytes_eq e.0) es) && are_apart es

abbrev IsFirst : List (List ℕ × Code) → (List ℕ × Code) → Type 0
IsFirst es e = lookup (bytes_eq e.0) es ≡ Some e.1

still_first : (e : List ℕ × Code) (es rest : List (List ℕ × Code)) → is_none (lookup (bytes_eq e.0) rest) ≡ true → AllByRecursion (IsFirst es) rest → AllByRecursion (IsFirst (e ∷ es)) rest
still_first e es [] new all = tt
still_first e es (x ∷ rest) new all = elim (which (bytes_eq e.0 x.0)) [
  | inl hit ↦ absurd (cc (rw hit at new))
  | inr miss ↦ (rw (other_bytes e.0 x.0 miss) all.0, still_first e es rest (rw miss at new) all.1)
]

firsts : (es : List (List ℕ × Code)) → are_apart es ≡ true → AllByRecursion (IsFirst es) es
firsts [] apart = tt
firsts (e ∷ es) apart =
    let p = both (is_none (lookup (bytes_eq e.0) es)) (are_apart es) apart in
    (rw (itself e.0) refl, still_first e es es p.0 (firsts es p.1))

entries_apart : are_apart entries ≡ true
unfolding entries
entries_apart = refl

first_names : AllByRecursion (λ (e : List ℕ × Code). coded e.0 ≡ Some e.1) entries
unfolding coded
first_names = firsts entries entries_apart

-- ---- the row that takes a word

row_at : (name : List ℕ) (code : Code) (r : Option (Row Statement)) → named rows name ≡ r → AreAlike r (Some (code_row code)) → (row : Row Statement) × (named rows name ≡ Some row) × Alike row (code_row code)
row_at name code None is alike = absurd alike
row_at name code (Some row) is alike = (row, is, alike)

row_of_code : (name : List ℕ) (code : Code) → coded name ≡ Some code → (row : Row Statement) × (named rows name ≡ Some row) × Alike row (code_row code)
row_of_code name code is =
    let there : named code_table name ≡ Some (code_row code) = named_code name ∙ ap (option_map (λ (c : Code). code_row c)) is in
    row_at name code (named rows name) refl (subst (λ (k : Option (Row ℕ)). AreAlike (named rows name) k) there (named_alike name))

not_word : (format : Format) (base w : ℕ) → takes format base w ≡ true → format ≢ Word
not_word format base w is same = cc (ap (λ (f : Format). takes f base w) same, is)

spelled_row : (w : ℕ) (name : List ℕ) (code : Code) (row : Row Statement) → w < 2 ^ 32 → named rows name ≡ Some row → Alike row (code_row code) → takes code.format code.base w ≡ true →
    IsSpelled w (name ++ operands_text (unpacked code.format w) (wants code.format))
spelled_row w name code row small there alike is =
    let o = unpacked row.format w in
    let fit : InFormat row.format o = unpacked_in row.format w small in
    let other : row.format ≢ Word = λ same. not_word code.format code.base w is (sym alike.format ∙ same) in
    let i = alike.inst other o in
    let word : encoded (row.says o) ≡ w =
    alike.word o
    ∙ ap (λ (f : Format). packed code.format code.base (unpacked f w)) alike.format
    ∙ taken_packed code.format code.base w small is in
    let says : word_of i.0 ≡ w = ap encoded (sym i.1) ∙ word in
    let ranges : HasStatement (instruction i.0) = subst HasStatement i.1 (alike.ranges o fit) in
    record {
      name = name;
      row = row;
      there = there;
      inst = i.0;
      says = i.1;
      word = ap decoded (sym says) ∙ read i.0 ranges;
      text = ap (λ (f : Format). name ++ operands_text (unpacked f w) (wants f)) (sym alike.format);
    }

pub canonical_row : (w : ℕ) (name : List ℕ) (code : Code) → w < 2 ^ 32 → find (λ (k : List ℕ × Code). takes k.1.format k.1.base w) entries ≡ Some (name, code) →
    IsCanonical w (name ++ operands_text (unpacked code.format w) (wants code.format))
canonical_row w name code small is =
    let h = find_has (λ (k : List ℕ × Code). takes k.1.format k.1.base w) (λ (e : List ℕ × Code). coded e.0 ≡ Some e.1) entries (name, code) first_names is in
    let r = row_of_code name code h.1 in
    inl (spelled_row w name code r.0 small r.1 r.2 h.0)

-- ---- no row

code_at : (name : List ℕ) (row : Row Statement) (found : Option Code) → coded name ≡ found → AreAlike (Some row) (option_map (λ (c : Code). code_row c) found) → (code : Code) × (coded name ≡ Some code) × Alike row (code_row code)
code_at name row None is alike = absurd alike
code_at name row (Some code) is alike = (code, is, alike)

code_of_row : (name : List ℕ) (row : Row Statement) → named rows name ≡ Some row → (code : Code) × (coded name ≡ Some code) × Alike row (code_row code)
code_of_row name row is =
    let alike : AreAlike (Some row) (option_map (λ (c : Code). code_row c) (coded name)) =
    subst (λ (k : Option (Row ℕ)). AreAlike (Some row) k) (named_code name) (subst (λ (r : Option (Row Statement)). AreAlike r (named code_table name)) is (named_alike name)) in
    code_at name row (coded name) refl alike

is_bare : (s : Statement) (n : ℕ) (i : Inst) → s ≡ bare n → s ≡ instruction i → ⊥
is_bare s n i p q = cc (p, q)

-- a line of a row is of no row of any word
pub row_format : (w : ℕ) (text : List ℕ) (s : IsSpelled w text) → s.row.format ≢ Word
row_format w text s = λ same.
    let c = code_of_row s.name s.row s.there in
    let alike : Alike s.row (code_row c.0) = c.2 in
    let o = unpacked s.row.format w in
    is_bare (s.row.says o) o.imm s.inst (alike.bare_is same o) s.says

pub spelled_code : (w : ℕ) (text : List ℕ) → w < 2 ^ 32 → IsSpelled w text → (code : Code) × (coded_name : List ℕ) × (coded coded_name ≡ Some code) × (takes code.format code.base w ≡ true)
spelled_code w text small s =
    let c = code_of_row s.name s.row s.there in
    let alike : Alike s.row (code_row c.0) = c.2 in
    let o = unpacked s.row.format w in
    let other : s.row.format ≢ Word = λ same. is_bare (s.row.says o) o.imm s.inst (alike.bare_is same o) s.says in
    let word : w ≡ packed c.0.format c.0.base (unpacked c.0.format w) =
    sym (only_word w s.inst small s.word)
    ∙ ap encoded (sym s.says)
    ∙ alike.word o
    ∙ ap (λ (f : Format). packed c.0.format c.0.base (unpacked f w)) alike.format in
    let not_any : c.0.format ≢ Word = λ same. other (alike.format ∙ same) in
    elim (packed_base c.0.format c.0.base w small (sym word)) [
      | inr any ↦ absurd (not_any any)
      | inl base ↦ elim (base_takes c.0.format c.0.base w base) [
        | inr any ↦ absurd (not_any any)
        | inl is ↦ (c.0, s.name, c.1, is)
      ]
    ]

pub canonical_word : (w : ℕ) → w < 2 ^ 32 → find (λ (k : List ℕ × Code). takes k.1.format k.1.base w) entries ≡ None → IsCanonical w (codes ".word 0x" ++ hex_word w)
unfolding coded
canonical_word w small none = inr (no_line, refl)
  where
    no_line : (text : List ℕ) → IsSpelled w text → ⊥
    no_line text s =
        let c = spelled_code w text small s in
        let fails = find_none (λ (c : Code). takes c.format c.base w) (bytes_eq c.1) entries c.0 none c.2 in
        cc (fails, c.3)

-- ---- one line

abbrev some_inst : Inst → Option Inst
some_inst i = Some i

abbrev some_row : Row Statement → Option (Row Statement)
some_row r = Some r

-- the row is found by the name of the instruction, and the operands are those of the word
one_text : (w : ℕ) (a b : List ℕ) → (s : IsSpelled w a) → (t : IsSpelled w b) → a ≡ b
one_text w a b s t =
    let insts : s.inst ≡ t.inst = some_is s.inst t.inst (sym s.word ∙ t.word) in
    let names : s.name ≡ t.name =
    sym (named_name s.name s.row (unpacked s.row.format w) s.there)
    ∙ ap name_in s.says
    ∙ ap name_of insts
    ∙ sym (ap name_in t.says)
    ∙ named_name t.name t.row (unpacked t.row.format w) t.there in
    let rows_are : s.row ≡ t.row = row_is s.row t.row (sym s.there ∙ ap (named rows) names ∙ t.there) in
    s.text
    ∙ ap (λ (r : Row Statement). s.name ++ operands_text (unpacked r.format w) (wants r.format)) rows_are
    ∙ ap (λ (name : List ℕ). name ++ operands_text (unpacked t.row.format w) (wants t.row.format)) names
    ∙ sym t.text
  where
    some_is : (x y : Inst) → some_inst x ≡ some_inst y → x ≡ y
    some_is x y e = cc

    row_is : (x y : Row Statement) → some_row x ≡ some_row y → x ≡ y
    row_is x y e = cc

pub one_line : OneLine
one_line w a b (inl s) (inl t) = one_text w a b s t
one_line w a b (inl s) (inr n) = absurd (n.0 a s)
one_line w a b (inr m) (inl t) = absurd (m.0 b t)
one_line w a b (inr m) (inr n) = m.1 ∙ sym n.1

pub some_line : SomeLine
some_line w small = by_row (find (λ (k : List ℕ × Code). takes k.1.format k.1.base w) entries) refl
  where
    by_row : (found : Option (List ℕ × Code)) → find (λ (k : List ℕ × Code). takes k.1.format k.1.base w) entries ≡ found → (line : List ℕ) × IsCanonical w line
    by_row (Some k) is = (k.0 ++ operands_text (unpacked k.1.format w) (wants k.1.format), canonical_row w k.0 k.1 small is)
    by_row None is = (codes ".word 0x" ++ hex_word w, canonical_word w small is)

-- ---- what is printed

short_names : list_all (λ (e : List ℕ × Code). nat_le (length e.0) 6) entries ≡ true
unfolding entries
short_names = refl

find_all : (test P : (List ℕ × Code) → Bool) (es : List (List ℕ × Code)) (e : List ℕ × Code) → list_all P es ≡ true → find test es ≡ Some e → P e ≡ true
find_all test P [] e all is = absurd cc
find_all test P (x ∷ es) e all is =
    let p = both (P x) (list_all P es) all in
    elim (which (test x)) [
      | inl hit ↦ let same : x ≡ e = cc (rw hit at is) in subst (λ (y : List ℕ × Code). P y ≡ true) same p.0
      | inr miss ↦ find_all test P es e p.1 (rw miss at is)
    ]

pub short_name : (w : ℕ) (name : List ℕ) (code : Code) → find (λ (k : List ℕ × Code). takes k.1.format k.1.base w) entries ≡ Some (name, code) → length name ≤ 6
short_name w name code is =
    at_most (length name) 6 (find_all (λ (k : List ℕ × Code). takes k.1.format k.1.base w) (λ (e : List ℕ × Code). nat_le (length e.0) 6) entries (name, code) short_names is)

pub printed_whole : (first name second third : List ℕ) (o p : Operands) (ws vs : List Want) → first ≡ [] → second ≡ first ++ name → third ≡ second ++ operands_text o ws → o ≡ p → ws ≡ vs → third ≡ name ++ operands_text p vs
printed_whole first name second third o p ws vs a b d e f =
    d ∙ ap (λ (l : List ℕ). l ++ operands_text o ws) (b ∙ ap (λ (l : List ℕ). l ++ name) a)
    ∙ ap (λ (q : Operands). name ++ operands_text q ws) e
    ∙ ap (λ (us : List Want). name ++ operands_text p us) f
