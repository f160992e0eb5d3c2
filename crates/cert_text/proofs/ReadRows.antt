-- Rows that are read one after the other and put into tables.
use Rattle.std.proofs.Common.{◌≡◌, ℕ, zero, suc, ◌+◌, ◌-◌, ◌<◌, ◌≤◌, List, [], ◌∷◌, ◌++◌, length, map, get_or, refl, sym, ap, subst, ◌∙◌, inl, inr, arith, append-nil, append_assoc, add-one}
use Rattle.std.specs.Prelude.{codes, decimal, slice_index_or}
use Rattle.std.specs.List.{range_with_len, flat_map}
use Rattle.std.proofs.lemmas.Bool.{cases_lt}
use Rattle.level_book.specs.UnderTable.{Entry}
use Rattle.cost_tables.specs.declared.cost.Cost.{Cost}
use Rattle.cost_tables.specs.declared.cost.Cost.TheVariants.{Never}
use Rattle.cost_tables.specs.TableRows.{TableRows, entry_at, tables_in, value_of}
use Rattle.line_texts.specs.declared.fault.Fault.{Fault}
use Rattle.line_texts.specs.declared.fault.Fault.TheVariants.{At, Memory}
use Rattle.cert_text.specs.WordLines.{entry_word, row_line, row_lines, level_lines}
use Rattle.cert_text.specs.Meaning.{HasWord, HaveWords}
use Rattle.cert_text.specs.Grammar.{Want, row_wants, rows_wants}
use Rattle.cert_text.specs.Faults.{IsLineFault}
use Rattle.cert_text.specs.ReaderState.{Unread, IsAmong}
use Rattle.cert_text.specs.Rows.{Reads, Keeps, wants_for, cost_word}
use Rattle.cert_text.specs.declared.stretches.Stretches.{Stretches}
use Rattle.cert_text.specs.declared.stretches.Stretches.TheVariants.{Fresh, Held}
use Rattle.cert_text.specs.Stretches.{rows_of}
use Rattle.cert_text.proofs.Ranges.{map_more, flat_same, flat_more}
use Rattle.cert_text.proofs.EntryLines.{same_rows}
use Rattle.cert_text.proofs.ReaderSteps.{reads_none, reads_then}

pub listed_costs : (steps a : ℕ) (f : ℕ → Entry) (row : List Cost) → length row ≡ steps → ((i : ℕ) → i < steps → f (a + i) ≡ value_of (get_or row i Never)) → map (λ l. entry_word (f l)) (range_with_len a steps) ≡ map cost_word row
listed_costs zero a f [] long same = refl
listed_costs zero a f (c ∷ row) long same = absurd (omega arith)
listed_costs (suc steps) a f [] long same = absurd (omega arith)
listed_costs (suc steps) a f (c ∷ row) long same =
    let at : a ≡ a + 0 = omega arith in
    let here : f a ≡ value_of c = ap f at ∙ same 0 (omega arith) in
    let later = listed_costs steps (a + 1) f row (omega arith) (λ i low. let there : (a + 1) + i ≡ a + suc i = omega arith in ap f there ∙ same (suc i) (omega arith)) in
    λ i. entry_word (here i) ∷ later i

wants_more : (letter : List ℕ) (k steps m : ℕ) → rows_wants letter k steps (m + 1) ≡ rows_wants letter k steps m ++ row_wants (letter ∷ decimal k ∷ decimal m ∷ []) steps ∷ []
unfolding rows_wants
wants_more letter k steps m =
    ap (λ (n : ℕ). map (λ m. row_wants (letter ∷ decimal k ∷ decimal m ∷ []) steps) (range_with_len 0 n)) (add-one m)
    ∙ map_more (λ m. row_wants (letter ∷ decimal k ∷ decimal m ∷ []) steps) 0 m
    ∙ (let e : 0 + m ≡ m = omega arith in ap (λ (n : ℕ). map (λ m. row_wants (letter ∷ decimal k ∷ decimal m ∷ []) steps) (range_with_len 0 m) ++ row_wants (letter ∷ decimal k ∷ decimal n ∷ []) steps ∷ []) e)

pub lines_more : (letter : List ℕ) (k steps m : ℕ) (e : ℕ → ℕ → Entry) → row_lines letter k steps (m + 1) e ≡ row_lines letter k steps m e ++ row_line (letter ∷ decimal k ∷ decimal m ∷ []) steps (e m) ∷ []
unfolding row_lines
lines_more letter k steps m e =
    ap (λ (n : ℕ). map (λ m. row_line (letter ∷ decimal k ∷ decimal m ∷ []) steps (e m)) (range_with_len 0 n)) (add-one m)
    ∙ map_more (λ m. row_line (letter ∷ decimal k ∷ decimal m ∷ []) steps (e m)) 0 m
    ∙ (let is : 0 + m ≡ m = omega arith in ap (λ (n : ℕ). map (λ m. row_line (letter ∷ decimal k ∷ decimal m ∷ []) steps (e m)) (range_with_len 0 m) ++ row_line (letter ∷ decimal k ∷ decimal n ∷ []) steps (e n) ∷ []) is)

-- so many rows of level k were read, and these entries stand in the tables
pub record RowsSoFar (letter : List ℕ) (k steps m : ℕ) (e : ℕ → ℕ → Entry) (a b : Unread) : Type 0 where
  pub reads : Reads (rows_wants letter k steps m) (row_lines letter k steps m e) a b
  pub words : (n l : ℕ) → n < m → 1 ≤ l → l ≤ steps → HasWord (e n l)

pub no_row : (letter : List ℕ) (k steps : ℕ) (e : ℕ → ℕ → Entry) (a : Unread) → RowsSoFar letter k steps 0 e a a
unfolding rows_wants row_lines
no_row letter k steps e a = record { reads = reads_none a; words = λ n l low least most. absurd (omega arith) }

pub row_more : (letter : List ℕ) (k steps m : ℕ) (e d : ℕ → ℕ → Entry) (row : List Cost) (a b c : Unread) → RowsSoFar letter k steps m e a b → length row ≡ steps →
    Reads (row_wants (letter ∷ decimal k ∷ decimal m ∷ []) (length row) ∷ []) ((letter ∷ decimal k ∷ decimal m ∷ map cost_word row) ∷ []) b c →
    ((i : ℕ) → i < length row → HasWord (value_of (get_or row i Never))) →
    ((n l : ℕ) → n < m → 1 ≤ l → d n l ≡ e n l) → ((i : ℕ) → i < length row → d m (i + 1) ≡ value_of (get_or row i Never)) → RowsSoFar letter k steps (m + 1) d a c
row_more letter k steps m e d row a b c so long next has same put = record {
  reads =
      let head : List (List ℕ) = letter ∷ decimal k ∷ decimal m ∷ [] in
      let line : row_line head steps (d m) ≡ head ++ map cost_word row =
      ap (λ (ts : List (List ℕ)). head ++ ts) (listed_costs steps 1 (d m) row long (λ i low. let e : 1 + i ≡ i + 1 = omega arith in ap (d m) e ∙ put i (omega arith))) in
      let lines : row_lines letter k steps m e ++ (head ++ map cost_word row) ∷ [] ≡ row_lines letter k steps (m + 1) d =
      (λ j. same_rows letter k steps m e d (λ n l low least most. sym (same n l low least)) j ++ sym line j ∷ []) ∙ sym (lines_more letter k steps m d) in
      let wants : rows_wants letter k steps m ++ row_wants head (length row) ∷ [] ≡ rows_wants letter k steps (m + 1) =
      ap (λ (n : ℕ). rows_wants letter k steps m ++ row_wants head n ∷ []) long ∙ sym (wants_more letter k steps m) in
      let both = reads_then (rows_wants letter k steps m) (row_wants head (length row) ∷ []) (row_lines letter k steps m e) ((head ++ map cost_word row) ∷ []) a b c so.reads next in
      let P : List (List Want) → Type 0 = λ w. Reads w (row_lines letter k steps (m + 1) d) a c in
      let Q : List (List (List ℕ)) → Type 0 = λ s. Reads (rows_wants letter k steps m ++ row_wants head (length row) ∷ []) s a c in
      subst P wants (subst Q lines both);
  words = λ n l low least most. elim (cases_lt n m) [
    | inl before ↦ subst HasWord (sym (same n l before least)) (so.words n l before least most)
    | inr at ↦
        let is : m ≡ n = omega arith in
        let back : (l - 1) + 1 ≡ l = omega arith in
        let there : d n l ≡ value_of (get_or row (l - 1) Never) = sym (λ j. d (is j) (back j)) ∙ put (l - 1) (omega arith) in
        subst HasWord (sym there) (has (l - 1) (omega arith))
  ];
}

-- a fault in the next lines is one in all that are wanted
pub among : (x y z whole : List (List Want)) (s : List (List (List ℕ))) (a b : Unread) (fault : Fault) → Reads x s a b → (x ++ y) ++ z ≡ whole → IsAmong y b fault → IsAmong whole a fault
among x y z whole s a b (At r l c) reads all wrong = λ more.
    let there = reads.passes.fault (y ++ (z ++ more)) r l c (wrong (z ++ more)) in
    let e : x ++ (y ++ (z ++ more)) ≡ whole ++ more = sym (append_assoc x y (z ++ more)) ∙ sym (append_assoc (x ++ y) z more) ∙ ap (λ (w : List (List Want)). w ++ more) all in
    subst (λ (w : List (List Want)). IsLineFault w a.lines a.count r l c) e there
among x y z whole s a b Memory reads all wrong = λ more. wrong more

pub split_at : {A : Type 0} (f : ℕ → A) (a m n : ℕ) → m < n → (rest : List A) × ((map f (range_with_len a m) ++ f (a + m) ∷ []) ++ rest ≡ map f (range_with_len a n))
split_at f a m zero low = absurd (omega arith)
split_at {A = A} f a zero (suc n) low = (map f (range_with_len (a + 1) n), (let e : a + 0 ≡ a = omega arith in ap (λ (i : ℕ). f i ∷ map f (range_with_len (a + 1) n)) e))
split_at {A = A} f a (suc m) (suc n) low =
    let rest = split_at {A = A} f (a + 1) m n (omega arith) in
    let e : a + suc m ≡ (a + 1) + m = omega arith in
    (rest.0, ap (λ (i : ℕ). f a ∷ ((map f (range_with_len (a + 1) m) ++ f i ∷ []) ++ rest.0)) e ∙ ap (λ (l : List A). f a ∷ l) rest.1)

pub row_wrong : (letter : List ℕ) (k steps m n : ℕ) (e : ℕ → ℕ → Entry) (a b : Unread) (fault : Fault) → m < n → RowsSoFar letter k steps m e a b → IsAmong (row_wants (letter ∷ decimal k ∷ decimal m ∷ []) steps ∷ []) b fault →
    IsAmong (rows_wants letter k steps n) a fault
unfolding rows_wants
row_wrong letter k steps m n e a b fault low so wrong =
    let parts = split_at (λ m. row_wants (letter ∷ decimal k ∷ decimal m ∷ []) steps) 0 m n low in
    let is : 0 + m ≡ m = omega arith in
    let all = sym (ap (λ (i : ℕ). (map (λ m. row_wants (letter ∷ decimal k ∷ decimal m ∷ []) steps) (range_with_len 0 m) ++ row_wants (letter ∷ decimal k ∷ decimal i ∷ []) steps ∷ []) ++ parts.0) is) ∙ parts.1 in
    among (map (λ m. row_wants (letter ∷ decimal k ∷ decimal m ∷ []) steps) (range_with_len 0 m)) (row_wants (letter ∷ decimal k ∷ decimal m ∷ []) steps ∷ []) parts.0 (map (λ m. row_wants (letter ∷ decimal k ∷ decimal m ∷ []) steps) (range_with_len 0 n))
    (row_lines letter k steps m e) a b fault so.reads all wrong

pub keeps_all : (k : ℕ) (s : Stretches) (t : TableRows) → Keeps s (λ i j n. i ≡ k) t t
keeps_all k s t = record { steps = refl; rooms = refl; apart = refl; others = λ i j n least away. refl }

pub keeps_more : (k m : ℕ) (s : Stretches) (t u v : TableRows) → Keeps s (λ i j n. i ≡ k) t u → Keeps s (λ i j n. (i ≡ k) × (n ≡ m)) u v → Keeps s (λ i j n. i ≡ k) t v
keeps_more k m s t u v first second = record {
  steps = second.steps ∙ first.steps;
  rooms = second.rooms ∙ first.rooms;
  apart = second.apart ∙ first.apart;
  others = λ i j n least away. second.others i j n least (λ at. away at.0) ∙ first.others i j n least away;
}

-- the entries of all levels but k are kept
pub record KeepsLevels (k : ℕ) (old new : TableRows) : Type 0 where
  pub steps : new.steps ≡ old.steps
  pub rooms : new.rooms ≡ old.rooms
  pub fresh : (i j n : ℕ) → 1 ≤ j → (i ≡ k → ⊥) → (tables_in new).fresh i j n ≡ (tables_in old).fresh i j n
  pub held : (i j n : ℕ) → 1 ≤ j → (i ≡ k → ⊥) → (tables_in new).held i j n ≡ (tables_in old).held i j n

-- the lines of a level
pub level_done : (k : ℕ) (s t u : TableRows) (a b c : Unread) →
    Reads (rows_wants (codes "F") k s.steps (slice_index_or s.rooms k 0 + 1)) (row_lines (codes "F") k s.steps (slice_index_or s.rooms k 0 + 1) (λ m l. (tables_in t).fresh k l m)) a b →
    ((m l : ℕ) → m < rows_of Fresh s k → 1 ≤ l → l ≤ s.steps → HasWord ((tables_in t).fresh k l m)) → Keeps Fresh (λ i j n. i ≡ k) s t →
    Reads (rows_wants (codes "H") k t.steps (slice_index_or t.rooms k 0)) (row_lines (codes "H") k t.steps (slice_index_or t.rooms k 0) (λ m l. (tables_in u).held k l m)) b c →
    ((m l : ℕ) → m < slice_index_or t.rooms k 0 → 1 ≤ l → l ≤ t.steps → HasWord ((tables_in u).held k l m)) → Keeps Held (λ i j n. i ≡ k) t u →
    Reads (wants_for s k) (level_lines u k) a c × HaveWords u k × KeepsLevels k s u
unfolding wants_for level_lines
level_done k s t u a b c first fs keeps second hs holds =
    let steps : t.steps ≡ s.steps = keeps.steps in
    let rooms : t.rooms ≡ s.rooms = keeps.rooms in
    let last_steps : u.steps ≡ s.steps = holds.steps ∙ keeps.steps in
    let last_rooms : u.rooms ≡ s.rooms = holds.rooms ∙ keeps.rooms in
    let same : (tables_in u).fresh ≡ (tables_in t).fresh = ap (λ (rows : List (List (List Entry))). (λ k l m. entry_at rows k (l - 1) m)) holds.apart in
    let h_wants : rows_wants (codes "H") k t.steps (slice_index_or t.rooms k 0) ≡ rows_wants (codes "H") k s.steps (slice_index_or s.rooms k 0) =
    (λ i. rows_wants (codes "H") k (steps i) (slice_index_or (rooms i) k 0)) in
    let f_lines : row_lines (codes "F") k s.steps (slice_index_or s.rooms k 0 + 1) (λ m l. (tables_in t).fresh k l m) ≡ row_lines (codes "F") k u.steps (slice_index_or u.rooms k 0 + 1) (λ m l. (tables_in u).fresh k l m) =
    sym (λ i. row_lines (codes "F") k (last_steps i) (slice_index_or (last_rooms i) k 0 + 1) (λ m l. same i k l m)) in
    let h_lines : row_lines (codes "H") k t.steps (slice_index_or t.rooms k 0) (λ m l. (tables_in u).held k l m) ≡ row_lines (codes "H") k u.steps (slice_index_or u.rooms k 0) (λ m l. (tables_in u).held k l m) =
    sym (λ i. row_lines (codes "H") k (holds.steps i) (slice_index_or (holds.rooms i) k 0) (λ m l. (tables_in u).held k l m)) in
    let both = reads_then (rows_wants (codes "F") k s.steps (slice_index_or s.rooms k 0 + 1)) (rows_wants (codes "H") k t.steps (slice_index_or t.rooms k 0))
    (row_lines (codes "F") k s.steps (slice_index_or s.rooms k 0 + 1) (λ m l. (tables_in t).fresh k l m)) (row_lines (codes "H") k t.steps (slice_index_or t.rooms k 0) (λ m l. (tables_in u).held k l m)) a b c first second in
    let P : List (List Want) → Type 0 = λ w. Reads (rows_wants (codes "F") k s.steps (slice_index_or s.rooms k 0 + 1) ++ w)
    (row_lines (codes "F") k s.steps (slice_index_or s.rooms k 0 + 1) (λ m l. (tables_in t).fresh k l m) ++ row_lines (codes "H") k t.steps (slice_index_or t.rooms k 0) (λ m l. (tables_in u).held k l m)) a c in
    let Q : List (List (List ℕ)) → Type 0 = λ l. Reads (rows_wants (codes "F") k s.steps (slice_index_or s.rooms k 0 + 1) ++ rows_wants (codes "H") k s.steps (slice_index_or s.rooms k 0)) l a c in
    let at : slice_index_or u.rooms k 0 ≡ slice_index_or s.rooms k 0 = ap (λ (r : List ℕ). slice_index_or r k 0) last_rooms in
    let mid : slice_index_or u.rooms k 0 ≡ slice_index_or t.rooms k 0 = ap (λ (r : List ℕ). slice_index_or r k 0) holds.rooms in (
      subst Q (λ i. f_lines i ++ h_lines i) (subst P h_wants both),
      record {
        fresh = λ m l in_room least most. subst HasWord (sym (λ i. same i k l m)) (fs m l (omega arith) least (omega arith));
        held = λ m l in_room least most. hs m l (omega arith) least (omega arith);
      },
      record {
        steps = last_steps;
        rooms = last_rooms;
        fresh = λ i j n least away. (λ x. same x i j n) ∙ keeps.others i j n least away;
        held = λ i j n least away. holds.others i j n least away ∙ ap (λ (rows : List (List (List Entry))). entry_at rows i (j - 1) n) keeps.apart;
      },
    )

-- a fault in those of held stretches
pub level_wrong_later : (k : ℕ) (s t : TableRows) (a b : Unread) (fault : Fault) →
    Reads (rows_wants (codes "F") k s.steps (slice_index_or s.rooms k 0 + 1)) (row_lines (codes "F") k s.steps (slice_index_or s.rooms k 0 + 1) (λ m l. (tables_in t).fresh k l m)) a b →
    Keeps Fresh (λ i j n. i ≡ k) s t → IsAmong (rows_wants (codes "H") k t.steps (slice_index_or t.rooms k 0)) b fault → IsAmong (wants_for s k) a fault
unfolding wants_for
level_wrong_later k s t a b fault first keeps wrong =
    let h_wants : rows_wants (codes "H") k t.steps (slice_index_or t.rooms k 0) ≡ rows_wants (codes "H") k s.steps (slice_index_or s.rooms k 0) =
    (λ i. rows_wants (codes "H") k (keeps.steps i) (slice_index_or (keeps.rooms i) k 0)) in
    let f_wants = rows_wants (codes "F") k s.steps (slice_index_or s.rooms k 0 + 1) in
    among f_wants (rows_wants (codes "H") k t.steps (slice_index_or t.rooms k 0)) [] (f_wants ++ rows_wants (codes "H") k s.steps (slice_index_or s.rooms k 0))
    (row_lines (codes "F") k s.steps (slice_index_or s.rooms k 0 + 1) (λ m l. (tables_in t).fresh k l m)) a b fault first
    (append-nil (f_wants ++ rows_wants (codes "H") k t.steps (slice_index_or t.rooms k 0)) ∙ ap (λ (w : List (List Want)). f_wants ++ w) h_wants) wrong

pub level_wrong : (k : ℕ) (s : TableRows) (a : Unread) (fault : Fault) → IsAmong (rows_wants (codes "F") k s.steps (slice_index_or s.rooms k 0 + 1)) a fault → IsAmong (wants_for s k) a fault
unfolding wants_for
level_wrong k s a fault wrong =
    among [] (rows_wants (codes "F") k s.steps (slice_index_or s.rooms k 0 + 1)) (rows_wants (codes "H") k s.steps (slice_index_or s.rooms k 0))
    (rows_wants (codes "F") k s.steps (slice_index_or s.rooms k 0 + 1) ++ rows_wants (codes "H") k s.steps (slice_index_or s.rooms k 0)) [] a a fault (reads_none a) refl wrong

-- the levels so far
pub record LevelsSoFar (k : ℕ) (s t : TableRows) (a b : Unread) : Type 0 where
  pub reads : Reads (flat_map (wants_for s) (range_with_len 0 k)) (flat_map (level_lines t) (range_with_len 0 k)) a b
  pub words : (j : ℕ) → j < k → HaveWords t j
  pub steps : t.steps ≡ s.steps
  pub rooms : t.rooms ≡ s.rooms

pub no_level : (s : TableRows) (a : Unread) → LevelsSoFar 0 s s a a
no_level s a = record { reads = reads_none a; words = λ j low. absurd (omega arith); steps = refl; rooms = refl }

same_wants : (k : ℕ) (s t : TableRows) → t.steps ≡ s.steps → t.rooms ≡ s.rooms → wants_for t k ≡ wants_for s k
unfolding wants_for
same_wants k s t steps rooms = λ i. rows_wants (codes "F") k (steps i) (slice_index_or (rooms i) k 0 + 1) ++ rows_wants (codes "H") k (steps i) (slice_index_or (rooms i) k 0)

same_level : (j k : ℕ) (t u : TableRows) → (j ≡ k → ⊥) → KeepsLevels k t u → level_lines t j ≡ level_lines u j
unfolding level_lines
same_level j k t u away keeps =
    let f = same_rows (codes "F") j t.steps (slice_index_or t.rooms j 0 + 1) (λ m l. (tables_in t).fresh j l m) (λ m l. (tables_in u).fresh j l m) (λ m l low least most. sym (keeps.fresh j l m least away)) in
    let h = same_rows (codes "H") j t.steps (slice_index_or t.rooms j 0) (λ m l. (tables_in t).held j l m) (λ m l. (tables_in u).held j l m) (λ m l low least most. sym (keeps.held j l m least away)) in
    (λ i. f i ++ h i) ∙ sym (λ i. row_lines (codes "F") j (keeps.steps i) (slice_index_or (keeps.rooms i) j 0 + 1) (λ m l. (tables_in u).fresh j l m) ++ row_lines (codes "H") j (keeps.steps i) (slice_index_or (keeps.rooms i) j 0) (λ m l. (tables_in u).held j l m))

kept_words : (j k : ℕ) (t u : TableRows) → (j ≡ k → ⊥) → KeepsLevels k t u → HaveWords t j → HaveWords u j
kept_words j k t u away keeps has =
    let at : slice_index_or u.rooms j 0 ≡ slice_index_or t.rooms j 0 = ap (λ (r : List ℕ). slice_index_or r j 0) keeps.rooms in
    record {
      fresh = λ m l in_room least most. subst HasWord (sym (keeps.fresh j l m least away)) (has.fresh m l (omega arith) least (omega (arith, keeps.steps)));
      held = λ m l in_room least most. subst HasWord (sym (keeps.held j l m least away)) (has.held m l (omega arith) least (omega (arith, keeps.steps)));
    }

pub level_more : (k : ℕ) (s t u : TableRows) (a b c : Unread) → LevelsSoFar k s t a b → Reads (wants_for t k) (level_lines u k) b c → HaveWords u k → KeepsLevels k t u → LevelsSoFar (k + 1) s u a c
level_more k s t u a b c so next has keeps = record {
  reads =
      let e : 0 + k ≡ k = omega arith in
      let wants : flat_map (wants_for s) (range_with_len 0 k) ++ wants_for t k ≡ flat_map (wants_for s) (range_with_len 0 (k + 1)) =
      ap (λ (w : List (List Want)). flat_map (wants_for s) (range_with_len 0 k) ++ w) (same_wants k s t so.steps so.rooms ∙ ap (wants_for s) (sym e))
      ∙ sym (flat_more (wants_for s) 0 k) ∙ ap (λ (n : ℕ). flat_map (wants_for s) (range_with_len 0 n)) (sym (add-one k)) in
      let before = flat_same (level_lines t) (level_lines u) 0 k (λ j low high. same_level j k t u (λ is. omega arith) keeps) in
      let lines : flat_map (level_lines t) (range_with_len 0 k) ++ level_lines u k ≡ flat_map (level_lines u) (range_with_len 0 (k + 1)) =
      (λ i. before i ++ level_lines u (sym e i))
      ∙ sym (flat_more (level_lines u) 0 k) ∙ ap (λ (n : ℕ). flat_map (level_lines u) (range_with_len 0 n)) (sym (add-one k)) in
      let both = reads_then (flat_map (wants_for s) (range_with_len 0 k)) (wants_for t k) (flat_map (level_lines t) (range_with_len 0 k)) (level_lines u k) a b c so.reads next in
      let P : List (List Want) → Type 0 = λ w. Reads w (flat_map (level_lines u) (range_with_len 0 (k + 1))) a c in
      let Q : List (List (List ℕ)) → Type 0 = λ l. Reads (flat_map (wants_for s) (range_with_len 0 k) ++ wants_for t k) l a c in
      subst P wants (subst Q lines both);
  words = λ j low. elim (cases_lt j k) [
    | inl before ↦ kept_words j k t u (λ is. omega arith) keeps (so.words j before)
    | inr at ↦ let is : k ≡ j = omega arith in subst (λ (i : ℕ). HaveWords u i) is has
  ];
  steps = keeps.steps ∙ so.steps;
  rooms = keeps.rooms ∙ so.rooms;
}

pub flat_split : {A : Type 0} (f : ℕ → List A) (a m n : ℕ) → m < n → (rest : List A) × ((flat_map f (range_with_len a m) ++ f (a + m)) ++ rest ≡ flat_map f (range_with_len a n))
flat_split f a m zero low = absurd (omega arith)
flat_split {A = A} f a zero (suc n) low = (flat_map f (range_with_len (a + 1) n), (let e : a + 0 ≡ a = omega arith in ap (λ (i : ℕ). f i ++ flat_map f (range_with_len (a + 1) n)) e))
flat_split {A = A} f a (suc m) (suc n) low =
    let rest = flat_split {A = A} f (a + 1) m n (omega arith) in
    let e : a + suc m ≡ (a + 1) + m = omega arith in (
      rest.0,
      ap (λ (i : ℕ). ((f a ++ flat_map f (range_with_len (a + 1) m)) ++ f i) ++ rest.0) e
          ∙ ap (λ (l : List A). l ++ rest.0) (append_assoc (f a) (flat_map f (range_with_len (a + 1) m)) (f ((a + 1) + m)))
          ∙ append_assoc (f a) (flat_map f (range_with_len (a + 1) m) ++ f ((a + 1) + m)) rest.0
          ∙ ap (λ (l : List A). f a ++ l) rest.1,
    )

pub levels_wrong : (k n : ℕ) (s t : TableRows) (a b : Unread) (fault : Fault) → k < n → LevelsSoFar k s t a b → IsAmong (wants_for t k) b fault → IsAmong (flat_map (wants_for s) (range_with_len 0 n)) a fault
levels_wrong k n s t a b fault low so wrong =
    let parts = flat_split (wants_for s) 0 k n low in
    let e : 0 + k ≡ k = omega arith in
    let here : wants_for t k ≡ wants_for s (0 + k) = same_wants k s t so.steps so.rooms ∙ ap (wants_for s) (sym e) in
    among (flat_map (wants_for s) (range_with_len 0 k)) (wants_for t k) parts.0 (flat_map (wants_for s) (range_with_len 0 n)) (flat_map (level_lines t) (range_with_len 0 k)) a b fault so.reads
    (ap (λ (w : List (List Want)). (flat_map (wants_for s) (range_with_len 0 k) ++ w) ++ parts.0) here ∙ parts.1) wrong
