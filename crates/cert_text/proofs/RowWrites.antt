-- Lines of entries that are written.
use Rattle.std.proofs.Common.{◌≡◌, ℕ, ◌+◌, ◌<◌, List, [], ◌∷◌, ◌++◌, map, refl, sym, ap, subst, ◌∙◌, arith, append_assoc, add-one, Result, Ok, Err, OnOk, OnErr}
use Rattle.std.specs.Prelude.{codes, decimal, slice_index_or}
use Rattle.std.specs.List.{range_with_len, flat_map}
use Rattle.std.proofs.lemmas.List.Concat.{flat_map-append}
use Rattle.level_book.specs.UnderTable.{Entry}
use Rattle.cost_tables.specs.declared.cost.Cost.{Cost}
use Rattle.cost_tables.specs.TableRows.{TableRows, value_of}
use Rattle.keepers.specs.LineWrites.{Seen, AddsLines, StopsIn}
use Rattle.keepers.proofs.LineSequences.{none_added, added_then, stopped_then, stopped_before}
use Rattle.cert_text.specs.WordLines.{entry_word, row_line, row_lines, level_lines}
use Rattle.cert_text.specs.Canonical.{pieces_from}
use Rattle.cert_text.specs.LineWrites.{Puts, StopsAt, writes}
use Rattle.cert_text.specs.Rows.{cost_word}
use Rattle.cert_text.specs.declared.stretches.Stretches.{Stretches}
use Rattle.cert_text.specs.declared.stretches.Stretches.TheVariants.{Fresh, Held}
use Rattle.cert_text.specs.Stretches.{rows_of}
use Rattle.cert_text.proofs.Ranges.{map_more, flat_more}
use Rattle.cert_text.proofs.ReadRows.{lines_more, split_at, flat_split}
use Rattle.cert_text.proofs.WordWrites.{put_then, stop_then, line_stopped, one_line_ended, one_line_stopped}

-- ---- words

pub put_none : (room : ℕ) (text : List ℕ) (a : Seen) → Puts [] room text room text a a
put_none room text a = record { done = []; parts = λ later. refl; added = none_added a }

-- words behind words, by how the last of them were put
pub put_last : {T E : Type 0} (r : Result T E) (xs ys : List (List ℕ)) (room left last : ℕ) (text after end : List ℕ) (a b c : Seen) → Puts xs room text left after a b →
    OnOk r (Puts ys left after last end b c) → OnOk r (Puts (xs ++ ys) room text last end a c)
put_last (Ok x) xs ys room left last text after end a b c first second = put_then xs ys room left last text after end a b c first second
put_last (Err f) xs ys room left last text after end a b c first second = tt

pub stop_last : {T E : Type 0} (r : Result T E) (xs ys : List (List ℕ)) (room left : ℕ) (text after : List ℕ) (a b c : Seen) → Puts xs room text left after a b →
    OnErr r (StopsAt ys left after b c) → OnErr r (StopsAt (xs ++ ys) room text a c)
stop_last (Ok x) xs ys room left text after a b c first stop = tt
stop_last (Err f) xs ys room left text after a b c first stop = stop_then xs ys room left text after a b c first stop

-- the words behind were not reached
pub stop_before : (xs ys : List (List ℕ)) (room : ℕ) (text : List ℕ) (a b : Seen) → StopsAt xs room text a b → StopsAt (xs ++ ys) room text a b
stop_before xs ys room text a b stop = record {
  stops = λ later.
      let P : List (List ℕ) → Type 0 = λ l. StopsIn (pieces_from room text l) a b in
      subst P (sym (append_assoc xs ys later)) (stop.stops (ys ++ later));
}

-- ---- a line of entries

abbrev pub entry_words : (ℕ → Entry) → ℕ → List (List ℕ)
entry_words f n = map (λ l. entry_word (f l)) (range_with_len 1 n)

entry_words_more : (f : ℕ → Entry) (n : ℕ) → entry_words f n ++ entry_word (f (n + 1)) ∷ [] ≡ entry_words f (n + 1)
entry_words_more f n =
    let e : 1 + n ≡ n + 1 = omega arith in
    sym (ap (entry_words f) (add-one n) ∙ map_more (λ l. entry_word (f l)) 1 n ∙ ap (λ (l : ℕ). entry_words f n ++ entry_word (f l) ∷ []) e)

pub put_entry : (f : ℕ → Entry) (n : ℕ) (cost : Cost) (room left last : ℕ) (text after end : List ℕ) (a b c : Seen) → value_of cost ≡ f (n + 1) → Puts (entry_words f n) room text left after a b →
    Puts (cost_word cost ∷ []) left after last end b c → Puts (entry_words f (n + 1)) room text last end a c
put_entry f n cost room left last text after end a b c is so next =
    let P : List (List ℕ) → Type 0 = λ ws. Puts ws room text last end a c in
    subst P (ap (λ (x : Entry). entry_words f n ++ entry_word x ∷ []) is ∙ entry_words_more f n)
    (put_then (entry_words f n) (cost_word cost ∷ []) room left last text after end a b c so next)

abbrev line_of : List (List ℕ) → List (List ℕ)
line_of ws = pieces_from 16 (codes "#!") ws

-- the words before the entries stopped
pub head_stopped : (head rest : List (List ℕ)) (room : ℕ) (text : List ℕ) (a b : Seen) → room ≡ 16 → text ≡ codes "#!" → StopsAt head room text a b → StopsIn (writes ((head ++ rest) ∷ [])) a b
head_stopped head rest room text a b full start stop = stopped_before (line_of (head ++ rest)) [] a b (line_stopped head rest room text a b full start stop)

-- an entry stopped
pub entry_stopped : (head : List (List ℕ)) (f : ℕ → Entry) (n steps : ℕ) (cost : Cost) (room mid left : ℕ) (text between after : List ℕ) (a b c d : Seen) → n < steps → value_of cost ≡ f (n + 1) →
    room ≡ 16 → text ≡ codes "#!" → Puts head room text mid between a b → Puts (entry_words f n) mid between left after b c → StopsAt (cost_word cost ∷ []) left after c d → StopsIn (writes (row_line head steps f ∷ [])) a d
entry_stopped head f n steps cost room mid left text between after a b c d low is full start first so stop =
    let parts = split_at (λ l. entry_word (f l)) 1 n steps low in
    let e : n + 1 ≡ 1 + n = omega arith in
    let some = entry_words f n ++ cost_word cost ∷ [] in
    let all : (head ++ some) ++ parts.0 ≡ row_line head steps f =
    append_assoc head some parts.0
    ∙ ap (λ (l : List (List ℕ)). head ++ l) (ap (λ (x : Entry). (entry_words f n ++ entry_word x ∷ []) ++ parts.0) (is ∙ ap f e) ∙ parts.1) in
    let there = stop_then head some room mid text between a b d first (stop_then (entry_words f n) (cost_word cost ∷ []) mid left between after b c d so stop) in
    let P : List (List ℕ) → Type 0 = λ ws. StopsIn (line_of ws) a d in
    stopped_before (line_of (row_line head steps f)) [] a d (subst P all (line_stopped (head ++ some) parts.0 room text a d full start there))

-- all entries were put, by how the line ended
pub row_ended : {T E : Type 0} (r : Result T E) (head : List (List ℕ)) (f : ℕ → Entry) (n steps room mid left : ℕ) (text between after : List ℕ) (a b c d : Seen) → n ≡ steps →
    room ≡ 16 → text ≡ codes "#!" → Puts head room text mid between a b → Puts (entry_words f n) mid between left after b c →
    OnOk r (AddsLines (pieces_from left after []) c d) → OnOk r (AddsLines (writes (row_line head steps f ∷ [])) a d)
row_ended r head f n steps room mid left text between after a b c d all full start first so end =
    let P : ℕ → Type 0 = λ n. Puts (entry_words f n) mid between left after b c in
    one_line_ended r (head ++ entry_words f steps) room left text after a c d full start (put_then head (entry_words f steps) room mid left text between after a b c first (subst P all so)) end

pub row_stopped : {T E : Type 0} (r : Result T E) (head : List (List ℕ)) (f : ℕ → Entry) (n steps room mid left : ℕ) (text between after : List ℕ) (a b c d : Seen) → n ≡ steps →
    room ≡ 16 → text ≡ codes "#!" → Puts head room text mid between a b → Puts (entry_words f n) mid between left after b c →
    OnErr r (StopsIn (pieces_from left after []) c d) → OnErr r (StopsIn (writes (row_line head steps f ∷ [])) a d)
row_stopped r head f n steps room mid left text between after a b c d all full start first so end =
    let P : ℕ → Type 0 = λ n. Puts (entry_words f n) mid between left after b c in
    one_line_stopped r (head ++ entry_words f steps) room left text after a c d full start (put_then head (entry_words f steps) room mid left text between after a b c first (subst P all so)) end

-- ---- lines behind lines

both_writes : (x y : List (List (List ℕ))) → writes x ++ writes y ≡ writes (x ++ y)
both_writes x y = sym (flat_map-append (pieces_from 16 (codes "#!")) x y)

pub written_then : (x y : List (List (List ℕ))) (a b c : Seen) → AddsLines (writes x) a b → AddsLines (writes y) b c → AddsLines (writes (x ++ y)) a c
written_then x y a b c first second =
    let P : List (List ℕ) → Type 0 = λ l. AddsLines l a c in
    subst P (both_writes x y) (added_then (writes x) (writes y) a b c first second)

-- lines in the midst stopped
pub writes_stopped : (x y z whole : List (List (List ℕ))) (a b c : Seen) → (x ++ y) ++ z ≡ whole → AddsLines (writes x) a b → StopsIn (writes y) b c → StopsIn (writes whole) a c
writes_stopped x y z whole a b c all first stop =
    let e : (writes x ++ writes y) ++ writes z ≡ writes whole = ap (λ (l : List (List ℕ)). l ++ writes z) (both_writes x y) ∙ both_writes (x ++ y) z ∙ ap writes all in
    let P : List (List ℕ) → Type 0 = λ l. StopsIn l a c in
    subst P e (stopped_before (writes x ++ writes y) (writes z) a c (stopped_then (writes x) (writes y) a b c first stop))

-- by how the last of them were written
pub last_written : {T E : Type 0} (r : Result T E) (x y whole : List (List (List ℕ))) (a b c : Seen) → x ++ y ≡ whole → AddsLines (writes x) a b → OnOk r (AddsLines (writes y) b c) → OnOk r (AddsLines (writes whole) a c)
last_written (Ok t) x y whole a b c all first second =
    let P : List (List (List ℕ)) → Type 0 = λ l. AddsLines (writes l) a c in
    subst P all (written_then x y a b c first second)
last_written (Err f) x y whole a b c all first second = tt

pub last_stopped : {T E : Type 0} (r : Result T E) (x y whole : List (List (List ℕ))) (a b c : Seen) → x ++ y ≡ whole → AddsLines (writes x) a b → OnErr r (StopsIn (writes y) b c) → OnErr r (StopsIn (writes whole) a c)
last_stopped (Ok t) x y whole a b c all first stop = tt
last_stopped (Err f) x y whole a b c all first stop =
    let e : writes x ++ writes y ≡ writes whole = both_writes x y ∙ ap writes all in
    let P : List (List ℕ) → Type 0 = λ l. StopsIn l a c in
    subst P e (stopped_then (writes x) (writes y) a b c first stop)

-- ---- the lines of a level

pub no_rows : (letter : List ℕ) (k steps : ℕ) (e : ℕ → ℕ → Entry) (a : Seen) → AddsLines (writes (row_lines letter k steps 0 e)) a a
unfolding row_lines
no_rows letter k steps e a = none_added a

pub rows_more : (letter : List ℕ) (k steps m : ℕ) (e : ℕ → ℕ → Entry) (a b c : Seen) → AddsLines (writes (row_lines letter k steps m e)) a b →
    AddsLines (writes (row_line (letter ∷ decimal k ∷ decimal m ∷ []) steps (e m) ∷ [])) b c → AddsLines (writes (row_lines letter k steps (m + 1) e)) a c
rows_more letter k steps m e a b c so next =
    let P : List (List (List ℕ)) → Type 0 = λ l. AddsLines (writes l) a c in
    subst P (sym (lines_more letter k steps m e)) (written_then (row_lines letter k steps m e) (row_line (letter ∷ decimal k ∷ decimal m ∷ []) steps (e m) ∷ []) a b c so next)

pub rows_stopped : (letter : List ℕ) (k steps m n : ℕ) (e : ℕ → ℕ → Entry) (a b c : Seen) → m < n → AddsLines (writes (row_lines letter k steps m e)) a b →
    StopsIn (writes (row_line (letter ∷ decimal k ∷ decimal m ∷ []) steps (e m) ∷ [])) b c → StopsIn (writes (row_lines letter k steps n e)) a c
unfolding row_lines
rows_stopped letter k steps m n e a b c low so stop =
    let line : ℕ → List (List ℕ) = λ m. row_line (letter ∷ decimal k ∷ decimal m ∷ []) steps (e m) in
    let parts = split_at line 0 m n low in
    let is : m ≡ 0 + m = omega arith in
    writes_stopped (map line (range_with_len 0 m)) (line m ∷ []) parts.0 (map line (range_with_len 0 n)) a b c
    (ap (λ (i : ℕ). (map line (range_with_len 0 m) ++ line i ∷ []) ++ parts.0) is ∙ parts.1) so stop

pub last_row : {T E : Type 0} (r : Result T E) (letter : List ℕ) (k steps m : ℕ) (e : ℕ → ℕ → Entry) (a b c : Seen) → AddsLines (writes (row_lines letter k steps m e)) a b →
    OnOk r (AddsLines (writes (row_line (letter ∷ decimal k ∷ decimal m ∷ []) steps (e m) ∷ [])) b c) → OnOk r (AddsLines (writes (row_lines letter k steps (m + 1) e)) a c)
last_row r letter k steps m e a b c so next =
    last_written r (row_lines letter k steps m e) (row_line (letter ∷ decimal k ∷ decimal m ∷ []) steps (e m) ∷ []) (row_lines letter k steps (m + 1) e) a b c (sym (lines_more letter k steps m e)) so next

pub last_row_stopped : {T E : Type 0} (r : Result T E) (letter : List ℕ) (k steps m : ℕ) (e : ℕ → ℕ → Entry) (a b c : Seen) → AddsLines (writes (row_lines letter k steps m e)) a b →
    OnErr r (StopsIn (writes (row_line (letter ∷ decimal k ∷ decimal m ∷ []) steps (e m) ∷ [])) b c) → OnErr r (StopsIn (writes (row_lines letter k steps (m + 1) e)) a c)
last_row_stopped r letter k steps m e a b c so next =
    last_stopped r (row_lines letter k steps m e) (row_line (letter ∷ decimal k ∷ decimal m ∷ []) steps (e m) ∷ []) (row_lines letter k steps (m + 1) e) a b c (sym (lines_more letter k steps m e)) so next

-- each number of free slots below the most has a line
pub below_rows : (s : Stretches) (t : TableRows) (k m : ℕ) → m < slice_index_or t.rooms k 0 → m < rows_of s t k
below_rows Fresh t k m low = omega (arith, low)
below_rows Held t k m low = low

-- ---- all levels

pub levels_more : (t : TableRows) (k : ℕ) (a b c : Seen) → AddsLines (writes (flat_map (level_lines t) (range_with_len 0 k))) a b → AddsLines (writes (level_lines t k)) b c →
    AddsLines (writes (flat_map (level_lines t) (range_with_len 0 (k + 1)))) a c
levels_more t k a b c so next =
    let e : k ≡ 0 + k = omega arith in
    let all : flat_map (level_lines t) (range_with_len 0 k) ++ level_lines t k ≡ flat_map (level_lines t) (range_with_len 0 (k + 1)) =
    ap (λ (j : ℕ). flat_map (level_lines t) (range_with_len 0 k) ++ level_lines t j) e ∙ sym (flat_more (level_lines t) 0 k) ∙ ap (λ (n : ℕ). flat_map (level_lines t) (range_with_len 0 n)) (sym (add-one k)) in
    let P : List (List (List ℕ)) → Type 0 = λ l. AddsLines (writes l) a c in
    subst P all (written_then (flat_map (level_lines t) (range_with_len 0 k)) (level_lines t k) a b c so next)

pub levels_stopped : (t : TableRows) (k n : ℕ) (a b c : Seen) → k < n → AddsLines (writes (flat_map (level_lines t) (range_with_len 0 k))) a b → StopsIn (writes (level_lines t k)) b c →
    StopsIn (writes (flat_map (level_lines t) (range_with_len 0 n))) a c
levels_stopped t k n a b c low so stop =
    let parts = flat_split (level_lines t) 0 k n low in
    let e : k ≡ 0 + k = omega arith in
    writes_stopped (flat_map (level_lines t) (range_with_len 0 k)) (level_lines t k) parts.0 (flat_map (level_lines t) (range_with_len 0 n)) a b c
    (ap (λ (j : ℕ). (flat_map (level_lines t) (range_with_len 0 k) ++ level_lines t j) ++ parts.0) e ∙ parts.1) so stop
