-- Disk tables whose lines were read, or one of whose lines has a fault.
use Rattle.std.proofs.Common.{◌≡◌, ℕ, ◌+◌, ◌-◌, ◌<◌, ◌≤◌, List, [], ◌∷◌, ◌++◌, length, map, get_or, take, zero, suc, refl, sym, ap, subst, ◌∙◌, arith}
use Rattle.std.specs.Prelude.{codes}
use Rattle.std.specs.List.{range_with_len, flat_map}
use Rattle.std.proofs.lemmas.List.{get_or-map}
use Rattle.level_book.specs.BookCosts.{BookCosts}
use Rattle.level_book.specs.UnderTable.{Entry, number}
use Rattle.cost_tables.specs.declared.cost.Cost.{Cost}
use Rattle.cost_tables.specs.declared.cost.Cost.TheVariants.{Never}
use Rattle.cost_tables.specs.TableRows.{TableRows, AreFor, FastestTablesFit, fastest, value_of}
use Rattle.cost_tables.specs.Shapes.{AreShaped}
use Rattle.disk_gen.specs.DiskRows.{DiskRows}
use Rattle.line_texts.specs.declared.fault.Fault.{Fault}
use Rattle.cert_text.specs.declared.kind.Kind.TheVariants as kind
use Rattle.cert_text.specs.Words.{texts_of}
use Rattle.cert_text.specs.WordLines.{row_line, level_lines, column_lines}
use Rattle.cert_text.specs.Meaning.{HasWord, HaveDiskText}
use Rattle.cert_text.specs.Grammar.{Want, this_word, row_wants, column_wants, later_wants}
use Rattle.cert_text.specs.Faults.{IsLineFault}
use Rattle.cert_text.specs.ReaderState.{Unread, IsAt, IsAmong}
use Rattle.cert_text.specs.Rows.{Reads, wants_for, cost_word, disk_wants, ReadsDisk}
use Rattle.cert_text.proofs.ReadRows.{listed_costs}
use Rattle.cert_text.proofs.ReadTables.{fault_behind, fault_in_tables}

abbrev fresh_head : List (List ℕ)
fresh_head = codes "Fd" ∷ []

abbrev held_head : List (List ℕ)
held_head = codes "Hd" ∷ []

abbrev end_wants : List (List Want)
end_wants = (this_word (codes "end") ∷ []) ∷ []

-- ---- faults behind the lines of the levels

pub fresh_fault : (n : ℕ) (s : TableRows) (said : List (List (List ℕ))) (a b : Unread) (fault : Fault) → n ≡ s.steps →
    Reads (flat_map (wants_for s) (range_with_len 0 (length s.rooms))) said a b → IsAmong (row_wants (codes "Fd" ∷ []) n ∷ []) b fault → IsAt (IsLineFault (disk_wants s) a.lines a.count) fault
fresh_fault n s said a b fault long reads wrong =
    let W : ℕ → Type 0 = λ n. IsAmong (row_wants fresh_head n ∷ []) b fault in
    fault_behind (flat_map (wants_for s) (range_with_len 0 (length s.rooms))) (column_wants s.steps) said a b fault reads (subst W long wrong (row_wants held_head s.steps ∷ end_wants))

pub held_fault : (n m : ℕ) (s : TableRows) (said x : List (List (List ℕ))) (a b c : Unread) (fault : Fault) → n ≡ s.steps → m ≡ s.steps →
    Reads (flat_map (wants_for s) (range_with_len 0 (length s.rooms))) said a b → Reads (row_wants (codes "Fd" ∷ []) n ∷ []) x b c → IsAmong (row_wants (codes "Hd" ∷ []) m ∷ []) c fault →
    IsAt (IsLineFault (disk_wants s) a.lines a.count) fault
held_fault n m s said x a b c fault long wide reads first wrong =
    let R : ℕ → Type 0 = λ n. Reads (row_wants fresh_head n ∷ []) x b c in
    let W : ℕ → Type 0 = λ n. IsAmong (row_wants held_head n ∷ []) c fault in
    fault_behind (flat_map (wants_for s) (range_with_len 0 (length s.rooms))) (column_wants s.steps) said a b fault reads
    (fault_behind (row_wants fresh_head s.steps ∷ []) (row_wants held_head s.steps ∷ end_wants) x b c fault (subst R long first) (subst W wide wrong end_wants))

pub last_fault : (n m : ℕ) (s : TableRows) (said x y : List (List (List ℕ))) (a b c d : Unread) (fault : Fault) → n ≡ s.steps → m ≡ s.steps →
    Reads (flat_map (wants_for s) (range_with_len 0 (length s.rooms))) said a b → Reads (row_wants (codes "Fd" ∷ []) n ∷ []) x b c → Reads (row_wants (codes "Hd" ∷ []) m ∷ []) y c d →
    IsAt (IsLineFault ((this_word (codes "end") ∷ []) ∷ []) d.lines d.count) fault → IsAt (IsLineFault (disk_wants s) a.lines a.count) fault
last_fault n m s said x y a b c d fault long wide reads first second wrong =
    let R : ℕ → Type 0 = λ n. Reads (row_wants fresh_head n ∷ []) x b c in
    let S : ℕ → Type 0 = λ n. Reads (row_wants held_head n ∷ []) y c d in
    fault_behind (flat_map (wants_for s) (range_with_len 0 (length s.rooms))) (column_wants s.steps) said a b fault reads
    (fault_behind (row_wants fresh_head s.steps ∷ []) (row_wants held_head s.steps ∷ end_wants) x b c fault (subst R long first)
    (fault_behind (row_wants held_head s.steps ∷ []) end_wants y c d fault (subst S wide second) wrong))

-- such a fault, in tables for so many steps and a book
pub disk_fault : (steps : ℕ) (book : BookCosts) (s : TableRows) (a : Unread) (fault : Fault) → AreFor steps (fastest book) s → IsAt (IsLineFault (disk_wants s) a.lines a.count) fault →
    IsAt (IsLineFault (later_wants kind.Disk steps book) a.lines a.count) fault
disk_fault steps book s a fault sized wrong =
    let P : ℕ → Type 0 = λ n. IsAt (IsLineFault (flat_map (wants_for s) (range_with_len 0 (length s.rooms)) ++ column_wants n) a.lines a.count) fault in
    fault_in_tables steps (fastest book) s (column_wants steps) a fault sized (subst P sized.steps_are wrong)

-- ---- all lines were read

entry_is : (x : List Cost) (l : ℕ) → 1 ≤ l → l ≤ length x → get_or (map value_of x) (l - 1) (number 0) ≡ value_of (get_or x (l - 1) Never)
entry_is x l least most = get_or-map value_of x (l - 1) Never (number 0) (omega arith)

column_words : (x : List Cost) (steps : ℕ) → length x ≡ steps → ((i : ℕ) → i < steps → HasWord (value_of (get_or x i Never))) → (l : ℕ) → 1 ≤ l → l ≤ steps → HasWord (get_or (map value_of x) (l - 1) (number 0))
column_words x steps long has l least most = subst HasWord (sym (entry_is x l least (omega (arith, long)))) (has (l - 1) (omega arith))

column_line : (head : List (List ℕ)) (x : List Cost) (steps n : ℕ) → length x ≡ steps → n ≡ steps → head ++ map cost_word x ≡ row_line head n (λ l. get_or (map value_of x) (l - 1) (number 0))
column_line head x steps n long same =
    let f : ℕ → Entry = λ l. get_or (map value_of x) (l - 1) (number 0) in
    let at : (i : ℕ) → i < steps → f (1 + i) ≡ value_of (get_or x i Never) = λ i low.
    let e : (1 + i) - 1 ≡ i = omega arith in
    entry_is x (1 + i) (omega arith) (omega (arith, long)) ∙ ap (λ (j : ℕ). value_of (get_or x j Never)) e in
    sym (ap (λ (n : ℕ). row_line head n f) same ∙ ap (λ (ts : List (List ℕ)). head ++ ts) (listed_costs steps 1 f x long at))

-- what stands in a list that was written from its front on, all of it
kept : (n : ℕ) (x z : List Cost) → length x ≡ n → take n (x ++ z) ≡ x
kept zero [] z long = refl
kept zero (c ∷ x) z long = absurd (omega arith)
kept (suc n) [] z long = absurd (omega arith)
kept (suc n) (c ∷ x) z long = ap (λ (l : List Cost). c ∷ l) (kept n x z (omega arith))

pub parts_are : (t : DiskRows) (u : TableRows) (n m : ℕ) (x y z w : List Cost) → length x ≡ n → length y ≡ m →
    t ≡ record { fast = u; disk_fresh = map value_of (take n (x ++ z)); disk_held = map value_of (take m (y ++ w)) } → t ≡ record { fast = u; disk_fresh = map value_of x; disk_held = map value_of y }
parts_are t u n m x y z w long wide is = is ∙ (λ i. record { fast = u; disk_fresh = map value_of (kept n x z long i); disk_held = map value_of (kept m y w wide i) })

-- the lines, one part after the other
pub all_said : (said : List (List (List ℕ))) (x y : List Cost) (a b c d : Unread) → map texts_of a.lines ≡ said ++ map texts_of b.lines → map texts_of b.lines ≡ (codes "Fd" ∷ map cost_word x) ∷ map texts_of c.lines →
    map texts_of c.lines ≡ (codes "Hd" ∷ map cost_word y) ∷ map texts_of d.lines → map texts_of d.lines ≡ (codes "end" ∷ []) ∷ [] →
    map texts_of a.lines ≡ said ++ (codes "Fd" ∷ map cost_word x) ∷ (codes "Hd" ∷ map cost_word y) ∷ (codes "end" ∷ []) ∷ []
all_said said x y a b c d levels first second last =
    levels ∙ (λ i. said ++ (first ∙ (λ j. (codes "Fd" ∷ map cost_word x) ∷ (second ∙ (λ k. (codes "Hd" ∷ map cost_word y) ∷ last k)) j)) i)

pub disk_done : (steps : ℕ) (book : BookCosts) (s u : TableRows) (x y : List Cost) (t : DiskRows) (a : Unread) → FastestTablesFit steps book → AreFor steps (fastest book) s →
    ReadsDisk a s u x y → AreShaped u → length x ≡ steps → length y ≡ steps → t ≡ record { fast = u; disk_fresh = map value_of x; disk_held = map value_of y } →
    HaveDiskText steps book t × (map texts_of a.lines ≡ flat_map (level_lines t.fast) (range_with_len 0 (length t.fast.rooms)) ++ column_lines t)
disk_done steps book s u x y t a fit sized reads shaped x_long y_long is =
    let r : DiskRows = record { fast = u; disk_fresh = map value_of x; disk_held = map value_of y } in
    let long : length u.rooms ≡ length s.rooms = ap (λ (rooms : List ℕ). length rooms) reads.rooms in
    let u_steps : u.steps ≡ steps = reads.steps ∙ sized.steps_are in
    let P : DiskRows → Type 0 = λ t. HaveDiskText steps book t × (map texts_of a.lines ≡ flat_map (level_lines t.fast) (range_with_len 0 (length t.fast.rooms)) ++ column_lines t) in
    let fd = column_line fresh_head x steps u.steps x_long u_steps in
    let hd = column_line held_head y steps u.steps y_long u_steps in
    let S : ℕ → Type 0 = λ n. (i : ℕ) → i < n → HasWord (value_of (get_or x i Never)) in
    let T : ℕ → Type 0 = λ n. (i : ℕ) → i < n → HasWord (value_of (get_or y i Never)) in
    let has : HaveDiskText steps book r = record {
      fit = fit;
      fast = record {
        sized = record { steps_are = u_steps; level_count = long ∙ sized.level_count; rooms_are = λ k low. ap (λ (rooms : List ℕ). get_or rooms k 0) reads.rooms ∙ sized.rooms_are k low };
        shaped = shaped;
        words = λ k low. reads.levels k (omega (arith, long));
      };
      fresh_long = length-map-is x ∙ x_long;
      held_long = length-map-is y ∙ y_long;
      fresh = column_words x steps x_long (subst S sized.steps_are reads.fresh_words);
      held = column_words y steps y_long (subst T sized.steps_are reads.held_words);
    } in
    subst P (sym is) (has, reads.says ∙ (λ i. flat_map (level_lines u) (range_with_len 0 (sym long i)) ++ fd i ∷ hd i ∷ (codes "end" ∷ []) ∷ []))
  where
    length-map-is : (z : List Cost) → length (map value_of z) ≡ length z
    length-map-is [] = refl
    length-map-is (c ∷ z) = let e = length-map-is z in omega (arith, e)
