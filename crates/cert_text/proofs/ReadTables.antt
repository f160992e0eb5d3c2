-- Tables whose lines were read, or one of whose lines has a fault.
use Rattle.std.proofs.Common.{◌≡◌, ℕ, ◌+◌, ◌<◌, List, ◌++◌, length, ap, subst, ◌∙◌, arith}
use Rattle.std.specs.Prelude.{codes}
use Rattle.std.specs.List.{range_with_len, flat_map}
use Rattle.level_book.specs.BookCosts.{BookCosts}
use Rattle.cost_tables.specs.TableRows.{TableRows, AreFor}
use Rattle.line_texts.specs.declared.fault.Fault.{Fault}
use Rattle.line_texts.specs.declared.fault.Fault.TheVariants.{At, Memory}
use Rattle.cert_text.specs.Grammar.{Want, rows_wants, level_wants}
use Rattle.cert_text.specs.Faults.{IsLineFault}
use Rattle.cert_text.specs.ReaderState.{Unread, IsAt, IsAmong}
use Rattle.cert_text.specs.Rows.{Reads, wants_for}
use Rattle.cert_text.proofs.Ranges.{flat_same}

level_wanted : (steps : ℕ) (book : BookCosts) (t : TableRows) (k : ℕ) → AreFor steps book t → k < length book.levels → wants_for t k ≡ level_wants steps book k
unfolding wants_for level_wants
level_wanted steps book t k sized low =
    let r = sized.rooms_are k low in
    λ i. rows_wants (codes "F") k (sized.steps_are i) (r i + 1) ++ rows_wants (codes "H") k (sized.steps_are i) (r i)

levels_wanted : (steps : ℕ) (book : BookCosts) (t : TableRows) → AreFor steps book t →
    flat_map (wants_for t) (range_with_len 0 (length t.rooms)) ≡ flat_map (level_wants steps book) (range_with_len 0 (length book.levels))
levels_wanted steps book t sized =
    ap (λ (n : ℕ). flat_map (wants_for t) (range_with_len 0 n)) sized.level_count
    ∙ flat_same (wants_for t) (level_wants steps book) 0 (length book.levels) (λ k low high. level_wanted steps book t k sized (omega arith))

-- a fault in lines where those of the levels are wanted first
pub fault_in_tables : (steps : ℕ) (book : BookCosts) (t : TableRows) (last : List (List Want)) (a : Unread) (fault : Fault) → AreFor steps book t →
    IsAt (IsLineFault (flat_map (wants_for t) (range_with_len 0 (length t.rooms)) ++ last) a.lines a.count) fault →
    IsAt (IsLineFault (flat_map (level_wants steps book) (range_with_len 0 (length book.levels)) ++ last) a.lines a.count) fault
fault_in_tables steps book t last a fault sized wrong =
    let P : List (List Want) → Type 0 = λ w. IsAt (IsLineFault (w ++ last) a.lines a.count) fault in
    subst P (levels_wanted steps book t sized) wrong

-- a fault in the lines of the levels, whatever is wanted behind them
pub fault_in_levels : (steps : ℕ) (book : BookCosts) (t : TableRows) (last : List (List Want)) (a : Unread) (fault : Fault) → AreFor steps book t →
    IsAmong (flat_map (wants_for t) (range_with_len 0 (length t.rooms))) a fault →
    IsAt (IsLineFault (flat_map (level_wants steps book) (range_with_len 0 (length book.levels)) ++ last) a.lines a.count) fault
fault_in_levels steps book t last a fault sized wrong = fault_in_tables steps book t last a fault sized (wrong last)

-- a fault behind lines
pub fault_behind : (wants last : List (List Want)) (said : List (List (List ℕ))) (a b : Unread) (fault : Fault) → Reads wants said a b → IsAt (IsLineFault last b.lines b.count) fault → IsAt (IsLineFault (wants ++ last) a.lines a.count) fault
fault_behind wants last said a b (At r l c) reads wrong = reads.passes.fault last r l c wrong
fault_behind wants last said a b Memory reads wrong = absurd wrong

-- a fault behind those of the levels
pub fault_at_end : (steps : ℕ) (book : BookCosts) (t : TableRows) (last : List (List Want)) (said : List (List (List ℕ))) (a b : Unread) (fault : Fault) → AreFor steps book t →
    Reads (flat_map (wants_for t) (range_with_len 0 (length t.rooms))) said a b → IsAt (IsLineFault last b.lines b.count) fault →
    IsAt (IsLineFault (flat_map (level_wants steps book) (range_with_len 0 (length book.levels)) ++ last) a.lines a.count) fault
fault_at_end steps book t last said a b fault sized reads wrong =
    fault_in_tables steps book t last a fault sized (fault_behind (flat_map (wants_for t) (range_with_len 0 (length t.rooms))) last said a b fault reads wrong)
