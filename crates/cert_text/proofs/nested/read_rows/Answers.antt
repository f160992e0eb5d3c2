use Rattle.std.proofs.Common.{◌≡◌, ℕ, List, [], ◌∷◌, length, map, subst, arith}
use Rattle.std.specs.Prelude.{decimal}
use Rattle.std.proofs.lemmas.Result.{err_from_is_err_and}
use Rattle.cert_text.specs.Grammar.{row_wants}
use Rattle.cert_text.specs.ReaderState.{IsAmong}
use Rattle.cert_text.specs.Rows.{Reads, cost_word}
use Rattle.cert_text.specs.Stretches.{letter_of, entries_of}
use Rattle.cert_text.proofs.ReadRows.{no_row, row_more, row_wrong, keeps_all, keeps_more}
use Rattle.cert_text.proofs.nested.read_rows.Goals as goal

pub loop-m-init : goal.loop-m-init
loop-m-init c = record {
  rows = no_row (letter_of c.args.stretches) c.args.k c.args.tables.now.steps (entries_of c.args.stretches c.args.tables.now c.args.k) c.args.reader.now;
  keeps = keeps_all c.args.k c.args.stretches c.args.tables.now;
}

pub loop-m-preserved : goal.loop-m-preserved
loop-m-preserved c =
    let k = c.args.k in let m = c.loop-m.m in let s = c.args.stretches in
    let row = c.read_row.new.row in
    let same : length c.loop-m.row ≡ length row = omega arith in
    let long : length row ≡ c.args.tables.now.steps = omega (arith, c.loop-m.invariant.keeps.steps, c.requires.row) in
    let P : List ℕ → ℕ → Type 0 = λ letter n. Reads (row_wants (letter ∷ decimal k ∷ decimal m ∷ []) n ∷ []) ((letter ∷ decimal k ∷ decimal m ∷ map cost_word row) ∷ []) c.loop-m.reader c.read_row.new.reader in
    record {
      rows = row_more (letter_of s) k c.args.tables.now.steps m (entries_of s c.loop-m.tables k) (entries_of s c.put_row.new.tables k) row c.args.reader.now c.loop-m.reader c.read_row.new.reader
          c.loop-m.invariant.rows long
          (subst (P (letter_of s)) same (subst (λ (letter : List ℕ). P letter (length c.loop-m.row)) c.letter.ensures.value c.in_ok-read_row.ensures.0))
          (λ i low. c.in_ok-read_row.ensures.1 i (omega arith))
          (λ n l low least. c.put_row.ensures.keeps.others k l n least (λ at. let is : n ≡ m = at.1 in omega arith))
          (λ i low. c.put_row.ensures.entries i low);
      keeps = keeps_more k m s c.args.tables.now c.loop-m.tables c.put_row.new.tables c.loop-m.invariant.keeps c.put_row.ensures.keeps;
    }

pub returns-in_err-read_row : goal.returns-in_err-read_row
returns-in_err-read_row c =
    let p = err_from_is_err_and c.from_residual.result c.from_residual.ensures.1 in
    let k = c.args.k in let m = c.loop-m.m in let s = c.args.stretches in
    let long : length c.loop-m.row ≡ c.args.tables.now.steps = omega (arith, c.loop-m.invariant.keeps.steps, c.requires.row) in
    let P : List ℕ → ℕ → Type 0 = λ letter n. IsAmong (row_wants (letter ∷ decimal k ∷ decimal m ∷ []) n ∷ []) c.loop-m.reader c.in_err-read_row.field-0.0 in
    rw (p.1, p.2) (row_wrong (letter_of s) k c.args.tables.now.steps m _ (entries_of s c.loop-m.tables k) c.args.reader.now c.loop-m.reader _ (omega arith) c.loop-m.invariant.rows
    (subst (P (letter_of s)) long (subst (λ (letter : List ℕ). P letter (length c.loop-m.row)) c.letter.ensures.value c.in_err-read_row.ensures)))
