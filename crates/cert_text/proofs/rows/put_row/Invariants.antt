use Rattle.std.proofs.Common.{◌≡◌, ◌+◌, ◌<◌, ℕ, get_or}
use Rattle.cost_tables.specs.declared.cost.Cost.TheVariants.{Never}
use Rattle.cost_tables.specs.TableRows.{value_of}
use Rattle.cert_text.specs.Rows.{Keeps}
use Rattle.cert_text.specs.Stretches.{entries_of}
use Rattle.cert_text.proofs.rows.put_row.Given as goal

-- the entries so far stand in the tables
abbrev pub invariant-loop-i : goal.invariant-loop-i
invariant-loop-i l = record {
  keeps : Keeps l.stretches (λ i j n. (i ≡ l.k) × (n ≡ l.m)) l.initial.tables l.tables;
  entries : (j : ℕ) → j < l.i → entries_of l.stretches l.tables l.k l.m (j + 1) ≡ value_of (get_or l.row j Never);
}
