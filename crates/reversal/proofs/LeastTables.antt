-- The greatest tables for so many steps and a book are one.
use Rattle.std.proofs.Common.{◌≡◌, ℕ, ◌+◌, ◌-◌, ◌<◌, ◌≤◌, length, get_or, sym, ◌∙◌, subst, arith}
use Rattle.level_book.specs.BookCosts.{BookCosts, room}
use Rattle.level_book.specs.UnderTable.{number, IsGreatest}
use Rattle.level_book.specs.DiskUnderTable.{IsGreatestDisk}
use Rattle.cost_tables.specs.TableRows.{TableRows, AreFor, fastest, tables_in}
use Rattle.cost_tables.proofs.FastestLevel.{first_only, same_room}
use Rattle.hrevolve_gen.proofs.PlanUniqueness.{same_entry}
use Rattle.disk_gen.specs.DiskRows.{DiskRows, disk_tables_in}
use Rattle.cert_text.proofs.TableEquality.{same_by, one_table}
use Rattle.reversal.specs.Plans.{AreTablesFor, AreDiskTablesFor}

-- tables for the same steps and book have the same rooms
same_rooms : (steps : ℕ) (b : BookCosts) (s t : TableRows) → AreFor steps b s → AreFor steps b t → s.rooms ≡ t.rooms
same_rooms steps b s t x y =
    same_by 0 s.rooms t.rooms (x.level_count ∙ sym y.level_count)
    (λ k low. let known : k < length b.levels = omega (arith, low, x.level_count) in x.rooms_are k known ∙ sym (y.rooms_are k known))

pub nested_same : (steps : ℕ) (b : BookCosts) (s t : TableRows) → AreTablesFor steps b s → IsGreatest steps b (tables_in s) → AreTablesFor steps b t → IsGreatest steps b (tables_in t) → s ≡ t
nested_same steps b s t x g y h =
    let xs = x.0 in
    one_table s t x.1 y.1 (record {
      steps = xs.steps_are ∙ sym y.0.steps_are;
      rooms = same_rooms steps b s t xs y.0;
      fresh = λ k m l low free one le.
          let known : k < length b.levels = omega (arith, low, xs.level_count) in
          let few : l ≤ steps = omega (arith, le, xs.steps_are) in
          let within : m ≤ room b k steps = omega (arith, free, xs.rooms_are k known) in
          same_entry ((tables_in s).fresh k l m) ((tables_in t).fresh k l m) (h.fresh (tables_in s) g.under k l m known one few within) (g.fresh (tables_in t) h.under k l m known one few within);
      held = λ k m l low free one le.
          let known : k < length b.levels = omega (arith, low, xs.level_count) in
          let few : l ≤ steps = omega (arith, le, xs.steps_are) in
          let within : m < room b k steps = omega (arith, free, xs.rooms_are k known) in
          same_entry ((tables_in s).held k l m) ((tables_in t).held k l m) (h.held (tables_in s) g.under k l m known one few within) (g.held (tables_in t) h.under k l m known one few within);
    })

module _ (steps : ℕ) (b : BookCosts) (s t : DiskRows) (x : AreDiskTablesFor steps b s) (g : IsGreatestDisk steps b (disk_tables_in s)) (y : AreDiskTablesFor steps b t) (h : IsGreatestDisk steps b (disk_tables_in t)) where
  same_fast : s.fast ≡ t.fast
  same_fast =
      let xs = x.0 in
      one_table s.fast t.fast x.1.fast y.1.fast (record {
        steps = xs.steps_are ∙ sym y.0.steps_are;
        rooms = same_rooms steps (fastest b) s.fast t.fast xs y.0;
        fresh = λ k m l low free one le.
            let known : k < length (fastest b).levels = omega (arith, low, xs.level_count) in
            let first : 0 ≡ k = first_only b k known in
            let few : l ≤ steps = omega (arith, le, xs.steps_are) in
            let zero_known : 0 < length (fastest b).levels = omega (arith, known) in
            let within : m ≤ room b 0 steps = let f : m ≤ get_or s.fast.rooms 0 0 = subst (λ (n : ℕ). m ≤ get_or s.fast.rooms n 0) (sym first) free in omega (arith, f, xs.rooms_are 0 zero_known, same_room b steps) in
            subst (λ (n : ℕ). (tables_in s.fast).fresh n l m ≡ (tables_in t.fast).fresh n l m) first
            (same_entry ((tables_in s.fast).fresh 0 l m) ((tables_in t.fast).fresh 0 l m) (h.fresh (disk_tables_in s) g.under l m one few within) (g.fresh (disk_tables_in t) h.under l m one few within));
        held = λ k m l low free one le.
            let known : k < length (fastest b).levels = omega (arith, low, xs.level_count) in
            let first : 0 ≡ k = first_only b k known in
            let few : l ≤ steps = omega (arith, le, xs.steps_are) in
            let zero_known : 0 < length (fastest b).levels = omega (arith, known) in
            let within : m < room b 0 steps = let f : m < get_or s.fast.rooms 0 0 = subst (λ (n : ℕ). m < get_or s.fast.rooms n 0) (sym first) free in omega (arith, f, xs.rooms_are 0 zero_known, same_room b steps) in
            subst (λ (n : ℕ). (tables_in s.fast).held n l m ≡ (tables_in t.fast).held n l m) first
            (same_entry ((tables_in s.fast).held 0 l m) ((tables_in t.fast).held 0 l m) (h.held (disk_tables_in s) g.under l m one few within) (g.held (disk_tables_in t) h.under l m one few within));
      })

  same_fresh : s.disk_fresh ≡ t.disk_fresh
  same_fresh =
      same_by (number 0) s.disk_fresh t.disk_fresh (x.1.fresh_long ∙ x.0.steps_are ∙ sym (y.1.fresh_long ∙ y.0.steps_are))
      (λ k low.
      let e : (k + 1) - 1 ≡ k = omega arith in
      let few : k + 1 ≤ steps = omega (arith, low, x.1.fresh_long, x.0.steps_are) in
      subst (λ (n : ℕ). get_or s.disk_fresh n (number 0) ≡ get_or t.disk_fresh n (number 0)) e
      (same_entry ((disk_tables_in s).disk_fresh (k + 1)) ((disk_tables_in t).disk_fresh (k + 1)) (h.disk_fresh (disk_tables_in s) g.under (k + 1) (omega arith) few) (g.disk_fresh (disk_tables_in t) h.under (k + 1) (omega arith) few)))

  same_held : s.disk_held ≡ t.disk_held
  same_held =
      same_by (number 0) s.disk_held t.disk_held (x.1.held_long ∙ x.0.steps_are ∙ sym (y.1.held_long ∙ y.0.steps_are))
      (λ k low.
      let e : (k + 1) - 1 ≡ k = omega arith in
      let few : k + 1 ≤ steps = omega (arith, low, x.1.held_long, x.0.steps_are) in
      subst (λ (n : ℕ). get_or s.disk_held n (number 0) ≡ get_or t.disk_held n (number 0)) e
      (same_entry ((disk_tables_in s).disk_held (k + 1)) ((disk_tables_in t).disk_held (k + 1)) (h.disk_held (disk_tables_in s) g.under (k + 1) (omega arith) few) (g.disk_held (disk_tables_in t) h.under (k + 1) (omega arith) few)))

  pub disk_same : s ≡ t
  disk_same = λ i. record { fast = same_fast i; disk_fresh = same_fresh i; disk_held = same_held i }
