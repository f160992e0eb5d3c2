use Rattle.std.proofs.Common.{◌≡◌, ℕ, ◌+◌, ◌^◌, get_or, arith, inl, inr, sym, ap, ◌∙◌, subst}
use Rattle.std.proofs.lemmas.Bool.{cases_lt}
use Rattle.cost_tables.specs.Entries.{entry}
use Rattle.cost_tables.specs.TableRows.{tables_in, value_of}
use Rattle.cost_tables.proofs.RowExtension.{pushed, All-pushed}
use Rattle.disk_gen.proofs.disk_tables.fast_column.Goals as goal

pub number_of-requires : goal.number_of-requires
number_of-requires c = λ v is.
    let l = c.loop-r.r + 1 in
    c.requires.low l v (omega arith) (omega arith) (sym (ap (λ m. (tables_in c.args.fast.now).fresh 0 l m) c.room-room.ensures) ∙ sym c.fresh.ensures ∙ ap value_of is)

pub loop-r-preserved : goal.loop-r-preserved
loop-r-preserved c =
    let rows = c.args.fast.now in let r = c.loop-r.r in let x = c.number_of.result in
    let old = c.loop-r.column.items in let new = c.push.new.self.items in let before = c.loop-r.invariant in
    let added = pushed old new x r c.in_ok-push.ensures.items before.count in
    let here : entry x ≡ (tables_in rows).fresh 0 (r + 1) (get_or rows.rooms 0 0) = c.number_of.ensures.value ∙ c.fresh.ensures ∙ ap (λ m. (tables_in rows).fresh 0 (r + 1) m) c.room-room.ensures in
    record {
      count = added.longer;
      low = All-pushed (2 ^ 61) old new x c.in_ok-push.ensures.items before.low c.number_of.ensures.low;
      value = λ q lt.
          let P : ℕ → Type 0 = λ q. entry (get_or new q 0) ≡ (tables_in rows).fresh 0 (q + 1) (get_or rows.rooms 0 0) in
          elim (cases_lt q r) [ inl h ↦ ap entry (added.before q h) ∙ before.value q h | inr h ↦ let e : r ≡ q = omega arith in subst P e (ap entry added.here ∙ here) ];
    }
