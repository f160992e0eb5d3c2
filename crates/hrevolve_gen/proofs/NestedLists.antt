-- A list that is read from the tables is nested, and costs the top entry.
use Rattle.std.proofs.Common.{◌≡◌, ℕ, zero, suc, ◌+◌, ◌-◌, ◌<◌, true, false, List, [], ◌∷◌, length, refl, sym, ap, ◌∙◌, subst, arith, inl, inr}
use Rattle.std.specs.FinSet as set
use Rattle.std.specs.Ordering.{nat_cmp}
use Rattle.std.proofs.lemmas.Bool.{cases_lt, le-ltb, lt-ltb}
use Rattle.std.proofs.lemmas.List.{get_or-map, get_or_past, length-map}
use Rattle.plan_types.specs.declared.action.Action.{Action}
use Rattle.plan_types.specs.declared.action.Action.TheVariants.{EndReverse}
use Rattle.level_book.specs.declared.book.Slots.{Slots}
use Rattle.level_book.specs.declared.book.Slots.TheVariants.{Count}
use Rattle.level_book.specs.BookCosts.{BookCosts, slots_of, room}
use Rattle.level_book.specs.Configuration.{start, held_on}
use Rattle.level_book.specs.CostFold.{cost}
use Rattle.level_book.specs.Valid.{Valid}
use Rattle.level_book.specs.NestedClass.{Nested, IsNestedFrom}
use Rattle.level_book.specs.UnderTable.{Tables, top_entry, number}
use Rattle.hrevolve_gen.specs.HRevolveList.{Part, actions, Reads, whole, IsWritten}
use Rattle.hrevolve_gen.proofs.Costs.{cost_end_forward, cost_end_reverse, cost_nothing}
use Rattle.hrevolve_gen.proofs.HeldImages.{leads_on, At}
use Rattle.hrevolve_gen.proofs.PartCosts.{part_cost}
use Rattle.hrevolve_gen.proofs.PartNested.{part_nested}
use Rattle.hrevolve_gen.proofs.PartLeads.{part_leads}

module _ (steps : ℕ) (book : BookCosts) where
  nothing_held : (k : ℕ) → held_on (start steps (slots_of book)) k ≡ set.empty
  nothing_held k = elim (cases_lt k (length (slots_of book))) [
    | inl within ↦ get_or-map (λ (_ : Slots). set.empty {R = nat_cmp}) (slots_of book) k (Count 0) set.empty within
    | inr past ↦ get_or_past _ k set.empty (omega (arith, length-map (slots_of book) (λ (_ : Slots). set.empty {R = nat_cmp})))
  ]

  pub at_start : At steps book (start steps (slots_of book)) [] steps
  at_start = record {
    ended = refl;
    tape = refl;
    left = refl;
    forward_ended = sym (le-ltb steps steps (omega arith));
    holds = record {
      wide = length-map (slots_of book) (λ (_ : Slots). set.empty {R = nat_cmp});
      count = λ j. ap (λ s. set.len s) (nothing_held j) ∙ set.len-empty nat_cmp;
      member = λ j n. ap (λ s. set.contains s n) (nothing_held j) ∙ set.contains-empty nat_cmp n;
    };
  }

  pub whole_valid : (t : Tables) (last : ℕ) (p : Part) → 0 < steps → last < length book.levels → Reads steps book t false last steps (room book last steps) p → Valid steps (slots_of book) (whole steps last p)
  whole_valid t last p some known reads =
      let same : steps ≡ 0 + steps = omega arith in
      let P : ℕ → Type 0 = λ n. At steps book (start steps (slots_of book)) [] n in
      let to = part_leads steps book t p false last 0 steps (room book last steps) [] (start steps (slots_of book)) reads tt (omega (arith, length-map book.levels (λ level. level.slots))) (omega arith)
      (subst P same at_start) (omega arith, refl) in
      let d = to.0 in let e = record d { ended = true } in (
        e,
        leads_on steps (slots_of book) (actions steps false last 0 p) (EndReverse ∷ []) (start steps (slots_of book)) d e to.1
            (e, (to.2.ended, to.2.forward_ended ∙ lt-ltb 0 steps some, to.2.left, refl), refl),
        refl,
      )

  pub whole_nested : (t : Tables) (last : ℕ) (p : Part) → 0 < steps → last < length book.levels → Reads steps book t false last steps (room book last steps) p → Nested steps (slots_of book) (whole steps last p)
  whole_nested t last p some known reads =
      let same : 0 + steps ≡ steps = omega arith in
      let P : ℕ → Type 0 = λ n. IsNestedFrom n [] (whole steps last p) in
      (whole_valid t last p some known reads, subst P same (part_nested steps book t p false last 0 steps (room book last steps) [] (EndReverse ∷ []) reads tt tt))

-- the list costs the top entry
pub written_costs : (steps : ℕ) (book : BookCosts) (t : Tables) (list : List Action) (v : ℕ) → IsWritten steps book t list → top_entry steps book t ≡ number v → cost list book ≡ v
written_costs zero book t list v is e =
    let value : 0 ≡ v = cc in
    ap (λ (list : List Action). cost list book) is ∙ cost_end_forward (EndReverse ∷ []) book ∙ cost_end_reverse [] book ∙ cost_nothing book ∙ value
written_costs (suc n) book t list v is e =
    ap (λ (list : List Action). cost list book) is.2
    ∙ part_cost (suc n) book t is.0 false (length book.levels - 1) 0 (suc n) (room book (length book.levels - 1) (suc n)) v (EndReverse ∷ []) is.1 e
    ∙ ap (λ n. v + n) (cost_end_reverse [] book ∙ cost_nothing book) ∙ (let same : v + 0 ≡ v = omega arith in same)

pub written_nested : (steps : ℕ) (book : BookCosts) (t : Tables) (list : List Action) → 0 < length book.levels → IsWritten steps book t list → Nested steps (slots_of book) list
written_nested zero book t list some is =
    let P : List Action → Type 0 = λ list. Nested 0 (slots_of book) list in
    let c = start 0 (slots_of book) in
    let c1 = record c { forward_ended = true } in
    let c2 = record c1 { ended = true } in
    subst P (sym is) ((c2, (c1, (refl, refl, refl, refl), (c2, (refl, refl, refl, refl), refl)), refl), tt)
written_nested (suc n) book t list some is =
    let P : List Action → Type 0 = λ list. Nested (suc n) (slots_of book) list in
    subst P (sym is.2) (whole_nested (suc n) book t (length book.levels - 1) is.0 (omega arith) (omega arith) is.1)
