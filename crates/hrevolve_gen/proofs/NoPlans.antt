-- Where there is no list.
use Rattle.std.proofs.Common.{◌≡◌, ◌≢◌, ℕ, zero, suc, ◌-◌, ◌<◌, false, List, [], ◌∷◌, ◌++◌, length, refl, ap, ◌∙◌, subst, arith, inl, inr}
use Rattle.std.proofs.lemmas.Bool.{cases_lt}
use Rattle.level_book.specs.BookCosts.{BookCosts, room}
use Rattle.level_book.specs.UnderTable.{Entry, number, never, Tables, top_entry}
use Rattle.cost_tables.specs.ExactTables.{IsExact}
use Rattle.plan_types.specs.declared.action.Action.{Action}
use Rattle.plan_types.specs.declared.action.Action.TheVariants.{EndReverse}
use Rattle.hrevolve_gen.specs.Plans.{HasNoNestedPlan}
use Rattle.hrevolve_gen.specs.HRevolveList.{Part, actions, Reads, whole, IsWritten}

-- an entry that can't but be Never
pub never_of : (e : Entry) → (e ≢ never → ⊥) → e ≡ never
never_of (number v) h = absurd (h (λ e. cc))
never_of never h = refl

pub top_none : (steps : ℕ) (book : BookCosts) (t : Tables) → IsExact steps book t → 0 < length book.levels → top_entry steps book t ≡ never → HasNoNestedPlan steps book
top_none zero book t exact some e = cc
top_none (suc n) book t exact some e =
    let last = length book.levels - 1 in
    let is = exact.fresh_never last (suc n) (room book last (suc n)) (omega arith) (omega arith) (omega arith) (omega arith) e in (
      is.0,
      λ k h. elim (cases_lt k last) [
        | inl lt ↦ is.2 k lt
        | inr ge ↦ let same : last ≡ k = omega arith in let P : ℕ → Type 0 = λ k. room book k (suc n) ≡ 0 in subst P same is.1
      ],
    )

pub none_top : (steps : ℕ) (book : BookCosts) (t : Tables) → IsExact steps book t → 0 < length book.levels → HasNoNestedPlan steps book → top_entry steps book t ≡ never
none_top zero book t exact some is = absurd (omega (arith, is.0))
none_top (suc n) book t exact some is =
    let last = length book.levels - 1 in
    ap (λ m. t.fresh last (suc n) m) (is.1 last (omega arith)) ∙ exact.never_fresh last (suc n) (omega arith) is.0 (omega arith) (λ j h. is.1 j (omega arith))

-- a list of actions that are read, and EndReverse
pub written : (steps last m : ℕ) (book : BookCosts) (t : Tables) (list xs ys : List Action) (p : Part) → 0 < steps → last ≡ length book.levels - 1 → m ≡ room book last steps →
    Reads steps book t false last steps m p → list ≡ ys ++ EndReverse ∷ [] → ys ≡ xs ++ actions steps false last 0 p → xs ≡ [] → IsWritten steps book t list
written zero last m book t list xs ys p some el em is e f g = absurd (omega arith)
written (suc n) last m book t list xs ys p some el em is e f g =
    let L : ℕ → Type 0 = λ last. Reads (suc n) book t false last (suc n) (room book last (suc n)) p in
    let M : ℕ → Type 0 = λ m. Reads (suc n) book t false last (suc n) m p in (
      p,
      subst L el (subst M em is),
      e ∙ ap (λ (ys : List Action). ys ++ EndReverse ∷ []) (f ∙ ap (λ (xs : List Action). xs ++ actions (suc n) false last 0 p) g) ∙ ap (λ last. whole (suc n) last p) el,
    )
