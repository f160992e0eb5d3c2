-- One element more of a list.
use Rattle.std.proofs.Common.{◌≡◌, ℕ, ◌+◌, ◌-◌, ◌<◌, List, [], ◌∷◌, ◌++◌, length, get_or, arith, inl, inr, refl, sym, ap, ◌∙◌, subst}
use Rattle.std.proofs.lemmas.Bool.{cases_lt}
use Rattle.std.proofs.lemmas.List.{get_or_push, get_or_append_left, length_push}
use Rattle.level_book.specs.UnderTable.{Entry}
use Rattle.cost_tables.specs.declared.cost.Cost.{Cost}
use Rattle.cost_tables.specs.declared.cost.Cost.TheVariants.{Number}
use Rattle.cost_tables.specs.TableRows.{value_of}
use Rattle.table_clauses.specs.Splits.{IsColumn}

-- what holds of each element with its index holds with one more
pub each_more : {X : Type 0} (P : ℕ → X → Type 0) (xs ys : List X) (x d : X) (n k : ℕ) → ys ≡ xs ++ x ∷ [] → length xs ≡ n → (k < n → P k (get_or xs k d)) → P n x → k < n + 1 → P k (get_or ys k d)
each_more {X} P xs ys x d n k pushed count before here lt =
    let Q : List X → Type 0 = λ ys. P k (get_or ys k d) in
    let R : X → Type 0 = λ y. P k y in
    subst Q (sym pushed) (elim (cases_lt k n) [
      | inl h ↦ subst R (sym (get_or_append_left xs (x ∷ []) d k (omega (arith, count)))) (before h)
      | inr h ↦
          let same : n ≡ k = omega arith in
          let S : ℕ → Type 0 = λ k. P k (get_or (xs ++ x ∷ []) k d) in
          let T : X → Type 0 = λ y. P n y in
          subst S same (subst T (sym (get_or_push xs x d n count)) here)
    ])

-- a column with one entry more
pub column_pushed : (n : ℕ) (entries : ℕ → Entry) (old new : List Cost) (x : Cost) → IsColumn n entries old → new ≡ old ++ x ∷ [] → value_of x ≡ entries (n + 1) → IsColumn (n + 1) entries new
column_pushed n entries old new x is pushed here = record {
  count = ap length pushed ∙ length_push old x ∙ ap (λ n. n + 1) is.count;
  value = λ l one le.
      let P : ℕ → Cost → Type 0 = λ k y. k ≡ l - 1 → value_of y ≡ entries l in
      let last : n ≡ l - 1 → value_of x ≡ entries l = λ e. let same : n + 1 ≡ l = omega arith in here ∙ ap entries same in
      each_more P old new x (Number 0) n (l - 1) pushed is.count (λ h e. is.value l one (omega arith)) last (omega arith) refl;
}
