-- Inputs in memory, as a search from the front of their list finds them.
use Rattle.std.proofs.Common.{Vec, Global, ◌≡◌, ℕ, suc, ◌+◌, ◌<◌, true, false, cond, List, ◌∷◌, map, drop, length, get_or, Option, Some, nat_eq, ap, sym, ◌∙◌, add-one}
use Rattle.std.proofs.Math.Seq.{drop-cons}
use Rattle.std.specs.Ordering.{nat_cmp, eq_by_cmp}
use Rattle.std.specs.Cmp.Lexicographic.{slice_cmp, pointwise, texts_ties, nat_list_eq_equiv}
use Rattle.std.specs.FinMap.{find}

-- an input's name and its bytes
abbrev pub named : Vec ℕ Global × Vec ℕ Global → List ℕ × List ℕ
named entry = (entry.0.items, entry.1.items)

-- the bytes of a name, where the first entries are left out
abbrev pub found_from : ℕ → List ℕ → List (Vec ℕ Global × Vec ℕ Global) → Option (List ℕ)
found_from i name entries = find (slice_cmp nat_cmp) name (map named (drop i entries))

tie : (name key : List ℕ) → eq_by_cmp (slice_cmp nat_cmp) name key ≡ pointwise nat_eq key name
tie name key = sym (texts_ties name key) ∙ nat_list_eq_equiv.symm name key

-- the entry at i
module _ (name : List ℕ) (entries : List (Vec ℕ Global × Vec ℕ Global)) (i : ℕ) (entry : Vec ℕ Global × Vec ℕ Global) (inside : i < length entries) (is : entry ≡ get_or entries i entry) where
  at : found_from i name entries ≡ cond (pointwise nat_eq entry.0.items name) (Some entry.1.items) (found_from (suc i) name entries)
  at = ap (λ es. find (slice_cmp nat_cmp) name (map named es)) (drop-cons entries i entry inside ∙ ap (λ e. e ∷ drop (suc i) entries) (sym is))
      ∙ ap (λ b. cond b (Some entry.1.items) (found_from (suc i) name entries)) (tie name entry.0.items)

  pub found_here : pointwise nat_eq entry.0.items name ≡ true → found_from i name entries ≡ Some entry.1.items
  found_here same = at ∙ ap (λ b. cond b (Some entry.1.items) (found_from (suc i) name entries)) same

  pub found_later : pointwise nat_eq entry.0.items name ≡ false → found_from i name entries ≡ found_from (i + 1) name entries
  found_later other = at ∙ ap (λ b. cond b (Some entry.1.items) (found_from (suc i) name entries)) other ∙ ap (λ n. found_from n name entries) (sym (add-one i))
