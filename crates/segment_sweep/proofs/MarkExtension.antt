-- One mark more.
use Rattle.std.proofs.Common.{◌≡◌, ℕ, zero, suc, ◌+◌, ◌-◌, ◌*◌, ◌/◌, ◌<◌, ◌≤◌, Some, List, [], ◌∷◌, ◌++◌, length, sym, ap, refl, ◌∙◌, inl, inr, arith}
use Rattle.std.specs.List.{slice_get}
use Rattle.std.proofs.lemmas.Bool.{cases_order}
use Rattle.std.proofs.lemmas.Nat.{div-add-mod', mod_below, div_below}
use Rattle.rv_machine.specs.MachineState.{MachineState}
use Rattle.rv_machine.specs.States.{state_number}

front : {X : Type 0} (xs : List X) (y : X) (i : ℕ) → i < length xs → slice_get (xs ++ y ∷ []) i ≡ slice_get xs i
front [] y i h = absurd (omega arith)
front (x ∷ xs) y zero h = refl
front (x ∷ xs) y (suc i) h = front xs y i (omega arith)

last : {X : Type 0} (xs : List X) (y : X) (i : ℕ) → i ≡ length xs → slice_get (xs ++ y ∷ []) i ≡ Some y
last [] y zero h = refl
last [] y (suc i) h = absurd (omega arith)
last (x ∷ xs) y zero h = absurd (omega arith)
last (x ∷ xs) y (suc i) h = last xs y i (omega arith)

pub marked_more : (xs ys : List MachineState) (y start : MachineState) (journal : List (List ℕ)) (n width : ℕ) →
    ys ≡ xs ++ y ∷ [] → length xs ≡ n →
    ((i : ℕ) → i < n → slice_get xs i ≡ Some (state_number start journal (i * width))) →
    y ≡ state_number start journal (n * width) →
    (i : ℕ) → i < n + 1 → slice_get ys i ≡ Some (state_number start journal (i * width))
marked_more xs ys y start journal n width e len each this i h = elim (cases_order i n) [
  | inl same ↦ ap (λ zs. slice_get zs i) e ∙ last xs y i (omega arith) ∙ ap Some this ∙ ap (λ k. Some (state_number start journal (k * width))) (sym same)
  | inr other ↦ elim other [
    | inl less ↦ ap (λ zs. slice_get zs i) e ∙ front xs y i (omega arith) ∙ each i less
    | inr more ↦ absurd (omega arith)
  ]
]

-- what a quotient says
division : (n k : ℕ) → 0 < k → (n / k * k ≤ n) × (n < (n / k + 1) * k)
division n k h = let e = div-add-mod' n k in let m = mod_below n k h in (omega arith, omega arith)

-- the marks are no more than the workers, and reach past the last state
pub quotients : (count workers : ℕ) → 0 < workers → (count / (count / workers + 1) < workers) × (count < (count / (count / workers + 1) + 1) * (count / workers + 1)) × (count / (count / workers + 1) * (count / workers + 1) ≤ count)
quotients count workers some =
    let w = division count workers some in
    let width = count / workers + 1 in
    let d = division count width (omega arith) in
    let past : count < workers * width = (let e = w.1 in omega arith) in
    (div_below count width workers (omega arith) past, d.1, d.0)

pub scaled : (i j w m : ℕ) → i ≤ j → j * w ≤ m → i * w ≤ m
scaled i j w m h g = let e : i + (j - i) ≡ j = omega arith in let f : (i + (j - i)) * w ≡ j * w = ap (λ x. x * w) e in omega arith

-- segments that have states are no more than the states before the last one
pub no_more : (i w m : ℕ) → 0 < w → i * w ≤ m → i ≤ m
no_more i zero m some h = absurd (omega arith)
no_more i (suc w) m some h = omega arith
