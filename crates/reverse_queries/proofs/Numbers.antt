-- The numbers that are handed out, the last one first, and states that have them.
use Rattle.std.proofs.Common.{◌≡◌, ℕ, zero, suc, ◌+◌, ◌<◌, ◌≤◌, ◌==◌, cond, List, [], ◌∷◌, map, length, slice_get, Some, refl, sym, ◌∙◌, ap, arith, eq-eqb, ne_eqb}
use Rattle.std.specs.Option.{option_map}
use Rattle.std.proofs.lemmas.Option.{none-some, same_Some, slice_get-map}
use Rattle.rv_machine.specs.MachineState.{MachineState}
use Rattle.reverse_runner.specs.StateOrder.{numbers_from}
use Rattle.reverse_runner.specs.VisitorCalls.{GetsAll}

rest_of : {A : Type 0} → List A → List A
rest_of [] = []
rest_of (x ∷ xs) = xs

head_or : {A : Type 0} → A → List A → A
head_or x [] = x
head_or x (y ∷ ys) = y

pub head_same : {A : Type 0} {x y : A} {xs ys : List A} → x ∷ xs ≡ y ∷ ys → x ≡ y
unfolding head_or
head_same {A} {x} {y} {xs} {ys} e = ap (head_or x) e

pub rest_same : {A : Type 0} {x y : A} {xs ys : List A} → x ∷ xs ≡ y ∷ ys → xs ≡ ys
unfolding rest_of
rest_same {A} {x} {y} {xs} {ys} e = ap rest_of e

-- as many states were got as numbers
pub gets_length : {V : Type 0} (got : V → ℕ → MachineState → List (List ℕ) → V → Type 0) (journal : List (List ℕ)) (numbers : List ℕ) (out : List MachineState) (x y : V) → GetsAll got journal numbers out x y → length out ≡ length numbers
gets_length got journal [] [] x y h = refl
gets_length got journal [] (s ∷ out) x y h = absurd h
gets_length got journal (n ∷ numbers) [] x y h = absurd h
gets_length got journal (n ∷ numbers) (s ∷ out) x y h = let rest = gets_length got journal numbers out h.0 y h.1.1 in omega (arith, rest)

-- states, with others in the places of so many numbers
pub over : ℕ → ℕ → List MachineState → (ℕ → MachineState) → ℕ → MachineState
over from zero out states n = states n
over from (suc count) [] states n = states n
over from (suc count) (s ∷ out) states n = cond (n == from + count) s (over from count out states n)

-- from one past these numbers on they are as before
pub over_past : (from count : ℕ) (out : List MachineState) (states : ℕ → MachineState) (n : ℕ) → from + count ≤ n → over from count out states n ≡ states n
unfolding over
over_past from zero out states n le = refl
over_past from (suc count) [] states n le = refl
over_past from (suc count) (s ∷ out) states n le =
    ap (λ b. cond b s (over from count out states n)) (ne_eqb n (from + count) (λ e. absurd (omega (arith, le, e)))) ∙ over_past from count out states n (omega (arith, le))

-- functions that agree on so many numbers
map_same : (f g : ℕ → MachineState) (from count : ℕ) → ((n : ℕ) → n < from + count → f n ≡ g n) → map f (numbers_from from count) ≡ map g (numbers_from from count)
map_same f g from zero same = refl
map_same f g from (suc count) same = λ i. same (from + count) (omega arith) i ∷ map_same f g from count (λ n lt. same n (omega (arith, lt))) i

-- these numbers have the others
pub over_here : (from count : ℕ) (out : List MachineState) (states : ℕ → MachineState) → length out ≡ count → map (over from count out states) (numbers_from from count) ≡ out
unfolding over
over_here from zero [] states same = refl
over_here from zero (s ∷ out) states same = absurd (omega (arith, same))
over_here from (suc count) [] states same = absurd (omega (arith, same))
over_here from (suc count) (s ∷ out) states same =
    let all = over from (suc count) (s ∷ out) states in
    let first : all (from + count) ≡ s = ap (λ b. cond b s (over from count out states (from + count))) (eq-eqb (from + count) (from + count) refl) in
    let below : (n : ℕ) → n < from + count → all n ≡ over from count out states n = λ n lt. ap (λ b. cond b s (over from count out states n)) (ne_eqb n (from + count) (λ e. absurd (omega (arith, lt, e)))) in
    let rest : map all (numbers_from from count) ≡ out = map_same all (over from count out states) from count below ∙ over_here from count out states (omega (arith, same)) in
    λ i. first i ∷ rest i

-- all numbers of a list are at least this one
abbrev pub Above : ℕ → List ℕ → Type 0
Above from [] = Unit {0}
Above from (n ∷ numbers) = (from ≤ n) × Above from numbers

pub above_numbers : (from count : ℕ) → Above from (numbers_from from count)
above_numbers from zero = tt
above_numbers from (suc count) = (omega arith, above_numbers from count)

pub above_weaker : (low high : ℕ) (numbers : List ℕ) → low ≤ high → Above high numbers → Above low numbers
above_weaker low high [] le h = tt
above_weaker low high (n ∷ numbers) le h = (let at = h.0 in omega (arith, le, at), above_weaker low high numbers le h.1)

pub map_above : (f g : ℕ → MachineState) (from : ℕ) (numbers : List ℕ) → ((n : ℕ) → from ≤ n → f n ≡ g n) → Above from numbers → map f numbers ≡ map g numbers
map_above f g from [] same h = refl
map_above f g from (n ∷ numbers) same h = λ i. same n h.0 i ∷ map_above f g from numbers same h.1 i

-- ---- one of the states that are handed out

-- a state stands under its number
pub record Stands (numbers : List ℕ) (out : List MachineState) (n : ℕ) (s : MachineState) : Type 0 where
  pub place : ℕ
  pub number : slice_get numbers place ≡ Some n
  pub state : slice_get out place ≡ Some s

pub stands_later : (m : ℕ) (t : MachineState) (numbers : List ℕ) (out : List MachineState) (n : ℕ) (s : MachineState) → Stands numbers out n s → Stands (m ∷ numbers) (t ∷ out) n s
stands_later m t numbers out n s h = record { place = suc h.place; number = h.number; state = h.state }

-- it is the one that states have there
pub stands_is : (states : ℕ → MachineState) (numbers : List ℕ) (out : List MachineState) (n : ℕ) (s : MachineState) → map states numbers ≡ out → Stands numbers out n s → s ≡ states n
stands_is states numbers out n s have h =
    sym (same_Some (states n) s (ap (option_map states) (sym h.number) ∙ sym (slice_get-map states numbers h.place) ∙ ap (λ l. slice_get l h.place) have ∙ h.state))

-- a number among so many is one of them
pub number_within : (from count i n : ℕ) → slice_get (numbers_from from count) i ≡ Some n → (from ≤ n) × (n < from + count)
number_within from zero i n h = absurd (none-some n h)
number_within from (suc count) zero n h = let same = same_Some (from + count) n h in (omega (arith, same), omega (arith, same))
number_within from (suc count) (suc i) n h = let rest = number_within from count i n h in let high = rest.1 in (rest.0, omega (arith, high))
