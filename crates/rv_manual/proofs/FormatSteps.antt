-- What the rows of each format make of a state.
use Rattle.std.proofs.Common.{◌≡◌, ℕ, zero, suc, ◌+◌, ◌*◌, ◌%◌, ◌^◌, ◌<◌, ◌==◌, Bool, false, cond, refl, sym, ap, ◌∙◌, arith, ℤ, List, [], ◌∷◌, slice_index, slice_set, Option, Some, None, is_some, IfSome}
use Rattle.std.proofs.lemmas.Bool.{ne_eqb}
use Rattle.std.specs.List.{All}
use Rattle.rv_pages.specs.Memory.{Memory, wrapped, number_at, with_number}
use Rattle.rv_decode.specs.Formats as machine
use Rattle.rv_machine.specs.MachineState.{MachineState, IsMachineState}
use Rattle.rv_machine.specs.StateChanges.{with_register, trapped, gone_on, put}
use Rattle.rv_machine.specs.StepTable.{jumped}
use Rattle.rv_manual.specs.Fields.{bits}
use Rattle.rv_manual.specs.Integers.{word_of}
use Rattle.rv_manual.specs.Changes.{x, with_rd, following, gives, jumps, branches, loads, stores}

-- the register with a number is a word; past the end there is a 0
word_at : (xs : List ℕ) (k : ℕ) → All (λ v. v < 2 ^ 32) xs → slice_index xs k < 2 ^ 32
word_at [] k h = omega arith
word_at (v ∷ vs) zero h = h 0 0 (omega arith)
word_at (v ∷ vs) (suc k) h = word_at vs k (λ i d l. h (suc i) d (omega arith))

pub x_small : (s : MachineState) (n : ℕ) → IsMachineState s → x s n < 2 ^ 32
x_small s n h = word_at s.registers n h.words

-- x0 is 0, whatever is written to it
zero_set : (xs : List ℕ) → slice_index xs 0 ≡ 0 → slice_set xs 0 0 ≡ xs
zero_set [] h = refl
zero_set (v ∷ vs) h = ap (λ n. n ∷ vs) (sym h)

not_zero : (n : ℕ) → (suc n == 0) ≡ false
not_zero n = ne_eqb (suc n) 0 (λ e. omega (arith, e))

hardwired : (xs : List ℕ) (n v : ℕ) → slice_index xs 0 ≡ 0 → slice_set (slice_set xs n v) 0 0 ≡ with_register xs n v
hardwired [] zero v h = refl
hardwired (y ∷ ys) zero v h = ap (λ n. n ∷ ys) (sym h)
hardwired [] (suc n) v h = ap (λ b. cond b [] []) (sym (not_zero n))
hardwired (y ∷ ys) (suc n) v h = (λ i. sym h i ∷ slice_set ys n v) ∙ ap (λ b. cond b (y ∷ ys) (y ∷ slice_set ys n v)) (sym (not_zero n))

pub with_rd_is : (s : MachineState) (n m : ℕ) (z : ℤ) (v : ℕ) → n ≡ m → word_of z ≡ v → slice_index s.registers 0 ≡ 0 →
    with_rd s.registers n z ≡ with_register s.registers m v
with_rd_is s n m z v e f h = (λ i. slice_set (slice_set s.registers (e i) (f i)) 0 0) ∙ hardwired s.registers m v h

pub gives_is : (s : MachineState) (n m : ℕ) (z : ℤ) (v : ℕ) → n ≡ m → word_of z ≡ v → IsMachineState s → gives s n z ≡ put s m v
gives_is s n m z v e f h = λ i. record s { pc = wrapped (s.pc + 4); registers = with_rd_is s n m z v e f h.zero i }

-- alignment
aligned : (a b : ℕ) → a ≡ b → (bits 1 0 a == 0) ≡ (b % 4 == 0)
aligned a b e = let same : bits 1 0 a ≡ b % 4 = omega arith in ap (λ n. n == 0) same

pub jumps_is : (s : MachineState) (n m a b : ℕ) → n ≡ m → a ≡ b → IsMachineState s → jumps s n a ≡ jumped s m b
jumps_is s n m a b e f h =
    let link : with_rd s.registers n (following s) ≡ with_register s.registers m (wrapped (s.pc + 4)) = with_rd_is s n m (following s) _ e refl h.zero in
    λ i. cond (aligned a b f i) (record s { pc = f i; registers = link i }) (trapped s 0)

pub branches_is : (s : MachineState) (p q : Bool) (a b : ℕ) → p ≡ q → a ≡ b → branches p s a ≡ cond q (jumped s 0 b) (gone_on s)
branches_is s p q a b e f = λ i. cond (e i) (cond (aligned a b f i) (record s { pc = f i }) (trapped s 0)) (gone_on s)

-- a load of so many bytes
abbrev pub loaded : MachineState → ℕ → ℕ → Bool → Option ℕ → MachineState
loaded s rd count with_sign None = trapped s 5
loaded s rd count with_sign (Some n) = put s rd (cond with_sign (machine.sign_extended (8 * count) n) n)

pub loads_is : (s : MachineState) (integer : ℕ → ℤ) (n m : ℕ) (o : Option ℕ) (count : ℕ) (with_sign : Bool) → n ≡ m →
    ((v : ℕ) → v < 2 ^ (8 * count) → word_of (integer v) ≡ cond with_sign (machine.sign_extended (8 * count) v) v) →
    IfSome o (λ v. v < 2 ^ (8 * count)) → IsMachineState s → loads integer s n o ≡ loaded s m count with_sign o
loads_is s integer n m None count with_sign e f small h = refl
loads_is s integer n m (Some v) count with_sign e f small h = gives_is s n m (integer v) _ e (f v small) h

-- a store of so many bytes
abbrev pub stored : MachineState → ℕ → ℕ → ℕ → MachineState
stored s at count value = cond (is_some (number_at s.memory at count)) (record s {
  pc = wrapped (s.pc + 4);
  memory = with_number s.memory at count value;
}) (trapped s 7)

pub stores_is : (s : MachineState) (p q : Bool) (m k : Memory) → p ≡ q → m ≡ k →
    stores p s m ≡ cond q (record s { pc = wrapped (s.pc + 4); memory = k }) (trapped s 7)
stores_is s p q m k e f = λ i. cond (e i) (record s { pc = wrapped (s.pc + 4); memory = f i }) (trapped s 7)
