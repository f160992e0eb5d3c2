-- Memory after a number is stored where its bytes are mapped: the same pages are mapped, and it is still memory as a
-- machine has it.
use Rattle.std.proofs.Common.{◌≡◌, ℕ, zero, suc, ◌/◌, ◌%◌, ◌^◌, ◌<◌, true, List, length, refl, sym, ap, subst, arith, Option, Some, None, IsSome, is_some}
use Rattle.std.proofs.lemmas.List.Elements.{All-cons, All-nil}
use Rattle.std.specs.List.{All}
use Rattle.std.specs.Option.{option_map}
use Rattle.rv_pages.specs.Memory.{Memory, bytes_at, number_at, low_bytes, with_number, page_numbers, IsMapped, IsMemory}
use Rattle.rv_pages.proofs.MemoryReads.{some_mapped}
use Rattle.rv_pages.proofs.Stores.{with_bytes_numbers, with_bytes_memory}

length-low_bytes : (n value : ℕ) → length (low_bytes n value) ≡ n
length-low_bytes zero value = refl
length-low_bytes (suc n) value = ap suc (length-low_bytes n (value / 2 ^ 8))

low_bytes_small : (n value : ℕ) → All (λ b. b < 256) (low_bytes n value)
low_bytes_small zero value = All-nil (λ b. b < 256)
low_bytes_small (suc n) value = All-cons (λ b. b < 256) (value % 2 ^ 8) (low_bytes n (value / 2 ^ 8)) (omega arith) (low_bytes_small n (value / 2 ^ 8))

some_bytes : (o : Option (List ℕ)) (f : List ℕ → ℕ) → is_some (option_map f o) ≡ true → IsSome o
some_bytes None f h = h
some_bytes (Some bs) f h = refl

number_mapped : (m : Memory) (at n value : ℕ) → is_some (number_at m at n) ≡ true → IsMapped m at (length (low_bytes n value))
number_mapped m at n value h = subst (IsMapped m at) (sym (length-low_bytes n value)) (some_mapped m n at (some_bytes (bytes_at m at n) _ h))

pub with_number_numbers : (m : Memory) (at n value : ℕ) → is_some (number_at m at n) ≡ true → page_numbers (with_number m at n value) ≡ page_numbers m
with_number_numbers m at n value h = with_bytes_numbers m at (low_bytes n value) (number_mapped m at n value h)

pub with_number_memory : (m : Memory) (at n value : ℕ) → IsMemory m → is_some (number_at m at n) ≡ true → IsMemory (with_number m at n value)
with_number_memory m at n value h some = with_bytes_memory m at (low_bytes n value) h (number_mapped m at n value some) (low_bytes_small n value)
