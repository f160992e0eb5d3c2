-- How long the digits of a number are.
use Rattle.std.proofs.Common.{ℕ, ◌^◌, ◌<◌, ◌≤◌, length, arith}
use Rattle.std.proofs.lemmas.Fmt.{length-decimal-le}
use Rattle.std.specs.Fmt.{decimal}

pub short_8 : (n : ℕ) → n < 2 ^ 8 → length (decimal n) ≤ 3
short_8 n h = length-decimal-le 3 n (omega arith) (omega arith) (omega arith)

pub short_32 : (n : ℕ) → n < 2 ^ 32 → length (decimal n) ≤ 10
short_32 n h = length-decimal-le 10 n (omega arith) (omega arith) (omega arith)

pub short_64 : (n : ℕ) → n < 2 ^ 64 → length (decimal n) ≤ 20
short_64 n h = length-decimal-le 20 n (omega arith) (omega arith) h
