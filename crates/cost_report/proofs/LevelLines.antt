-- The lines of the levels, one after the other.
use Rattle.std.proofs.Common.{◌≡◌, ℕ, zero, suc, ◌+◌, List, [], ◌∷◌, ◌++◌, map, take, slice_get, Some, arith, refl, add-one}
use Rattle.std.specs.List.{enumerate_from}
use Rattle.level_book.specs.declared.book.Level.{Level}

-- with one level more, its line stands last
more : (f : ℕ × Level → List ℕ) (n k j : ℕ) (levels : List Level) (level : Level) → slice_get levels k ≡ Some level → j ≡ n + k →
    map f (enumerate_from n (take (suc k) levels)) ≡ map f (enumerate_from n (take k levels)) ++ f (j, level) ∷ []
more f n k j [] level here at = cc
more f n zero j (first ∷ rest) level here at =
    let same : first ≡ level = cc in
    let place : n ≡ j = omega arith in
    λ i. f (place i, same i) ∷ []
more f n (suc k) j (first ∷ rest) level here at =
    let later = more f (n + 1) k j rest level here (omega arith) in
    λ i. f (n, first) ∷ later i

pub lines_more : (f : ℕ × Level → List ℕ) (k : ℕ) (levels : List Level) (level : Level) → slice_get levels k ≡ Some level →
    map f (enumerate_from 0 (take (k + 1) levels)) ≡ map f (enumerate_from 0 (take k levels)) ++ f (k, level) ∷ []
lines_more f k levels level here = rw add-one (more f 0 k k levels level here (omega arith))

-- the lines of the first levels are the first lines
pub lines_from : (f : ℕ × Level → List ℕ) (n k : ℕ) (levels : List Level) →
    (rest : List (List ℕ)) × (map f (enumerate_from n levels) ≡ map f (enumerate_from n (take k levels)) ++ rest)
lines_from f n zero levels = (map f (enumerate_from n levels), refl)
lines_from f n (suc k) [] = ([], refl)
lines_from f n (suc k) (first ∷ levels) = let later = lines_from f (n + 1) k levels in (later.0, λ i. f (n, first) ∷ later.1 i)
