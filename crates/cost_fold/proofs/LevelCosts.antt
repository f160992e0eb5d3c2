-- What the first levels cost, and that it fits.
use Rattle.std.proofs.Common.{zero, suc, add-one, slice_get, Some, ◌≡◌, ℕ, ◌+◌, ◌*◌, ◌^◌, ◌<◌, ◌≤◌, List, [], ◌∷◌, length, take, drop, sum, sum_by, arith, ◌∙◌, ap, refl, inl, inr}
use Rattle.std.specs.Prelude.{slice_index}
use Rattle.std.proofs.Math.ListN.{drop_of_length-le}
use Rattle.std.proofs.lemmas.Bool.{cases_lt}
use Rattle.std.proofs.lemmas.List.{get_or_past}
use Rattle.std.specs.List.{enumerate_from, AllByRecursion}
use Rattle.std.proofs.Math.Nat.{mul-le-mul_left}
use Rattle.std.proofs.lemmas.List.Sums.{sum_by-cons, sum_by-drop_more}
use Rattle.plan_types.specs.declared.action.Action.{Action}
use Rattle.level_book.specs.CostFold.{cost, writes, reads}
use Rattle.level_book.specs.declared.book.Level.{Level}
use Rattle.level_book.specs.BookCosts.{BookCosts, IsWithinLimits, IsLevelWithinLimits}
use Rattle.cost_fold.specs.declared.counts.Counts.{Counts}
use Rattle.cost_fold.specs.CountsOf.{AreCountsOf, all_of, price}

-- equal arguments give equal results
ap_two : (f : ℕ → ℕ → ℕ) {a b c d : ℕ} → a ≡ b → c ≡ d → f a c ≡ f b d
ap_two f {b = b} {c = c} first second = ap (λ x. f x c) first ∙ ap (f b) second

-- what the writes and reads of a level cost
abbrev pub level_price : List ℕ → List ℕ → ℕ × Level → ℕ
level_price writes reads level = slice_index writes level.0 * level.1.write + slice_index reads level.0 * level.1.read

-- an element and the sum of those behind it are within the sum from it on
sum_from : (xs : List ℕ) (n : ℕ) → slice_index xs n + sum (drop (n + 1) xs) ≤ sum (drop n xs)
sum_from xs n =
    elim (cases_lt n (length xs)) [
      | inl within ↦ omega (arith, sum_by-drop_more (λ x. x) xs n 0 within)
      | inr past ↦ let nothing : drop (n + 1) xs ≡ [] = drop_of_length-le xs (omega arith) in rw (get_or_past xs n 0 past, nothing) (omega arith)
    ]

levels_within : (writes reads : List ℕ) (n : ℕ) (levels : List Level) → AllByRecursion IsLevelWithinLimits levels →
    sum_by (level_price writes reads) (enumerate_from n levels) ≤ (sum (drop n writes) + sum (drop n reads)) * 1000000
levels_within writes reads n [] within = omega arith
levels_within writes reads n (level ∷ rest) within =
    let written = mul-le-mul_left (slice_index writes n) within.0.write in
    let read = mul-le-mul_left (slice_index reads n) within.0.read in
    rw sum_by-cons (omega (arith, written, read, levels_within writes reads (n + 1) rest within.1, sum_from writes n, sum_from reads n))

-- a price is no more than all that is counted, paid at the greatest cost
pub price-le : (counts : Counts) (book : BookCosts) → IsWithinLimits book → price counts book ≤ all_of counts * 1000000
price-le counts book within =
    let forward = mul-le-mul_left counts.forward within.forward in
    let reversed = mul-le-mul_left counts.reversed within.reverse in
    omega (arith, forward, reversed, levels_within counts.writes counts.reads 0 book.levels within.levels)

-- the first levels of a book are within its limits
all_take : (k : ℕ) (levels : List Level) → AllByRecursion IsLevelWithinLimits levels → AllByRecursion IsLevelWithinLimits (take k levels)
all_take zero levels within = tt
all_take (suc k) [] within = tt
all_take (suc k) (level ∷ rest) within = (within.0, all_take k rest within.1)

-- with one level more, its writes and reads are paid too
levels_more : (writes reads : List ℕ) (n : ℕ) (levels : List Level) (k : ℕ) (level : Level) (j : ℕ) → slice_get levels k ≡ Some level → j ≡ n + k →
    sum_by (level_price writes reads) (enumerate_from n (take (suc k) levels)) ≡ sum_by (level_price writes reads) (enumerate_from n (take k levels)) + level_price writes reads (j, level)
levels_more writes reads n [] k level j here at = cc
levels_more writes reads n (first ∷ rest) zero level j here at =
    let same : first ≡ level = cc in
    let place : j ≡ n = omega arith in
    cc
levels_more writes reads n (first ∷ rest) (suc k) level j here at =
    let more = levels_more writes reads (n + 1) rest k level j here (omega arith) in
    omega (
      arith,
      more,
      sum_by-cons (level_price writes reads) (n, first) (enumerate_from (n + 1) (take (suc k) rest)),
      sum_by-cons (level_price writes reads) (n, first) (enumerate_from (n + 1) (take k rest)),
    )

-- the price of the first levels
abbrev pub price_so_far : Counts → BookCosts → ℕ → ℕ
price_so_far counts book k = price counts (record book { levels = take k book.levels })

pub price_more : (counts : Counts) (book : BookCosts) (k : ℕ) (level : Level) → slice_get book.levels k ≡ Some level →
    price_so_far counts book (k + 1) ≡ price_so_far counts book k + level_price counts.writes counts.reads (k, level)
price_more counts book k level here =
    rw add-one (omega (arith, levels_more counts.writes counts.reads 0 book.levels k level k here (omega arith)))

-- the price of the first levels fits
price_so_far-le : (counts : Counts) (book : BookCosts) (k : ℕ) → IsWithinLimits book → price_so_far counts book k ≤ all_of counts * 1000000
price_so_far-le counts book k within =
    price-le counts (record book { levels = take k book.levels }) (record { forward = within.forward; reverse = within.reverse; levels = all_take k book.levels within.levels })

-- and so does the price of one level more
pub level_fits : (counts : Counts) (book : BookCosts) (k : ℕ) (level : Level) → all_of counts * 1000000 < 2 ^ 64 → IsWithinLimits book →
    slice_get book.levels k ≡ Some level → price_so_far counts book k + level_price counts.writes counts.reads (k, level) < 2 ^ 64
level_fits counts book k level small within here = omega (arith, price_more counts book k level here, price_so_far-le counts book (k + 1) within)

-- two prices that agree at each of the first levels have the same sum
sum_alike : (f g : ℕ × Level → ℕ) (most n : ℕ) (levels : List Level) → ((k : ℕ) (level : Level) → k < most → f (k, level) ≡ g (k, level)) →
    n + length levels ≤ most → sum_by f (enumerate_from n levels) ≡ sum_by g (enumerate_from n levels)
sum_alike f g most n [] same few = refl
sum_alike f g most n (level ∷ rest) same few =
    omega (
      arith,
      same n level (omega arith),
      sum_alike f g most (n + 1) rest same (omega arith),
      sum_by-cons f (n, level) (enumerate_from (n + 1) rest),
      sum_by-cons g (n, level) (enumerate_from (n + 1) rest),
    )

-- counts of a list cost what the list costs
pub price-cost : (list : List Action) (counts : Counts) (book : BookCosts) → length book.levels ≤ 4 → AreCountsOf list counts → price counts book ≡ cost list book
price-cost list counts book four so =
    let levels = sum_alike (level_price counts.writes counts.reads) (λ level. writes level.0 list * level.1.write + reads level.0 list * level.1.read) 4 0 book.levels
    (λ k level h. ap_two (λ w r. w * level.write + r * level.read) (so.writes k h) (so.reads k h)) (omega arith) in
    ap_two ◌+◌ (ap_two (λ f r. f * book.forward + r * book.reverse) so.forward so.reversed) levels
