-- Kept pages that hold the byte 0 everywhere.
use Rattle.std.proofs.Common.{◌≡◌, ℕ, suc, zero, ◌+◌, ◌-◌, ◌*◌, ◌≤◌, List, [], ◌∷◌, ◌++◌, length, replicate, take, drop, refl, sym, ap, ◌∙◌, arith}
use Rattle.std.proofs.lemmas.List.{take-replicate, drop-replicate}
use Rattle.std.specs.Cmp.{nat_cmp_total}
use Rattle.std.specs.List.{enumerate_from, flat_map}
use Rattle.std.specs.Ordering.{nat_cmp}
use Rattle.std.specs.FinMap as finmap
use Rattle.std.specs.FinMap.{get-from_entries, get-from_sorted, same_map, nat_cmp-IsAntisymmetric}
use Rattle.rv_pages.specs.Memory.{zeros_from, zeroed}
use Rattle.rv_pages.specs.PageLayout.{entries_kept, memory_kept, AreKept}
use Rattle.rv_pages.proofs.EntryOrder.{kept_order}

zeros_numbered : (a n : ℕ) → zeros_from a n ≡ enumerate_from a (replicate n 0)
zeros_numbered a zero = refl
zeros_numbered a (suc n) = ap (λ es. (a, 0) ∷ es) (zeros_numbered (a + 1) n)

pub joined : {es fs gs hs : List (ℕ × ℕ)} → es ≡ fs → gs ≡ hs → es ++ gs ≡ fs ++ hs
joined p q = λ i. p i ++ q i

-- of so many zeros in a row, the first page and the pages after it
first_zeros : (a size all : ℕ) → size ≤ all → zeros_from a size ≡ enumerate_from a (take size (replicate all 0))
first_zeros a size all h = zeros_numbered a size ∙ ap (enumerate_from a) (sym (take-replicate size all 0 h))

later_zeros : (size : ℕ) (numbers : List ℕ) (all : ℕ) → entries_kept size numbers (replicate (all - size) 0) ≡ entries_kept size numbers (drop size (replicate all 0))
later_zeros size numbers all = ap (entries_kept size numbers) (sym (drop-replicate size all 0))

zeros_kept : (size : ℕ) (numbers : List ℕ) (all : ℕ) → all ≡ size * length numbers → flat_map (λ page. zeros_from (page * size) size) numbers ≡ entries_kept size numbers (replicate all 0)
zeros_kept size [] all e = refl
zeros_kept size (n ∷ ns) all e =
    let long : size ≤ all = grind arith in
    let rest : all - size ≡ size * length ns = grind arith in
    joined (first_zeros (n * size) size all long) (zeros_kept size ns (all - size) rest ∙ later_zeros size ns all)

pub kept_zeros : (numbers : List ℕ) → AreKept numbers (replicate (4096 * length numbers) 0) → memory_kept numbers (replicate (4096 * length numbers) 0) ≡ zeroed numbers
unfolding memory_kept zeroed
kept_zeros numbers h =
    let bytes = replicate (4096 * length numbers) 0 in
    same_map nat_cmp_total nat_cmp-IsAntisymmetric _ _ (λ q.
    get-from_sorted nat_cmp (entries_kept 4096 numbers bytes) q (kept_order numbers bytes h)
    ∙ sym (ap (λ es. finmap.find nat_cmp q es) (zeros_kept 4096 numbers (4096 * length numbers) refl))
    ∙ sym (get-from_entries nat_cmp_total _ q))
