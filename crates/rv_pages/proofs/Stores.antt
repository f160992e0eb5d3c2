-- Memory after bytes are stored where bytes are mapped: the same pages are mapped, and it is still memory as a machine
-- has it.
use Rattle.std.proofs.Common.{◌≡◌, ◌==◌, ℕ, zero, suc, ◌+◌, ◌*◌, ◌/◌, ◌%◌, ◌<◌, inl, inr, cond, List, [], ◌∷◌, ◌++◌, map, length, get_or, set, take, drop, refl, sym, ap, subst, ◌∙◌, arith, Option, Some, None, IsSome}
use Rattle.std.proofs.Math.Seq.{take-append_seam, drop-append-add}
use Rattle.std.proofs.lemmas.List.{length-append}
use Rattle.std.proofs.lemmas.List.Elements.{All-set, All-append}
use Rattle.std.specs.Cmp.{nat_cmp_total}
use Rattle.std.specs.List.{All, flat_map, filter_map}
use Rattle.std.specs.Ordering.{nat_cmp}
use Rattle.std.specs.FinMap.Entries.{by_order}
use Rattle.std.specs.FinMap.{get, insert, put, entries, len, entries-insert, len-insert, len-entries}
use Rattle.std.specs.declared.cmp.Ordering.TheVariants.{Less, Equal, Greater}
use Rattle.rv_pages.specs.Memory.{Memory, wrapped, byte_at, with_bytes, page_numbers, page_bytes, IsMapped, IsMemory}
use Rattle.rv_pages.specs.PageLayout.{memory_kept, AreKept}
use Rattle.rv_pages.proofs.EntryOrder.{get_not_kept}
use Rattle.rv_pages.proofs.MemoryWrites.{memory_set, kept_set, some_inserted}
use Rattle.rv_pages.proofs.MemoryInvariant.{made_of, kept_is_memory}
use Rattle.rv_pages.proofs.PageWrites.{somewhere}

-- a new value at a key that is there leaves the keys as they are
keys_put : (k v : ℕ) (es : List (ℕ × ℕ)) → length (put nat_cmp k v es) ≡ length es → map (λ e. e.0) (put nat_cmp k v es) ≡ map (λ e. e.0) es
keys_put k v [] h = absurd (omega (arith, h))
keys_put k v (e ∷ es) h =
    elim (nat_cmp k e.0) as (λ o. length (by_order o ((k, v) ∷ e ∷ es) ((e.0, v) ∷ es) (e ∷ put nat_cmp k v es)) ≡ length (e ∷ es) → map (λ e. e.0) (by_order o ((k, v) ∷ e ∷ es) ((e.0, v) ∷ es) (e ∷ put nat_cmp k v es)) ≡ map (λ e. e.0) (e ∷ es)) [
      | Less ↦ λ l. absurd (omega (arith, l))
      | Equal ↦ λ l. refl
      | Greater ↦ λ l. ap (λ ks. e.0 ∷ ks) (keys_put k v es (omega (arith, l)))
    ] h

long_put : (m : Memory) (k v : ℕ) → IsSome (get m k) → length (put nat_cmp k v (entries m)) ≡ length (entries m)
long_put m k v h =
    ap length (sym (entries-insert nat_cmp_total m k v)) ∙ sym (len-entries (insert m k v)) ∙ len-insert nat_cmp_total m k v ∙ ap (λ b. cond b (len m) (len m + 1)) h ∙ len-entries m

numbers_insert : (m : Memory) (k v : ℕ) → IsSome (get m k) → page_numbers (insert m k v) ≡ page_numbers m
numbers_insert m k v h =
    ap (filter_map (λ at. cond (at % 4096 == 0) (Some (at / 4096)) None)) (ap (map (λ e. e.0)) (entries-insert nat_cmp_total m k v) ∙ keys_put k v (entries m) (long_put m k v h))

-- the first of mapped bytes, and those behind it once it is written
pub mapped_first : (m : Memory) (at n : ℕ) → IsMapped m at (suc n) → IsSome (byte_at m at)
mapped_first m at n h = let here : at + 0 ≡ at = omega arith in subst (λ q. IsSome (byte_at m q)) here (h 0 (omega arith))

pub mapped_rest : (m : Memory) (at n k b : ℕ) → IsMapped m at (suc n) → IsMapped (insert m k b) (at + 1) n
mapped_rest m at n k b h i l =
    let next : at + suc i ≡ at + 1 + i = omega arith in
    some_inserted m k b (wrapped (at + 1 + i)) (subst (λ q. IsSome (byte_at m q)) next (h (suc i) (omega arith)))

-- a store maps no page and unmaps none
pub with_bytes_numbers : (m : Memory) (at : ℕ) (bytes : List ℕ) → IsMapped m at (length bytes) → page_numbers (with_bytes m at bytes) ≡ page_numbers m
with_bytes_numbers m at [] h = refl
with_bytes_numbers m at (b ∷ bs) h =
    with_bytes_numbers (insert m (wrapped at) b) (at + 1) bs (mapped_rest m at (length bs) (wrapped at) b h) ∙ numbers_insert m (wrapped at) b (mapped_first m at (length bs) h)

-- the pages of memory, one after the other, are kept pages
part : (f : ℕ → List ℕ) (numbers : List ℕ) → ((i : ℕ) → i < length numbers → length (f (get_or numbers i 0)) ≡ 4096) → (i : ℕ) → i < length numbers → f (get_or numbers i 0) ≡ take 4096 (drop (i * 4096) (flat_map f numbers))
part f [] full i l = absurd (omega arith)
part f (n ∷ ns) full zero l =
    let long = full 0 (omega arith) in
    let start : zero * 4096 ≡ 0 = omega arith in
    sym (ap (λ k. take 4096 (drop k (f n ++ flat_map f ns))) start ∙ ap (λ k. take k (f n ++ flat_map f ns)) (sym long) ∙ take-append_seam (f n) (flat_map f ns))
part f (n ∷ ns) full (suc i) l =
    let long = full 0 (omega arith) in
    let next : suc i * 4096 ≡ length (f n) + i * 4096 = omega (arith, long) in
    part f ns (λ k m. full (suc k) (omega arith)) i (omega arith)
    ∙ sym (ap (take 4096) (ap (λ k. drop k (f n ++ flat_map f ns)) next ∙ drop-append-add (f n) (flat_map f ns) (i * 4096)))

long_flat : (f : ℕ → List ℕ) (numbers : List ℕ) → ((i : ℕ) → i < length numbers → length (f (get_or numbers i 0)) ≡ 4096) → length (flat_map f numbers) ≡ 4096 * length numbers
long_flat f [] full = refl
long_flat f (n ∷ ns) full =
    let long = full 0 (omega arith) in
    let rest = long_flat f ns (λ k m. full (suc k) (omega arith)) in
    omega (arith, length-append (f n) (flat_map f ns), long, rest)

small_flat : (f : ℕ → List ℕ) (numbers : List ℕ) → ((i : ℕ) → i < length numbers → All (λ b. b < 256) (f (get_or numbers i 0))) → All (λ b. b < 256) (flat_map f numbers)
small_flat f [] small = λ k d l. absurd (omega arith)
small_flat f (n ∷ ns) small = All-append (λ b. b < 256) (f n) (flat_map f ns) (small 0 (omega arith)) (small_flat f ns (λ k m. small (suc k) (omega arith)))

is_some_none : {A : Type 0} (o : Option A) → o ≡ None → IsSome o → ⊥
is_some_none None e h = cc
is_some_none (Some b) e h = cc

insert_memory : (m : Memory) (a b : ℕ) → IsMemory m → IsSome (get m a) → b < 256 → IsMemory (insert m a b)
insert_memory m a b h some small =
    let numbers : List ℕ = page_numbers m in
    let bytes : List ℕ = flat_map (page_bytes m) numbers in
    let full : (i : ℕ) → i < length numbers → length (page_bytes m (get_or numbers i 0)) ≡ 4096 = λ i l. (h.pages i 0 l).full in
    let kept : AreKept numbers bytes = record { ascending = h.ascending; below = λ i d l. (h.pages i d l).below; few = h.few; whole = long_flat (page_bytes m) numbers full } in
    let is : memory_kept numbers bytes ≡ m = made_of numbers bytes (page_bytes m) kept (part (page_bytes m) numbers full) ∙ sym h.made in
    let all : All (λ x. x < 256) bytes = small_flat (page_bytes m) numbers (λ i l. (h.pages i 0 l).bytes) in
    elim (somewhere numbers (a / 4096)) [
      | inl w ↦
          let place : ℕ = w.0 * 4096 + a % 4096 in
          let made : memory_kept numbers (set bytes place b) ≡ insert m a b = memory_set numbers bytes kept w.0 (a % 4096) b a place w.1.0 (omega arith) (omega (arith, w.1.1)) refl ∙ ap (λ k. insert k a b) is in
          subst IsMemory made (kept_is_memory numbers (set bytes place b) (kept_set numbers bytes place b kept) (All-set (λ x. x < 256) bytes place b small all))
      | inr none ↦ absurd (is_some_none (get m a) (ap (λ k. get k a) (sym is) ∙ get_not_kept numbers bytes kept a none) some)
    ]

pub with_bytes_memory : (m : Memory) (at : ℕ) (bytes : List ℕ) → IsMemory m → IsMapped m at (length bytes) → All (λ b. b < 256) bytes → IsMemory (with_bytes m at bytes)
with_bytes_memory m at [] h mapped small = h
with_bytes_memory m at (b ∷ bs) h mapped small =
    with_bytes_memory (insert m (wrapped at) b) (at + 1) bs (insert_memory m (wrapped at) b h (mapped_first m at (length bs) mapped) (small 0 0 (omega arith)))
    (mapped_rest m at (length bs) (wrapped at) b mapped) (λ k d l. small (suc k) d (omega arith))
