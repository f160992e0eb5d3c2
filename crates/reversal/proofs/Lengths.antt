-- How long the lists are that are read from tables: six actions a step at most, and two.
use Rattle.std.proofs.Common.{◌≡◌, ◌==◌, ℕ, zero, suc, ◌+◌, ◌-◌, ◌*◌, ◌≤◌, ◌++◌, Bool, true, false, cond, List, [], ◌∷◌, length, refl, ap, ◌∙◌, arith}
use Rattle.std.proofs.lemmas.List.{length-append}
use Rattle.plan_types.specs.declared.action.Action.{Action}
use Rattle.plan_types.specs.declared.action.Keep.TheVariants.{Tape}
use Rattle.plan_types.specs.declared.action.Action.TheVariants.{Forward, Reverse, EndForward, EndReverse}
use Rattle.level_book.specs.BookCosts.{BookCosts, room}
use Rattle.level_book.specs.UnderTable.{Tables}
use Rattle.level_book.specs.DiskUnderTable.{DiskTables}
use Rattle.hrevolve_gen.specs.HRevolveList.{Part, one, faster, split, actions, Reads, IsWritten}
use Rattle.disk_gen.specs.DiskRevolveList.{HeldPart, finally, again, DiskPart, alone, parted, held_actions, disk_actions, fast_tables, ReadsHeld, ReadsDisk, IsDiskWritten}

-- how many actions a stretch of l steps has at most, whose first state is in work or held
abbrev most : Bool → ℕ → ℕ
most false l = 6 * l - 2
most true l = 6 * l - 1

one_long : (steps b : ℕ) (t : Bool) (x y : List Action) → length x ≡ 3 → length y ≡ 2 → length (cond t x y) ≤ 4
one_long steps b true x y long short = omega (arith, long)
one_long steps b false x y long short = omega (arith, short)

module _ (steps : ℕ) (book : BookCosts) (t : Tables) where
  part_some : (p : Part) (held : Bool) (k l m : ℕ) → Reads steps book t held k l m p → 1 ≤ l
  part_some one false k l m is = omega (arith, is.0)
  part_some one true k l m is = omega (arith, is.0)
  part_some (faster p) held zero l m is = absurd is
  part_some (faster p) false (suc k) l m is = omega (arith, is.0)
  part_some (faster p) true (suc k) l m is = omega (arith, is.0)
  part_some (split j p q) false k l zero is = absurd is
  part_some (split j p q) false k l (suc m) is = omega (arith, is.0, is.1)
  part_some (split j p q) true k l m is = omega (arith, is.0, is.1)

  pub part_long : (p : Part) (held : Bool) (k b l m : ℕ) → Reads steps book t held k l m p → length (actions steps held k b p) ≤ most held l
  part_long one false k b l m is = let few = one_long steps b (b + 1 == steps) (Forward b (b + 1) Tape ∷ EndForward ∷ Reverse (b + 1) b ∷ []) (Forward b (b + 1) Tape ∷ Reverse (b + 1) b ∷ []) refl refl in omega (arith, is.0, few)
  part_long one true k b l m is = omega (arith, is.0)
  part_long (faster p) held zero b l m is = absurd is
  part_long (faster p) false (suc k) b l m is = part_long p false k b l (room book k steps) is.2
  part_long (faster p) true (suc k) b l m is = let few = part_long p false k b l (room book k steps) is.2 in omega (arith, is.0, few)
  part_long (split j p q) false k b l zero is = absurd is
  part_long (split j p q) false k b l (suc m) is =
      let later = part_long p false k (b + j) (l - j) m is.3 in
      let sooner = part_long q true k b j m is.4 in
      let both = length-append (actions steps false k (b + j) p) (actions steps true k b q) in
      omega (arith, is.0, is.1, later, sooner, both)
  part_long (split j p q) true k b l m is =
      let later = part_long p false k (b + j) (l - j) m is.3 in
      let sooner = part_long q true k b j m is.4 in
      let both = length-append (actions steps false k (b + j) p) (actions steps true k b q) in
      omega (arith, is.0, is.1, later, sooner, both)

ended : (xs : List Action) (list : List Action) (steps : ℕ) → list ≡ xs ++ EndReverse ∷ [] → length xs ≤ 6 * steps → length list ≤ 6 * steps + 2
ended xs list steps is few = let all = ap (λ (l : List Action). length l) is ∙ length-append xs (EndReverse ∷ []) in omega (arith, all, few)

pub written_few : (steps : ℕ) (book : BookCosts) (t : Tables) (list : List Action) → IsWritten steps book t list → length list ≤ 6 * steps + 2
written_few zero book t list is = let all = ap (λ (l : List Action). length l) is in omega (arith, all)
written_few (suc n) book t list is =
    let few = part_long (suc n) book t is.0 false (length book.levels - 1) 0 (suc n) (room book (length book.levels - 1) (suc n)) is.1 in
    ended (actions (suc n) false (length book.levels - 1) 0 is.0) list (suc n) is.2 (omega (arith, few))

module _ (steps : ℕ) (book : BookCosts) (t : DiskTables) where
  held_long : (p : HeldPart) (b l : ℕ) → ReadsHeld steps book t l p → length (held_actions steps b p) ≤ most true l
  held_long (finally p) b l is =
      let few = part_long steps book (fast_tables t) p false 0 b l (room book 0 steps) is.1 in
      let some = part_some steps book (fast_tables t) p false 0 l (room book 0 steps) is.1 in
      omega (arith, few, some)
  held_long (again i p q) b l is =
      let later = part_long steps book (fast_tables t) p false 0 (b + i) (l - i) (room book 0 steps) is.3 in
      let sooner = held_long q b i is.4 in
      let both = length-append (actions steps false 0 (b + i) p) (held_actions steps b q) in
      omega (arith, is.0, is.1, later, sooner, both)

  disk_long : (p : DiskPart) (b l : ℕ) → ReadsDisk steps book t l p → length (disk_actions steps b p) ≤ most false l
  disk_long (alone p) b l is = part_long steps book (fast_tables t) p false 0 b l (room book 0 steps) is.1
  disk_long (parted j p q) b l is =
      let later = disk_long p (b + j) (l - j) is.3 in
      let sooner = held_long q b j is.4 in
      let both = length-append (disk_actions steps (b + j) p) (held_actions steps b q) in
      omega (arith, is.0, is.1, later, sooner, both)

pub disk_written_few : (steps : ℕ) (book : BookCosts) (t : DiskTables) (list : List Action) → IsDiskWritten steps book t list → length list ≤ 6 * steps + 2
disk_written_few zero book t list is = let all = ap (λ (l : List Action). length l) is in omega (arith, all)
disk_written_few (suc n) book t list is =
    let few = disk_long (suc n) book t is.0 0 (suc n) is.1 in
    ended (disk_actions (suc n) 0 is.0) list (suc n) is.2 (omega (arith, few))
