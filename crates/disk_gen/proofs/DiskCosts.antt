-- What a part of a disk list costs.
use Rattle.std.proofs.Common.{◌≡◌, ℕ, zero, suc, ◌+◌, ◌-◌, ◌*◌, false, List, [], ◌∷◌, ◌++◌, refl, sym, ap, ◌∙◌, arith, append_assoc}
use Rattle.plan_types.specs.declared.action.Keep.TheVariants.{Nothing}
use Rattle.plan_types.specs.declared.action.Action.{Action}
use Rattle.plan_types.specs.declared.action.Action.TheVariants.{Forward, EndReverse}
use Rattle.level_book.specs.BookCosts.{BookCosts, room}
use Rattle.level_book.specs.CostFold.{cost}
use Rattle.level_book.specs.UnderTable.{write_cost, read_cost, number}
use Rattle.level_book.specs.DiskUnderTable.{DiskTables, disk_top_entry}
use Rattle.hrevolve_gen.specs.HRevolveList.{actions}
use Rattle.hrevolve_gen.proofs.Costs.{cost_forward, cost_store, cost_copy, cost_move, cost_end_forward, cost_end_reverse, cost_nothing}
use Rattle.hrevolve_gen.proofs.PartCosts.{sum_some, part_cost}
use Rattle.hrevolve_gen.proofs.PartReads.{some_of}
use Rattle.disk_gen.specs.ReadableDiskTables.{IsDiskExact}
use Rattle.disk_gen.specs.DiskRevolveList.{HeldPart, finally, again, DiskPart, alone, parted, held_actions, disk_actions, fast_tables, ReadsHeld, ReadsDisk, IsDiskWritten}

steps_on : (b j u n x y v c : ℕ) → v ≡ n + j * u + x + y → n + (b + j - b) * u + (x + (y + c)) ≡ v + c
steps_on b j u n x y v c e = let on : b + j - b ≡ j = omega arith in ap (λ i. n + i * u + (x + (y + c))) on ∙ omega arith

-- two lists, one after the other
joined : (book : BookCosts) (xs ys rest : List Action) (x y : ℕ) → ((rest : List Action) → cost (xs ++ rest) book ≡ x + cost rest book) → ((rest : List Action) → cost (ys ++ rest) book ≡ y + cost rest book) →
    cost ((xs ++ ys) ++ rest) book ≡ x + (y + cost rest book)
joined book xs ys rest x y first second = ap (λ (list : List Action). cost list book) (append_assoc xs ys rest) ∙ first (ys ++ rest) ∙ ap (λ n. x + n) (second rest)

module _ (steps : ℕ) (book : BookCosts) (t : DiskTables) where
  held_cost : (p : HeldPart) (b l v : ℕ) (rest : List Action) → ReadsHeld steps book t l p → t.disk_held l ≡ number v → cost (held_actions steps b p ++ rest) book ≡ v + cost rest book
  held_cost (finally p) b l v rest reads is =
      let s = sum_some (number 0) (t.fresh l (room book 0 steps)) (read_cost book 1) v (sym reads.0 ∙ is) in
      let zero_first : s.x ≡ 0 = let e = s.first in cc in
      cost_move b 1 (actions steps false 0 b p ++ rest) book ∙ ap (λ n. read_cost book 1 + n) (part_cost steps book (fast_tables t) p false 0 b l (room book 0 steps) s.y rest reads.1 s.second)
      ∙ regroup (read_cost book 1) s.x s.y v (cost rest book) s.value zero_first
    where
      regroup : (r x y v c : ℕ) → v ≡ r + x + y → x ≡ 0 → r + (y + c) ≡ v + c
      regroup r x y v c e f = omega arith
  held_cost (again i p q) b l v rest reads is =
      let s = sum_some (t.fresh (l - i) (room book 0 steps)) (t.disk_held i) (read_cost book 1 + i * book.forward) v (sym reads.2 ∙ is) in
      let later = actions steps false 0 (b + i) p in let sooner = held_actions steps b q in
      cost_copy b 1 (Forward b (b + i) Nothing ∷ ((later ++ sooner) ++ rest)) book
      ∙ ap (λ n. read_cost book 1 + n) (cost_forward b (b + i) ((later ++ sooner) ++ rest) book
      ∙ ap (λ n. (b + i - b) * book.forward + n) (joined book later sooner rest s.x s.y
      (λ rest. part_cost steps book (fast_tables t) p false 0 (b + i) (l - i) (room book 0 steps) s.x rest reads.3 s.first) (λ rest. held_cost q b i s.y rest reads.4 s.second)))
      ∙ (let e = steps_on b i book.forward (read_cost book 1) s.x s.y v (cost rest book) s.value in omega arith)

  disk_cost : (p : DiskPart) (b l v : ℕ) (rest : List Action) → ReadsDisk steps book t l p → t.disk_fresh l ≡ number v → cost (disk_actions steps b p ++ rest) book ≡ v + cost rest book
  disk_cost (alone p) b l v rest reads is = part_cost steps book (fast_tables t) p false 0 b l (room book 0 steps) v rest reads.1 (sym reads.0 ∙ is)
  disk_cost (parted j p q) b l v rest reads is =
      let s = sum_some (t.disk_fresh (l - j)) (t.disk_held j) (write_cost book 1 + j * book.forward) v (sym reads.2 ∙ is) in
      let later = disk_actions steps (b + j) p in let sooner = held_actions steps b q in
      cost_store b (b + j) 1 ((later ++ sooner) ++ rest) book
      ∙ ap (λ n. write_cost book 1 + (b + j - b) * book.forward + n) (joined book later sooner rest s.x s.y
      (λ rest. disk_cost p (b + j) (l - j) s.x rest reads.3 s.first) (λ rest. held_cost q b j s.y rest reads.4 s.second))
      ∙ steps_on b j book.forward (write_cost book 1) s.x s.y v (cost rest book) s.value

-- the entry for all steps is a number
pub top_some : (steps : ℕ) (book : BookCosts) (t : DiskTables) → IsDiskExact steps book t → (v : ℕ) × (disk_top_entry steps t ≡ number v)
top_some zero book t exact = (0, refl)
top_some (suc n) book t exact = some_of (t.disk_fresh (suc n)) (exact.fresh_number (suc n) (omega arith) (omega arith))

-- the list costs the entry for all steps
pub written_disk_costs : (steps : ℕ) (book : BookCosts) (t : DiskTables) (list : List Action) (v : ℕ) → IsDiskWritten steps book t list → disk_top_entry steps t ≡ number v → cost list book ≡ v
written_disk_costs zero book t list v is e =
    let value : 0 ≡ v = cc in
    ap (λ (list : List Action). cost list book) is ∙ cost_end_forward (EndReverse ∷ []) book ∙ cost_end_reverse [] book ∙ cost_nothing book ∙ value
written_disk_costs (suc n) book t list v is e =
    ap (λ (list : List Action). cost list book) is.2
    ∙ disk_cost (suc n) book t is.0 0 (suc n) v (EndReverse ∷ []) is.1 e
    ∙ ap (λ n. v + n) (cost_end_reverse [] book ∙ cost_nothing book) ∙ (let same : v + 0 ≡ v = omega arith in same)
