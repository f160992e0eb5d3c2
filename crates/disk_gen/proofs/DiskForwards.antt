-- Forwards alone stand before EndForward, and nothing is stored on level 1 behind it.
use Rattle.std.proofs.Common.{◌≡◌, ◌==◌, ℕ, zero, suc, ◌+◌, ◌-◌, cond, Bool, true, false, List, [], ◌∷◌, ◌++◌, sym, subst, arith, inl, inr, append_assoc, eq-eqb}
use Rattle.std.proofs.lemmas.Bool.{cases_Bool}
use Rattle.plan_types.specs.declared.action.Keep.TheVariants.{Tape}
use Rattle.plan_types.specs.declared.action.Action.{Action}
use Rattle.plan_types.specs.declared.action.Action.TheVariants.{Forward, Reverse, EndForward}
use Rattle.level_book.specs.BookCosts.{BookCosts, room}
use Rattle.level_book.specs.UnderTable.{Tables}
use Rattle.level_book.specs.DiskClass.{NeverStores, ForwardsFirst}
use Rattle.level_book.specs.DiskUnderTable.{DiskTables}
use Rattle.hrevolve_gen.specs.HRevolveList.{Part, one, faster, split, actions, Reads}
use Rattle.disk_gen.specs.DiskRevolveList.{HeldPart, finally, again, DiskPart, alone, parted, held_actions, disk_actions, fast_tables, ReadsHeld, ReadsDisk}

-- two lists, one after the other
never_both : (xs ys rest : List Action) → NeverStores 1 (xs ++ (ys ++ rest)) → NeverStores 1 ((xs ++ ys) ++ rest)
never_both xs ys rest is = subst (λ (list : List Action). NeverStores 1 list) (sym (append_assoc xs ys rest)) is

first_both : (xs ys rest : List Action) → ForwardsFirst (xs ++ (ys ++ rest)) → ForwardsFirst ((xs ++ ys) ++ rest)
first_both xs ys rest is = subst (λ (list : List Action). ForwardsFirst list) (sym (append_assoc xs ys rest)) is

module _ (steps : ℕ) (book : BookCosts) (t : Tables) where
  -- a part of level 0 stores nothing on level 1
  part_never : (p : Part) (held : Bool) (b l m : ℕ) (rest : List Action) → Reads steps book t held 0 l m p → NeverStores 1 rest → NeverStores 1 (actions steps held 0 b p ++ rest)
  part_never one false b l m rest reads is =
      let P : Bool → Type 0 = λ c. NeverStores 1 (cond c (Forward b (b + 1) Tape ∷ EndForward ∷ Reverse (b + 1) b ∷ []) (Forward b (b + 1) Tape ∷ Reverse (b + 1) b ∷ []) ++ rest) in
      elim (cases_Bool (b + 1 == steps)) [ inl e ↦ subst P (sym e) is | inr e ↦ subst P (sym e) is ]
  part_never one true b l m rest reads is = is
  part_never (faster p) held b l m rest reads is = absurd reads
  part_never (split j p q) false b l zero rest reads is = absurd reads
  part_never (split j p q) false b l (suc m) rest reads is = (
    λ e. absurd (omega arith),
    never_both (actions steps false 0 (b + j) p) (actions steps true 0 b q) rest
        (part_never p false (b + j) (l - j) m (actions steps true 0 b q ++ rest) reads.3 (part_never q true b j m rest reads.4 is)),
  )
  part_never (split j p q) true b l m rest reads is =
      never_both (actions steps false 0 (b + j) p) (actions steps true 0 b q) rest
      (part_never p false (b + j) (l - j) m (actions steps true 0 b q ++ rest) reads.3 (part_never q true b j m rest reads.4 is))

  -- the last part has EndForward, behind Forwards alone
  part_first : (p : Part) (b l m : ℕ) (rest : List Action) → Reads steps book t false 0 l m p → b + l ≡ steps → NeverStores 1 rest → ForwardsFirst (actions steps false 0 b p ++ rest)
  part_first one b l m rest reads last is =
      let P : Bool → Type 0 = λ c. ForwardsFirst (cond c (Forward b (b + 1) Tape ∷ EndForward ∷ Reverse (b + 1) b ∷ []) (Forward b (b + 1) Tape ∷ Reverse (b + 1) b ∷ []) ++ rest) in
      subst P (sym (eq-eqb (b + 1) steps (omega (arith, reads.0)))) is
  part_first (faster p) b l m rest reads last is = absurd reads
  part_first (split j p q) b l zero rest reads last is = absurd reads
  part_first (split j p q) b l (suc m) rest reads last is =
      first_both (actions steps false 0 (b + j) p) (actions steps true 0 b q) rest
      (part_first p (b + j) (l - j) m (actions steps true 0 b q ++ rest) reads.3 (omega (arith, reads.1)) (part_never q true b j m rest reads.4 is))

module _ (steps : ℕ) (book : BookCosts) (t : DiskTables) where
  held_never : (p : HeldPart) (b l : ℕ) (rest : List Action) → ReadsHeld steps book t l p → NeverStores 1 rest → NeverStores 1 (held_actions steps b p ++ rest)
  held_never (finally p) b l rest reads is = part_never steps book (fast_tables t) p false b l (room book 0 steps) rest reads.1 is
  held_never (again i p q) b l rest reads is =
      never_both (actions steps false 0 (b + i) p) (held_actions steps b q) rest
      (part_never steps book (fast_tables t) p false (b + i) (l - i) (room book 0 steps) (held_actions steps b q ++ rest) reads.3 (held_never q b i rest reads.4 is))

  pub disk_first : (p : DiskPart) (b l : ℕ) (rest : List Action) → ReadsDisk steps book t l p → b + l ≡ steps → NeverStores 1 rest → ForwardsFirst (disk_actions steps b p ++ rest)
  disk_first (alone p) b l rest reads last is = part_first steps book (fast_tables t) p b l (room book 0 steps) rest reads.1 last is
  disk_first (parted j p q) b l rest reads last is =
      first_both (disk_actions steps (b + j) p) (held_actions steps b q) rest
      (disk_first p (b + j) (l - j) (held_actions steps b q ++ rest) reads.3 (omega (arith, reads.1)) (held_never q b j rest reads.4 is))
