-- EndForward stands behind the first taped step of a list over both levels, and nowhere else.
use Rattle.std.proofs.Common.{◌≡◌, ℕ, zero, suc, ◌+◌, ◌-◌, ◌<◌, ◌≤◌, false, List, [], ◌∷◌, ◌++◌, sym, subst, arith, append_assoc}
use Rattle.plan_types.specs.declared.action.Action.{Action}
use Rattle.plan_types.specs.declared.action.Action.TheVariants.{EndReverse}
use Rattle.level_book.specs.BookCosts.{BookCosts, room}
use Rattle.level_book.specs.DiskUnderTable.{DiskTables}
use Rattle.hrevolve_gen.specs.HRevolveList.{actions}
use Rattle.hrevolve_gen.specs.Laws.{HasNoEndForward, EndsForwardAtTape}
use Rattle.hrevolve_gen.proofs.EndForwards.{none_before, at_tape}
use Rattle.disk_gen.specs.DiskRevolveList.{HeldPart, finally, again, DiskPart, alone, parted, held_actions, disk_actions, fast_tables, ReadsHeld, ReadsDisk, IsDiskWritten}

module _ (steps : ℕ) (book : BookCosts) (t : DiskTables) where
  none_held : (p : HeldPart) (b l : ℕ) (rest : List Action) → ReadsHeld steps book t l p → b + l < steps → HasNoEndForward rest → HasNoEndForward (held_actions steps b p ++ rest)
  none_held (finally p) b l rest is lt none = none_before steps book (fast_tables t) p false 0 b l (room book 0 steps) rest is.1 lt none
  none_held (again i p q) b l rest is lt none =
      let behind = none_held q b i rest is.4 (omega (arith, is.1)) none in
      subst HasNoEndForward (sym (append_assoc (actions steps false 0 (b + i) p) (held_actions steps b q) rest))
      (none_before steps book (fast_tables t) p false 0 (b + i) (l - i) (room book 0 steps) (held_actions steps b q ++ rest) is.3 (omega (arith, is.1)) behind)

  disk_at_tape : (p : DiskPart) (b l : ℕ) (rest : List Action) → ReadsDisk steps book t l p → b + l ≡ steps → HasNoEndForward rest → EndsForwardAtTape (disk_actions steps b p ++ rest)
  disk_at_tape (alone p) b l rest is e none = at_tape steps book (fast_tables t) p 0 b l (room book 0 steps) rest is.1 e none
  disk_at_tape (parted j p q) b l rest is e none =
      let behind = none_held q b j rest is.4 (omega (arith, is.1)) none in
      subst EndsForwardAtTape (sym (append_assoc (disk_actions steps (b + j) p) (held_actions steps b q) rest))
      (disk_at_tape p (b + j) (l - j) (held_actions steps b q ++ rest) is.3 (omega (arith, is.1)) behind)

pub disk_ends_forward : (steps : ℕ) (book : BookCosts) (t : DiskTables) (list : List Action) → 1 ≤ steps → IsDiskWritten steps book t list → EndsForwardAtTape list
disk_ends_forward zero book t list some is = absurd (omega arith)
disk_ends_forward (suc n) book t list some is = subst EndsForwardAtTape (sym is.2) (disk_at_tape (suc n) book t is.0 0 (suc n) (EndReverse ∷ []) is.1 (omega arith) tt)
