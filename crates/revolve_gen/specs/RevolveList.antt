-- The list that Revolve writes, by two rules. Source: Griewank and Walther, "Algorithm 799: Revolve", ACM Transactions
-- on Mathematical Software 26, 2000. The actions are those of the checkpoint_schedules manual.
use Rattle.std.specs.Prelude.{ℕ, zero, suc, ◌+◌, ◌-◌, Bool, true, false, cond, nat_le, List, [], ◌∷◌, ◌++◌}
use Rattle.plan_types.specs.declared.action.Keep.TheVariants.{Nothing, Store, Tape}
use Rattle.plan_types.specs.declared.action.Dest.TheVariants.{Work}
use Rattle.plan_types.specs.declared.action.Action.{Action}
use Rattle.plan_types.specs.declared.action.Action.TheVariants.{Forward, Reverse, Copy, Move, EndForward, EndReverse}
use Rattle.level_book.specs.BookCosts.{BookCosts, slots_of, total_room}
use Rattle.binomials.specs.Advances.{split}
use Rattle.revolve_gen.specs.Places.{level_at}

-- The step from b is taped and reversed. EndForward comes after the first taped step of a list.
abbrev pub one_step : Bool → ℕ → List Action
one_step first b = Forward b (b + 1) Tape ∷ cond first (EndForward ∷ Reverse (b + 1) b ∷ []) (Reverse (b + 1) b ∷ [])

-- The list of a stretch of l steps from b, with c slots and p images held. Fresh: b is in work, and the c slots are
-- free. `first`: no step was taped yet. Held: b's image is held at place p, and the c slots are free or hold b. The
-- first argument is at least l, and only bounds the recursion. A law says that the rules hold without it. A stretch
-- with a slot is split after fewer than l steps. Without a slot there is no plan.
unfoldable mutual
  pub fresh : ℕ → (ℕ → ℕ) → Bool → ℕ → ℕ → ℕ → ℕ → List Action
  fresh zero level first b l c p = one_step first b
  fresh (suc more) level first b l c p =
      cond (nat_le l 1) (one_step first b)
      (Forward b (b + split l c) (Store (level p)) ∷ (fresh more level first (b + split l c) (l - split l c) (c - 1) (p + 1)
      ++ held more level b (split l c) c p))

  pub held : ℕ → (ℕ → ℕ) → ℕ → ℕ → ℕ → ℕ → List Action
  held zero level b l c p = Move b (level p) Work ∷ one_step false b
  held (suc more) level b l c p =
      cond (nat_le l 1) (Move b (level p) Work ∷ one_step false b)
      (Copy b (level p) Work ∷ Forward b (b + split l c) Nothing ∷ (fresh more level false (b + split l c) (l - split l c) (c - 1) (p + 1)
      ++ held more level b (split l c) c p))

-- the list for so many steps with c slots; `level` gives the level of each place of the stack
abbrev pub revolve : (ℕ → ℕ) → ℕ → ℕ → List Action
revolve level zero c = EndForward ∷ EndReverse ∷ []
revolve level (suc n) c = fresh (suc n) level true 0 (suc n) c 0 ++ EndReverse ∷ []

-- the list for so many steps and a book, with the slots of all its levels
abbrev pub revolve_list : ℕ → BookCosts → List Action
revolve_list steps book = revolve (level_at (slots_of book)) steps (total_room book steps)
