-- The periodic list over two levels. The slower level gets an image every so many steps. The steps between two images
-- are reversed as Revolve does it, with the slots of the faster level. This kind of schedule is from Aupy and Herrmann,
-- "Periodicity in optimal hierarchical checkpointing schemes for adjoint computations", Optimization Methods and
-- Software 32, 2017. The actions are those of the checkpoint_schedules manual.
use Rattle.std.specs.Prelude.{ℕ, zero, suc, ◌+◌, ◌-◌, ◌*◌, ◌/◌, true, false, List, [], ◌∷◌, ◌++◌}
use Rattle.plan_types.specs.declared.action.Keep.TheVariants.{Store}
use Rattle.plan_types.specs.declared.action.Dest.TheVariants.{Work}
use Rattle.plan_types.specs.declared.action.Action.{Action}
use Rattle.plan_types.specs.declared.action.Action.TheVariants.{Forward, Move, EndForward, EndReverse}
use Rattle.level_book.specs.BookCosts.{BookCosts, room}
use Rattle.revolve_gen.specs.RevolveList.{fresh}

-- How many stretches of `period` steps cover so many steps: the least n with steps ≤ n · period. The period is at least
-- 1.
abbrev pub stretches : ℕ → ℕ → ℕ
stretches steps period = (steps + (period - 1)) / period

-- the images on the slower level: one for the start of each stretch but the last
abbrev pub images : ℕ → ℕ → ℕ
images steps period = stretches steps period - 1

-- the way over n stretches from number i on, each with the image of its start on level 1
abbrev pub ahead : ℕ → ℕ → ℕ → List Action
ahead period i zero = []
ahead period i (suc n) = Forward (i * period) (i * period + period) (Store 1) ∷ ahead period (suc i) n

-- The way back over the first n stretches, the last of them first. The image of its start is moved to work. The stretch
-- is reversed with c slots, all of them on level 0.
abbrev pub back : ℕ → ℕ → ℕ → List Action
back period c zero = []
back period c (suc i) = Move (i * period) 1 Work ∷ (fresh period (λ _. 0) false (i * period) period c 0 ++ back period c i)

-- the last stretch, which has no image on the slower level; the earlier stretches have fewer steps than all
abbrev pub last_steps : ℕ → ℕ → ℕ
last_steps steps period = steps - images steps period * period

-- the list for so many steps, with c slots of level 0 for each stretch
abbrev pub periodic : ℕ → ℕ → ℕ → List Action
periodic zero period c = EndForward ∷ EndReverse ∷ []
periodic (suc m) period c =
    let n = images (suc m) period in
    let last = last_steps (suc m) period in
    ahead period 0 n ++ (fresh last (λ _. 0) true (n * period) last c 0 ++ (back period c n ++ EndReverse ∷ []))

-- the list for so many steps and a book, with the slots of its level 0
abbrev pub periodic_list : ℕ → ℕ → BookCosts → List Action
periodic_list steps period book = periodic steps period (room book 0 steps)
