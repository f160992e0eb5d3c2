-- A valid list can be tallied: it names the levels of the book alone, and steps forward within the steps.
use Rattle.std.proofs.Common.{◌≡◌, ℕ, ◌≤◌, List, [], ◌∷◌, length, ap, arith}
use Rattle.std.proofs.lemmas.List.{length-map}
use Rattle.std.specs.List.{AllByRecursion}
use Rattle.plan_types.specs.declared.action.Keep.TheVariants.{Nothing, Store, Tape}
use Rattle.plan_types.specs.declared.action.Dest.TheVariants.{Work, Level}
use Rattle.plan_types.specs.declared.action.Action.{Action}
use Rattle.plan_types.specs.declared.action.Action.TheVariants.{Forward, Reverse, Copy, Move, EndForward, EndReverse}
use Rattle.level_book.specs.declared.book.Slots.{Slots}
use Rattle.level_book.specs.BookCosts.{BookCosts, slots_of}
use Rattle.level_book.specs.Configuration.{Configuration, start}
use Rattle.level_book.specs.Moves.{Goes}
use Rattle.level_book.specs.Valid.{Leads, Valid}
use Rattle.cost_fold.specs.CountableActions.{CanBeTallied}

-- what remains to be reversed stays within the steps
record IsTallied (steps : ℕ) (a : Action) (d : Configuration) : Type 0 where
  can : CanBeTallied a
  within : d.reverse ≤ steps

same : (steps : ℕ) (c d : Configuration) → c.reverse ≤ steps → d.reverse ≡ c.reverse → d.reverse ≤ steps
same steps c d within is = omega arith

taken : (steps : ℕ) (slots : List Slots) (c : Configuration) (a : Action) (d : Configuration) → steps ≤ 1000000 → length slots ≤ 4 → c.reverse ≤ steps → Goes steps slots c a d → IsTallied steps a d
taken steps slots c (Forward from to Nothing) d short four within g =
    record { can = (omega (arith, g.1.ahead), omega (arith, g.1.within)); within = same steps c d within (ap (λ (e : Configuration). e.reverse) g.2) }
taken steps slots c (Forward from to (Store k)) d short four within g =
    record { can = ((omega (arith, g.1.ahead), omega (arith, g.1.within)), omega (arith, g.2.level)); within = same steps c d within (ap (λ (e : Configuration). e.reverse) g.3) }
taken steps slots c (Forward from to Tape) d short four within g =
    record { can = (omega (arith, g.1.ahead), omega (arith, g.1.within)); within = same steps c d within (ap (λ (e : Configuration). e.reverse) g.5) }
taken steps slots c (Reverse from to) d short four within g =
    record { can = tt; within = omega (arith, ap (λ (e : Configuration). e.reverse) g.5, g.3, g.4) }
taken steps slots c (Copy n k Work) d short four within g =
    record { can = omega (arith, g.1.level); within = same steps c d within (ap (λ (e : Configuration). e.reverse) g.2) }
taken steps slots c (Copy n k (Level j)) d short four within g =
    record { can = (omega (arith, g.1.level), omega (arith, g.3.level)); within = same steps c d within (ap (λ (e : Configuration). e.reverse) g.4) }
taken steps slots c (Move n k Work) d short four within g =
    record { can = omega (arith, g.1.level); within = same steps c d within (ap (λ (e : Configuration). e.reverse) g.2) }
taken steps slots c (Move n k (Level j)) d short four within g =
    record { can = (omega (arith, g.1.level), omega (arith, g.3.level)); within = same steps c d within (ap (λ (e : Configuration). e.reverse) g.4) }
taken steps slots c EndForward d short four within g =
    record { can = tt; within = same steps c d within (ap (λ (e : Configuration). e.reverse) g.3) }
taken steps slots c EndReverse d short four within g =
    record { can = tt; within = same steps c d within (ap (λ (e : Configuration). e.reverse) g.3) }

tallied : (steps : ℕ) (slots : List Slots) (c : Configuration) (list : List Action) (d : Configuration) → steps ≤ 1000000 → length slots ≤ 4 → c.reverse ≤ steps → Leads steps slots c list d → AllByRecursion CanBeTallied list
tallied steps slots c [] d short four within leads = tt
tallied steps slots c (a ∷ rest) d short four within leads =
    let one = taken steps slots c a leads.0 short four within leads.1 in
    (one.can, tallied steps slots leads.0 rest d short four one.within leads.2)

pub valid_tallied : (steps : ℕ) (book : BookCosts) (list : List Action) → steps ≤ 1000000 → length book.levels ≤ 4 → Valid steps (slots_of book) list → AllByRecursion CanBeTallied list
valid_tallied steps book list short four valid =
    tallied steps (slots_of book) (start steps (slots_of book)) list valid.0 short (omega (arith, length-map book.levels (λ level. level.slots))) (omega arith) valid.1
