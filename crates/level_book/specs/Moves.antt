-- Which actions a configuration allows, and where they lead. The actions are those of the checkpoint_schedules manual.
-- The tape holds one step, and no action loads it. Each kind of action has a line with its conditions.
use Rattle.std.specs.Prelude.{◌≡◌, ◌≢◌, ℕ, ◌+◌, ◌<◌, ◌≤◌, true, false, List, length, slice_index_or, IsSome, Some, None}
use Rattle.std.specs.FinSet as set
use Rattle.std.specs.Ordering.{nat_cmp}
use Rattle.plan_types.specs.declared.action.Keep.TheVariants.{Nothing, Store, Tape}
use Rattle.plan_types.specs.declared.action.Dest.TheVariants.{Work, Level}
use Rattle.plan_types.specs.declared.action.Action.{Action}
use Rattle.plan_types.specs.declared.action.Action.TheVariants.{Forward, Reverse, Copy, Move, EndForward, EndReverse}
use Rattle.level_book.specs.declared.book.Slots.{Slots}
use Rattle.level_book.specs.declared.book.Slots.TheVariants.{Count, Unlimited}
use Rattle.level_book.specs.Configuration.{Configuration, held_on, with_held, without_held}

-- a Forward leads on from the state in work, and not past what is still to be reversed
pub record MayAdvance (c : Configuration) (from to : ℕ) : Type 0 where
  pub here : c.work ≡ from
  pub ahead : from < to
  pub within : to ≤ c.reverse

-- fewer images are held than there are slots
abbrev pub HasRoom : Slots → set.FinSet nat_cmp → Type 0
HasRoom (Count slots) images = set.len images < slots
HasRoom Unlimited images = Unit {0}

-- the book has level k, and the level is free for the image of state n
pub record IsFree (slots : List Slots) (c : Configuration) (n k : ℕ) : Type 0 where
  pub level : k < length slots
  pub room : HasRoom (slice_index_or slots k (Count 0)) (held_on c k)
  pub new : set.contains (held_on c k) n ≡ false

-- the book has level k, and the level holds the image of state n
pub record IsHeld (slots : List Slots) (c : Configuration) (n k : ℕ) : Type 0 where
  pub level : k < length slots
  pub there : set.contains (held_on c k) n ≡ true

-- from c the action leads to d
abbrev pub Goes : ℕ → List Slots → Configuration → Action → Configuration → Type 0
Goes steps slots c (Forward from to Nothing) d =
    (c.ended ≡ false) × MayAdvance c from to × (d ≡ record c { work = to })
Goes steps slots c (Forward from to (Store k)) d =
    (c.ended ≡ false) × MayAdvance c from to × IsFree slots c from k × (d ≡ record (with_held c from k) { work = to })
Goes steps slots c (Forward from to Tape) d =
    (c.ended ≡ false) × MayAdvance c from to × (to ≡ from + 1) × (to ≡ c.reverse) × (c.tape ≡ None)
    × (d ≡ record c { work = to; tape = Some from })
Goes steps slots c (Reverse from to) d =
    (c.ended ≡ false) × (c.forward_ended ≡ true) × IsSome c.tape × (from ≡ c.reverse) × (to + 1 ≡ from)
    × (d ≡ record c { tape = None; reverse = to })
Goes steps slots c (Copy n k Work) d =
    (c.ended ≡ false) × IsHeld slots c n k × (d ≡ record c { work = n })
Goes steps slots c (Copy n k (Level j)) d =
    (c.ended ≡ false) × IsHeld slots c n k × (j ≢ k) × IsFree slots c n j × (d ≡ with_held c n j)
Goes steps slots c (Move n k Work) d =
    (c.ended ≡ false) × IsHeld slots c n k × (d ≡ record (without_held c n k) { work = n })
Goes steps slots c (Move n k (Level j)) d =
    (c.ended ≡ false) × IsHeld slots c n k × (j ≢ k) × IsFree slots c n j × (d ≡ with_held (without_held c n k) n j)
Goes steps slots c EndForward d =
    (c.ended ≡ false) × (c.forward_ended ≡ false) × (c.work ≡ steps) × (d ≡ record c { forward_ended = true })
Goes steps slots c EndReverse d =
    (c.ended ≡ false) × (c.forward_ended ≡ true) × (c.reverse ≡ 0) × (d ≡ record c { ended = true })
