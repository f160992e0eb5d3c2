-- What the definitions of moves, rules and valid lists imply.
use Rattle.std.specs.Prelude.{◌≡◌, ◌↔◌, ◌⊎◌, ℕ, ◌+◌, ◌<◌, ◌≤◌, List, length, slice_get, Some}
use Rattle.plan_types.specs.declared.action.Action.{Action}
use Rattle.plan_types.specs.declared.action.Action.TheVariants.{EndReverse}
use Rattle.level_book.specs.declared.book.Slots.{Slots}
use Rattle.level_book.specs.Configuration.{Configuration}
use Rattle.level_book.specs.Moves.{Goes}
use Rattle.level_book.specs.Rules.{rule}
use Rattle.level_book.specs.Valid.{Valid, BrokenAt}
use Rattle.schedule_rules.specs.Reachability.{IsReached, IsSound}

-- Let no more be left to reverse than there are steps. Then an action breaks no rule exactly if it leads somewhere.
-- Every reachable configuration is like that, since it is sound.
abbrev pub RulesAreMoves : ℕ → List Slots → Configuration → Action → Type 0
RulesAreMoves steps slots c a = c.reverse ≤ steps → (rule steps slots c a ≡ 0) ↔ ((d : Configuration) × Goes steps slots c a d)

-- an action leads to at most one configuration
abbrev pub MovesAreUnique : ℕ → List Slots → Configuration → Action → Type 0
MovesAreUnique steps slots c a = (d e : Configuration) → Goes steps slots c a d → Goes steps slots c a e → d ≡ e

-- every reachable configuration is sound
abbrev pub ReachedIsSound : ℕ → List Slots → Configuration → Type 0
ReachedIsSound steps slots c = IsReached steps slots c → IsSound steps slots c

-- an action of the list is EndReverse exactly if it is the last
abbrev pub EndReverseIsLast : List Action → Type 0
EndReverseIsLast list = (k : ℕ) → k < length list → (slice_get list k ≡ Some EndReverse) ↔ (k + 1 ≡ length list)

-- two places at which a list is first broken are equal, and so are the rules and the levels
abbrev pub FirstBrokenIsUnique : ℕ → List Slots → List Action → Type 0
FirstBrokenIsUnique steps slots list =
    (place place' number number' level level' : ℕ) → BrokenAt steps slots list place number level → BrokenAt steps slots list place' number' level' →
    (place ≡ place') × (number ≡ number') × (level ≡ level')

-- no list is both valid and broken
abbrev pub ValidIsUnbroken : ℕ → List Slots → List Action → Type 0
ValidIsUnbroken steps slots list = Valid steps slots list → (place number level : ℕ) → BrokenAt steps slots list place number level → ⊥

-- a list is valid, or there is a place at which it is broken
abbrev pub IsValidOrBroken : ℕ → List Slots → List Action → Type 0
IsValidOrBroken steps slots list = Valid steps slots list ⊎ ((place : ℕ) × (number : ℕ) × (level : ℕ) × BrokenAt steps slots list place number level)
