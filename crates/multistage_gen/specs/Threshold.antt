-- Why a multistage list costs the least of its class: a threshold separates its places by level. The underlying
-- exchange of two places is our own, and so is its form.
use Rattle.std.specs.Prelude.{◌≡◌, ◌⊎◌, ℕ, ◌<◌, ◌≤◌, List, [], ◌∷◌, length, slice_index}
use Rattle.plan_types.specs.declared.action.Action.{Action}
use Rattle.level_book.specs.declared.book.Level.{Level}
use Rattle.level_book.specs.BookCosts.{BookCosts, room}
use Rattle.level_book.specs.CostFold.{cost}
use Rattle.revolve_gen.specs.Places.{places_on}
use Rattle.revolve_gen.specs.Stack.{places_used}
use Rattle.revolve_gen.specs.Multistage.{HasLevels, IsMultistage, saving}
use Rattle.multistage_gen.specs.MultistageList.{IsMultistageList}

-- what the places of a list save, each at its number
pub record AreSavings (list : List Action) (fast slow : Level) (savings : List ℕ) : Type 0 where
  pub count : length savings ≡ places_used list
  pub each : (p : ℕ) → p < places_used list → slice_index savings p ≡ saving list fast slow p

-- The list's places, with these levels, meet the threshold. Each used place on level 0 saves at least the threshold.
-- Each on level 1 would save at most the threshold. The threshold is 0, or the used places fill level 0.
pub record MeetsThreshold (threshold steps : ℕ) (book : BookCosts) (fast slow : Level) (level : ℕ → ℕ) (list : List Action) : Type 0 where
  pub above : (p : ℕ) → p < places_used list → level p ≡ 0 → threshold ≤ saving list fast slow p
  pub below : (p : ℕ) → p < places_used list → level p ≡ 1 → saving list fast slow p ≤ threshold
  pub full : (threshold ≡ 0) ⊎ (places_on level 0 (places_used list) ≡ room book 0 steps)

-- Let the book's second level cost no less than its first. Then no list of the class costs less than one whose places
-- meet a threshold. Every list of the class has such levels.
abbrev pub LeastOfTheMultistage : ℕ → BookCosts → Type 0
LeastOfTheMultistage steps book =
    (threshold : ℕ) (fast slow : Level) (level : ℕ → ℕ) (list other : List Action) → book.levels ≡ fast ∷ slow ∷ [] →
    fast.write ≤ slow.write → fast.read ≤ slow.read → HasLevels steps book level list →
    MeetsThreshold threshold steps book fast slow level list → IsMultistage steps book other → cost list book ≤ cost other book

-- If the second level costs no less than the first, the planned list costs the least of the class.
abbrev pub PlannedIsLeast : ℕ → BookCosts → List Action → List Action → Type 0
PlannedIsLeast steps book list other =
    (is : IsMultistageList steps book list) → is.fast.write ≤ is.slow.write → is.fast.read ≤ is.slow.read → IsMultistage steps book other →
    cost list book ≤ cost other book
