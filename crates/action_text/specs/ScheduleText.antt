-- Which bytes are the text of a list of actions.
use Rattle.std.specs.Prelude.{◌≤◌, ◌⊎◌, ℕ, List, [], ◌∷◌, map, length}
use Rattle.plan_types.specs.declared.limits.TheConstants.{MOST_ACTIONS}
use Rattle.plan_types.specs.declared.action.Action.{Action}
use Rattle.action_text.specs.Tokens.{tokens}
use Rattle.line_texts.specs.Lines.{lines}
use Rattle.action_text.specs.Meaning.{Says, IsPassed}

-- the texts of a line's tokens
abbrev pub texts : List ℕ → List (List ℕ)
texts line = map (λ t. t.text) (tokens 1 line)

-- each line means nothing, or the next action of the list, and no action is left
abbrev pub LinesSay : List (List ℕ) → List (List ℕ) → List Action → Type 0
LinesSay names [] [] = Unit {0}
LinesSay names [] (a ∷ list) = ⊥
LinesSay names (line ∷ rest) [] = IsPassed line × LinesSay names rest []
LinesSay names (line ∷ rest) (a ∷ list) =
    (IsPassed line × LinesSay names rest (a ∷ list)) ⊎ (Says names (texts line) a × LinesSay names rest list)

-- the bytes mean this list, of at most 16,777,216 actions
pub record IsSchedule (names : List (List ℕ)) (bytes : List ℕ) (list : List Action) : Type 0 where
  pub few : length list ≤ MOST_ACTIONS
  pub says : LinesSay names (lines bytes) list
