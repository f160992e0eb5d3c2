-- What is read of a line whose first token is a word, and of one whose isn't.
use Rattle.std.proofs.Common.{◌≡◌, ℕ, Bool, true, false, List, Option, Some, None, Result, Err, refl, sym, ap, ◌∙◌, inl, inr}
use Rattle.plan_types.specs.declared.action.Action.{Action}
use Rattle.action_text.specs.declared.fault.Rule.{Rule}
use Rattle.line_texts.specs.declared.fault.LineFault.{LineFault}
use Rattle.action_text.specs.declared.words.Kind.{Kind}
use Rattle.action_text.specs.Tokens.{starts_run}
use Rattle.line_texts.proofs.Steps.{which}
use Rattle.action_text.specs.CursorState.{Rest}
use Rattle.action_text.specs.Parser.{text_at, column_at, behind, says_nothing, not_action, word_next, kind_of, arguments_of, profiled, action_of, line_of}
use Rattle.line_texts.specs.Parsers.{◌>>=◌}

pub line_unnamed : (names : List (List ℕ)) (full : Bool) (old seen : Rest) (fault : LineFault Rule) → says_nothing old.tokens ≡ false → seen ≡ old →
    (starts_run (text_at seen) ≡ false) × (fault ≡ not_action (column_at seen)) → line_of names full old ≡ Err fault
unfolding line_of word_next
line_unnamed names full old seen fault some same is =
    let none : starts_run (text_at old) ≡ false = ap (λ (r : Rest). starts_run (text_at r)) (sym same) ∙ is.0 in
    let fault_is : not_action (column_at old) ≡ fault = ap (λ (r : Rest). not_action (column_at r)) (sym same) ∙ sym is.1 in
    rw (some, none) (ap (λ (f : LineFault Rule). let r : Result (Option Action) (LineFault Rule) = Err f in r) fault_is)

pub line_named : (names : List (List ℕ)) (full : Bool) (old seen next : Rest) (text : List ℕ) (column : ℕ) → says_nothing old.tokens ≡ false → seen ≡ old →
    (starts_run (text_at seen) ≡ true) × (text ≡ text_at seen) × (column ≡ column_at seen) × (next ≡ behind seen) →
    line_of names full old ≡ action_of names full column (kind_of text) next
unfolding line_of word_next
line_named names full old seen next text column some same is =
    let run : starts_run (text_at old) ≡ true = ap (λ (r : Rest). starts_run (text_at r)) (sym same) ∙ is.0 in
    let text_is : text_at old ≡ text = ap text_at (sym same) ∙ sym is.1 in
    let column_is : column_at old ≡ column = ap column_at (sym same) ∙ sym is.2 in
    let next_is : behind old ≡ next = ap behind (sym same) ∙ sym is.3 in
    rw (some, run)
    (ap (λ (t : List ℕ). action_of names full (column_at old) (kind_of t) (behind old)) text_is
    ∙ ap (λ (k : ℕ). action_of names full k (kind_of text) (behind old)) column_is
    ∙ ap (action_of names full column (kind_of text)) next_is)

-- the same, where it was looked for the name of a kind alone
pub line_kindless : (names : List (List ℕ)) (full : Bool) (old seen : Rest) (column : ℕ) → says_nothing old.tokens ≡ false → seen ≡ old → column ≡ column_at seen →
    kind_of (text_at seen) ≡ None → line_of names full old ≡ Err (not_action column)
line_kindless names full old seen column some same column_is none = elim (which (starts_run (text_at seen))) [
  | inl run ↦
      line_named names full old seen (behind seen) (text_at seen) column some same (run, refl, column_is, refl)
      ∙ ap (λ (k : Option Kind). action_of names full column k (behind seen)) none
  | inr other ↦ line_unnamed names full old seen (not_action column) some same (other, ap not_action column_is)
]

pub line_of_kind : (names : List (List ℕ)) (full : Bool) (old seen next : Rest) (kind : Kind) (column : ℕ) → says_nothing old.tokens ≡ false → seen ≡ old → column ≡ column_at seen →
    (kind_of (text_at seen) ≡ Some kind) × (starts_run (text_at seen) ≡ true) × (next ≡ behind seen) →
    line_of names full old ≡ action_of names full column (Some kind) next
line_of_kind names full old seen next kind column some same column_is is =
    line_named names full old seen next (text_at seen) column some same (is.1, refl, column_is, is.2)
    ∙ ap (λ (k : Option Kind). action_of names full column k next) is.0

pub action_some : (names : List (List ℕ)) (column : ℕ) (rest : Rest) (kind : Kind) (full : Bool) → full ≡ false →
    action_of names full column (Some kind) rest ≡ (arguments_of names kind rest >>= profiled column)
action_some names column rest kind full room = rw room refl
