-- What is read of many lines, one after the other.
use Rattle.std.proofs.Common.{◌≡◌, ℕ, suc, ◌+◌, Bool, true, false, eqb, List, [], ◌∷◌, ◌++◌, length, Option, Result, Ok, Err, refl, sym, ap, ◌∙◌}
use Rattle.std.specs.Option.{option_to_list}
use Rattle.plan_types.specs.declared.action.Action.{Action}
use Rattle.action_text.specs.declared.fault.Rule.{Rule}
use Rattle.line_texts.specs.declared.fault.LineFault.{LineFault}
use Rattle.line_texts.specs.declared.fault.Fault.{Fault}
use Rattle.line_texts.specs.Lines.{lines}
use Rattle.action_text.specs.CursorState.{Rest}
use Rattle.action_text.specs.Parser.{line_of, fault_at, in_line, has_line, next_line, lines_of, here_of, reading}
use Rattle.line_texts.specs.Parsers.{◌>>=◌}
use Rattle.action_text.proofs.NextToken.{lines_are}

-- how a line goes on that was read, or that has a fault
abbrev go_on : List (List ℕ) → List Action → ℕ → List (List ℕ) → Result (Option Action) (LineFault Rule) → Result (List Action) Fault
go_on names list n later read = in_line n read >>= λ found. lines_of names (list ++ option_to_list found) (n + 1) later

pub here_err : (names : List (List ℕ)) (list : List Action) (n : ℕ) (rest : Rest) (full : Bool) (fault : LineFault Rule) → full ≡ eqb (length list) 16777216 →
    line_of names full rest ≡ Err fault → here_of names list n rest ≡ Err (fault_at n fault)
unfolding here_of
here_err names list n rest full fault is read = ap (λ (b : Bool). go_on names list n rest.later (line_of names b rest)) (sym is) ∙ ap (go_on names list n rest.later) read

pub here_ok : (names : List (List ℕ)) (list more : List Action) (n : ℕ) (rest : Rest) (full : Bool) (found : Option Action) → full ≡ eqb (length list) 16777216 →
    line_of names full rest ≡ Ok found → more ≡ list ++ option_to_list found → here_of names list n rest ≡ lines_of names more (n + 1) rest.later
unfolding here_of
here_ok names list more n rest full found is read added =
    ap (λ (b : Bool). go_on names list n rest.later (line_of names b rest)) (sym is)
    ∙ ap (go_on names list n rest.later) read
    ∙ ap (λ (xs : List Action). lines_of names xs (n + 1) rest.later) (sym added)

pub lines_end : (names : List (List ℕ)) (list : List Action) (n : ℕ) (later : List (List ℕ)) → has_line later ≡ false → lines_of names list n later ≡ Ok list
unfolding lines_of
lines_end names list n [] none = refl
lines_end names list n (line ∷ later) none = absurd cc

pub lines_next : (names : List (List ℕ)) (list : List Action) (n : ℕ) (later : List (List ℕ)) → has_line later ≡ true → here_of names list n (next_line later) ≡ lines_of names list n later
unfolding here_of lines_of
lines_next names list n [] some = absurd cc
lines_next names list n (line ∷ later) some = refl

pub one_line_less : (later : List (List ℕ)) → has_line later ≡ true → length later ≡ suc (length (next_line later).later)
one_line_less [] some = absurd cc
one_line_less (line ∷ later) some = refl

pub first_line_here : (names : List (List ℕ)) (bs : List ℕ) → here_of names [] 1 (next_line (lines bs)) ≡ reading names bs
unfolding reading
first_line_here names bs = lines_next names [] 1 (lines bs) (ap has_line (lines_are bs))
