-- A line of the second pass.
use Rattle.std.proofs.Common.{◌≡◌, ℕ, ◌+◌, ◌≤◌, Bool, true, false, cond, is_some, List, [], ◌∷◌, ◌++◌, length, Option, Some, None, Ok, Err, sym, ap, ◌∙◌, arith, length-append}
use Rattle.std.specs.Option.{option_to_list}
use Rattle.rv_asm.specs.declared.fault.Rule.{Rule}
use Rattle.line_texts.specs.declared.fault.LineFault.{LineFault}
use Rattle.rv_asm.specs.Tokens.{tokens}
use Rattle.line_texts.specs.Tokens.{Token}
use Rattle.rv_asm.specs.Table.{named}
use Rattle.rv_asm.specs.LineMeaning.{Names, behind_label, line_of}
use Rattle.line_texts.specs.Cursors.{text_in}
use Rattle.rv_asm.specs.Source.{fault_at, words_in}
use Rattle.rv_asm.specs.Encoder.{code_table, lines_from}
use Rattle.rv_asm.proofs.TableEquivalence.{step_ok, step_err, step_end}

pub pass_ok : (names : Names) (words more : List ℕ) (number place : ℕ) (bytes : List ℕ) (ls old : List (List ℕ)) (found : Option ℕ) → old ≡ bytes ∷ ls → place ≡ length words →
    Ok found ≡ line_of code_table names number place (length bytes + 1) (tokens 1 bytes) → more ≡ words ++ option_to_list found →
    lines_from code_table names more (number + 1) ls ≡ lines_from code_table names words number old
pass_ok names words more number place bytes ls old found is places read added =
    ap (λ (xs : List ℕ). lines_from code_table names xs (number + 1) ls) added
    ∙ sym (step_ok code_table names words number bytes ls found (ap (λ (n : ℕ). line_of code_table names number n (length bytes + 1) (tokens 1 bytes)) (sym places) ∙ sym read))
    ∙ ap (lines_from code_table names words number) (sym is)

pub pass_err : (names : Names) (words : List ℕ) (number place : ℕ) (bytes : List ℕ) (ls old : List (List ℕ)) (fault : LineFault Rule) → old ≡ bytes ∷ ls → place ≡ length words →
    Err fault ≡ line_of code_table names number place (length bytes + 1) (tokens 1 bytes) → lines_from code_table names words number old ≡ Err (fault_at number fault)
pass_err names words number place bytes ls old fault is places read =
    ap (lines_from code_table names words number) is
    ∙ step_err code_table names words number bytes ls fault (ap (λ (n : ℕ). line_of code_table names number n (length bytes + 1) (tokens 1 bytes)) (sym places) ∙ sym read)

pub pass_end : (names : Names) (words : List ℕ) (number : ℕ) (old : List (List ℕ)) → old ≡ [] → lines_from code_table names words number old ≡ Ok words
pass_end names words number old is = ap (lines_from code_table names words number) is ∙ step_end code_table names words number

pub one_more_word : (words : List ℕ) (found : Option ℕ) → length (words ++ option_to_list found) ≤ length words + 1
one_more_word words None = omega (arith, length-append words [])
one_more_word words (Some w) = omega (arith, length-append words (w ∷ []))

-- a line has a word or none
one_or_none : (b : Bool) → let n : ℕ = cond b 1 0 in n ≤ 1
one_or_none true = omega arith
one_or_none false = omega arith

pub at_most_one : (ts : List Token) → words_in code_table ts ≤ 1
at_most_one ts = one_or_none (is_some (named code_table (text_in (behind_label ts))))
