-- A command is its word, and its operand is what it is spelled as.
use Rattle.std.proofs.Common.{◌≡◌, ◌≢◌, ℕ, true, false, List, Some, None, refl, sym, ◌∙◌, ap, inl, inr, true≢false, arith}
use Rattle.std.specs.Prelude.{codes}
use Rattle.std.specs.Str.{bytes_eq}
use Rattle.std.proofs.lemmas.Bool.{leb-true, le-leb}
use Rattle.std.proofs.lemmas.Option.{none-some, same_Some}
use Rattle.rv_pages.specs.declared.pages.TheConstants.{LAST_WORD}
use Rattle.reverse_console.specs.declared.command.Command.{Command}
use Rattle.reverse_console.specs.declared.command.Command.TheVariants as command
use Rattle.reverse_console.specs.declared.order.Order.{Order}
use Rattle.reverse_console.specs.declared.order.Order.TheVariants.{Back, Step, Goto, BackTo, RunTo, BackChange, BackWrite}
use Rattle.reverse_console.specs.Answer.{IsOrder}
use Rattle.reverse_console.specs.ScriptWords.{begins_comment}
use Rattle.reverse_console.specs.Script.{command_word, IsOperand}
use Rattle.reverse_console.specs.ScriptParser.{command_of, operand_of, is_given}
use Rattle.line_texts.specs.Parsers.{address_of, number_of}
use Rattle.line_texts.proofs.Steps.{which, same_bytes}
use Rattle.line_texts.proofs.Decimal.{number_is, decimal_is}
use Rattle.line_texts.proofs.Addresses.{address_read, address_is}

-- ---- commands

pub known : (c : Command) → command_of (command_word c) ≡ Some c
unfolding command_of
known command.Back = refl
known command.Step = refl
known command.Goto = refl
known command.BackTo = refl
known command.RunTo = refl
known command.BackChange = refl
known command.BackWrite = refl

-- no command begins a comment
pub no_comment : (c : Command) → begins_comment (command_word c) ≡ false
no_comment command.Back = refl
no_comment command.Step = refl
no_comment command.Goto = refl
no_comment command.BackTo = refl
no_comment command.RunTo = refl
no_comment command.BackChange = refl
no_comment command.BackWrite = refl

named : (text : List ℕ) (d c : Command) → bytes_eq text (command_word d) ≡ true → Some d ≡ Some c → text ≡ command_word c
named text d c hit same = same_bytes text (command_word d) hit ∙ ap command_word (same_Some d c same)

pub command_is : (text : List ℕ) (c : Command) → command_of text ≡ Some c → text ≡ command_word c
unfolding command_of
command_is text c e = elim (which (bytes_eq text (codes "back"))) [
  | inl hit ↦ named text command.Back c hit (rw hit at e)
  | inr miss0 ↦ elim (which (bytes_eq text (codes "step"))) [
    | inl hit ↦ named text command.Step c hit (rw (miss0, hit) at e)
    | inr miss1 ↦ elim (which (bytes_eq text (codes "goto"))) [
      | inl hit ↦ named text command.Goto c hit (rw (miss0, miss1, hit) at e)
      | inr miss2 ↦ elim (which (bytes_eq text (codes "back-to"))) [
        | inl hit ↦ named text command.BackTo c hit (rw (miss0, miss1, miss2, hit) at e)
        | inr miss3 ↦ elim (which (bytes_eq text (codes "run-to"))) [
          | inl hit ↦ named text command.RunTo c hit (rw (miss0, miss1, miss2, miss3, hit) at e)
          | inr miss4 ↦ elim (which (bytes_eq text (codes "back-change"))) [
            | inl hit ↦ named text command.BackChange c hit (rw (miss0, miss1, miss2, miss3, miss4, hit) at e)
            | inr miss5 ↦ elim (which (bytes_eq text (codes "back-write"))) [
              | inl hit ↦ named text command.BackWrite c hit (rw (miss0, miss1, miss2, miss3, miss4, miss5, hit) at e)
              | inr miss6 ↦ absurd (none-some c (rw (miss0, miss1, miss2, miss3, miss4, miss5, miss6) at e))
            ]
          ]
        ]
      ]
    ]
  ]
]

pub other_word : (text : List ℕ) → command_of text ≡ None → (c : Command) → text ≢ command_word c
other_word text none c is = none-some c (sym none ∙ ap command_of is ∙ known c)

-- ---- operands

pub operand_read : (c : Command) (text : List ℕ) (n : ℕ) → IsOperand c text n → operand_of c text ≡ Some n
operand_read command.Back text n is = ap (number_of 1000000) is.1 ∙ decimal_is 1000000 n (omega arith) is.0
operand_read command.Step text n is = ap (number_of 1000000) is.1 ∙ decimal_is 1000000 n (omega arith) is.0
operand_read command.Goto text n is = ap (number_of 1000000) is.1 ∙ decimal_is 1000000 n (omega arith) is.0
operand_read command.BackTo text n is = ap address_of is.1 ∙ address_read n is.0
operand_read command.RunTo text n is = ap address_of is.1 ∙ address_read n is.0
operand_read command.BackChange text n is = ap address_of is.1 ∙ address_read n is.0
operand_read command.BackWrite text n is = ap address_of is.1 ∙ address_read n is.0

pub operand_is : (c : Command) (text : List ℕ) (n : ℕ) → operand_of c text ≡ Some n → IsOperand c text n
operand_is command.Back text n e = number_is 1000000 text n (omega arith) e
operand_is command.Step text n e = number_is 1000000 text n (omega arith) e
operand_is command.Goto text n e = number_is 1000000 text n (omega arith) e
operand_is command.BackTo text n e = address_is text n e
operand_is command.RunTo text n e = address_is text n e
operand_is command.BackChange text n e = address_is text n e
operand_is command.BackWrite text n e = address_is text n e

pub other_operand : (c : Command) (text : List ℕ) → operand_of c text ≡ None → (n : ℕ) → IsOperand c text n → ⊥
other_operand c text none n is = none-some n (sym none ∙ operand_read c text n is)

-- ---- orders

pub given_is : (count : ℕ) (order : Order) → is_given count order ≡ true → IsOrder count order
given_is count (Back k) e = tt
given_is count (Step k) e = tt
given_is count (Goto k) e = leb-true k count e
given_is count (BackTo a) e = tt
given_is count (RunTo a) e = tt
given_is count (BackChange word) e = leb-true word LAST_WORD e
given_is count (BackWrite word) e = leb-true word LAST_WORD e

pub is_given_again : (count : ℕ) (order : Order) → IsOrder count order → is_given count order ≡ true
is_given_again count (Back k) is = refl
is_given_again count (Step k) is = refl
is_given_again count (Goto k) is = le-leb k count is
is_given_again count (BackTo a) is = refl
is_given_again count (RunTo a) is = refl
is_given_again count (BackChange word) is = le-leb word LAST_WORD is
is_given_again count (BackWrite word) is = le-leb word LAST_WORD is

pub not_given : (count : ℕ) (order : Order) → is_given count order ≡ false → IsOrder count order → ⊥
not_given count order fails is = true≢false (sym (is_given_again count order is) ∙ fails)

pub given_or_not : (count : ℕ) (order : Order) → (IsOrder count order → ⊥) → is_given count order ≡ false
given_or_not count order none = elim (which (is_given count order)) [
  | inl holds ↦ absurd (none (given_is count order holds))
  | inr fails ↦ fails
]
