-- What a line gives, or its fault, is what is read of it.
use Rattle.std.proofs.Common.{◌≡◌, ◌≢◌, ℕ, Bool, true, false, cond, List, [], ◌∷◌, map, Option, Some, None, Result, Ok, Err, refl, sym, ◌∙◌, ap, subst, inl, inr, true≢false}
use Rattle.reverse_console.specs.declared.command.Command.{Command}
use Rattle.reverse_console.specs.declared.order.Order.{Order}
use Rattle.reverse_console.specs.declared.fault.Rule.{Rule}
use Rattle.line_texts.specs.declared.fault.LineFault.{LineFault}
use Rattle.reverse_console.specs.declared.fault.Rule.TheVariants as rule
use Rattle.reverse_console.specs.Answer.{IsOrder}
use Rattle.reverse_console.specs.ScriptWords.{begins_comment}
use Rattle.reverse_console.specs.Script.{command_word, order_with, IsOperand, Says, SayNothing}
use Rattle.reverse_console.specs.ScriptFaults.{IsFault, broken, rule_of}
use Rattle.reverse_console.specs.ScriptParser.{command_of, operand_of, is_given, in_range, given_by, given, alone, behind_command, with_command, line_of}
use Rattle.reverse_console.proofs.ScriptCommands.{known, no_comment, command_is, other_word, operand_read, operand_is, other_operand, given_is, is_given_again, not_given, given_or_not}
use Rattle.line_texts.specs.Tokens.{Token}
use Rattle.line_texts.proofs.Steps.{which}

-- ---- what is read is said, or it is the fault

abbrev pub IsAnswerOf : ℕ → ℕ → List Token → Result (Option Order) (LineFault Rule) → Type 0
IsAnswerOf count end ws (Ok None) = SayNothing ws
IsAnswerOf count end ws (Ok (Some order)) = Says count (map (λ w. w.text) ws) order
IsAnswerOf count end ws (Err fault) = (SayNothing ws → ⊥) × IsFault count end ws fault

-- a command with its operand, behind which words stand
record IsGiven (count : ℕ) (c : Command) (w v : Token) (n : ℕ) : Type 0 where
  word : w.text ≡ command_word c
  operand : IsOperand c v.text n
  some : begins_comment w.text ≡ true → ⊥

by_end : (count end : ℕ) (c : Command) (w v : Token) (vs : List Token) (n : ℕ) → IsGiven count c w v n → IsOrder count (order_with c n) → IsAnswerOf count end (w ∷ v ∷ vs) (alone vs (Ok (order_with c n)))
by_end count end c w v [] n g allowed =
    record { begins = c; behind = v.text; parts = ap (λ (t : List ℕ). t ∷ v.text ∷ []) g.word; number = n; operand = g.operand; is = refl; allowed = allowed }
by_end count end c w v (u ∷ us) n g allowed = (g.some, IsFault.further_word c w v u us refl g.word n g.operand allowed refl)

by_range : (count end : ℕ) (c : Command) (w v : Token) (vs : List Token) (n : ℕ) (b : Bool) → IsGiven count c w v n → is_given count (order_with c n) ≡ b →
    IsAnswerOf count end (w ∷ v ∷ vs) (alone vs (cond b (Ok (order_with c n)) (Err (broken rule.Range v.column))))
by_range count end c w v vs n true g e = by_end count end c w v vs n g (given_is count (order_with c n) e)
by_range count end c w v vs n false g e = (g.some, IsFault.out_of_range c w v vs refl g.word n g.operand (not_given count (order_with c n) e) refl)

by_operand : (count end : ℕ) (c : Command) (w v : Token) (vs : List Token) (r : Option ℕ) → w.text ≡ command_word c → (begins_comment w.text ≡ true → ⊥) → operand_of c v.text ≡ r →
    IsAnswerOf count end (w ∷ v ∷ vs) (alone vs (given_by count c v.column r))
by_operand count end c w v vs None is some e = (some, IsFault.other_operand c w v vs refl is (other_operand c v.text e) refl)
by_operand count end c w v vs (Some n) is some e =
    by_range count end c w v vs n (is_given count (order_with c n)) (record { word = is; operand = operand_is c v.text n e; some = some }) refl

by_words : (count end : ℕ) (c : Command) (w : Token) (ws : List Token) → w.text ≡ command_word c → (begins_comment w.text ≡ true → ⊥) → IsAnswerOf count end (w ∷ ws) (behind_command count end c ws)
unfolding given
by_words count end c w [] is some = (some, IsFault.no_operand c w refl is refl)
by_words count end c w (v ∷ vs) is some = by_operand count end c w v vs (operand_of c v.text) is some refl

by_command : (count end : ℕ) (w : Token) (ws : List Token) (r : Option Command) → (begins_comment w.text ≡ true → ⊥) → command_of w.text ≡ r → IsAnswerOf count end (w ∷ ws) (with_command count end w.column ws r)
by_command count end w ws None some e = (some, IsFault.no_command w ws refl (other_word w.text e) refl)
by_command count end w ws (Some c) some e = by_words count end c w ws (command_is w.text c e) some

by_first : (count end : ℕ) (w : Token) (ws : List Token) (b : Bool) → begins_comment w.text ≡ b → IsAnswerOf count end (w ∷ ws) (cond b (Ok None) (with_command count end w.column ws (command_of w.text)))
by_first count end w ws true e = e
by_first count end w ws false e = by_command count end w ws (command_of w.text) (λ said. true≢false (sym said ∙ e)) refl

pub line_answer : (count end : ℕ) (ws : List Token) → IsAnswerOf count end ws (line_of count end ws)
unfolding line_of
line_answer count end [] = tt
line_answer count end (w ∷ ws) = by_first count end w ws (begins_comment w.text) refl

-- ---- what is said is read, and so is the fault

abbrev read_as : Option Order → Result (Option Order) (LineFault Rule)
read_as found = Ok found

abbrev refused_for : LineFault Rule → Result (Option Order) (LineFault Rule)
refused_for fault = Err fault

pub passed_read : (count end : ℕ) (ws : List Token) → SayNothing ws → line_of count end ws ≡ Ok None
unfolding line_of
passed_read count end [] say = refl
passed_read count end (w ∷ ws) say = rw say refl

command_read : (count end : ℕ) (c : Command) (w : Token) (ws : List Token) → w.text ≡ command_word c → line_of count end (w ∷ ws) ≡ behind_command count end c ws
unfolding line_of
command_read count end c w ws is =
    let plain : begins_comment w.text ≡ false = ap begins_comment is ∙ no_comment c in
    let named : command_of w.text ≡ Some c = ap command_of is ∙ known c in
    rw (plain, named) refl

range_of : (count end : ℕ) (c : Command) (w v : Token) (vs : List Token) (n : ℕ) → w.text ≡ command_word c → IsOperand c v.text n →
    line_of count end (w ∷ v ∷ vs) ≡ alone vs (in_range count (order_with c n) v.column)
unfolding given
range_of count end c w v vs n is operand =
    command_read count end c w (v ∷ vs) is ∙ ap (λ (r : Option ℕ). alone vs (given_by count c v.column r)) (operand_read c v.text n operand)

order_read : (count end : ℕ) (c : Command) (w v : Token) (vs : List Token) (n : ℕ) → w.text ≡ command_word c → IsOperand c v.text n → IsOrder count (order_with c n) →
    line_of count end (w ∷ v ∷ vs) ≡ alone vs (Ok (order_with c n))
order_read count end c w v vs n is operand allowed =
    range_of count end c w v vs n is operand
    ∙ ap (λ (b : Bool). alone vs (cond b (Ok (order_with c n)) (Err (broken rule.Range v.column)))) (is_given_again count (order_with c n) allowed)

pub says_read : (count end : ℕ) (ws : List Token) (order : Order) → Says count (map (λ w. w.text) ws) order → line_of count end ws ≡ Ok (Some order)
says_read count end [] order s = absurd (cc s.parts)
says_read count end (w ∷ []) order s = absurd (cc s.parts)
says_read count end (w ∷ v ∷ []) order s =
    let word : w.text ≡ command_word s.begins = cc s.parts in
    let text : v.text ≡ s.behind = cc s.parts in
    let operand : IsOperand s.begins v.text s.number = (s.operand.0, text ∙ s.operand.1) in
    let allowed : IsOrder count (order_with s.begins s.number) = subst (IsOrder count) s.is s.allowed in
    order_read count end s.begins w v [] s.number word operand allowed ∙ ap (λ (o : Order). read_as (Some o)) (sym s.is)
says_read count end (w ∷ v ∷ u ∷ us) order s = absurd (cc s.parts)

no_command_read : (count end : ℕ) (w : Token) (ws : List Token) → (begins_comment w.text ≡ true → ⊥) → ((c : Command) → w.text ≢ command_word c) → line_of count end (w ∷ ws) ≡ Err (broken rule.NotCommand w.column)
unfolding line_of
no_command_read count end w ws some others = elim (which (begins_comment w.text)) [
  | inl comment ↦ absurd (some comment)
  | inr plain ↦ let named : command_of w.text ≡ None = by_name (command_of w.text) refl in rw (plain, named) refl
]
  where
    by_name : (r : Option Command) → command_of w.text ≡ r → command_of w.text ≡ None
    by_name None e = e
    by_name (Some c) e = absurd (others c (command_is w.text c e))

other_read : (count end : ℕ) (c : Command) (w v : Token) (vs : List Token) → w.text ≡ command_word c → ((n : ℕ) → IsOperand c v.text n → ⊥) → line_of count end (w ∷ v ∷ vs) ≡ Err (broken (rule_of c) v.column)
unfolding given
other_read count end c w v vs is others =
    command_read count end c w (v ∷ vs) is ∙ ap (λ (r : Option ℕ). alone vs (given_by count c v.column r)) (by_number (operand_of c v.text) refl)
  where
    by_number : (r : Option ℕ) → operand_of c v.text ≡ r → operand_of c v.text ≡ None
    by_number None e = e
    by_number (Some n) e = absurd (others n (operand_is c v.text n e))

pub fault_read : (count end : ℕ) (ws : List Token) (fault : LineFault Rule) → (SayNothing ws → ⊥) → IsFault count end ws fault → line_of count end ws ≡ Err fault
fault_read count end ws fault some (IsFault.no_command w others parts none is) =
    ap (line_of count end) parts ∙ no_command_read count end w others (λ say. some (subst SayNothing (sym parts) say)) none ∙ ap refused_for (sym is)
fault_read count end ws fault some (IsFault.no_operand c w parts word is) =
    ap (line_of count end) parts ∙ command_read count end c w [] word ∙ ap refused_for (sym is)
fault_read count end ws fault some (IsFault.other_operand c w v others parts word none is) =
    ap (line_of count end) parts ∙ other_read count end c w v others word none ∙ ap refused_for (sym is)
fault_read count end ws fault some (IsFault.out_of_range c w v others parts word n operand none is) =
    ap (line_of count end) parts
    ∙ range_of count end c w v others n word operand
    ∙ ap (λ (b : Bool). alone others (cond b (Ok (order_with c n)) (Err (broken rule.Range v.column)))) (given_or_not count (order_with c n) none)
    ∙ ap refused_for (sym is)
fault_read count end ws fault some (IsFault.further_word c w v u others parts word n operand allowed is) =
    ap (line_of count end) parts ∙ order_read count end c w v (u ∷ others) n word operand allowed ∙ ap refused_for (sym is)
