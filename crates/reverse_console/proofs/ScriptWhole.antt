-- A whole script: its orders or its first fault, and what was read of it.
use Rattle.std.proofs.Common.{◌≡◌, ◌≢◌, ◌⊎◌, ℕ, zero, suc, ◌+◌, ◌≤◌, List, [], ◌∷◌, ◌++◌, length, Option, Some, None, Result, Ok, Err, refl, sym, ap, subst, ◌∙◌, arith, inl, inr, append_assoc, length-append, slice_get}
use Rattle.std.specs.Prelude.{MatchResult, IfOk, IfErr}
use Rattle.std.specs.Global.{Vec}
use Rattle.std.specs.Option.{option_to_list}
use Rattle.std.proofs.lemmas.List.{append-nil}
use Rattle.std.proofs.lemmas.Option.{none-some, same_Some}
use Rattle.reverse_console.specs.declared.order.Order.{Order}
use Rattle.reverse_console.specs.declared.fault.Rule.{Rule}
use Rattle.line_texts.specs.declared.fault.LineFault.{LineFault}
use Rattle.line_texts.specs.declared.fault.Fault.{Fault}
use Rattle.line_texts.specs.declared.fault.Fault.TheVariants.{At, Memory}
use Rattle.reverse_console.specs.Answer.{IsOrder}
use Rattle.reverse_console.specs.ScriptWords.{texts}
use Rattle.line_texts.specs.Tokens.{words}
use Rattle.reverse_console.specs.Script.{Says, IsPassed, LinesSay, IsScript}
use Rattle.reverse_console.specs.ScriptFaults.{FaultIn, fault_at, HasFirstFault}
use Rattle.reverse_console.specs.ScriptLaws.{OneScript, OneFault, ScriptsHaveNoFault, ScriptOrFault}
use Rattle.reverse_console.specs.ScriptParser.{line_of, orders_from, script_of}
use Rattle.line_texts.specs.Parsers.{GivesUnlessMemory}
use Rattle.line_texts.specs.Lines.{lines}
use Rattle.line_texts.proofs.Steps.{done, failed, ok_is, err_is, not_both}
use Rattle.reverse_console.proofs.ScriptLines.{IsAnswerOf, line_answer, passed_read, says_read, fault_read}

-- ---- lines

abbrev pub reading : ℕ → List ℕ → Result (Option Order) (LineFault Rule)
reading count l = line_of count (length l + 1) (words 1 l)

abbrev IsLineAnswer : ℕ → List ℕ → Result (Option Order) (LineFault Rule) → Type 0
IsLineAnswer count l r = IsAnswerOf count (length l + 1) (words 1 l) r

next_ok : (count : ℕ) (orders : List Order) (line : ℕ) (l : List ℕ) (ls : List (List ℕ)) (found : Option Order) → reading count l ≡ Ok found →
    orders_from count orders line (l ∷ ls) ≡ orders_from count (orders ++ option_to_list found) (line + 1) ls
unfolding orders_from
next_ok count orders line l ls found e = rw e refl

next_err : (count : ℕ) (orders : List Order) (line : ℕ) (l : List ℕ) (ls : List (List ℕ)) (fault : LineFault Rule) → reading count l ≡ Err fault →
    orders_from count orders line (l ∷ ls) ≡ Err (fault_at line fault)
unfolding orders_from
next_err count orders line l ls fault e = rw e refl

no_line : (count : ℕ) (orders : List Order) (line : ℕ) → orders_from count orders line [] ≡ Ok orders
unfolding orders_from
no_line count orders line = refl

behind_none : (count : ℕ) (orders : List Order) (line : ℕ) (l : List ℕ) (ls : List (List ℕ)) → reading count l ≡ Ok None →
    orders_from count orders line (l ∷ ls) ≡ orders_from count orders (line + 1) ls
behind_none count orders line l ls e =
    next_ok count orders line l ls None e ∙ ap (λ (xs : List Order). orders_from count xs (line + 1) ls) (append-nil orders)

regroup : (orders : List Order) (o : Order) (more : List Order) → (orders ++ o ∷ []) ++ more ≡ orders ++ o ∷ more
regroup orders o more = append_assoc orders (o ∷ []) more

-- ---- what is said is read

passed : (count : ℕ) (l : List ℕ) → IsPassed l → reading count l ≡ Ok None
passed count l say = passed_read count (length l + 1) (words 1 l) say

said : (count : ℕ) (l : List ℕ) (o : Order) → Says count (texts l) o → reading count l ≡ Ok (Some o)
said count l o say = says_read count (length l + 1) (words 1 l) o say

said_read : (count : ℕ) (orders : List Order) (line : ℕ) (ls : List (List ℕ)) (more : List Order) → LinesSay count ls more → orders_from count orders line ls ≡ Ok (orders ++ more)
said_read count orders line [] [] say = no_line count orders line ∙ ap (done Fault) (sym (append-nil orders))
said_read count orders line [] (o ∷ more) say = absurd say
said_read count orders line (l ∷ ls) [] say = behind_none count orders line l ls (passed count l say.0) ∙ said_read count orders (line + 1) ls [] say.1
said_read count orders line (l ∷ ls) (o ∷ more) (inl say) =
    behind_none count orders line l ls (passed count l say.0) ∙ said_read count orders (line + 1) ls (o ∷ more) say.1
said_read count orders line (l ∷ ls) (o ∷ more) (inr say) =
    next_ok count orders line l ls (Some o) (said count l o say.0)
    ∙ said_read count (orders ++ o ∷ []) (line + 1) ls more say.1
    ∙ ap (done Fault) (regroup orders o more)

-- and a fault behind it is met
fault_met : (count : ℕ) (orders : List Order) (line : ℕ) (before : List (List ℕ)) (here : List ℕ) (after : List (List ℕ)) (more : List Order) (f : LineFault Rule) →
    LinesSay count before more → reading count here ≡ Err f → orders_from count orders line (before ++ here ∷ after) ≡ Err (fault_at (length before + line) f)
fault_met count orders line [] here after [] f say met =
    let numbers : line ≡ 0 + line = omega arith in
    next_err count orders line here after f met ∙ ap (λ (n : ℕ). failed (List Order) (fault_at n f)) numbers
fault_met count orders line [] here after (o ∷ more) f say met = absurd say
fault_met count orders line (l ∷ before) here after [] f say met =
    let numbers : length before + (line + 1) ≡ suc (length before) + line = omega arith in
    behind_none count orders line l (before ++ here ∷ after) (passed count l say.0)
    ∙ fault_met count orders (line + 1) before here after [] f say.1 met
    ∙ ap (λ (n : ℕ). failed (List Order) (fault_at n f)) numbers
fault_met count orders line (l ∷ before) here after (o ∷ more) f (inl say) met =
    let numbers : length before + (line + 1) ≡ suc (length before) + line = omega arith in
    behind_none count orders line l (before ++ here ∷ after) (passed count l say.0)
    ∙ fault_met count orders (line + 1) before here after (o ∷ more) f say.1 met
    ∙ ap (λ (n : ℕ). failed (List Order) (fault_at n f)) numbers
fault_met count orders line (l ∷ before) here after (o ∷ more) f (inr say) met =
    let numbers : length before + (line + 1) ≡ suc (length before) + line = omega arith in
    next_ok count orders line l (before ++ here ∷ after) (Some o) (said count l o say.0)
    ∙ fault_met count (orders ++ o ∷ []) (line + 1) before here after more f say.1 met
    ∙ ap (λ (n : ℕ). failed (List Order) (fault_at n f)) numbers

-- ---- what is read is said

-- lines that were read whole, behind a list
record IsReadWhole (count : ℕ) (ls : List (List ℕ)) (orders out : List Order) : Type 0 where
  more : List Order
  parts : out ≡ orders ++ more
  says : LinesSay count ls more

-- lines that weren't, with the fault that was met
record IsReadUpTo (count line : ℕ) (ls : List (List ℕ)) (e : Fault) : Type 0 where
  before : List (List ℕ)
  here : List ℕ
  after : List (List ℕ)
  parts : ls ≡ before ++ here ∷ after
  more : List Order
  says : LinesSay count before more
  fault : LineFault Rule
  met : FaultIn count here fault
  answer : e ≡ fault_at (length before + line) fault

abbrev AreRead : ℕ → ℕ → List (List ℕ) → List Order → Result (List Order) Fault → Type 0
AreRead count line ls orders (Ok out) = IsReadWhole count ls orders out
AreRead count line ls orders (Err e) = IsReadUpTo count line ls e

more_none : (count : ℕ) (l : List ℕ) (ls : List (List ℕ)) (more : List Order) → IsPassed l → LinesSay count ls more → LinesSay count (l ∷ ls) more
more_none count l ls [] e say = (e, say)
more_none count l ls (o ∷ more) e say = inl (e, say)

one_more_none : (count line : ℕ) (l : List ℕ) (ls : List (List ℕ)) (orders : List Order) (r : Result (List Order) Fault) → IsPassed l → AreRead count (line + 1) ls orders r → AreRead count line (l ∷ ls) orders r
one_more_none count line l ls orders (Ok out) e read = record { more = read.more; parts = read.parts; says = more_none count l ls read.more e read.says }
one_more_none count line l ls orders (Err f) e read =
    let numbers : length read.before + (line + 1) ≡ suc (length read.before) + line = omega arith in
    record {
      before = l ∷ read.before;
      here = read.here;
      after = read.after;
      parts = ap (λ (xs : List (List ℕ)). l ∷ xs) read.parts;
      more = read.more;
      says = more_none count l read.before read.more e read.says;
      fault = read.fault;
      met = read.met;
      answer = read.answer ∙ ap (λ (n : ℕ). fault_at n read.fault) numbers;
    }

one_more_some : (count line : ℕ) (l : List ℕ) (ls : List (List ℕ)) (orders : List Order) (o : Order) (r : Result (List Order) Fault) → Says count (texts l) o →
    AreRead count (line + 1) ls (orders ++ o ∷ []) r → AreRead count line (l ∷ ls) orders r
one_more_some count line l ls orders o (Ok out) e read =
    record { more = o ∷ read.more; parts = read.parts ∙ regroup orders o read.more; says = inr (e, read.says) }
one_more_some count line l ls orders o (Err f) e read =
    let numbers : length read.before + (line + 1) ≡ suc (length read.before) + line = omega arith in
    record {
      before = l ∷ read.before;
      here = read.here;
      after = read.after;
      parts = ap (λ (xs : List (List ℕ)). l ∷ xs) read.parts;
      more = o ∷ read.more;
      says = inr (e, read.says);
      fault = read.fault;
      met = read.met;
      answer = read.answer ∙ ap (λ (n : ℕ). fault_at n read.fault) numbers;
    }

fault_here : (count line : ℕ) (l : List ℕ) (ls : List (List ℕ)) (f : LineFault Rule) → FaultIn count l f → IsReadUpTo count line (l ∷ ls) (fault_at line f)
fault_here count line l ls f met =
    let numbers : line ≡ 0 + line = omega arith in
    record { before = []; here = l; after = ls; parts = refl; more = []; says = tt; fault = f; met = met; answer = ap (λ (n : ℕ). fault_at n f) numbers }

are_read : (count : ℕ) (orders : List Order) (line : ℕ) (ls : List (List ℕ)) → AreRead count line ls orders (orders_from count orders line ls)
are_read count orders line [] =
    let P : Result (List Order) Fault → Type 0 = AreRead count line [] orders in
    subst P (sym (no_line count orders line)) (record { more = []; parts = sym (append-nil orders); says = tt })
are_read count orders line (l ∷ ls) =
    by_line (reading count l) refl (line_answer count (length l + 1) (words 1 l)) (are_read count orders (line + 1) ls) (λ o. are_read count (orders ++ o ∷ []) (line + 1) ls)
  where
    by_line : (r : Result (Option Order) (LineFault Rule)) → reading count l ≡ r → IsLineAnswer count l r →
        AreRead count (line + 1) ls orders (orders_from count orders (line + 1) ls) →
        ((o : Order) → AreRead count (line + 1) ls (orders ++ o ∷ []) (orders_from count (orders ++ o ∷ []) (line + 1) ls)) →
        AreRead count line (l ∷ ls) orders (orders_from count orders line (l ∷ ls))
    by_line (Ok None) e is without with_one =
        let P : Result (List Order) Fault → Type 0 = AreRead count line (l ∷ ls) orders in
        subst P (sym (behind_none count orders line l ls e)) (one_more_none count line l ls orders (orders_from count orders (line + 1) ls) is without)
    by_line (Ok (Some o)) e is without with_one =
        let P : Result (List Order) Fault → Type 0 = AreRead count line (l ∷ ls) orders in
        subst P (sym (next_ok count orders line l ls (Some o) e)) (one_more_some count line l ls orders o (orders_from count (orders ++ o ∷ []) (line + 1) ls) is (with_one o))
    by_line (Err f) e is without with_one =
        let P : Result (List Order) Fault → Type 0 = AreRead count line (l ∷ ls) orders in
        subst P (sym (next_err count orders line l ls f e)) (fault_here count line l ls f is)

-- ---- a whole script

abbrev pub IsWholeAnswer : ℕ → List ℕ → Result (List Order) Fault → Type 0
IsWholeAnswer count bytes (Ok orders) = IsScript count bytes orders
IsWholeAnswer count bytes (Err e) = HasFirstFault count bytes e

pub whole_answer : (count : ℕ) (bytes : List ℕ) → IsWholeAnswer count bytes (script_of count bytes)
unfolding script_of
whole_answer count bytes = by_read (orders_from count [] 1 (lines bytes)) (are_read count [] 1 (lines bytes))
  where
    by_read : (r : Result (List Order) Fault) → AreRead count 1 (lines bytes) [] r → IsWholeAnswer count bytes r
    by_read (Ok orders) read = subst (λ (xs : List Order). LinesSay count (lines bytes) xs) (sym read.parts) read.says
    by_read (Err e) read =
        subst (HasFirstFault count bytes) (sym read.answer)
        (record { before = read.before; here = read.here; after = read.after; parts = read.parts; orders = read.more; says = read.says; of_line = read.fault; met = read.met; is = refl })

pub script_read : (count : ℕ) (bytes : List ℕ) (orders : List Order) → IsScript count bytes orders → script_of count bytes ≡ Ok orders
unfolding script_of
script_read count bytes orders say = said_read count [] 1 (lines bytes) orders say

pub first_fault_read : (count : ℕ) (bytes : List ℕ) (e : Fault) → HasFirstFault count bytes e → script_of count bytes ≡ Err e
unfolding script_of
first_fault_read count bytes Memory f = absurd f
first_fault_read count bytes (At r l c) f =
    ap (orders_from count [] 1) f.parts
    ∙ fault_met count [] 1 f.before f.here f.after f.orders f.of_line f.says (fault_read count (length f.here + 1) (words 1 f.here) f.of_line f.met.0 f.met.1)
    ∙ ap (failed (List Order)) (sym f.is)

-- ---- laws

pub one_script : OneScript
one_script count bytes a b is also = ok_is a b (sym (script_read count bytes a is) ∙ script_read count bytes b also)

pub one_fault : OneFault
one_fault count bytes a b is also = err_is (List Order) a b (sym (first_fault_read count bytes a is) ∙ first_fault_read count bytes b also)

pub no_fault : ScriptsHaveNoFault
no_fault count bytes orders fault is also = not_both orders fault (sym (script_read count bytes orders is) ∙ first_fault_read count bytes fault also)

pub script_or_fault : ScriptOrFault
script_or_fault count bytes = by_answer (script_of count bytes) (whole_answer count bytes)
  where
    by_answer : (r : Result (List Order) Fault) → IsWholeAnswer count bytes r → ((orders : List Order) × IsScript count bytes orders) ⊎ ((fault : Fault) × HasFirstFault count bytes fault)
    by_answer (Ok orders) is = inl (orders, is)
    by_answer (Err e) is = inr (e, is)

-- ---- what a function returned

pub found : (count : ℕ) (bytes : List ℕ) (r : Result (Vec Order) Fault) → GivesUnlessMemory (λ (v : Vec Order). v.items) r (script_of count bytes) → IfOk r (λ v. IsScript count bytes v.items)
found count bytes (Ok v) read = subst (IsWholeAnswer count bytes) read (whole_answer count bytes)
found count bytes (Err e) read = tt

pub only : (count : ℕ) (bytes : List ℕ) (r : Result (Vec Order) Fault) → GivesUnlessMemory (λ (v : Vec Order). v.items) r (script_of count bytes) →
    (orders : List Order) → IsScript count bytes orders → MatchResult r (λ v. v.items ≡ orders) (λ e. e ≡ Memory)
only count bytes (Ok v) read orders is = sym (ok_is orders v.items (sym (script_read count bytes orders is) ∙ read))
only count bytes (Err Memory) read orders is = refl
only count bytes (Err (At r l c)) read orders is = absurd (not_both orders (At r l c) (sym (script_read count bytes orders is) ∙ read))

pub refused : (count : ℕ) (bytes : List ℕ) (r : Result (Vec Order) Fault) → GivesUnlessMemory (λ (v : Vec Order). v.items) r (script_of count bytes) → IfErr r (λ e. e ≢ Memory → HasFirstFault count bytes e)
refused count bytes (Ok v) read = tt
refused count bytes (Err Memory) read = λ other. absurd (other refl)
refused count bytes (Err (At r l c)) read = λ other. subst (IsWholeAnswer count bytes) read (whole_answer count bytes)

pub first : (count : ℕ) (bytes : List ℕ) (r : Result (Vec Order) Fault) → GivesUnlessMemory (λ (v : Vec Order). v.items) r (script_of count bytes) →
    (e : Fault) → HasFirstFault count bytes e → MatchResult r (λ _. ⊥) (λ answer. (answer ≡ e) ⊎ (answer ≡ Memory))
first count bytes (Ok v) read e fault = not_both v.items e (sym read ∙ first_fault_read count bytes e fault)
first count bytes (Err Memory) read e fault = inr refl
first count bytes (Err (At r l c)) read e fault = inl (err_is (List Order) (At r l c) e (sym read ∙ first_fault_read count bytes e fault))

-- ---- orders may be given

each_given : (count : ℕ) (ls : List (List ℕ)) (orders : List Order) → LinesSay count ls orders → (i : ℕ) (o : Order) → slice_get orders i ≡ Some o → IsOrder count o
each_given count ls [] say i o at = absurd (none-some o at)
each_given count [] (x ∷ orders) say i o at = absurd say
each_given count (l ∷ ls) (x ∷ orders) (inl say) i o at = each_given count ls (x ∷ orders) say.1 i o at
each_given count (l ∷ ls) (x ∷ orders) (inr say) zero o at = subst (IsOrder count) (same_Some x o at) say.0.allowed
each_given count (l ∷ ls) (x ∷ orders) (inr say) (suc i) o at = each_given count ls orders say.1 i o at

pub orders_given : (count : ℕ) (bytes : List ℕ) (r : Result (Vec Order) Fault) → GivesUnlessMemory (λ (v : Vec Order). v.items) r (script_of count bytes) →
    IfOk r (λ v. (i : ℕ) (o : Order) → slice_get v.items i ≡ Some o → IsOrder count o)
orders_given count bytes (Ok v) read = each_given count (lines bytes) v.items (found count bytes (Ok v) read)
orders_given count bytes (Err e) read = tt

-- ---- a step of the loop over lines

pub step_ok : (count : ℕ) (orders more : List Order) (line : ℕ) (l : List ℕ) (ls old : List (List ℕ)) (order : Option Order) → old ≡ l ∷ ls → Ok order ≡ reading count l → more ≡ orders ++ option_to_list order →
    orders_from count more (line + 1) ls ≡ orders_from count orders line old
step_ok count orders more line l ls old order is read added =
    ap (λ (xs : List Order). orders_from count xs (line + 1) ls) added
    ∙ sym (next_ok count orders line l ls order (sym read))
    ∙ ap (orders_from count orders line) (sym is)

pub step_err : (count : ℕ) (orders : List Order) (line : ℕ) (l : List ℕ) (ls old : List (List ℕ)) (fault : LineFault Rule) → old ≡ l ∷ ls → Err fault ≡ reading count l →
    orders_from count orders line old ≡ Err (fault_at line fault)
step_err count orders line l ls old fault is read = ap (orders_from count orders line) is ∙ next_err count orders line l ls fault (sym read)

pub step_end : (count : ℕ) (orders : List Order) (line : ℕ) (old : List (List ℕ)) → old ≡ [] → orders_from count orders line old ≡ Ok orders
step_end count orders line old is = ap (orders_from count orders line) is ∙ no_line count orders line

pub one_more_order : (orders : List Order) (order : Option Order) → length (orders ++ option_to_list order) ≤ length orders + 1
one_more_order orders None = omega (arith, length-append orders [])
one_more_order orders (Some o) = omega (arith, length-append orders (o ∷ []))
