-- A whole text: what it says, or its first fault, and what was read of it.
use Rattle.std.proofs.Common.{◌≡◌, ◌≢◌, ◌⊎◌, ℕ, ◌+◌, ◌≤◌, eqb, List, [], ◌∷◌, ◌++◌, length, Option, Some, None, Result, Ok, Err, refl, sym, ap, subst, ◌∙◌, arith, inl, inr, append_assoc, length-append}
use Rattle.std.specs.Prelude.{MatchResult, IfOk, IfErr}
use Rattle.std.specs.Option.{option_to_list}
use Rattle.std.proofs.lemmas.List.{append-nil}
use Rattle.std.specs.Global.{Vec}
use Rattle.level_book.specs.Names.{AreNames}
use Rattle.plan_types.specs.declared.action.Action.{Action}
use Rattle.action_text.specs.declared.fault.Rule.{Rule}
use Rattle.line_texts.specs.declared.fault.LineFault.{LineFault}
use Rattle.line_texts.specs.declared.fault.Fault.{Fault}
use Rattle.line_texts.specs.declared.fault.Fault.TheVariants.{At, Memory}
use Rattle.action_text.specs.Meaning.{Says, IsPassed}
use Rattle.action_text.specs.ScheduleText.{texts, LinesSay, IsSchedule}
use Rattle.line_texts.specs.Lines.{lines}
use Rattle.action_text.specs.Faults.{FaultIn, FirstFault, HasFirstFault}
use Rattle.action_text.specs.Laws.{OneSchedule, OneFault, SchedulesHaveNoFault, ScheduleOrFault}
use Rattle.action_text.specs.Parser.{line_of, number_of_rule, fault_at, in_line, whole_line, lines_of, reading}
use Rattle.line_texts.specs.Parsers.{◌>>=◌, Fails, GivesUnlessMemory}
use Rattle.line_texts.proofs.Steps.{done}
use Rattle.action_text.proofs.ArgumentMeaning.{one_action}
use Rattle.action_text.proofs.LineFaults.{IsReadLine, IsLineFault, IsAnswer, line_answer}
use Rattle.action_text.proofs.OneFault.{Places, places, one_fault, said_no_fault, said_not_passed}

-- ---- lines say one list

one_list : (names : List (List ℕ)) (ls : List (List ℕ)) (a b : List Action) → AreNames names → LinesSay names ls a → LinesSay names ls b → a ≡ b
one_list names [] [] [] are say also = refl
one_list names [] [] (y ∷ b) are say also = absurd also
one_list names [] (x ∷ a) b are say also = absurd say
one_list names (l ∷ ls) [] [] are say also = refl
one_list names (l ∷ ls) [] (y ∷ b) are say (inl also) = absurd (cc (one_list names ls [] (y ∷ b) are say.1 also.1))
one_list names (l ∷ ls) [] (y ∷ b) are say (inr also) = absurd (said_not_passed names l y are also.0 say.0)
one_list names (l ∷ ls) (x ∷ a) [] are (inl say) also = absurd (cc (one_list names ls (x ∷ a) [] are say.1 also.1))
one_list names (l ∷ ls) (x ∷ a) [] are (inr say) also = absurd (said_not_passed names l x are say.0 also.0)
one_list names (l ∷ ls) (x ∷ a) (y ∷ b) are (inl say) (inl also) = one_list names ls (x ∷ a) (y ∷ b) are say.1 also.1
one_list names (l ∷ ls) (x ∷ a) (y ∷ b) are (inl say) (inr also) = absurd (said_not_passed names l y are also.0 say.0)
one_list names (l ∷ ls) (x ∷ a) (y ∷ b) are (inr say) (inl also) = absurd (said_not_passed names l x are say.0 also.0)
one_list names (l ∷ ls) (x ∷ a) (y ∷ b) are (inr say) (inr also) =
    let first : x ≡ y = one_action names (texts l) x y are say.0 also.0 in
    let rest : a ≡ b = one_list names ls a b are say.1 also.1 in
    cc

pub one_schedule : OneSchedule
one_schedule names are bytes a b is also = one_list names (lines bytes) a b are is.says also.says

-- ---- lines around one of them

-- what lines say, where it is cut at one of them
record IsCut (names : List (List ℕ)) (before : List (List ℕ)) (here : List ℕ) (list : List Action) : Type 0 where
  front : List Action
  back : List Action
  parts : list ≡ front ++ back
  says : LinesSay names before front
  this : IsPassed here ⊎ ((a : Action) × (more : List Action) × (back ≡ a ∷ more) × Says names (texts here) a)

longer_cut : (names : List (List ℕ)) (before : List (List ℕ)) (here line : List ℕ) (list : List Action) → IsPassed line → IsCut names before here list → IsCut names (line ∷ before) here list
longer_cut names before here line list passed c = record { front = c.front; back = c.back; parts = c.parts; says = passed_front c.front c.says; this = c.this }
  where
    passed_front : (front : List Action) → LinesSay names before front → LinesSay names (line ∷ before) front
    passed_front [] say = (passed, say)
    passed_front (a ∷ front) say = inl (passed, say)

cut : (names : List (List ℕ)) (before : List (List ℕ)) (here : List ℕ) (after : List (List ℕ)) (list : List Action) → LinesSay names (before ++ here ∷ after) list → IsCut names before here list
cut names [] here after [] say = record { front = []; back = []; parts = refl; says = tt; this = inl say.0 }
cut names [] here after (a ∷ list) (inl say) = record { front = []; back = a ∷ list; parts = refl; says = tt; this = inl say.0 }
cut names [] here after (a ∷ list) (inr say) = record { front = []; back = a ∷ list; parts = refl; says = tt; this = inr (a, list, refl, say.0) }
cut names (l ∷ before) here after [] say = longer_cut names before here l [] say.0 (cut names before here after [] say.1)
cut names (l ∷ before) here after (a ∷ list) (inl say) = longer_cut names before here l (a ∷ list) say.0 (cut names before here after (a ∷ list) say.1)
cut names (l ∷ before) here after (a ∷ list) (inr say) =
    let c = cut names before here after list say.1 in
    record { front = a ∷ c.front; back = c.back; parts = ap (λ (xs : List Action). a ∷ xs) c.parts; says = inr (say.0, c.says); this = c.this }

-- a line with a fault isn't among lines that say a list
said_faultless : (names : List (List ℕ)) (before : List (List ℕ)) (here : List ℕ) (after : List (List ℕ)) (list done : List Action) (rule column : ℕ) → AreNames names →
    LinesSay names (before ++ here ∷ after) list → length list ≤ 16777216 → LinesSay names before done → (IsPassed here → ⊥) → FaultIn names (length done) here rule column → ⊥
said_faultless names before here after list done rule column are say few says some fault =
    let c = cut names before here after list say in
    let same : done ≡ c.front = one_list names before done c.front are says c.says in
    elim c.this [
      | inl passed ↦ some passed
      | inr said ↦
          let full : length done ≡ 16777216 = said_no_fault names (length done) here said.0 rule column are said.3 fault in
          omega (arith, few, full, ap length same, ap length c.parts, length-append c.front c.back, ap length said.2)
    ]

pub schedule_faultless : SchedulesHaveNoFault
schedule_faultless names are bytes list Memory is fault = fault
schedule_faultless names are bytes list (At rule line column) is f =
    said_faultless names f.before f.here f.after list f.done rule column are (subst (λ (ls : List (List ℕ)). LinesSay names ls list) f.parts is.says) is.few f.says f.some f.fault

earlier_fault : (names : List (List ℕ)) (before : List (List ℕ)) (here : List ℕ) (more later : List (List ℕ)) (done list : List Action) (rule column : ℕ) → AreNames names → later ≡ before ++ here ∷ more →
    LinesSay names later list → length list ≤ 16777216 → LinesSay names before done → (IsPassed here → ⊥) → FaultIn names (length done) here rule column → ⊥
earlier_fault names before here more later done list rule column are is say few says some fault =
    said_faultless names before here more list done rule column are (subst (λ (ls : List (List ℕ)). LinesSay names ls list) is say) few says some fault

same_fault : (names : List (List ℕ)) (bytes : List ℕ) (r l c s m d : ℕ) → AreNames names → FirstFault names bytes r l c → FirstFault names bytes s m d → ◌≡◌ {A = Fault} (At r l c) (At s m d)
same_fault names bytes r l c s m d are f g = elim (places f.before f.here f.after g.before g.here g.after (sym f.parts ∙ g.parts)) [
  | Places.same before here ↦
      let says : LinesSay names g.before f.done = subst (λ (ls : List (List ℕ)). LinesSay names ls f.done) before f.says in
      let done_is : f.done ≡ g.done = one_list names g.before f.done g.done are says g.says in
      let fault : FaultIn names (length g.done) g.here r c =
      subst (λ (n : ℕ). FaultIn names n g.here r c) (ap length done_is) (subst (λ (x : List ℕ). FaultIn names (length f.done) x r c) here f.fault) in
      let same = one_fault names (length g.done) g.here r c s d fault g.fault in
      let line : l ≡ m = f.line_is ∙ ap (λ (ls : List (List ℕ)). length ls + 1) before ∙ sym g.line_is in
      ap (λ (x : ℕ). At x l c) same.rules ∙ ap (λ (x : ℕ). At s x c) line ∙ ap (λ (x : ℕ). At s m x) same.columns
  | Places.earlier more is ↦ absurd (earlier_fault names f.before f.here more g.before f.done g.done r c are is g.says g.few f.says f.some f.fault)
  | Places.later more is ↦ absurd (earlier_fault names g.before g.here more f.before g.done f.done s d are is f.says f.few g.says g.some g.fault)
]

pub one_first_fault : OneFault
one_first_fault names are bytes (At r l c) (At s m d) f g = same_fault names bytes r l c s m d are f g
one_first_fault names are bytes (At r l c) Memory f g = absurd g
one_first_fault names are bytes Memory b f g = absurd f

-- ---- what was read

-- lines that were read whole, behind a list
record IsReadWhole (names : List (List ℕ)) (ls : List (List ℕ)) (list out : List Action) : Type 0 where
  more : List Action
  parts : out ≡ list ++ more
  says : LinesSay names ls more
  few : length list ≤ 16777216 → length out ≤ 16777216

-- lines that weren't, with the fault that was met, where the first has this number
record IsReadUpTo (names : List (List ℕ)) (ls : List (List ℕ)) (list : List Action) (n : ℕ) (e : Fault) : Type 0 where
  before : List (List ℕ)
  here : List ℕ
  after : List (List ℕ)
  parts : ls ≡ before ++ here ∷ after
  more : List Action
  says : LinesSay names before more
  few : length list ≤ 16777216 → length (list ++ more) ≤ 16777216
  fault : LineFault Rule
  is : IsLineFault names (length (list ++ more)) here fault
  answer : e ≡ fault_at (n + length before) fault

abbrev AreRead : List (List ℕ) → List (List ℕ) → List Action → ℕ → Result (List Action) Fault → Type 0
AreRead names ls list n (Ok out) = IsReadWhole names ls list out
AreRead names ls list n (Err e) = IsReadUpTo names ls list n e

-- one line more, which says nothing or an action
more_passed : (names : List (List ℕ)) (line : List ℕ) (ls : List (List ℕ)) (list : List Action) → IsPassed line → LinesSay names ls list → LinesSay names (line ∷ ls) list
more_passed names line ls [] passed say = (passed, say)
more_passed names line ls (a ∷ list) passed say = inl (passed, say)

one_more : (names : List (List ℕ)) (line : List ℕ) (ls : List (List ℕ)) (list : List Action) (n : ℕ) (found : Option Action) (r : Result (List Action) Fault) → IsReadLine names (length list) line found →
    AreRead names ls (list ++ option_to_list found) (n + 1) r → AreRead names (line ∷ ls) list n r
one_more names line ls list n None (Ok out) is read = record {
  more = read.more;
  parts = read.parts ∙ ap (λ (xs : List Action). xs ++ read.more) (append-nil list);
  says = more_passed names line ls read.more (is.none refl) read.says;
  few = λ few. read.few (omega (arith, few, ap length (append-nil list)));
}
one_more names line ls list n None (Err e) is read = record {
  before = line ∷ read.before;
  here = read.here;
  after = read.after;
  parts = ap (λ (xs : List (List ℕ)). line ∷ xs) read.parts;
  more = read.more;
  says = more_passed names line read.before read.more (is.none refl) read.says;
  few = λ few. omega (arith, read.few (omega (arith, few, ap length (append-nil list))), ap (λ (xs : List Action). length (xs ++ read.more)) (append-nil list));
  fault = read.fault;
  is = subst (λ (xs : List Action). IsLineFault names (length (xs ++ read.more)) read.here read.fault) (append-nil list) read.is;
  answer = read.answer ∙ ap (λ (k : ℕ). fault_at k read.fault) (omega arith);
}
one_more names line ls list n (Some a) (Ok out) is read =
    let regrouped : (list ++ a ∷ []) ++ read.more ≡ list ++ a ∷ read.more = append_assoc list (a ∷ []) read.more in
    record {
      more = a ∷ read.more;
      parts = read.parts ∙ regrouped;
      says = inr (is.some a refl, read.says);
      few = λ few. let free : length list ≢ 16777216 = is.room (λ e. cc e) in read.few (omega (arith, few, free, length-append list (a ∷ [])));
    }
one_more names line ls list n (Some a) (Err e) is read =
    let regrouped : (list ++ a ∷ []) ++ read.more ≡ list ++ a ∷ read.more = append_assoc list (a ∷ []) read.more in
    record {
      before = line ∷ read.before;
      here = read.here;
      after = read.after;
      parts = ap (λ (xs : List (List ℕ)). line ∷ xs) read.parts;
      more = a ∷ read.more;
      says = inr (is.some a refl, read.says);
      few = λ few. let free : length list ≢ 16777216 = is.room (λ e. cc e) in omega (arith, read.few (omega (arith, few, free, length-append list (a ∷ []))), ap length regrouped);
      fault = read.fault;
      is = subst (λ (xs : List Action). IsLineFault names (length xs) read.here read.fault) regrouped read.is;
      answer = read.answer ∙ ap (λ (k : ℕ). fault_at k read.fault) (omega arith);
    }

first_fault_here : (names : List (List ℕ)) (line : List ℕ) (ls : List (List ℕ)) (list : List Action) (n : ℕ) (f : LineFault Rule) → IsLineFault names (length list) line f → IsReadUpTo names (line ∷ ls) list n (fault_at n f)
first_fault_here names line ls list n f is = record {
  before = [];
  here = line;
  after = ls;
  parts = refl;
  more = [];
  says = tt;
  few = λ few. omega (arith, few, ap length (append-nil list));
  fault = f;
  is = subst (λ (xs : List Action). IsLineFault names (length xs) line f) (sym (append-nil list)) is;
  answer = ap (λ (k : ℕ). fault_at k f) (omega arith);
}

are_read : (names : List (List ℕ)) (ls : List (List ℕ)) (list : List Action) (n : ℕ) → AreNames names → AreRead names ls list n (lines_of names list n ls)
unfolding lines_of
are_read names [] list n are = record { more = []; parts = sym (append-nil list); says = tt; few = λ few. few }
are_read names (line ∷ ls) list n are = by_line (line_of names (eqb (length list) 16777216) (whole_line line ls)) refl (line_answer names (length list) line ls are) (λ found. are_read names ls (list ++ option_to_list found) (n + 1) are)
  where
    by_line : (r : Result (Option Action) (LineFault Rule)) → line_of names (eqb (length list) 16777216) (whole_line line ls) ≡ r → IsAnswer names (length list) line r →
        ((found : Option Action) → AreRead names ls (list ++ option_to_list found) (n + 1) (lines_of names (list ++ option_to_list found) (n + 1) ls)) →
        AreRead names (line ∷ ls) list n (in_line n r >>= λ found. lines_of names (list ++ option_to_list found) (n + 1) ls)
    by_line (Ok found) e answer others = one_more names line ls list n found _ answer (others found)
    by_line (Err f) e answer others = first_fault_here names line ls list n f answer

-- ---- whole texts

-- the answer for a text
abbrev pub IsWholeAnswer : List (List ℕ) → List ℕ → Result (List Action) Fault → Type 0
IsWholeAnswer names bytes (Ok list) = IsSchedule names bytes list
IsWholeAnswer names bytes (Err e) = HasFirstFault names bytes e

pub whole_answer : (names : List (List ℕ)) (bytes : List ℕ) → AreNames names → IsWholeAnswer names bytes (reading names bytes)
unfolding reading
whole_answer names bytes are = by_read (lines_of names [] 1 (lines bytes)) (are_read names (lines bytes) [] 1 are)
  where
    by_read : (r : Result (List Action) Fault) → AreRead names (lines bytes) [] 1 r → IsWholeAnswer names bytes r
    by_read (Ok out) read = record { few = read.few (omega arith); says = subst (λ (xs : List Action). LinesSay names (lines bytes) xs) (sym read.parts) read.says }
    by_read (Err e) read =
        let number : 1 + length read.before ≡ length read.before + 1 = omega arith in
        let fault : FirstFault names bytes (number_of_rule read.fault.rule) (1 + length read.before) read.fault.column = record {
          before = read.before;
          here = read.here;
          after = read.after;
          parts = read.parts;
          done = read.more;
          few = read.few (omega arith);
          says = read.says;
          some = read.is.0;
          fault = read.is.1;
          line_is = number;
        } in
        subst (λ (x : Fault). HasFirstFault names bytes x) (sym read.answer) fault

pub schedule_or_fault : ScheduleOrFault
schedule_or_fault names are bytes = by_answer (reading names bytes) (whole_answer names bytes are)
  where
    by_answer : (r : Result (List Action) Fault) → IsWholeAnswer names bytes r → ((list : List Action) × IsSchedule names bytes list) ⊎ ((fault : Fault) × HasFirstFault names bytes fault)
    by_answer (Ok list) is = inl (list, is)
    by_answer (Err e) is = inr (e, is)

-- ---- what a call returned, where it is what is read unless memory ran out

pub found : (names : List (List ℕ)) (bytes : List ℕ) (r : Result (Vec Action) Fault) → AreNames names → GivesUnlessMemory (λ (v : Vec Action). v.items) r (reading names bytes) → IfOk r (λ v. IsSchedule names bytes v.items)
found names bytes (Ok v) are given = subst (λ (x : Result (List Action) Fault). IsWholeAnswer names bytes x) given (whole_answer names bytes are)
found names bytes (Err e) are given = tt

refused_by : (names : List (List ℕ)) (bytes : List ℕ) (e : Fault) → AreNames names → Fails e (reading names bytes) → e ≢ Memory → HasFirstFault names bytes e
refused_by names bytes Memory are given other = absurd (other refl)
refused_by names bytes (At r l c) are given other = subst (λ (x : Result (List Action) Fault). IsWholeAnswer names bytes x) given (whole_answer names bytes are)

pub refused : (names : List (List ℕ)) (bytes : List ℕ) (r : Result (Vec Action) Fault) → AreNames names → GivesUnlessMemory (λ (v : Vec Action). v.items) r (reading names bytes) → IfErr r (λ e. e ≢ Memory → HasFirstFault names bytes e)
refused names bytes (Ok v) are given = tt
refused names bytes (Err e) are given = λ other. refused_by names bytes e are given other

only_memory : (names : List (List ℕ)) (bytes : List ℕ) (list : List Action) (e : Fault) → AreNames names → Fails e (reading names bytes) → IsSchedule names bytes list → e ≡ Memory
only_memory names bytes list Memory are given is = refl
only_memory names bytes list (At r l c) are given is =
    absurd (schedule_faultless names are bytes list (At r l c) is (refused_by names bytes (At r l c) are given (λ same. cc same)))

pub only : (names : List (List ℕ)) (bytes : List ℕ) (r : Result (Vec Action) Fault) → AreNames names → GivesUnlessMemory (λ (v : Vec Action). v.items) r (reading names bytes) →
    (list : List Action) → IsSchedule names bytes list → MatchResult r (λ v. v.items ≡ list) (λ e. e ≡ Memory)
only names bytes (Ok v) are given list is = one_schedule names are bytes v.items list (found names bytes (Ok v) are given) is
only names bytes (Err e) are given list is = only_memory names bytes list e are given is

that_fault : (names : List (List ℕ)) (bytes : List ℕ) (e f : Fault) → AreNames names → Fails e (reading names bytes) → HasFirstFault names bytes f → (e ≡ f) ⊎ (e ≡ Memory)
that_fault names bytes Memory f are given is = inr refl
that_fault names bytes (At r l c) f are given is =
    inl (one_first_fault names are bytes (At r l c) f (refused_by names bytes (At r l c) are given (λ same. cc same)) is)

pub first : (names : List (List ℕ)) (bytes : List ℕ) (r : Result (Vec Action) Fault) → AreNames names → GivesUnlessMemory (λ (v : Vec Action). v.items) r (reading names bytes) →
    (f : Fault) → HasFirstFault names bytes f → MatchResult r (λ _. ⊥) (λ answer. (answer ≡ f) ⊎ (answer ≡ Memory))
first names bytes (Ok v) are given f is = schedule_faultless names are bytes v.items f (found names bytes (Ok v) are given) is
first names bytes (Err e) are given f is = that_fault names bytes e f are given is
