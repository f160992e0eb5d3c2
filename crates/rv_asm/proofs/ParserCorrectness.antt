-- Lines that say statements are read as these, and lines that are read say them, or have the fault that is met.
use Rattle.std.proofs.Common.{◌≡◌, ◌≢◌, ℕ, suc, ◌+◌, List, [], ◌∷◌, ◌++◌, length, Option, Some, None, Result, Ok, Err, refl, sym, ap, subst, ◌∙◌, arith, inl, inr, append_assoc, length-append}
use Rattle.std.specs.Option.{option_to_list}
use Rattle.std.proofs.lemmas.List.{append-nil}
use Rattle.rv_asm.specs.declared.fault.Rule.{Rule}
use Rattle.line_texts.specs.declared.fault.LineFault.{LineFault}
use Rattle.line_texts.specs.declared.fault.Fault.{Fault}
use Rattle.rv_asm.specs.Tokens.{tokens}
use Rattle.line_texts.specs.Lines.{lines}
use Rattle.rv_asm.specs.Table.{Statement, rows}
use Rattle.rv_asm.specs.LineMeaning.{Names, line_of}
use Rattle.line_texts.specs.Parsers.{◌>>=◌}
use Rattle.rv_asm.specs.Source.{names_of, reading, LinesSay, HasFault, fault_at}
use Rattle.rv_asm.specs.Encoder.{lines_from, unless_empty, source_of}
use Rattle.rv_asm.proofs.TableEquivalence.{step_ok, step_err, step_end}
use Rattle.line_texts.proofs.Steps.{failed}

-- a line at a place that is the length of the list
at_place : (names : Names) (list : List Statement) (place line : ℕ) (l : List ℕ) (r : Result (Option Statement) (LineFault Rule)) → length list ≡ place → reading names line place l ≡ r →
    line_of rows names line (length list) (length l + 1) (tokens 1 l) ≡ r
at_place names list place line l r is e = ap (λ (n : ℕ). line_of rows names line n (length l + 1) (tokens 1 l)) is ∙ e

next_ok : (names : Names) (list : List Statement) (place line : ℕ) (l : List ℕ) (ls : List (List ℕ)) (found : Option Statement) → length list ≡ place → reading names line place l ≡ Ok found →
    lines_from rows names list line (l ∷ ls) ≡ lines_from rows names (list ++ option_to_list found) (line + 1) ls
next_ok names list place line l ls found is e = step_ok rows names list line l ls found (at_place names list place line l (Ok found) is e)

-- behind a line that says nothing, or a statement
behind_none : (names : Names) (list : List Statement) (place line : ℕ) (l : List ℕ) (ls : List (List ℕ)) → length list ≡ place → reading names line place l ≡ Ok None →
    lines_from rows names list line (l ∷ ls) ≡ lines_from rows names list (line + 1) ls
behind_none names list place line l ls is e =
    next_ok names list place line l ls None is e ∙ ap (λ (xs : List Statement). lines_from rows names xs (line + 1) ls) (append-nil list)

longer_by_one : (list : List Statement) (s : Statement) (place : ℕ) → length list ≡ place → length (list ++ s ∷ []) ≡ place + 1
longer_by_one list s place is = omega (arith, is, length-append list (s ∷ []))

regroup : (list : List Statement) (s : Statement) (more : List Statement) → (list ++ s ∷ []) ++ more ≡ list ++ s ∷ more
regroup list s more = append_assoc list (s ∷ []) more

abbrev read_all : List Statement → Result (List Statement) Fault
read_all list = Ok list

-- ---- what is said is read

pub said_read : (names : Names) (list : List Statement) (place line : ℕ) (ls : List (List ℕ)) (more : List Statement) → length list ≡ place → LinesSay names line place ls more →
    lines_from rows names list line ls ≡ Ok (list ++ more)
said_read names list place line [] [] is say = step_end rows names list line ∙ ap read_all (sym (append-nil list))
said_read names list place line [] (s ∷ more) is say = absurd say
said_read names list place line (l ∷ ls) [] is say =
    behind_none names list place line l ls is say.0 ∙ said_read names list place (line + 1) ls [] is say.1
said_read names list place line (l ∷ ls) (s ∷ more) is (inl say) =
    behind_none names list place line l ls is say.0 ∙ said_read names list place (line + 1) ls (s ∷ more) is say.1
said_read names list place line (l ∷ ls) (s ∷ more) is (inr say) =
    next_ok names list place line l ls (Some s) is say.0
    ∙ said_read names (list ++ s ∷ []) (place + 1) (line + 1) ls more (longer_by_one list s place is) say.1
    ∙ ap read_all (regroup list s more)

-- and a fault behind it is met
pub fault_met : (names : Names) (list : List Statement) (place line : ℕ) (before : List (List ℕ)) (here : List ℕ) (after : List (List ℕ)) (more : List Statement) (f : LineFault Rule) →
    length list ≡ place → LinesSay names line place before more → reading names (length before + line) (length more + place) here ≡ Err f →
    lines_from rows names list line (before ++ here ∷ after) ≡ Err (fault_at (length before + line) f)
fault_met names list place line [] here after [] f is say met =
    let numbers : 0 + line ≡ line = omega arith in
    let places : 0 + place ≡ place = omega arith in
    step_err rows names list line here after f (at_place names list place line here (Err f) is (ap (λ (n : ℕ). reading names n place here) (sym numbers) ∙ ap (λ (n : ℕ). reading names (0 + line) n here) (sym places) ∙ met))
    ∙ ap (λ (n : ℕ). failed (List Statement) (fault_at n f)) (sym numbers)
fault_met names list place line [] here after (s ∷ more) f is say met = absurd say
fault_met names list place line (l ∷ before) here after [] f is say met =
    let numbers : suc (length before) + line ≡ length before + (line + 1) = omega arith in
    behind_none names list place line l (before ++ here ∷ after) is say.0
    ∙ fault_met names list place (line + 1) before here after [] f is say.1 (ap (λ (n : ℕ). reading names n (0 + place) here) (sym numbers) ∙ met)
    ∙ ap (λ (n : ℕ). failed (List Statement) (fault_at n f)) (sym numbers)
fault_met names list place line (l ∷ before) here after (s ∷ more) f is (inl say) met =
    let numbers : suc (length before) + line ≡ length before + (line + 1) = omega arith in
    behind_none names list place line l (before ++ here ∷ after) is say.0
    ∙ fault_met names list place (line + 1) before here after (s ∷ more) f is say.1 (ap (λ (n : ℕ). reading names n (suc (length more) + place) here) (sym numbers) ∙ met)
    ∙ ap (λ (n : ℕ). failed (List Statement) (fault_at n f)) (sym numbers)
fault_met names list place line (l ∷ before) here after (s ∷ more) f is (inr say) met =
    let numbers : suc (length before) + line ≡ length before + (line + 1) = omega arith in
    let places : suc (length more) + place ≡ length more + (place + 1) = omega arith in
    next_ok names list place line l (before ++ here ∷ after) (Some s) is say.0
    ∙ fault_met names (list ++ s ∷ []) (place + 1) (line + 1) before here after more f (longer_by_one list s place is) say.1
    (ap (λ (n : ℕ). reading names n (length more + (place + 1)) here) (sym numbers) ∙ ap (λ (n : ℕ). reading names (suc (length before) + line) n here) (sym places) ∙ met)
    ∙ ap (λ (n : ℕ). failed (List Statement) (fault_at n f)) (sym numbers)

-- ---- what is read is said

-- lines that were read whole, behind a list
pub record IsReadWhole (names : Names) (place line : ℕ) (ls : List (List ℕ)) (list out : List Statement) : Type 0 where
  pub more : List Statement
  pub parts : out ≡ list ++ more
  pub says : LinesSay names line place ls more

-- lines that weren't, with the fault that was met
pub record IsReadUpTo (names : Names) (place line : ℕ) (ls : List (List ℕ)) (e : Fault) : Type 0 where
  pub before : List (List ℕ)
  pub here : List ℕ
  pub after : List (List ℕ)
  pub parts : ls ≡ before ++ here ∷ after
  pub more : List Statement
  pub says : LinesSay names line place before more
  pub fault : LineFault Rule
  pub met : reading names (length before + line) (length more + place) here ≡ Err fault
  pub answer : e ≡ fault_at (length before + line) fault

abbrev pub AreRead : Names → ℕ → ℕ → List (List ℕ) → List Statement → Result (List Statement) Fault → Type 0
AreRead names place line ls list (Ok out) = IsReadWhole names place line ls list out
AreRead names place line ls list (Err e) = IsReadUpTo names place line ls e

more_none : (names : Names) (place line : ℕ) (l : List ℕ) (ls : List (List ℕ)) (more : List Statement) → reading names line place l ≡ Ok None → LinesSay names (line + 1) place ls more → LinesSay names line place (l ∷ ls) more
more_none names place line l ls [] e say = (e, say)
more_none names place line l ls (s ∷ more) e say = inl (e, say)

one_more_none : (names : Names) (place line : ℕ) (l : List ℕ) (ls : List (List ℕ)) (list : List Statement) (r : Result (List Statement) Fault) → reading names line place l ≡ Ok None →
    AreRead names place (line + 1) ls list r → AreRead names place line (l ∷ ls) list r
one_more_none names place line l ls list (Ok out) e read =
    record { more = read.more; parts = read.parts; says = more_none names place line l ls read.more e read.says }
one_more_none names place line l ls list (Err f) e read =
    let numbers : length read.before + (line + 1) ≡ suc (length read.before) + line = omega arith in
    record {
      before = l ∷ read.before;
      here = read.here;
      after = read.after;
      parts = ap (λ (xs : List (List ℕ)). l ∷ xs) read.parts;
      more = read.more;
      says = more_none names place line l read.before read.more e read.says;
      fault = read.fault;
      met = ap (λ (n : ℕ). reading names n (length read.more + place) read.here) (sym numbers) ∙ read.met;
      answer = read.answer ∙ ap (λ (n : ℕ). fault_at n read.fault) numbers;
    }

one_more_some : (names : Names) (place line : ℕ) (l : List ℕ) (ls : List (List ℕ)) (list : List Statement) (s : Statement) (r : Result (List Statement) Fault) → reading names line place l ≡ Ok (Some s) →
    AreRead names (place + 1) (line + 1) ls (list ++ s ∷ []) r → AreRead names place line (l ∷ ls) list r
one_more_some names place line l ls list s (Ok out) e read =
    record { more = s ∷ read.more; parts = read.parts ∙ regroup list s read.more; says = inr (e, read.says) }
one_more_some names place line l ls list s (Err f) e read =
    let numbers : length read.before + (line + 1) ≡ suc (length read.before) + line = omega arith in
    let places : length read.more + (place + 1) ≡ suc (length read.more) + place = omega arith in
    record {
      before = l ∷ read.before;
      here = read.here;
      after = read.after;
      parts = ap (λ (xs : List (List ℕ)). l ∷ xs) read.parts;
      more = s ∷ read.more;
      says = inr (e, read.says);
      fault = read.fault;
      met = ap (λ (n : ℕ). reading names n (suc (length read.more) + place) read.here) (sym numbers) ∙ ap (λ (n : ℕ). reading names (length read.before + (line + 1)) n read.here) (sym places) ∙ read.met;
      answer = read.answer ∙ ap (λ (n : ℕ). fault_at n read.fault) numbers;
    }

fault_here : (names : Names) (place line : ℕ) (l : List ℕ) (ls : List (List ℕ)) (f : LineFault Rule) → reading names line place l ≡ Err f → IsReadUpTo names place line (l ∷ ls) (fault_at line f)
fault_here names place line l ls f e =
    let numbers : 0 + line ≡ line = omega arith in
    let places : 0 + place ≡ place = omega arith in
    record {
      before = [];
      here = l;
      after = ls;
      parts = refl;
      more = [];
      says = tt;
      fault = f;
      met = ap (λ (n : ℕ). reading names n (0 + place) l) numbers ∙ ap (λ (n : ℕ). reading names line n l) places ∙ e;
      answer = ap (λ (n : ℕ). fault_at n f) (sym numbers);
    }

pub are_read : (names : Names) (list : List Statement) (place line : ℕ) (ls : List (List ℕ)) → length list ≡ place → AreRead names place line ls list (lines_from rows names list line ls)
are_read names list place line [] is =
    let P : Result (List Statement) Fault → Type 0 = AreRead names place line [] list in
    subst P (sym (step_end rows names list line)) (record { more = []; parts = sym (append-nil list); says = tt })
are_read names list place line (l ∷ ls) is =
    by_line (reading names line place l) refl (are_read names list place (line + 1) ls is) (λ s. are_read names (list ++ s ∷ []) (place + 1) (line + 1) ls (longer_by_one list s place is))
  where
    by_line : (r : Result (Option Statement) (LineFault Rule)) → reading names line place l ≡ r →
        AreRead names place (line + 1) ls list (lines_from rows names list (line + 1) ls) →
        ((s : Statement) → AreRead names (place + 1) (line + 1) ls (list ++ s ∷ []) (lines_from rows names (list ++ s ∷ []) (line + 1) ls)) →
        AreRead names place line (l ∷ ls) list (lines_from rows names list line (l ∷ ls))
    by_line (Ok None) e without with_one =
        let P : Result (List Statement) Fault → Type 0 = AreRead names place line (l ∷ ls) list in
        subst P (sym (behind_none names list place line l ls is e)) (one_more_none names place line l ls list (lines_from rows names list (line + 1) ls) e without)
    by_line (Ok (Some s)) e without with_one =
        let P : Result (List Statement) Fault → Type 0 = AreRead names place line (l ∷ ls) list in
        subst P (sym (next_ok names list place line l ls (Some s) is e)) (one_more_some names place line l ls list s (lines_from rows names (list ++ s ∷ []) (line + 1) ls) e (with_one s))
    by_line (Err f) e without with_one =
        let P : Result (List Statement) Fault → Type 0 = AreRead names place line (l ∷ ls) list in
        subst P (sym (step_err rows names list line l ls f (at_place names list place line l (Err f) is e))) (fault_here names place line l ls f e)

-- ---- a whole source

-- what a text says, or its fault
pub record SaysAll (text : List ℕ) (list : List Statement) : Type 0 where
  pub says : LinesSay (names_of text) 1 0 (lines text) list
  pub some : list ≢ []

abbrev pub IsAnswer : List ℕ → Result (List Statement) Fault → Type 0
IsAnswer text (Ok list) = SaysAll text list
IsAnswer text (Err e) = HasFault text e

pub source_answer : (text : List ℕ) → IsAnswer text (source_of rows text)
unfolding source_of
source_answer text = by_read (lines_from rows (names_of text) [] 1 (lines text)) (are_read (names_of text) [] 0 1 (lines text) refl)
  where
    by_read : (r : Result (List Statement) Fault) → AreRead (names_of text) 0 1 (lines text) [] r → IsAnswer text (r >>= λ list. unless_empty list)
    by_read (Ok []) read =
        let none : read.more ≡ [] = sym read.parts in
        inr (subst (λ (xs : List Statement). LinesSay (names_of text) 1 0 (lines text) xs) none read.says, refl)
    by_read (Ok (s ∷ list)) read =
        let same : read.more ≡ s ∷ list = sym read.parts in
        record { says = subst (λ (xs : List Statement). LinesSay (names_of text) 1 0 (lines text) xs) same read.says; some = λ e. cc e }
    by_read (Err e) read =
        let places : length read.more + 0 ≡ length read.more = omega arith in
        inl (record {
          before = read.before;
          here = read.here;
          after = read.after;
          parts = read.parts;
          statements = read.more;
          says = read.says;
          of_line = read.fault;
          met = ap (λ (n : ℕ). reading (names_of text) (length read.before + 1) n read.here) (sym places) ∙ read.met;
          is = read.answer;
        })

pub source_said : (text : List ℕ) (list : List Statement) → SaysAll text list → source_of rows text ≡ Ok list
unfolding source_of
source_said text list say =
    ap (λ (r : Result (List Statement) Fault). r >>= λ xs. unless_empty xs) (said_read (names_of text) [] 0 1 (lines text) list refl say.says)
    ∙ whole list say.some
  where
    whole : (xs : List Statement) → xs ≢ [] → unless_empty xs ≡ Ok xs
    whole [] some = absurd (some refl)
    whole (x ∷ xs) some = refl

pub source_refused : (text : List ℕ) (e : Fault) → HasFault text e → source_of rows text ≡ Err e
unfolding source_of
source_refused text e (inl f) =
    let places : length f.statements + 0 ≡ length f.statements = omega arith in
    let whole : lines_from rows (names_of text) [] 1 (lines text) ≡ Err (fault_at (length f.before + 1) f.of_line) =
    ap (lines_from rows (names_of text) [] 1) f.parts
    ∙ fault_met (names_of text) [] 0 1 f.before f.here f.after f.statements f.of_line refl f.says (ap (λ (n : ℕ). reading (names_of text) (length f.before + 1) n f.here) places ∙ f.met) in
    ap (λ (r : Result (List Statement) Fault). r >>= λ xs. unless_empty xs) whole ∙ ap (λ (x : Fault). failed (List Statement) x) (sym f.is)
source_refused text e (inr n) =
    ap (λ (r : Result (List Statement) Fault). r >>= λ xs. unless_empty xs) (said_read (names_of text) [] 0 1 (lines text) [] refl n.0)
    ∙ ap (λ (x : Fault). failed (List Statement) x) (sym n.1)
