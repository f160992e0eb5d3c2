-- A line that is read says its action, and one that isn't has the fault that was met.
use Rattle.std.proofs.Common.{◌≡◌, ◌≢◌, ℕ, zero, suc, ◌+◌, ◌<◌, true, false, eqb, List, [], ◌∷◌, ◌++◌, length, map, get_or, Option, Some, None, Result, Ok, Err, refl, sym, ap, subst, ◌∙◌, arith, inl, inr, Contains}
use Rattle.std.specs.Prelude.{codes}
use Rattle.std.specs.List.{AllByRecursion}
use Rattle.std.specs.Str.{bytes_eq}
use Rattle.std.proofs.lemmas.Bool.{eqb-true, eqb-false}
use Rattle.level_book.specs.Names.{AreNames}
use Rattle.plan_types.specs.declared.action.Action.{Action}
use Rattle.action_text.specs.declared.fault.Rule.{Rule}
use Rattle.line_texts.specs.declared.fault.LineFault.{LineFault}
use Rattle.action_text.specs.declared.words.Kind.{Kind}
use Rattle.action_text.specs.declared.words.Kind.TheVariants as kind
use Rattle.action_text.specs.Tokens.{starts_run, tokens}
use Rattle.line_texts.specs.Tokens.{Token}
use Rattle.action_text.specs.Shapes.{Want, exactly, opening, shapes, TakesToken, FitFront, Expects}
use Rattle.action_text.specs.Meaning.{Says, SayNothing, IsPassed}
use Rattle.action_text.specs.ScheduleText.{texts}
use Rattle.action_text.specs.Faults.{rule_at, IsTooMany, FaultIn, first_column}
use Rattle.action_text.specs.CursorState.{Rest}
use Rattle.action_text.specs.Parser.{kind_of, text_in, column_in, text_at, column_at, behind, next, end_next, is_nothing, all_of, wants_of, said, arguments_of, profiled, action_of, says_nothing, line_of, number_of_rule, not_action, whole_line}
use Rattle.line_texts.specs.Parsers.{◌>>=◌}
use Rattle.line_texts.proofs.Steps.{which, chosen, bind_ok, bind_err, done, ok_is, err_is, not_both}
use Rattle.action_text.proofs.LevelWords.{same_bytes, bytes_same}
use Rattle.action_text.proofs.ExpectedTokens.{IsReal, IsLeft, next_ok, next_err, passes_fits}
use Rattle.action_text.proofs.LineCases.{line_named, line_unnamed}
use Rattle.action_text.proofs.ArgumentMeaning.{AllPass, AllFit, name_of_kind, said_says, says_read, kind_named}

abbrev texts_of : List Token → List (List ℕ)
texts_of ts = map (λ (t : Token). t.text) ts

-- ---- rows of wants

abbrev AllReal : List Want → Type 0
AllReal ws = AllByRecursion IsReal ws

-- nothing is left of a line
ended : (rest : Rest) (ts : List Token) → rest.tokens ≡ ts → end_next rest ≡ Ok [] → ts ≡ []
unfolding end_next
ended rest [] is e = refl
ended rest (t ∷ ts) is e =
    let some : is_nothing rest.tokens ≡ false = ap is_nothing is in
    absurd (not_both {A = List (List ℕ)} [] (not_action (column_at rest)) (sym (rw some at e)))

end_ok : (rest : Rest) (xs : List (List ℕ)) → end_next rest ≡ Ok xs → xs ≡ []
unfolding end_next
end_ok rest xs e = elim (chosen (is_nothing rest.tokens) (Ok []) (Err (not_action (column_at rest))) (Ok xs) e) [
  | inl h ↦ sym (ok_is [] xs h.1)
  | inr h ↦ absurd (not_both xs (not_action (column_at rest)) (sym h.1))
]

-- all of a row was taken, and nothing is left
all_passed : (names : List (List ℕ)) (ws : List Want) (rest : Rest) (xs : List (List ℕ)) → AllReal ws → all_of names ws rest ≡ Ok xs → AllPass names ws xs × (texts_of rest.tokens ≡ xs)
all_passed names [] rest xs real e =
    let none : xs ≡ [] = end_ok rest xs e in
    let over : rest.tokens ≡ [] = ended rest rest.tokens refl (e ∙ ap (λ (ys : List (List ℕ)). done (LineFault Rule) ys) none) in
    (subst (λ (ys : List (List ℕ)). AllPass names [] ys) (sym none) tt, ap texts_of over ∙ sym none)
all_passed names (w ∷ ws) rest xs real e =
    let a = bind_ok (next names w rest) (λ x. all_of names ws x.1 >>= λ ys. Ok (x.0 ∷ ys)) xs e in
    let b = bind_ok (all_of names ws a.0.1) (λ ys. Ok (a.0.0 ∷ ys)) xs a.2 in
    let taken = next_ok names w rest a.0 real.0 a.1 in
    let others = all_passed names ws a.0.1 b.0 real.1 b.1 in
    let whole : a.0.0 ∷ b.0 ≡ xs = ok_is (a.0.0 ∷ b.0) xs b.2 in (
      subst (λ (ys : List (List ℕ)). AllPass names (w ∷ ws) ys) whole (taken.passes, others.0),
      ap texts_of taken.parts ∙ ap (λ (x : List ℕ). x ∷ texts_of a.0.1.tokens) taken.text ∙ ap (λ (ys : List (List ℕ)). a.0.0 ∷ ys) others.1 ∙ whole,
    )

-- a row isn't taken whole: a token doesn't fit or stands behind it, or the line ends too early
pub data IsStuck (names : List (List ℕ)) (ws : List Want) (ts : List Token) (end : ℕ) (f : LineFault Rule) : Type 0 where
  at_token : (before : List Token) (t : Token) (after : List Token) (next : Option Want) → ts ≡ before ++ t ∷ after → FitFront names before ws next →
      ((other : Option Want) → FitFront names (before ++ t ∷ []) ws other → ⊥) → number_of_rule f.rule ≡ rule_at next t.text → f.column ≡ t.column → IsStuck names ws ts end f
  at_end : (w : Want) → FitFront names ts ws (Some w) → number_of_rule f.rule ≡ 1 → f.column ≡ end → IsStuck names ws ts end f

left_over : (names : List (List ℕ)) (rest : Rest) (f : LineFault Rule) (ts : List Token) → rest.tokens ≡ ts → end_next rest ≡ Err f → IsStuck names [] ts rest.end f
unfolding end_next column_at
left_over names rest f [] is e = absurd (not_both [] f (rw (ap is_nothing is) at e))
left_over names rest f (t ∷ ts) is e =
    let some : is_nothing rest.tokens ≡ false = ap is_nothing is in
    let fault : not_action (column_at rest) ≡ f = err_is (List (List ℕ)) _ f (rw some at e) in
    let column : column_at rest ≡ t.column = ap (λ (xs : List Token). column_in xs rest.end) is in
    IsStuck.at_token [] t ts None refl refl (λ other fit. fit) (ap (λ (g : LineFault Rule). number_of_rule g.rule) (sym fault)) (ap (λ (g : LineFault Rule). g.column) (sym fault) ∙ column)

longer_stuck : (names : List (List ℕ)) (w : Want) (ws : List Want) (t : Token) (ts : List Token) (end : ℕ) (f : LineFault Rule) → TakesToken names w t.text →
    IsStuck names ws ts end f → IsStuck names (w ∷ ws) (t ∷ ts) end f
longer_stuck names w ws t ts end f fit (IsStuck.at_token before u after next parts front stops rule column) =
    IsStuck.at_token (t ∷ before) u after next (ap (λ (xs : List Token). t ∷ xs) parts) (fit, front) (λ other whole. stops other whole.1) rule column
longer_stuck names w ws t ts end f fit (IsStuck.at_end v front rule column) = IsStuck.at_end v (fit, front) rule column

stuck : (names : List (List ℕ)) (ws : List Want) (rest : Rest) (f : LineFault Rule) → AreNames names → AllReal ws → all_of names ws rest ≡ Err f → IsStuck names ws rest.tokens rest.end f
stuck names [] rest f are real e = left_over names rest f rest.tokens refl e
stuck names (w ∷ ws) rest f are real e = elim (bind_err (next names w rest) (λ x. all_of names ws x.1 >>= λ ys. Ok (x.0 ∷ ys)) f e) [
  | inl first ↦ elim (next_err names w rest f are first) [
    | IsLeft.nothing none rule column ↦ subst (λ (ts : List Token). IsStuck names (w ∷ ws) ts rest.end f) (sym none) (IsStuck.at_end w refl rule column)
    | IsLeft.unfit t ts parts unfit rule column ↦
        subst (λ (xs : List Token). IsStuck names (w ∷ ws) xs rest.end f) (sym parts)
        (IsStuck.at_token [] t ts (Some w) refl refl (λ other fit. unfit fit.0) rule column)
  ]
  | inr later ↦ elim (bind_err (all_of names ws later.0.1) (λ ys. Ok (later.0.0 ∷ ys)) f later.2) [
    | inl behind_it ↦
        let taken = next_ok names w rest later.0 real.0 later.1 in
        let others = stuck names ws later.0.1 f are real.1 behind_it in
        let fit : TakesToken names w taken.token.text = subst (λ (x : List ℕ). TakesToken names w x) (sym taken.text) (passes_fits names w later.0.0 taken.passes) in
        let same_end : IsStuck names ws later.0.1.tokens rest.end f = subst (λ (k : ℕ). IsStuck names ws later.0.1.tokens k f) taken.end others in
        subst (λ (xs : List Token). IsStuck names (w ∷ ws) xs rest.end f) (sym taken.parts) (longer_stuck names w ws taken.token later.0.1.tokens rest.end f fit same_end)
    | inr whole ↦ absurd (not_both _ f whole.2)
  ]
]

-- ---- shapes

abbrev pub shape_of : Kind → List Want
shape_of k = exactly (name_of_kind k) ∷ wants_of k

pub shape_there : (k : Kind) → Contains shapes (shape_of k)
shape_there kind.Forward = (0, omega arith, refl)
shape_there kind.Reverse = (1, omega arith, refl)
shape_there kind.Copy = (2, omega arith, refl)
shape_there kind.Move = (3, omega arith, refl)
shape_there kind.EndForward = (4, omega arith, refl)
shape_there kind.EndReverse = (5, omega arith, refl)

pub shape_is : (shape : List Want) → Contains shapes shape → (k : Kind) × (shape_of k ≡ shape)
shape_is shape c = by_place c.0 c.1 c.2
  where
    by_place : (i : ℕ) → i < length shapes → get_or shapes i shape ≡ shape → (k : Kind) × (shape_of k ≡ shape)
    by_place zero within is = (kind.Forward, is)
    by_place (suc zero) within is = (kind.Reverse, is)
    by_place (suc (suc zero)) within is = (kind.Copy, is)
    by_place (suc (suc (suc zero))) within is = (kind.Move, is)
    by_place (suc (suc (suc (suc zero)))) within is = (kind.EndForward, is)
    by_place (suc (suc (suc (suc (suc zero))))) within is = (kind.EndReverse, is)
    by_place (suc (suc (suc (suc (suc (suc i)))))) within is = absurd (omega arith)

-- tokens that begin a line, by the kind that the first of them names
pub record BeginsAs (names : List (List ℕ)) (t : Token) (ts : List Token) (next : Option Want) : Type 0 where
  pub kind_is : Kind
  pub name : t.text ≡ name_of_kind kind_is
  pub named : kind_of t.text ≡ Some kind_is
  pub front : FitFront names ts (wants_of kind_is) next

pub begins_as : (names : List (List ℕ)) (t : Token) (ts : List Token) (next : Option Want) → Expects names (t ∷ ts) next → BeginsAs names t ts next
begins_as names t ts next (shape, there, front) =
    let s = shape_is shape there in
    let fit : FitFront names (t ∷ ts) (shape_of s.0) next = subst (λ (ws : List Want). FitFront names (t ∷ ts) ws next) (sym s.1) front in
    record { kind_is = s.0; name = fit.0; named = ap kind_of fit.0 ∙ kind_named s.0; front = fit.1 }

pub expects_as : (names : List (List ℕ)) (t : Token) (ts : List Token) (next : Option Want) (k : Kind) → t.text ≡ name_of_kind k → FitFront names ts (wants_of k) next → Expects names (t ∷ ts) next
expects_as names t ts next k name front = (shape_of k, shape_there k, (name, front))

-- the same kind
same_kind : (names : List (List ℕ)) (t : Token) (ts : List Token) (next : Option Want) (k : Kind) → kind_of t.text ≡ Some k → BeginsAs names t ts next → FitFront names ts (wants_of k) next
same_kind names t ts next k named b =
    let same : b.kind_is ≡ k = cc (b.named, named) in
    subst (λ (x : Kind). FitFront names ts (wants_of x) next) same b.front

kind_name : (text : List ℕ) (k : Kind) → kind_of text ≡ Some k → text ≡ name_of_kind k
unfolding kind_of
kind_name text k e = elim (chosen (bytes_eq text (codes "Forward")) (Some kind.Forward) _ (Some k) e) [
  | inl h ↦ named kind.Forward h.0 h.1
  | inr a ↦ elim (chosen (bytes_eq text (codes "Reverse")) (Some kind.Reverse) _ (Some k) a.1) [
    | inl h ↦ named kind.Reverse h.0 h.1
    | inr b ↦ elim (chosen (bytes_eq text (codes "Copy")) (Some kind.Copy) _ (Some k) b.1) [
      | inl h ↦ named kind.Copy h.0 h.1
      | inr d ↦ elim (chosen (bytes_eq text (codes "Move")) (Some kind.Move) _ (Some k) d.1) [
        | inl h ↦ named kind.Move h.0 h.1
        | inr f ↦ elim (chosen (bytes_eq text (codes "EndForward")) (Some kind.EndForward) _ (Some k) f.1) [
          | inl h ↦ named kind.EndForward h.0 h.1
          | inr g ↦ elim (chosen (bytes_eq text (codes "EndReverse")) (Some kind.EndReverse) _ (Some k) g.1) [
            | inl h ↦ named kind.EndReverse h.0 h.1
            | inr h ↦ absurd (cc (h.1))
          ]
        ]
      ]
    ]
  ]
]
  where
    named : (j : Kind) → bytes_eq text (name_of_kind j) ≡ true → ◌≡◌ {A = Option Kind} (Some j) (Some k) → text ≡ name_of_kind k
    named j is same = let kinds : j ≡ k = cc same in same_bytes text (name_of_kind j) is ∙ ap name_of_kind kinds

kind_real : (k : Kind) → AllReal (wants_of k)
kind_real kind.Forward = (tt, (tt, (tt, (tt, (tt, (tt, (tt, (tt, (tt, (tt, (tt, tt)))))))))))
kind_real kind.Reverse = (tt, (tt, (tt, (tt, (tt, (tt, (tt, tt)))))))
kind_real kind.Copy = (tt, (tt, (tt, (tt, (tt, (tt, (tt, tt)))))))
kind_real kind.Move = (tt, (tt, (tt, (tt, (tt, (tt, (tt, tt)))))))
kind_real kind.EndForward = (tt, (tt, tt))
kind_real kind.EndReverse = (tt, (tt, tt))

opens : (names : List (List ℕ)) (k : Kind) → FitFront names [] (wants_of k) (Some opening)
opens names kind.Forward = refl
opens names kind.Reverse = refl
opens names kind.Copy = refl
opens names kind.Move = refl
opens names kind.EndForward = refl
opens names kind.EndReverse = refl

name_runs : (k : Kind) → starts_run (name_of_kind k) ≡ true
name_runs kind.Forward = refl
name_runs kind.Reverse = refl
name_runs kind.Copy = refl
name_runs kind.Move = refl
name_runs kind.EndForward = refl
name_runs kind.EndReverse = refl

-- texts that fit a row whole, as tokens
pub fit_whole : (names : List (List ℕ)) (ws : List Want) (ts : List Token) (xs : List (List ℕ)) → AllFit names ws xs → texts_of ts ≡ xs → FitFront names ts ws None
fit_whole names [] [] xs fit is = refl
fit_whole names [] (t ∷ ts) [] fit is = cc
fit_whole names [] (t ∷ ts) (x ∷ xs) fit is = absurd fit
fit_whole names (w ∷ ws) [] [] fit is = absurd fit
fit_whole names (w ∷ ws) [] (x ∷ xs) fit is = cc
fit_whole names (w ∷ ws) (t ∷ ts) [] fit is = absurd fit
fit_whole names (w ∷ ws) (t ∷ ts) (x ∷ xs) fit is =
    let same : x ≡ t.text = cc is in
    (subst (λ (y : List ℕ). TakesToken names w y) same fit.0, fit_whole names ws ts xs fit.1 (cc is))

pass_fit : (names : List (List ℕ)) (ws : List Want) (xs : List (List ℕ)) → AllPass names ws xs → AllFit names ws xs
pass_fit names [] [] pass = tt
pass_fit names [] (x ∷ xs) pass = absurd pass
pass_fit names (w ∷ ws) [] pass = absurd pass
pass_fit names (w ∷ ws) (x ∷ xs) pass = (passes_fits names w x pass.0, pass_fit names ws xs pass.1)

-- ---- lines

pub nothing_said : (ts : List Token) → says_nothing ts ≡ true → SayNothing ts
nothing_said [] e = tt
nothing_said (t ∷ ts) e = same_bytes t.text (codes "#") e

pub something_said : (ts : List Token) → says_nothing ts ≡ false → SayNothing ts → ⊥
something_said [] e said = cc
something_said (t ∷ ts) e said = cc (bytes_same t.text (codes "#") said, e)

-- what is read of a line: nothing where it says nothing, and the action that it says
pub record IsReadLine (names : List (List ℕ)) (count : ℕ) (line : List ℕ) (found : Option Action) : Type 0 where
  pub none : found ≡ None → IsPassed line
  pub room : found ≢ None → count ≢ 16777216
  pub some : (a : Action) → found ≡ Some a → Says names (texts line) a

-- a line's fault, where so many actions were read
abbrev pub IsLineFault : List (List ℕ) → ℕ → List ℕ → LineFault Rule → Type 0
IsLineFault names done line f = (IsPassed line → ⊥) × FaultIn names done line (number_of_rule f.rule) f.column

not_full : (names : List (List ℕ)) (count : ℕ) (ts : List Token) → eqb count 16777216 ≡ false → (c : ℕ) → IsTooMany names count ts c → ⊥
not_full names count ts room c many = eqb-false _ _ room many.full

not_named : (names : List (List ℕ)) (count : ℕ) (t : Token) (ts : List Token) → kind_of t.text ≡ None → (c : ℕ) → IsTooMany names count (t ∷ ts) c → ⊥
not_named names count t ts none c many =
    let same : many.token ≡ t = cc (many.parts) in
    let b = begins_as names many.token [] many.name.0 many.name.1 in
    cc (ap (λ (u : Token). kind_of u.text) same, none, b.named)

no_action : (names : List (List ℕ)) (count : ℕ) (line : List ℕ) (t : Token) (ts : List Token) → tokens 1 line ≡ t ∷ ts → kind_of t.text ≡ None → FaultIn names count line 1 t.column
no_action names count line t ts parts none =
    FaultIn.unexpected (λ c many. not_named names count t ts none c (subst (λ (xs : List Token). IsTooMany names count xs c) parts many)) (record {
      before = [];
      token = t;
      after = ts;
      parts = parts;
      next = Some (exactly (codes "Forward"));
      expected = (shape_of kind.Forward, shape_there kind.Forward, refl);
      stops = λ begin. let b = begins_as names t [] begin.0 begin.1 in cc (b.named, none);
      rule_is = refl;
      column_is = refl;
    })

too_many : (names : List (List ℕ)) (count : ℕ) (line : List ℕ) (t : Token) (ts : List Token) (k : Kind) → tokens 1 line ≡ t ∷ ts → kind_of t.text ≡ Some k → eqb count 16777216 ≡ true → FaultIn names count line 5 t.column
too_many names count line t ts k parts named full =
    FaultIn.too_many (record {
      full = eqb-true _ _ full;
      token = t;
      after = ts;
      parts = parts;
      name = (Some opening, expects_as names t [] (Some opening) k (kind_name t.text k named) (opens names k));
      column_is = refl;
    }) refl

-- a row that isn't taken whole
stuck_line : (names : List (List ℕ)) (count : ℕ) (line : List ℕ) (t : Token) (ts : List Token) (k : Kind) (f : LineFault Rule) → tokens 1 line ≡ t ∷ ts → kind_of t.text ≡ Some k → eqb count 16777216 ≡ false →
    IsStuck names (wants_of k) ts (length line + 1) f → FaultIn names count line (number_of_rule f.rule) f.column
stuck_line names count line t ts k f parts named room (IsStuck.at_token before u after next split front stops rule column) =
    FaultIn.unexpected (not_full names count (tokens 1 line) room) (record {
      before = t ∷ before;
      token = u;
      after = after;
      parts = parts ∙ ap (λ (xs : List Token). t ∷ xs) split;
      next = next;
      expected = expects_as names t before next k (kind_name t.text k named) front;
      stops = λ begin. stops begin.0 (same_kind names t (before ++ u ∷ []) begin.0 k named (begins_as names t (before ++ u ∷ []) begin.0 begin.1));
      rule_is = rule;
      column_is = column;
    })
stuck_line names count line t ts k f parts named room (IsStuck.at_end w front rule column) =
    FaultIn.ends_early (not_full names count (tokens 1 line) room) w
    (subst (λ (xs : List Token). Expects names xs (Some w)) (sym parts) (expects_as names t ts (Some w) k (kind_name t.text k named) front)) rule column

-- a whole line that says no action
no_profile : (names : List (List ℕ)) (count : ℕ) (line : List ℕ) (t : Token) (ts : List Token) (k : Kind) (xs : List (List ℕ)) → AreNames names → tokens 1 line ≡ t ∷ ts → kind_of t.text ≡ Some k →
    eqb count 16777216 ≡ false → AllPass names (wants_of k) xs → texts_of ts ≡ xs → said names k xs ≡ None → FaultIn names count line 4 t.column
no_profile names count line t ts k xs are parts named room pass is none =
    let whole : Expects names (t ∷ ts) None = expects_as names t ts None k (kind_name t.text k named) (fit_whole names (wants_of k) ts xs (pass_fit names (wants_of k) xs pass) is) in
    FaultIn.profile (not_full names count (tokens 1 line) room)
    (subst (λ (ys : List Token). Expects names ys None) (sym parts) whole)
    (λ a says.
    let r = says_read names (texts line) a are says in
    let heads : t.text ∷ texts_of ts ≡ name_of_kind r.kind_is ∷ r.others = sym (ap texts_of parts) ∙ r.parts in
    let name : t.text ≡ name_of_kind r.kind_is = cc heads in
    let same : k ≡ r.kind_is = cc (named, ap kind_of name, kind_named r.kind_is) in
    let others : xs ≡ r.others = cc (heads, is) in
    cc (none, ap (λ (j : Kind). said names j xs) same, ap (said names r.kind_is) others, r.reads))
    refl (ap first_column (sym parts))

-- ---- what was read of a line

-- what an answer says of a line: its action, or its fault
abbrev pub IsAnswer : List (List ℕ) → ℕ → List ℕ → Result (Option Action) (LineFault Rule) → Type 0
IsAnswer names count line (Ok found) = IsReadLine names count line found
IsAnswer names count line (Err f) = IsLineFault names count line f

answers : (names : List (List ℕ)) (count : ℕ) (line : List ℕ) (r s : Result (Option Action) (LineFault Rule)) → r ≡ s → IsAnswer names count line s → IsAnswer names count line r
answers names count line r s same is = subst (λ (x : Result (Option Action) (LineFault Rule)). IsAnswer names count line x) (sym same) is

passed_line : (names : List (List ℕ)) (count : ℕ) (line : List ℕ) (found : Option Action) → found ≡ None → IsPassed line → IsReadLine names count line found
passed_line names count line found none passed = record { none = λ _. passed; room = λ some. absurd (some none); some = λ a is. absurd (cc (none, is)) }

said_line : (names : List (List ℕ)) (count : ℕ) (line : List ℕ) (a : Action) → eqb count 16777216 ≡ false → Says names (texts line) a → IsReadLine names count line (Some a)
said_line names count line a room says = record {
  none = λ is. absurd cc;
  room = λ some. eqb-false _ _ room;
  some = λ b is. subst (λ (x : Action). Says names (texts line) x) (let same : a ≡ b = cc is in same) says;
}

-- a line with tokens that says something
record IsSome (line : List ℕ) (t : Token) (ts : List Token) : Type 0 where
  parts : tokens 1 line ≡ t ∷ ts
  some : says_nothing (t ∷ ts) ≡ false

not_passed : (line : List ℕ) (t : Token) (ts : List Token) → IsSome line t ts → IsPassed line → ⊥
not_passed line t ts is passed = something_said (t ∷ ts) is.some (subst (λ (xs : List Token). SayNothing xs) is.parts passed)

unnamed : (text : List ℕ) → starts_run text ≡ false → (o : Option Kind) → kind_of text ≡ o → kind_of text ≡ None
unnamed text other None e = e
unnamed text other (Some k) e = absurd (cc (ap starts_run (kind_name text k e), name_runs k, other))

-- the arguments of a kind were read, or aren't whole
arguments_answer : (names : List (List ℕ)) (count : ℕ) (line : List ℕ) (t : Token) (ts : List Token) (k : Kind) (rest : Rest) → AreNames names → IsSome line t ts → kind_of t.text ≡ Some k →
    eqb count 16777216 ≡ false → rest.tokens ≡ ts → rest.end ≡ length line + 1 → (read : Result (List (List ℕ)) (LineFault Rule)) → all_of names (wants_of k) rest ≡ read →
    IsAnswer names count line ((read >>= λ xs. Ok (said names k xs)) >>= profiled t.column)
arguments_answer names count line t ts k rest are is named room tokens_are end_is (Err f) e =
    let whole = stuck names (wants_of k) rest f are (kind_real k) e in
    let there : IsStuck names (wants_of k) ts (length line + 1) f =
    subst (λ (x : ℕ). IsStuck names (wants_of k) ts x f) end_is (subst (λ (xs : List Token). IsStuck names (wants_of k) xs rest.end f) tokens_are whole) in
    (not_passed line t ts is, stuck_line names count line t ts k f is.parts named room there)
arguments_answer names count line t ts k rest are is named room tokens_are end_is (Ok xs) e =
    let p = all_passed names (wants_of k) rest xs (kind_real k) e in
    let texts_are : texts_of ts ≡ xs = ap texts_of (sym tokens_are) ∙ p.1 in
    by_said (said names k xs) refl p.0 texts_are
  where
    by_said : (o : Option Action) → said names k xs ≡ o → AllPass names (wants_of k) xs → texts_of ts ≡ xs → IsAnswer names count line (profiled t.column o)
    by_said None none pass texts_are = (not_passed line t ts is, no_profile names count line t ts k xs are is.parts named room pass texts_are none)
    by_said (Some a) some pass texts_are =
        let name : t.text ≡ name_of_kind k = kind_name t.text k named in
        let all : texts line ≡ name_of_kind k ∷ xs = ap texts_of is.parts ∙ ap (λ (x : List ℕ). x ∷ texts_of ts) name ∙ ap (λ (ys : List (List ℕ)). name_of_kind k ∷ ys) texts_are in
        said_line names count line a room (subst (λ (ys : List (List ℕ)). Says names ys a) (sym all) (said_says names k xs a pass some))

kind_answer : (names : List (List ℕ)) (count : ℕ) (line : List ℕ) (t : Token) (ts : List Token) (rest : Rest) → AreNames names → IsSome line t ts →
    rest.tokens ≡ ts → rest.end ≡ length line + 1 → (o : Option Kind) → kind_of t.text ≡ o → IsAnswer names count line (action_of names (eqb count 16777216) t.column o rest)
unfolding arguments_of
kind_answer names count line t ts rest are is tokens_are end_is None none = (not_passed line t ts is, no_action names count line t ts is.parts none)
kind_answer names count line t ts rest are is tokens_are end_is (Some k) named = elim (which (eqb count 16777216)) [
  | inl full ↦ rw full (not_passed line t ts is, too_many names count line t ts k is.parts named full)
  | inr room ↦ rw room (arguments_answer names count line t ts k rest are is named room tokens_are end_is (all_of names (wants_of k) rest) refl)
]

some_answer : (names : List (List ℕ)) (count : ℕ) (line : List ℕ) (later : List (List ℕ)) (t : Token) (ts : List Token) → AreNames names → IsSome line t ts →
    IsAnswer names count line (line_of names (eqb count 16777216) (whole_line line later))
unfolding text_at column_at
some_answer names count line later t ts are is =
    let rest = whole_line line later in
    let some : says_nothing rest.tokens ≡ false = ap says_nothing is.parts ∙ is.some in
    let text : text_at rest ≡ t.text = ap text_in is.parts in
    let column : column_at rest ≡ t.column = ap (λ (xs : List Token). column_in xs rest.end) is.parts in
    elim (which (starts_run t.text)) [
      | inl run ↦
          let tokens_are : (behind rest).tokens ≡ ts = rw is.parts refl in
          answers names count line _ (action_of names (eqb count 16777216) t.column (kind_of t.text) (behind rest))
          (line_named names (eqb count 16777216) rest rest (behind rest) t.text t.column some refl (ap starts_run text ∙ run, sym text, sym column, refl))
          (kind_answer names count line t ts (behind rest) are is tokens_are refl (kind_of t.text) refl)
      | inr other ↦
          answers names count line _ (Err (not_action t.column))
          (line_unnamed names (eqb count 16777216) rest rest (not_action t.column) some refl (ap starts_run text ∙ other, ap not_action (sym column)))
          (not_passed line t ts is, no_action names count line t ts is.parts (unnamed t.text other (kind_of t.text) refl))
    ]

nothing_answer : (names : List (List ℕ)) (count : ℕ) (line : List ℕ) (later : List (List ℕ)) → says_nothing (tokens 1 line) ≡ true → IsAnswer names count line (line_of names (eqb count 16777216) (whole_line line later))
unfolding line_of
nothing_answer names count line later nothing = rw nothing (passed_line names count line None refl (nothing_said (tokens 1 line) nothing))

pub line_answer : (names : List (List ℕ)) (count : ℕ) (line : List ℕ) (later : List (List ℕ)) → AreNames names → IsAnswer names count line (line_of names (eqb count 16777216) (whole_line line later))
line_answer names count line later are = by_tokens (tokens 1 line) refl
  where
    by_tokens : (ts : List Token) → tokens 1 line ≡ ts → IsAnswer names count line (line_of names (eqb count 16777216) (whole_line line later))
    by_tokens [] parts = nothing_answer names count line later (ap says_nothing parts)
    by_tokens (t ∷ ts) parts = elim (which (says_nothing (t ∷ ts))) [
      | inl nothing ↦ nothing_answer names count line later (ap says_nothing parts ∙ nothing)
      | inr some ↦ some_answer names count line later t ts are (record { parts = parts; some = some })
    ]
