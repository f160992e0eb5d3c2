-- What is taken from the front of a line fits what is wanted, and what isn't taken doesn't.
use Rattle.std.proofs.Common.{◌≡◌, ◌⊎◌, ℕ, Bool, true, false, cond, ◌&&◌, List, [], ◌∷◌, Option, Some, None, is_some, Ok, Err, slice_get, refl, sym, ap, subst, ◌∙◌, inl, inr}
use Rattle.std.specs.Prelude.{codes}
use Rattle.std.specs.Str.{bytes_eq}
use Rattle.level_book.specs.Names.{AreNames}
use Rattle.plan_types.specs.declared.action.Dest.{Dest}
use Rattle.plan_types.specs.declared.action.Dest.TheVariants.{Work, Level}
use Rattle.action_text.specs.declared.fault.Rule.{Rule}
use Rattle.action_text.specs.declared.fault.Rule.TheVariants as rule
use Rattle.line_texts.specs.declared.fault.LineFault.{LineFault}
use Rattle.action_text.specs.declared.words.Place.{Place}
use Rattle.action_text.specs.declared.words.Place.TheVariants as at
use Rattle.action_text.specs.Tokens.{starts_run}
use Rattle.line_texts.specs.Tokens.{Token}
use Rattle.line_texts.specs.Numbers.{starts_with_digit}
use Rattle.action_text.specs.Shapes.{Want, exactly, number, truth, level, target, place, TakesToken}
use Rattle.action_text.specs.Faults.{rule_at}
use Rattle.action_text.specs.CursorState.{Rest}
use Rattle.action_text.specs.Parser.{number_of, truth_of, level_of, target_of, place_of, found_or, text_in, column_in, text_at, column_at, behind, take_if, number_rule, level_rule, next, number_next, truth_next, level_next, target_next, place_next, mark_next, number_of_rule}
use Rattle.line_texts.proofs.Steps.{which, both, chosen, ok_is, err_is, not_both}
use Rattle.action_text.proofs.Decimal.{number_is, decimal_is_number, decimal_is_run}
use Rattle.action_text.proofs.LevelWords.{same_bytes, bytes_same, level_is, level_found, level_is_name, name_is_run, no_level, contains_at, at_contained}

-- ---- the test of a want, and its rule

pub test_of : List (List ℕ) → Want → List ℕ → Bool
test_of names (exactly wanted) text = bytes_eq text wanted
test_of names number text = starts_run text && is_some (number_of text)
test_of names truth text = starts_run text && is_some (truth_of text)
test_of names level text = starts_run text && is_some (level_of names text)
test_of names target text = starts_run text && is_some (target_of names text)
test_of names place text = starts_run text && is_some (place_of names text)

rule_of : Want → List ℕ → Rule
rule_of (exactly wanted) text = rule.NotAction
rule_of number text = number_rule text
rule_of truth text = rule.NotAction
rule_of level text = level_rule text
rule_of target text = level_rule text
rule_of place text = level_rule text

next_is : (names : List (List ℕ)) (w : Want) (rest : Rest) → next names w rest ≡ take_if (test_of names w) (rule_of w) rest
unfolding test_of rule_of mark_next number_next truth_next level_next target_next place_next
next_is names (exactly wanted) rest = refl
next_is names number rest = refl
next_is names truth rest = refl
next_is names level rest = refl
next_is names target rest = refl
next_is names place rest = refl

some_is : {A : Type 0} (o : Option A) → is_some o ≡ true → (x : A) × (o ≡ Some x)
some_is None e = absurd cc
some_is (Some x) e = (x, refl)

pub number_passed : (names : List (List ℕ)) (text : List ℕ) → test_of names number text ≡ true → (n : ℕ) × (number_of text ≡ Some n)
unfolding test_of
number_passed names text e = some_is (number_of text) (both _ _ e).1

pub truth_passed : (names : List (List ℕ)) (text : List ℕ) → test_of names truth text ≡ true → (b : Bool) × (truth_of text ≡ Some b)
unfolding test_of
truth_passed names text e = some_is (truth_of text) (both _ _ e).1

pub level_passed : (names : List (List ℕ)) (text : List ℕ) → test_of names level text ≡ true → (k : ℕ) × (level_of names text ≡ Some k)
unfolding test_of
level_passed names text e = some_is (level_of names text) (both _ _ e).1

pub target_passed : (names : List (List ℕ)) (text : List ℕ) → test_of names target text ≡ true → (d : Dest) × (target_of names text ≡ Some d)
unfolding test_of
target_passed names text e = some_is (target_of names text) (both _ _ e).1

pub place_passed : (names : List (List ℕ)) (text : List ℕ) → test_of names place text ≡ true → (p : Place) × (place_of names text ≡ Some p)
unfolding test_of
place_passed names text e = some_is (place_of names text) (both _ _ e).1

pub exactly_passed : (names : List (List ℕ)) (wanted text : List ℕ) → test_of names (exactly wanted) text ≡ true → text ≡ wanted
unfolding test_of
exactly_passed names wanted text e = same_bytes text wanted e

-- ---- what words say

pub truth_is : (text : List ℕ) (b : Bool) → truth_of text ≡ Some b → (text ≡ codes "True") × (b ≡ true) ⊎ (text ≡ codes "False") × (b ≡ false)
truth_is text b e = elim (which (bytes_eq text (codes "True"))) [
  | inl hit ↦ inl (same_bytes text (codes "True") hit, let same : true ≡ b = cc (rw hit at e) in sym same)
  | inr miss ↦ elim (which (bytes_eq text (codes "False"))) [
    | inl hit ↦ inr (same_bytes text (codes "False") hit, let same : false ≡ b = cc (rw (miss, hit) at e) in sym same)
    | inr neither ↦ absurd (cc (rw (miss, neither) at e))
  ]
]

-- the text names where a Copy or a Move goes, or what a Forward keeps
abbrev pub IsTarget : List (List ℕ) → List ℕ → Dest → Type 0
IsTarget names text Work = text ≡ codes "WORK"
IsTarget names text (Level k) = slice_get names k ≡ Some text

abbrev pub IsPlace : List (List ℕ) → List ℕ → Place → Type 0
IsPlace names text (at.At d) = IsTarget names text d
IsPlace names text at.Nowhere = text ≡ codes "NONE"

or_word : {B : Type 0} (text word : List ℕ) (v : B) (x : B) → cond (bytes_eq text word) (Some v) None ≡ Some x → (text ≡ word) × (v ≡ x)
or_word text word v x e = elim (chosen (bytes_eq text word) (Some v) None (Some x) e) [
  | inl h ↦ (same_bytes text word h.0, cc (h.1))
  | inr h ↦ absurd (cc (h.1))
]

found_or_is : {A B : Type 0} (o : Option A) (f : A → B) (other : Option B) (x : B) → found_or o f other ≡ Some x → ((a : A) × (o ≡ Some a) × (f a ≡ x)) ⊎ (other ≡ Some x)
found_or_is None f other x e = inr e
found_or_is (Some a) f other x e = inl (a, refl, cc e)

pub target_is : (names : List (List ℕ)) (text : List ℕ) (d : Dest) → target_of names text ≡ Some d → IsTarget names text d
unfolding target_of
target_is names text d e = elim (found_or_is (level_of names text) Level (cond (bytes_eq text (codes "WORK")) (Some Work) None) d e) [
  | inl h ↦ subst (λ (x : Dest). IsTarget names text x) h.2 (level_is names text h.0 h.1)
  | inr other ↦ let work = or_word text (codes "WORK") Work d other in subst (λ (x : Dest). IsTarget names text x) work.1 work.0
]

pub place_is : (names : List (List ℕ)) (text : List ℕ) (p : Place) → place_of names text ≡ Some p → IsPlace names text p
unfolding place_of
place_is names text p e = elim (found_or_is (target_of names text) at.At (cond (bytes_eq text (codes "NONE")) (Some at.Nowhere) None) p e) [
  | inl h ↦ subst (λ (x : Place). IsPlace names text x) h.2 (target_is names text h.0 h.1)
  | inr other ↦ let none = or_word text (codes "NONE") at.Nowhere p other in subst (λ (x : Place). IsPlace names text x) none.1 none.0
]

pub target_found : (names : List (List ℕ)) (text : List ℕ) (d : Dest) → AreNames names → IsTarget names text d → target_of names text ≡ Some d
unfolding target_of
target_found names text Work are is = rw is (rw (no_level names (codes "WORK") are refl) refl)
target_found names text (Level k) are is = rw (level_found names k text are is) refl

pub place_found : (names : List (List ℕ)) (text : List ℕ) (p : Place) → AreNames names → IsPlace names text p → place_of names text ≡ Some p
unfolding place_of target_of
place_found names text (at.At d) are is = rw (target_found names text d are is) refl
place_found names text at.Nowhere are is = rw is (rw (no_level names (codes "NONE") are refl) refl)

-- ---- a test holds exactly of what fits

some_holds : {A : Type 0} (o : Option A) (x : A) → o ≡ Some x → is_some o ≡ true
some_holds o x e = rw e refl

both_hold : (a b : Bool) → a ≡ true → b ≡ true → (a && b) ≡ true
both_hold a b p q = rw (p, q) refl

pub fits_passes : (names : List (List ℕ)) (w : Want) (text : List ℕ) → AreNames names → TakesToken names w text → test_of names w text ≡ true
unfolding test_of
fits_passes names (exactly wanted) text are fit = bytes_same text wanted fit
fits_passes names number text are fit = rw fit.2 (both_hold _ _ (decimal_is_run fit.0 fit.1).some (some_holds _ fit.0 (decimal_is_number fit.0 fit.1)))
fits_passes names truth text are (inl is) = rw is refl
fits_passes names truth text are (inr is) = rw is refl
fits_passes names level text are fit =
    let c = at_contained names text fit in
    both_hold _ _ (name_is_run text (level_is_name names c.0 text are c.1)).some (some_holds _ c.0 (level_found names c.0 text are c.1))
fits_passes names target text are (inl fit) =
    let c = at_contained names text fit in
    both_hold _ _ (name_is_run text (level_is_name names c.0 text are c.1)).some (some_holds _ (Level c.0) (target_found names text (Level c.0) are c.1))
fits_passes names target text are (inr is) = both_hold _ _ (ap starts_run is) (some_holds _ Work (target_found names text Work are is))
fits_passes names place text are (inl fit) =
    let c = at_contained names text fit in
    both_hold _ _ (name_is_run text (level_is_name names c.0 text are c.1)).some (some_holds _ (at.At (Level c.0)) (place_found names text (at.At (Level c.0)) are c.1))
fits_passes names place text are (inr (inl is)) = both_hold _ _ (ap starts_run is) (some_holds _ (at.At Work) (place_found names text (at.At Work) are is))
fits_passes names place text are (inr (inr is)) = both_hold _ _ (ap starts_run is) (some_holds _ at.Nowhere (place_found names text at.Nowhere are is))

target_fits : (names : List (List ℕ)) (text : List ℕ) (d : Dest) → IsTarget names text d → TakesToken names target text
target_fits names text Work is = inr is
target_fits names text (Level k) is = inl (contains_at names k text is)

place_fits : (names : List (List ℕ)) (text : List ℕ) (p : Place) → IsPlace names text p → TakesToken names place text
place_fits names text (at.At (Level k)) is = inl (contains_at names k text is)
place_fits names text (at.At Work) is = inr (inl is)
place_fits names text at.Nowhere is = inr (inr is)

pub passes_fits : (names : List (List ℕ)) (w : Want) (text : List ℕ) → test_of names w text ≡ true → TakesToken names w text
passes_fits names (exactly wanted) text e = exactly_passed names wanted text e
passes_fits names number text e = let n = number_passed names text e in let is = number_is text n.0 n.1 in (n.0, is.0, is.1)
passes_fits names truth text e = let b = truth_passed names text e in elim (truth_is text b.0 b.1) [
  | inl h ↦ inl h.0
  | inr h ↦ inr h.0
]
passes_fits names level text e = let k = level_passed names text e in contains_at names k.0 text (level_is names text k.0 k.1)
passes_fits names target text e = let d = target_passed names text e in target_fits names text d.0 (target_is names text d.0 d.1)
passes_fits names place text e = let p = place_passed names text e in place_fits names text p.0 (place_is names text p.0 p.1)

-- the rule of a text that doesn't fit, by its number
rule_numbered : (w : Want) (text : List ℕ) → number_of_rule (rule_of w text) ≡ rule_at (Some w) text
unfolding rule_of
rule_numbered (exactly wanted) text = refl
rule_numbered number text = elim (which (starts_with_digit text)) [
  | inl hit ↦ rw hit refl
  | inr miss ↦ rw miss refl
]
rule_numbered truth text = refl
rule_numbered level text = by_run text
  where
    by_run : (text : List ℕ) → number_of_rule (level_rule text) ≡ cond (starts_run text) 3 1
    by_run text = elim (which (starts_run text)) [
      | inl hit ↦ rw hit refl
      | inr miss ↦ rw miss refl
    ]
rule_numbered target text = elim (which (starts_run text)) [
  | inl hit ↦ rw hit refl
  | inr miss ↦ rw miss refl
]
rule_numbered place text = elim (which (starts_run text)) [
  | inl hit ↦ rw hit refl
  | inr miss ↦ rw miss refl
]

-- ---- one token

-- a want of some text
abbrev pub IsReal : Want → Type 0
IsReal (exactly []) = ⊥
IsReal (exactly (b ∷ bs)) = Unit {0}
IsReal _ = Unit {0}

nothing_fails : (names : List (List ℕ)) (w : Want) → IsReal w → test_of names w [] ≡ false
unfolding test_of
nothing_fails names (exactly []) real = absurd real
nothing_fails names (exactly (b ∷ bs)) real = refl
nothing_fails names number real = refl
nothing_fails names truth real = refl
nothing_fails names level real = refl
nothing_fails names target real = refl
nothing_fails names place real = refl

nothing_rule : (w : Want) → number_of_rule (rule_of w []) ≡ 1
unfolding rule_of
nothing_rule (exactly wanted) = refl
nothing_rule number = refl
nothing_rule truth = refl
nothing_rule level = refl
nothing_rule target = refl
nothing_rule place = refl

-- the next token passes, and is taken
pub record IsTaken (names : List (List ℕ)) (w : Want) (rest : Rest) (x : List ℕ × Rest) : Type 0 where
  pub token : Token
  pub parts : rest.tokens ≡ token ∷ x.1.tokens
  pub text : token.text ≡ x.0
  pub passes : test_of names w x.0 ≡ true
  pub end : x.1.end ≡ rest.end

taken_of : (names : List (List ℕ)) (w : Want) (ts : List Token) (rest : Rest) → rest.tokens ≡ ts → IsReal w → test_of names w (text_at rest) ≡ true → IsTaken names w rest (text_at rest, behind rest)
unfolding text_at
taken_of names w [] rest is real passes =
    let text : text_at rest ≡ [] = ap text_in is in
    absurd (cc (rw text at passes, nothing_fails names w real))
taken_of names w (t ∷ ts) rest is real passes =
    let behind_is : (behind rest).tokens ≡ ts = rw is refl in
    record { token = t; parts = is ∙ ap (λ (xs : List Token). t ∷ xs) (sym behind_is); text = rw is refl; passes = passes; end = refl }

pub next_ok : (names : List (List ℕ)) (w : Want) (rest : Rest) (x : List ℕ × Rest) → IsReal w → next names w rest ≡ Ok x → IsTaken names w rest x
next_ok names w rest x real e =
    elim (chosen (test_of names w (text_at rest)) (Ok (text_at rest, behind rest)) (Err (record { rule = rule_of w (text_at rest); column = column_at rest })) (Ok x) (sym (next_is names w rest) ∙ e)) [
      | inl h ↦ subst (λ (y : List ℕ × Rest). IsTaken names w rest y) (ok_is _ x h.1) (taken_of names w rest.tokens rest refl real h.0)
      | inr h ↦ absurd (not_both x _ (sym h.1))
    ]

-- the next token doesn't fit, or there is none
pub data IsLeft (names : List (List ℕ)) (w : Want) (rest : Rest) (f : LineFault Rule) : Type 0 where
  nothing : rest.tokens ≡ [] → number_of_rule f.rule ≡ 1 → f.column ≡ rest.end → IsLeft names w rest f
  unfit : (t : Token) (ts : List Token) → rest.tokens ≡ t ∷ ts → (TakesToken names w t.text → ⊥) → number_of_rule f.rule ≡ rule_at (Some w) t.text → f.column ≡ t.column → IsLeft names w rest f

left_of : (names : List (List ℕ)) (w : Want) (ts : List Token) (rest : Rest) → AreNames names → rest.tokens ≡ ts → test_of names w (text_at rest) ≡ false →
    IsLeft names w rest (record { rule = rule_of w (text_at rest); column = column_at rest })
unfolding text_at column_at
left_of names w [] rest are is fails =
    IsLeft.nothing is (ap (λ (xs : List Token). number_of_rule (rule_of w (text_in xs))) is ∙ nothing_rule w) (ap (λ (xs : List Token). column_in xs rest.end) is)
left_of names w (t ∷ ts) rest are is fails =
    let text : text_at rest ≡ t.text = ap text_in is in
    IsLeft.unfit t ts is (λ fit. cc (rw text at fails, fits_passes names w t.text are fit))
    (ap (λ (x : List ℕ). number_of_rule (rule_of w x)) text ∙ rule_numbered w t.text) (ap (λ (xs : List Token). column_in xs rest.end) is)

pub next_err : (names : List (List ℕ)) (w : Want) (rest : Rest) (f : LineFault Rule) → AreNames names → next names w rest ≡ Err f → IsLeft names w rest f
next_err names w rest f are e =
    elim (chosen (test_of names w (text_at rest)) (Ok (text_at rest, behind rest)) (Err (record { rule = rule_of w (text_at rest); column = column_at rest })) (Err f) (sym (next_is names w rest) ∙ e)) [
      | inl h ↦ absurd (not_both _ f h.1)
      | inr h ↦ subst (λ (g : LineFault Rule). IsLeft names w rest g) (err_is (List ℕ × Rest) _ f h.1) (left_of names w rest.tokens rest are refl h.0)
    ]
