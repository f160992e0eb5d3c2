-- The names of levels as words: a level's name is found, and no other word is a level.
use Rattle.std.proofs.Common.{◌≡◌, ℕ, zero, suc, ◌+◌, ◌<◌, Bool, true, false, not, List, [], ◌∷◌, length, get_or, slice_get, Option, Some, None, refl, sym, ap, ◌∙◌, arith, inl, inr, Contains, below_more, ◌≤◌}
use Rattle.std.specs.List.{AllByRecursion, IsDistinct, position_from, list_all}
use Rattle.std.specs.Str.{bytes_eq}
use Rattle.std.proofs.lemmas.Bool.Decides.{nat_tests}
use Rattle.std.proofs.lemmas.Slice.Eq.{bytes_eq-Decides}
use Rattle.std.proofs.lemmas.Iterator.Adapters.{position_from-zero}
use Rattle.std.proofs.lemmas.List.{length-map}
use Rattle.std.proofs.lemmas.Option.{slice_get-map}
use Rattle.std.specs.Prelude.{option_map}
use Rattle.level_book.specs.declared.book.Level.{Level}
use Rattle.action_text.specs.Bytes.{IsWord}
use Rattle.level_book.specs.BookCosts.{BookCosts, names_of}
use Rattle.level_book.specs.Names.{is_name, is_spelled, is_name_byte, AreNames}
use Rattle.action_text.specs.Tokens.{is_run_byte, starts_run}
use Rattle.action_text.specs.Parser.{level_of}
use Rattle.line_texts.proofs.Steps.{which, both}
use Rattle.action_text.proofs.Decimal.{IsRun}

pub same_bytes : (a b : List ℕ) → bytes_eq a b ≡ true → a ≡ b
same_bytes a b e = (bytes_eq-Decides a b).0 e

pub bytes_same : (a b : List ℕ) → a ≡ b → bytes_eq a b ≡ true
bytes_same a b e = (bytes_eq-Decides a b).1 e

-- ---- a name is a run

upper_is_run : (b : ℕ) → is_name_byte b ≡ true → is_run_byte b ≡ true
upper_is_run b name = grind (arith, nat_tests)

all_run : (name : List ℕ) → list_all is_name_byte name ≡ true → AllByRecursion (λ b. is_run_byte b ≡ true) name
all_run [] all = tt
all_run (b ∷ bs) all = let p = both (is_name_byte b) (list_all is_name_byte bs) all in (upper_is_run b p.0, all_run bs p.1)

first_is_run : (name : List ℕ) → is_spelled name ≡ true → starts_run name ≡ true
first_is_run [] spelled = absurd cc
first_is_run (b ∷ bs) spelled = (all_run (b ∷ bs) (both _ _ spelled).1).0

pub name_is_run : (name : List ℕ) → is_name name ≡ true → IsRun name
name_is_run name is =
    let spelled = (both (is_spelled name) _ (both _ _ is).0).0 in
    record { some = first_is_run name spelled; each = all_run name (both _ _ spelled).1 }

all_of_word : (name : List ℕ) → list_all is_name_byte name ≡ true → list_all is_run_byte name ≡ true
all_of_word [] all = refl
all_of_word (b ∷ bs) all = let p = both (is_name_byte b) (list_all is_name_byte bs) all in rw (upper_is_run b p.0, all_of_word bs p.1) refl

pub name_is_word : (name : List ℕ) → is_name name ≡ true → IsWord name
name_is_word name is =
    let spelled = (both (is_spelled name) _ (both _ _ is).0).0 in
    record { some = first_is_run name spelled; each = all_of_word name (both _ _ spelled).1 }

is_false : (b : Bool) → not b ≡ true → b ≡ false
is_false true h = cc
is_false false h = refl

-- ---- where a word is found among names

abbrev from : List ℕ → ℕ → List (List ℕ) → Option ℕ
from text i names = position_from (bytes_eq text) i names

level_from : (names : List (List ℕ)) (text : List ℕ) → level_of names text ≡ from text 0 names
unfolding level_of
level_from names text = position_from-zero (bytes_eq text) names

-- what is found is there
found_from : (names : List (List ℕ)) (text : List ℕ) (i k : ℕ) → from text i names ≡ Some k → (j : ℕ) × (k ≡ i + j) × (slice_get names j ≡ Some text)
found_from [] text i k e = absurd cc
found_from (name ∷ names) text i k e = elim (which (bytes_eq text name)) [
  | inl hit ↦
      let same : i ≡ k = cc (rw hit at e) in
      (0, omega arith, ap Some (sym (same_bytes text name hit)))
  | inr miss ↦
      let f = found_from names text (i + 1) k (rw miss at e) in
      (suc f.0, omega (arith, f.1), f.2)
]

pub level_is : (names : List (List ℕ)) (text : List ℕ) (k : ℕ) → level_of names text ≡ Some k → slice_get names k ≡ Some text
level_is names text k e =
    let f = found_from names text 0 k (sym (level_from names text) ∙ e) in
    let same : f.0 ≡ k = omega (arith, f.1) in
    ap (slice_get names) (sym same) ∙ f.2

-- what is there is found, at its first place
distinct_head : (name : List ℕ) (names : List (List ℕ)) → IsDistinct bytes_eq (name ∷ names) → AllByRecursion (λ other. bytes_eq name other ≡ false) names × IsDistinct bytes_eq names
unfolding IsDistinct
distinct_head name names all = (all.0, all.1)

other_at : (name : List ℕ) (names : List (List ℕ)) (j : ℕ) (text : List ℕ) → AllByRecursion (λ other. bytes_eq name other ≡ false) names → slice_get names j ≡ Some text → bytes_eq name text ≡ false
other_at name [] j text all at = cc
other_at name (other ∷ names) zero text all at = let same : other ≡ text = cc in rw (← same) all.0
other_at name (other ∷ names) (suc j) text all at = other_at name names j text all.1 at

found_at : (names : List (List ℕ)) (j i : ℕ) (text : List ℕ) → IsDistinct bytes_eq names → slice_get names j ≡ Some text → from text i names ≡ Some (i + j)
found_at [] j i text apart at = cc
found_at (name ∷ names) zero i text apart at =
    let same : text ≡ name = cc in
    let place : i ≡ i + 0 = omega arith in
    rw (bytes_same text name same) (ap Some place)
found_at (name ∷ names) (suc j) i text apart at =
    let d = distinct_head name names apart in
    let differs : bytes_eq text name ≡ false = elim (which (bytes_eq text name)) [
      | inl hit ↦ absurd (cc (bytes_same name text (sym (same_bytes text name hit)), other_at name names j text d.0 at))
      | inr miss ↦ miss
    ] in
    let place : (i + 1) + j ≡ i + suc j = omega arith in
    rw differs (found_at names j (i + 1) text d.1 at ∙ ap Some place)

pub level_found : (names : List (List ℕ)) (k : ℕ) (text : List ℕ) → AreNames names → slice_get names k ≡ Some text → level_of names text ≡ Some k
level_found names k text are at = level_from names text ∙ found_at names k 0 text are.distinct at ∙ ap Some (omega arith)

-- the name of a level is a name
name_at : (names : List (List ℕ)) (k : ℕ) (text : List ℕ) → AllByRecursion (λ name. is_name name ≡ true) names → slice_get names k ≡ Some text → is_name text ≡ true
name_at [] k text all at = cc
name_at (name ∷ names) zero text all at = let same : name ≡ text = cc in rw (← same) all.0
name_at (name ∷ names) (suc k) text all at = name_at names k text all.1 at

pub level_is_name : (names : List (List ℕ)) (k : ℕ) (text : List ℕ) → AreNames names → slice_get names k ≡ Some text → is_name text ≡ true
level_is_name names k text are at = name_at names k text are.each at

-- a word that is no name is no level
pub no_level : (names : List (List ℕ)) (text : List ℕ) → AreNames names → is_name text ≡ false → level_of names text ≡ None
no_level names text are miss = none_of (level_of names text) refl
  where
    none_of : (o : Option ℕ) → level_of names text ≡ o → level_of names text ≡ None
    none_of None e = e
    none_of (Some k) e = absurd (cc (level_is_name names k text are (level_is names text k e), miss))

-- ---- containing, by place

pub contains_at : (names : List (List ℕ)) (k : ℕ) (text : List ℕ) → slice_get names k ≡ Some text → Contains names text
contains_at [] k text at = cc
contains_at (name ∷ names) zero text at = let same : name ≡ text = cc in (0, omega arith, same)
contains_at (name ∷ names) (suc k) text at = let c = contains_at names k text at in (suc c.0, omega (arith, c.1), c.2)

pub at_contained : (names : List (List ℕ)) (text : List ℕ) → Contains names text → (k : ℕ) × (slice_get names k ≡ Some text)
at_contained names text c = (c.0, there names c.0 c.1 c.2)
  where
    there : (names : List (List ℕ)) (k : ℕ) → k < length names → get_or names k text ≡ text → slice_get names k ≡ Some text
    there [] k within is = absurd (omega arith)
    there (name ∷ names) zero within is = ap Some is
    there (name ∷ names) (suc k) within is = there names k (omega arith) is

-- ---- the levels of a book, one after the other

pub name_of_level : (book : BookCosts) (k : ℕ) (level : Level) → slice_get book.levels k ≡ Some level → slice_get (names_of book) k ≡ Some level.name
name_of_level book k level at = slice_get-map (λ (l : Level). l.name) book.levels k ∙ ap (option_map (λ (l : Level). l.name)) at

pub level_is_word : (book : BookCosts) (k : ℕ) (level : Level) → AreNames (names_of book) → slice_get book.levels k ≡ Some level → IsWord level.name
level_is_word book k level are at = name_is_word level.name (level_is_name (names_of book) k level.name are (name_of_level book k level at))

pub level_found_here : (book : BookCosts) (k : ℕ) (level : Level) (text : List ℕ) → AreNames (names_of book) → slice_get book.levels k ≡ Some level → bytes_eq text level.name ≡ true →
    level_of (names_of book) text ≡ Some k
level_found_here book k level text are at same =
    level_found (names_of book) k text are (name_of_level book k level at ∙ ap Some (sym (same_bytes text level.name same)))

-- no level with a number below this one has the name
abbrev pub NoneBelow : BookCosts → List ℕ → ℕ → Type 0
NoneBelow book text k = (j : ℕ) → j < k → slice_get (names_of book) j ≡ Some text → ⊥

pub none_below_more : (book : BookCosts) (k : ℕ) (level : Level) (text : List ℕ) → NoneBelow book text k → slice_get book.levels k ≡ Some level → bytes_eq text level.name ≡ false →
    NoneBelow book text (k + 1)
none_below_more book k level text none at differs =
    below_more (λ (j : ℕ). slice_get (names_of book) j ≡ Some text → ⊥) k none
    (λ here. let same : text ≡ level.name = cc (name_of_level book k level at, here) in cc (bytes_same text level.name same, differs))

pub no_level_found : (book : BookCosts) (k : ℕ) (text : List ℕ) → NoneBelow book text k → length book.levels ≤ k → level_of (names_of book) text ≡ None
no_level_found book k text none past = none_of (level_of (names_of book) text) refl
  where
    within : (names : List (List ℕ)) (j : ℕ) → slice_get names j ≡ Some text → j < length names
    within [] j at = cc
    within (name ∷ names) zero at = omega arith
    within (name ∷ names) (suc j) at = omega (arith, within names j at)

    none_of : (o : Option ℕ) → level_of (names_of book) text ≡ o → level_of (names_of book) text ≡ None
    none_of None e = e
    none_of (Some j) e =
        let at = level_is (names_of book) text j e in
        let count : length (names_of book) ≡ length book.levels = rw length-map refl in
        absurd (none j (omega (arith, within (names_of book) j at, count)) at)
