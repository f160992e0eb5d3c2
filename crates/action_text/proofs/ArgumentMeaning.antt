-- A line's arguments are read as an action exactly where its texts say it.
use Rattle.std.proofs.Common.{◌≡◌, ◌⊎◌, ℕ, ◌+◌, ◌≤◌, Bool, true, false, eqb, List, [], ◌∷◌, Some, slice_get, refl, sym, ap, subst, ◌∙◌, inl, inr}
use Rattle.std.specs.Prelude.{codes, decimal}
use Rattle.std.proofs.lemmas.Bool.{eqb-true, eq-eqb}
use Rattle.level_book.specs.Names.{AreNames}
use Rattle.plan_types.specs.declared.action.Keep.TheVariants.{Nothing, Store, Tape}
use Rattle.plan_types.specs.declared.action.Dest.{Dest}
use Rattle.plan_types.specs.declared.action.Dest.TheVariants.{Work, Level}
use Rattle.plan_types.specs.declared.action.Action.{Action}
use Rattle.plan_types.specs.declared.action.Action.TheVariants.{Forward, Reverse, Copy, Move, EndForward, EndReverse}
use Rattle.action_text.specs.declared.words.Place.{Place}
use Rattle.action_text.specs.declared.words.Place.TheVariants as at
use Rattle.action_text.specs.declared.words.Kind.{Kind}
use Rattle.action_text.specs.declared.words.Kind.TheVariants as kind
use Rattle.action_text.specs.Shapes.{Want, target, place, opening, closing, TakesToken}
use Rattle.action_text.specs.Meaning.{call, forward_call, NamesDest, Says}
use Rattle.action_text.specs.Parser.{kind_of, wants_of, forward_said, reverse_said, said}
use Rattle.line_texts.proofs.Steps.{which}
use Rattle.action_text.proofs.Decimal.{number_is, decimal_is_number}
use Rattle.action_text.proofs.LevelWords.{level_is, level_found, contains_at}
use Rattle.action_text.proofs.ExpectedTokens.{test_of, IsTarget, IsPlace, number_passed, truth_passed, level_passed, target_passed, place_passed, exactly_passed, truth_is, target_is, place_is, target_found, place_found}

-- texts pass the tests of wants, one by one
abbrev pub AllPass : List (List ℕ) → List Want → List (List ℕ) → Type 0
AllPass names [] [] = Unit {0}
AllPass names [] (x ∷ xs) = ⊥
AllPass names (w ∷ ws) [] = ⊥
AllPass names (w ∷ ws) (x ∷ xs) = (test_of names w x ≡ true) × AllPass names ws xs

-- the name of a kind
abbrev pub name_of_kind : Kind → List ℕ
name_of_kind kind.Forward = codes "Forward"
name_of_kind kind.Reverse = codes "Reverse"
name_of_kind kind.Copy = codes "Copy"
name_of_kind kind.Move = codes "Move"
name_of_kind kind.EndForward = codes "EndForward"
name_of_kind kind.EndReverse = codes "EndReverse"

-- ---- what is read is said

forward_sound : (names : List (List ℕ)) (n m : ℕ) (s t p : List ℕ) (bs bt : Bool) (v : Place) (a : Action) → n ≤ 1000000 → m ≤ 1000000 →
    ((s ≡ codes "True") × (bs ≡ true) ⊎ (s ≡ codes "False") × (bs ≡ false)) → ((t ≡ codes "True") × (bt ≡ true) ⊎ (t ≡ codes "False") × (bt ≡ false)) →
    IsPlace names p v → forward_said n m bs bt v ≡ Some a → Says names (forward_call n m s t p) a
forward_sound names n m s t p true true v a low high is_s is_t is_p e = absurd cc
forward_sound names n m s t p true false (at.At Work) a low high is_s is_t is_p e = absurd cc
forward_sound names n m s t p true false at.Nowhere a low high is_s is_t is_p e = absurd cc
forward_sound names n m s t p true false (at.At (Level k)) a low high (inr s_is) is_t is_p e = absurd (cc (s_is.1))
forward_sound names n m s t p true false (at.At (Level k)) a low high (inl s_is) (inl t_is) is_p e = absurd (cc (t_is.1))
forward_sound names n m s t p true false (at.At (Level k)) a low high (inl s_is) (inr t_is) is_p e =
    let is : Forward n m (Store k) ≡ a = cc e in
    subst (λ (x : Action). Says names (forward_call n m s t p) x) is (low, high, p, is_p, rw (s_is.0, t_is.0) refl)
forward_sound names n m s t p false true (at.At (Level k)) a low high is_s is_t is_p e = absurd cc
forward_sound names n m s t p false true at.Nowhere a low high is_s is_t is_p e = absurd cc
forward_sound names n m s t p false true (at.At Work) a low high (inl s_is) is_t is_p e = absurd (cc (s_is.1))
forward_sound names n m s t p false true (at.At Work) a low high (inr s_is) (inr t_is) is_p e = absurd (cc (t_is.1))
forward_sound names n m s t p false true (at.At Work) a low high (inr s_is) (inl t_is) is_p e = elim (which (eqb m (n + 1))) [
  | inl one ↦
      let is : Forward n m Tape ≡ a = cc (rw one at e) in
      subst (λ (x : Action). Says names (forward_call n m s t p) x) is (low, high, eqb-true _ _ one, rw (s_is.0, t_is.0, is_p) refl)
  | inr more ↦ absurd (cc (rw more at e))
]
forward_sound names n m s t p false false (at.At (Level k)) a low high is_s is_t is_p e = absurd cc
forward_sound names n m s t p false false v a low high (inl s_is) is_t is_p e = absurd (cc (s_is.1))
forward_sound names n m s t p false false v a low high (inr s_is) (inl t_is) is_p e = absurd (cc (t_is.1))
forward_sound names n m s t p false false (at.At Work) a low high (inr s_is) (inr t_is) is_p e =
    let is : Forward n m Nothing ≡ a = cc e in
    subst (λ (x : Action). Says names (forward_call n m s t p) x) is (low, high, inr (rw (s_is.0, t_is.0, is_p) refl))
forward_sound names n m s t p false false at.Nowhere a low high (inr s_is) (inr t_is) is_p e =
    let is : Forward n m Nothing ≡ a = cc e in
    subst (λ (x : Action). Says names (forward_call n m s t p) x) is (low, high, inl (rw (s_is.0, t_is.0, is_p) refl))

reverse_sound : (names : List (List ℕ)) (n m : ℕ) (s : List ℕ) (bs : Bool) (a : Action) → n ≤ 1000000 → m ≤ 1000000 →
    ((s ≡ codes "True") × (bs ≡ true) ⊎ (s ≡ codes "False") × (bs ≡ false)) → reverse_said n m bs ≡ Some a → Says names (call (codes "Reverse") (decimal n ∷ decimal m ∷ s ∷ [])) a
reverse_sound names n m s false a low high is e = absurd cc
reverse_sound names n m s true a low high (inr is) e = absurd (cc (is.1))
reverse_sound names n m s true a low high (inl is) e = elim (which (eqb n (m + 1))) [
  | inl one ↦
      let same : Reverse n m ≡ a = cc (rw one at e) in
      subst (λ (x : Action). Says names (call (codes "Reverse") (decimal n ∷ decimal m ∷ s ∷ [])) x) same (low, high, eqb-true _ _ one, rw is.0 refl)
  | inr more ↦ absurd (cc (rw more at e))
]

names_dest : (names : List (List ℕ)) (text : List ℕ) (d : Dest) → IsTarget names text d → NamesDest names d text
names_dest names text Work is = is
names_dest names text (Level k) is = is

dest_target : (names : List (List ℕ)) (text : List ℕ) (d : Dest) → NamesDest names d text → IsTarget names text d
dest_target names text Work is = is
dest_target names text (Level k) is = is

-- texts, of which the marks and the numbers are known
forward_texts : (o n c1 m c2 s c3 t c4 p z : List ℕ) (from to : ℕ) → o ≡ codes "(" → n ≡ decimal from → c1 ≡ codes "," → m ≡ decimal to → c2 ≡ codes "," →
    c3 ≡ codes "," → c4 ≡ codes "," → z ≡ codes ")" → codes "Forward" ∷ o ∷ n ∷ c1 ∷ m ∷ c2 ∷ s ∷ c3 ∷ t ∷ c4 ∷ p ∷ z ∷ [] ≡ forward_call from to s t p
forward_texts o n c1 m c2 s c3 t c4 p z from to e1 e2 e3 e4 e5 e6 e7 e8 = rw (e1, e2, e3, e4, e5, e6, e7, e8) refl

reverse_texts : (o n c1 m c2 s z : List ℕ) (from to : ℕ) → o ≡ codes "(" → n ≡ decimal from → c1 ≡ codes "," → m ≡ decimal to → c2 ≡ codes "," → z ≡ codes ")" →
    codes "Reverse" ∷ o ∷ n ∷ c1 ∷ m ∷ c2 ∷ s ∷ z ∷ [] ≡ call (codes "Reverse") (decimal from ∷ decimal to ∷ s ∷ [])
reverse_texts o n c1 m c2 s z from to e1 e2 e3 e4 e5 e6 = rw (e1, e2, e3, e4, e5, e6) refl

copy_texts : (name o n c1 l c2 d z : List ℕ) (value : ℕ) → o ≡ codes "(" → n ≡ decimal value → c1 ≡ codes "," → c2 ≡ codes "," → z ≡ codes ")" →
    name ∷ o ∷ n ∷ c1 ∷ l ∷ c2 ∷ d ∷ z ∷ [] ≡ call name (decimal value ∷ l ∷ d ∷ [])
copy_texts name o n c1 l c2 d z value e1 e2 e3 e4 e5 = rw (e1, e2, e3, e4, e5) refl

-- the arguments of each kind, by their places
record IsForward (names : List (List ℕ)) (xs : List (List ℕ)) : Type 0 where
  from : ℕ
  to : ℕ
  low : from ≤ 1000000
  high : to ≤ 1000000
  state : List ℕ
  tape : List ℕ
  keeps : List ℕ
  state_value : Bool
  tape_value : Bool
  place_value : Place
  state_is : (state ≡ codes "True") × (state_value ≡ true) ⊎ (state ≡ codes "False") × (state_value ≡ false)
  tape_is : (tape ≡ codes "True") × (tape_value ≡ true) ⊎ (tape ≡ codes "False") × (tape_value ≡ false)
  keeps_is : IsPlace names keeps place_value
  texts : codes "Forward" ∷ xs ≡ forward_call from to state tape keeps
  reads : said names kind.Forward xs ≡ forward_said from to state_value tape_value place_value

forward_parts : (names : List (List ℕ)) (xs : List (List ℕ)) → AllPass names (wants_of kind.Forward) xs → IsForward names xs
forward_parts names [] fit = absurd fit
forward_parts names (o ∷ []) fit = absurd fit.1
forward_parts names (o ∷ n ∷ []) fit = absurd fit.1.1
forward_parts names (o ∷ n ∷ c1 ∷ []) fit = absurd fit.1.1.1
forward_parts names (o ∷ n ∷ c1 ∷ m ∷ []) fit = absurd fit.1.1.1.1
forward_parts names (o ∷ n ∷ c1 ∷ m ∷ c2 ∷ []) fit = absurd fit.1.1.1.1.1
forward_parts names (o ∷ n ∷ c1 ∷ m ∷ c2 ∷ s ∷ []) fit = absurd fit.1.1.1.1.1.1
forward_parts names (o ∷ n ∷ c1 ∷ m ∷ c2 ∷ s ∷ c3 ∷ []) fit = absurd fit.1.1.1.1.1.1.1
forward_parts names (o ∷ n ∷ c1 ∷ m ∷ c2 ∷ s ∷ c3 ∷ t ∷ []) fit = absurd fit.1.1.1.1.1.1.1.1
forward_parts names (o ∷ n ∷ c1 ∷ m ∷ c2 ∷ s ∷ c3 ∷ t ∷ c4 ∷ []) fit = absurd fit.1.1.1.1.1.1.1.1.1
forward_parts names (o ∷ n ∷ c1 ∷ m ∷ c2 ∷ s ∷ c3 ∷ t ∷ c4 ∷ p ∷ []) fit = absurd fit.1.1.1.1.1.1.1.1.1.1
forward_parts names (o ∷ n ∷ c1 ∷ m ∷ c2 ∷ s ∷ c3 ∷ t ∷ c4 ∷ p ∷ z ∷ more ∷ others) fit = absurd fit.1.1.1.1.1.1.1.1.1.1.1
forward_parts names (o ∷ n ∷ c1 ∷ m ∷ c2 ∷ s ∷ c3 ∷ t ∷ c4 ∷ p ∷ z ∷ []) fit =
    let from = number_passed names n fit.1.0 in
    let to = number_passed names m fit.1.1.1.0 in
    let state_b = truth_passed names s fit.1.1.1.1.1.0 in
    let tape_b = truth_passed names t fit.1.1.1.1.1.1.1.0 in
    let kept = place_passed names p fit.1.1.1.1.1.1.1.1.1.0 in
    let from_is = number_is n from.0 from.1 in
    let to_is = number_is m to.0 to.1 in
    record {
      from = from.0;
      to = to.0;
      low = from_is.0;
      high = to_is.0;
      state = s;
      tape = t;
      keeps = p;
      state_value = state_b.0;
      tape_value = tape_b.0;
      place_value = kept.0;
      state_is = truth_is s state_b.0 state_b.1;
      tape_is = truth_is t tape_b.0 tape_b.1;
      keeps_is = place_is names p kept.0 kept.1;
      texts = forward_texts o n c1 m c2 s c3 t c4 p z from.0 to.0 (exactly_passed names _ o fit.0) from_is.1 (exactly_passed names _ c1 fit.1.1.0) to_is.1 (exactly_passed names _ c2 fit.1.1.1.1.0) (exactly_passed names _ c3 fit.1.1.1.1.1.1.0) (exactly_passed names _ c4 fit.1.1.1.1.1.1.1.1.0) (exactly_passed names _ z fit.1.1.1.1.1.1.1.1.1.1.0);
      reads = rw (from.1, to.1, state_b.1, tape_b.1, kept.1) refl;
    }

record IsReverse (names : List (List ℕ)) (xs : List (List ℕ)) : Type 0 where
  from : ℕ
  to : ℕ
  low : from ≤ 1000000
  high : to ≤ 1000000
  truth_text : List ℕ
  value : Bool
  truth_text_is : (truth_text ≡ codes "True") × (value ≡ true) ⊎ (truth_text ≡ codes "False") × (value ≡ false)
  texts : codes "Reverse" ∷ xs ≡ call (codes "Reverse") (decimal from ∷ decimal to ∷ truth_text ∷ [])
  reads : said names kind.Reverse xs ≡ reverse_said from to value

reverse_parts : (names : List (List ℕ)) (xs : List (List ℕ)) → AllPass names (wants_of kind.Reverse) xs → IsReverse names xs
reverse_parts names [] fit = absurd fit
reverse_parts names (o ∷ []) fit = absurd fit.1
reverse_parts names (o ∷ n ∷ []) fit = absurd fit.1.1
reverse_parts names (o ∷ n ∷ c1 ∷ []) fit = absurd fit.1.1.1
reverse_parts names (o ∷ n ∷ c1 ∷ m ∷ []) fit = absurd fit.1.1.1.1
reverse_parts names (o ∷ n ∷ c1 ∷ m ∷ c2 ∷ []) fit = absurd fit.1.1.1.1.1
reverse_parts names (o ∷ n ∷ c1 ∷ m ∷ c2 ∷ s ∷ []) fit = absurd fit.1.1.1.1.1.1
reverse_parts names (o ∷ n ∷ c1 ∷ m ∷ c2 ∷ s ∷ z ∷ more ∷ others) fit = absurd fit.1.1.1.1.1.1.1
reverse_parts names (o ∷ n ∷ c1 ∷ m ∷ c2 ∷ s ∷ z ∷ []) fit =
    let from = number_passed names n fit.1.0 in
    let to = number_passed names m fit.1.1.1.0 in
    let b = truth_passed names s fit.1.1.1.1.1.0 in
    let from_is = number_is n from.0 from.1 in
    let to_is = number_is m to.0 to.1 in
    record {
      from = from.0;
      to = to.0;
      low = from_is.0;
      high = to_is.0;
      truth_text = s;
      value = b.0;
      truth_text_is = truth_is s b.0 b.1;
      texts = reverse_texts o n c1 m c2 s z from.0 to.0 (exactly_passed names _ o fit.0) from_is.1 (exactly_passed names _ c1 fit.1.1.0) to_is.1 (exactly_passed names _ c2 fit.1.1.1.1.0) (exactly_passed names _ z fit.1.1.1.1.1.1.0);
      reads = rw (from.1, to.1, b.1) refl;
    }

-- a Copy or a Move, by its name
record IsCopy (names : List (List ℕ)) (xs : List (List ℕ)) : Type 0 where
  n : ℕ
  low : n ≤ 1000000
  level_text : List ℕ
  from : ℕ
  level_is : slice_get names from ≡ Some level_text
  target_text : List ℕ
  dest : Dest
  target_is : IsTarget names target_text dest
  texts : (name : List ℕ) → name ∷ xs ≡ call name (decimal n ∷ level_text ∷ target_text ∷ [])
  copies : said names kind.Copy xs ≡ Some (Copy n from dest)
  moves : said names kind.Move xs ≡ Some (Move n from dest)

copy_parts : (names : List (List ℕ)) (xs : List (List ℕ)) → AllPass names (wants_of kind.Copy) xs → IsCopy names xs
copy_parts names [] fit = absurd fit
copy_parts names (o ∷ []) fit = absurd fit.1
copy_parts names (o ∷ n ∷ []) fit = absurd fit.1.1
copy_parts names (o ∷ n ∷ c1 ∷ []) fit = absurd fit.1.1.1
copy_parts names (o ∷ n ∷ c1 ∷ l ∷ []) fit = absurd fit.1.1.1.1
copy_parts names (o ∷ n ∷ c1 ∷ l ∷ c2 ∷ []) fit = absurd fit.1.1.1.1.1
copy_parts names (o ∷ n ∷ c1 ∷ l ∷ c2 ∷ d ∷ []) fit = absurd fit.1.1.1.1.1.1
copy_parts names (o ∷ n ∷ c1 ∷ l ∷ c2 ∷ d ∷ z ∷ more ∷ others) fit = absurd fit.1.1.1.1.1.1.1
copy_parts names (o ∷ n ∷ c1 ∷ l ∷ c2 ∷ d ∷ z ∷ []) fit =
    let value = number_passed names n fit.1.0 in
    let from = level_passed names l fit.1.1.1.0 in
    let dest = target_passed names d fit.1.1.1.1.1.0 in
    let value_is = number_is n value.0 value.1 in
    record {
      n = value.0;
      low = value_is.0;
      level_text = l;
      from = from.0;
      level_is = level_is names l from.0 from.1;
      target_text = d;
      dest = dest.0;
      target_is = target_is names d dest.0 dest.1;
      texts = λ name. copy_texts name o n c1 l c2 d z value.0 (exactly_passed names _ o fit.0) value_is.1 (exactly_passed names _ c1 fit.1.1.0) (exactly_passed names _ c2 fit.1.1.1.1.0) (exactly_passed names _ z fit.1.1.1.1.1.1.0);
      copies = rw (value.1, from.1, dest.1) refl;
      moves = rw (value.1, from.1, dest.1) refl;
    }

end_parts : (names : List (List ℕ)) (name : List ℕ) (xs : List (List ℕ)) → AllPass names (opening ∷ closing ∷ []) xs → name ∷ xs ≡ call name []
end_parts names name [] fit = absurd fit
end_parts names name (o ∷ []) fit = absurd fit.1
end_parts names name (o ∷ z ∷ more ∷ others) fit = absurd fit.1.1
end_parts names name (o ∷ z ∷ []) fit = rw (exactly_passed names _ o fit.0, exactly_passed names _ z fit.1.0) refl

along : (names : List (List ℕ)) (xs ys : List (List ℕ)) (a b : Action) → xs ≡ ys → a ≡ b → Says names ys a → Says names xs b
along names xs ys a b texts same says =
    subst (λ (x : Action). Says names xs x) same (subst (λ (z : List (List ℕ)). Says names z a) (sym texts) says)

pub said_says : (names : List (List ℕ)) (k : Kind) (xs : List (List ℕ)) (a : Action) → AllPass names (wants_of k) xs → said names k xs ≡ Some a → Says names (name_of_kind k ∷ xs) a
said_says names kind.Forward xs a pass e =
    let p = forward_parts names xs pass in
    along names (codes "Forward" ∷ xs) _ a a p.texts refl
    (forward_sound names p.from p.to p.state p.tape p.keeps p.state_value p.tape_value p.place_value a p.low p.high p.state_is p.tape_is p.keeps_is (sym p.reads ∙ e))
said_says names kind.Reverse xs a pass e =
    let p = reverse_parts names xs pass in
    along names (codes "Reverse" ∷ xs) _ a a p.texts refl (reverse_sound names p.from p.to p.truth_text p.value a p.low p.high p.truth_text_is (sym p.reads ∙ e))
said_says names kind.Copy xs a pass e =
    let p = copy_parts names xs pass in
    let same : Copy p.n p.from p.dest ≡ a = cc (sym p.copies ∙ e) in
    along names (codes "Copy" ∷ xs) _ (Copy p.n p.from p.dest) a (p.texts (codes "Copy")) same
    (p.low, p.level_text, p.level_is, p.target_text, names_dest names p.target_text p.dest p.target_is, refl)
said_says names kind.Move xs a pass e =
    let p = copy_parts names xs pass in
    let same : Move p.n p.from p.dest ≡ a = cc (sym p.moves ∙ e) in
    along names (codes "Move" ∷ xs) _ (Move p.n p.from p.dest) a (p.texts (codes "Move")) same
    (p.low, p.level_text, p.level_is, p.target_text, names_dest names p.target_text p.dest p.target_is, refl)
said_says names kind.EndForward xs a pass e =
    let same : EndForward ≡ a = cc e in
    along names (codes "EndForward" ∷ xs) _ EndForward a (end_parts names (codes "EndForward") xs pass) same refl
said_says names kind.EndReverse xs a pass e =
    let same : EndReverse ≡ a = cc e in
    along names (codes "EndReverse" ∷ xs) _ EndReverse a (end_parts names (codes "EndReverse") xs pass) same refl

-- ---- what is said is read, and its texts fit

-- texts fit wants, one by one
abbrev pub AllFit : List (List ℕ) → List Want → List (List ℕ) → Type 0
AllFit names [] [] = Unit {0}
AllFit names [] (x ∷ xs) = ⊥
AllFit names (w ∷ ws) [] = ⊥
AllFit names (w ∷ ws) (x ∷ xs) = TakesToken names w x × AllFit names ws xs

pub record IsRead (names : List (List ℕ)) (texts : List (List ℕ)) (a : Action) : Type 0 where
  pub kind_is : Kind
  pub others : List (List ℕ)
  pub parts : texts ≡ name_of_kind kind_is ∷ others
  pub reads : said names kind_is others ≡ Some a
  pub fit : AllFit names (wants_of kind_is) others

nothing_read : (names : List (List ℕ)) (n m : ℕ) (place_text : List ℕ) (v : Place) → n ≤ 1000000 → m ≤ 1000000 → AreNames names → IsPlace names place_text v →
    forward_said n m false false v ≡ Some (Forward n m Nothing) → TakesToken names place place_text → (texts : List (List ℕ)) →
    texts ≡ forward_call n m (codes "False") (codes "False") place_text → IsRead names texts (Forward n m Nothing)
nothing_read names n m place_text v low high are is_place says fit texts is = record {
  kind_is = kind.Forward;
  others = _;
  parts = is;
  reads = rw (decimal_is_number n low, decimal_is_number m high, place_found names place_text v are is_place) says;
  fit = (refl, ((n, low, refl), (refl, ((m, high, refl), (refl, (inr refl, (refl, (inr refl, (refl, (fit, (refl, tt)))))))))));
}

copy_read : (names : List (List ℕ)) (n k : ℕ) (name target_text : List ℕ) (d : Dest) → n ≤ 1000000 → AreNames names → slice_get names k ≡ Some name → NamesDest names d target_text →
    AllFit names (wants_of kind.Copy) (codes "(" ∷ decimal n ∷ codes "," ∷ name ∷ codes "," ∷ target_text ∷ codes ")" ∷ [])
copy_read names n k name target_text d low are at_k dest =
    (refl, ((n, low, refl), (refl, (contains_at names k name at_k, (refl, (target_fits d dest, (refl, tt)))))))
  where
    target_fits : (d : Dest) → NamesDest names d target_text → TakesToken names target target_text
    target_fits Work is = inr is
    target_fits (Level j) is = inl (contains_at names j target_text is)

pub says_read : (names : List (List ℕ)) (texts : List (List ℕ)) (a : Action) → AreNames names → Says names texts a → IsRead names texts a
says_read names texts (Forward n m Nothing) are (low, high, inl is) =
    nothing_read names n m (codes "NONE") at.Nowhere low high are refl refl (inr (inr refl)) texts is
says_read names texts (Forward n m Nothing) are (low, high, inr is) =
    nothing_read names n m (codes "WORK") (at.At Work) low high are refl refl (inr (inl refl)) texts is
says_read names texts (Forward n m (Store k)) are (low, high, name, at_k, is) = record {
  kind_is = kind.Forward;
  others = _;
  parts = is;
  reads = rw (decimal_is_number n low, decimal_is_number m high, place_found names name (at.At (Level k)) are at_k) refl;
  fit = (refl, ((n, low, refl), (refl, ((m, high, refl), (refl, (inl refl, (refl, (inr refl, (refl, (inl (contains_at names k name at_k), (refl, tt)))))))))));
}
says_read names texts (Forward n m Tape) are (low, high, one, is) = record {
  kind_is = kind.Forward;
  others = _;
  parts = is;
  reads = rw (decimal_is_number n low, decimal_is_number m high, place_found names (codes "WORK") (at.At Work) are refl, eq-eqb m (n + 1) one) refl;
  fit = (refl, ((n, low, refl), (refl, ((m, high, refl), (refl, (inr refl, (refl, (inl refl, (refl, (inr (inl refl), (refl, tt)))))))))));
}
says_read names texts (Reverse n m) are (low, high, one, is) = record {
  kind_is = kind.Reverse;
  others = _;
  parts = is;
  reads = rw (decimal_is_number n low, decimal_is_number m high, eq-eqb n (m + 1) one) refl;
  fit = (refl, ((n, low, refl), (refl, ((m, high, refl), (refl, (inl refl, (refl, tt)))))));
}
says_read names texts (Copy n k d) are (low, name, at_k, target_text, dest, is) = record {
  kind_is = kind.Copy;
  others = _;
  parts = is;
  reads = rw (decimal_is_number n low, level_found names k name are at_k, target_found names target_text d are (dest_target names target_text d dest)) refl;
  fit = copy_read names n k name target_text d low are at_k dest;
}
says_read names texts (Move n k d) are (low, name, at_k, target_text, dest, is) = record {
  kind_is = kind.Move;
  others = _;
  parts = is;
  reads = rw (decimal_is_number n low, level_found names k name are at_k, target_found names target_text d are (dest_target names target_text d dest)) refl;
  fit = copy_read names n k name target_text d low are at_k dest;
}
says_read names texts EndForward are is = record { kind_is = kind.EndForward; others = _; parts = is; reads = refl; fit = (refl, (refl, tt)) }
says_read names texts EndReverse are is = record { kind_is = kind.EndReverse; others = _; parts = is; reads = refl; fit = (refl, (refl, tt)) }

pub kind_named : (k : Kind) → kind_of (name_of_kind k) ≡ Some k
unfolding kind_of
kind_named kind.Forward = refl
kind_named kind.Reverse = refl
kind_named kind.Copy = refl
kind_named kind.Move = refl
kind_named kind.EndForward = refl
kind_named kind.EndReverse = refl

-- texts say one action
pub one_action : (names : List (List ℕ)) (texts : List (List ℕ)) (a b : Action) → AreNames names → Says names texts a → Says names texts b → a ≡ b
one_action names texts a b are says also =
    let r = says_read names texts a are says in
    let q = says_read names texts b are also in
    let heads : name_of_kind r.kind_is ∷ r.others ≡ name_of_kind q.kind_is ∷ q.others = sym r.parts ∙ q.parts in
    let name : name_of_kind r.kind_is ≡ name_of_kind q.kind_is = cc heads in
    let same : r.kind_is ≡ q.kind_is = cc (kind_named r.kind_is, kind_named q.kind_is, ap kind_of name) in
    let others : r.others ≡ q.others = cc heads in
    let same_said : said names r.kind_is r.others ≡ said names q.kind_is q.others = ap (λ (k : Kind). said names k r.others) same ∙ ap (said names q.kind_is) others in
    cc (sym r.reads ∙ same_said ∙ q.reads)
