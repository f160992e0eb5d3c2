-- A line says one action at most, or has one fault, and not both.
use Rattle.std.proofs.Common.{◌≡◌, ℕ, List, [], ◌∷◌, ◌++◌, map, Option, Some, None, refl, sym, ap, subst, ◌∙◌, append_assoc}
use Rattle.std.specs.Prelude.{codes}
use Rattle.level_book.specs.Names.{AreNames}
use Rattle.plan_types.specs.declared.action.Action.{Action}
use Rattle.action_text.specs.Tokens.{tokens}
use Rattle.line_texts.specs.Tokens.{Token}
use Rattle.action_text.specs.Shapes.{Want, FitFront, Expects, Begin}
use Rattle.action_text.specs.Meaning.{Says, SayNothing, IsPassed}
use Rattle.action_text.specs.ScheduleText.{texts}
use Rattle.action_text.specs.Faults.{rule_at, IsUnexpected, IsTooMany, FaultIn}
use Rattle.action_text.proofs.ArgumentMeaning.{IsRead, says_read, name_of_kind, kind_named}
use Rattle.action_text.proofs.LineFaults.{begins_as, expects_as, shape_of, shape_is, fit_whole}
use Rattle.action_text.specs.declared.words.Kind.{Kind}
use Rattle.action_text.specs.Parser.{kind_of, wants_of}

-- what fits a row goes on in one way
front_one : (names : List (List ℕ)) (ts : List Token) (ws : List Want) (a b : Option Want) → FitFront names ts ws a → FitFront names ts ws b → a ≡ b
front_one names [] [] a b fit also = cc
front_one names [] (w ∷ ws) a b fit also = cc
front_one names (t ∷ ts) [] a b fit also = absurd fit
front_one names (t ∷ ts) (w ∷ ws) a b fit also = front_one names ts ws a b fit.1 also.1

-- and so does what begins a line with a token
expects_one : (names : List (List ℕ)) (t : Token) (ts : List Token) (a b : Option Want) → Expects names (t ∷ ts) a → Expects names (t ∷ ts) b → a ≡ b
expects_one names t ts a b e also =
    let p = begins_as names t ts a e in
    let q = begins_as names t ts b also in
    let same : p.kind_is ≡ q.kind_is = cc (p.named, q.named) in
    front_one names ts (wants_of q.kind_is) a b (subst (λ (k : Kind). FitFront names ts (wants_of k) a) same p.front) q.front

-- the front of what fits a row fits it
front_part : (names : List (List ℕ)) (xs ys : List Token) (ws : List Want) (next : Option Want) → FitFront names (xs ++ ys) ws next → (other : Option Want) × FitFront names xs ws other
front_part names [] ys [] next fit = (None, refl)
front_part names [] ys (w ∷ ws) next fit = (Some w, refl)
front_part names (x ∷ xs) ys [] next fit = absurd fit
front_part names (x ∷ xs) ys (w ∷ ws) next fit = let p = front_part names xs ys ws next fit.1 in (p.0, (fit.0, p.1))

begin_part : (names : List (List ℕ)) (xs ys : List Token) (next : Option Want) → Expects names (xs ++ ys) next → Begin names xs
begin_part names xs ys next (shape, there, fit) = let p = front_part names xs ys shape next fit in (p.0, (shape, there, p.1))

-- a place in a list is before another, or behind it, or the same
pub data Places {A : Type 0} (xs : List A) (x : A) (ys : List A) (y : A) : Type 0 where
  same : xs ≡ ys → x ≡ y → Places xs x ys y
  earlier : (more : List A) → ys ≡ xs ++ x ∷ more → Places xs x ys y
  later : (more : List A) → xs ≡ ys ++ y ∷ more → Places xs x ys y

front_places : {A : Type 0} (z : A) (xs : List A) (x : A) (ys : List A) (y : A) → Places xs x ys y → Places (z ∷ xs) x (z ∷ ys) y
front_places {A} z xs x ys y (Places.same a b) = Places.same (ap (λ (s : List A). z ∷ s) a) b
front_places {A} z xs x ys y (Places.earlier more a) = Places.earlier more (ap (λ (s : List A). z ∷ s) a)
front_places {A} z xs x ys y (Places.later more a) = Places.later more (ap (λ (s : List A). z ∷ s) a)

pub places : {A : Type 0} (xs : List A) (x : A) (after : List A) (ys : List A) (y : A) (behind : List A) → xs ++ x ∷ after ≡ ys ++ y ∷ behind → Places xs x ys y
places [] x after [] y behind e = Places.same refl cc
places {A} [] x after (z ∷ ys) y behind e =
    let same : x ≡ z = cc e in
    Places.earlier ys (ap (λ (a : A). a ∷ ys) (sym same))
places {A} (z ∷ xs) x after [] y behind e =
    let same : z ≡ y = cc e in
    Places.later xs (ap (λ (a : A). a ∷ xs) same)
places {A} (z ∷ xs) x after (u ∷ ys) y behind e =
    let head : z ≡ u = cc e in
    let p = front_places z xs x ys y (places xs x after ys y behind (cc e)) in
    subst (λ (v : A). Places (z ∷ xs) x (v ∷ ys) y) head p

-- ---- one fault

-- nothing begins a line by the name of an action
rule_of_first : (names : List (List ℕ)) (next : Option Want) (text : List ℕ) → Expects names [] next → rule_at next text ≡ 1
rule_of_first names next text (shape, there, fit) =
    let s = shape_is shape there in
    let whole : FitFront names [] (shape_of s.0) next = subst (λ (ws : List Want). FitFront names [] ws next) (sym s.1) fit in
    ap (λ (o : Option Want). rule_at o text) whole

no_empty_line : (names : List (List ℕ)) → Expects names [] None → ⊥
no_empty_line names (shape, there, fit) =
    let s = shape_is shape there in
    let whole : FitFront names [] (shape_of s.0) None = subst (λ (ws : List Want). FitFront names [] ws None) (sym s.1) fit in
    cc whole

rules_same : (names : List (List ℕ)) (before : List Token) (a b : Option Want) (text : List ℕ) → Expects names before a → Expects names before b → rule_at a text ≡ rule_at b text
rules_same names [] a b text e also = rule_of_first names a text e ∙ sym (rule_of_first names b text also)
rules_same names (t ∷ ts) a b text e also = ap (λ (o : Option Want). rule_at o text) (expects_one names t ts a b e also)

-- tokens that begin a line have none that doesn't fit
all_expected : (names : List (List ℕ)) (ts : List Token) (next : Option Want) (rule column : ℕ) → Expects names ts next → IsUnexpected names ts rule column → ⊥
all_expected names ts next rule column e u =
    let split : ts ≡ (u.before ++ u.token ∷ []) ++ u.after = u.parts ∙ sym (append_assoc u.before (u.token ∷ []) u.after) in
    u.stops (begin_part names (u.before ++ u.token ∷ []) u.after next (subst (λ (xs : List Token). Expects names xs next) split e))

pub record SamePlace (rule column other_rule other_column : ℕ) : Type 0 where
  pub rules : rule ≡ other_rule
  pub columns : column ≡ other_column

earlier_stops : (names : List (List ℕ)) (before : List Token) (t : Token) (more ys : List Token) (next : Option Want) → ys ≡ before ++ t ∷ more → Expects names ys next → Begin names (before ++ t ∷ [])
earlier_stops names before t more ys next is e =
    let split : ys ≡ (before ++ t ∷ []) ++ more = is ∙ sym (append_assoc before (t ∷ []) more) in
    begin_part names (before ++ t ∷ []) more next (subst (λ (xs : List Token). Expects names xs next) split e)

unexpected_once : (names : List (List ℕ)) (ts : List Token) (r c s d : ℕ) → IsUnexpected names ts r c → IsUnexpected names ts s d → SamePlace r c s d
unexpected_once names ts r c s d u v = elim (places u.before u.token u.after v.before v.token v.after (sym u.parts ∙ v.parts)) [
  | Places.same before token ↦
      let e : Expects names u.before v.next = subst (λ (xs : List Token). Expects names xs v.next) (sym before) v.expected in
      record {
        rules = u.rule_is ∙ rules_same names u.before u.next v.next u.token.text u.expected e ∙ ap (λ (t : Token). rule_at v.next t.text) token ∙ sym v.rule_is;
        columns = u.column_is ∙ ap (λ (t : Token). t.column) token ∙ sym v.column_is;
      }
  | Places.earlier more is ↦ absurd (u.stops (earlier_stops names u.before u.token more v.before v.next is v.expected))
  | Places.later more is ↦ absurd (v.stops (earlier_stops names v.before v.token more u.before u.next is u.expected))
]

whole_or_not : (names : List (List ℕ)) (ts : List Token) (w : Want) → Expects names ts (Some w) → Expects names ts None → ⊥
whole_or_not names [] w e also = no_empty_line names also
whole_or_not names (t ∷ ts) w e also = cc (expects_one names t ts (Some w) None e also)

many_once : (names : List (List ℕ)) (count : ℕ) (ts : List Token) (c d : ℕ) → IsTooMany names count ts c → IsTooMany names count ts d → c ≡ d
many_once names count ts c d m n =
    let same : m.token ≡ n.token = cc (m.parts, n.parts) in
    m.column_is ∙ ap (λ (t : Token). t.column) same ∙ sym n.column_is

pub one_fault : (names : List (List ℕ)) (count : ℕ) (line : List ℕ) (r c s d : ℕ) → FaultIn names count line r c → FaultIn names count line s d → SamePlace r c s d
one_fault names count line r c s d (FaultIn.too_many m rule) (FaultIn.too_many n also) = record { rules = rule ∙ sym also; columns = many_once names count (tokens 1 line) c d m n }
one_fault names count line r c s d (FaultIn.too_many m rule) (FaultIn.unexpected room u) = absurd (room c m)
one_fault names count line r c s d (FaultIn.too_many m rule) (FaultIn.ends_early room w e rule_is column) = absurd (room c m)
one_fault names count line r c s d (FaultIn.too_many m rule) (FaultIn.profile room e none rule_is column) = absurd (room c m)
one_fault names count line r c s d (FaultIn.unexpected room u) (FaultIn.too_many n also) = absurd (room d n)
one_fault names count line r c s d (FaultIn.unexpected room u) (FaultIn.unexpected also v) = unexpected_once names (tokens 1 line) r c s d u v
one_fault names count line r c s d (FaultIn.unexpected room u) (FaultIn.ends_early also w e rule_is column) = absurd (all_expected names (tokens 1 line) (Some w) r c e u)
one_fault names count line r c s d (FaultIn.unexpected room u) (FaultIn.profile also e none rule_is column) = absurd (all_expected names (tokens 1 line) None r c e u)
one_fault names count line r c s d (FaultIn.ends_early room w e rule column) (FaultIn.too_many n also) = absurd (room d n)
one_fault names count line r c s d (FaultIn.ends_early room w e rule column) (FaultIn.unexpected also v) = absurd (all_expected names (tokens 1 line) (Some w) s d e v)
one_fault names count line r c s d (FaultIn.ends_early room w e rule column) (FaultIn.ends_early also x f rule_is column_is) = record { rules = rule ∙ sym rule_is; columns = column ∙ sym column_is }
one_fault names count line r c s d (FaultIn.ends_early room w e rule column) (FaultIn.profile also f none rule_is column_is) = absurd (whole_or_not names (tokens 1 line) w e f)
one_fault names count line r c s d (FaultIn.profile room e none rule column) (FaultIn.too_many n also) = absurd (room d n)
one_fault names count line r c s d (FaultIn.profile room e none rule column) (FaultIn.unexpected also v) = absurd (all_expected names (tokens 1 line) None s d e v)
one_fault names count line r c s d (FaultIn.profile room e none rule column) (FaultIn.ends_early also w f rule_is column_is) = absurd (whole_or_not names (tokens 1 line) w f e)
one_fault names count line r c s d (FaultIn.profile room e none rule column) (FaultIn.profile also f other rule_is column_is) = record { rules = rule ∙ sym rule_is; columns = column ∙ sym column_is }

-- a line that says an action has no fault but that there are too many
pub said_whole : (names : List (List ℕ)) (line : List ℕ) (a : Action) → AreNames names → Says names (texts line) a → Expects names (tokens 1 line) None
said_whole names line a are says = by_tokens (tokens 1 line) (says_read names (texts line) a are says) refl
  where
    by_tokens : (ts : List Token) (r : IsRead names (texts line) a) → tokens 1 line ≡ ts → Expects names ts None
    by_tokens [] r is = absurd (cc (ap (λ (xs : List Token). map (λ (t : Token). t.text) xs) is, r.parts))
    by_tokens (t ∷ ts) r is =
        let heads : t.text ∷ map (λ (u : Token). u.text) ts ≡ name_of_kind r.kind_is ∷ r.others = sym (ap (λ (xs : List Token). map (λ (u : Token). u.text) xs) is) ∙ r.parts in
        expects_as names t ts None r.kind_is (cc heads) (fit_whole names (wants_of r.kind_is) ts r.others r.fit (cc heads))

pub said_no_fault : (names : List (List ℕ)) (count : ℕ) (line : List ℕ) (a : Action) (rule column : ℕ) → AreNames names → Says names (texts line) a → FaultIn names count line rule column → count ≡ 16777216
said_no_fault names count line a rule column are says (FaultIn.too_many m is) = m.full
said_no_fault names count line a rule column are says (FaultIn.unexpected room u) = absurd (all_expected names (tokens 1 line) None rule column (said_whole names line a are says) u)
said_no_fault names count line a rule column are says (FaultIn.ends_early room w e is column_is) = absurd (whole_or_not names (tokens 1 line) w e (said_whole names line a are says))
said_no_fault names count line a rule column are says (FaultIn.profile room e none is column_is) = absurd (none a says)

-- nor does it say nothing
pub said_not_passed : (names : List (List ℕ)) (line : List ℕ) (a : Action) → AreNames names → Says names (texts line) a → IsPassed line → ⊥
unfolding kind_of
said_not_passed names line a are says passed = by_tokens (tokens 1 line) (says_read names (texts line) a are says) refl
  where
    by_tokens : (ts : List Token) (r : IsRead names (texts line) a) → tokens 1 line ≡ ts → ⊥
    by_tokens [] r is = cc (ap (λ (xs : List Token). map (λ (t : Token). t.text) xs) is, r.parts)
    by_tokens (t ∷ ts) r is =
        let heads : t.text ∷ map (λ (u : Token). u.text) ts ≡ name_of_kind r.kind_is ∷ r.others = sym (ap (λ (xs : List Token). map (λ (u : Token). u.text) xs) is) ∙ r.parts in
        let said : SayNothing (t ∷ ts) = subst (λ (xs : List Token). SayNothing xs) is passed in
        let name : t.text ≡ name_of_kind r.kind_is = cc heads in
        let none : kind_of (codes "#") ≡ None = refl in
        cc (kind_named r.kind_is, ap kind_of (sym name ∙ said), none)
