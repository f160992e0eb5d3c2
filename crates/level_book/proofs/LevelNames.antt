-- The names of a book's levels.
use Rattle.std.proofs.Common.{◌≡◌, ℕ, ◌+◌, Bool, true, false, not, ◌||◌, List, [], ◌∷◌, ◌++◌, length, map, take, Some, None, refl, sym, ◌∙◌, ap, subst, arith, append_assoc}
use Rattle.std.specs.Prelude.{codes, unwrap_or}
use Rattle.std.specs.List.{list_any, AllByRecursion, IsDistinct}
use Rattle.std.specs.Str.{bytes_eq}
use Rattle.std.proofs.lemmas.List.{take_at, length-append}
use Rattle.serde_json.specs.Data.{Data}
use Rattle.level_book.specs.declared.book.Level.{Level}
use Rattle.level_book.specs.declared.fault.BookFault.TheVariants.{Name}
use Rattle.level_book.specs.Names.{is_name, AreNames}
use Rattle.level_book.specs.BookText.{SayLevels, text_in}
use Rattle.level_book.specs.BookFaults.{first_of, each, name_of, name_fault}
use Rattle.level_book.proofs.FaultlessEntries.{holds_unless, both_hold, none_of_both, from}

-- RAM is a name
pub ram_alone : (name : List ℕ) → name ≡ 82 ∷ 65 ∷ 77 ∷ [] → AreNames (name ∷ [])
unfolding IsDistinct
ram_alone name is = rw is (record { each = (refl, tt); distinct = (tt, tt) })

-- the levels that entries say have the names that the entries have
said : (d : Data) (name : List ℕ) → text_in (codes "name") d ≡ Some name → name ≡ name_of d
said d name is = ap (λ o. unwrap_or o []) (sym is)

names_said : (ds : List Data) (levels : List Level) → SayLevels ds levels → map (λ (l : Level). l.name) levels ≡ map name_of ds
names_said [] [] say = refl
names_said [] (l ∷ levels) say = absurd say
names_said (d ∷ ds) [] say = absurd say
names_said (d ∷ ds) (l ∷ levels) say =
    ap (λ name. name ∷ map (λ (l : Level). l.name) levels) (said d l.name say.0.name) ∙ ap (λ names. name_of d ∷ names) (names_said ds levels say.1)

-- a name differs from those of these entries
abbrev IsNew : List Data → Data → Type 0
IsNew before d = list_any (λ earlier. bytes_eq (name_of earlier) (name_of d)) before ≡ false

neither : (a b : Bool) → (a || b) ≡ false → (a ≡ false) × (b ≡ false)
neither false b h = (refl, h)
neither true b h = cc

is_false : (b : Bool) → not b ≡ true → b ≡ false
is_false true h = cc
is_false false h = refl

-- what is new behind some entries and one more is new behind them, and isn't that one
new_behind : (before : List Data) (d other : Data) → IsNew (before ++ d ∷ []) other → IsNew before other × (bytes_eq (name_of d) (name_of other) ≡ false)
new_behind [] d other new = (refl, (neither _ _ new).0)
new_behind (first ∷ before) d other new =
    let parts = neither (bytes_eq (name_of first) (name_of other)) _ new in
    let rest = new_behind before d other parts.1 in
    (rw (parts.0, rest.0) refl, rest.1)

all_behind : (before : List Data) (d : Data) (ds : List Data) → AllByRecursion (IsNew (before ++ d ∷ [])) ds →
    AllByRecursion (IsNew before) ds × AllByRecursion (λ name. bytes_eq (name_of d) name ≡ false) (map name_of ds)
all_behind before d [] all = (tt, tt)
all_behind before d (other ∷ ds) all =
    let this = new_behind before d other all.0 in
    let rest = all_behind before d ds all.1 in
    ((this.0, rest.0), (this.1, rest.1))

-- entries whose test of names finds nothing, behind others
record AreNew (before ds : List Data) : Type 0 where
  each : AllByRecursion (λ name. is_name name ≡ true) (map name_of ds)
  distinct : IsDistinct bytes_eq (map name_of ds)
  new : AllByRecursion (IsNew before) ds

all_new : (entries before ds : List Data) (n : ℕ) → entries ≡ before ++ ds → n ≡ length before → first_of (from n (name_fault entries) ds) ≡ None → AreNew before ds
unfolding IsDistinct
all_new entries before [] n parts count none = record { each = tt; distinct = tt; new = tt }
all_new entries before (d ∷ ds) n parts count none =
    let split = none_of_both (name_fault entries n d) (first_of (from (n + 1) (name_fault entries) ds)) none in
    let holds = both_hold (is_name (name_of d)) (not (list_any (λ earlier. bytes_eq (name_of earlier) (name_of d)) (take n entries))) (holds_unless _ (Name n) split.0) in
    let front : take n entries ≡ before = ap (take n) parts ∙ take_at before (d ∷ ds) n (sym count) in
    let P : List Data → Type 0 = λ xs. IsNew xs d in
    let new : IsNew before d = subst P front (is_false _ holds.1) in
    let one_more : n + 1 ≡ length (before ++ d ∷ []) = omega (arith, length-append before (d ∷ [])) in
    let rest = all_new entries (before ++ d ∷ []) ds (n + 1) (parts ∙ sym (append_assoc before (d ∷ []) ds)) one_more split.1 in
    let behind = all_behind before d ds rest.new in
    record { each = (holds.0, rest.each); distinct = (behind.1, rest.distinct); new = (new, behind.0) }

pub levels_named : (ds : List Data) (levels : List Level) → SayLevels ds levels → first_of (each (name_fault ds) ds) ≡ None → AreNames (map (λ (l : Level). l.name) levels)
levels_named ds levels say none =
    let all = all_new ds [] ds 0 refl refl none in
    rw (names_said ds levels say) (record { each = all.each; distinct = all.distinct })
