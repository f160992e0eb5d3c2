-- Marks of a run.
use Rattle.std.proofs.Common.{◌≡◌, ◌≢◌, ℕ, ◌+◌, ◌-◌, ◌*◌, ◌/◌, ◌%◌, ◌≤◌, ◌<◌, max, min, List, length, slice_index_or, slice_set, sym, ap, subst, ◌∙◌, arith, inl, inr}
use Rattle.std.specs.List.{All, SwappedAt}
use Rattle.std.proofs.lemmas.Bool.{cases_lt}
use Rattle.std.proofs.lemmas.Nat.{mul-le, div_below, div-add-mod', mod_below}
use Rattle.std.proofs.lemmas.List.{get_or-set_same, get_or-set_other}
use Rattle.std.proofs.lemmas.List.Elements.{All-set}
use Rattle.rv_machine.specs.MachineState.{MachineState}
use Rattle.run_timeline.specs.Mark.{IsMarkOf}
use Rattle.run_timeline.specs.declared.mark.Mark.{Mark}
use Rattle.run_timeline.specs.declared.marks.Marks.{Marks}
use Rattle.run_timeline.specs.RunMarks.{Spans, next_mark}

pub product_grows : (c d e : ℕ) → c ≤ 2 * e → c * d ≤ e * (d * 2)
product_grows c d e h =
    let le : c * d ≤ 2 * e * d = mul-le c d (2 * e) d h (omega arith) in
    omega (arith, le)

-- what holds of each item holds of each after two were swapped
pub all_swapped : {X : Type 0} (P : X → Type 0) (xs ys : List X) (i j : ℕ) → SwappedAt xs ys i j → i < length xs → j < length xs → All P xs → All P ys
all_swapped {X} P xs ys i j s inside inside' h k d l =
    let all : All P (slice_set (slice_set xs i (slice_index_or xs j d)) j (slice_index_or xs i d)) = All-set P (slice_set xs i (slice_index_or xs j d)) j (slice_index_or xs i d) (h i d inside) (All-set P xs i (slice_index_or xs j d) (h j d inside') h) in
    subst (λ (zs : List X). All P zs) (sym (s.3 d)) all k d l

-- the marks at the distance d are those of a run
abbrev pub Kept : (ℕ → MachineState) → List Mark → ℕ → ℕ → Type 0
Kept states items count d = (i : ℕ) (x : Mark) → i < count → IsMarkOf (states (i * d)) (slice_index_or items i x)

pub kept_first : (states : ℕ → MachineState) (items : List Mark) (m : Mark) → 0 < length items → IsMarkOf (states 0) m → Kept states (slice_set items 0 m) 1 1
kept_first states items m some is i x l =
    let here : 0 ≡ i = omega arith in
    let at : 0 ≡ i * 1 = omega arith in
    subst (λ (k : ℕ). IsMarkOf (states (i * 1)) (slice_index_or (slice_set items 0 m) k x)) here
    (subst (λ (n : Mark). IsMarkOf (states (i * 1)) n) (sym (get_or-set_same items 0 m x some)) (subst (λ (k : ℕ). IsMarkOf (states k) m) at is))

pub kept_thinned : (states : ℕ → MachineState) (old new : List Mark) (c d e : ℕ) → 2 * e ≤ c + 1 →
    ((i : ℕ) (x : Mark) → i < e → slice_index_or new i x ≡ slice_index_or old (2 * i) x) → Kept states old c d → Kept states new e (d * 2)
kept_thinned states old new c d e few gathered kept i x l =
    let at : 2 * i * d ≡ i * (d * 2) = omega arith in
    subst (λ (k : ℕ). IsMarkOf (states k) (slice_index_or new i x)) at (subst (λ (m : Mark). IsMarkOf (states (2 * i * d)) m) (sym (gathered i x l)) (kept (2 * i) x (omega arith)))

pub kept_added : (states : ℕ → MachineState) (items : List Mark) (c d : ℕ) (m : Mark) → c < length items → IsMarkOf (states (c * d)) m →
    Kept states items c d → Kept states (slice_set items c m) (c + 1) d
kept_added states items c d m inside is kept i x l = elim (cases_lt i c) [
  | inl lt ↦ (let other : i ≢ c = λ (p : i ≡ c). omega arith in subst (λ (n : Mark). IsMarkOf (states (i * d)) n) (sym (get_or-set_other items c i m x other)) (kept i x lt))
  | inr ge ↦
      (let here : c ≡ i = omega arith in
      subst (λ (k : ℕ). IsMarkOf (states (k * d)) (slice_index_or (slice_set items c m) k x)) here (subst (λ (n : Mark). IsMarkOf (states (c * d)) n) (sym (get_or-set_same items c m x inside)) is))
]

-- half as many marks at twice the distance reach no further
pub product_shrinks : (a b d : ℕ) → 2 * a ≤ b → a * (d * 2) ≤ b * d
product_shrinks a b d h =
    let le : 2 * a * d ≤ b * d = mul-le (2 * a) d b d h (omega arith) in
    omega (arith, le)

-- the last mark that isn't behind a place before the next one is nearer to it than the marks are to one another
pub nearer : (place count d index : ℕ) → 1 ≤ d → index ≡ min (place / d) (count - 1) → place < count * d → place - index * d < d
nearer place count d index some is before =
    let below : place / d < count = div_below place d count (omega arith) before in
    let at : place / d ≡ index = omega (arith, below, is) in
    let whole : place / d * d + place % d ≡ place = div-add-mod' place d in
    let part : place % d < d = mod_below place d (omega arith) in
    let same : place / d * d ≡ index * d = ap (λ (k : ℕ). k * d) at in
    omega (arith, whole, part, same)

-- a run comes to the next mark, which is set where it still is the next one when there is room
pub spans_marked : (m new : Marks) (reached place last distance : ℕ) → place ≡ next_mark m → Spans m reached →
    last ≤ (m.count - 1) * m.distance → distance * length m.marks.items ≤ max (m.distance * length m.marks.items) (2 * next_mark m) →
    (last ≤ place → (new.count - 1) * new.distance ≤ place) → new.distance ≡ distance → length new.marks.items ≡ length m.marks.items → place < next_mark new → Spans new (max reached place)
spans_marked m new reached place last distance here spans low near keeps same room before =
    let behind : (m.count - 1) * m.distance ≤ reached = spans.last in
    let not_yet : reached < next_mark m = spans.before in
    let was : m.distance * length m.marks.items ≤ max (length m.marks.items) (2 * reached) = spans.near in
    let is : new.distance * length new.marks.items ≡ distance * length m.marks.items = ap (λ (d : ℕ). d * length new.marks.items) same ∙ ap (λ (l : ℕ). distance * l) room in
    let at_most : (new.count - 1) * new.distance ≤ place = keeps (omega (arith, low, behind, not_yet, here)) in
    record {
      last = omega (arith, at_most);
      before = omega (arith, not_yet, here, before);
      near = omega (arith, is, room, near, was, here, not_yet);
    }

-- it comes to a place where no mark is due
pub spans_still : (m : Marks) (reached place : ℕ) → place < next_mark m → Spans m reached → Spans m (max reached place)
spans_still m reached place before spans =
    let behind : (m.count - 1) * m.distance ≤ reached = spans.last in
    let not_yet : reached < next_mark m = spans.before in
    let was : m.distance * length m.marks.items ≤ max (length m.marks.items) (2 * reached) = spans.near in
    record { last = omega (arith, behind); before = omega (arith, not_yet, before); near = omega (arith, was) }

-- so many steps as there are between two marks, or fewer
pub few_between : (n distance room reached : ℕ) → n ≤ distance → distance * room ≤ max room (2 * reached) → n * room ≤ max room (2 * reached)
few_between n distance room reached le near = let less : n * room ≤ distance * room = mul-le n room distance room le (omega arith) in omega (arith, less, near)
