-- What covers some states of a run, put together.
use Rattle.std.proofs.Common.{◌≡◌, ◌⊎◌, ℕ, zero, suc, ◌+◌, ◌*◌, ◌<◌, ◌≤◌, min, max, true, List, Result, Ok, Option, Some, None, refl, sym, ap, subst, ◌∙◌, inl, inr, arith}
use Rattle.std.specs.Str.{bytes_eq}
use Rattle.std.proofs.lemmas.Bool.{cases_Bool, cases_order}
use Rattle.std.proofs.lemmas.Slice.Eq.{bytes_eq-Decides}
use Rattle.sha2.specs.Sha256.{sha256}
use Rattle.rv_machine.specs.MachineState.{MachineState}
use Rattle.rv_machine.specs.States.{state_number}
use Rattle.state_image.specs.Image.{image}
use Rattle.segment_sweep.specs.LastMatch.{Query, HasDigest, IsPlace, Found}
use Rattle.segment_sweep.specs.SegmentResults.{Covers, CoversSegment}

same_or_other : (xs ys : List ℕ) → (xs ≡ ys) ⊎ (xs ≡ ys → ⊥)
same_or_other xs ys = elim (cases_Bool (bytes_eq xs ys)) [
  | inl same ↦ inl ((bytes_eq-Decides xs ys).0 same)
  | inr other ↦ inr (λ e. let same : bytes_eq xs ys ≡ true = (bytes_eq-Decides xs ys).1 e in absurd cc)
]

-- a state that has the digest
here : (q : Query) (n : ℕ) (s : MachineState) (digest : List ℕ) → s ≡ state_number q.start q.journal n → digest ≡ q.digest → sha256 (image s) ≡ digest → HasDigest q n
here q n s digest e d h = ap (λ x. sha256 (image x)) (sym e) ∙ h ∙ d

there : (q : Query) (n : ℕ) (s : MachineState) (digest : List ℕ) → s ≡ state_number q.start q.journal n → digest ≡ q.digest → HasDigest q n → sha256 (image s) ≡ digest
there q n s digest e d h = ap (λ x. sha256 (image x)) e ∙ h ∙ sym d

pub place_here : (q : Query) (n : ℕ) (s : MachineState) (digest : List ℕ) → n ≤ q.count → s ≡ state_number q.start q.journal n → digest ≡ q.digest → sha256 (image s) ≡ digest → IsPlace q n
place_here q n s digest k e d h = record { within = k; digest = here q n s digest e d h }

-- one state more, which has the digest
pub covers_it : (q : Query) (from n : ℕ) (s : MachineState) (digest : List ℕ) → n ≤ q.count → s ≡ state_number q.start q.journal n → digest ≡ q.digest →
    sha256 (image s) ≡ digest → Covers q from (n + 1) (Some n)
covers_it q from n s digest k e d h = (place_here q n s digest k e d h, λ m _ below _. omega arith)

not_it : (q : Query) (n m : ℕ) → (HasDigest q n → ⊥) → HasDigest q m → m < n + 1 → m < n
not_it q n m without h below = elim (cases_order m n) [
  | inl same ↦ absurd (without (subst (λ k. HasDigest q k) same h))
  | inr other ↦ elim other [
    | inl less ↦ less
    | inr more ↦ absurd (omega arith)
  ]
]

-- one state more, which hasn't
pub covers_on : (q : Query) (from n : ℕ) (s : MachineState) (digest : List ℕ) (found : Option ℕ) → s ≡ state_number q.start q.journal n → digest ≡ q.digest →
    (sha256 (image s) ≡ digest → ⊥) → Covers q from n found → Covers q from (n + 1) found
covers_on q from n s digest (Some p) e d without c = (c.0, λ m above below h. c.1 m above (not_it q n m (λ g. without (there q n s digest e d g)) h below) h)
covers_on q from n s digest None e d without c = λ m above below h. c m above (not_it q n m (λ g. without (there q n s digest e d g)) h below) h

-- states and the states after them
on_either : (q : Query) (b m : ℕ) (P : Type 0) → (m < b → P) → (b ≤ m → P) → P
on_either q b m P f g = elim (cases_order m b) [
  | inl same ↦ g (omega arith)
  | inr other ↦ elim other [
    | inl less ↦ f less
    | inr more ↦ g (omega arith)
  ]
]

later_place : (q : Query) (x y : ℕ) → IsPlace q x → IsPlace q y → IsPlace q (max x y)
later_place q x y a b = on_either q y x (IsPlace q (max x y))
    (λ less. subst (λ k. IsPlace q k) (omega arith) b)
    (λ more. subst (λ k. IsPlace q k) (omega arith) a)

pub covers_both : (q : Query) (a b c x y : ℕ) → Covers q a b (Some x) → Covers q b c (Some y) → Covers q a c (Some (max x y))
covers_both q a b c x y f g = (
  later_place q x y f.0 g.0,
  λ m above below h. on_either q b m (m ≤ max x y)
      (λ less. (let k = f.1 m above less h in omega arith))
      (λ more. (let k = g.1 m more below h in omega arith)),
)

pub covers_first : (q : Query) (a b c x : ℕ) → Covers q a b (Some x) → Covers q b c None → Covers q a c (Some x)
covers_first q a b c x f g = (f.0, λ m above below h. on_either q b m (m ≤ x) (λ less. f.1 m above less h) (λ more. absurd (g m more below h)))

pub covers_second : (q : Query) (a b c : ℕ) (place : Option ℕ) → Covers q a b None → Covers q b c place → Covers q a c place
covers_second q a b c (Some y) f g = (g.0, λ m above below h. on_either q b m (m ≤ y) (λ less. absurd (f m above less h)) (λ more. g.1 m more below h))
covers_second q a b c None f g = λ m above below h. on_either q b m ⊥ (λ less. f m above less h) (λ more. g m more below h)

-- all states
pub found_all : (q : Query) (to : ℕ) (place : Option ℕ) → q.count < to → Covers q 0 to place → Found q place
found_all q to (Some n) h c = (c.0, λ m p. (let k = p.within in c.1 m (omega arith) (omega arith) p.digest))
found_all q to None h c = λ m p. (let k = p.within in c m (omega arith) (omega arith) p.digest)

-- where the start is no earlier, as far as there are states
covers_after : (q : Query) (a b c : ℕ) (place : Option ℕ) → ((m : ℕ) → a ≤ m → m < c → b ≤ m) → Covers q b c place → Covers q a c place
covers_after q a b c (Some p) h f = (f.0, λ m above below g. f.1 m (h m above below) below g)
covers_after q a b c None h f = λ m above below g. f m (h m above below) below g

-- one segment more
pub covers_next : (q : Query) (width i : ℕ) (last place next : Option ℕ) →
    Covers q 0 (min (i * width) (q.count + 1)) last → Covers q (i * width) (min (i * width + width) (q.count + 1)) place →
    ((a b c : ℕ) → Covers q a b last → Covers q b c place → Covers q a c next) →
    Covers q 0 (min ((i + 1) * width) (q.count + 1)) next
covers_next q width i last place next before this join =
    let e : (i + 1) * width ≡ i * width + width = omega arith in
    subst (λ k. Covers q 0 (min k (q.count + 1)) next) (sym e)
    (join 0 (min (i * width) (q.count + 1)) (min (i * width + width) (q.count + 1)) before
    (covers_after q (min (i * width) (q.count + 1)) (i * width) (min (i * width + width) (q.count + 1)) place (λ m h g. omega arith) this))

pub segment_of : {E : Type 0} (q : Query) (width i : ℕ) (answer : Result (Option ℕ) E) (place : Option ℕ) → answer ≡ Ok place → CoversSegment q width i answer →
    Covers q (i * width) (min (i * width + width) (q.count + 1)) place
segment_of {E} q width i answer place e h = subst (λ (a : Result (Option ℕ) E). CoversSegment q width i a) e h

pub one_found : (q : Query) (a b : Option ℕ) → Found q a → Found q b → a ≡ b
one_found q (Some x) (Some y) f g = let h = f.1 y g.0 in let k = g.1 x f.0 in ap (λ (n : ℕ). Some n) (omega arith)
one_found q (Some x) None f g = absurd (g x f.0)
one_found q None (Some y) f g = absurd (f y g.0)
one_found q None None f g = refl

-- an answer to each query
has_or_not : (q : Query) (n : ℕ) → HasDigest q n ⊎ (HasDigest q n → ⊥)
has_or_not q n = same_or_other _ q.digest

covers_more : (q : Query) (n : ℕ) → n ≤ q.count → (a : Option ℕ) × Covers q 0 n a → HasDigest q n ⊎ (HasDigest q n → ⊥) → (a : Option ℕ) × Covers q 0 (n + 1) a
covers_more q n h before (inl it) = (Some n, covers_it q 0 n (state_number q.start q.journal n) q.digest h refl refl it)
covers_more q n h before (inr not) = (before.0, covers_on q 0 n (state_number q.start q.journal n) q.digest before.0 refl refl not before.1)

some_covers : (q : Query) (n : ℕ) → n ≤ q.count + 1 → (a : Option ℕ) × Covers q 0 n a
some_covers q zero h = (None, λ m above below has. absurd (omega arith))
some_covers q (suc n) h =
    let e : n + 1 ≡ suc n = omega arith in
    let P : ℕ → Type 0 = λ k. (a : Option ℕ) × Covers q 0 k a in
    subst P e (covers_more q n (omega arith) (some_covers q n (omega arith)) (has_or_not q n))

pub some_found : (q : Query) → (a : Option ℕ) × Found q a
some_found q = let all = some_covers q (q.count + 1) (omega arith) in (all.0, found_all q (q.count + 1) all.0 (omega arith) all.1)
