-- No public clause cites this file. The traffic of the places in a list of Revolve, from the counts of its stretches. A
-- stretch of l steps with c slots begins on place p with a write. It is held there until its last read.
use Rattle.std.specs.Prelude.{◌≡◌, ℕ, zero, suc, ◌+◌, ◌-◌, ◌*◌, ◌<◌, ◌≤◌, ◌==◌, cond, nat_le, List, [], ◌∷◌, length, slice_index_or}
use Rattle.std.specs.List.{sum_by, AllByRecursion}
use Rattle.binomials.specs.Advances.{split}
use Rattle.binomials.specs.Laws.{IsStretch}
use Rattle.multistage_gen.specs.declared.traffic.PlaceTraffic.{PlaceTraffic}
use Rattle.multistage_gen.specs.declared.numbers.Stretches.{Stretches}

-- How often a stretch writes place q, if it begins on place p, and if it is held there. A single step doesn't begin on
-- a place. The first argument is at least l, and only bounds the recursion.
unfoldable mutual
  pub begun_writes : ℕ → ℕ → ℕ → ℕ → ℕ → ℕ
  begun_writes zero q l c p = 0
  begun_writes (suc more) q l c p =
      cond (nat_le l 1) 0 (cond (p == q) 1 0 + (begun_writes more q (l - split l c) (c - 1) (p + 1) + held_writes more q (split l c) c p))

  pub held_writes : ℕ → ℕ → ℕ → ℕ → ℕ → ℕ
  held_writes zero q l c p = 0
  held_writes (suc more) q l c p = cond (nat_le l 1) 0 (begun_writes more q (l - split l c) (c - 1) (p + 1) + held_writes more q (split l c) c p)

-- how often it is written or read by one
unfoldable mutual
  pub begun_visits : ℕ → ℕ → ℕ → ℕ → ℕ → ℕ
  begun_visits zero q l c p = 0
  begun_visits (suc more) q l c p =
      cond (nat_le l 1) 0 (cond (p == q) 1 0 + (begun_visits more q (l - split l c) (c - 1) (p + 1) + held_visits more q (split l c) c p))

  pub held_visits : ℕ → ℕ → ℕ → ℕ → ℕ → ℕ
  held_visits zero q l c p = cond (p == q) 1 0
  held_visits (suc more) q l c p =
      cond (p == q) 1 0 + cond (nat_le l 1) 0 (begun_visits more q (l - split l c) (c - 1) (p + 1) + held_visits more q (split l c) c p)

-- a number for the steps of each stretch, summed
abbrev pub weigh : (ℕ → ℕ) → List Stretches → ℕ
weigh weight stretches = sum_by (λ s. s.count * weight s.steps) stretches

-- all steps of some stretches, and how many stretches these are
abbrev pub steps_of : List Stretches → ℕ
steps_of stretches = weigh (λ l. l) stretches

abbrev pub count_of : List Stretches → ℕ
count_of stretches = weigh (λ _. 1) stretches

-- there are such stretches, of no fewer steps than so many, and c slots are enough for each
pub record IsOf (least c : ℕ) (s : Stretches) : Type 0 where
  pub stretch : IsStretch s.steps c
  pub long : least ≤ s.steps
  pub some : 1 ≤ s.count

abbrev pub AreOf : ℕ → ℕ → List Stretches → Type 0
AreOf least c stretches = AllByRecursion (IsOf least c) stretches

-- each has more steps than all before it, so no two are equally long
abbrev pub AreAscending : List Stretches → Type 0
AreAscending [] = Unit {0}
AreAscending (s ∷ rest) = AllByRecursion (λ t. s.steps < t.steps) rest × AreAscending rest

-- the traffic of a place where these stretches begin with c slots, and the stretches that begin above it
pub record IsCountedOn (c : ℕ) (begun : List Stretches) (t : PlaceTraffic) (above : List Stretches) : Type 0 where
  pub all : AreOf 2 (c - 1) above
  pub short : steps_of above ≤ steps_of begun
  pub begins : t.writes ≡ count_of begun
  pub writes : (q p : ℕ) →
      weigh (λ l. begun_writes l q l c p) begun ≡ cond (p == q) t.writes 0 + weigh (λ l. begun_writes l q l (c - 1) (p + 1)) above
  pub visits : (q p : ℕ) →
      weigh (λ l. begun_visits l q l c p) begun ≡ cond (p == q) (t.writes + t.reads) 0 + weigh (λ l. begun_visits l q l (c - 1) (p + 1)) above

-- the counted traffic of a place; none if there is no such place
abbrev pub traffic_at : List PlaceTraffic → ℕ → PlaceTraffic
traffic_at places q = slice_index_or places q (record { writes = 0; reads = 0 })

-- The lowest places of a list for so many steps and slots are counted. These stretches begin on the next place, with c
-- slots.
pub record AreCounted (steps slots c : ℕ) (places : List PlaceTraffic) (stretches : List Stretches) : Type 0 where
  pub all : AreOf 2 c stretches
  pub short : steps_of stretches ≤ steps
  pub left : c + length places ≡ slots
  pub used : (p : ℕ) → p < length places → 1 ≤ (traffic_at places p).writes
  pub writes : (q : ℕ) → begun_writes steps q steps slots 0 ≡ (traffic_at places q).writes + weigh (λ l. begun_writes l q l c (length places)) stretches
  pub visits : (q : ℕ) →
      begun_visits steps q steps slots 0 ≡
      (traffic_at places q).writes + (traffic_at places q).reads + weigh (λ l. begun_visits l q l c (length places)) stretches
