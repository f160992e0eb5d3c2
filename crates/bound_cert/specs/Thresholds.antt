-- Which threshold fits the places of a multistage list, and the first place that another doesn't fit.
use Rattle.std.specs.Prelude.{◌≡◌, ◌≢◌, ◌⊎◌, ℕ, ◌<◌, ◌≤◌, List, [], ◌∷◌, length, slice_index}
use Rattle.plan_types.specs.declared.action.Action.{Action}
use Rattle.level_book.specs.declared.book.Level.{Level}
use Rattle.level_book.specs.BookCosts.{BookCosts, room}
use Rattle.revolve_gen.specs.Places.{places_on}
use Rattle.revolve_gen.specs.Multistage.{saving}
use Rattle.multistage_gen.specs.Threshold.{MeetsThreshold}
use Rattle.class_rules.specs.PlaceLevels.{HasPlaceLevels}
use Rattle.table_clauses.specs.declared.entry.Entry.{Entry}

-- the list is in the multistage class over these two levels, and its places have these numbers of levels
pub record AreOn (steps : ℕ) (book : BookCosts) (list : List Action) (fast slow : Level) (levels : List ℕ) : Type 0 where
  pub two : book.levels ≡ fast ∷ slow ∷ []
  pub has : HasPlaceLevels steps book list levels

-- the threshold fits the places
pub record FitsThreshold (threshold steps : ℕ) (book : BookCosts) (list : List Action) : Type 0 where
  pub fast : Level
  pub slow : Level
  pub levels : List ℕ
  pub are_on : AreOn steps book list fast slow levels
  pub meets : MeetsThreshold threshold steps book fast slow (slice_index levels) list

-- The threshold doesn't fit at this entry. Its table is 4, and its free slots are the place's number. Clause 21: a
-- place on level 0 saves less. Clause 22: a place on level 1 would save more. Clause 23: the threshold isn't 0, and
-- level 0 has room for more places.
abbrev pub Misfits : ℕ → ℕ → BookCosts → List Action → Level → Level → List ℕ → Entry → Type 0
Misfits threshold steps book list fast slow levels e =
    (e.table ≡ 4) × (e.steps ≡ 0)
    × (((e.clause ≡ 21) × (e.level ≡ 0) × (e.free < length levels) × (slice_index levels e.free ≡ 0) × (saving list fast slow e.free < threshold))
    ⊎ ((e.clause ≡ 22) × (e.level ≡ 1) × (e.free < length levels) × (slice_index levels e.free ≡ 1) × (threshold < saving list fast slow e.free))
    ⊎ ((e.clause ≡ 23) × (e.level ≡ 0) × (e.free ≡ 0) × (threshold ≢ 0) × (places_on (slice_index levels) 0 (length levels) < room book 0 steps)))

-- one entry comes before another, by clause and then by place
abbrev pub StandsBefore : Entry → Entry → Type 0
StandsBefore p q = (p.clause < q.clause) ⊎ ((p.clause ≡ q.clause) × (p.free < q.free))

-- the first entry at which the threshold doesn't fit
pub record IsFirstMisfit (threshold steps : ℕ) (book : BookCosts) (list : List Action) (entry : Entry) : Type 0 where
  pub fast : Level
  pub slow : Level
  pub levels : List ℕ
  pub are_on : AreOn steps book list fast slow levels
  pub misfits : Misfits threshold steps book list fast slow levels entry
  pub none_before : (other : Entry) → StandsBefore other entry → Misfits threshold steps book list fast slow levels other → ⊥

-- the threshold is the most that a place on level 1 would save, or 0 if none is there
pub record IsGreatestSlow (threshold : ℕ) (list : List Action) (fast slow : Level) (levels : List ℕ) : Type 0 where
  pub most : (p : ℕ) → p < length levels → slice_index levels p ≡ 1 → saving list fast slow p ≤ threshold
  pub taken : (threshold ≡ 0) ⊎ ((p : ℕ) × (p < length levels) × (slice_index levels p ≡ 1) × (saving list fast slow p ≡ threshold))

-- the certificate of a list of the class
pub record IsThresholdOf (threshold steps : ℕ) (book : BookCosts) (list : List Action) : Type 0 where
  pub fast : Level
  pub slow : Level
  pub levels : List ℕ
  pub are_on : AreOn steps book list fast slow levels
  pub greatest : IsGreatestSlow threshold list fast slow levels
