-- No public clause cites this file. The places of a list in the order of what they save, and their levels by it.
use Rattle.std.specs.Prelude.{◌≡◌, ℕ, suc, ◌+◌, ◌-◌, ◌*◌, ◌<◌, ◌≤◌, ◌==◌, min, nat_lt, Bool, true, ◌&&◌, ◌||◌, List, [], ◌∷◌, length, slice_index, slice_index_or}
use Rattle.plan_types.specs.declared.limits.TheConstants.{MOST_ACTIONS}
use Rattle.plan_types.specs.declared.action.Action.{Action}
use Rattle.level_book.specs.declared.book.Level.{Level}
use Rattle.revolve_gen.specs.Places.{places_on}
use Rattle.revolve_gen.specs.Stack.{places_used}
use Rattle.multistage_gen.specs.declared.ranking.Rank.{Rank}
use Rattle.multistage_gen.specs.declared.traffic.PlaceTraffic.{PlaceTraffic}
use Rattle.multistage_gen.specs.MultistageList.{ComesBefore}

-- one rank comes before another
abbrev pub is_before : Rank → Rank → Bool
is_before a b = nat_lt b.saving.0 a.saving.0 || (b.saving.0 == a.saving.0) && nat_lt a.place b.place

-- each place's rank is at its number
abbrev pub StandByPlace : List Rank → Type 0
StandByPlace ranks = (p : ℕ) (d : Rank) → p < length ranks → (slice_index_or ranks p d).place ≡ p

-- the first `room` ranks are on level 0, and the others on level 1
pub record AreLevels (ranks : List Rank) (room : ℕ) (levels : List ℕ) : Type 0 where
  pub many : length levels ≡ length ranks
  pub known : (p : ℕ) → p < length ranks → slice_index levels p < 2
  pub first : places_on (slice_index levels) 0 (length ranks) ≡ min room (length ranks)
  pub order : (p q : ℕ) (d : Rank) → p < length ranks → q < length ranks → slice_index levels p ≡ 0 → slice_index levels q ≡ 1 →
      is_before (slice_index_or ranks p d) (slice_index_or ranks q d) ≡ true

-- What a place with this traffic saves. The second level of a book costs no less than the first, so these subtractions
-- don't truncate.
abbrev pub saving_of : Level → Level → PlaceTraffic → ℕ
saving_of fast slow t = t.writes * (slow.write - fast.write) + t.reads * (slow.read - fast.read)

-- its rank
abbrev pub rank_of : Level → Level → ℕ → PlaceTraffic → Rank
rank_of fast slow p t = record { saving = record { 0 = saving_of fast slow t }; place = p }

-- those of the places from p on
abbrev pub ranks_from : Level → Level → ℕ → List PlaceTraffic → List Rank
ranks_from fast slow p [] = []
ranks_from fast slow p (t ∷ traffic) = rank_of fast slow p t ∷ ranks_from fast slow (suc p) traffic

-- the counts of a place are those of a list that isn't too long
pub record IsCounted (t : PlaceTraffic) : Type 0 where
  pub writes : t.writes ≤ MOST_ACTIONS
  pub reads : t.reads ≤ MOST_ACTIONS

-- the levels are those that are planned for the places of a list
pub record ArePlanned (room : ℕ) (list : List Action) (fast slow : Level) (levels : List ℕ) : Type 0 where
  pub known : (p : ℕ) → p < places_used list → slice_index levels p < 2
  pub many : places_on (slice_index levels) 0 (places_used list) ≡ min room (places_used list)
  pub order : (p q : ℕ) → p < places_used list → q < places_used list → slice_index levels p ≡ 0 → slice_index levels q ≡ 1 → ComesBefore list fast slow p q
