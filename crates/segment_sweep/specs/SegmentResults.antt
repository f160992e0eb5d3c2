-- No public clause cites this file. What a worker returns for its segment, and what the shared word means.
use Rattle.std.specs.Prelude.{◌≡◌, ℕ, ◌+◌, ◌*◌, min, ◌<◌, ◌≤◌, List, [], IfOk, Result, Option, Some, None}
use Rattle.plan_types.specs.declared.limits.TheConstants.{MOST_STEPS}
use Rattle.rv_pages.specs.Memory.{zeroed}
use Rattle.rv_machine.specs.declared.status.Status.TheVariants.{Running}
use Rattle.segment_sweep.specs.LastMatch.{Query, HasDigest, IsPlace}
use Rattle.segment_sweep.specs.MarkedRun.{MarkedRun, StandFor}

-- What covers the states from `from` up to below `to`. It is a place that is no lower than any place among them. It may
-- belong to another segment. None says that there is no place among them.
abbrev pub Covers : Query → ℕ → ℕ → Option ℕ → Type 0
Covers q from to (Some n) = IsPlace q n × ((m : ℕ) → from ≤ m → m < to → HasDigest q m → m ≤ n)
Covers q from to None = (m : ℕ) → from ≤ m → m < to → HasDigest q m → ⊥

-- what a worker returns covers its segment, unless it runs out of memory
abbrev pub CoversSegment : {E : Type 0} → Query → ℕ → ℕ → Result (Option ℕ) E → Type 0
CoversSegment q width i answer = IfOk answer (λ place. Covers q (i * width) (min (i * width + width) (q.count + 1)) place)

-- the rule of the shared word: it is 0, or one more than a place
abbrev pub IsWord : Query → ℕ → Type 0
IsWord q word = (n : ℕ) → word ≡ n + 1 → IsPlace q n

-- the query is for this digest, in the run of these marks
pub record IsQuery (q : Query) (m : MarkedRun) (journal : List (List ℕ)) (digest : List ℕ) : Type 0 where
  pub stand : StandFor q.start journal m
  pub same_journal : q.journal ≡ journal
  pub same_digest : q.digest ≡ digest
  pub same_count : q.count ≡ m.count
  pub few : q.count ≤ MOST_STEPS

-- a query for nothing, for a search without a query yet
abbrev pub no_query : Query
no_query = record {
  start = record { pc = 0; registers = []; status = Running; item = 0; offset = 0; written = 0; memory = zeroed [] };
  journal = [];
  digest = [];
  count = 0;
}
