-- The traffic of the places of a list: how often each is written and read.
use Rattle.std.specs.Prelude.{◌≡◌, ℕ, ◌<◌, ◌++◌, List, length, slice_get, Some}
use Rattle.multistage_gen.specs.declared.traffic.PlaceTraffic.{PlaceTraffic}
use Rattle.revolve_gen.specs.Stack.{times, enough}

-- one entry for each place that is written or read, with its counts of writes and of reads
pub record IsTraffic (ws rs : List ℕ) (items : List PlaceTraffic) : Type 0 where
  pub many : length items ≡ enough (ws ++ rs)
  pub each : (p : ℕ) → p < length items → slice_get items p ≡ Some (record { writes = times p ws; reads = times p rs })
