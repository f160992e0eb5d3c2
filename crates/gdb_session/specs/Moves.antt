-- How a session moves in its run: GDB manual, E.2 Packets (`s`, `c`, `bs`, `bc`) and E.3 Stop Reply Packets.
use Rattle.std.specs.Prelude.{◌≡◌, ℕ, ◌+◌, ◌<◌, ◌≤◌, Bool, true, false, List, [], ◌∷◌, ◌++◌, map, length, codes, Option, Some, None, slice_get}
use Rattle.std.specs.List.{All, flat_map}
use Rattle.std.specs.Option.{option_map_or}
use Rattle.hex.specs.Hex.{encode_lower}
use Rattle.rv_machine.specs.Output.{outputs}
use Rattle.gdb_wire.specs.declared.request.Motion.{Motion}
use Rattle.gdb_wire.specs.declared.request.Motion.TheVariants as motion
use Rattle.gdb_replies.specs.StateWords.{hexadecimal, ending_line}
use Rattle.run_timeline.specs.Moves.{Run, StopList, state, EndsForward, EndsBackward, CameForward, CameBackward, step_ahead, step_behind, steps_of}
use Rattle.run_timeline.specs.declared.stops.Hit.{Hit}
use Rattle.run_timeline.specs.declared.stops.Hit.TheVariants.{Break, Watch}
use Rattle.run_timeline.specs.declared.ranges.Range.{Range}
use Rattle.run_timeline.specs.declared.stops.Step.{Step}
use Rattle.run_timeline.specs.declared.stops.Step.TheVariants.{Went, Watched, End}
use Rattle.gdb_session.specs.declared.halt.Halt.{Halt}
use Rattle.gdb_session.specs.declared.halt.Halt.TheVariants.{AtPlace, AtWrite, AtBeginning, AtEnd, Interrupted}

-- ---- where a move leads

-- the reason that a hit gives, or this one if there is none
abbrev pub hit_halt : Option Hit → Halt → Halt
hit_halt (Some Break) otherwise = AtPlace
hit_halt (Some (Watch index)) otherwise = AtWrite index
hit_halt None otherwise = otherwise

abbrev pub step_halt : Step → Halt → Halt
step_halt Went otherwise = AtPlace
step_halt (Watched index) otherwise = AtWrite index
step_halt End otherwise = otherwise

-- A move from p leads to m, and stops there for this reason. One that is interrupted has come to m without a hit.
abbrev pub Leads : Run → StopList → Motion → ℕ → ℕ → Halt → Type 0
Leads r stops motion.Step p m halt = (m ≡ p + steps_of (step_ahead r stops p)) × (halt ≡ step_halt (step_ahead r stops p) AtEnd)
Leads r stops motion.StepBack p m halt = (m + steps_of (step_behind r stops p) ≡ p) × (halt ≡ step_halt (step_behind r stops p) AtBeginning)
Leads r stops motion.Continue p m Interrupted = CameForward r stops p m
Leads r stops motion.Continue p m halt = (hit : Option Hit) × EndsForward r stops p m hit × (halt ≡ hit_halt hit AtEnd)
Leads r stops motion.ContinueBack p m Interrupted = CameBackward r stops p m
Leads r stops motion.ContinueBack p m halt = (hit : Option Hit) × EndsBackward r stops p m hit × (halt ≡ hit_halt hit AtBeginning)

-- ---- replies

-- the stop reply
abbrev pub halt_text : List Range → Halt → List ℕ
halt_text ranges AtPlace = codes "T05"
halt_text ranges (AtWrite index) = codes "T05watch:" ++ option_map_or (λ range. hexadecimal range.start) (slice_get ranges index) [] ++ codes ";"
halt_text ranges AtBeginning = codes "T05replaylog:begin;"
halt_text ranges AtEnd = codes "T05replaylog:end;"
halt_text ranges Interrupted = codes "T02"

-- a text that gdb shows to its user
abbrev pub console_text : List ℕ → List ℕ
console_text text = codes "O" ++ encode_lower text

-- what the program writes in the steps from one place on, so many
abbrev pub output_from : Run → ℕ → ℕ → List ℕ
output_from r p count = outputs (state r p) r.journal count

-- the pieces of a text, none of which is empty or has more than 4,096 bytes
pub record ArePieces (text : List ℕ) (pieces : List (List ℕ)) : Type 0 where
  pub whole : text ≡ flat_map (λ piece. piece) pieces
  pub some : All (λ piece. 0 < length piece) pieces
  pub few : All (λ piece. length piece ≤ 4096) pieces

-- the bytes of the program's output that gdb shows on a way forward, none while it is off
abbrev pub ShowsBytes : Bool → Run → ℕ → ℕ → List ℕ → Type 0
ShowsBytes true r p m bytes = bytes ≡ []
ShowsBytes false r p m bytes = (count : ℕ) → m ≡ p + count → bytes ≡ output_from r p count

-- Gdb shows the program's output on a way forward, unless it is off: these are the texts.
abbrev pub Shows : Bool → Run → ℕ → ℕ → List (List ℕ) → Type 0
Shows true r p m texts = texts ≡ []
Shows false r p m texts = (count : ℕ) → m ≡ p + count → (pieces : List (List ℕ)) × ArePieces (output_from r p count) pieces × (texts ≡ map console_text pieces)

-- why the run ends, if a move comes to its end
abbrev pub ending_texts : Run → ℕ → Halt → List (List ℕ)
ending_texts r m AtEnd = console_text (ending_line m (state r m)) ∷ []
ending_texts r m _ = []
