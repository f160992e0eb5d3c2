-- Moves forward by parts.
use Rattle.std.specs.Prelude.{Option}
use Rattle.run_timeline.specs.declared.stops.Hit.{Hit}
use Rattle.run_timeline.specs.declared.stops.Part.{Part}
use Rattle.run_timeline.specs.declared.stops.Part.TheVariants.{Ended, GoesOn}

-- what holds if the move ended, and if it goes on
abbrev pub MatchPart : Part → (Option Hit → Type 0) → Type 0 → Type 0
MatchPart (Ended hit) Ends Goes = Ends hit
MatchPart GoesOn Ends Goes = Goes
