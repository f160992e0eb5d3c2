-- The model of inputs that are files, and of a sink over a writer.
use Rattle.std.specs.Prelude.{◌⊎◌, ℕ, List, Option}
use Rattle.std.specs.Str.{IsUtf8}
use Rattle.keepers.specs.DiskFaults.{IsAbsent}
use Rattle.keepers.specs.Claims.{Files}
use Rattle.keepers.specs.declared.file_inputs.FileInputs.{FileInputs}
use Rattle.keepers.specs.declared.stdout_sink.StdoutSink.{StdoutSink}

-- the requested names of inputs, and how often they failed
abbrev pub asked_of : {D : Type 0} → FileInputs D → List (List ℕ)
asked_of inputs = inputs.asked

abbrev pub input_faults_of : {D : Type 0} → FileInputs D → ℕ
input_faults_of inputs = inputs.faults

-- A read of a name may fail: the disk fails, the file is missing, or the name isn't UTF-8.
abbrev pub MayFailAt : {D : Type 0} → (D → Option Files) → (D → List ℕ → Type 0) → FileInputs D → List ℕ → Type 0
MayFailAt told may_fail inputs name = may_fail inputs.disk name ⊎ IsAbsent (told inputs.disk) name ⊎ (IsUtf8 name → ⊥)

-- the writer of a sink, how often it was written to, and how often it failed
abbrev pub writer_of : {W : Type 0} → StdoutSink W → W
writer_of sink = sink.out

abbrev pub writes_of : {W : Type 0} → StdoutSink W → ℕ
writes_of sink = sink.calls

abbrev pub sink_faults_of : {W : Type 0} → StdoutSink W → ℕ
sink_faults_of sink = sink.faults

-- a sink over a writer that it has written nothing to
abbrev pub fresh : {W : Type 0} → W → StdoutSink W
fresh out = record { out = out; calls = 0; faults = 0 }
