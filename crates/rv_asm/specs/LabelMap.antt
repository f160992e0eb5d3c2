-- No public clause cites this file. The label that a map has at each name.
use Rattle.std.specs.Prelude.{ℕ, List}
use Rattle.std.specs.Str.{bytes_eq}
use Rattle.std.specs.HashMap.{HashMap, get_by}
use denote.Ref.{Bor}
use Rattle.rv_asm.specs.declared.label.Label.{Label}
use Rattle.rv_asm.specs.LineMeaning.{Names}

abbrev pub names_at : {S : Type 0} → HashMap (Bor (List ℕ)) Label S → Names
names_at m name = get_by (λ k. bytes_eq name k.now) m
