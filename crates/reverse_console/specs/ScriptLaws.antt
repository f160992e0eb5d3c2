-- What the definitions of scripts imply, in a run of any number of steps.
use Rattle.std.specs.Prelude.{◌≡◌, ◌⊎◌, ℕ, List}
use Rattle.reverse_console.specs.declared.order.Order.{Order}
use Rattle.line_texts.specs.declared.fault.Fault.{Fault}
use Rattle.reverse_console.specs.Script.{IsScript}
use Rattle.reverse_console.specs.ScriptFaults.{HasFirstFault}

-- bytes mean at most one list of orders
abbrev pub OneScript : Type 0
OneScript = (count : ℕ) (bytes : List ℕ) (a b : List Order) → IsScript count bytes a → IsScript count bytes b → a ≡ b

-- they have one first fault at most, and a script has none
abbrev pub OneFault : Type 0
OneFault = (count : ℕ) (bytes : List ℕ) (a b : Fault) → HasFirstFault count bytes a → HasFirstFault count bytes b → a ≡ b

abbrev pub ScriptsHaveNoFault : Type 0
ScriptsHaveNoFault =
    (count : ℕ) (bytes : List ℕ) (orders : List Order) (fault : Fault) → IsScript count bytes orders → HasFirstFault count bytes fault → ⊥

-- all bytes are a script or have a first fault
abbrev pub ScriptOrFault : Type 0
ScriptOrFault = (count : ℕ) (bytes : List ℕ) → ((orders : List Order) × IsScript count bytes orders) ⊎ ((fault : Fault) × HasFirstFault count bytes fault)
