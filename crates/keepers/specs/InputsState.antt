-- The model of inputs in memory.
use Rattle.std.specs.Prelude.{◌≡◌, ◌≢◌, ◌⊎◌, ℕ, ◌≤◌, List, [], ◌∷◌, ◌++◌, Contains, None, Result, Err, IsErr, refl}
use Rattle.std.specs.Coded.{Coded, code_by, coded×, coded_ℕ, coded_list}
use Rattle.std.specs.FinMap as finmap
use Rattle.keepers.specs.Counts.{raised}
use Rattle.keepers.specs.Claims.{Files}
use Rattle.keepers.specs.declared.inputs.InputFault.{InputFault}
use Rattle.keepers.specs.declared.inputs.InputFault.TheVariants.{Failed, Memory}

-- the inputs by name, the requested names, the failing calls by number, and the counts of calls and faults
pub record InputsState : Type 0 where
  pub files : Files
  pub asked : List (List ℕ)
  pub failing : List ℕ
  pub calls : ℕ
  pub faults : ℕ

abbrev pub inputs_state_code : Coded InputsState
inputs_state_code =
    code_by (Files × (List (List ℕ) × (List ℕ × (ℕ × ℕ))))
    (coded× (finmap.code (coded_list coded_ℕ) (coded_list coded_ℕ))
    (coded× (coded_list (coded_list coded_ℕ)) (coded× (coded_list coded_ℕ) (coded× coded_ℕ coded_ℕ))))
    (λ s. (s.files, (s.asked, (s.failing, (s.calls, s.faults)))))
    (λ p. record { files = p.0; asked = p.1.0; failing = p.1.1.0; calls = p.1.1.1.0; faults = p.1.1.1.1 })
    (λ _. refl)

-- What a read leaves of the inputs. The call is counted. The name is noted, perhaps not if memory ran out.
pub record Notes {T : Type 0} (result : Result T InputFault) (name : List ℕ) (old new : InputsState) : Type 0 where
  pub files : new.files ≡ old.files
  pub failing : new.failing ≡ old.failing
  pub calls : new.calls ≡ raised old.calls 1
  pub asks : result ≢ Err Memory → new.asked ≡ old.asked ++ name ∷ []
  pub may_ask : result ≡ Err Memory → (new.asked ≡ old.asked) ⊎ (new.asked ≡ old.asked ++ name ∷ [])

-- A read fails exactly if its call is listed or the name is missing, or memory runs out. Only then is a fault counted.
pub record FailsIfListed {T : Type 0} (result : Result T InputFault) (name : List ℕ) (old new : InputsState) : Type 0 where
  pub listed : Contains old.failing (raised old.calls 1) → IsErr result
  pub missing : finmap.get old.files name ≡ None → IsErr result
  pub only : result ≡ Err Failed → Contains old.failing (raised old.calls 1) ⊎ (finmap.get old.files name ≡ None)
  pub later : old.faults ≤ new.faults
  pub cause : result ≡ Err Failed → new.faults ≡ raised old.faults 1
  pub quiet : result ≢ Err Failed → new.faults ≡ old.faults
