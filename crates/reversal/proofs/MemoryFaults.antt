-- Want of memory: which fault ends a call so, and where keepers have room.
use Rattle.std.proofs.Common.{◌≡◌, ◌≢◌, ℕ, refl, arith}
use Rattle.reverse_runner.specs.declared.fault.RunFault.{RunFault}
use Rattle.reverse_runner.specs.declared.fault.RunFault.TheVariants.{Keeper, Damaged, Visitor, Memory, Ended}
use Rattle.reversal.specs.JobModel.{fault_ending}
use Rattle.endings.specs.Endings.{status_of}

pub is_memory : (place : ℕ) (fault : RunFault) → fault ≢ Ended → status_of (fault_ending place fault) ≡ 17 → fault ≡ Memory
is_memory place (Keeper k) lasts e = absurd (omega (arith, e))
is_memory place (Damaged k put got) lasts e = absurd (omega (arith, e))
is_memory place Visitor lasts e = absurd (omega (arith, e))
is_memory place Memory lasts e = refl
is_memory place Ended lasts e = absurd (lasts refl)
