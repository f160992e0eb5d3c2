-- No public clause cites this file. What a verdict says of a list, and what is found about its places.
use Rattle.std.specs.Prelude.{◌≡◌, ◌≢◌, ℕ, ◌<◌, List, length, Option, MatchOption, slice_index}
use Rattle.plan_types.specs.declared.action.Action.{Action}
use Rattle.level_book.specs.declared.book.Level.{Level}
use Rattle.level_book.specs.BookCosts.{BookCosts}
use Rattle.cert_text.specs.declared.certificate.Certificate.{Certificate}
use Rattle.bound_cert.specs.declared.verdict.CertVerdict.{CertVerdict}
use Rattle.bound_cert.specs.declared.verdict.CertVerdict.TheVariants.{Least, Not}
use Rattle.table_clauses.specs.declared.entry.Entry.{Entry}
use Rattle.bound_cert.specs.Thresholds.{Misfits, StandsBefore}
use Rattle.bound_cert.specs.declared.verdict.Class.{Class}
use Rattle.bound_cert.specs.declared.verdict.Class.TheVariants as class
use Rattle.level_book.specs.UnderTable.{Entry as TableEntry, number}
use Rattle.bound_cert.specs.TableTests.{entry_value}
use Rattle.bound_cert.specs.declared.verdict.Reason.TheVariants.{Invalid, WrongShape, OutsideClass, Inequality, ValueDiffers}
use Rattle.bound_cert.specs.Acceptance.{class_of, IsAccepted, IsFirstReason, IsNumberOf, IsNegative, Differs}

-- the certificate is accepted, or isn't, for this reason first
abbrev pub IsVerdict : List Action → ℕ → BookCosts → Certificate → CertVerdict → Type 0
IsVerdict list steps book certificate (Least class) = (class ≡ class_of certificate) × IsAccepted list steps book certificate
IsVerdict list steps book certificate (Not reason) = IsFirstReason list steps book certificate reason

-- the first place on a level for which this holds
pub record IsFirstOn (level : ℕ) (levels : List ℕ) (Holds : ℕ → Type 0) (p : ℕ) : Type 0 where
  pub within : p < length levels
  pub on : slice_index levels p ≡ level
  pub holds : Holds p
  pub none_before : (q : ℕ) → q < p → slice_index levels q ≡ level → Holds q → ⊥

-- that place, or None if there is none
abbrev pub FindsOn : ℕ → List ℕ → (ℕ → Type 0) → Option ℕ → Type 0
FindsOn level levels Holds found = MatchOption found ((p : ℕ) → p < length levels → slice_index levels p ≡ level → Holds p → ⊥) (IsFirstOn level levels Holds)

-- the first entry at which a threshold doesn't fit, or None where it fits
abbrev pub FindsMisfit : ℕ → ℕ → BookCosts → List Action → Level → Level → List ℕ → Option Entry → Type 0
FindsMisfit threshold steps book list fast slow levels found =
    MatchOption found ((e : Entry) → Misfits threshold steps book list fast slow levels e → ⊥)
    (λ e. Misfits threshold steps book list fast slow levels e × ((other : Entry) → StandsBefore other e →
    Misfits threshold steps book list fast slow levels other → ⊥))

-- the number of a k is this, or it is negative and this is None
abbrev pub FindsNumber : ℕ → ℕ → ℕ → Option ℕ → Type 0
FindsNumber steps c k found = MatchOption found (IsNegative steps c k) (IsNumberOf steps c k)

-- the verdict by a list's forward steps and its certificate's value, for so many steps, slots and repeats
abbrev pub IsComparison : ℕ → ℕ → ℕ → ℕ → ℕ → CertVerdict → Type 0
IsComparison steps slots k list_cost value (Least class.Valid) = (list_cost ≡ value) × IsNumberOf steps slots k value
IsComparison steps slots k list_cost value (Least class.Multistage) = ⊥
IsComparison steps slots k list_cost value (Least class.Nested) = ⊥
IsComparison steps slots k list_cost value (Least class.Disk) = ⊥
IsComparison steps slots k list_cost value (Not Invalid) = ⊥
IsComparison steps slots k list_cost value (Not WrongShape) = ⊥
IsComparison steps slots k list_cost value (Not OutsideClass) = ⊥
IsComparison steps slots k list_cost value (Not (Inequality entry)) = ⊥
IsComparison steps slots k list_cost value (Not (ValueDiffers c other)) = (c ≡ list_cost) × Differs steps slots k list_cost value other

-- the verdict by the cost of a list and a top entry
abbrev pub IsTopVerdict : Class → ℕ → TableEntry → CertVerdict → Type 0
IsTopVerdict class list_cost top (Least c) = (c ≡ class) × (top ≡ number list_cost)
IsTopVerdict class list_cost top (Not Invalid) = ⊥
IsTopVerdict class list_cost top (Not WrongShape) = ⊥
IsTopVerdict class list_cost top (Not OutsideClass) = ⊥
IsTopVerdict class list_cost top (Not (Inequality place)) = ⊥
IsTopVerdict class list_cost top (Not (ValueDiffers cost_is value_is)) = (top ≢ number list_cost) × (cost_is ≡ list_cost) × (value_is ≡ entry_value top)
