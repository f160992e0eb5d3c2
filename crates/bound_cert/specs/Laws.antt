-- What holds of certificates and of thresholds.
use Rattle.std.specs.Prelude.{◌⊎◌, ℕ, List}
use Rattle.plan_types.specs.declared.action.Action.{Action}
use Rattle.level_book.specs.BookCosts.{BookCosts, slots_of}
use Rattle.level_book.specs.Valid.{Valid}
use Rattle.multistage_gen.specs.MultistageList.{IsMultistageList}
use Rattle.cert_text.specs.declared.certificate.Certificate.{Certificate}
use Rattle.bound_cert.specs.declared.verdict.Reason.{Reason}
use Rattle.bound_cert.specs.Acceptance.{IsAccepted, IsFirstReason}
use Rattle.bound_cert.specs.Thresholds.{IsThresholdOf}

-- for a valid list a certificate is accepted, or there is a first reason why it isn't
abbrev pub AcceptedOrRefused : List Action → ℕ → BookCosts → Certificate → Type 0
AcceptedOrRefused list steps book certificate =
    Valid steps (slots_of book) list → IsAccepted list steps book certificate ⊎ ((reason : Reason) × IsFirstReason list steps book certificate reason)

-- a planned multistage list has a threshold
abbrev pub PlanHasThreshold : ℕ → BookCosts → List Action → Type 0
PlanHasThreshold steps book list = IsMultistageList steps book list → (threshold : ℕ) × IsThresholdOf threshold steps book list
