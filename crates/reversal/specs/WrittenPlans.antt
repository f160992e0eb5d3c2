-- The written text of a plan reads as its list and its certificate.
use Rattle.std.specs.Prelude.{ℕ, List}
use Rattle.plan_types.specs.declared.action.Action.{Action}
use Rattle.level_book.specs.BookCosts.{BookCosts, names_of}
use Rattle.action_text.specs.ScheduleText.{IsSchedule}
use Rattle.cert_text.specs.declared.certificate.Certificate.{Certificate}
use Rattle.cert_text.specs.Meaning.{IsCertificateText}
use Rattle.reversal.specs.Job.{Job}
use Rattle.reversal.specs.Course.{Shown}
use Rattle.reversal.specs.Decision.{course_of}

-- read as a schedule it means this list, and read as a certificate this one
abbrev pub SaysAgain : ℕ → BookCosts → Job → List Action → Certificate → Type 0
SaysAgain steps book job list certificate =
    (shown : Shown) → IsSchedule (names_of book) ((course_of job).output shown) list × IsCertificateText steps book ((course_of job).output shown) certificate
