-- `certify`: whether a valid schedule is the least by a certificate.
use Rattle.std.specs.Prelude.{ℕ, List, [], ◌∷◌, codes}
use Rattle.bound_cert.specs.declared.verdict.Class.{Class}
use Rattle.bound_cert.specs.declared.verdict.Class.TheVariants as class
use Rattle.cert_text.specs.Meaning.{IsCertificateText}
use Rattle.cert_text.specs.Faults.{HasFirstFault as CertificateFirst}
use Rattle.bound_cert.specs.Acceptance.{class_of}
use Rattle.endings.specs.Outcomes.{bad_certificate}
use Rattle.reversal.specs.Job.{write}
use Rattle.reversal.specs.Table.{Decision, Table, does, Decided, reads, weighs}
use Rattle.reversal.specs.InputMeaning.{over_valid}

-- the text for a list that is the least of its class
abbrev pub least_line : Class → List ℕ
least_line class.Valid = codes "least valid\n"
least_line class.Multistage = codes "least multistage\n"
least_line class.Nested = codes "least nested\n"
least_line class.Disk = codes "least disk\n"

-- that a valid schedule is the least by a certificate, of all valid lists or of its class
abbrev pub certify_table : ℕ → List ℕ → List ℕ → List ℕ → Table
certify_table steps book schedule certificate =
    over_valid steps book schedule (λ b list.
    reads (IsCertificateText steps b certificate) (CertificateFirst steps b certificate) bad_certificate (λ c.
    weighs steps b list c
    (does (write (least_line (class_of c) ∷ [])))))

abbrev pub DecidesCertify : ℕ → List ℕ → List ℕ → List ℕ → Decision → Type 0
DecidesCertify steps book schedule certificate d = Decided (certify_table steps book schedule certificate) d
