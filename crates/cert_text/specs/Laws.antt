-- What the definitions of texts imply.
use Rattle.std.specs.Prelude.{◌≡◌, ◌≢◌, ◌⊎◌, ℕ, false, List, [], ◌∷◌, ◌++◌}
use Rattle.std.specs.List.{AllByRecursion, flat_map, concat}
use Rattle.level_book.specs.BookCosts.{BookCosts}
use Rattle.cost_tables.specs.TableRows.{TableRows, AreFor, TablesFit, FastestTablesFit}
use Rattle.disk_gen.specs.DiskRows.{DiskRows, AreDiskSized}
use Rattle.cert_text.specs.declared.certificate.Certificate.{Certificate}
use Rattle.cert_text.specs.declared.certificate.Certificate.TheVariants.{Nested, Disk}
use Rattle.line_texts.specs.declared.fault.Fault.{Fault}
use Rattle.cert_text.specs.MarkedLines.{is_marked}
use Rattle.cert_text.specs.Meaning.{IsCertificateText, HasText}
use Rattle.cert_text.specs.Faults.{HasFirstFault}
use Rattle.cert_text.specs.Canonical.{canonical, pieces}

-- bytes mean one certificate at most
abbrev pub OneCertificate : Type 0
OneCertificate =
    (steps : ℕ) (book : BookCosts) (bytes : List ℕ) (a b : Certificate) → IsCertificateText steps book bytes a → IsCertificateText steps book bytes b → a ≡ b

-- they have at most one first fault, and those of a certificate have none
abbrev pub OneFault : Type 0
OneFault = (steps : ℕ) (book : BookCosts) (bytes : List ℕ) (a b : Fault) → HasFirstFault steps book bytes a → HasFirstFault steps book bytes b → a ≡ b

abbrev pub CertificatesHaveNoFault : Type 0
CertificatesHaveNoFault =
    (steps : ℕ) (book : BookCosts) (bytes : List ℕ) (certificate : Certificate) (fault : Fault) →
    IsCertificateText steps book bytes certificate → HasFirstFault steps book bytes fault → ⊥

-- all bytes mean a certificate or have a first fault
abbrev pub CertificateOrFault : Type 0
CertificateOrFault =
    (steps : ℕ) (book : BookCosts) (bytes : List ℕ) →
    ((certificate : Certificate) × IsCertificateText steps book bytes certificate) ⊎ ((fault : Fault) × HasFirstFault steps book bytes fault)

-- the writes of a certificate join to its text
abbrev pub PiecesJoin : Type 0
PiecesJoin = (certificate : Certificate) → concat (pieces certificate) ≡ canonical certificate

-- a line that isn't one of a certificate, without the byte 10 that ends it
pub record IsOtherLine (line : List ℕ) : Type 0 where
  pub unmarked : is_marked line ≡ false
  pub one_end : AllByRecursion (λ b. b ≢ 10) line

-- the canonical text of a certificate, after any other lines, reads as that certificate
abbrev pub CanonicalIsRead : Type 0
CanonicalIsRead =
    (steps : ℕ) (book : BookCosts) (certificate : Certificate) → HasText steps book certificate → (others : List (List ℕ)) → AllByRecursion IsOtherLine others →
    IsCertificateText steps book (flat_map (λ line. line ++ 10 ∷ []) others ++ canonical certificate) certificate

-- Tables for so many steps and a book have a text if they can be built, with any entries. So do disk tables.
abbrev pub SizedHasText : TableRows → Type 0
SizedHasText t = (steps : ℕ) (book : BookCosts) → TablesFit steps book → AreFor steps book t → HasText steps book (Nested t)

abbrev pub DiskSizedHasText : DiskRows → Type 0
DiskSizedHasText t = (steps : ℕ) (book : BookCosts) → FastestTablesFit steps book → AreDiskSized steps book t → HasText steps book (Disk t)
