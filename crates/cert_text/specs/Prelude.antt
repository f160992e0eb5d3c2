-- The names that the clauses of other crates cite, passed on from one place. Declares nothing.
pub use Rattle.cert_text.specs.Meaning.{HasText, IsCertificateText}
pub use Rattle.cert_text.specs.Faults.{HasFirstFault}
pub use Rattle.cert_text.specs.Canonical.{pieces}
