pub mod ThresholdFit
pub mod Numbers
pub mod CountableLists
pub mod TestOutcomes
pub mod VerdictUniqueness
pub mod PlanCertificates
pub mod Texts
pub mod Decidability
