mod Alternatives
mod Answering
mod Ends
mod Entries
mod Following
mod Growing
mod Known
mod Loop
mod Marking
mod Merging
mod Paired
mod Represented
mod Settling
mod Tables
mod Turn
mod Words
pub mod MarksAgreement
pub mod CertificationLaws
pub mod CertificationContract
pub mod CertificationBounds
pub mod CertificationTwin
