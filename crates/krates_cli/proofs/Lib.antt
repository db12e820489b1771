pub mod CommandLineLemmas
pub mod CountedLemmas
pub mod IgnoredLemmas
pub mod ListedLemmas
pub mod ListingLemmas
pub mod OptionsLemmas
pub mod ReportedLemmas
pub mod WhyKeptLemmas
