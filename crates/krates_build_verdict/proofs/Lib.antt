pub mod BuildTruth
pub mod BuiltCrates
pub mod JudgedBytes
pub mod NamedClaims
pub mod RefusedClaims
pub mod SaidClaims
pub mod SameBuild
pub mod SameWords
