pub mod BuildTruth
pub mod BuildVerdicts
pub mod ClaimRefusals
pub mod JudgedBytes
pub mod NamedClaims
pub mod RefusalCauses
pub mod SaidClaims
pub mod SameBuild
