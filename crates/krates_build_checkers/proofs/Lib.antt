pub mod ClosedLists
pub mod FeatureBehind
pub mod FoundRows
pub mod GivenSets
pub mod GivenSteps
pub mod MatteringRows
pub mod RowsBegun
pub mod SameFacts
