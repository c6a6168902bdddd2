pub mod ListingLaws
pub mod MakingLaws
pub mod OpeningLaws
pub mod PathLaws
pub mod RemovingLaws
pub mod ServingLaws
