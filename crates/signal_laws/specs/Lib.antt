pub mod ChangeLaws
pub mod OrderLaws
pub mod CleanLaws
pub mod SettleLaws
pub mod RunLaws
pub mod KeptPathLaws
pub mod ReadLaws
