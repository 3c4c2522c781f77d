pub mod Ring
pub mod Cases
