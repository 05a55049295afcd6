pub mod ClockLemmas
pub mod ColumnLemmas
pub mod DeliveryLemmas
pub mod DueLemmas
pub mod LineLemmas
pub mod SentLemmas
pub mod PlacesLemmas
