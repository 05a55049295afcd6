-- What senders may drop, and that nothing needed is gone.
pub mod KeptByEvents
pub mod KeptBySteps
pub mod KeptByImages
pub mod NothingGone
