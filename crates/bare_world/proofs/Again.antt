-- The acts of the run are made again, until every rank has caught up.
pub mod LinesLeadOn
pub mod InnerStepsEnd
pub mod StepBringsNearer
pub mod StepsToNextAct
pub mod PacketIsInInbox
pub mod StepBehindRun
pub mod StepWithNothingLeft
pub mod PartsOfAct
pub mod GoesOn
pub mod NextActIsMade
pub mod Calls
pub mod Loops
pub mod EachActIsMade
pub mod WholeWay
