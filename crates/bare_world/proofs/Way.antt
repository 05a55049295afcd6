-- What recovery is made of: restarts, asks, what goes from rank to rank; and that all of it can
-- happen.
pub mod AllAreLive
pub mod Cursors
pub mod FramesPassNoRank
pub mod AskBringsBack
pub mod RoundPassesNoRank
pub mod AllSentIsAccepted
pub mod PairIsDrained
pub mod AsksAreHeard
pub mod EachAskIsHeard
pub mod OutstandingFalls
pub mod CollectiveStages
pub mod StepOfItsOwn
pub mod WhereActsLead
pub mod MachineHasStep
pub mod EventIsPossible
pub mod CallTakesCourse
pub mod EventIsAnswered
pub mod AllIsAtHand
pub mod AllIsDelivered
pub mod AsksAreAnswered
pub mod ActsAreMade
pub mod ThereIsOne
