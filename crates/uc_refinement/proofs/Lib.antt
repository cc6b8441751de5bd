mod PartsOfOneRun
mod RunsOfTheCore
mod OneCoreRun
mod OwnReplies
mod Behind
mod ClosedRuns
mod GivenReplies
mod Settled
