mod Steps
pub mod Learning
pub mod Onward
pub mod Following
pub mod Told
pub mod Telling
pub mod Replies
pub mod Counting
pub mod FewCalls
pub mod Lacking
pub mod Owning
pub mod Closing
pub mod FewPlaces
pub mod TurningOver
pub mod AllWorkers
pub mod Unsettled
