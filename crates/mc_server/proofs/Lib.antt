pub mod Complaints
pub mod CoreRuns
pub mod Crews
pub mod LogRuns
pub mod Meetings
pub mod NetworkRuns
pub mod NameParts
pub mod Numbered
pub mod OwnListeners
pub mod OwnOrder
mod NetworkRows
pub mod OneLog
pub mod TenantForms
pub mod TenantLists
pub mod TenantParts
pub mod Waited
