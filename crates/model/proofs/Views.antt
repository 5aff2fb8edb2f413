-- What an inspector sees of two drives side by side, and what the simulator tells of one.
pub mod Agreement
pub mod Shown
pub mod View
pub mod Tracking
pub mod Answers
pub mod Updates
pub mod Writes
pub mod Follows
pub mod Sides
pub mod SideRuns
pub mod Drives
pub mod SideWrites
pub mod CallLists
