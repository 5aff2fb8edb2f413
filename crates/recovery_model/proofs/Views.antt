-- What an inspector sees of two drives whose plugs are pulled and that are recovered. Assumes nothing.
pub mod RecoveredDrives
pub mod CutDrives
