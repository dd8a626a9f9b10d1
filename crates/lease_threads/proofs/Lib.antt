mod Runs
mod CallRuns
mod CallEnds
mod LineLaws
mod Roots
pub mod Gathered
mod Reaped
mod Retired
mod Drained
