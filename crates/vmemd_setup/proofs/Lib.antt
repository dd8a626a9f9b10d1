pub mod OpeningLemmas
pub mod SetupLemmas
mod CommandLemmas
mod ConfigLemmas
mod SettingLemmas
