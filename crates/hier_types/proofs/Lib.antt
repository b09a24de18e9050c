pub mod CallLemmas
pub mod CauseLemmas
pub mod LineLemmas
pub mod PlainLemmas
pub mod PortCallLemmas
pub mod SettingLemmas
pub mod StreamLemmas
pub mod TableLemmas
