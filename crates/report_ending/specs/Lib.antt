-- What writing out how a run ended promises.
pub mod Finishing
