-- What a schedule of records comes to, case by case.
pub mod ScheduleOutcomes
