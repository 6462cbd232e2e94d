-- Laws of the book as a job becomes active or returns.
pub mod WhoRuns
