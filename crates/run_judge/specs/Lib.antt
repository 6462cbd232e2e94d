-- Who is active and who runs on each card, as the book has it, and what a record comes to.
pub mod WhoRuns
pub mod Rulings
