-- Plans with one part changed, and the single entries of notes.
pub mod Plans
pub mod Notes
