-- What is shown of the definitions of specs/: a text is refused by its first fault, an accepted plan is sound and its
-- numbers can be read, an accepted text has few lines and its updates numbered, and a run of steps says what its steps
-- say.
pub mod Tabulated
pub mod FirstFault
pub mod Sound
pub mod LineCounts
pub mod AcceptedTexts
pub mod UpdateNumbers
pub mod Fits
pub mod RunIsSteps
pub mod RunIsStepsExamples
pub mod Examples
