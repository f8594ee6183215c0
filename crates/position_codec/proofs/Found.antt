-- Laws of the definitions of specs/Found.
pub mod StepFound
