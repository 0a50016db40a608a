pub mod Firsts
pub mod HandedDown
pub mod Kids
pub mod Order
pub mod OwnSequences
pub mod Progress
pub mod Told
pub mod ToldSteps
