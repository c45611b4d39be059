pub mod AtHand
pub mod Making
