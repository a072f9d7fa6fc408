mod ByHand
mod Held
