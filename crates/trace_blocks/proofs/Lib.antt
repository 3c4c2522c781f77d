pub mod Ready
pub mod Due
pub mod Frames
pub mod Taking
pub mod Going
pub mod AtBlock
