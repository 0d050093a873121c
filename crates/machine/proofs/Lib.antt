pub mod MachineLaws
pub mod LoopLaws
pub mod StopLaws
pub mod HaltLoopLaws
pub mod WriteLaws
