pub mod Program
pub mod Answer
pub mod Loading
