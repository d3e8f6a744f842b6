pub mod Rules
pub mod Search
pub mod Conflicts
pub mod Boundaries
pub mod Refusals
pub mod Answers
pub mod Laws
