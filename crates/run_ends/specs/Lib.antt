-- What the contracts of this crate mean. Read `Rules` first.
pub mod Read
pub mod Rules
pub mod Workers
pub mod Write
pub mod WriteWorkers
pub mod equations
