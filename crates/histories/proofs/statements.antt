-- What the theorems state. On histories: `History`, `Agreement` and `Library`, in this order, and `Serials`; `Owed` is what must be proved
-- of a row that is added. On run lists: `RunLists`. No contract of a function cites these definitions.
pub mod Agreement
pub mod GridsAlike
pub mod History
pub mod Library
pub mod Owed
pub mod RunEndsAlike
pub mod RunLists
pub mod Serials
