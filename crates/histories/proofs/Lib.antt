-- Folders that no module of src/ names: laws for the theorems (`history`, `run_lists`), tables, their rows computed, theorems, what they
-- state.
pub mod computed
pub mod history
pub mod run_lists
pub mod statements
pub mod tables
pub mod theorems
