-- Folders that no module of src/ names: laws for callers, tables, their rows computed, theorems, what they state. The laws are in the
-- folders of modules.
pub mod calling
pub mod computed
pub mod statements
pub mod tables
pub mod theorems
