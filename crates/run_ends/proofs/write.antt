-- Laws of runs that are written: their number and their flags, their ends as the set flags of words, and the checks of the call.
pub mod CheckLaws
pub mod EndPlaces
pub mod EndsWritten
pub mod RunFlags
