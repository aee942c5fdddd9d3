-- What the proof of `Lines::take` uses.
pub mod LineLaws
