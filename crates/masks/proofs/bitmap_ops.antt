-- What the proofs of src/bitmap_ops.rt and src/shortcuts.rt use. `FrozenLaws`, on bytes, is for every module that writes.
pub mod CombineLaws
pub mod FrozenLaws
