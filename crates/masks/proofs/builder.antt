-- What the proofs of src/builder.rt, src/builder/extend.rt, src/builder/gather.rt and src/builder/repeat.rt use.
pub mod AppendLaws
pub mod ExtendLaws
pub mod FreezeLaws
pub mod GatherLaws
pub mod InsideLaws
pub mod PushLaws
pub mod RepeatLaws
pub mod RoomLaws
