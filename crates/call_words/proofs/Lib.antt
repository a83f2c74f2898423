-- The laws of the words beside an image.
pub mod RoomLaws
pub mod CutLaws
