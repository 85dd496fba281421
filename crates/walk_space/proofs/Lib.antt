mod SpaceLaws
pub mod RoomLaws
