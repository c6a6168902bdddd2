pub mod Laws
pub mod ReplyLines
pub mod RunText
