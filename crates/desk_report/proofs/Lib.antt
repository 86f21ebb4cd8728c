pub mod Sizes
pub mod RestLines
pub mod Pages
pub mod SpanLines
pub mod RestWords
pub mod Room
pub mod Answered
pub mod Worked
