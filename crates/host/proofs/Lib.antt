pub mod FrameLaws
pub mod SendLaws
pub mod One
pub mod DataLaws
pub mod DataOne
pub mod ChannelOne
pub mod ReceivingOne
pub mod ScramblingLaws
