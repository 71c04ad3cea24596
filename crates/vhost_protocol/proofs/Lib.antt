pub mod SplitLaws
pub mod Splitting
pub mod TextLaws
pub mod ReplyLaws
pub mod WholeLaws
pub mod TakeLaws
pub mod RowLaws
pub mod AgreeLaws
mod SplitRows
mod RecordRows
mod RunRows
mod LogRows
mod RingRows
mod LargeRows
mod TakeRows
mod StandardRows
mod TableRows
mod JoinedRows
mod ReverseRows
mod JoinedReverseRows
mod GpuRows
pub mod TakeShapes
pub mod RegionLaws
pub mod ReverseLaws
pub mod NegotiationLaws
pub mod HeardLaws
pub mod SendLaws
pub mod FormLaws
pub mod RefusalLaws
pub mod FollowLaws
mod SettledRows
pub mod SettleLaws
pub mod LockLaws
mod TruncatedRows
