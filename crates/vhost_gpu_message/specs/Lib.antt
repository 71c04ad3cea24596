pub mod GpuBackendReq
pub mod GpuHeader
pub mod Words
pub mod WordRecords
pub mod CtrlHdr
pub mod Records
pub mod Replies
