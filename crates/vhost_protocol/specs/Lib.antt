-- The definitions of the protocol, in the order of reading. They stand on those of records, codes and headers in
-- `vhost_message/specs` and `vhost_gpu_message/specs`.

-- ---- bytes with handles, messages, errors
pub mod Stream
pub mod Error
pub mod Codes
pub mod Split
pub mod Written
-- ---- serving a frontend: `Handler` says it all, over the table in `Row`
pub mod Features
pub mod Profile
pub mod Session
pub mod DeviceCall
pub mod Served
pub mod Step
pub mod Answered
pub mod Row
pub mod Settled
pub mod Socket
pub mod Run
pub mod Handler
-- ---- asking a handler: `Ask` is what goes out, `AnswerTable` what the caller is answered, `Take` how it is read
pub mod FrontendCall
pub mod Ask
pub mod AnswerTable
pub mod ReplySplit
pub mod Take
-- ---- both sides joined, and shared by several callers
pub mod Joined
pub mod Log
-- ---- the reverse channel
pub mod IoError
pub mod Reverse
pub mod JoinedReverse
-- ---- the channel to a display
pub mod Gpu
-- ---- streams in pieces
pub mod Pieces
-- Laws of the definitions. They need not be believed, since the functions of `src/laws` have them as contracts; read here
-- what they say. Contracts cite some of their premises, as that a number fits its field.
pub mod Laws
pub mod Agreement
pub mod Answering
pub mod Heard
pub mod ReverseLaws
