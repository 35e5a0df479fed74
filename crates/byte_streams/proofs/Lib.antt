-- What was written so far is a prefix of the bytes, and all of them at the end; for `say` and `write_all`.
pub mod Transferring
-- What was read so far is all that there was; for `read_beginning` and `read_all`.
pub mod Beginnings
-- Bytes that come behind those before; for the others, and for the crates above.
pub mod Appending
-- The bytes that a stream knows are those that std's stream tells; for `read` and `write`.
pub mod Noting
-- Steps of the walk of `ByteLog::new`.
pub mod Walks
