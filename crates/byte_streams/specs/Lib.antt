-- What public contracts cite.
-- What is known of an input and of an output, and what holds after bytes were written.
pub mod Streams
-- What the beginning of an input is.
pub mod Beginning
-- What is read of files that are opened by their names.
pub mod Files
