-- The first five modules hold what the public contracts speak of.
-- the header part of a frame, and its faults
pub mod Header
-- the frames of a stream
pub mod Frame
-- what a decoder keeps of a stream
pub mod Stream
-- what holds of all frames and faults
pub mod Laws
-- worked examples of faults
pub mod WorkedFaults
-- for private contracts only: how far a header part was read, and how many bytes are kept
pub mod Progress
