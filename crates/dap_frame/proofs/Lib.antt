-- What several of the other files import, from one place.
pub mod Common
-- Bytes are cut into lines, and lines into fields, in one way only; for the functions of `decoder`, `field`, `header`
-- and others.
pub mod Lines
-- Two readings of the same bytes: a line of the one is a line of the other, or stands after it; for the functions of
-- `decoder`, `header` and `laws`.
pub mod Located
-- A fault stands after faultless fields, in a line that is none of them, and there is one at most; for the clause
-- `faults` of `frame_laws`.
pub mod Faults
-- A rest has one header part and one frame at most, and where a frame stands no fault does; for the clauses `frames`,
-- `both`, `again` and `join` of `frame_laws`, and for `front_of`.
pub mod Frames
-- A field's line is cut at its first colon; for `field_of`.
pub mod Fields
-- A length as it is written: 1 to 7 digits, without a leading zero unless it is `0`; for `length_of`.
pub mod Lengths
-- Where the first end of a line stands, by places; for `line_end`.
pub mod Ends
-- What the judged lines name when one line more is judged; for `frame_laws` and `judge_field`.
pub mod Judging
-- What is known of the rest when one line more was read, or none is there; for `frame_laws` and `scan_lines`.
pub mod Scanning
-- What was read of a rest stays read when more of it comes; for `Decoder::feed` and `Decoder::next_content`.
pub mod Feeding
-- How many bytes are kept, by where the rest begins; for `compact` and what calls it.
pub mod Keeping
-- Each rest is one of the three: a frame, a fault, or neither yet; for the clause `one_of_three` of `frame_laws`.
pub mod Deciding
-- Lines that are no fields, and lengths that are none; for `worked_faults`.
pub mod WorkedFaults
