-- Two parts that were sent one after another are sent together; for the functions of `driving`, `laws` and `session`.
pub mod Joining
-- Frames that were added one after another are those of the whole step; for `Frames::add_events`, `put`,
-- `Session::send_messages` and others.
pub mod Building
-- A session at a history takes one item more, or fails at it; for the functions of `driving`, `laws` and `session`.
pub mod Items
-- A request is answered, or is a launch that waits for its file; for `Session::take_content` and
-- `Session::take_request`.
pub mod Requests
-- What a session does with a report, accepted or passed over; for `Session::accept`, `Session::take_report` and others.
pub mod Reports
-- A session on its way through the contents of some bytes goes on, rests, closes or fails; for `Session::take_contents`
-- and `Session::take_piece`.
pub mod Way
-- How far a session came, seen from further back; for the functions of `driving`, `laws` and `session`.
pub mod Going
-- What a session does with a piece of the input; for `Session::take_piece`.
pub mod Pieces
-- How a session closes where its input does; for `Session::take_event`.
pub mod Closing
-- What a session does with the file of a launch; for `Session::take_event` and `Session::take_file`.
pub mod Files
-- A session that represents some events represents one event more after it took it; for `Session::go_on`,
-- `Session::want` and `session_laws`.
pub mod Standing
-- A session that is driven takes events until it is closed or fails; for `session_laws` and the functions of `driving`.
pub mod Driven
-- A history that a session reached is that of some events, with each content in a piece of its own; for `session_laws`.
pub mod Retaken
-- What a session sent is a prefix of what the history gives that it reached; for the clause `prefixes` of
-- `session_laws`.
pub mod Beginnings
-- What a session put is numbered, and read back; for the clause `numbered` of `session_laws`.
pub mod Numbering
-- What a session has sent where it waits is determined; for `serving_laws`.
pub mod Owing
