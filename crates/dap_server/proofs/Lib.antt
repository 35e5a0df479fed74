-- Frames of messages are added one after another; for the functions of `messages`.
mod Adding
-- A content is one request, or none; for `request_laws`.
mod Once
-- A content is the request that its value's members ask; for `request_laws`.
mod Asked
-- The conversation goes on by one content more, or breaks off at it; for the functions of `serving`.
mod Conversing
-- Little is left where the client leaves; for `serve`.
mod Leaving
-- Items are taken one after another, and what a source gives is read; for `serve` and `Inbox`.
mod Taking
-- Items are taken, and the adapter works meanwhile; for `converse`.
mod Meanwhile
-- A session that only waits is one over an inbox; for `serve_inbox`.
mod Waiting
