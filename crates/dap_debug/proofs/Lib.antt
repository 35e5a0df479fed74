-- Each run ends once; for `debug_laws`.
mod Balance
-- Identifiers and references lead back; for `shown_laws`.
mod Found
-- What is shown and set one after another; for `inspecting` and `breakpoints`.
mod Further
-- What a file gave is loaded, or refused; for `launch`.
mod Loaded
-- Texts of one kind that follow each other are one; for `telling` and `debug_laws`.
mod Merging
-- Texts are told in pieces; for `telling` and `debug_laws`.
mod Pieces
-- What a conversation keeps of what is seen of a session; for `serve_language_inbox`.
mod Seeing
-- Each run of a conversation ends once; for `conversation_laws`.
mod Sums
-- Decimal texts, and texts with expressions in braces; for `breakpoints`.
mod Texts
