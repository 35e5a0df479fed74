-- One text has one program; for `Unit::has_same_text`.
pub mod Texts
