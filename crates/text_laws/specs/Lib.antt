-- The canonical text of a script.
pub mod TextLaws
