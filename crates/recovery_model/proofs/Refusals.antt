-- Refusal 17 against its condition in the document's words. Assumes nothing.
pub mod Map
