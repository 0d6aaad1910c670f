-- The reader of a payload is exact, piece by piece.
pub mod PieceLaws
pub mod PayloadLaws
