-- The readers of modes, of one grant and of all grants are exact, and their masks.
pub mod ModeLaws
pub mod GrantLaws
pub mod GrantsLaws
pub mod MaskLaws
