-- The reader of a descriptor is exact, and so is the answer; and what is allowed in numbers.
pub mod DescriptorLaws
pub mod AnswerLaws
pub mod LimitLaws
