pub mod MemberLemmas
pub mod SizeLemmas
pub mod RowLemmas
pub mod LineLemmas
pub mod RightLemmas
