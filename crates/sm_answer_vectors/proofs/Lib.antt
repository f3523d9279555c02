pub mod SpelledLemmas
pub mod RemainingLemmas
pub mod PutLemmas
pub mod ListLemmas
pub mod CursorLemmas
