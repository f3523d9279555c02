pub mod RegretLemmas
pub mod SurveyLemmas
pub mod LineLemmas
