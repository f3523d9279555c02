pub mod SurveyAnswer
pub mod Surveys
pub mod Surveying
pub mod Regrets
pub mod Given
