pub mod RouteAnswer
pub mod RouteFound
