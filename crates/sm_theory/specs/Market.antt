-- The definitions on markets and matchings, passed on under their names. Declares nothing.
pub use Rattle.sm_market.specs.Lists.{Lists, reversed_lists, row, entry, place_of, IsMarket}
pub use Rattle.sm_market.specs.Matching.{Places, reversed, held, standing, IsMatching}
pub use Rattle.sm_market.specs.Reduced.{reduced_row, reduced_lists_of}
pub use Rattle.sm_market.specs.Levels.{level_of, level_vector_of}
pub use Rattle.sm_market.specs.Stable.{Blocks, IsStable, IsProposersBest, IsReviewersBest}
