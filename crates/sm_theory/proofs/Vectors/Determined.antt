-- The laws of listings, for the order of vectors.
use Rattle.sm_theory.specs.LawsListing.{OneListing, ListingResumes}
use Rattle.sm_theory.proofs.Vectors.Order.{irreflexive, transitive}
use Rattle.sm_theory.proofs.Vectors.Listings as listings

-- by `ListingLemmas`, since the order is a strict one
pub one_listing : OneListing
one_listing l levels forced forbidden order = listings.one_listing (irreflexive order) (transitive order)

-- by `ListingLemmas`, since the order is a strict one
pub listing_resumes : ListingResumes
listing_resumes l levels forced forbidden order = listings.listing_resumes (irreflexive order) (transitive order)
