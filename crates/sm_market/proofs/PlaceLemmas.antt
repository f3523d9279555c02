-- Where an agent stands on a list of a market.
use Rattle.std.proofs.Common.{◌≡◌, ℕ, ◌<◌, List, length, refl}
use Rattle.sm_lists.proofs.PlaceLemmas.{place_on_is}
use Rattle.sm_market.specs.Lists.{row, entry, place_of, AreMutual}

-- on a list without repeats each entry has its own place
pub place_of-entry : {rows others : List (List ℕ)} → AreMutual rows others → (a i : ℕ) → i < length (row rows a) → place_of rows a (entry rows a i) ≡ i
place_of-entry {rows} m a i h = place_on_is (row rows a) (entry rows a i) i h refl (λ k l. m.distinct a k i l h)
