use Rattle.std.proofs.Common.{ℕ, ◌*◌, ◌<◌, ◌≤◌, ◌^◌, List, length, slice_index, sum, arith}
use Rattle.std.proofs.lemmas.List.{get_or_default}
use Rattle.std.proofs.lemmas.List.Sums.{sum_by-le}
use Rattle.sm_tally.proofs.counted_ranks.CountedRanks.set.Goals as goal

-- a sum of numbers of 32 bits
sum_fits : (ranks : List ℕ) → ((p : ℕ) → slice_index ranks p < 2 ^ 32) → sum ranks ≤ length ranks * 4294967295
sum_fits ranks fit = sum_by-le (λ r. r) 4294967295 ranks (λ p d l. rw (get_or_default ranks p d 0 l) (let f = fit p in omega (arith, f)))

pub overflow_add-self : goal.overflow_add-self
overflow_add-self c =
    let i = c.self.invariant in
    let low = sum_fits c.self.inside.ranks.items i.fit in
    omega (arith, low, i.few, i.are.sum_is)
