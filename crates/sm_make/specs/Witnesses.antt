-- What the checker computes of a marriage of two.
use Rattle.std.specs.Prelude.{◌≡◌, [], ◌∷◌}
use Rattle.sm_make.specs.Words.{words, of_seed}
use Rattle.sm_make.specs.Lists.{shuffled_list}

-- an instance of two: its words, and the lists that they give
pub record IsMadeOfTwo : Type 0 where
  pub drawn : words 4 (of_seed 42) ≡ 0xa15c02b7 ∷ 0x7b47f409 ∷ 0xba1d3330 ∷ 0x83d2f293 ∷ []
  pub first : shuffled_list 2 0 (words 4 (of_seed 42)) 0 ≡ 0 ∷ 1 ∷ []
  pub second : shuffled_list 2 0 (words 4 (of_seed 42)) 1 ≡ 0 ∷ 1 ∷ []
  pub third : shuffled_list 2 2 (words 4 (of_seed 42)) 0 ≡ 1 ∷ 0 ∷ []
  pub fourth : shuffled_list 2 2 (words 4 (of_seed 42)) 1 ≡ 0 ∷ 1 ∷ []
