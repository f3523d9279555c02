-- Two stable matchings that were given.
use Rattle.std.specs.Prelude.{◌≡◌, ℕ, List}
use Rattle.sm_agents.specs.Written.{Written}
use Rattle.sm_instance.specs.declared.inputs.Input.TheVariants.{Two}
use Rattle.sm_answer_given.specs.GivenText.{AreGiven}
use Rattle.sm_holding.specs.Held.{places_in, GiveStable}
use Rattle.sm_answer_given.specs.declared.given.Given.{Given}

-- the texts are those of two stable matchings, and these are they
pub record AreStableGiven (w : Written) (texts : List (List ℕ)) (given : Given) : Type 0 where
  pub left : List (ℕ × ℕ)
  pub right : List (ℕ × ℕ)
  pub are_given : AreGiven (Two w) texts left right
  pub left_stable : GiveStable w left
  pub right_stable : GiveStable w right
  pub left_is : given.left.places.items ≡ places_in w left
  pub right_is : given.right.places.items ≡ places_in w right
