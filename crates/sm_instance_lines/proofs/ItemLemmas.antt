-- The lines of pairs.
use Rattle.std.proofs.Common.{◌≡◌, ℕ, ◌+◌, ◌-◌, ◌<◌, ◌≤◌, List, [], ◌∷◌, ◌++◌, length, map, get_or, min, Some, sym, ap, ◌∙◌, subst, arith, ℤ, pos}
use Rattle.std.specs.List.{slice_get, zip}
use Rattle.std.proofs.lemmas.Slice.Zip.{length-zip, get_or-zip}
use Rattle.sm_agents.specs.Written.{Written, weighed}
use Rattle.sm_agents.specs.Sound.{IsInstance, IsPairOf}
use Rattle.sm_lists.specs.Pairs.{pair_at}
use Rattle.sm_agents.specs.Named.{SaidPair, SaidWeight}
use Rattle.sm_instance.specs.declared.inputs.Input.TheVariants.{Two}
use Rattle.sm_agents.proofs.ItemLemmas.{length-items, item_first, item_second, item_third, pair_at-weighed}
use Rattle.sm_instance_lines.specs.Names.{said_pair, said_weight, said_of}
use Rattle.sm_instance_lines.specs.Printed.{weight_line, force_line, forbid_line, item_lines, last_lines}
use Rattle.sm_instance_lines.proofs.PlaceLemmas.{part_before, part_behind}

abbrev weight_in : List (ℕ × ℕ × ℤ) → ℕ → ℕ × ℕ × ℤ
weight_in weights n = get_or weights n (0, 0, pos 0)

module _ (w : Written) (each : length w.seconds ≡ length w.weights) where
  abbrev pair_said : ℕ × ℕ → SaidPair
  pair_said = said_pair w.proposers w.reviewers

  abbrev weight_said : (ℕ × ℕ × ℤ) × ℤ → SaidWeight
  weight_said = said_weight w.proposers w.reviewers

  abbrev end_part : List (List ℕ)
  end_part = last_lines (said_of (Two w))

  abbrev forbid_part : List (List ℕ)
  forbid_part = map forbid_line (map pair_said w.forbidden) ++ end_part

  abbrev force_part : List (List ℕ)
  force_part = map force_line (map pair_said w.forced) ++ forbid_part

  abbrev lines : List (List ℕ)
  lines = item_lines (said_of (Two w))

  zip_long : length (zip w.weights w.seconds) ≡ length w.weights
  zip_long = length-zip w.weights w.seconds ∙ (let e : min (length w.weights) (length w.seconds) ≡ length w.weights = omega (arith, each) in e)

  -- the texts of the weights
  pub weight_text : (weights : List (ℕ × ℕ × ℤ)) (seconds : List ℤ) → weights ≡ w.weights → seconds ≡ w.seconds → (place : ℕ) → place < length weights
      → Some (weight_line (weight_said (weight_in weights place, get_or seconds place (pos 0)))) ≡ slice_get (item_lines (said_of (Two w))) place
  weight_text weights seconds are same place below =
      let inside : place < length w.weights = omega (arith, ap length are) in
      let within : place < length w.seconds = omega (arith, inside, each) in
      ap (λ xs. Some (weight_line (weight_said (weight_in xs place, get_or seconds place (pos 0))))) are
      ∙ ap (λ zs. Some (weight_line (weight_said (weight_in w.weights place, get_or zs place (pos 0))))) same
      ∙ ap (λ x. Some (weight_line (weight_said x))) (sym (get_or-zip w.weights w.seconds place ((0, 0, pos 0), pos 0) inside within))
      ∙ sym (part_before weight_line weight_said (zip w.weights w.seconds) force_part place ((0, 0, pos 0), pos 0) (omega (arith, inside, zip_long)))

  past_weights : (weights : List (ℕ × ℕ × ℤ)) → weights ≡ w.weights → (place : ℕ) → length weights ≤ place → slice_get force_part (place - length weights) ≡ slice_get lines place
  past_weights weights are place past =
      ap (λ xs. slice_get force_part (place - length xs)) are ∙ ap (λ n. slice_get force_part (place - n)) (sym zip_long)
      ∙ sym (part_behind weight_line weight_said (zip w.weights w.seconds) force_part place (omega (arith, ap length are, zip_long)))

  -- those of the forced pairs
  pub force_text : (weights : List (ℕ × ℕ × ℤ)) (forced : List (ℕ × ℕ)) → weights ≡ w.weights → forced ≡ w.forced → (place : ℕ) → length weights ≤ place
      → place - length weights < length forced
      → Some (force_line (pair_said (get_or forced (place - length weights) (0, 0)))) ≡ slice_get (item_lines (said_of (Two w))) place
  force_text weights forced are same place past below =
      ap (λ xs. Some (force_line (pair_said (get_or xs (place - length weights) (0, 0))))) same
      ∙ sym (part_before force_line pair_said w.forced forbid_part (place - length weights) (0, 0) (omega (arith, ap length same)))
      ∙ past_weights weights are place past

  past_forced : (weights : List (ℕ × ℕ × ℤ)) (forced : List (ℕ × ℕ)) → weights ≡ w.weights → forced ≡ w.forced → (place : ℕ) → length weights ≤ place
      → length forced ≤ place - length weights → slice_get forbid_part (place - length weights - length forced) ≡ slice_get lines place
  past_forced weights forced are same place past behind =
      ap (λ xs. slice_get forbid_part (place - length weights - length xs)) same
      ∙ sym (part_behind force_line pair_said w.forced forbid_part (place - length weights) (omega (arith, ap length same)))
      ∙ past_weights weights are place past

  -- those of the forbidden ones
  pub forbid_text : (weights : List (ℕ × ℕ × ℤ)) (forced forbidden : List (ℕ × ℕ)) → weights ≡ w.weights → forced ≡ w.forced → forbidden ≡ w.forbidden
      → (place : ℕ) → length weights ≤ place → length forced ≤ place - length weights → place - length weights - length forced < length forbidden
      → Some (forbid_line (pair_said (get_or forbidden (place - length weights - length forced) (0, 0)))) ≡ slice_get (item_lines (said_of (Two w))) place
  forbid_text weights forced forbidden are same equal place past behind below =
      ap (λ xs. Some (forbid_line (pair_said (get_or xs (place - length weights - length forced) (0, 0))))) equal
      ∙ sym (part_before forbid_line pair_said w.forbidden end_part (place - length weights - length forced) (0, 0) (omega (arith, ap length equal)))
      ∙ past_forced weights forced are same place past behind

  -- and those behind all pairs
  pub last_text : (weights : List (ℕ × ℕ × ℤ)) (forced forbidden : List (ℕ × ℕ)) → weights ≡ w.weights → forced ≡ w.forced → forbidden ≡ w.forbidden
      → (place : ℕ) → length weights ≤ place → length forced ≤ place - length weights → length forbidden ≤ place - length weights - length forced
      → slice_get (last_lines (said_of (Two w))) (place - length weights - length forced - length forbidden) ≡ slice_get (item_lines (said_of (Two w))) place
  last_text weights forced forbidden are same equal place past behind over =
      ap (λ xs. slice_get end_part (place - length weights - length forced - length xs)) equal
      ∙ sym (part_behind forbid_line pair_said w.forbidden end_part (place - length weights - length forced) (omega (arith, ap length equal)))
      ∙ past_forced weights forced are same place past behind

  -- all pairs are there
  module _ (sound : IsInstance w) where
    abbrev IsThere : ℕ × ℕ → Type 0
    IsThere = IsPairOf (length w.proposers) (length w.reviewers)

    count : length w.weights + length w.forced + length w.forbidden ≡ length (map weighed w.weights ++ w.forced ++ w.forbidden)
    count = sym (length-items w.weights w.forced w.forbidden)

    -- each weight is of a pair of agents
    pub weight_there : (weights : List (ℕ × ℕ × ℤ)) → weights ≡ w.weights → (n : ℕ) → n < length weights → IsPairOf (length w.proposers) (length w.reviewers) (weighed (get_or weights n (0, 0, pos 0)))
    weight_there weights are n below =
        let inside : n < length w.weights = omega (arith, ap length are) in
        subst IsThere (item_first w.weights w.forced w.forbidden n inside ∙ pair_at-weighed w.weights n inside ∙ ap (λ xs. weighed (weight_in xs n)) (sym are))
        (sound.items n (omega (arith, count))).pair

    -- each forced pair is one of agents
    pub force_there : (forced : List (ℕ × ℕ)) → forced ≡ w.forced → (n : ℕ) → n < length forced → IsPairOf (length w.proposers) (length w.reviewers) (get_or forced n (0, 0))
    force_there forced are n below =
        let inside : n < length w.forced = omega (arith, ap length are) in
        subst IsThere (item_second w.weights w.forced w.forbidden n inside ∙ ap (λ xs. pair_at xs n) (sym are)) (sound.items (length w.weights + n) (omega (arith, count))).pair

    -- each forbidden pair is one of agents
    pub forbid_there : (forbidden : List (ℕ × ℕ)) → forbidden ≡ w.forbidden → (n : ℕ) → n < length forbidden → IsPairOf (length w.proposers) (length w.reviewers) (get_or forbidden n (0, 0))
    forbid_there forbidden are n below =
        let inside : n < length w.forbidden = omega (arith, ap length are) in
        subst IsThere (item_third w.weights w.forced w.forbidden n ∙ ap (λ xs. pair_at xs n) (sym are)) (sound.items (length w.weights + length w.forced + n) (omega (arith, count))).pair
