-- The format that an instance needs.
use Rattle.std.proofs.Common.{◌≡◌, ◌≢◌, ℕ, zero, suc, ◌+◌, ◌<◌, ◌||◌, Bool, true, false, not, cond, List, [], ◌∷◌, ◌++◌, codes, length, map, get_or, Option, Some, None, is_some, refl, sym, ap, ◌∙◌, arith, ℤ, pos, negsuc, nat_eq, ◌↔◌, IsTrue}
use Rattle.std.specs.Fmt.{signed_decimal}
use Rattle.std.specs.List.{list_any, range_with_len, zip}
use Rattle.std.specs.Cmp.Lexicographic.{pointwise}
use Rattle.std.proofs.lemmas.Bool.{false≢true}
use Rattle.std.proofs.lemmas.List.{map-id}
use Rattle.std.proofs.lemmas.List.FromFn.{fill_by_all, get_or-range_with_len}
use Rattle.std.proofs.lemmas.Slice.Eq.{bytes_eq-Decides}
use Rattle.sm_agents.specs.Written.{Written}
use Rattle.sm_agents.specs.Sound.{IsInstance}
use Rattle.sm_agents.specs.Nonzero.{is_zero}
use Rattle.sm_instance.specs.Ranks.{HasSeconds}
use Rattle.sm_agents.specs.Named.{SaidWeight}
use Rattle.sm_instance.specs.declared.inputs.Input.TheVariants.{Two}
use Rattle.sm_lists.proofs.OrderLemmas.{each_once_long}
use Rattle.sm_agents.proofs.NonzeroLemmas.{zero_is, any_is}
use Rattle.sm_instance_lines.specs.Names.{said_weight, said_of}
use Rattle.sm_instance_lines.specs.Printed.{second_text, format_of}

-- numbers that hold their places are the first ones
pub counted_is : (numbers : List ℕ) → ((k : ℕ) → k < length numbers → get_or numbers k 0 ≡ k) → pointwise nat_eq numbers (range_with_len 0 (length numbers)) ≡ true
counted_is numbers each =
    (bytes_eq-Decides numbers (range_with_len 0 (length numbers))).1 (fill_by_all (λ k. k) numbers (length numbers) 0 refl each ∙ map-id (range_with_len 0 (length numbers)))

-- and others aren't
pub not_counted : (numbers : List ℕ) (place : ℕ) → place < length numbers → get_or numbers place 0 ≢ place → pointwise nat_eq numbers (range_with_len 0 (length numbers)) ≡ false
not_counted numbers place below differ = by_test (pointwise nat_eq numbers (range_with_len 0 (length numbers))) refl
  where
    by_test : (t : Bool) → pointwise nat_eq numbers (range_with_len 0 (length numbers)) ≡ t → pointwise nat_eq numbers (range_with_len 0 (length numbers)) ≡ false
    by_test true e = absurd (differ (ap (λ xs. get_or xs place 0) ((bytes_eq-Decides numbers (range_with_len 0 (length numbers))).0 e) ∙ get_or-range_with_len 0 (length numbers) place 0 below ∙ (let z : 0 + place ≡ place = omega arith in z)))
    by_test false e = e

-- whether an instance says an order
pub own_order : (w : Written) → IsInstance w → (order : List ℕ) (t : Bool) → order ≡ w.order → t ≡ pointwise nat_eq order (range_with_len 0 (length order)) → not t ≡ is_some (said_of (Two w)).order
own_order w sound order t are is =
    let long : length order ≡ length w.proposers = ap length are ∙ each_once_long sound.order in
    ap not (is ∙ ap (λ n. pointwise nat_eq order (range_with_len 0 n)) long ∙ ap (λ xs. pointwise nat_eq xs (range_with_len 0 (length w.proposers))) are) ∙ some_unless (pointwise nat_eq w.order (range_with_len 0 (length w.proposers))) _
  where
    some_unless : {X : Type 0} (t : Bool) (x : X) → not t ≡ is_some (cond t None (Some x))
    some_unless true x = refl
    some_unless false x = refl

-- the text of a second weight that isn't 0
pub second_written : (z : ℤ) → z ≢ pos 0 → codes " " ++ signed_decimal z ≡ second_text z
second_written z isnt = by_test (is_zero z) refl
  where
    by_test : (t : Bool) → is_zero z ≡ t → codes " " ++ signed_decimal z ≡ cond t [] (codes " " ++ signed_decimal z)
    by_test true e = absurd (isnt (zero_is z e))
    by_test false e = refl

-- a second weight that isn't 0 is said
module _ (w : Written) where
  abbrev has_second : SaidWeight → Bool
  has_second x = not (is_zero x.second)

  seconds_said : (xs : List (ℕ × ℕ × ℤ)) (zs : List ℤ) → length zs ≡ length xs → list_any has_second (map (said_weight w.proposers w.reviewers) (zip xs zs)) ≡ list_any (λ z. not (is_zero z)) zs
  seconds_said [] [] long = refl
  seconds_said [] (z ∷ zs) long = absurd (omega arith)
  seconds_said (x ∷ xs) [] long = absurd (omega arith)
  seconds_said (x ∷ xs) (z ∷ zs) long = ap (λ t. not (is_zero z) || t) (seconds_said xs zs (omega arith))

  -- by the test of the second weights themselves
  pub second_weights_said : length w.seconds ≡ length w.weights → list_any (λ (x : SaidWeight). not (is_zero x.second)) (said_of (Two w)).weights ≡ list_any (λ z. not (is_zero z)) w.seconds
  second_weights_said each = seconds_said w.weights w.seconds each

  -- the format of an instance with an order of its own
  pub ordered_format : true ≡ is_some (said_of (Two w)).order → 2 ≡ format_of (said_of (Two w))
  ordered_format own = ap (λ t. cond (t || list_any has_second (said_of (Two w)).weights) 2 1) own

  -- the format of any other, by whether it has second weights
  pub format_is : IsInstance w → (own seconds : Bool) → own ≡ is_some (said_of (Two w)).order → (IsTrue seconds ↔ HasSeconds w) → cond (own || seconds) 2 1 ≡ format_of (said_of (Two w))
  format_is sound own seconds is iff =
      ap (λ s. cond (own || s) 2 1) (any_is w.seconds seconds iff ∙ sym (second_weights_said sound.seconds_each))
      ∙ ap (λ t. cond (t || list_any has_second (said_of (Two w)).weights) 2 1) is
