-- Whom a reviewer has, as it is read.
use Rattle.std.proofs.Common.{◌≡◌, ℕ, ◌<◌, arith, refl, sym, ap, ◌∙◌, length, Option, None, Some, IsSome, MatchOption}
use Rattle.std.specs.Option.{option_map}
use Rattle.sm_market.specs.Lists.{Lists, entry, place_of}
use Rattle.sm_market.specs.Matching.{Places, held}
use Rattle.sm_market.specs.Pairing.{Paired, IsPairingOf}
use Rattle.sm_market.proofs.PairingLemmas.{held_in_range}

-- r is matched, and q has it
pub record HasHolder (l : Lists) (m : Places) (r q : ℕ) : Type 0 where
  pub matched : IsSome (held m.reviewers r)
  pub has : held m.proposers q ≡ Some (place_of l.proposers q r)

module _ {l : Lists} {m : Paired} (made : IsPairingOf l m) where
  some_is : {x y : ℕ} → Some x ≡ Some y → x ≡ y
  some_is e = cc

  none_is : {x : ℕ} → ◌≡◌ {A = Option ℕ} None (Some x) → ⊥
  none_is e = grind arith

  -- a reviewer without a holder is unmatched
  pub holder_none : (r : ℕ) → held m.holders r ≡ None → held m.places.reviewers r ≡ None
  holder_none r e = go (held m.places.reviewers r) refl
    where
      go : (o : Option ℕ) → held m.places.reviewers r ≡ o → held m.places.reviewers r ≡ None
      go None is = is
      go (Some k) is = absurd (none_is (sym e ∙ made.names r ∙ ap (option_map (entry l.reviewers r)) is))

  -- the holder of a reviewer holds it
  pub holder_some : (r q : ℕ) → held m.holders r ≡ Some q → HasHolder l m.places r q
  holder_some r q e = go (held m.places.reviewers r) refl
    where
      go : (o : Option ℕ) → held m.places.reviewers r ≡ o → HasHolder l m.places r q
      go None is = absurd (none_is (sym (ap (option_map (entry l.reviewers r)) is) ∙ sym (made.names r) ∙ e))
      go (Some k) is =
          let same : q ≡ entry l.reviewers r k = some_is (sym e ∙ made.names r ∙ ap (option_map (entry l.reviewers r)) is) in
          record { matched = rw is refl; has = rw same (made.matching.reviewers.in_turn r k is) }

  -- a holder is one of the proposers
  pub next_in_range : (r : ℕ) (o : Option ℕ) → held m.holders r ≡ o → MatchOption o (Unit {0}) (λ q. q < length l.proposers)
  next_in_range r None is = tt
  next_in_range r (Some q) is = let v = holder_some r q is in held_in_range made.matching.proposers q (place_of l.proposers q r) v.has
