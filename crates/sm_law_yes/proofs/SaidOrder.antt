-- What lines say, where two neighbours with one keyword are exchanged.
use Rattle.std.proofs.Common.{◌≡◌, ℕ, ◌&&◌, refl, sym, ap, ◌∙◌, not, Bool, true, false, List, [], ◌∷◌, ◌++◌, Option, Some, None, subst}
use Rattle.std.specs.Prelude.{IfSome, filter_map}
use Rattle.std.specs.List.{list_all}
use Rattle.std.specs.Option.{is_some}
use Rattle.std.proofs.lemmas.Bool.{false≢true}
use Rattle.std.proofs.lemmas.List.Folds.{list_all-append}
use Rattle.std.proofs.lemmas.List.Elements.{filter_map-append}
use Rattle.sm_lists.proofs.BoolLemmas.{first_true, second_true}
use Rattle.sm_agents.specs.Written.{Written}
use Rattle.sm_market.specs.Lists.{Lists}
use Rattle.sm_report.specs.Lines.{LineData}
use Rattle.sm_report.specs.declared.keywords.Keyword.{Keyword}
use Rattle.sm_report.specs.Keywords.{keyword_of}
use Rattle.sm_check_forms.specs.Keywords.{is_same}
use Rattle.sm_holding.specs.Held.{CanFollow}
use Rattle.sm_check_clauses.specs.Pairs.{IsWanted}
use Rattle.sm_check_clauses.specs.SeatMatchings.{IsFreeSeat}
use Rattle.sm_check_clauses.specs.Said.{IsFirstBehind, IsEnd}
use Rattle.sm_check_clauses.proofs.AnswerLemmas.{said_same, said_one}
use Rattle.sm_law_yes.specs.Reordered.{is_free}
use Rattle.sm_law_yes.proofs.SamePairs.{AreSamePairs, same_pairs, same_more, same_exchanged, free_apart, free_first, free_second, free_seat_apart, free_seat_first, free_seat_second, wanted_apart, wanted_first, wanted_second}

-- whether some said thing has a property, by one that follows of it
pub if_said : {X : Type 0} {P Q : X → Type 0} (o : Option X) → ((x : X) → P x → Q x) → IfSome o P → IfSome o Q
if_said None f h = tt
if_said (Some x) f h = f x h

-- a free line isn't the closing one
pub not_closing : (x : LineData) → is_free (keyword_of x) ≡ true → {P : Type 0} → IsEnd x → P
not_closing LineData.End f e = absurd (false≢true f)
not_closing _ f e = absurd (false≢true e)

-- What neither line says.
module _ {X : Type 0} (said : LineData → Option X) (above : List LineData) (x y : LineData) (none : said x ≡ None) (other : said y ≡ None) where
  -- is said as before with the two exchanged
  pub unsaid : filter_map said ((above ++ x ∷ []) ++ y ∷ []) ≡ filter_map said ((above ++ y ∷ []) ++ x ∷ [])
  unsaid = said_same said (above ++ x ∷ []) y other ∙ said_same said above x none ∙ sym (said_same said (above ++ y ∷ []) x none ∙ said_same said above y other)

-- one more line behind those that say the same
pub unsaid_more : {X : Type 0} (said : LineData → Option X) (a b : List LineData) (z : LineData) → filter_map said a ≡ filter_map said b → filter_map said (a ++ z ∷ []) ≡ filter_map said (b ++ z ∷ [])
unsaid_more {X} said a b z e = filter_map-append said a (z ∷ []) ∙ ap (λ (xs : List X). xs ++ filter_map said (z ∷ [])) e ∙ sym (filter_map-append said b (z ∷ []))

-- Things that they say.

-- of two things that may stand one behind the other in one order both may in the other, and what is read of them is the same
pub record AreFreely {X : Type 0} (Free : List X → X → Type 0) (IsSame : List X → List X → Type 0) : Type 0 where
  pub still : (xs : List X) → IsSame xs xs
  pub first : (xs : List X) (a b : X) → Free xs a → Free (xs ++ a ∷ []) b → Free xs b
  pub second : (xs : List X) (a b : X) → Free xs a → Free (xs ++ a ∷ []) b → Free (xs ++ b ∷ []) a
  pub same : (xs : List X) (a b : X) → Free xs a → Free (xs ++ a ∷ []) b → IsSame ((xs ++ a ∷ []) ++ b ∷ []) ((xs ++ b ∷ []) ++ a ∷ [])

-- pairs of an instance
pub freely : (w : Written) → AreFreely (CanFollow w) AreSamePairs
freely w = record {
  still = λ xs. same_pairs xs xs refl;
  first = λ xs a b f g. free_first xs a b f g;
  second = λ xs a b f g. free_second xs a b f g;
  same = λ xs a b f g. same_exchanged xs a b (free_apart xs a b f g);
}

-- pairs of a market
pub seats_freely : (l : Lists) → AreFreely (IsFreeSeat l) AreSamePairs
seats_freely l = record {
  still = λ xs. same_pairs xs xs refl;
  first = λ xs a b f g. free_seat_first xs a b f g;
  second = λ xs a b f g. free_seat_second xs a b f g;
  same = λ xs a b f g. same_exchanged xs a b (free_seat_apart xs a b f g);
}

-- pairs that are wanted
pub wanted_freely : (w : Written) (wanted : List (Option ℕ)) → AreFreely (IsWanted w wanted) AreSamePairs
wanted_freely w wanted = record {
  still = λ xs. same_pairs xs xs refl;
  first = λ xs a b f g. wanted_first xs a b f g;
  second = λ xs a b f g. wanted_second xs a b f g;
  same = λ xs a b f g. same_exchanged xs a b (wanted_apart xs a b f g);
}

-- with one more line
pub pairs_more : (said : LineData → Option (ℕ × ℕ)) (a b : List LineData) (z : LineData) → AreSamePairs (filter_map said a) (filter_map said b) → AreSamePairs (filter_map said (a ++ z ∷ [])) (filter_map said (b ++ z ∷ []))
pairs_more said a b z s =
    subst (λ (xs : List (ℕ × ℕ)). AreSamePairs xs (filter_map said (b ++ z ∷ []))) (sym (filter_map-append said a (z ∷ [])))
    (subst (AreSamePairs (filter_map said a ++ filter_map said (z ∷ []))) (sym (filter_map-append said b (z ∷ []))) (same_more s (filter_map said (z ∷ []))))

module _ {X : Type 0} (said : LineData → Option X) where
  -- each of two lines may say its thing where the other one did
  pub record IsExchanged (Free : List X → X → Type 0) (IsSame : List X → List X → Type 0) (above : List LineData) (x y : LineData) : Type 0 where
    pub first : IfSome (said y) (Free (filter_map said above))
    pub second : IfSome (said x) (Free (filter_map said (above ++ y ∷ [])))
    pub alike : IsSame (filter_map said ((above ++ x ∷ []) ++ y ∷ [])) (filter_map said ((above ++ y ∷ []) ++ x ∷ []))

  -- two lines of which both say a thing or neither does
  pub exchanged_said : {Free : List X → X → Type 0} {IsSame : List X → List X → Type 0} → AreFreely Free IsSame → (above : List LineData) (x y : LineData) → is_some (said x) ≡ is_some (said y)
      → IfSome (said x) (Free (filter_map said above)) → IfSome (said y) (Free (filter_map said (above ++ x ∷ []))) → IsExchanged Free IsSame above x y
  exchanged_said {Free} {IsSame} fr above x y same f g = go (said x) (said y) refl refl f g
    where
      go : (o p : Option X) → said x ≡ o → said y ≡ p → IfSome o (Free (filter_map said above)) → IfSome p (Free (filter_map said (above ++ x ∷ []))) → IsExchanged Free IsSame above x y
      go None None ex ey f g = record {
        first = subst (λ o. IfSome o (Free (filter_map said above))) (sym ey) tt;
        second = subst (λ o. IfSome o (Free (filter_map said (above ++ y ∷ [])))) (sym ex) tt;
        alike = subst (IsSame (filter_map said ((above ++ x ∷ []) ++ y ∷ []))) (unsaid said above x y ex ey) (fr.still (filter_map said ((above ++ x ∷ []) ++ y ∷ [])));
      }
      go (Some a) (Some b) ex ey f g =
          let xs = filter_map said above in
          let after = subst (λ (zs : List X). Free zs b) (said_one said above x a ex) g in
          record {
            first = subst (λ o. IfSome o (Free xs)) (sym ey) (fr.first xs a b f after);
            second = subst (λ o. IfSome o (Free (filter_map said (above ++ y ∷ [])))) (sym ex) (subst (λ (zs : List X). Free zs a) (sym (said_one said above y b ey)) (fr.second xs a b f after));
            alike = subst (λ (zs : List X). IsSame zs (filter_map said ((above ++ y ∷ []) ++ x ∷ []))) (sym (said_one said (above ++ x ∷ []) y b ey ∙ ap (λ (zs : List X). zs ++ b ∷ []) (said_one said above x a ex)))
                (subst (IsSame ((xs ++ a ∷ []) ++ b ∷ [])) (sym (said_one said (above ++ y ∷ []) x a ex ∙ ap (λ (zs : List X). zs ++ a ∷ []) (said_one said above y b ey)))
                (fr.same xs a b f after));
          }
      go None (Some b) ex ey f g = absurd (false≢true (sym (ap is_some ex) ∙ same ∙ ap is_some ey))
      go (Some a) None ex ey f g = absurd (false≢true (sym (ap is_some ey) ∙ sym same ∙ ap is_some ex))

-- both lines with one keyword say such a thing, or neither does
pub alike_said : {X : Type 0} (said : LineData → Option X) (word : Keyword) → ((x : LineData) → is_some (said x) ≡ is_same (keyword_of x) word) → (x y : LineData) → keyword_of x ≡ keyword_of y → is_some (said x) ≡ is_some (said y)
alike_said said word has x y e = has x ∙ ap (λ k. is_same k word) e ∙ sym (has y)

-- Lines up to somewhere.

swapped_tests : (p s t : Bool) → ((p && (s && true)) && (t && true)) ≡ ((p && (t && true)) && (s && true))
swapped_tests false s t = refl
swapped_tests true false false = refl
swapped_tests true false true = refl
swapped_tests true true false = refl
swapped_tests true true true = refl

module _ (up : LineData → Bool) where
  passes : (xs : List LineData) (z : LineData) → list_all up (xs ++ z ∷ []) ≡ (list_all up xs && (up z && true))
  passes xs z = list_all-append up xs (z ∷ [])

  -- one more line
  pub up_more : (a b : List LineData) (z : LineData) → list_all up a ≡ list_all up b → list_all up (a ++ z ∷ []) ≡ list_all up (b ++ z ∷ [])
  up_more a b z e = passes a z ∙ ap (λ t. t && (up z && true)) e ∙ sym (passes b z)

  -- two in either order
  pub up_exchanged : (above : List LineData) (x y : LineData) → list_all up ((above ++ x ∷ []) ++ y ∷ []) ≡ list_all up ((above ++ y ∷ []) ++ x ∷ [])
  up_exchanged above x y =
      passes (above ++ x ∷ []) y ∙ ap (λ t. t && (up y && true)) (passes above x) ∙ swapped_tests (list_all up above) (up x) (up y)
      ∙ sym (passes (above ++ y ∷ []) x ∙ ap (λ t. t && (up x && true)) (passes above y))

  -- the first line behind those that are up to somewhere
  pub behind_same : (a b : List LineData) (z : LineData) → list_all up a ≡ list_all up b → IsFirstBehind up b z → IsFirstBehind up a z
  behind_same a b z e h = record { all_above = e ∙ h.all_above; behind = h.behind }

  module _ (above : List LineData) (x y : LineData) (same : up x ≡ up y) where
    -- the second line would be it where the first is
    pub behind_first : IsFirstBehind up above y → IsFirstBehind up above x
    behind_first h = record { all_above = h.all_above; behind = ap not same ∙ h.behind }

    -- and the first isn't it behind the second
    pub behind_second : {P : Type 0} → IsFirstBehind up (above ++ y ∷ []) x → P
    behind_second h =
        let there = second_true (list_all up above) (up y && true) (sym (passes above y) ∙ h.all_above) in
        absurd (false≢true (ap not (sym (same ∙ first_true (up y) true there)) ∙ h.behind))
