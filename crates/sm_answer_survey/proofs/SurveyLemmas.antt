-- A survey that is under way, and how it ends.
use Rattle.std.proofs.Common.{◌≡◌, ℕ, ◌+◌, ◌<◌, ◌≤◌, List, [], ◌∷◌, ◌++◌, false, Option, Some, None, MatchOption, length, slice_index, refl, sym, ap, ◌∙◌, subst, arith}
use Rattle.std.proofs.lemmas.List.{map-append, length-append, length-map}
use Rattle.std.proofs.lemmas.List.Elements.{All-append, All-cons}
use Rattle.sm_tally.specs.Fold.{Feed, Shown, all_after_feeds}
use Rattle.sm_tally.proofs.Folds.{nothing_fed, one_more_fed}
use Rattle.sm_agents.specs.Written.{Written}
use Rattle.sm_lists.specs.Orders.{AreAlikeBelow}
use Rattle.sm_lister.specs.Listers.{Lister, IsNextOf, IsAtEnd, IsSameLister, IsChangedFrom}
use Rattle.sm_answer_list.specs.Started.{cursor_in, IsListerOf}
use Rattle.sm_answer_list.specs.Underway.{AreListedSoFar}
use Rattle.sm_answer_list.proofs.UnderwayLemmas.{none_so_far, one_more_so_far, stays_so_far, stays_at_end, whole_listing, cut_listing}
use Rattle.sm_answer_survey.specs.SurveyAnswer.{IsFeedOf, vectors_of}
use Rattle.sm_answer_survey.specs.Surveying.{IsFed, IsUnderway, AreTold, IsLastVector}
use Rattle.sm_answer_survey.specs.Surveys.{IsSurvey, last_vector}
use Rattle.sm_answer_survey.specs.declared.survey.Survey.{Survey}

-- nothing is told yet
pub begun : {w : Written} {s : Lister} (tallies : List Shown) → IsListerOf w None s → IsUnderway w s 0 tallies tallies
begun {w} {s} tallies h = record {
  feeds = [];
  vectors = none_so_far h;
  each = λ k d l. absurd (omega arith);
  fed = sym (nothing_fed tallies);
  count = refl;
}

-- one more matching is told
pub fed_more : {w : Written} {s t : Lister} {k : ℕ} {before after then : List Shown} (v : List ℕ) → IsUnderway w s k before after → IsSameLister s t
    → (u : List ℕ) × (t.cursor ≡ Some u) × IsNextOf s u → t.cursor ≡ Some v → IsFed w v after then → IsUnderway w t (k + 1) before then
fed_more {w} {s} {t} {k} {before} {after} {then} v h same found at fed =
    let vs : vectors_of (h.feeds ++ fed.feed ∷ []) ≡ vectors_of h.feeds ++ v ∷ [] = map-append (λ (feed : Feed). feed.vector) h.feeds (fed.feed ∷ []) ∙ ap (λ x. vectors_of h.feeds ++ x ∷ []) fed.vector in
    let long = length-append h.feeds (fed.feed ∷ []) in
    record {
      feeds = h.feeds ++ fed.feed ∷ [];
      vectors = subst (AreListedSoFar w t) (sym vs) (one_more_so_far v h.vectors same found at);
      each = All-append (IsFeedOf w) h.feeds (fed.feed ∷ []) h.each (All-cons (IsFeedOf w) fed.feed [] fed.is (λ k d l. absurd (omega arith)));
      fed = fed.fed ∙ ap (λ tallies. all_after_feeds (fed.feed ∷ []) tallies) h.fed ∙ sym (one_more_fed h.feeds fed.feed before);
      count = omega (arith, long, h.count);
    }

-- what is kept of the vector of the cursor is the same below the proposer from which on the next one differs
pub alike_kept : (cursor : Option (List ℕ)) {from first : ℕ} (ranks v : List ℕ) → first ≡ from → IsChangedFrom from cursor v → MatchOption cursor (Unit {0}) (λ u. ranks ≡ u) → AreAlikeBelow first ranks v
alike_kept None ranks v is changed last = λ p less. absurd (omega (arith, less, is, changed))
alike_kept (Some u) ranks v is changed last = λ p less. ap (λ ranks. slice_index ranks p) last ∙ changed p (omega (arith, less, is))

-- a lister at its end stays there
pub told_all : {w : Written} {s t : Lister} {k : ℕ} {before after : List Shown} (limit : ℕ) → IsUnderway w s k before after → k ≤ limit → IsSameLister s t
    → IsAtEnd s × (t.cursor ≡ s.cursor) → AreTold w limit t k before after
told_all {w} {s} {t} {k} limit h within same end = record {
  underway = record { feeds = h.feeds; vectors = stays_so_far h.vectors same end.1; each = h.each; fed = h.fed; count = h.count };
  within = within;
  all = λ less. stays_at_end same end.1 end.0;
}

vectors_long : (feeds : List Feed) → length (vectors_of feeds) ≡ length feeds
vectors_long feeds = length-map feeds (λ (feed : Feed). feed.vector)

-- the lister is at its end
pub ended : {w : Written} {s : Lister} {k : ℕ} {before after : List Shown} (limit : ℕ) (survey : Survey) → AreTold w limit s k before after → k < limit
    → survey.listed ≡ k → survey.last ≡ None → IsSurvey w limit before after survey
ended {w} {s} {k} limit survey told less listed last =
    let h = told.underway in
    record {
      feeds = h.feeds;
      more = false;
      surveyed = record { listing = whole_listing limit h.vectors (omega (arith, vectors_long h.feeds, h.count, told.within)) (told.all less); each = h.each };
      fed = h.fed;
      listed = listed ∙ h.count;
      last = ap cursor_in last;
    }

-- as many are listed as are wanted
pub limited : {w : Written} {s : Lister} {k : ℕ} {before after : List Shown} (limit : ℕ) (survey : Survey) → AreTold w limit s k before after → limit ≤ k
    → survey.listed ≡ k → IsLastVector s survey.last → IsSurvey w limit before after survey
limited {w} {s} {k} limit survey told full listed l =
    let h = told.underway in
    record {
      feeds = h.feeds;
      more = l.more;
      surveyed = record { listing = cut_listing limit l.more h.vectors (omega (arith, vectors_long h.feeds, h.count, told.within, full)) l.listing; each = h.each };
      fed = h.fed;
      listed = listed ∙ h.count;
      last = l.is ∙ ap (λ c. last_vector c l.more) h.vectors.cursor;
    }
