-- The answer of `list` by what a lister gives.
use Rattle.std.proofs.Common.{◌≡◌, ℕ, ◌+◌, ◌≤◌, List, Bool, Option, Some, None, IfSome, length, get_or, refl, sym, ap, ◌∙◌, subst, arith, unwrap_or}
use Rattle.std.specs.List.{All, range_with_len}
use Rattle.std.proofs.lemmas.List.Elements.{All-map}
use Rattle.sm_text.specs.Limits.{most_limit}
use Rattle.sm_answer.specs.Printing.{IsShown}
use Rattle.sm_agents.specs.Written.{Written, row as written_row}
use Rattle.sm_instance.specs.Matching.{held, standing, IsMatching}
use Rattle.sm_instance.specs.Ranks.{order_of}
use Rattle.sm_agents.specs.Sound.{IsInstance}
use Rattle.sm_instance.specs.declared.inputs.Input.{Input}
use Rattle.sm_instance.specs.declared.inputs.Input.TheVariants.{Two}
use Rattle.sm_instance.proofs.AcceptLemmas.{proposer_row_fits}
use Rattle.sm_report.specs.Lines.{LineData}
use Rattle.sm_report.specs.Sound.{IsSmall, IsLineOf}
use Rattle.sm_theory.specs.Vectors.{IsOrder, IsBefore, IsAllowedVector}
use Rattle.sm_theory.specs.Listings.{IsListing}
use Rattle.sm_theory.proofs.Vectors.Next.{next_vector}
use Rattle.sm_seats.specs.Vectors.{IsAllowedRankVector}
use Rattle.sm_seats.specs.Seating.{seating_of, levels_of}
use Rattle.sm_seats.specs.SeatMarket.{seat_market}
use Rattle.sm_seats.specs.Correspondence.{leveled}
use Rattle.sm_seats.proofs.VectorLaws.{listing_written, vector_written}
use Rattle.sm_lister.specs.Listers.{Lister, IsListed, IsSameLister}
use Rattle.sm_lister.specs.Rests.{IsListingOf}
use Rattle.sm_answer_vectors.specs.Stepping.{AreSameVectors, HaveNext}
use Rattle.sm_answer_vectors.proofs.ListLemmas.{list_sound as vectors_sound}
use Rattle.sm_answer_list.specs.ListAnswer.{IsListAnswer, IsVectorAnswer}
use Rattle.sm_answer_list.specs.Started.{IsListerOf}
use Rattle.sm_answer_list.proofs.StartLemmas.{each_once_is_order}

-- What a lister lists.

-- it is the same both ways
pub same_back : {s t : Lister} → IsSameLister s t → IsSameLister t s
same_back e = record { poset = sym e.poset; levels = sym e.levels; forced = sym e.forced; forbidden = sym e.forbidden; order = sym e.order }

-- the same lister lists the same vectors
pub same_one : {s t : Lister} {v : List ℕ} → IsSameLister s t → IsListed t v → IsListed s v
same_one {s} {t} {v} e a =
    subst (λ x. IsAllowedVector x.lists s.levels s.forced s.forbidden v) e.poset
    (subst (λ x. IsAllowedVector t.poset.lists x s.forced s.forbidden v) e.levels
    (subst (λ x. IsAllowedVector t.poset.lists t.levels x s.forbidden v) e.forced
    (subst (λ x. IsAllowedVector t.poset.lists t.levels t.forced x v) e.forbidden a)))

pub same_vectors : {s t : Lister} → IsSameLister s t → AreSameVectors s.order t.order (IsListed s) (IsListed t)
same_vectors e = record { same_order = e.order; vectors = λ v. (same_one e, same_one (same_back e)) }

-- behind each cursor it has a next vector, or none
pub lister_goes_on : {w : Written} {after : Option (List ℕ)} {s : Lister} → IsListerOf w after s → HaveNext s.order (IsListed s)
lister_goes_on {w} {after} {s} h = λ cursor.
    let count : length s.poset.lists.proposers ≡ length w.proposers = ap (λ l. length l.proposers) h.market ∙ h.seating.proposers in
    let order : IsOrder (length s.poset.lists.proposers) s.order = subst (IsOrder (length s.poset.lists.proposers)) (sym h.order) (subst (λ n. IsOrder n (order_of w)) (sym count) (each_once_is_order h.each_once)) in
    next_vector s.poset.lists s.poset.first.places s.poset.rotations s.levels s.forced s.forbidden s.order cursor h.poset.market h.poset.printed.chain order

-- what a lister of the instance lists is a rank vector
pub written_vector : {w : Written} {after : Option (List ℕ)} {s : Lister} {v : List ℕ} → IsListerOf w after s → IsListed s v → IsAllowedRankVector w v
written_vector {w} {after} {s} {v} h a = vector_written h.seating v (rw (h.market, h.levels, h.forced, h.forbidden) at a)

-- what is listed at the seats are the rank vectors of the instance
pub listed_written : {w : Written} {after : Option (List ℕ)} {s : Lister} {n : ℕ} {out : List (List ℕ)} {more : Bool} → IsListerOf w after s → IsListingOf s s.cursor n out more
    → IsListing (IsBefore (order_of w)) (IsAllowedRankVector w) after n out more
listed_written {w} {after} {s} {n} {out} {more} h x =
    let a = subst (λ o. IsListing (IsBefore o) (IsAllowedVector s.poset.lists s.levels s.forced s.forbidden) s.cursor n out more) h.order x in
    let b = subst (λ c. IsListing (IsBefore (order_of w)) (IsAllowedVector s.poset.lists s.levels s.forced s.forbidden) c n out more) h.cursor a in
    let d = subst (λ l. IsListing (IsBefore (order_of w)) (IsAllowedVector l s.levels s.forced s.forbidden) after n out more) h.market b in
    let e = subst (λ l. IsListing (IsBefore (order_of w)) (IsAllowedVector (seat_market w) l s.forced s.forbidden) after n out more) h.levels d in
    let f = subst (λ l. IsListing (IsBefore (order_of w)) (IsAllowedVector (seat_market w) (levels_of (seating_of w)) l s.forbidden) after n out more) h.forced e in
    let g = subst (λ l. IsListing (IsBefore (order_of w)) (IsAllowedVector (seat_market w) (levels_of (seating_of w)) (leveled w w.forced) l) after n out more) h.forbidden f in
    listing_written h.seating g

-- ranks are small
rank_small : {w : Written} (places : List (Option ℕ)) → IsInstance w → IsMatching w places → (p : ℕ) → IsSmall (standing w places p + 1)
rank_small {w} places i m p = by_place (held places p) refl
  where
    by_place : (o : Option ℕ) → held places p ≡ o → IsSmall (unwrap_or o (length (written_row w.proposers p)) + 1)
    by_place None e = let fits = proposer_row_fits i p in omega arith
    by_place (Some k) e = let on = m.assigned.on_lists p k e in let fits = proposer_row_fits i p in omega arith

vector_small : {w : Written} (v : List ℕ) → IsInstance w → IsAllowedRankVector w v → All IsSmall v
vector_small {w} v i a = subst (All IsSmall) (sym a.vector)
    (All-map IsSmall (λ p. standing w a.places p + 1) (range_with_len 0 (length w.proposers)) (λ k d l. rank_small a.places i a.stable.matching (get_or (range_with_len 0 (length w.proposers)) k d)))

-- The answer.

-- what is shown of a lister of the instance is a right answer
pub list_shown : {w : Written} {after : Option (List ℕ)} {s : Lister} (input : Input) (limit : ℕ) → IsListerOf w after s → (lines : List (List ℕ)) → IsShown input (IsVectorAnswer s.order (IsListed s) after limit) lines
    → IsShown input (IsListAnswer after limit w) lines
list_shown {w} {after} {s} input limit h lines x =
    let a = x.is_right in
    let here : IsListingOf s s.cursor limit a.out a.more = subst (λ c. IsListingOf s c limit a.out a.more) (sym h.cursor) a.listing in
    record {
      answer = x.answer;
      is_right = record { cursor = h.fits; listed = record { out = a.out; more = a.more; listing = listed_written h here; shows = a.shows } };
      shows = x.shows;
    }

-- its vectors have numbers of 32 bits
pub lister_small : {w : Written} {after : Option (List ℕ)} {s : Lister} → IsInstance w → IsListerOf w after s → (v : List ℕ) → IsListed s v → All IsSmall v
lister_small i h v one = vector_small v i (written_vector h one)

-- a right answer is of lines of the instance
pub list_sound : {w : Written} {after : Option (List ℕ)} (limit : ℕ) → IsInstance w → IfSome after (All IsSmall) → 1 ≤ limit → limit ≤ most_limit → (answer : List LineData) → IsListAnswer after limit w answer → All (IsLineOf (Two w)) answer
list_sound {w} limit i small least greatest answer a = vectors_sound (Two w) limit (λ v one. vector_small v i one) small least greatest answer a.listed
