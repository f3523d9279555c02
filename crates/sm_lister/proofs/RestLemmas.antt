-- The items of an iterator over a lister are a listing.
use Rattle.std.proofs.Common.{◌≡◌, ℕ, suc, inl, inr, arith, sym, ap, ◌∙◌, subst, Bool, true, false, List, [], ◌∷◌, Option, Some, unwrap_or}
use Rattle.sm_theory.specs.Vectors.{IsBefore, IsAllowedVector}
use Rattle.sm_theory.specs.Listings.{IsNextListed, IsListing}
use Rattle.sm_theory.proofs.Vectors.Order.{irreflexive, transitive}
use Rattle.sm_theory.proofs.Vectors.Listings.{more_listing, none_listed}
use Rattle.sm_lister.specs.Listers.{Lister, IsListed, IsSameLister, ComesFrom}
use Rattle.sm_lister.specs.Rests.{IsListingOf, RestFrom, ListingGives}

-- the same is listed where the poset, the levels, the conditions and the order are the same
pub same_lists : {s t : Lister} {c : Option (List ℕ)} {n : ℕ} {out : List (List ℕ)} {more : Bool} → IsSameLister s t → IsListingOf t c n out more → IsListingOf s c n out more
same_lists {s} {t} {c} {n} {out} {more} e w =
    subst (λ x. IsListing (IsBefore x) (IsAllowedVector s.poset.lists s.levels s.forced s.forbidden) c n out more) e.order
    (subst (λ x. IsListing (IsBefore t.order) (IsAllowedVector x.lists s.levels s.forced s.forbidden) c n out more) e.poset
    (subst (λ x. IsListing (IsBefore t.order) (IsAllowedVector t.poset.lists x s.forced s.forbidden) c n out more) e.levels
    (subst (λ x. IsListing (IsBefore t.order) (IsAllowedVector t.poset.lists t.levels x s.forbidden) c n out more) e.forced
    (subst (λ x. IsListing (IsBefore t.order) (IsAllowedVector t.poset.lists t.levels t.forced x) c n out more) e.forbidden w))))

same_next : {s t : Lister} {c : Option (List ℕ)} {v : List ℕ} → IsSameLister s t → IsNextListed (IsBefore s.order) (IsListed s) c v → IsNextListed (IsBefore t.order) (IsListed t) c v
same_next {s} {t} {c} {v} e w =
    subst (λ x. IsNextListed (IsBefore x) (IsAllowedVector t.poset.lists t.levels t.forced t.forbidden) c v) (sym e.order)
    (subst (λ x. IsNextListed (IsBefore s.order) (IsAllowedVector x.lists t.levels t.forced t.forbidden) c v) (sym e.poset)
    (subst (λ x. IsNextListed (IsBefore s.order) (IsAllowedVector s.poset.lists x t.forced t.forbidden) c v) (sym e.levels)
    (subst (λ x. IsNextListed (IsBefore s.order) (IsAllowedVector s.poset.lists s.levels x t.forbidden) c v) (sym e.forced)
    (subst (λ x. IsNextListed (IsBefore s.order) (IsAllowedVector s.poset.lists s.levels s.forced x) c v) (sym e.forbidden) w))))

one_cursor : {c : Option (List ℕ)} {u v : List ℕ} → c ≡ Some u → c ≡ Some v → u ≡ v
one_cursor e f = ap (λ o. unwrap_or o []) (sym e ∙ f)

-- an item comes first
item_first : (w : Bool) (s : Lister) {n : ℕ} {v : List ℕ} {out : List (List ℕ)} {more : Bool} → ComesFrom w s v → IsListingOf s (Some v) n out more → RestFrom w s (suc n) (v ∷ out) more
item_first false s next rest = more_listing (irreflexive s.order) (transitive s.order) next rest
item_first true s {n} {v} is rest = λ c u e next. more_listing (irreflexive s.order) (transitive s.order) (subst (λ x. IsNextListed (IsBefore s.order) (IsListed s) c x) (one_cursor e is) next) rest

-- what is left behind it
rest_behind : (w : Bool) (s t : Lister) {n : ℕ} {v : List ℕ} {out : List (List ℕ)} {more : Bool} → w ≡ false → t.cursor ≡ Some v → IsSameLister s t → RestFrom w t n out more → IsListingOf s (Some v) n out more
rest_behind w s t {n} {v} {out} {more} waits at e rest = same_lists e (subst (λ c. IsListingOf t c n out more) at (subst (λ w. RestFrom w t n out more) waits rest))

-- a refusal takes nothing away
none_lost : (w : Bool) (s t : Lister) {n : ℕ} {v : List ℕ} {out : List (List ℕ)} {more : Bool} → ComesFrom w s v → t.cursor ≡ Some v → IsSameLister s t → RestFrom true t n out more → RestFrom w s n out more
none_lost false s t {n} {v} next at e rest = same_lists e (rest s.cursor v at (same_next e next))
none_lost true s t {n} {v} is at e rest = λ c u f next. same_lists e (rest c v at (same_next e (subst (λ x. IsNextListed (IsBefore s.order) (IsListed s) c x) (one_cursor f is) next)))

-- each item of the iterator is the first of what was left
pub listing_gives : ListingGives
listing_gives s t limit out more = (
  (λ v g rest. item_first s.waits s.lister g.1 (rest_behind t.waits s.lister t.lister g.2 g.3 g.4 rest)),
  (λ x g rest.
      let at : t.lister.cursor ≡ Some g.1.0 = subst (λ w. ComesFrom w t.lister g.1.0) g.2 g.1.1 in
      none_lost s.waits s.lister t.lister g.1.2 at g.3 (subst (λ w. RestFrom w t.lister limit out more) g.2 rest)),
  (λ g some. elim g.0 [
    | inl none ↦ absurd (omega arith)
    | inr w ↦ subst (λ w. RestFrom w s.lister limit [] false) (sym w.0) (none_listed (irreflexive s.lister.order) (transitive s.lister.order) w.1)
  ]),
)
