-- What an iterator over a lister has still to give, as a listing.
use Rattle.std.specs.Prelude.{◌≡◌, ℕ, suc, ◌<◌, Bool, true, false, List, [], ◌∷◌, Option, None, Some, Ok, Err, Vec}
use Rattle.std.specs.declared.alloc.AllocError.{AllocError}
use Rattle.std.specs.declared.alloc.Global.{Global}
use Rattle.sm_theory.specs.Vectors.{IsBefore}
use Rattle.sm_theory.specs.Listings.{IsNextListed, IsListing}
use Rattle.sm_lister.specs.Listers.{Lister, Listing, IsListed, GivesItem}

-- a listing of what a lister lists
abbrev pub IsListingOf : Lister → Option (List ℕ) → ℕ → List (List ℕ) → Bool → Type 0
IsListingOf s cursor limit out more = IsListing (IsBefore s.order) (IsListed s) cursor limit out more

-- what is left up to a limit: a listing behind the cursor, or from the vector that waits on
abbrev pub RestFrom : Bool → Lister → ℕ → List (List ℕ) → Bool → Type 0
RestFrom false s limit out more = IsListingOf s s.cursor limit out more
RestFrom true s limit out more = (c : Option (List ℕ)) (v : List ℕ) → s.cursor ≡ Some v
    → IsNextListed (IsBefore s.order) (IsListed s) c v → IsListingOf s c limit out more

-- what a listing has left up to a limit
abbrev pub IsRest : Listing → ℕ → List (List ℕ) → Bool → Type 0
IsRest s limit out more = RestFrom s.waits s.lister limit out more

-- an item is the first of what was left, and what is left behind it is the rest; a refusal takes nothing away; and at the end
-- nothing was left, but for a limit that was reached
abbrev pub ListingGives : Type 0
ListingGives = (s t : Listing) (limit : ℕ) (out : List (List ℕ)) (more : Bool)
    → ((v : Vec ℕ Global) → GivesItem s (Some (Ok v)) t → IsRest t limit out more → IsRest s (suc limit) (v.items ∷ out) more)
    × ((e : AllocError) → GivesItem s (Some (Err e)) t → IsRest t limit out more → IsRest s limit out more)
    × (GivesItem s None t → 0 < s.left → IsRest s limit [] false)
