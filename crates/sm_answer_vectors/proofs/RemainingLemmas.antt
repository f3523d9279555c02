-- The lines that are left of a listing of vectors.
use Rattle.std.proofs.Common.{◌≡◌, ℕ, suc, ◌+◌, List, [], ◌∷◌, Bool, true, false, Option, Some, None, unwrap_or, refl, sym, ap, ◌∙◌, subst, arith}
use Rattle.std.proofs.lemmas.Bool.{false≢true}
use Rattle.sm_lists.specs.Orders.{IsBefore}
use Rattle.sm_answer.specs.Giving.{HasRest, Gave}
use Rattle.sm_report.specs.Lines.{LineData}
use Rattle.sm_theory.specs.Listings.{IsNextListed, IsListing}
use Rattle.sm_theory.proofs.Vectors.Order.{irreflexive, transitive}
use Rattle.sm_theory.proofs.Vectors.Listings.{first_is_next, rest_is_listing, more_listing, none_listed, none_wanted, Next-unique}
use Rattle.sm_answer_vectors.specs.VectorAnswer.{last_line, vector_lines}
use Rattle.sm_answer_vectors.specs.Stepping.{AreSameVectors, HasStepped, IsLast}
use Rattle.sm_answer_vectors.specs.Remaining.{IsListedRest, IsLeftOf, IsLastLine, most_lines}

-- it is the same both ways
same_back : {o p : List ℕ} {P Q : List ℕ → Type 0} → AreSameVectors o p P Q → AreSameVectors p o Q P
same_back h = record { same_order = sym h.same_order; vectors = λ v. ((h.vectors v).1, (h.vectors v).0) }

-- a listing of the same vectors in the same order
same_listing : {o p : List ℕ} {P Q : List ℕ → Type 0} {c : Option (List ℕ)} {n : ℕ} {out : List (List ℕ)} {more : Bool} → AreSameVectors o p P Q
    → IsListing (IsBefore p) Q c n out more → IsListing (IsBefore o) P c n out more
same_listing {o} {p} {P} {Q} {c} {n} {out} {more} h x = subst (λ r. IsListing (IsBefore r) P c n out more) h.same_order (record {
  begins = x.begins;
  rises = x.rises;
  sound = λ k l. (h.vectors _).0 (x.sound k l);
  whole = λ v one b. x.whole v ((h.vectors v).1 one) b;
  limited = x.limited;
  ended = (λ e v one b. x.ended.0 e v ((h.vectors v).1 one) b, λ none. x.ended.1 (λ v one b. none v ((h.vectors v).0 one) b));
  cut = x.cut;
})

-- no more vectors are there, and the end is said
ended : (cursor : Option (List ℕ)) → last_line cursor false ≡ LineData.End
ended None = refl
ended (Some v) = refl

-- the last line is given
pub last_given : (o p : List ℕ) (P Q : List ℕ → Type 0) (c e : Option (List ℕ)) (over : Bool) (n k : ℕ) (line : LineData) → over ≡ false → n ≡ 0 → IsLastLine o P c line
    → Gave line (IsLeftOf over o P c n) (IsLeftOf true p Q e k) (most_lines over n) 0
last_given o p P Q c e true n k line going zero l = absurd (false≢true (sym going))
last_given o p P Q c e false n k line going zero l = record {
  first = λ rest none. record {
    out = [];
    more = l.more;
    listing = subst (λ i. IsListing (IsBefore o) P c i [] l.more) (sym zero) l.listing;
    shows = ap (λ x. line ∷ x) none ∙ ap (λ x. x ∷ []) l.is;
  };
  more = record { lines = []; given = refl };
  fewer = omega arith;
}

-- where no vector is behind the cursor, the closing line is given
pub end_given : (o p : List ℕ) (P Q : List ℕ → Type 0) (c e : Option (List ℕ)) (over : Bool) (n k : ℕ) → over ≡ false → IsLast o P c
    → Gave LineData.End (IsLeftOf over o P c n) (IsLeftOf true p Q e k) (most_lines over n) 0
end_given o p P Q c e true n k going end = absurd (false≢true (sym going))
end_given o p P Q c e false n k going end = record {
  first = λ rest none. record {
    out = [];
    more = false;
    listing = none_listed (irreflexive o) (transitive o) end;
    shows = ap (λ x. LineData.End ∷ x) none ∙ ap (λ x. x ∷ []) (sym (ended c));
  };
  more = record { lines = []; given = refl };
  fewer = omega arith;
}

-- what is left behind the next vector
behind_next : (o p : List ℕ) (P Q : List ℕ → Type 0) (c e : Option (List ℕ)) {n : ℕ} {v : List ℕ} (m : ℕ) (out : List (List ℕ)) (more : Bool) → n ≡ m + 1 → AreSameVectors o p P Q
    → IsNextListed (IsBefore o) P c v → e ≡ Some v → IsListing (IsBefore o) P c n out more → HasRest (IsListedRest p Q e m)
behind_next o p P Q c e m [] true count h next at x = absurd (let full = x.cut refl in omega arith)
behind_next o p P Q c e {n} {v} m [] false count h next at x = absurd (x.ended.0 refl v next.one next.behind)
behind_next o p P Q c e {n} {v} m (u ∷ us) more count h next at x =
    let up : n ≡ suc m = omega arith in
    let y : IsListing (IsBefore o) P c (suc m) (u ∷ us) more = subst (λ k. IsListing (IsBefore o) P c k (u ∷ us) more) up x in
    let same : u ≡ v = Next-unique (irreflexive o) (transitive o) (first_is_next (irreflexive o) (transitive o) y) next in
    let rest : IsListing (IsBefore o) P (Some v) m us more = subst (λ w. IsListing (IsBefore o) P (Some w) m us more) same (rest_is_listing (irreflexive o) (transitive o) y) in
    record { lines = vector_lines e us more; given = record { out = us; more = more; listing = subst (λ d. IsListing (IsBefore p) Q d m us more) (sym at) (same_listing (same_back h) rest); shows = refl } }

-- the next vector is given
pub vector_given : (o p : List ℕ) (P Q : List ℕ → Type 0) (c e : Option (List ℕ)) (over : Bool) (n m : ℕ) (v : List ℕ) → over ≡ false → n ≡ m + 1 → AreSameVectors o p P Q
    → IsNextListed (IsBefore o) P c v → e ≡ Some v → HasRest (IsLeftOf over o P c n)
    → Gave (LineData.Vector v) (IsLeftOf over o P c n) (IsLeftOf over p Q e m) (most_lines over n) (most_lines over m)
vector_given o p P Q c e true n m v going count h next at some = absurd (false≢true (sym going))
vector_given o p P Q c e false n m v going count h next at some =
    let up : suc m ≡ n = omega arith in
    record {
      first = λ rest r. record {
        out = v ∷ r.out;
        more = r.more;
        listing = subst (λ k. IsListing (IsBefore o) P c k (v ∷ r.out) r.more) up (more_listing (irreflexive o) (transitive o) next (same_listing h (subst (λ d. IsListing (IsBefore p) Q d m r.out r.more) at r.listing)));
        shows = ap (λ x. LineData.Vector v ∷ x) (r.shows ∙ ap (λ d. vector_lines d r.out r.more) at);
      };
      more = behind_next o p P Q c e m some.given.out some.given.more count h next at some.given.listing;
      fewer = omega arith;
    }

-- the vector at the cursor is the one that was reached
pub reached_next : {o : List ℕ} {P : List ℕ → Type 0} {c e : Option (List ℕ)} {v : List ℕ} → HasStepped o P c e → e ≡ Some v → IsNextListed (IsBefore o) P c v
reached_next {o} {P} {c} h at = subst (IsNextListed (IsBefore o) P c) (ap (λ r. unwrap_or r []) (sym h.at ∙ at)) h.next

-- behind the last vector that is wanted another one follows
pub more_follows : {o : List ℕ} {P : List ℕ → Type 0} {c e : Option (List ℕ)} (v : List ℕ) (line : LineData) → c ≡ Some v → HasStepped o P c e → line ≡ LineData.More v → IsLastLine o P c line
more_follows {o} v line at h is = record { more = true; listing = none_wanted (irreflexive o) (transitive o) h.vector h.next; is = is ∙ sym (ap (λ d. last_line d true) at) }

-- or none does
pub none_follows : {o : List ℕ} {P : List ℕ → Type 0} (c : Option (List ℕ)) (line : LineData) → IsLast o P c → line ≡ LineData.End → IsLastLine o P c line
none_follows {o} c line end is = record { more = false; listing = none_listed (irreflexive o) (transitive o) end; is = is ∙ sym (ended c) }
