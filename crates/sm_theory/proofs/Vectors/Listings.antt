-- Listings, whatever is in question and however it is compared: each begins with the next one behind its cursor, and goes on
-- as a listing from there.
use Rattle.std.proofs.Common.{◌≡◌, ℕ, zero, suc, ◌+◌, ◌<◌, ◌⊎◌, ◌++◌, inl, inr, arith, refl, sym, subst, List, [], ◌∷◌, length, Option, None, Some, Bool, true, false, slice_index_or}
use Rattle.std.proofs.lemmas.Bool.{false≢true}
use Rattle.sm_theory.specs.Listings.{IsBehind, IsNextListed, IsNoneBehind, end_of, IsListing}

-- a listing up to a limit
pub record Listed (Before : List ℕ → List ℕ → Type 0) (IsOne : List ℕ → Type 0) (cursor : Option (List ℕ)) (limit : ℕ) : Type 0 where
  pub out : List (List ℕ)
  pub more : Bool
  pub is : IsListing Before IsOne cursor limit out more

same_bool : (a b : Bool) → (a ≡ false → b ≡ false) → (b ≡ false → a ≡ false) → a ≡ b
same_bool true true f g = refl
same_bool true false f g = g refl
same_bool false b f g = sym (f refl)

module _ {Before : List ℕ → List ℕ → Type 0} (irr : (v : List ℕ) → Before v v → ⊥) (trans : (u v w : List ℕ) → Before u v → Before v w → Before u w) where
  abbrev Rises : List (List ℕ) → Type 0
  Rises out = (k : ℕ) → k + 1 < length out → Before (slice_index_or out k []) (slice_index_or out (k + 1) [])

  rises_tail : (v : List ℕ) (out : List (List ℕ)) → Rises (v ∷ out) → Rises out
  rises_tail v out r k h =
      let e : suc k + 1 ≡ suc (k + 1) = omega arith in
      subst (λ j. Before (slice_index_or out k []) (slice_index_or (v ∷ out) j [])) e (r (suc k) (omega arith))

  behind_trans : (cursor : Option (List ℕ)) (v w : List ℕ) → IsBehind Before cursor v → Before v w → IsBehind Before cursor w
  behind_trans None v w _ _ = tt
  behind_trans (Some c) v w a b = trans c v w a b

  -- each one of a rising list is behind what comes before the first
  later : (v : List ℕ) (out : List (List ℕ)) → Rises (v ∷ out) → (k : ℕ) → k < length out → Before v (slice_index_or out k [])
  later v [] r k h = absurd (omega arith)
  later v (u ∷ us) r zero h = r 0 (omega arith)
  later v (u ∷ us) r (suc k) h = trans v u _ (r 0 (omega arith)) (later u us (rises_tail v (u ∷ us) r) k (omega arith))

  -- and so is what is behind the end
  past_end : (v : List ℕ) (out : List (List ℕ)) → Rises (v ∷ out) → (w : List ℕ) → IsBehind Before (end_of (Some v) out) w → Before v w
  past_end v [] r w h = h
  past_end v (u ∷ us) r w h = trans v u w (r 0 (omega arith)) (past_end u us (rises_tail v (u ∷ us) r) w h)

  module _ {IsOne : List ℕ → Type 0} where
    -- what a listing begins with is the next one behind its cursor
    pub first_is_next : {cursor : Option (List ℕ)} {limit : ℕ} {v : List ℕ} {out : List (List ℕ)} {more : Bool} → IsListing Before IsOne cursor limit (v ∷ out) more → IsNextListed Before IsOne cursor v
    first_is_next {cursor} {limit} {v} {out} {more} x = record { one = x.sound 0 (omega arith); behind = x.begins (omega arith); least = λ w one b. from w (x.whole w one b) }
      where
        from : (w : List ℕ) → ((k : ℕ) × (k < length (v ∷ out)) × (slice_index_or (v ∷ out) k [] ≡ w)) ⊎ IsBehind Before (end_of cursor (v ∷ out)) w → (v ≡ w) ⊎ Before v w
        from w (inr h) = inr (past_end v out x.rises w h)
        from w (inl a) = at a.0 a.1 a.2
          where
            at : (k : ℕ) → k < length (v ∷ out) → slice_index_or (v ∷ out) k [] ≡ w → (v ≡ w) ⊎ Before v w
            at zero h e = inl e
            at (suc k) h e = inr (subst (Before v) e (later v out x.rises k (omega arith)))

    -- and what is left of it is a listing from there
    pub rest_is_listing : {cursor : Option (List ℕ)} {limit : ℕ} {v : List ℕ} {out : List (List ℕ)} {more : Bool} → IsListing Before IsOne cursor (suc limit) (v ∷ out) more → IsListing Before IsOne (Some v) limit out more
    rest_is_listing {cursor} {limit} {v} {out} {more} x = record {
      begins = λ h. x.rises 0 (omega arith);
      rises = rises_tail v out x.rises;
      sound = λ k h. x.sound (suc k) (omega arith);
      whole = λ w one b. from w b (x.whole w one (behind_trans cursor v w (x.begins (omega arith)) b));
      limited = let a = x.limited in omega arith;
      ended = x.ended;
      cut = λ e. let a = x.cut e in omega arith;
    }
      where
        from : (w : List ℕ) → Before v w → ((k : ℕ) × (k < length (v ∷ out)) × (slice_index_or (v ∷ out) k [] ≡ w)) ⊎ IsBehind Before (end_of cursor (v ∷ out)) w → ((k : ℕ) × (k < length out) × (slice_index_or out k [] ≡ w)) ⊎ IsBehind Before (end_of (Some v) out) w
        from w b (inr h) = inr h
        from w b (inl a) = at a.0 a.1 a.2
          where
            at : (k : ℕ) → k < length (v ∷ out) → slice_index_or (v ∷ out) k [] ≡ w → ((k : ℕ) × (k < length out) × (slice_index_or out k [] ≡ w)) ⊎ IsBehind Before (end_of (Some v) out) w
            at zero h e = absurd (irr v (subst (Before v) (sym e) b))
            at (suc k) h e = inl (k, omega arith, e)

    -- and a listing from the next one on makes one with it
    pub more_listing : {cursor : Option (List ℕ)} {limit : ℕ} {v : List ℕ} {out : List (List ℕ)} {more : Bool} → IsNextListed Before IsOne cursor v → IsListing Before IsOne (Some v) limit out more → IsListing Before IsOne cursor (suc limit) (v ∷ out) more
    more_listing {cursor} {limit} {v} {out} {more} n x = record {
      begins = λ _. n.behind;
      rises = rises;
      sound = sound;
      whole = λ w one b. from w one (n.least w one b);
      limited = let a = x.limited in omega arith;
      ended = x.ended;
      cut = λ e. let a = x.cut e in omega arith;
    }
      where
        rises : Rises (v ∷ out)
        rises zero h = x.begins (omega arith)
        rises (suc k) h =
            let e : suc (k + 1) ≡ suc k + 1 = omega arith in
            subst (λ j. Before (slice_index_or out k []) (slice_index_or (v ∷ out) j [])) e (x.rises k (omega arith))

        sound : (k : ℕ) → k < length (v ∷ out) → IsOne (slice_index_or (v ∷ out) k [])
        sound zero h = n.one
        sound (suc k) h = x.sound k (omega arith)

        from : (w : List ℕ) → IsOne w → (v ≡ w) ⊎ Before v w → ((k : ℕ) × (k < length (v ∷ out)) × (slice_index_or (v ∷ out) k [] ≡ w)) ⊎ IsBehind Before (end_of cursor (v ∷ out)) w
        from w one (inl e) = inl (0, omega arith, e)
        from w one (inr b) = elim (x.whole w one b) [
          | inl a ↦ inl (suc a.0, omega (arith, a.1), a.2)
          | inr h ↦ inr h
        ]

    -- a listing of nothing
    pub none_listed : {cursor : Option (List ℕ)} {limit : ℕ} → IsNoneBehind Before IsOne cursor → IsListing Before IsOne cursor limit [] false
    none_listed none = record {
      begins = λ h. absurd (omega arith);
      rises = λ k h. absurd (omega arith);
      sound = λ k h. absurd (omega arith);
      whole = λ v one b. inr b;
      limited = omega arith;
      ended = (λ _. none, λ _. refl);
      cut = λ e. absurd (false≢true e);
    }

    -- a listing up to nothing, where there is more
    pub none_wanted : {cursor : Option (List ℕ)} → (v : List ℕ) → IsNextListed Before IsOne cursor v → IsListing Before IsOne cursor 0 [] true
    none_wanted v n = record {
      begins = λ h. absurd (omega arith);
      rises = λ k h. absurd (omega arith);
      sound = λ k h. absurd (omega arith);
      whole = λ v one b. inr b;
      limited = omega arith;
      ended = (λ e. absurd (false≢true (sym e)), λ none. absurd (none v n.one n.behind));
      cut = λ _. refl;
    }

    -- there is no more than one next
    pub Next-unique : {cursor : Option (List ℕ)} {v w : List ℕ} → IsNextListed Before IsOne cursor v → IsNextListed Before IsOne cursor w → v ≡ w
    Next-unique {cursor} {v} {w} a b = elim (a.least w b.one b.behind) [
      | inl e ↦ e
      | inr h ↦ elim (b.least v a.one a.behind) [
        | inl e ↦ sym e
        | inr g ↦ absurd (irr v (trans v w v h g))
      ]
    ]

    ended_alike : {cursor end : Option (List ℕ)} {limit again : ℕ} {out other : List (List ℕ)} {more after : Bool} → end_of cursor out ≡ end_of end other → IsListing Before IsOne cursor limit out more → IsListing Before IsOne end again other after → more ≡ after
    ended_alike {more} {after} e x y = same_bool more after (λ a. y.ended.1 (subst (IsNoneBehind Before IsOne) e (x.ended.0 a))) (λ a. x.ended.1 (subst (IsNoneBehind Before IsOne) (sym e) (y.ended.0 a)))

    -- where one more is wanted, a listing that has nothing shows that there is nothing
    nothing_more : {cursor : Option (List ℕ)} {limit : ℕ} {more : Bool} → IsListing Before IsOne cursor (suc limit) [] more → IsNoneBehind Before IsOne cursor
    nothing_more {cursor} {limit} {more} x = go more x
      where
        go : (b : Bool) → IsListing Before IsOne cursor (suc limit) [] b → IsNoneBehind Before IsOne cursor
        go true y = absurd (let a = y.cut refl in omega arith)
        go false y = y.ended.0 refl

    -- and no more than one listing
    pub one_listing : (cursor : Option (List ℕ)) (limit : ℕ) (out other : List (List ℕ)) (more again : Bool) → IsListing Before IsOne cursor limit out more → IsListing Before IsOne cursor limit other again → (out ≡ other) × (more ≡ again)
    one_listing cursor limit [] [] more again x y = (refl, ended_alike refl x y)
    one_listing cursor zero (v ∷ out) other more again x y = absurd (let a = x.limited in omega arith)
    one_listing cursor zero [] (w ∷ other) more again x y = absurd (let a = y.limited in omega arith)
    one_listing cursor (suc limit) [] (w ∷ other) more again x y = absurd (let n = first_is_next y in nothing_more x w n.one n.behind)
    one_listing cursor (suc limit) (v ∷ out) [] more again x y = absurd (let n = first_is_next x in nothing_more y v n.one n.behind)
    one_listing cursor (suc limit) (v ∷ out) (w ∷ other) more again x y =
        let e : v ≡ w = Next-unique (first_is_next x) (first_is_next y) in
        let rest = one_listing (Some v) limit out other more again (rest_is_listing x) (subst (λ u. IsListing Before IsOne (Some u) limit other again) (sym e) (rest_is_listing y)) in
        (λ i. e i ∷ rest.0 i, rest.1)

    -- two listings, one from the end of the other, make one
    pub listing_resumes : (cursor : Option (List ℕ)) (limit again : ℕ) (out rest : List (List ℕ)) (more after : Bool) → IsListing Before IsOne cursor limit out more → IsListing Before IsOne (end_of cursor out) again rest after → IsListing Before IsOne cursor (limit + again) (out ++ rest) after
    listing_resumes cursor zero again [] rest more after x y = let e : again ≡ 0 + again = omega arith in subst (λ k. IsListing Before IsOne cursor k rest after) e y
    listing_resumes cursor zero again (v ∷ out) rest more after x y = absurd (let a = x.limited in omega arith)
    listing_resumes cursor (suc limit) again [] [] more after x y = let none = nothing_more x in let e : false ≡ after = sym (y.ended.1 none) in subst (IsListing Before IsOne cursor (suc limit + again) []) e (none_listed none)
    listing_resumes cursor (suc limit) again [] (w ∷ rest) more after x y = absurd (let n = first_is_next y in nothing_more x w n.one n.behind)
    listing_resumes cursor (suc limit) again (v ∷ out) rest more after x y =
        let e : suc (limit + again) ≡ suc limit + again = omega arith in
        subst (λ k. IsListing Before IsOne cursor k (v ∷ (out ++ rest)) after) e (more_listing (first_is_next x) (listing_resumes (Some v) limit again out rest more after (rest_is_listing x) y))

    -- where the next one behind each cursor is known, or that there is none, there is a listing up to each limit
    pub listing_exists : ((cursor : Option (List ℕ)) → ((v : List ℕ) × IsNextListed Before IsOne cursor v) ⊎ IsNoneBehind Before IsOne cursor) → (limit : ℕ) (cursor : Option (List ℕ)) → Listed Before IsOne cursor limit
    listing_exists next limit cursor = go limit cursor (next cursor)
      where
        go : (limit : ℕ) (cursor : Option (List ℕ)) → ((v : List ℕ) × IsNextListed Before IsOne cursor v) ⊎ IsNoneBehind Before IsOne cursor → Listed Before IsOne cursor limit
        go limit cursor (inr none) = record { out = []; more = false; is = none_listed none }
        go zero cursor (inl n) = record { out = []; more = true; is = none_wanted n.0 n.1 }
        go (suc limit) cursor (inl n) = let rest = go limit (Some n.0) (next (Some n.0)) in record { out = n.0 ∷ rest.out; more = rest.more; is = more_listing n.1 rest.is }
