-- The laws of routes.
use Rattle.std.proofs.Common.{◌≡◌, ℕ, zero, suc, ◌+◌, ◌<◌, ◌≤◌, inl, inr, arith, refl, sym, ap, ◌∙◌, Bool, true, false, List, [], ◌∷◌, ◌++◌, map, length, set, slice_set, All, true≢false, subst}
use Rattle.std.proofs.lemmas.List.{length-set, length-append, length-map, get_or-set_same, get_or-set_other}
use Rattle.std.proofs.lemmas.List.Elements.{All-nil, All-cons}
use Rattle.sm_market.specs.Lists.{Lists, IsMarket}
use Rattle.sm_market.specs.Matching.{Places}
use Rattle.sm_lists.proofs.Counting.{eq_or_ne}
use Rattle.sm_theory.specs.Chains.{IsCompleteChain}
use Rattle.sm_theory.specs.ClosedSets.{is_member, IsMember, IsClosed, matching_of, IsReady}
use Rattle.sm_theory.proofs.Bridge.Sets.{set_stable}
use Rattle.sm_theory.proofs.Chains.Rotations.{sets_are_matchings, exposed_where_ready, predecessor_is_earlier}
use Rattle.sm_theory.specs.declared.step.Step.{Step}
use Rattle.sm_theory.specs.declared.step.Step.TheVariants.{Forth}
use Rattle.sm_theory.specs.Routes.{IsOneDown, IsStep, IsRoute, after_step, sets_along, is_only_in, steps_back, steps_forth, steps_between, difference}
use Rattle.sm_theory.specs.LawsRoutes.{NoFewerSteps, StepsAreShortest}
use Rattle.sm_theory.proofs.Routes.OneMore.{IsOneMore, one_down, one_more_next, one_of_chain, OneOfChain}
use Rattle.sm_theory.proofs.Routes.Sets.{front_of, front_long, front_all, front_none, front_others, front_new, front_forth, front_back, front_same, front_first, front_second, front_into, difference_none, difference_one, difference_back, difference_over}

module _ {l : Lists} (h : IsMarket l) {first : Places} {rotations : List (List (ℕ × ℕ))} (chain : IsCompleteChain l first rotations) where
  -- a rotation is exposed at a closed set's matching, and is added to the set: the set stays closed
  module _ {small : List Bool} (a : IsClosed l rotations small) (k : ℕ) (g : k < length rotations) (ready : IsReady l rotations small k) where
    abbrev large : List Bool
    large = slice_set small k true

    inside : IsMember large k
    inside = get_or-set_same small k true false (omega (arith, g, a.one_each))

    others : (j : ℕ) → (j ≡ k → ⊥) → is_member large j ≡ is_member small j
    others j apart = get_or-set_other small k j true false apart

    more : (j : ℕ) → IsMember small j → IsMember large j
    more j member = elim (eq_or_ne j k) [ inl e ↦ rw e inside | inr apart ↦ others j apart ∙ member ]

    pub added_closed : IsClosed l rotations large
    added_closed = record {
      one_each = length-set small k true ∙ a.one_each;
      closed = λ i j i_in j_in member need. elim (eq_or_ne j k) [
        | inl e ↦ more i (ready.prepared i i_in (rw e at need))
        | inr apart ↦ more i (a.closed i j i_in j_in (sym (others j apart) ∙ member) need)
      ];
    }

    pub added_one : IsOneMore small large k
    added_one = record { out = ready.outside; inside = inside; more = more; less = λ j member apart. sym (others j apart) ∙ member }

    pub added_differs : difference small large (length rotations) ≤ 1
    added_differs = difference_one small large (length rotations) k (λ j apart. sym (others j apart))

  -- one elimination changes a closed set at one rotation
  down_bound : (set other : List Bool) → IsClosed l rotations set → IsClosed l rotations other → IsOneDown l (matching_of l first rotations set) (matching_of l first rotations other)
      → difference set other (length rotations) ≤ 1
  down_bound set other a b one = rw (← same) (added_differs a w.at w.below ready)
    where
      w : OneOfChain h chain (matching_of l first rotations set) (matching_of l first rotations other)
      w = one_of_chain h chain (set_stable h chain set a) one

      ready : IsReady l rotations set w.at
      ready = (exposed_where_ready l first rotations set w.at h chain a w.below).0 w.exposed

      same : slice_set set w.at true ≡ other
      same = (sets_are_matchings l first rotations h chain).different (slice_set set w.at true) other (added_closed a w.at w.below ready) b
          (one_more_next h chain a (added_closed a w.at w.below ready) w.at w.below (added_one a w.at w.below ready) ∙ sym w.next)

  step_bound : (set other : List Bool) → IsClosed l rotations set → IsClosed l rotations other → IsStep l (matching_of l first rotations set) (matching_of l first rotations other)
      → difference set other (length rotations) ≤ 1
  step_bound set other a b step = elim step.one [
    | inl one ↦ down_bound set other a b one
    | inr one ↦ omega (arith, down_bound other set b a one, difference_back set other (length rotations))
  ]

  -- a route has a step for each rotation in which the sets of its ends differ
  pub route_bound : (way : List Places) (m n : Places) (left right : List Bool) → IsClosed l rotations left → IsClosed l rotations right
      → matching_of l first rotations left ≡ m → matching_of l first rotations right ≡ n → IsRoute l m way n → difference left right (length rotations) ≤ length way
  route_bound [] m n left right a b is_m is_n route =
      let same : left ≡ right = (sets_are_matchings l first rotations h chain).different left right a b (is_m ∙ route ∙ sym is_n) in
      omega (arith, difference_none left right (length rotations) (λ k _. ap (λ set. is_member set k) same))
  route_bound (next ∷ way) m n left right a b is_m is_n route =
      let u = (sets_are_matchings l first rotations h chain).all next route.0.there in
      let step : IsStep l (matching_of l first rotations left) (matching_of l first rotations u.0) = rw (is_m, u.2) route.0 in
      omega (arith, step_bound left u.0 a u.1 step, route_bound way next n u.0 right u.1 b u.2 is_n route.1, difference_over left u.0 right (length rotations))

-- no route has fewer steps than there are rotations in exactly one of the sets
pub no_fewer_steps : NoFewerSteps
no_fewer_steps l first rotations left right way h chain a b route = route_bound h chain way (matching_of l first rotations left) (matching_of l first rotations right) left right a b refl refl route

module _ {l : Lists} (h : IsMarket l) {first : Places} {rotations : List (List (ℕ × ℕ))} (chain : IsCompleteChain l first rotations) where
  -- steps that lead over closed sets from one set to another
  abbrev pub Leads : List Bool → List Step → List Bool → Type 0
  Leads set [] last = set ≡ last
  Leads set (step ∷ steps) last =
      IsClosed l rotations (after_step set step)
      × IsStep l (matching_of l first rotations set) (matching_of l first rotations (after_step set step))
      × Leads (after_step set step) steps last

  -- what they lead over is a route
  pub leads_route : (set : List Bool) (steps : List Step) (last : List Bool) → Leads set steps last
      → IsRoute l (matching_of l first rotations set) (map (matching_of l first rotations) (sets_along set steps)) (matching_of l first rotations last)
  leads_route set [] last e = ap (matching_of l first rotations) e
  leads_route set (step ∷ steps) last w = (w.1, leads_route (after_step set step) steps last w.2)

  -- over closed sets
  pub leads_closed : (set : List Bool) (steps : List Step) (last : List Bool) → Leads set steps last → All (IsClosed l rotations) (sets_along set steps)
  leads_closed set [] last e = All-nil (IsClosed l rotations)
  leads_closed set (step ∷ steps) last w = All-cons (IsClosed l rotations) (after_step set step) (sets_along (after_step set step) steps) w.0 (leads_closed (after_step set step) steps last w.2)

  -- one way behind another
  pub leads_on : (set : List Bool) (steps more : List Step) (middle last : List Bool) → Leads set steps middle → Leads middle more last → Leads set (steps ++ more) last
  leads_on set [] more middle last e w = rw e w
  leads_on set (step ∷ steps) more middle last v w = (v.0, v.1, leads_on (after_step set step) steps more middle last v.2 w)

  module _ {one other : List Bool} (a : IsClosed l rotations one) (b : IsClosed l rotations other) where
    abbrev front : ℕ → List Bool
    front i = front_of one other (length rotations) i

    pub front_closed : (i : ℕ) → IsClosed l rotations (front i)
    front_closed i = record {
      one_each = front_long one other (length rotations) i;
      closed = λ k j k_in j_in member need.
          let earlier = predecessor_is_earlier l first rotations k j h chain k_in j_in need in
          front_into one other (length rotations) i k k_in (a.closed k j k_in j_in (front_first one other (length rotations) i j j_in member) need)
          (elim (front_second one other (length rotations) i j j_in member) [ inl low ↦ inl (omega (arith, low, earlier)) | inr in_other ↦ inr (b.closed k j k_in j_in in_other need) ]);
    }

    front_one : (i : ℕ) → i < length rotations → is_only_in one other i ≡ true → IsOneMore (front i) (front (suc i)) i
    front_one i g only =
        let new = front_new one other (length rotations) i g only in
        record {
          out = λ member. true≢false (sym member ∙ new.0);
          inside = new.1;
          more = λ j member. elim (eq_or_ne j i) [ inl e ↦ rw e new.1 | inr apart ↦ front_others one other (length rotations) i j apart ∙ member ];
          less = λ j member apart. sym (front_others one other (length rotations) i j apart) ∙ member;
        }

    front_down : (i : ℕ) → i < length rotations → is_only_in one other i ≡ true → IsOneDown l (matching_of l first rotations (front i)) (matching_of l first rotations (front (suc i)))
    front_down i g only = one_down h chain (front_closed i) (front_closed (suc i)) i g (front_one i g only)

    -- back from the first set to what both have
    pub leads_back : (i : ℕ) → i ≤ length rotations → Leads (front i) (steps_back one other i) (front 0)
    leads_back zero g = refl
    leads_back (suc i) g = go (is_only_in one other i) refl (leads_back i (omega arith))
      where
        go : (c : Bool) → is_only_in one other i ≡ c → Leads (front i) (steps_back one other i) (front 0) → Leads (front (suc i)) (steps_back one other (suc i)) (front 0)
        go true e w = rw (e, front_back one other (length rotations) i g e) (front_closed i, record { here = set_stable h chain (front (suc i)) (front_closed (suc i)); there = set_stable h chain (front i) (front_closed i); one = inr (front_down i g e) }, w)
        go false e w = rw (e, front_same one other (length rotations) i g e) w

    -- and forth again
    pub leads_forth : (i : ℕ) → i ≤ length rotations → Leads (front 0) (steps_forth other one i) (front i)
    leads_forth zero g = refl
    leads_forth (suc i) g = go (is_only_in one other i) refl (leads_forth i (omega arith))
      where
        go : (c : Bool) → is_only_in one other i ≡ c → Leads (front 0) (steps_forth other one i) (front i) → Leads (front 0) (steps_forth other one (suc i)) (front (suc i))
        go true e w = rw e (leads_on (front 0) (steps_forth other one i) (Forth i ∷ []) (front i) (front (suc i)) w
            (rw (front_forth one other (length rotations) i g e) (front_closed (suc i), record { here = set_stable h chain (front i) (front_closed i); there = set_stable h chain (front (suc i)) (front_closed (suc i)); one = inl (front_down i g e) }, refl)))
        go false e w = rw (e, front_same one other (length rotations) i g e) w

  -- the steps between two closed sets lead from the one to the other
  pub leads_between : (left right : List Bool) → IsClosed l rotations left → IsClosed l rotations right → Leads left (steps_between left right (length rotations)) right
  leads_between left right a b =
      let back : Leads left (steps_back left right (length rotations)) (front_of left right (length rotations) 0) =
      rw (front_all left right (length rotations) a.one_each) at (leads_back a b (length rotations) (omega arith)) in
      let end : Leads (front_of right left (length rotations) 0) (steps_forth left right (length rotations)) right =
      subst (λ set. Leads (front_of right left (length rotations) 0) (steps_forth left right (length rotations)) set) (front_all right left (length rotations) b.one_each) (leads_forth b a (length rotations) (omega arith)) in
      let forth : Leads (front_of left right (length rotations) 0) (steps_forth left right (length rotations)) right =
      subst (λ set. Leads set (steps_forth left right (length rotations)) right) (sym (front_none left right (length rotations))) end in
      leads_on left (steps_back left right (length rotations)) (steps_forth left right (length rotations)) (front_of left right (length rotations) 0) right back forth

-- there are as many steps as rotations in exactly one of the sets
steps_count : (left right : List Bool) (n : ℕ) → length (steps_back left right n) + length (steps_forth left right n) ≡ difference left right n
steps_count left right zero = refl
steps_count left right (suc n) = go (is_member left n) (is_member right n) refl refl (steps_count left right n)
  where
    go : (a b : Bool) → is_member left n ≡ a → is_member right n ≡ b → length (steps_back left right n) + length (steps_forth left right n) ≡ difference left right n
        → length (steps_back left right (suc n)) + length (steps_forth left right (suc n)) ≡ difference left right (suc n)
    go true true e f w = rw (e, f) (omega (arith, w))
    go true false e f w = rw (e, f) (omega (arith, w))
    go false true e f w = rw (e, f) (omega (arith, w, length-append (steps_forth left right n) (Forth n ∷ [])))
    go false false e f w = rw (e, f) (omega (arith, w))

-- how long a list of values is
steps_long : (set : List Bool) (steps : List Step) → length (sets_along set steps) ≡ length steps
steps_long set [] = refl
steps_long set (step ∷ steps) = omega (arith, steps_long (after_step set step) steps)

-- the steps between two closed sets are a shortest route
pub steps_are_shortest : StepsAreShortest
steps_are_shortest l first rotations left right h chain a b = (
  leads_closed h chain left steps right leads,
  record {
    route = leads_route h chain left steps right leads;
    shortest = λ other route. omega (arith, no_fewer_steps l first rotations left right other h chain a b route, count, steps_long left steps, length-map (sets_along left steps) (matching_of l first rotations));
  },
  count,
)
  where
    steps : List Step
    steps = steps_between left right (length rotations)

    leads : Leads h chain left (steps_between left right (length rotations)) right
    leads = leads_between h chain left right a b

    count : length (steps_between left right (length rotations)) ≡ difference left right (length rotations)
    count = length-append (steps_back left right (length rotations)) (steps_forth left right (length rotations)) ∙ steps_count left right (length rotations)
