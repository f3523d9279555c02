-- The net of specs/Witnesses.antt.
use Rattle.std.proofs.Common.{◌≡◌, ℕ, zero, suc, ◌<◌, ◌↔◌, Bool, true, false, List, [], ◌∷◌, refl, sym, ◌∙◌, ap, arith, inl, inr}
use Rattle.std.proofs.lemmas.Bool.{false≢true, true≢false}
use Rattle.std.proofs.lemmas.Bool.Decides.{nat_tests}
use Rattle.sm_flow.specs.declared.net.Room.{Room}
use Rattle.sm_flow.specs.declared.net.Room.TheVariants.{Bounded, Unbounded}
use Rattle.sm_flow.specs.Graph.{IsNet, from_of, to_of, room_of}
use Rattle.sm_flow.specs.Flowing.{amount, leaving, coming, is_in, IsIn, IsWithin, HasRoom, IsCut, IsPath, IsReachable, IsResidualStep, IsUnboundedStep, IsMaximumFlow}
use Rattle.sm_flow.specs.Witnesses.{small_graph, HasMaximumFlow, OthersAreNone, HasUnboundedPath}

abbrev ones : List ℕ
ones = 1 ∷ 1 ∷ 1 ∷ 1 ∷ []

abbrev zeros : List ℕ
zeros = 0 ∷ 0 ∷ 0 ∷ 0 ∷ []

-- 0 and 1
abbrev first_two : List Bool
first_two = true ∷ true ∷ false ∷ false ∷ []

from_in : (e : ℕ) → e < 4 → from_of small_graph e < 4
from_in zero h = omega arith
from_in (suc zero) h = omega arith
from_in (suc (suc zero)) h = omega arith
from_in (suc (suc (suc zero))) h = omega arith
from_in (suc (suc (suc (suc e)))) h = absurd (omega arith)

to_in : (e : ℕ) → e < 4 → to_of small_graph e < 4
to_in zero h = omega arith
to_in (suc zero) h = omega arith
to_in (suc (suc zero)) h = omega arith
to_in (suc (suc (suc zero))) h = omega arith
to_in (suc (suc (suc (suc e)))) h = absurd (omega arith)

net_is : IsNet small_graph
net_is = record { from_in = from_in; to_in = to_in; few = omega arith; small = omega arith; nodes_fit = omega arith }

ones_within : (e : ℕ) → e < 4 → IsWithin (room_of small_graph e) (amount ones e)
ones_within zero h = omega arith
ones_within (suc zero) h = omega arith
ones_within (suc (suc zero)) h = omega arith
ones_within (suc (suc (suc zero))) h = tt
ones_within (suc (suc (suc (suc e)))) h = absurd (omega arith)

zeros_within : (e : ℕ) → e < 4 → IsWithin (room_of small_graph e) (amount zeros e)
zeros_within zero h = omega arith
zeros_within (suc zero) h = omega arith
zeros_within (suc (suc zero)) h = omega arith
zeros_within (suc (suc (suc zero))) h = tt
zeros_within (suc (suc (suc (suc e)))) h = absurd (omega arith)

ones_conserved : (v : ℕ) → ¬ (v ≡ 0) → ¬ (v ≡ 3) → coming small_graph (amount ones) v ≡ leaving small_graph (amount ones) v
ones_conserved zero s t = absurd (s refl)
ones_conserved (suc zero) s t = refl
ones_conserved (suc (suc zero)) s t = refl
ones_conserved (suc (suc (suc zero))) s t = absurd (t refl)
ones_conserved (suc (suc (suc (suc v)))) s t = grind (arith, nat_tests)

zeros_conserved : (v : ℕ) → ¬ (v ≡ 0) → ¬ (v ≡ 3) → coming small_graph (amount zeros) v ≡ leaving small_graph (amount zeros) v
zeros_conserved zero s t = absurd (s refl)
zeros_conserved (suc zero) s t = refl
zeros_conserved (suc (suc zero)) s t = refl
zeros_conserved (suc (suc (suc zero))) s t = absurd (t refl)
zeros_conserved (suc (suc (suc (suc v)))) s t = grind (arith, nat_tests)

-- no residual step leaves the first two nodes
stays : (u v : ℕ) → IsIn first_two u → IsResidualStep small_graph ones u v → IsIn first_two v
stays u v i (inl a) = along a.edge a.in_range a.begins a.ends a.left
  where
    along : (e : ℕ) → e < 4 → from_of small_graph e ≡ u → to_of small_graph e ≡ v → HasRoom (room_of small_graph e) (amount ones e) → IsIn first_two v
    along zero h b t l = ap (is_in first_two) (sym t)
    along (suc zero) h b t l = absurd (omega (arith, l))
    along (suc (suc zero)) h b t l = absurd (omega (arith, l))
    along (suc (suc (suc zero))) h b t l = absurd (false≢true (ap (is_in first_two) b ∙ i))
    along (suc (suc (suc (suc e)))) h b t l = absurd (omega arith)
stays u v i (inr a) = against a.edge a.in_range a.begins a.ends
  where
    against : (e : ℕ) → e < 4 → to_of small_graph e ≡ u → from_of small_graph e ≡ v → IsIn first_two v
    against zero h b t = ap (is_in first_two) (sym t)
    against (suc zero) h b t = absurd (false≢true (ap (is_in first_two) b ∙ i))
    against (suc (suc zero)) h b t = absurd (false≢true (ap (is_in first_two) b ∙ i))
    against (suc (suc (suc zero))) h b t = absurd (false≢true (ap (is_in first_two) b ∙ i))
    against (suc (suc (suc (suc e)))) h b t = absurd (omega arith)

stays_on : (u : ℕ) (path : List ℕ) (v : ℕ) → IsIn first_two u → IsPath (IsResidualStep small_graph ones) u path v → IsIn first_two v
stays_on u [] v i p = ap (is_in first_two) (sym p) ∙ i
stays_on u (w ∷ path) v i p = stays_on w path v (stays u w i p.0) p.1

ones_reach : (v : ℕ) → v < 4 → IsIn first_two v ↔ IsReachable (IsResidualStep small_graph ones) 0 v
ones_reach v h = (there v, λ r. stays_on 0 r.path v refl r.is)
  where
    there : (v : ℕ) → IsIn first_two v → IsReachable (IsResidualStep small_graph ones) 0 v
    there zero i = record { path = []; is = refl }
    there (suc zero) i = record { path = 1 ∷ []; is = (inl (record { edge = 0; in_range = omega arith; begins = refl; ends = refl; left = omega arith }), refl) }
    there (suc (suc zero)) i = absurd (false≢true i)
    there (suc (suc (suc zero))) i = absurd (false≢true i)
    there (suc (suc (suc (suc v)))) i = absurd (false≢true i)

abbrev is_unbounded : Room → Bool
is_unbounded (Bounded n) = false
is_unbounded Unbounded = true

-- the one unbounded edge leads from 2
unbounded_from : (e : ℕ) → e < 4 → room_of small_graph e ≡ Unbounded → from_of small_graph e ≡ 2
unbounded_from zero h u = absurd (false≢true (ap is_unbounded u))
unbounded_from (suc zero) h u = absurd (false≢true (ap is_unbounded u))
unbounded_from (suc (suc zero)) h u = absurd (false≢true (ap is_unbounded u))
unbounded_from (suc (suc (suc zero))) h u = refl
unbounded_from (suc (suc (suc (suc e)))) h u = absurd (omega arith)

no_unbounded_path : (u : ℕ) → u < 2 → ¬ IsReachable (IsUnboundedStep small_graph) u 3
no_unbounded_path u h r = go r.path r.is
  where
    go : (path : List ℕ) → ¬ IsPath (IsUnboundedStep small_graph) u path 3
    go [] p = omega (arith, p)
    go (w ∷ path) p = (let e = unbounded_from p.0.edge p.0.in_range p.0.unbounded in omega (arith, e, p.0.begins))

first_two_cut : IsCut small_graph 0 3 first_two
first_two_cut = record {
  source = refl;
  sink = refl;
  bounded = λ e h u i. absurd (false≢true (ap (is_in first_two) (sym (unbounded_from e h u)) ∙ i));
}

-- the maximum flow of the small net is as said
pub maximum_is : HasMaximumFlow
maximum_is = (
  net_is,
  record {
    maximum = record {
      is_flow = record { one_each = refl; within = ones_within; conserved = ones_conserved; carries = refl };
      one_each = refl;
      reach = ones_reach;
      cut = first_two_cut;
      tight = refl;
    };
    no_path = no_unbounded_path 0 (omega arith);
  },
)

-- the flows that are no maximum ones, and those that are none, are as said
pub others_are : OthersAreNone
others_are = (
  record { one_each = refl; within = zeros_within; conserved = zeros_conserved; carries = refl },
  λ reached m. absurd (true≢false (sym (to_sink reached m) ∙ m.cut.sink)),
  λ value f. omega (arith, f.conserved 1 (λ e. omega (arith, e)) (λ e. omega (arith, e))),
  λ value f. omega (arith, f.within 2 (omega arith)),
)
  where
    -- all rooms are left, so 3 is reached by 1
    to_sink : (reached : List Bool) → IsMaximumFlow small_graph 0 3 (record { amounts = zeros; value = 0; reached = reached }) → is_in reached 3 ≡ true
    to_sink reached m = (m.reach 3 (omega arith)).1 (record {
      path = 1 ∷ 3 ∷ [];
      is = (
        inl (record { edge = 0; in_range = omega arith; begins = refl; ends = refl; left = omega arith }),
        (inl (record { edge = 2; in_range = omega arith; begins = refl; ends = refl; left = omega arith }), refl),
      );
    })

-- the paths of unbounded edges are as said
pub unbounded_is : HasUnboundedPath
unbounded_is = (
  record { path = 3 ∷ []; all = refl; is = (record { edge = 3; in_range = omega arith; begins = refl; ends = refl; unbounded = refl }, refl) },
  no_unbounded_path 1 (omega arith),
)
