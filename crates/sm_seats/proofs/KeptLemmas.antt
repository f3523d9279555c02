-- What is kept of the seats of an instance.
use Rattle.std.proofs.Common.{◌≡◌, ℕ, ◌<◌, ◌^◌, List, length, get_or, refl, sym, ap, ◌∙◌, arith}
use Rattle.std.proofs.lemmas.List.{length-map, get_or_read}
use Rattle.sm_agents.specs.Written.{AgentData, Written}
use Rattle.sm_agents.specs.Sound.{IsInstance}
use Rattle.sm_instance.proofs.AcceptLemmas.{proposer_row_fits}
use Rattle.sm_lists.specs.Rows.{place_on}
use Rattle.sm_market.specs.Lists.{row, entry}
use Rattle.sm_seats.specs.Seating.{Seating, seating_of, written_place}
use Rattle.sm_seats.specs.Kept.{IsKept}
use Rattle.sm_seats.proofs.CorrespondenceLaws.{sound_entries, is_seating}
use Rattle.sm_seats.proofs.SeatingLaws.{list_of}

-- the seating of an instance can be kept
pub seating_kept : {w : Written} → IsInstance w → IsKept (seating_of w)
seating_kept {w} h =
    let it = is_seating (sound_entries h) in
    record {
      instance = h;
      made = refl;
      lists = length-map w.proposers (λ (x : AgentData). x.entries) ∙ sym it.proposers;
      seats = sym it.seats;
      short = λ p. let long = ap length (list_of it p) in omega (arith, long, proposer_row_fits h p);
      there = λ p i on. let below = it.market.proposers.in_range p i on in omega (arith, below, it.seats);
      listed = it.on_lists;
    }

-- the written place of a place, as it is read: x is the name of the seat there, and the list is the written one
pub record IsRead (s : Seating) (p place : ℕ) (list : List ℕ) (x : ℕ × ℕ) : Type 0 where
  pub is : place_on list x.0 ≡ written_place s p place
  pub listed : place_on list x.0 < length list
  pub short : length list < 2 ^ 24

-- it is so where the seat, its name and the list are read one after another
pub place_read : {s : Seating} → IsKept s → (p place seat : ℕ) (list : List ℕ) (x : ℕ × ℕ) → place < length (row s.market.proposers p)
    → seat ≡ entry s.market.proposers p place → x ≡ get_or s.seats seat x → list ≡ row s.lists p → IsRead s p place list x
place_read {s} kept p place seat list x on at read written =
    let there : seat < length s.seats = omega (arith, at, kept.there p place on) in
    let named : x.0 ≡ (get_or s.seats (entry s.market.proposers p place) (0, 0)).0 =
    ap (λ (y : ℕ × ℕ). y.0) (get_or_read s.seats seat x there read (0, 0)) ∙ ap (λ i. (get_or s.seats i (0, 0)).0) at in
    let is : place_on list x.0 ≡ written_place s p place = ap (λ l. place_on l x.0) written ∙ ap (place_on (row s.lists p)) named in
    let long = ap length written in
    record { is = is; listed = omega (arith, is, kept.listed p place on, long); short = omega (arith, kept.short p, long) }
