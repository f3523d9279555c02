-- What namings say of places.
use Rattle.std.proofs.Common.{MatchOption, ◌≡◌, ◌≢◌, ℕ, ◌<◌, List, Option, Some, None, length, sym, ap, subst, ◌∙◌, arith, unwrap_or, cond, ltb, true, false, ⊎_elim}
use Rattle.std.proofs.lemmas.Bool.{cases_lt}
use Rattle.std.proofs.lemmas.Bool.Decides.{nat_tests}
use Rattle.std.proofs.lemmas.List.FromFn.{get_or-map-range_with_len, length-map-range_with_len}
use Rattle.sm_lists.specs.CompactNamings.{no_naming, naming_at, IsNamed}
use Rattle.sm_lists.specs.declared.compact_naming.CompactNaming.{CompactNaming}
use Rattle.sm_lists.proofs.PlaceLemmas.{get_or-place_on, place_on-le}
use Rattle.sm_agents.specs.Written.{AgentData, row, entry, place_of}
use Rattle.sm_agents.specs.Sound.{AreSoundEntries}
use Rattle.sm_instance.specs.Crosses.{AreNamingsOf, cross_place}
use Rattle.sm_instance.specs.Namings.{AreAskedOf, asked_at, all_asked}
use Rattle.sm_agents.proofs.ListLemmas.{row_in_range}
use Rattle.sm_instance.proofs.PlaceLemmas.{place_found, place_missing, place_of-entry}

-- the place of whom b names
pub naming_found : {agents : List AgentData} {others a : ℕ} {all : List CompactNaming} → AreSoundEntries agents others → AreNamingsOf agents a all → (b i : ℕ) → IsNamed all b i
    → Some i ≡ cross_place agents b a
naming_found {agents} {others} {a} {all} sound n b i w =
    let on : i < length (row agents b) = let l = n.on_list w.at w.there in let P : ℕ → ℕ → Type 0 = λ q j. j < length (row agents q) in subst (P b) w.place (let Q : ℕ → Type 0 = λ q. P q (naming_at all w.at).place in subst Q w.by l) in
    let there : entry agents b i ≡ a = let l = n.names w.at w.there in let P : ℕ → ℕ → Type 0 = λ q j. entry agents q j ≡ a in subst (P b) w.place (let Q : ℕ → Type 0 = λ q. P q (naming_at all w.at).place in subst Q w.by l) in
    place_found sound b a i on there

-- the answer of a search
pub place_answer : {agents : List AgentData} {others a : ℕ} {all : List CompactNaming} → AreSoundEntries agents others → AreNamingsOf agents a all → (b : ℕ) (o : Option ℕ)
    → MatchOption o ((e : ℕ) → e < length all → (naming_at all e).by ≢ b) (λ i. IsNamed all b i) → o ≡ cross_place agents b a
place_answer {agents} {a = a} sound n b None h = place_missing agents b a (λ i on is. let w = n.named b i on is in h w.at w.there w.by)
place_answer sound n b (Some i) h = naming_found sound n b i h

-- those who name r are asked
pub kept_asked : {agents : List AgentData} {others r : ℕ} {all : List CompactNaming} → AreSoundEntries agents others → AreNamingsOf agents r all → AreAskedOf agents r all
kept_asked {agents} {others} {r} {all} sound n =
    record {
      in_range = λ e l. row_in_range agents (naming_at all e).by (naming_at all e).place (n.on_list e l);
      places = λ e l. sym (place_of-entry sound (naming_at all e).by r (naming_at all e).place (n.on_list e l) (n.names e l));
      rising = n.rising;
      named = n.named;
    }

-- all agents are asked
pub everyone_asked : {agents : List AgentData} {others : ℕ} → AreSoundEntries agents others → (r : ℕ) → AreAskedOf agents r (all_asked agents r)
everyone_asked {agents} {others} sound r =
    let many = length-map-range_with_len (asked_at agents r) 0 (length agents) in
    let read : (e : ℕ) → e < length agents → naming_at (all_asked agents r) e ≡ asked_at agents r e = λ e l. get_or-map-range_with_len (asked_at agents r) 0 (length agents) e e no_naming l (omega arith) in
    let by : (e : ℕ) → e < length agents → (naming_at (all_asked agents r) e).by ≡ e = λ e l. ap (λ (n : CompactNaming). n.by) (read e l) in
    record {
      in_range = λ e l. let is = by e (omega arith) in omega arith;
      places = λ e l.
          let lt : e < length agents = omega arith in
          ap (λ (n : CompactNaming). n.place) (read e lt) ∙ ap (λ p. place_of agents p r) (sym (by e lt));
      rising = λ e f less l. let a = by e (omega arith) in let b = by f (omega arith) in omega arith;
      named = λ p i on is.
          let lt = row_in_range agents p i on in
          record { at = p; there = omega arith; by = by p lt; place = ap (λ (n : CompactNaming). n.place) (read p lt) ∙ place_of-entry sound p r i on is };
    }

-- who is asked with a place that is on its list names r there
pub asked_there : {agents : List AgentData} {r : ℕ} {all : List CompactNaming} → AreAskedOf agents r all → (e : ℕ) → e < length all → (p i : ℕ) → p ≡ (naming_at all e).by → i ≡ (naming_at all e).place → i < length (row agents p) → entry agents p i ≡ r
asked_there {agents} {r} {all} n e l p i by at on =
    let is : i ≡ place_of agents p r = at ∙ n.places e l ∙ ap (λ q. place_of agents q r) (sym by) in
    ap (entry agents p) is ∙ get_or-place_on (row agents p) r (omega arith)

-- the place that is found, or else the length of the list
pub place_or_past : (agents : List AgentData) (p r past : ℕ) (o : Option ℕ) → o ≡ cross_place agents p r → past ≡ length (row agents p) → unwrap_or o past ≡ place_of agents p r
place_or_past agents p r past o is long =
    let le = place_on-le (row agents p) r in
    ⊎_elim
    (λ l. let on : ltb (place_of agents p r) (length (row agents p)) ≡ true = grind (arith, nat_tests) in
    ap (λ o. unwrap_or o past) (is ∙ ap (λ t. cond t (Some (place_of agents p r)) None) on))
    (λ g. let off : ltb (place_of agents p r) (length (row agents p)) ≡ false = grind (arith, nat_tests) in
    let same : past ≡ place_of agents p r = omega arith in
    ap (λ o. unwrap_or o past) (is ∙ ap (λ t. cond t (Some (place_of agents p r)) None) off) ∙ same)
    (cases_lt (place_of agents p r) (length (row agents p)))
