-- From the cross places and namings of plain lists to those of agents.
use Rattle.std.proofs.Common.{◌≡◌, ℕ, ◌+◌, ◌<◌, ◌≤◌, List, [], ◌∷◌, Option, length, map, get_or, refl, sym, ap, subst, ◌∙◌, arith, ⊎_elim}
use Rattle.std.proofs.lemmas.Bool.{cases_lt}
use Rattle.std.proofs.lemmas.List.{length-map, map-id}
use Rattle.std.proofs.lemmas.List.Folds.{fold-map}
use Rattle.std.proofs.Math.ListN.{get_or-map as get_or-map_all}
use Rattle.std.specs.List.{sum_by}
use Rattle.sm_lists.specs.Rows.{row as row_at, entry as entry_at}
use Rattle.sm_lists.specs.Crosses.{found_on, AreCrossPlaces as AreCrossesOf}
use Rattle.sm_lists.specs.Limits.{AreWithinLimits}
use Rattle.sm_lists.specs.Held.{held_in, AreShort}
use Rattle.sm_lists.specs.Namings.{naming_at as naming_known, AreNamings as AreKnown, AreNamingsOf as AreKnownOf}
use Rattle.sm_lists.specs.declared.naming.Naming.{Naming as Known}
use Rattle.sm_text.specs.Limits.{most_agents, most_entries}
use Rattle.sm_agents.specs.Written.{AgentData, no_agent, row, entry, lists_of}
use Rattle.sm_agents.specs.Sound.{AreSoundEntries, entries_of}
use Rattle.sm_instance.specs.Crosses.{AreCrossPlaces, AreNamingsOf, AreNamings}
use Rattle.sm_lists.specs.CompactNamings.{no_naming, naming_at}
use Rattle.sm_lists.specs.declared.compact_naming.CompactNaming.{CompactNaming}
use Rattle.sm_instance.proofs.PlaceLemmas.{length-row-le-others}
use Rattle.sm_agents.proofs.ListLemmas.{row_in_range}

-- an agent's list among all lists
pub row-lists_of : (agents : List AgentData) (a : ℕ) → row_at (lists_of agents) a ≡ row agents a
row-lists_of agents a = get_or-map_all (λ (x : AgentData). x.entries) agents a no_agent

-- all lists together are as long
sum_by-lists_of : (agents : List AgentData) → sum_by (λ list. length list) (lists_of agents) ≡ entries_of agents
sum_by-lists_of agents = fold-map (λ n list. n + length list) (λ (x : AgentData). x.entries) 0 agents

-- few agents with few entries are within the limits of lists
pub lists_within : (agents : List AgentData) → length agents ≤ most_agents → entries_of agents ≤ most_entries → AreWithinLimits (lists_of agents)
lists_within agents few short =
    let long = length-map agents (λ (x : AgentData). x.entries) in
    let sum = sum_by-lists_of agents in
    record { agents = omega arith; entries = omega arith }

-- sound lists are no longer than a side may have agents
pub lists_short : {agents : List AgentData} {others : ℕ} → AreSoundEntries agents others → length agents ≤ most_agents → others ≤ most_agents → AreShort (lists_of agents) most_agents
lists_short {agents} sound few fit =
    let long = length-map agents (λ (x : AgentData). x.entries) in
    record {
      agents = omega arith;
      lists = λ a. let le = length-row-le-others sound a in let same = ap length (row-lists_of agents a) in omega arith;
    }

-- the cross places of lists are those of agents
pub crosses_known : (agents others : List AgentData) (crosses : List (List (Option ℕ))) → AreCrossesOf (lists_of agents) (lists_of others) crosses → AreCrossPlaces agents others crosses
crosses_known agents others crosses c =
    let many = length-map agents (λ (x : AgentData). x.entries) in
    record {
      one_each = c.one_each ∙ many;
      of = λ a l. let of_list = c.of a (omega arith) in
          record {
            as_long = of_list.as_long ∙ ap length (row-lists_of agents a);
            places = λ i on.
                of_list.places i (let same = ap length (row-lists_of agents a) in omega arith)
                ∙ ap (λ list. found_on (row_at (lists_of others) (get_or list i 0)) a) (row-lists_of agents a)
                ∙ ap (λ list. found_on list a) (row-lists_of others (entry agents a i));
          };
    }

-- lists of places hold the places
pub held_in-places : (lists : List (List (Option ℕ))) → held_in (λ (place : Option ℕ). place) lists ≡ lists
held_in-places [] = refl
held_in-places (l ∷ lists) = ap (λ x. x ∷ held_in (λ (place : Option ℕ). place) lists) (map-id l) ∙ ap (λ xs. l ∷ xs) (held_in-places lists)

-- a naming of lists
abbrev wide : CompactNaming → Known
wide n = record { by = n.by; place = n.place }

-- the namings of lists are those of agents; none is named twice on a list, so that they rise
of_known : {agents : List AgentData} {others r : ℕ} (all : List CompactNaming) → AreSoundEntries agents others → AreKnownOf (lists_of agents) (length (lists_of agents)) 0 r (map wide all) → AreNamingsOf agents r all
of_known {agents} {others} {r} all sound m =
    let long = length-map all wide in
    let many = length-map agents (λ (x : AgentData). x.entries) in
    let read : (e : ℕ) → naming_known (map wide all) e ≡ wide (naming_at all e) = λ e. get_or-map_all wide all e no_naming in
    let on : (e : ℕ) → e < length all → (naming_at all e).place < length (row agents (naming_at all e).by) =
    λ e l.
    let P : Known → Type 0 = λ y. y.place < length (row_at (lists_of agents) y.by) in
    let lt : P (wide (naming_at all e)) = subst P (read e) (m.on_list e (omega arith)) in
    let same = ap length (row-lists_of agents (naming_at all e).by) in omega arith in
    let there : (e : ℕ) → e < length all → entry agents (naming_at all e).by (naming_at all e).place ≡ r =
    λ e l.
    let P : Known → Type 0 = λ y. entry_at (lists_of agents) y.by y.place ≡ r in
    let is : P (wide (naming_at all e)) = subst P (read e) (m.names e (omega arith)) in
    ap (λ list. get_or list (naming_at all e).place 0) (sym (row-lists_of agents (naming_at all e).by)) ∙ is in
    record {
      on_list = on;
      names = there;
      rising = λ e f lt l.
          let a = ap (λ (y : Known). y.by) (read e) in
          let b = ap (λ (y : Known). y.by) (read f) in
          let c = ap (λ (y : Known). y.place) (read e) in
          let d = ap (λ (y : Known). y.place) (read f) in
          let le = m.rising e f lt (omega arith) in
          ⊎_elim
          (λ less. less)
          (λ ge.
          let same : (naming_at all e).by ≡ (naming_at all f).by = omega arith in
          let before = m.ordered e f lt (omega arith) (omega arith) in
          let twice : entry agents (naming_at all f).by (naming_at all e).place ≡ entry agents (naming_at all f).by (naming_at all f).place =
          ap (λ q. entry agents q (naming_at all e).place) (sym same) ∙ there e (omega arith) ∙ sym (there f l) in
          absurd ((sound.sound (naming_at all f).by (naming_at all f).place (on f l)).fresh (naming_at all e).place (omega arith) twice))
          (cases_lt (naming_at all e).by (naming_at all f).by);
      named = λ p i inside is.
          let same = ap length (row-lists_of agents p) in
          let w = m.earlier_named p i (let lt = row_in_range agents p i inside in omega arith) (omega arith) (ap (λ list. get_or list i 0) (row-lists_of agents p) ∙ is) in
          record { at = w.at; there = let l = w.there in omega arith; by = ap (λ (y : Known). y.by) (sym (read w.at)) ∙ w.by; place = ap (λ (y : Known). y.place) (sym (read w.at)) ∙ w.place };
    }

-- the namings of plain lists are those of the agents
pub namings_known : {agents : List AgentData} {others : ℕ} (namings : List (List CompactNaming)) → AreSoundEntries agents others
    → AreKnown (lists_of agents) others (length (lists_of agents)) 0 (held_in (λ (n : CompactNaming). record { by = n.by; place = n.place }) namings) → AreNamings agents others namings
namings_known {agents} {others} namings sound n = record {
  one_each = sym (length-map namings (map wide)) ∙ n.one_each;
  of = λ r l. of_known (get_or namings r []) sound (subst (AreKnownOf (lists_of agents) (length (lists_of agents)) 0 r) (get_or-map_all (map wide) namings r []) (n.of r l));
}

-- what is short enough for a number is so for a greater one
pub shorter : {rows : List (List ℕ)} {most more : ℕ} → most ≤ more → AreShort rows most → AreShort rows more
shorter le short = record { agents = let few = short.agents in omega arith; lists = λ a. let few = short.lists a in omega arith }
