-- The names behind numbers, and the numbers of names.
use Rattle.std.proofs.Common.{◌≡◌, ◌≢◌, ℕ, suc, ◌<◌, ◌||◌, Bool, true, false, not, List, [], ◌∷◌, length, map, get_or, AllPairs, refl, sym, ap, ◌∙◌, inl, inr, arith}
use Rattle.std.specs.List.{list_all, list_any}
use Rattle.std.specs.Str.{bytes_eq}
use Rattle.std.proofs.lemmas.Bool.{cases_lt, and_from}
use Rattle.std.proofs.lemmas.List.{length-map, get_or-map, get_or_default}
use Rattle.std.proofs.lemmas.List.Elements.{All-map}
use Rattle.std.proofs.lemmas.List.Folds.{list_any_at, list_any_none}
use Rattle.std.proofs.lemmas.List.Sums.{position_or_len_is}
use Rattle.sm_text.specs.Name.{is_name}
use Rattle.sm_agents.specs.Written.{AgentData, no_agent, names_of as names_in}
use Rattle.sm_agents.specs.Sound.{AreSoundAgents}
use Rattle.sm_keys.specs.Tables.{has_repeated, is_unknown, number_in}
use Rattle.sm_keys.proofs.TextLemmas.{same_text, other_text}
use Rattle.sm_instance_lines.specs.Names.{name_of}

-- numbers that are those of so many agents
abbrev pub AreBelow : ℕ → List ℕ → Type 0
AreBelow n entries = (i : ℕ) → i < length entries → get_or entries i 0 < n

below_tail : (n e : ℕ) (entries : List ℕ) → AreBelow n (e ∷ entries) → AreBelow n entries
below_tail n e entries below i on = below (suc i) (omega arith)

module _ (agents : List AgentData) (single : Bool) (sound : AreSoundAgents agents single) where
  name_here : (k : ℕ) (d : List ℕ) → k < length agents → get_or (names_in agents) k d ≡ name_of agents k
  name_here k d below = get_or-map (λ (a : AgentData). a.name) agents k no_agent d below

  count : length (names_in agents) ≡ length agents
  count = length-map agents (λ (a : AgentData). a.name)

  -- names differ
  pub names_differ : AllPairs ◌≢◌ (names_in agents)
  names_differ i j d before below same =
      let inside : j < length agents = omega (arith, count) in
      (sound.sound j inside).fresh i before (sym (name_here i d (omega arith)) ∙ same ∙ name_here j d inside)

  -- the name of each agent is a name
  pub is_named : (a : ℕ) → a < length agents → is_name (name_of agents a) ≡ true
  is_named a below = (sound.sound a below).name

  -- agents with one name are one
  pub same_number : (a b : ℕ) → a < length agents → b < length agents → name_of agents a ≡ name_of agents b → a ≡ b
  same_number a b there here same = elim (cases_lt a b) [
    | inl before ↦ absurd ((sound.sound b here).fresh a before same)
    | inr past ↦ elim (cases_lt b a) [
      | inl before ↦ absurd ((sound.sound a there).fresh b before (sym same))
      | inr behind ↦ omega arith
    ]
  ]

  -- the number of a name is the agent's
  pub number_back : (names : List (List ℕ)) → names ≡ names_in agents → (a : ℕ) → a < length agents → number_in names (name_of agents a) ≡ a
  number_back names are a below =
      ap (λ ns. number_in ns (name_of agents a)) are
      ∙ position_or_len_is (bytes_eq (name_of agents a)) (names_in agents) a [] (omega (arith, count))
      (λ k before. other_text (name_of agents a) (get_or (names_in agents) k []) (λ same. (sound.sound a below).fresh k before (sym (name_here k [] (omega arith)) ∙ sym same)))
      (λ inside. same_text (name_of agents a) (get_or (names_in agents) a []) (sym (name_here a [] below)))

  -- and it is known
  pub known_name : (names : List (List ℕ)) → names ≡ names_in agents → (a : ℕ) → a < length agents → is_unknown names (name_of agents a) ≡ false
  known_name names are a below =
      ap (λ ns. is_unknown ns (name_of agents a)) are
      ∙ ap not (list_any_at (bytes_eq (name_of agents a)) (names_in agents) a [] (omega (arith, count)) (same_text (name_of agents a) (get_or (names_in agents) a []) (sym (name_here a [] below))))

  -- the same for the names on a list
  pub all_named : (entries : List ℕ) → AreBelow (length agents) entries → list_all is_name (map (name_of agents) entries) ≡ true
  all_named [] below = refl
  all_named (e ∷ entries) below =
      and_from (is_name (name_of agents e)) (list_all is_name (map (name_of agents) entries)) (is_named e (below 0 (omega arith))) (all_named entries (below_tail (length agents) e entries below))

  -- the numbers of the names on a list are the list's entries
  pub all_back : (names : List (List ℕ)) → names ≡ names_in agents → (entries : List ℕ) → AreBelow (length agents) entries → map (number_in names) (map (name_of agents) entries) ≡ entries
  all_back names are [] below = refl
  all_back names are (e ∷ entries) below =
      ap (λ k. k ∷ map (number_in names) (map (name_of agents) entries)) (number_back names are e (below 0 (omega arith)))
      ∙ ap (λ t. e ∷ t) (all_back names are entries (below_tail (length agents) e entries below))

  -- no name on a list is unknown
  pub all_known : (names : List (List ℕ)) → names ≡ names_in agents → (entries : List ℕ) → AreBelow (length agents) entries → list_any (is_unknown names) (map (name_of agents) entries) ≡ false
  all_known names are [] below = refl
  all_known names are (e ∷ entries) below =
      ap (λ t. t || list_any (is_unknown names) (map (name_of agents) entries)) (known_name names are e (below 0 (omega arith)))
      ∙ all_known names are entries (below_tail (length agents) e entries below)

  -- where no entry is repeated, no name is
  pub none_repeated : (entries : List ℕ) → AreBelow (length agents) entries → ((i j : ℕ) → i < j → j < length entries → get_or entries i 0 ≢ get_or entries j 0)
      → has_repeated (map (name_of agents) entries) ≡ false
  none_repeated [] below differ = refl
  none_repeated (e ∷ entries) below differ =
      let first : list_any (bytes_eq (name_of agents e)) (map (name_of agents) entries) ≡ false =
      list_any_none (bytes_eq (name_of agents e)) (map (name_of agents) entries) (All-map (λ x. bytes_eq (name_of agents e) x ≡ false) (name_of agents) entries (other_name (below 0 (omega arith)))) in
      ap (λ t. t || has_repeated (map (name_of agents) entries)) first
      ∙ none_repeated entries (below_tail (length agents) e entries below) (λ i j before inside. differ (suc i) (suc j) (omega arith) (omega arith))
    where
      other_name : e < length agents → (k d : ℕ) → k < length entries → bytes_eq (name_of agents e) (name_of agents (get_or entries k d)) ≡ false
      other_name there k d inside =
          let plain : get_or entries k d ≡ get_or entries k 0 = get_or_default entries k d 0 inside in
          let x = get_or entries k 0 in
          ap (λ b. bytes_eq (name_of agents e) (name_of agents b)) plain
          ∙ other_text (name_of agents e) (name_of agents x)
          (λ same. differ 0 (suc k) (omega arith) (omega arith) (same_number e x there (below (suc k) (omega arith)) same))
