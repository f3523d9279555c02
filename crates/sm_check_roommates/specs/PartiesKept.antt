-- What is kept of the parties that an answer has written so far.
use Rattle.std.specs.Prelude.{◌≡◌, ◌≢◌, ℕ, ◌+◌, ◌*◌, ◌<◌, ◌==◌, ◌⊎◌, ◌↔◌, ◌++◌, ◌∷◌, [], if◌then◌else◌, Bool, true, false, IsTrue, List, length, slice_index, slice_index_or}
use Rattle.std.specs.List.{list_any}
use Rattle.sm_agents.specs.Written.{AgentData, lists_of}
use Rattle.sm_report.specs.Lines.{LineData}
use Rattle.sm_check_clauses.specs.Said.{parties_in}
use Rattle.sm_check_clauses.specs.Rooming.{members_of, next_of, AreNew, HasOddParty}

-- whether a person stands among some, and whether it was met
abbrev pub is_among : ℕ → List ℕ → Bool
is_among z xs = list_any (λ y. y == z) xs

-- whether a person was met
abbrev pub is_met : List Bool → ℕ → Bool
is_met met z = slice_index_or met z false

-- the first k persons of a party were met, and nobody else but those who had been
pub record AreMet (party : List ℕ) (old : List Bool) (k : ℕ) (met : List Bool) : Type 0 where
  pub one_each : length met ≡ length old
  pub fresh : (j : ℕ) → j < k → is_met old (slice_index party j) ≡ false
  pub distinct : (i j : ℕ) → i < j → j < k → slice_index party i ≢ slice_index party j
  pub told : (j : ℕ) → j < k → is_met met (slice_index party j) ≡ true
  pub kept : (z : ℕ) → is_met old z ≡ true → is_met met z ≡ true
  pub only : (z : ℕ) → is_met met z ≡ true → (is_met old z ≡ true) ⊎ ((j : ℕ) × (j < k) × (slice_index party j ≡ z))

-- a person of a party had been met, or stands in it before
pub record HasRepeatedPerson (party : List ℕ) (old : List Bool) : Type 0 where
  pub at : ℕ
  pub on_list : at < length party
  pub before : (is_met old (slice_index party at) ≡ true) ⊎ ((j : ℕ) × (j < at) × (slice_index party j ≡ slice_index party at))

-- true says that all persons of the party were met now for the first time, and false that one is repeated
abbrev pub MeetsParty : List ℕ → (old new : List Bool) → Bool → Type 0
MeetsParty party old new true = AreMet party old (length party) new
MeetsParty party old new false = HasRepeatedPerson party old

-- who follows the person at place j of a party
abbrev pub follower : List ℕ → ℕ → ℕ
follower party j = slice_index party (if j + 1 == length party then 0 else j + 1)

-- the first k persons of a party have their followers, and all others whom they had
pub record AreLinked (party old : List ℕ) (k : ℕ) (next : List ℕ) : Type 0 where
  pub one_each : length next ≡ length old
  pub told : (j : ℕ) → j < k → slice_index next (slice_index party j) ≡ follower party j
  pub kept : (z : ℕ) → ((j : ℕ) → j < k → slice_index party j ≢ z) → slice_index next z ≡ slice_index old z

-- an odd number, three or more
pub record IsOdd (n : ℕ) : Type 0 where
  pub half : ℕ
  pub three : 0 < half
  pub odd : n ≡ 2 * half + 1

-- who follows each of so many persons in the parties, who stands in them, and whether one is odd
pub record ArePartiesHeld (persons : ℕ) (parties : List (List ℕ)) (next : List ℕ) (met : List Bool) (odd : Bool) : Type 0 where
  pub next_each : length next ≡ persons
  pub met_each : length met ≡ persons
  pub in_range : (z : ℕ) → z < persons → slice_index next z < persons
  pub nexts : (z : ℕ) → z < persons → slice_index next z ≡ next_of parties z
  pub stand : (z : ℕ) → z < persons → is_met met z ≡ is_among z (members_of parties)
  pub has_odd : IsTrue odd ↔ HasOddParty parties

-- one more party may stand behind these, and is kept too; or it may not
pub record HasParted (parties : List (List ℕ)) (party : List ℕ) (persons : ℕ) (next : List ℕ) (met : List Bool) (odd : Bool) : Type 0 where
  pub fresh : AreNew parties party
  pub held : ArePartiesHeld persons (parties ++ party ∷ []) next met odd

-- true says that the party is kept, and false that it isn't new
abbrev pub KeepsParty : List (List ℕ) → List ℕ → (persons : ℕ) → (next : List ℕ) → (met : List Bool) → (odd result : Bool) → Type 0
KeepsParty parties party persons next met odd true = HasParted parties party persons next met odd
KeepsParty parties party persons next met odd false = ¬ AreNew parties party

-- the parties of the lines above are kept, over the lists of these persons
pub record ArePartiesKept (persons : List AgentData) (rows : List (List ℕ)) (above : List LineData) (next : List ℕ) (met : List Bool) (odd : Bool) : Type 0 where
  pub lists : rows ≡ lists_of persons
  pub held : ArePartiesHeld (length rows) (parties_in above) next met odd
