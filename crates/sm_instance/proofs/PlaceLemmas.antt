-- Where an agent stands on the list of an agent.
use Rattle.std.proofs.Common.{◌≡◌, ◌≢◌, ℕ, ◌<◌, ◌≤◌, List, Option, Some, None, length, sym, ap, ◌∙◌, arith}
use Rattle.std.proofs.lemmas.Bool.Decides.{nat_tests}
use Rattle.sm_lists.proofs.PlaceLemmas.{place_on-le-at, place_on_is, place_on-none, length-le-range}
use Rattle.sm_text.specs.Limits.{most_agents}
use Rattle.sm_agents.specs.Written.{AgentData, row, entry, place_of}
use Rattle.sm_agents.specs.Sound.{AreSoundEntries}
use Rattle.sm_instance.specs.Crosses.{cross_place}

-- a list has no more entries than there are agents of the other side
pub length-row-le-others : {agents : List AgentData} {others : ℕ} → AreSoundEntries agents others → (a : ℕ) → length (row agents a) ≤ others
length-row-le-others {agents} {others} sound a =
    length-le-range (row agents a) others (λ i on. (sound.sound a i on).in_range) (λ i j less on same. (sound.sound a j on).fresh i less same)

-- so a list is short, where there are few of them
pub length-list-le : {agents : List AgentData} {others : ℕ} {list : List ℕ} → AreSoundEntries agents others → others ≤ most_agents → (a : ℕ) → list ≡ row agents a → length list ≤ most_agents
length-list-le sound few a is = let le = length-row-le-others sound a in let long = ap length is in omega arith

-- whoever stands at a place has that place or one before
pub place_of-le-at : (agents : List AgentData) (a b i : ℕ) → entry agents a i ≡ b → place_of agents a b ≤ i
place_of-le-at agents a b i e = place_on-le-at (row agents a) b i e

-- on a list without repeats each entry has its own place
pub place_of-entry : {agents : List AgentData} {others : ℕ} → AreSoundEntries agents others → (a b i : ℕ) → i < length (row agents a) → entry agents a i ≡ b → place_of agents a b ≡ i
place_of-entry {agents} sound a b i h e = place_on_is (row agents a) b i h e (λ k l same. (sound.sound a i h).fresh k l (same ∙ sym e))

-- the place that is on a list, and the one that isn't
pub place_found : {agents : List AgentData} {others : ℕ} → AreSoundEntries agents others → (a b i : ℕ) → i < length (row agents a) → entry agents a i ≡ b → Some i ≡ cross_place agents a b
place_found {agents} sound a b i on there = let place : place_of agents a b ≡ i = place_of-entry sound a b i on there in grind (arith, nat_tests)

-- who is at no place of a's list has no cross place there
pub place_missing : (agents : List AgentData) (a b : ℕ) → ((i : ℕ) → i < length (row agents a) → entry agents a i ≢ b) → let none : Option ℕ = None in none ≡ cross_place agents a b
place_missing agents a b unlisted = let place : place_of agents a b ≡ length (row agents a) = place_on-none (row agents a) b unlisted in grind (arith, nat_tests)
