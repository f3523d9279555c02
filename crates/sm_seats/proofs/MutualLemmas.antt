-- Who is on a list without inert entries, and in which order.
use Rattle.std.proofs.Common.{◌≡◌, ℕ, ◌<◌, true, List, length, get_or, refl}
use Rattle.sm_lists.specs.Rows.{place_on}
use Rattle.sm_lists.proofs.PlaceLemmas.{place_on-lt, place_on_is}
use Rattle.sm_agents.specs.Written.{AgentData, Written, row, place_of, IsAcceptable}
use Rattle.sm_agents.specs.Sound.{AreSoundEntries}
use Rattle.sm_instance.proofs.AcceptLemmas.{lt_true, true_lt}
use Rattle.sm_seats.specs.Mutual.{lists_back, mutual_row}
use Rattle.sm_seats.proofs.FilterLemmas.{kept, kept_passes, kept_order, kept_order_back, AreDistinct, kept_distinct}

-- a lists b and b lists a
pub record IsMutual (agents others : List AgentData) (a b : ℕ) : Type 0 where
  pub lists : place_of agents a b < length (row agents a)
  pub listed : place_of others b a < length (row others b)

-- the same with the sides exchanged
pub mutual_turned : {agents others : List AgentData} {a b : ℕ} → IsMutual agents others a b → IsMutual others agents b a
mutual_turned m = record { lists = m.listed; listed = m.lists }

-- of a proposer and a reviewer this is to be acceptable to each other
pub acceptable_mutual : {w : Written} {p r : ℕ} → IsAcceptable w p r → IsMutual w.proposers w.reviewers p r
acceptable_mutual h = record { lists = h.proposer_lists; listed = h.reviewer_lists }

-- and those who list each other are acceptable to each other
pub mutual_acceptable : {w : Written} {p r : ℕ} → IsMutual w.proposers w.reviewers p r → IsAcceptable w p r
mutual_acceptable h = record { proposer_lists = h.lists; reviewer_lists = h.listed }

passes : {agents others : List AgentData} {a b : ℕ} → IsMutual agents others a b → lists_back others a b ≡ true
passes m = lt_true _ _ m.listed

-- those on the list are mutual, and who is mutual is on it
pub on_row : (agents others : List AgentData) (a b : ℕ) → place_on (mutual_row agents others a) b < length (mutual_row agents others a) → IsMutual agents others a b
on_row agents others a b h =
    let both = kept_passes (lists_back others a) (row agents a) b h in
    record { lists = both.1; listed = true_lt _ _ both.0 }

-- who is mutual is on the list
pub mutual_on_row : {agents others : List AgentData} {a b : ℕ} → IsMutual agents others a b → place_on (mutual_row agents others a) b < length (mutual_row agents others a)
mutual_on_row {agents} {others} {a} {b} m = kept (lists_back others a) (row agents a) b (passes m) m.lists

-- and whoever has a place there is mutual
pub entry_mutual : (agents others : List AgentData) (a i : ℕ) → i < length (mutual_row agents others a) → IsMutual agents others a (get_or (mutual_row agents others a) i 0)
entry_mutual agents others a i h = on_row agents others a _ (place_on-lt (mutual_row agents others a) _ i h refl)

-- the order on the list is the order on the written one
pub order_kept : {agents others : List AgentData} {a b c : ℕ} → IsMutual agents others a b → IsMutual agents others a c → place_of agents a b < place_of agents a c
    → place_on (mutual_row agents others a) b < place_on (mutual_row agents others a) c
order_kept {agents} {others} {a} {b} {c} m n h = kept_order (lists_back others a) (row agents a) b c (passes m) (passes n) h

-- and tells it
pub order_back : {agents others : List AgentData} {a b c : ℕ} → IsMutual agents others a b → IsMutual agents others a c
    → place_on (mutual_row agents others a) b < place_on (mutual_row agents others a) c → place_of agents a b < place_of agents a c
order_back {agents} {others} {a} {b} {c} m n h = kept_order_back (lists_back others a) (row agents a) b c (passes m) (passes n) m.lists h

-- written lists have no repeats
pub row_distinct : {agents : List AgentData} {others : ℕ} → AreSoundEntries agents others → (a : ℕ) → AreDistinct (row agents a)
row_distinct sound a = record { distinct = λ i j less on. (sound.sound a j on).fresh i less }

-- nor have those without inert entries
pub mutual_distinct : {agents : List AgentData} {others : ℕ} → AreSoundEntries agents others → (rest : List AgentData) (a : ℕ) → AreDistinct (mutual_row agents rest a)
mutual_distinct {agents} sound rest a = kept_distinct (lists_back rest a) (row agents a) (row_distinct sound a)

-- on a list without repeats each entry has its own place
pub place_on-get_or : (xs : List ℕ) (i : ℕ) → AreDistinct xs → i < length xs → place_on xs (get_or xs i 0) ≡ i
place_on-get_or xs i d h = place_on_is xs (get_or xs i 0) i h refl (λ k l. d.distinct k i l h)
