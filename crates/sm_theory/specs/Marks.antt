-- What is noted of the rotations of a chain, one after another, and tells what each one needs: which one moved each proposer
-- last, and which one moved a reviewer past each proposer of its list.
use Rattle.std.specs.Prelude.{◌≡◌, ℕ, ◌<◌, ◌⊎◌, List, [], Option, Some, None, IsSome, Vec, length, map, slice_index_or, Contains}
use Rattle.std.specs.declared.alloc.Global.{Global}
use Rattle.sm_market.specs.Lists.{Lists, row, entry, place_of}
use Rattle.sm_theory.specs.Rotations.{proposer_at, reviewer_at, target_at, next_in}
use Rattle.sm_theory.specs.Chains.{rotation_at}

-- what is noted of p
abbrev pub note_of : List (Option ℕ) → ℕ → Option ℕ
note_of notes p = slice_index_or notes p None

-- marks that are held in vectors, one for each proposer
abbrev pub marks_in : List (Vec (Option ℕ) Global) → List (List (Option ℕ))
marks_in rows = map (λ v. v.items) rows

-- the marks of p's list, and the one at place x
abbrev pub marks_of : List (List (Option ℕ)) → ℕ → List (Option ℕ)
marks_of marks p = slice_index_or marks p []

-- the mark at place x of p's list
abbrev pub mark_at : List (List (Option ℕ)) → (p x : ℕ) → Option ℕ
mark_at marks p x = note_of (marks_of marks p) x

-- one of the first n pairs has p
pub record Moves (rotation : List (ℕ × ℕ)) (n p : ℕ) : Type 0 where
  pub pair : ℕ
  pub pair_in : pair < n
  pub is : proposer_at rotation pair ≡ p

-- one of the first n pairs moves the reviewer at place x of p's list from a proposer that it likes less than p to one that
-- it likes more
pub record MovesOver (l : Lists) (rotation : List (ℕ × ℕ)) (n p x : ℕ) : Type 0 where
  pub pair : ℕ
  pub pair_in : pair < n
  pub reviewer : target_at rotation pair ≡ entry l.proposers p x
  pub gains : let r = entry l.proposers p x in place_of l.reviewers r (proposer_at rotation pair) < place_of l.reviewers r p
  pub loses : let r = entry l.proposers p x in place_of l.reviewers r p < place_of l.reviewers r (proposer_at rotation (next_in rotation pair))

-- each proposer that the first n rotations move is noted with the last one that moves it
pub record AreLastMoves (rotations : List (List (ℕ × ℕ))) (n : ℕ) (notes : List (Option ℕ)) : Type 0 where
  pub below : (p i : ℕ) → note_of notes p ≡ Some i → i < n
  pub moves : (p i : ℕ) → note_of notes p ≡ Some i → Moves (rotation_at rotations i) (length (rotation_at rotations i)) p
  pub last : (p i k : ℕ) → note_of notes p ≡ Some i → i < k → k < n → ¬ Moves (rotation_at rotations k) (length (rotation_at rotations k)) p
  pub noted : (p i : ℕ) → i < n → Moves (rotation_at rotations i) (length (rotation_at rotations i)) p → IsSome (note_of notes p)

-- for each of the proposers' lists there is a mark for each entry, or no mark at all
pub record AreMarksFor (l : Lists) (marks : List (List (Option ℕ))) : Type 0 where
  pub one_each : length marks ≡ length l.proposers
  pub as_long : (p : ℕ) → 0 < length (marks_of marks p) → length (marks_of marks p) ≡ length (row l.proposers p)

-- each entry over which one of the first n rotations moves its reviewer is marked with that rotation
pub record AreMarks (l : Lists) (rotations : List (List (ℕ × ℕ))) (n : ℕ) (marks : List (List (Option ℕ))) : Type 0 where
  pub for_entries : AreMarksFor l marks
  pub below : (p x i : ℕ) → mark_at marks p x ≡ Some i → i < n
  pub moves : (p x i : ℕ) → mark_at marks p x ≡ Some i → MovesOver l (rotation_at rotations i) (length (rotation_at rotations i)) p x
  pub all : (p x i : ℕ) → x < length (row l.proposers p) → i < n
      → MovesOver l (rotation_at rotations i) (length (rotation_at rotations i)) p x → mark_at marks p x ≡ Some i

-- the proposers of the first n pairs are noted with the number j, and all else stays
pub record AreMoved (rotation : List (ℕ × ℕ)) (n j : ℕ) (before after : List (Option ℕ)) : Type 0 where
  pub one_each : length after ≡ length before
  pub moved : (i : ℕ) → i < n → note_of after (proposer_at rotation i) ≡ Some j
  pub only : (p : ℕ) → (note_of after p ≡ note_of before p) ⊎ ((note_of after p ≡ Some j) × Moves rotation n p)

-- the entries over which the first n pairs move their reviewers are marked with the number j, and all else stays
pub record AreMarked (l : Lists) (rotation : List (ℕ × ℕ)) (n j : ℕ) (before after : List (List (Option ℕ))) : Type 0 where
  pub for_entries : AreMarksFor l after
  pub marked : (p x : ℕ) → x < length (row l.proposers p) → MovesOver l rotation n p x → mark_at after p x ≡ Some j
  pub only : (p x : ℕ) → (mark_at after p x ≡ mark_at before p x) ⊎ ((mark_at after p x ≡ Some j) × MovesOver l rotation n p x)

-- one of the first n pairs has a proposer that rotation i moved last
pub record IsLastOf (rotation : List (ℕ × ℕ)) (n : ℕ) (notes : List (Option ℕ)) (i : ℕ) : Type 0 where
  pub pair : ℕ
  pub pair_in : pair < n
  pub noted : note_of notes (proposer_at rotation pair) ≡ Some i

-- a mark behind the place `from` and before the place `to` has the number i
pub record IsBetween (marks : List (Option ℕ)) (from to i : ℕ) : Type 0 where
  pub place : ℕ
  pub behind : from < place
  pub before : place < to
  pub marked : note_of marks place ≡ Some i

-- one of the first n pairs moves its proposer past an entry that is marked with i
pub record IsPassedBy (l : Lists) (rotation : List (ℕ × ℕ)) (n : ℕ) (marks : List (List (Option ℕ))) (i : ℕ) : Type 0 where
  pub pair : ℕ
  pub pair_in : pair < n
  pub between : let p = proposer_at rotation pair in
      IsBetween (marks_of marks p) (place_of l.proposers p (reviewer_at rotation pair)) (place_of l.proposers p (target_at rotation pair)) i

-- what the first n pairs of a rotation are found to need
abbrev pub IsFoundNeed : Lists → List (ℕ × ℕ) → ℕ → List (Option ℕ) → List (List (Option ℕ)) → ℕ → Type 0
IsFoundNeed l rotation n notes marks i = IsLastOf rotation n notes i ⊎ IsPassedBy l rotation n marks i

-- the entry at place x of p's list gets a mark, and all else stays
pub record IsEntryMarked (l : Lists) (p x : ℕ) (mark : Option ℕ) (before after : List (List (Option ℕ))) : Type 0 where
  pub for_entries : AreMarksFor l after
  pub marked : mark_at after p x ≡ mark
  pub only : (q y : ℕ) → (mark_at after q y ≡ mark_at before q y) ⊎ ((q ≡ p) × (y ≡ x))

-- r stands at place x of p's list, and p on r's list behind the place `better` and before the place `worse`
pub record IsSpan (l : Lists) (r better worse p x : ℕ) : Type 0 where
  pub place : ℕ
  pub behind : better < place
  pub before : place < worse
  pub proposer : p ≡ entry l.reviewers r place
  pub at : x ≡ place_of l.proposers p r

-- these entries are marked with the number j, and all else stays
pub record IsSpanMarked (l : Lists) (r better worse j : ℕ) (before after : List (List (Option ℕ))) : Type 0 where
  pub for_entries : AreMarksFor l after
  pub marked : (p x : ℕ) → IsSpan l r better worse p x → mark_at after p x ≡ Some j
  pub only : (p x : ℕ) → (mark_at after p x ≡ mark_at before p x) ⊎ ((mark_at after p x ≡ Some j) × IsSpan l r better worse p x)

-- a list holds what it held and in addition all numbers that are P
pub record Adds (P : ℕ → Type 0) (before after : List ℕ) : Type 0 where
  pub kept : (i : ℕ) → Contains before i → Contains after i
  pub added : (i : ℕ) → P i → Contains after i
  pub only : (i : ℕ) → Contains after i → Contains before i ⊎ P i
