-- The lines of couples and of parties.
use Rattle.std.proofs.Common.{◌≡◌, ℕ, zero, suc, ◌-◌, ◌<◌, ◌≤◌, ◌^◌, nat_lt, cond, Bool, true, false, Vec, Global, List, [], ◌∷◌, ◌++◌, Option, Some, None, length, refl, sym, ap, subst, ◌∙◌, arith}
use Rattle.std.specs.List.{All}
use Rattle.std.proofs.lemmas.List.{length-map}
use Rattle.std.proofs.lemmas.List.Elements.{All-append, All-cons}
use Rattle.std.proofs.lemmas.Grind.{get_or_default_zero}
use Rattle.sm_answer.specs.Lines.{line_or_none, lines_from}
use Rattle.sm_answer.proofs.AnswerLemmas.{lines_each, one_all}
use Rattle.sm_agents.specs.Written.{AgentData, lists_of}
use Rattle.sm_agents.specs.Sound.{ArePersons}
use Rattle.sm_instance.specs.declared.inputs.Input.{Input}
use Rattle.sm_instance.specs.declared.inputs.Input.TheVariants.{Room}
use Rattle.sm_lists.specs.Rows.{row, entry, rows_of}
use Rattle.sm_report.specs.Heads.{HeadData}
use Rattle.sm_report.specs.Lines.{LineData}
use Rattle.sm_report.specs.Sound.{IsLineOf}
use Rattle.sm_theory.specs.Rooms.{mate_of, IsRoomMatching, IsRoomStable}
use Rattle.sm_answer_roommates.specs.Parties.{AreParties}
use Rattle.sm_answer_roommates.specs.RoomAnswer.{answer_lines, couple_with, couple_line, couple_lines, party_line, party_lines, AreExcluding}
use Rattle.sm_lists.proofs.RowLemmas.{row_in_range}

-- Lines of the instance.

none_left : (P : LineData → Type 0) → All P []
none_left P = λ k d l. absurd (omega arith)

head_sound : (persons : List AgentData) → IsLineOf (Room persons) (LineData.Answer (HeadData.Solve None))
head_sound persons = record { printable = tt; seats = λ k d l. absurd (omega arith); numbers = tt; head = refl }

pub end_sound : (persons : List AgentData) → IsLineOf (Room persons) LineData.End
end_sound persons = record { printable = tt; seats = λ k d l. absurd (omega arith); numbers = tt; head = tt }

none_sound : (persons : List AgentData) → IsLineOf (Room persons) LineData.Nothing
none_sound persons = record { printable = tt; seats = λ k d l. absurd (omega arith); numbers = tt; head = tt }

answer_sound : {input : Input} {persons : List AgentData} (none : List LineData) (line : ℕ → Option LineData) (count : ℕ) → input ≡ Room persons → All (IsLineOf (Room persons)) none
    → ((i : ℕ) → i < count → All (IsLineOf (Room persons)) (line_or_none (line i))) → All (IsLineOf input) (answer_lines none line count)
answer_sound {input} {persons} none line count room nothing each =
    let P = IsLineOf (Room persons) in
    let shown = lines_from line 0 count in
    let behind : All P (shown ++ (LineData.End ∷ [])) = All-append P shown (LineData.End ∷ []) (lines_each P line 0 count (λ i l. each i (omega (arith, l)))) (one_all P LineData.End (end_sound persons)) in
    let whole : All P (answer_lines none line count) = All-cons P (LineData.Answer (HeadData.Solve None)) _ (head_sound persons) (All-append P none (shown ++ (LineData.End ∷ [])) nothing behind) in
    subst (λ (i : Input). All (IsLineOf i) (answer_lines none line count)) (sym room) whole

pub many : (persons : List AgentData) → length (lists_of persons) ≡ length persons
many persons = length-map persons (λ (person : AgentData). person.entries)

pub couple_sound : (persons : List AgentData) (mates : List (Option ℕ)) → IsRoomMatching (lists_of persons) mates → (x : ℕ) → All (IsLineOf (Room persons)) (line_or_none (couple_line mates x))
couple_sound persons mates m x = by_mate (mate_of mates x) refl
  where
    by_test : (y : ℕ) (t : Bool) → x < length persons → y < length persons → All (IsLineOf (Room persons)) (line_or_none (cond t (Some (LineData.Pair x y)) None))
    by_test y true a b = one_all (IsLineOf (Room persons)) (LineData.Pair x y) (record { printable = (a, b); seats = λ k d l. absurd (omega arith); numbers = tt; head = tt })
    by_test y false a b = none_left (IsLineOf (Room persons))

    by_mate : (o : Option ℕ) → mate_of mates x ≡ o → All (IsLineOf (Room persons)) (line_or_none (couple_with x o))
    by_mate None e = none_left (IsLineOf (Room persons))
    by_mate (Some y) e =
        let both = m.acceptable x y e in
        let a = row_in_range (lists_of persons) x _ both.listed in
        let b = row_in_range (lists_of persons) y _ both.returned in
        by_test y (nat_lt x y) (omega (arith, a, many persons)) (omega (arith, b, many persons))

party_sound : (persons : List AgentData) (next : List ℕ) (parties : List (List ℕ)) → AreParties next parties → length next ≡ length persons → (k : ℕ) → k < length parties → All (IsLineOf (Room persons)) (line_or_none (party_line parties k))
party_sound persons next parties all count k on =
    let inside : All (λ x. x < length persons) (row parties k) =
    λ i d l. let lt = (all.each k on).inside i l in omega (arith, lt, count, get_or_default_zero (row parties k) i d l) in
    one_all (IsLineOf (Room persons)) (LineData.Party (row parties k)) (record { printable = inside; seats = λ k d l. absurd (omega arith); numbers = tt; head = tt })

-- the couples of a stable matching are lines of the instance
pub couples_sound : {input : Input} {persons : List AgentData} {mates : List (Option ℕ)} → input ≡ Room persons → IsRoomStable (lists_of persons) mates → All (IsLineOf input) (couple_lines mates)
couples_sound {input} {persons} {mates} room stable =
    answer_sound [] (couple_line mates) (length mates) room (none_left (IsLineOf (Room persons))) (λ x l. couple_sound persons mates stable.matching x)

-- the parties that exclude stable matchings are lines of the instance
pub all_parties_sound : {persons : List AgentData} (parties : List (List ℕ)) → AreExcluding (lists_of persons) parties → All (IsLineOf (Room persons)) (party_lines parties)
all_parties_sound {persons} parties e =
    answer_sound (LineData.Nothing ∷ []) (party_line parties) (length parties) refl (one_all (IsLineOf (Room persons)) LineData.Nothing (none_sound persons))
    (λ k l. party_sound persons e.next parties e.all (e.partition.one_each ∙ many persons) k l)

abbrev parties_given : List (Vec ℕ Global) → List LineData
parties_given parties = answer_lines (LineData.Nothing ∷ []) (party_line (rows_of parties)) (length parties)

-- and so where the parties are held in vectors
pub parties_sound : {input : Input} {persons : List AgentData} (parties : List (Vec ℕ Global)) → input ≡ Room persons → AreExcluding (lists_of persons) (rows_of parties) → All (IsLineOf input) (parties_given parties)
parties_sound {input} {persons} parties room e =
    answer_sound (LineData.Nothing ∷ []) (party_line (rows_of parties)) (length parties) room (one_all (IsLineOf (Room persons)) LineData.Nothing (none_sound persons))
    (λ k l. party_sound persons e.next (rows_of parties) e.all (e.partition.one_each ∙ many persons) k (omega (arith, l, length-map parties (λ (v : Vec ℕ Global). v.items))))

-- the lines of parties in vectors are those of the parties
pub parties_are : (parties : List (Vec ℕ Global)) → parties_given parties ≡ party_lines (rows_of parties)
parties_are parties = ap (answer_lines (LineData.Nothing ∷ []) (party_line (rows_of parties))) (sym (length-map parties (λ (v : Vec ℕ Global). v.items)))

-- The lines that are given.

-- the answer as it is given, piece by piece
abbrev pub lines_given : List LineData → (ℕ → Option LineData) → ℕ → List LineData
lines_given none line count = (LineData.Answer (HeadData.Solve None) ∷ []) ++ (none ++ (lines_from line 0 (count - 0) ++ (LineData.End ∷ [])))

-- together these are all its lines
pub given_is : (none : List LineData) (line : ℕ → Option LineData) (count : ℕ) → lines_given none line count ≡ answer_lines none line count
given_is none line count = let n : count - 0 ≡ count = omega arith in ap (answer_lines none line) n

-- so they are lines of the instance where those are
pub given_sound : {input : Input} (none : List LineData) (line : ℕ → Option LineData) (count : ℕ) → All (IsLineOf input) (answer_lines none line count) → All (IsLineOf input) (lines_given none line count)
given_sound {input} none line count sound = subst (All (IsLineOf input)) (sym (given_is none line count)) sound

-- There are few of both.

-- the persons of a matching are few
pub mates_fit : {persons : List AgentData} {mates : List (Option ℕ)} → ArePersons persons → IsRoomStable (lists_of persons) mates → length mates < 2 ^ 32
mates_fit {persons} h stable = omega (arith, h.limits.proposers, stable.matching.one_each, many persons)

-- parties with rising first members are no more than their members
first_above : {next : List ℕ} {parties : List (List ℕ)} → AreParties next parties → (k : ℕ) → k < length parties → k ≤ entry parties k 0
first_above all zero on = omega arith
first_above all (suc k) on = let deep = first_above all k (omega arith) in let less = all.rising k (suc k) (omega arith) on in omega arith

-- so the parties are few
pub parties_fit : {persons : List AgentData} (parties : List (Vec ℕ Global)) → ArePersons persons → AreExcluding (lists_of persons) (rows_of parties) → length parties < 2 ^ 32
parties_fit {persons} parties h e = fits (length (rows_of parties)) refl
  where
    fits : (n : ℕ) → length (rows_of parties) ≡ n → length parties < 2 ^ 32
    fits zero none = omega (arith, length-map parties (λ (v : Vec ℕ Global). v.items))
    fits (suc k) some =
        let deep = first_above e.all k (omega (arith, some)) in
        let p = e.all.each k (omega (arith, some)) in
        let lt = p.inside 0 p.some in
        omega (arith, deep, lt, some, e.partition.one_each, many persons, h.limits.proposers, length-map parties (λ (v : Vec ℕ Global). v.items))
