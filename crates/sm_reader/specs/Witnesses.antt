-- Texts with what they mean by hand: the first thing that stands in their way, or the instance.
use Rattle.std.specs.Prelude.{◌≡◌, ℕ, List, [], ◌∷◌, ◌++◌, length, map, replicate, Option, Some, None, Ok, Err, pos, negsuc, codes}
use Rattle.std.specs.List.{flat_map}
use Rattle.sm_text.specs.Lines.{LF}
use Rattle.sm_text.specs.declared.refusal.RefusalKind.{RefusalKind}
use Rattle.sm_text.specs.declared.refusal.RefusalKind.TheVariants.{BadByte, BadHeader, BadLine, BadName, BadNumber, Redeclared, RepeatedEntry, RepeatedWeight, TooLong, TooManyAgents, TooManyEntries, MissingEnd, UnknownName}
use Rattle.sm_agents.specs.Written.{plain_written}
use Rattle.sm_agents.specs.declared.kinds.Kind.TheVariants.{Marriage, Hospitals}
use Rattle.sm_agents.specs.declared.kinds.Side.TheVariants.{Proposers, Reviewers}
use Rattle.sm_instance.specs.declared.inputs.Input.TheVariants.{Two, Room}
use Rattle.sm_agents.specs.Named.{SaidAgent, Said, nothing}
use Rattle.sm_forms.specs.Forms.{declares}
use Rattle.sm_reader.specs.Judging.{fault_of}
use Rattle.sm_reader.specs.InstanceText.{instance_text}

-- lines, each with its end
abbrev pub text_of : List (List ℕ) → List ℕ
text_of lines = flat_map (λ line. line ++ LF ∷ []) lines

-- the texts of these lines are refused for the kinds and at the lines beside them
abbrev pub Row : Type 0
Row = List (List ℕ) × RefusalKind × ℕ

-- each text is refused for the kind and at the line beside it
abbrev pub AreRefused : List Row → Type 0
AreRefused rows =
    map (λ (row : Row). instance_text (text_of row.0)) rows ≡ map (λ (row : Row). Err (row.1, row.2)) rows

-- the same of a marriage and of hospitals, by the lines behind the header, which is line 1
abbrev pub under : List ℕ → List Row → List Row
under header rows = map (λ (row : Row). (header ∷ row.0, row.1, row.2)) rows

-- the header of a marriage
abbrev pub marriage : List ℕ
marriage = codes "stable 1 marriage"

-- the header of hospitals
abbrev pub hospitals : List ℕ
hospitals = codes "stable 1 hospitals"

-- headers that are missing or aren't right, and forms that a kind doesn't have
abbrev pub HeadersRefused : Type 0
HeadersRefused = AreRefused (
    ([], BadHeader, 1)
    ∷ (codes "# no header" ∷ codes "" ∷ [], BadHeader, 3)
    ∷ (codes "" ∷ codes "p a:" ∷ [], BadHeader, 2)
    ∷ (codes "stable 3 marriage" ∷ [], BadHeader, 1)
    ∷ (codes "stable 2" ∷ [], BadHeader, 1)
    ∷ (codes "stable 1 marriage!" ∷ [], BadByte, 1)
    ∷ (codes "stable 1 marriage ;" ∷ [], BadByte, 1)
    ∷ (codes "p" ∷ codes "stable 1 marriage ;" ∷ [], BadHeader, 1)
    ∷ (codes "stable 1 roommates" ∷ codes "r x:" ∷ [], BadLine, 2)
    ∷ (codes "stable 1 hospitals" ∷ codes "r h [4097]:" ∷ [], BadNumber, 2) ∷ [])

-- each fault of a marriage once
abbrev pub EachRefused : Type 0
EachRefused = AreRefused (under marriage (
    ((codes "p a" ++ (13 ∷ []) ++ codes "b:") ∷ codes "end" ∷ [], BadByte, 2)
    ∷ (codes "stable 1 marriage" ∷ [], BadLine, 2)
    ∷ (codes "r x [1]:" ∷ [], BadLine, 2)
    ∷ (codes "p a: .x" ∷ [], BadName, 2)
    ∷ (codes "weight a x -1000000001" ∷ [], BadNumber, 2)
    ∷ (codes "p a:" ∷ codes "r a:" ∷ codes "p a:" ∷ [], Redeclared, 4)
    ∷ (codes "p a: x y x" ∷ [], RepeatedEntry, 2)
    ∷ (codes "weight a x 1" ∷ codes "weight a y 1" ∷ codes "weight a x 2" ∷ [], RepeatedWeight, 4)
    ∷ (codes "p a:" ∷ [], MissingEnd, 3)
    ∷ (codes "p a: x" ∷ codes "end" ∷ [], UnknownName, 2)
    ∷ (codes "p a:" ∷ codes "r x:" ∷ codes "forbid a x" ∷ codes "force x a" ∷ codes "end" ∷ [], UnknownName, 5) ∷ []))

-- of two faults of a line the first in the order of the faults counts
abbrev pub FirstRefused : Type 0
FirstRefused = AreRefused (under marriage (
    (codes "q a ;" ∷ [], BadByte, 2)
    ∷ (codes "p -a: x ;" ∷ [], BadByte, 2)
    ∷ (codes "p a:" ∷ codes "p a: ;" ∷ [], BadByte, 3)
    ∷ (codes "p a: x x ;" ∷ [], BadByte, 2)
    ∷ (codes "weight a x 1" ∷ codes "weight a x 1 ;" ∷ [], BadByte, 3)
    ∷ (codes "p -a -b" ∷ [], BadLine, 2)
    ∷ (codes "weight a x 01 y" ∷ [], BadLine, 2)
    ∷ (codes "p a:" ∷ codes "p a: :" ∷ [], BadLine, 3)
    ∷ (codes "p a: x x :" ∷ [], BadLine, 2)
    ∷ (codes "weight a x 1" ∷ codes "weight a x 1 1" ∷ [], BadLine, 3)
    ∷ (codes "p a:" ∷ codes "p a: -x" ∷ [], BadName, 3)
    ∷ (codes "p a: -x -x" ∷ [], BadName, 2)
    ∷ (codes "weight a x 1" ∷ codes "weight a x 01" ∷ [], BadNumber, 3)
    ∷ (codes "p a:" ∷ codes "p a: x x" ∷ [], Redeclared, 3) ∷ []))

-- of two faults of a line of hospitals the first counts too
abbrev pub HospitalsRefused : Type 0
HospitalsRefused = AreRefused (under hospitals (
    (codes "r h [x]: ;" ∷ [], BadByte, 2)
    ∷ (codes "r -h [x]:" ∷ [], BadName, 2)
    ∷ (codes "r h:" ∷ codes "r h [x]:" ∷ [], BadNumber, 3)
    ∷ (codes "r h [01]: a a" ∷ [], BadNumber, 2) ∷ []))

-- a fault counts before those of later lines
abbrev pub EarlierRefused : Type 0
EarlierRefused = AreRefused (under marriage (
    (codes "p b" ∷ codes ";" ∷ [], BadLine, 2)
    ∷ (codes "p -b:" ∷ codes ";" ∷ [], BadName, 2)
    ∷ (codes "weight a x +1" ∷ codes "p b" ∷ [], BadByte, 2)
    ∷ (codes "weight a x -0" ∷ codes ";" ∷ [], BadNumber, 2)
    ∷ (codes "p b:" ∷ codes "p b:" ∷ codes ";" ∷ [], Redeclared, 3)
    ∷ (codes "p b: x x" ∷ codes ";" ∷ [], RepeatedEntry, 2)
    ∷ (codes "weight a x 1" ∷ codes "weight a x 1" ∷ codes ";" ∷ [], RepeatedWeight, 3)
    ∷ ((1 ∷ []) ∷ codes "p b" ∷ [], BadByte, 2)
    ∷ (codes "p a: x" ∷ [], MissingEnd, 3)
    ∷ (codes "force a x" ∷ codes "p a: y" ∷ codes "end" ∷ [], UnknownName, 2) ∷ []))

-- what format 2 adds is of no form in format 1
abbrev pub AddedRefused : Type 0
AddedRefused = AreRefused (
    under marriage (
    (codes "master L: x" ∷ [], BadLine, 2)
    ∷ (codes "p a: [L]" ∷ [], BadLine, 2)
    ∷ (codes "order a" ∷ [], BadLine, 2)
    ∷ (codes "weight a x 1 1" ∷ [], BadLine, 2) ∷ [])
    ++ under (codes "stable 2 roommates") (
    (codes "order" ∷ [], BadLine, 2)
    ∷ (codes "weight a b 1 1" ∷ [], BadLine, 2) ∷ []))

-- the header of a marriage by format 2
abbrev pub second_marriage : List ℕ
second_marriage = codes "stable 2 marriage"

-- each fault of a line that format 2 adds
abbrev pub SecondRefused : Type 0
SecondRefused = AreRefused (under second_marriage (
    (codes "p a: [L] x" ∷ [], BadLine, 2)
    ∷ (codes "p a: []" ∷ [], BadLine, 2)
    ∷ (codes "r x [1]: [L]" ∷ [], BadLine, 2)
    ∷ (codes "order: a" ∷ [], BadLine, 2)
    ∷ (codes "p a: [L]" ∷ codes "master L: x" ∷ [], BadName, 2)
    ∷ (codes "master -L: x" ∷ [], BadName, 2)
    ∷ (codes "p a:" ∷ codes "p a: [L]" ∷ [], BadName, 3)
    ∷ (codes "weight a x 1 01" ∷ [], BadNumber, 2)
    ∷ (codes "master L:" ∷ codes "master L: x x" ∷ [], Redeclared, 3)
    ∷ (codes "order" ∷ codes "order a a" ∷ [], Redeclared, 3)
    ∷ (codes "master L: x x" ∷ [], RepeatedEntry, 2)
    ∷ (codes "order a a" ∷ [], RepeatedEntry, 2)
    ∷ (codes "weight a x 1" ∷ codes "weight a x 1 2" ∷ [], RepeatedWeight, 3)
    ∷ (codes "master L: x" ∷ codes "p a: [L]" ∷ codes "end" ∷ [], UnknownName, 3)
    ∷ (codes "r a:" ∷ codes "order a" ∷ codes "end" ∷ [], UnknownName, 3) ∷ []))

-- a text of a byte too many
abbrev pub LongRefused : Type 0
LongRefused = (bytes : List ℕ) → length bytes ≡ 16777217 → instance_text bytes ≡ Err (TooLong, 0)

-- an agent named a with this list
abbrev pub lister : List (List ℕ) → SaidAgent
lister entries = record { name = codes "a"; capacity = 1; line = 2; entries = entries }

-- a side has at most 4,096 agents; a name, a number and a list count before that
abbrev pub full_sides : Said
full_sides = record nothing { proposers = replicate 4096 (lister []); reviewers = replicate 4096 (lister []) }

-- one more agent on a full side is refused, and one on a side with one less isn't
abbrev pub AgentsCounted : Type 0
AgentsCounted = (map (fault_of full_sides) (
    declares Proposers (codes "-b") None [] ∷ declares Reviewers (codes "b") (Some (codes "01")) []
    ∷ declares Proposers (codes "a") None [] ∷ declares Proposers (codes "b") None (codes "x" ∷ codes "x" ∷ [])
    ∷ declares Proposers (codes "b") None [] ∷ declares Reviewers (codes "b") None [] ∷ [])
    ≡ Some BadName ∷ Some BadNumber ∷ Some Redeclared ∷ Some RepeatedEntry ∷ Some TooManyAgents ∷ Some TooManyAgents ∷ [])
    × (fault_of (record nothing { proposers = replicate 4095 (lister []) }) (declares Proposers (codes "b") None []) ≡ None)

-- all lists together have at most 524,288 entries
abbrev pub fault_behind : List (List ℕ) → Option RefusalKind
fault_behind entries = fault_of (record nothing { proposers = lister entries ∷ [] })
    (declares Reviewers (codes "x") None (codes "a" ∷ []))

-- one more entry behind 524,288 is refused, and behind one less it isn't
abbrev pub EntriesCounted : Type 0
EntriesCounted = ((entries : List (List ℕ)) → length entries ≡ 524287 → fault_behind entries ≡ None)
    × ((entries : List (List ℕ)) → length entries ≡ 524288 → fault_behind entries ≡ Some TooManyEntries)

-- weights and conditions may stand before the agents that they name; a capacity is 1 where none is written; and what
-- stands behind `end` isn't judged
abbrev pub hospitals_text : List ℕ
hospitals_text = text_of (
    codes "# c" ∷ hospitals
    ∷ codes "weight m1 h2 7" ∷ codes "force m2 h1" ∷ codes "p m1: h2 h1 # tail" ∷ codes "r h1 [2]: m1" ∷ codes "p m2: h1"
    ∷ codes "weight m2 h1 -3" ∷ codes "r h2:" ∷ codes "forbid m1 h1" ∷ codes "end" ∷ codes ";;" ∷ [])

-- the instance that this text means
abbrev pub HospitalsRead : Type 0
HospitalsRead = instance_text hospitals_text ≡ Ok (record {
  input = Two (plain_written Hospitals
      (record { name = codes "m1"; capacity = 1; line = 5; entries = 1 ∷ 0 ∷ [] }
      ∷ record { name = codes "m2"; capacity = 1; line = 7; entries = 0 ∷ [] } ∷ [])
      (record { name = codes "h1"; capacity = 2; line = 6; entries = 0 ∷ [] }
      ∷ record { name = codes "h2"; capacity = 1; line = 9; entries = [] } ∷ [])
      ((0, 1, pos 7) ∷ (1, 0, negsuc 2) ∷ []) ((1, 0) ∷ []) ((0, 0) ∷ []));
  header_line = 2;
  rest = 130;
  rest_line = 12;
})

-- a master list may be that of agents of both sides, an order names those that come first, and a pair may have a second weight
abbrev pub SecondRead : Type 0
SecondRead = instance_text (text_of (
    second_marriage ∷ codes "master L: b a" ∷ codes "order c" ∷ codes "p a: [L]" ∷ codes "p b: a" ∷ codes "p c: [L]" ∷ codes "r a:" ∷ codes "r b: [L]"
    ∷ codes "weight b a 3 -4" ∷ codes "weight a a 5" ∷ codes "end" ∷ []))
    ≡ Ok (record {
      input = Two (record {
        kind = Marriage;
        proposers = record { name = codes "a"; capacity = 1; line = 4; entries = 1 ∷ 0 ∷ [] }
            ∷ record { name = codes "b"; capacity = 1; line = 5; entries = 0 ∷ [] }
            ∷ record { name = codes "c"; capacity = 1; line = 6; entries = 1 ∷ 0 ∷ [] } ∷ [];
        reviewers = record { name = codes "a"; capacity = 1; line = 7; entries = [] }
            ∷ record { name = codes "b"; capacity = 1; line = 8; entries = 1 ∷ 0 ∷ [] } ∷ [];
        weights = (1, 0, pos 3) ∷ (0, 0, pos 5) ∷ [];
        forced = [];
        forbidden = [];
        seconds = negsuc 3 ∷ pos 0 ∷ [];
        order = 2 ∷ 0 ∷ 1 ∷ [];
      });
      header_line = 1;
      rest = 112;
      rest_line = 12;
    })

-- persons may list themselves, and the last line needs no end
abbrev pub RoommatesRead : Type 0
RoommatesRead = instance_text (text_of (codes "stable 1 roommates" ∷ codes "p a: a b" ∷ codes "p b: a" ∷ []) ++ codes "end")
    ≡ Ok (record {
      input = Room (record { name = codes "a"; capacity = 1; line = 2; entries = 0 ∷ 1 ∷ [] }
          ∷ record { name = codes "b"; capacity = 1; line = 3; entries = 0 ∷ [] } ∷ []);
      header_line = 1;
      rest = 38;
      rest_line = 5;
    })

-- lines may end with CR and LF, and a last one with CR
abbrev pub ReturnsRead : Type 0
ReturnsRead = instance_text (codes "stable 1 hospitals" ++ (13 ∷ LF ∷ []) ++ codes "end" ++ 13 ∷ [])
    ≡ Ok (record {
      input = Two (plain_written Hospitals [] [] [] [] []);
      header_line = 1;
      rest = 24;
      rest_line = 3;
    })
