-- The names of refusals.
use Rattle.std.specs.Prelude.{ℕ, List, codes}
use Rattle.sm_text.specs.declared.refusal.RefusalKind.{RefusalKind}
use Rattle.sm_text.specs.declared.refusal.RefusalKind.TheVariants.{TooLong, BadByte, BadHeader, BadLine, BadName, BadNumber, Redeclared, RepeatedEntry, RepeatedWeight, MissingEnd, AfterEnd, TooManyAgents, TooManyEntries, UnknownName, TooManySeats, WrongKind, BadAnswer, BadCursor, NotStable, TooMany, NotBuilt, BadJson}

-- the name that is printed for a refusal
abbrev pub name_of_refusal : RefusalKind → List ℕ
name_of_refusal TooLong = codes "TooLong"
name_of_refusal BadByte = codes "BadByte"
name_of_refusal BadHeader = codes "BadHeader"
name_of_refusal BadLine = codes "BadLine"
name_of_refusal BadName = codes "BadName"
name_of_refusal BadNumber = codes "BadNumber"
name_of_refusal Redeclared = codes "Redeclared"
name_of_refusal RepeatedEntry = codes "RepeatedEntry"
name_of_refusal RepeatedWeight = codes "RepeatedWeight"
name_of_refusal MissingEnd = codes "MissingEnd"
name_of_refusal AfterEnd = codes "AfterEnd"
name_of_refusal TooManyAgents = codes "TooManyAgents"
name_of_refusal TooManyEntries = codes "TooManyEntries"
name_of_refusal UnknownName = codes "UnknownName"
name_of_refusal TooManySeats = codes "TooManySeats"
name_of_refusal WrongKind = codes "WrongKind"
name_of_refusal BadAnswer = codes "BadAnswer"
name_of_refusal BadCursor = codes "BadCursor"
name_of_refusal NotStable = codes "NotStable"
name_of_refusal TooMany = codes "TooMany"
name_of_refusal NotBuilt = codes "NotBuilt"
name_of_refusal BadJson = codes "BadJson"
