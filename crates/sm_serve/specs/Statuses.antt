-- The numbers of statuses.
use Rattle.std.specs.Prelude.{ℕ}
use Rattle.sm_serve.specs.declared.status.Status.{Status}
use Rattle.sm_serve.specs.declared.status.Status.TheVariants.{Done, Refused, Usage, NoneExists, OutOfMemory, ReadFault, WriteFault, CheckedNo}

-- the status with which the program ends
abbrev pub number_of_status : Status → ℕ
number_of_status Done = 0
number_of_status (Refused kind at) = 1
number_of_status (Usage word) = 2
number_of_status NoneExists = 3
number_of_status OutOfMemory = 4
number_of_status ReadFault = 5
number_of_status WriteFault = 6
number_of_status (CheckedNo line why) = 7
