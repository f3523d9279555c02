-- Sources over a reader and sinks over a writer. They tell no bytes themselves; what is said here is of bytes that the inner object tells.
use Rattle.std.specs.Prelude.{◌≡◌, ℕ, List, take, Option}
use Rattle.std.specs.Io.KnownBytes.{Appends}
use Rattle.sm_io.specs.Faults.{next_count}
use Rattle.sm_io.specs.declared.Taken.{Taken}
use Rattle.sm_io.specs.declared.Taken.TheVariants.{Got, End, Failed}
use Rattle.sm_io.specs.declared.Put.{Put}
use Rattle.sm_io.specs.declared.Put.TheVariants.{Done, Failed as Refused}
use Rattle.sm_io.specs.declared.edge.ReadSource.{ReadSource}
use Rattle.sm_io.specs.declared.edge.WriteSink.{WriteSink}

-- the reader and the count of a source
abbrev pub reader_of : {R : Type 0} → ReadSource R → R
reader_of s = s.inner

-- how many calls of a source failed
abbrev pub source_faults : {R : Type 0} → ReadSource R → ℕ
source_faults s = s.faults

-- the writer and the count of a sink
abbrev pub writer_of : {W : Type 0} → WriteSink W → W
writer_of s = s.inner

-- how many calls of a sink failed
abbrev pub sink_faults : {W : Type 0} → WriteSink W → ℕ
sink_faults s = s.faults

-- a call that failed counts one fault, and another none
abbrev pub CountsTaken : ℕ → ℕ → Taken → Type 0
CountsTaken old new Failed = new ≡ next_count old
CountsTaken old new (Got n) = new ≡ old
CountsTaken old new End = new ≡ old

-- a call that was refused counts one fault, and another none
abbrev pub CountsPut : ℕ → ℕ → Put → Type 0
CountsPut old new Refused = new ≡ next_count old
CountsPut old new Done = new ≡ old

-- a front of the text: its first `count` bytes
pub record AppendsPart (before after : Option (List ℕ)) (text : List ℕ) : Type 0 where
  pub count : ℕ
  pub appends : Appends before after (take count text)

-- what a call with this piece does to the bytes that the writer holds, where it tells them
abbrev pub Writes : Option (List ℕ) → Option (List ℕ) → Put → List ℕ → Type 0
Writes before after Done piece = Appends before after piece
Writes before after Refused piece = AppendsPart before after piece
