-- Sources and sinks in memory that fail at chosen calls. Calls are numbered from 1.
use Rattle.std.specs.Prelude.{◌≡◌, ℕ, ◌+◌, ◌-◌, ◌==◌, Bool, List, ◌++◌, length, take, min, find, nat_le, Option, option_map, MatchOption, MatchBool}
use Rattle.std.specs.List.{list_any}
use Rattle.sm_io.specs.Faults.{next_count}
use Rattle.sm_io.specs.Pieces.{Pieces, Gives}
use Rattle.sm_io.specs.declared.Taken.{Taken}
use Rattle.sm_io.specs.declared.Taken.TheVariants.{Failed}
use Rattle.sm_io.specs.declared.Put.{Put}
use Rattle.sm_io.specs.declared.Put.TheVariants.{Done, Failed as Refused}

-- a source: what it still gives, the numbers of the calls that fail, how many calls were made, and how many failed
pub record SourceInMemory : Type 0 where
  pub pieces : Pieces
  pub failing : List ℕ
  pub calls : ℕ
  pub faults : ℕ

-- the next call's number is among those that fail
abbrev pub is_failing : SourceInMemory → Bool
is_failing s = list_any (λ number. number == s.calls + 1) s.failing

-- a call fails exactly where its number is among those that fail, and then gives nothing
abbrev pub TakesInMemory : SourceInMemory → SourceInMemory → Taken → List ℕ → Type 0
TakesInMemory old new result into =
    MatchBool (is_failing old)
    ((result ≡ Failed) × (new ≡ record old { calls = next_count old.calls; faults = next_count old.faults }))
    (Gives old.pieces new.pieces result into × (new ≡ record old { pieces = new.pieces; calls = next_count old.calls }))

-- a sink: the bytes held, at most how many it holds, pairs of the number of a call that fails and of how many bytes it may take,
-- how many calls were made, and how many failed
pub record SinkInMemory : Type 0 where
  pub held : List ℕ
  pub room : ℕ
  pub failing : List (ℕ × ℕ)
  pub calls : ℕ
  pub faults : ℕ

-- how many more bytes fit
abbrev pub free_len : SinkInMemory → ℕ
free_len s = s.room - length s.held

-- at most how many bytes the next call takes, where it is one that fails: of several pairs with its number the first counts
abbrev pub cut_of : SinkInMemory → Option ℕ
cut_of s = option_map (λ pair. pair.1) (find (λ pair. pair.0 == s.calls + 1) s.failing)

-- the sink after a call that took these bytes, and after one that took them and failed
abbrev pub after_put : SinkInMemory → List ℕ → SinkInMemory
after_put s part = record s { held = s.held ++ part; calls = next_count s.calls }

-- the sink after a call that took these bytes and failed
abbrev pub after_fault : SinkInMemory → List ℕ → SinkInMemory
after_fault s part = record s { held = s.held ++ part; calls = next_count s.calls; faults = next_count s.faults }

-- a call fails exactly where a pair has its number or the piece doesn't fit, and then takes what it may of the bytes that fit
abbrev pub PutsInMemory : SinkInMemory → SinkInMemory → Put → List ℕ → Type 0
PutsInMemory old new result piece =
    MatchOption (cut_of old)
    (MatchBool (nat_le (length piece) (free_len old))
    ((result ≡ Done) × (new ≡ after_put old piece))
    ((result ≡ Refused) × (new ≡ after_fault old (take (free_len old) piece))))
    (λ most. (result ≡ Refused) × (new ≡ after_fault old (take (min most (free_len old)) piece)))
