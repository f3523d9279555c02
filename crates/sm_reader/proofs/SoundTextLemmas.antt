-- What a text means is sound.
use Rattle.std.proofs.Common.{◌≡◌, ℕ, ◌+◌, Bool, true, false, true≢false, if◌then◌else◌, List, [], ◌∷◌, length, nat_lt, Option, Some, None, Result, Ok, Err, refl, ap, subst}
use Rattle.std.specs.Option.{option_map_or}
use Rattle.sm_text.specs.Limits.{most_bytes}
use Rattle.sm_text.specs.Lines.{lines, content}
use Rattle.sm_text.specs.Tokens.{tokens}
use Rattle.sm_text.specs.declared.refusal.RefusalKind.TheVariants.{TooLong, UnknownName}
use Rattle.sm_instance.specs.Inputs.{IsInput}
use Rattle.sm_agents.specs.Named.{Said, nothing}
use Rattle.sm_agents.specs.declared.kinds.Kind.{Kind}
use Rattle.sm_agents.specs.declared.kinds.Kind.TheVariants.{Marriage, Hospitals, Roommates}
use Rattle.sm_agents.specs.Kinds.{has_two_sides}
use Rattle.sm_reader.specs.Judging.{Verdict, goes, stops, refuses, verdict_on, by_verdict, Heading, passes, heads, faces, heading_of, by_heading}
use Rattle.sm_reader.specs.InstanceText.{ReadText, Refusal, unknown_lines, least, input_of, ended, behind_header, before_header, instance_text}
use Rattle.sm_reader.specs.Laws.{TextIsSound}
use Rattle.sm_reader.specs.Right.{IsRight}
use Rattle.sm_reader.proofs.RightLemmas.{goes_right, nothing_right}
use Rattle.sm_reader.proofs.SoundLemmas.{sides_sound, persons_sound}

-- a meaning is sound: an instance, or a refusal
abbrev IsSound : Result ReadText Refusal → Type 0
IsSound (Ok read) = IsInput read.input
IsSound (Err refusal) = Unit {0}

-- so is the instance of what is right, where all names are declared
input_sound : (kind : Kind) (said : Said) → IsRight kind said → least (unknown_lines kind said) ≡ None → IsInput (input_of kind said)
input_sound Marriage said right none = sides_sound Marriage said (λ e. true≢false (ap has_two_sides e)) right none
input_sound Hospitals said right none = sides_sound Hospitals said (λ e. true≢false (ap has_two_sides e)) right none
input_sound Roommates said right none = persons_sound said right none

ended_sound : (kind : Kind) (header : ℕ) (said : Said) (rest rest_line : ℕ) → IsRight kind said → IsSound (ended kind header said rest rest_line)
ended_sound kind header said rest rest_line right = by_lines (least (unknown_lines kind said)) refl
  where
    read : ReadText
    read = record { input = input_of kind said; header_line = header; rest = rest; rest_line = rest_line }

    by_lines : (first : Option ℕ) → least (unknown_lines kind said) ≡ first → IsSound (option_map_or (λ (line : ℕ). Err (UnknownName, line)) first (Ok read))
    by_lines None none = input_sound kind said right none
    by_lines (Some line) _ = tt

behind_sound : (kind : Kind) (format header : ℕ) (said : Said) (number place : ℕ) (left : List (List ℕ)) → IsRight kind said → IsSound (behind_header kind format header said number place left)
behind_sound kind format header said number place [] right = tt
behind_sound kind format header said number place (line ∷ rest) right =
    by_cases (λ more is. behind_sound kind format header more (number + 1) (place + length line) rest is) (verdict_on kind format said number (tokens (content line))) refl
  where
    by_cases : ((more : Said) → IsRight kind more → IsSound (behind_header kind format header more (number + 1) (place + length line) rest)) → (v : Verdict) → verdict_on kind format said number (tokens (content line)) ≡ v → IsSound (by_verdict v
        (λ more. behind_header kind format header more (number + 1) (place + length line) rest)
        (ended kind header said (place + length line) (number + 1))
        (λ fault. Err (fault, number)))
    by_cases onward (goes more) is = onward more (goes_right kind format said number (tokens (content line)) more right is)
    by_cases onward stops is = ended_sound kind header said (place + length line) (number + 1) right
    by_cases onward (refuses fault) is = tt

before_sound : (number place : ℕ) (left : List (List ℕ)) → IsSound (before_header number place left)
before_sound number place [] = tt
before_sound number place (line ∷ rest) = by_cases (before_sound (number + 1) (place + length line) rest) (heading_of (tokens (content line)))
  where
    by_cases : IsSound (before_header (number + 1) (place + length line) rest) → (h : Heading) → IsSound (by_heading h
        (before_header (number + 1) (place + length line) rest)
        (λ kind format. behind_header kind format number nothing (number + 1) (place + length line) rest)
        (λ fault. Err (fault, number)))
    by_cases onward passes = onward
    by_cases onward (heads kind format) = behind_sound kind format number nothing (number + 1) (place + length line) rest (nothing_right kind)
    by_cases onward (faces fault) = tt

whole_sound : (text : List ℕ) → IsSound (instance_text text)
unfolding instance_text
whole_sound text = by_test (nat_lt most_bytes (length text))
  where
    by_test : (t : Bool) → IsSound (if t then Err (TooLong, 0) else before_header 1 0 (lines text))
    by_test true = tt
    by_test false = before_sound 1 0 (lines text)

-- the law
pub text_is_sound : TextIsSound
text_is_sound text read e = subst IsSound e (whole_sound text)
