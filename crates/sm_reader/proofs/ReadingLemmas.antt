-- The lines of a text, one after another.
use Rattle.std.proofs.Common.{◌≡◌, ℕ, ◌+◌, ◌<◌, ◌≤◌, List, length, drop, true, false, Result, Ok, Err, refl, sym, ap, ◌∙◌, arith, nat_lt}
use Rattle.std.specs.Option.{option_map_or}
use Rattle.std.proofs.lemmas.Bool.Decides.{nat_tests}
use Rattle.sm_text.specs.Limits.{most_bytes}
use Rattle.sm_text.specs.Lines.{lines, first_line, content}
use Rattle.sm_text.specs.Tokens.{tokens}
use Rattle.sm_text.specs.declared.refusal.RefusalKind.TheVariants.{TooLong, UnknownName}
use Rattle.sm_agents.specs.declared.kinds.Kind.{Kind}
use Rattle.sm_instance.specs.declared.inputs.Input.{Input}
use Rattle.sm_agents.specs.Named.{Said, nothing}
use Rattle.sm_reader.specs.Judging.{by_verdict, verdict_on, goes, stops, Heading, passes, heads, by_heading, heading_of}
use Rattle.sm_reader.specs.InstanceText.{ReadText, Refusal, before_header, behind_header, ended, input_of, instance_text, IsTextFault}
use Rattle.sm_keys.specs.Tokens.{LeadsLines}
use Rattle.sm_reader.specs.Draft.{said_of, IsRefusedBy}
use Rattle.sm_reader.specs.Numbering.{IsUnknownFault}
use Rattle.sm_reader.specs.Reading.{IsFaultOf, IsHeadingFault, Finishes}
use Rattle.sm_reader.specs.declared.draft.Draft.{Draft}
use Rattle.sm_reader.specs.declared.faults.TextFault.{TextFault}
use Rattle.sm_reader.specs.declared.faults.TextFault.TheVariants.{Refused, OutOfMemory}

module _ (bytes text : List ℕ) (at next : ℕ) (leads : LeadsLines bytes at text next) where
  -- one line up to the header
  heading_step : (n : ℕ) → before_header n at (lines (drop at bytes))
      ≡ by_heading (heading_of (tokens text)) (before_header (n + 1) next (lines (drop next bytes))) (λ kind format. behind_header kind format n nothing (n + 1) next (lines (drop next bytes))) (λ fault. Err (fault, n))
  heading_step n =
      ap (before_header n at) leads.leads
      ∙ ap (λ p. by_heading (heading_of (tokens (content (first_line (drop at bytes))))) (before_header (n + 1) p (lines (drop next bytes)))
      (λ kind format. behind_header kind format n nothing (n + 1) p (lines (drop next bytes))) (λ fault. Err (fault, n))) (sym leads.long)
      ∙ ap (λ t. by_heading (heading_of (tokens t)) (before_header (n + 1) next (lines (drop next bytes)))
      (λ kind format. behind_header kind format n nothing (n + 1) next (lines (drop next bytes))) (λ fault. Err (fault, n))) (sym leads.holds)

  heading_by : (n : ℕ) (h : Heading) → heading_of (tokens text) ≡ h → before_header n at (lines (drop at bytes))
      ≡ by_heading h (before_header (n + 1) next (lines (drop next bytes))) (λ kind format. behind_header kind format n nothing (n + 1) next (lines (drop next bytes))) (λ fault. Err (fault, n))
  heading_by n h e =
      heading_step n
      ∙ ap (λ g. by_heading g (before_header (n + 1) next (lines (drop next bytes))) (λ kind format. behind_header kind format n nothing (n + 1) next (lines (drop next bytes))) (λ fault. Err (fault, n))) e

  -- a line without tokens
  pub heading_passes : (n : ℕ) → heading_of (tokens text) ≡ passes → before_header n at (lines (drop at bytes)) ≡ before_header (n + 1) next (lines (drop next bytes))
  heading_passes n e = heading_by n passes e

  -- the header
  pub heading_heads : (n : ℕ) (kind : Kind) (format : ℕ) → heading_of (tokens text) ≡ heads kind format → before_header n at (lines (drop at bytes)) ≡ behind_header kind format n nothing (n + 1) next (lines (drop next bytes))
  heading_heads n kind format e = heading_by n (heads kind format) e

  -- another line
  pub heading_faces : (n : ℕ) (f : TextFault) → IsHeadingFault (heading_of (tokens text)) n f → IsFaultOf (before_header n at (lines (drop at bytes))) f
  heading_faces n (Refused fault line) h = heading_by n _ h.0 ∙ ap (λ m. Err (fault, m)) (sym h.1)
  heading_faces n OutOfMemory h = tt

  -- one line behind the header
  pub verdict_step : (kind : Kind) (format header : ℕ) (said : Said) (n : ℕ) → behind_header kind format header said n at (lines (drop at bytes))
      ≡ by_verdict (verdict_on kind format said n (tokens text)) (λ more. behind_header kind format header more (n + 1) next (lines (drop next bytes))) (ended kind header said next (n + 1)) (λ fault. Err (fault, n))
  verdict_step kind format header said n =
      ap (behind_header kind format header said n at) leads.leads
      ∙ ap (λ p. by_verdict (verdict_on kind format said n (tokens (content (first_line (drop at bytes))))) (λ more. behind_header kind format header more (n + 1) p (lines (drop next bytes)))
      (ended kind header said p (n + 1)) (λ fault. Err (fault, n))) (sym leads.long)
      ∙ ap (λ t. by_verdict (verdict_on kind format said n (tokens t)) (λ more. behind_header kind format header more (n + 1) next (lines (drop next bytes)))
      (ended kind header said next (n + 1)) (λ fault. Err (fault, n))) (sym leads.holds)

module _ (bytes text : List ℕ) (at next : ℕ) (leads : LeadsLines bytes at text next) (kind : Kind) (format header : ℕ) (said : Said) (n : ℕ) where
  -- a line that goes on
  pub goes_step : (more : Said) → verdict_on kind format said n (tokens text) ≡ goes more → behind_header kind format header said n at (lines (drop at bytes)) ≡ behind_header kind format header more (n + 1) next (lines (drop next bytes))
  goes_step more e = verdict_step bytes text at next leads kind format header said n
      ∙ ap (λ v. by_verdict v (λ more. behind_header kind format header more (n + 1) next (lines (drop next bytes))) (ended kind header said next (n + 1)) (λ fault. Err (fault, n))) e

  -- a line that ends the instance
  pub stops_step : verdict_on kind format said n (tokens text) ≡ stops → behind_header kind format header said n at (lines (drop at bytes)) ≡ ended kind header said next (n + 1)
  stops_step e = verdict_step bytes text at next leads kind format header said n
      ∙ ap (λ v. by_verdict v (λ more. behind_header kind format header more (n + 1) next (lines (drop next bytes))) (ended kind header said next (n + 1)) (λ fault. Err (fault, n))) e

  -- a line that is refused
  pub refuses_step : (f : TextFault) → IsRefusedBy (verdict_on kind format said n (tokens text)) n f → IsFaultOf (behind_header kind format header said n at (lines (drop at bytes))) f
  refuses_step (Refused fault line) h = verdict_step bytes text at next leads kind format header said n
      ∙ ap (λ v. by_verdict v (λ more. behind_header kind format header more (n + 1) next (lines (drop next bytes))) (ended kind header said next (n + 1)) (λ fault. Err (fault, n))) h.0
      ∙ ap (λ m. Err (fault, m)) (sym h.1)
  refuses_step OutOfMemory h = tt

-- how an instance ends
pub ended_ok : (kind : Kind) (header : ℕ) (d : Draft) (rest rest_line : ℕ) (input : Input) → Finishes kind d input
    → let read : ReadText = record { input = input; header_line = header; rest = rest; rest_line = rest_line } in ended kind header (said_of kind d) rest rest_line ≡ Ok read
ended_ok kind header d rest rest_line input f =
    let said = said_of kind d in
    let read : ReadText = record { input = input_of kind said; header_line = header; rest = rest; rest_line = rest_line } in
    ap (λ o. option_map_or (λ (line : ℕ). Err (UnknownName, line)) o (Ok read)) f.known
    ∙ ap (λ i. Ok (record { input = i; header_line = header; rest = rest; rest_line = rest_line })) (sym f.said)

-- a name that isn't declared refuses the text
pub ended_err : (kind : Kind) (header : ℕ) (d : Draft) (rest rest_line : ℕ) (f : TextFault) → IsUnknownFault kind d f → IsFaultOf (ended kind header (said_of kind d) rest rest_line) f
ended_err kind header d rest rest_line (Refused fault at) h =
    let said = said_of kind d in
    let read : ReadText = record { input = input_of kind said; header_line = header; rest = rest; rest_line = rest_line } in
    ap (λ o. option_map_or (λ (line : ℕ). Err (UnknownName, line)) o (Ok read)) h.1 ∙ ap (λ k. Err (k, at)) (sym h.0)
ended_err kind header d rest rest_line OutOfMemory h = tt

-- a fault of the same meaning
pub same_fault : (a b : Result ReadText Refusal) (f : TextFault) → a ≡ b → IsFaultOf b f → IsFaultOf a f
same_fault a b (Refused kind at) e h = e ∙ h
same_fault a b OutOfMemory e h = tt

-- the whole text
pub instance_text-too_long : (bytes : List ℕ) → most_bytes < length bytes → instance_text bytes ≡ Err (TooLong, 0)
unfolding instance_text
instance_text-too_long bytes h = let e : nat_lt most_bytes (length bytes) ≡ true = grind (arith, nat_tests) in rw e refl

-- a text that isn't too long means what its lines do
pub instance_text-short : (bytes : List ℕ) → length bytes ≤ most_bytes → instance_text bytes ≡ before_header 1 0 (lines bytes)
unfolding instance_text
instance_text-short bytes h = let e : nat_lt most_bytes (length bytes) ≡ false = grind (arith, nat_tests) in rw e refl

-- a fault of the lines is one of the text
pub text_fault : (bytes : List ℕ) (meaning : Result ReadText Refusal) (f : TextFault) → instance_text bytes ≡ meaning → IsFaultOf meaning f → IsTextFault bytes f
text_fault bytes meaning (Refused kind at) e h = e ∙ h
text_fault bytes meaning OutOfMemory e h = tt
