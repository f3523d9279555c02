-- An answer that lists vectors: what is given is right, and there is something to give.
use Rattle.std.proofs.Common.{◌≡◌, ℕ, suc, ◌<◌, ◌≤◌, List, [], ◌∷◌, ◌++◌, Bool, true, false, Option, Some, None, IfSome, Result, Ok, Err, IfOk, length, map, slice_index_or, refl, sym, ap, ◌∙◌, subst, arith}
use Rattle.std.specs.List.{All}
use Rattle.std.proofs.lemmas.List.Elements.{All-append, All-cons, All-head, All-tail, All-map}
use Rattle.sm_text.specs.Limits.{most_limit}
use Rattle.sm_answer.specs.Giving.{HasRest, AreJoined}
use Rattle.sm_answer.specs.Printing.{IsShown, IsPrinted}
use Rattle.sm_answer.proofs.AnswerLemmas.{same_some, joined_some, printed_some}
use Rattle.sm_answer.proofs.LineLemmas.{end_sound}
use Rattle.sm_instance.specs.declared.inputs.Input.{Input}
use Rattle.sm_report.specs.Heads.{HeadData}
use Rattle.sm_report.specs.Lines.{LineData}
use Rattle.sm_report.specs.Sound.{IsSmall, IsLineOf}
use Rattle.sm_theory.specs.Listings.{end_of}
use Rattle.sm_theory.proofs.Vectors.Order.{irreflexive, transitive}
use Rattle.sm_theory.proofs.Vectors.Listings.{listing_exists}
use Rattle.sm_answer_vectors.specs.VectorAnswer.{last_line, vector_lines, IsVectorAnswer}
use Rattle.sm_answer_vectors.specs.Stepping.{HaveNext}
use Rattle.sm_answer_vectors.specs.Remaining.{IsLeftOf}

-- The lines are those of an input.

-- what holds of each vector of a listing
all_listed : (P : List ℕ → Type 0) (out : List (List ℕ)) → ((k : ℕ) → k < length out → P (slice_index_or out k [])) → All P out
all_listed P [] each = λ k d l. absurd (omega arith)
all_listed P (v ∷ vs) each = All-cons P v vs (each 0 (omega arith)) (all_listed P vs (λ k l. each (suc k) (omega arith)))

-- and of its last one
end_listed : (P : List ℕ → Type 0) (c : List ℕ) (out : List (List ℕ)) → P c → All P out → IfSome (end_of (Some c) out) P
end_listed P c [] p all = p
end_listed P c (v ∷ vs) p all = end_listed P v vs (All-head P v vs all) (All-tail P v vs all)

vector_sound : (input : Input) (v : List ℕ) → All IsSmall v → IsLineOf input (LineData.Vector v)
vector_sound input v small = record { printable = tt; seats = λ k d l. absurd (omega arith); numbers = small; head = tt }

last_sound : (input : Input) (o : Option (List ℕ)) (more : Bool) → (more ≡ true → IfSome o (All IsSmall)) → IsLineOf input (last_line o more)
last_sound input (Some v) true small = record { printable = tt; seats = λ k d l. absurd (omega arith); numbers = small refl; head = tt }
last_sound input (Some v) false small = end_sound input
last_sound input None true small = end_sound input
last_sound input None false small = end_sound input

-- where more vectors follow than are wanted, the last line has the last of these
end_small : (after : Option (List ℕ)) (limit : ℕ) (out : List (List ℕ)) (more : Bool) → 1 ≤ limit → All (All IsSmall) out → (more ≡ true → length out ≡ limit) → more ≡ true → IfSome (end_of after out) (All IsSmall)
end_small after limit [] more least all full e = absurd (let long = full e in omega arith)
end_small after limit (v ∷ vs) more least all full e = end_listed (All IsSmall) v vs (All-head (All IsSmall) v vs all) (All-tail (All IsSmall) v vs all)

head_sound : (input : Input) (after : Option (List ℕ)) (limit : ℕ) → IfSome after (All IsSmall) → 1 ≤ limit → limit ≤ most_limit → IsLineOf input (LineData.Answer (HeadData.List after limit))
head_sound input after limit small least greatest =
    record { printable = tt; seats = λ k d l. absurd (omega arith); numbers = tt; head = (small, (least, greatest)) }

module _ {order : List ℕ} {IsOne : List ℕ → Type 0} where
  -- a right answer is of lines of the input
  pub list_sound : (input : Input) {after : Option (List ℕ)} (limit : ℕ) → ((v : List ℕ) → IsOne v → All IsSmall v) → IfSome after (All IsSmall) → 1 ≤ limit → limit ≤ most_limit
      → (answer : List LineData) → IsVectorAnswer order IsOne after limit answer → All (IsLineOf input) answer
  list_sound input {after} limit each small least greatest answer a =
      let P = IsLineOf input in
      let vectors : All (All IsSmall) a.out = all_listed (All IsSmall) a.out (λ k l. each _ (a.listing.sound k l)) in
      let last = last_line (end_of after a.out) a.more in
      let ended : All P (last ∷ []) = All-cons P last [] (last_sound input (end_of after a.out) a.more (end_small after limit a.out a.more least vectors a.listing.cut)) (λ k d l. absurd (omega arith)) in
      let lines : All P (map (λ v. LineData.Vector v) a.out) = All-map P (λ v. LineData.Vector v) a.out (λ k d l. vector_sound input _ (vectors k d l)) in
      subst (All P) (sym a.shows) (All-cons P (LineData.Answer (HeadData.List after limit)) (vector_lines after a.out a.more) (head_sound input after limit small least greatest) (All-append P (map (λ v. LineData.Vector v) a.out) (last ∷ []) lines ended))

  -- what may be given is a right answer
  list_is_right : {after cursor : Option (List ℕ)} (limit : ℕ) (head : LineData) → cursor ≡ after → head ≡ LineData.Answer (HeadData.List after limit)
      → (answer : List LineData) → AreJoined (λ rest. rest ≡ head ∷ []) (IsLeftOf false order IsOne cursor limit) answer → IsVectorAnswer order IsOne after limit answer
  list_is_right {after} {cursor} limit head at is answer j = by_cursor cursor at j
    where
      by_cursor : (cursor : Option (List ℕ)) → cursor ≡ after → AreJoined (λ rest. rest ≡ head ∷ []) (IsLeftOf false order IsOne cursor limit) answer → IsVectorAnswer order IsOne after limit answer
      by_cursor cursor at j =
          let k = subst (λ c. AreJoined (λ rest. rest ≡ head ∷ []) (IsLeftOf false order IsOne c limit) answer) at j in
          let rest = k.behind in
          record {
            out = rest.out;
            more = rest.more;
            listing = rest.listing;
            shows = k.whole ∙ ap (λ t. t ++ k.back) k.in_front ∙ ap (λ t. head ∷ t) rest.shows ∙ ap (λ x. x ∷ vector_lines after rest.out rest.more) is;
          }

  -- lines that are printed behind the head show a right answer
  pub list_right : (input : Input) {after cursor : Option (List ℕ)} (limit : ℕ) (head : LineData) → cursor ≡ after → head ≡ LineData.Answer (HeadData.List after limit)
      → (lines : List (List ℕ)) → IsPrinted input (AreJoined (λ rest. rest ≡ head ∷ []) (IsLeftOf false order IsOne cursor limit)) lines → IsShown input (IsVectorAnswer order IsOne after limit) lines
  list_right input limit head at is lines printed = record { answer = printed.answer; is_right = list_is_right limit head at is printed.answer printed.is_right; shows = printed.shows }

  -- there is something to give
  list_some : (cursor : Option (List ℕ)) (limit : ℕ) → HaveNext order IsOne → HasRest (IsLeftOf false order IsOne cursor limit)
  list_some cursor limit next =
      let x = listing_exists (irreflexive order) (transitive order) next limit cursor in
      record { lines = vector_lines cursor x.out x.more; given = record { out = x.out; more = x.more; listing = x.is; shows = refl } }

  -- there is something to print
  pub list_has_rest : (input : Input) {after cursor : Option (List ℕ)} (limit : ℕ) (head : LineData) → HaveNext order IsOne → ((v : List ℕ) → IsOne v → All IsSmall v) → cursor ≡ after
      → head ≡ LineData.Answer (HeadData.List after limit) → IfSome after (All IsSmall) → 1 ≤ limit → limit ≤ most_limit → HasRest (IsPrinted input (AreJoined (λ rest. rest ≡ head ∷ []) (IsLeftOf false order IsOne cursor limit)))
  list_has_rest input {after} {cursor} limit head next each at is small least greatest =
      printed_some input _ (joined_some _ _ (same_some (head ∷ [])) (list_some cursor limit next))
      (λ answer given. list_sound input limit each small least greatest answer (list_is_right limit head at is answer given))
