-- Lines that are put, where the first one is given before the others.
use Rattle.std.proofs.Common.{◌≡◌, ℕ, ◌+◌, List, [], ◌++◌, Bool, true, false, Option, Some, None, Result, Ok, Err, OnOk, length, refl, sym, ap, ◌∙◌, subst, arith}
use Rattle.std.specs.declared.alloc.AllocError.{AllocError}
use Rattle.sm_instance.specs.Inputs.{IsInput}
use Rattle.sm_instance.specs.declared.inputs.Input.{Input}
use Rattle.sm_report.specs.Lines.{LineData, line_of}
use Rattle.sm_report.specs.Sound.{IsPrintable}
use Rattle.sm_report.specs.Texts.{text_of_line}
use Rattle.sm_report.specs.declared.lines.Line.{Line}
use Rattle.sm_answer.specs.Giving.{HasRest, Gave, PutLine, PutsNext, AreJoined}
use Rattle.sm_answer.specs.Lines.{line_left}
use Rattle.sm_answer.specs.Printing.{IsPrinted}
use Rattle.sm_answer.proofs.AnswerLemmas.{one_given, gave_in_front, next_printable, line_put}
use Rattle.sm_answer_vectors.specs.Remaining.{IsListLeft}

-- with nothing in front the lines are those behind it
joined_behind : (Q : List LineData → Type 0) (lines : List LineData) → AreJoined (λ (rest : List LineData). rest ≡ []) Q lines → Q lines
joined_behind Q lines j = subst Q (sym (j.whole ∙ ap (λ t. t ++ j.back) j.in_front)) j.behind

printed_behind : (input : Input) (Q : List LineData → Type 0) (lines : List (List ℕ)) → IsPrinted input (AreJoined (λ (rest : List LineData). rest ≡ []) Q) lines → IsPrinted input Q lines
printed_behind input Q lines w = record {
  answer = w.answer;
  is_right = joined_behind Q w.answer w.is_right;
  shows = w.shows;
  sound = λ other q. w.sound other (record { front = []; back = other; in_front = refl; behind = q; whole = refl });
}

printed_joined : (input : Input) (Q : List LineData → Type 0) (lines : List (List ℕ)) → IsPrinted input Q lines → IsPrinted input (AreJoined (λ (rest : List LineData). rest ≡ []) Q) lines
printed_joined input Q lines w = record {
  answer = w.answer;
  is_right = record { front = []; back = w.answer; in_front = refl; behind = w.is_right; whole = refl };
  shows = w.shows;
  sound = λ other j. w.sound other (joined_behind Q other j);
}

-- The first line, before others of which something is known.

module _ (K : Type 0) (Q : List LineData → Type 0) (input : Input) where
  -- what there is with the first line in front
  with_head : (line : Line) (head : Option Line) → head ≡ Some line → HasRest (IsListLeft K Q input head) → HasRest (IsListLeft K Q input (Some line))
  with_head line head e h = record { lines = h.lines; given = subst (λ o. IsListLeft K Q input o h.lines) e h.given }

  printed_with : (line : Line) → HasRest (IsListLeft K Q input (Some line)) → HasRest (IsPrinted input (AreJoined (λ rest. rest ≡ line_left (Some line)) Q))
  printed_with line h = record { lines = h.lines; given = h.given.printed }

  gave_head : (line : Line) (n : ℕ) → HasRest (IsListLeft K Q input (Some line))
      → Gave (line_of line) (AreJoined (λ rest. rest ≡ line_left (Some line)) Q) (AreJoined (λ rest. rest ≡ line_left None) Q) (1 + n) (0 + n)
  gave_head line n h =
      gave_in_front (line_of line) (λ rest. rest ≡ line_left (Some line)) (λ rest. rest ≡ line_left None) Q 1 0 n
      (record { lines = h.given.printed.answer; given = h.given.printed.is_right }) (one_given (Some line))

  -- the first line can be printed
  pub head_printable : (line : Line) (head : Option Line) → head ≡ Some line → HasRest (IsListLeft K Q input head) → IsPrintable input (line_of line)
  head_printable line head e h =
      let k = with_head line head e h in
      next_printable input _ _ (line_of line) (1 + 0) (0 + 0) (printed_with line k) (gave_head line 0 k)

  -- and it is put
  pub head_put : (line : Line) (n : ℕ) (head then : Option Line) (held holds : List ℕ) → IsInput input → head ≡ Some line → then ≡ None → HasRest (IsListLeft K Q input head)
      → holds ≡ held ++ text_of_line input (line_of line) → PutLine (IsListLeft K Q input head) (IsListLeft K Q input then) (length (line_left head) + n) (length (line_left then) + n) held holds
  head_put line n head then held holds sound e f h put =
      subst (λ o. PutLine (IsListLeft K Q input o) (IsListLeft K Q input then) (length (line_left o) + n) (length (line_left then) + n) held holds) (sym e)
      (subst (λ o. PutLine (IsListLeft K Q input (Some line)) (IsListLeft K Q input o) (1 + n) (length (line_left o) + n) held holds) (sym f) by_line)
    where
      by_line : PutLine (IsListLeft K Q input (Some line)) (IsListLeft K Q input None) (1 + n) (0 + n) held holds
      by_line =
          let k = with_head line head e h in
          let w = line_put input _ _ (line_of line) (1 + n) (0 + n) held holds sound (printed_with line k) (gave_head line n k) put in
          record {
            line = w.line;
            plain = w.plain;
            put = w.put;
            gave = record {
              first = λ rest l. record { is_known = k.given.is_known; printed = w.gave.first rest l.printed };
              more = record { lines = w.gave.more.lines; given = record { is_known = k.given.is_known; printed = w.gave.more.given } };
              fewer = w.gave.fewer;
            };
          }

-- Lines behind the first one, where what is known before and after is known.

module _ (K J : Type 0) (Q R : List LineData → Type 0) (input : Input) where
  -- a line behind it is put
  line_behind : (n m : ℕ) (held holds : List ℕ) → K → J → PutLine (IsPrinted input Q) (IsPrinted input R) n m held holds
      → PutLine (IsListLeft K Q input None) (IsListLeft J R input None) (0 + n) (0 + m) held holds
  line_behind n m held holds old new w = record {
    line = w.line;
    plain = w.plain;
    put = w.put;
    gave = record {
      first = λ rest l. record { is_known = old; printed = printed_joined input _ _ (w.gave.first rest (printed_behind input _ rest l.printed)) };
      more = record { lines = w.gave.more.lines; given = record { is_known = new; printed = printed_joined input _ _ w.gave.more.given } };
      fewer = omega (arith, w.gave.fewer);
    };
  }

  -- what is put behind it
  pub behind_put : (n m : ℕ) (head none : Option Line) (held holds : List ℕ) (r : Result Bool AllocError) → head ≡ None → none ≡ None → HasRest (IsListLeft K Q input head) → OnOk r J
      → PutsNext (IsPrinted input Q) (IsPrinted input R) n m held holds r
      → PutsNext (IsListLeft K Q input head) (IsListLeft J R input none) (length (line_left head) + n) (length (line_left none) + m) held holds r
  behind_put n m (Some line) none held holds r e f h known w = absurd cc
  behind_put n m None (Some line) held holds r e f h known w = absurd cc
  behind_put n m None None held holds (Err x) e f h known w = tt
  behind_put n m None None held holds (Ok false) e f h known none = (record { is_known = h.given.is_known; printed = printed_joined input _ [] none.0 }, none.1)
  behind_put n m None None held holds (Ok true) e f h known w = line_behind n m held holds h.given.is_known known w
