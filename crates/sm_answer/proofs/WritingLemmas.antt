-- Lines that are given one after another, and what is written of them.
use Rattle.std.proofs.Common.{◌≡◌, ℕ, ◌≤◌, List, [], ◌∷◌, ◌++◌, Option, sym, ap, ◌∙◌, subst, append_assoc, append-nil, arith}
use Rattle.std.proofs.lemmas.List.Concat.{flat_map-append}
use Rattle.sm_io.specs.Faults.{Rose}
use Rattle.sm_io.specs.Sink.{Grows, IsPart}
use Rattle.sm_io.proofs.FaultLemmas.{Rose-sooner}
use Rattle.sm_io.proofs.SinkLemmas.{Grows-nil, Grows-trans, IsPart-more, IsPart-after, IsPart-front}
use Rattle.sm_text.specs.Lines.{LF}
use Rattle.sm_answer.specs.Giving.{HasRest, PutLine}
use Rattle.sm_answer.specs.Writing.{text_of, WroteFront}

-- some lines are written, and with what may be left they are what was to be written
pub record IsWrittenSoFar (all left : List (List ℕ) → Type 0) (before now : Option (List ℕ)) (f g : ℕ) : Type 0 where
  pub done : List (List ℕ)
  pub sound : (rest : List (List ℕ)) → left rest → all (done ++ rest)
  pub more : HasRest left
  pub written : Grows before now (text_of done)
  pub later : f ≤ g

-- before the first line nothing is written
pub nothing_written : (all : List (List ℕ) → Type 0) (a : Option (List ℕ)) (f : ℕ) → HasRest all → IsWrittenSoFar all all a a f f
nothing_written all a f more = record { done = []; sound = λ rest given. given; more = more; written = Grows-nil a; later = omega arith }

text_of_append : (xs ys : List (List ℕ)) → text_of (xs ++ ys) ≡ text_of xs ++ text_of ys
text_of_append xs ys = flat_map-append (λ line. line ++ LF ∷ []) xs ys

-- one more line
pub one_more_written : (all before after : List (List ℕ) → Type 0) (n m : ℕ) (held holds piece : List ℕ) (a b c : Option (List ℕ)) (f g h : ℕ)
    → IsWrittenSoFar all before a b f g → PutLine before after n m held holds → held ≡ [] → piece ≡ holds ++ LF ∷ [] → Grows b c piece → g ≤ h
    → IsWrittenSoFar all after a c f h
one_more_written all before after n m held holds piece a b c f g h w gave none is grows later =
    let line : holds ≡ gave.line = gave.put ∙ ap (λ t. t ++ gave.line) none in
    let one : piece ≡ text_of (gave.line ∷ []) = is ∙ ap (λ t. t ++ LF ∷ []) line ∙ sym (append-nil (gave.line ++ LF ∷ [])) in
    record {
      done = w.done ++ gave.line ∷ [];
      sound = λ rest given. subst all (sym (append_assoc w.done (gave.line ∷ []) rest)) (w.sound (gave.line ∷ rest) (gave.gave.first rest given));
      more = gave.gave.more;
      written = subst (Grows a c) (ap (λ t. text_of w.done ++ t) one ∙ sym (text_of_append w.done (gave.line ∷ [])))
          (Grows-trans a b c (text_of w.done) piece w.written grows);
      later = omega (arith, w.later, later);
    }

-- there was no memory for the next line
pub wrote_front : (all left : List (List ℕ) → Type 0) (a b : Option (List ℕ)) (f g : ℕ) → IsWrittenSoFar all left a b f g → WroteFront all a b
wrote_front all left a b f g w = record {
  lines = w.done ++ w.more.lines;
  is_right = w.sound w.more.lines w.more.given;
  written = subst (IsPart a b) (sym (text_of_append w.done w.more.lines)) (IsPart-front a b (text_of w.done) (text_of w.more.lines) w.written);
}

-- nor for the first
pub wrote_nothing : (all : List (List ℕ) → Type 0) (a : Option (List ℕ)) (f : ℕ) → HasRest all → WroteFront all a a
wrote_nothing all a f more = wrote_front all all a a f f (nothing_written all a f more)

-- the sink failed at a line
pub wrote_part : (all before after : List (List ℕ) → Type 0) (n m : ℕ) (held holds piece : List ℕ) (a b c : Option (List ℕ)) (f g h : ℕ)
    → IsWrittenSoFar all before a b f g → PutLine before after n m held holds → held ≡ [] → piece ≡ holds ++ LF ∷ [] → IsPart b c piece → Rose g h
    → WroteFront all a c × Rose f h
wrote_part all before after n m held holds piece a b c f g h w gave none is part rose =
    let line : holds ≡ gave.line = gave.put ∙ ap (λ t. t ++ gave.line) none in
    let one : piece ≡ gave.line ++ LF ∷ [] = is ∙ ap (λ t. t ++ LF ∷ []) line in
    let rest = gave.gave.more.lines in
    let texts : text_of (w.done ++ gave.line ∷ rest) ≡ text_of w.done ++ (piece ++ text_of rest) =
    text_of_append w.done (gave.line ∷ rest) ∙ ap (λ t. text_of w.done ++ (t ++ text_of rest)) (sym one) in (
      record {
        lines = w.done ++ gave.line ∷ rest;
        is_right = w.sound (gave.line ∷ rest) (gave.gave.first rest gave.gave.more.given);
        written = subst (IsPart a c) (sym texts) (IsPart-after a b c (text_of w.done) (piece ++ text_of rest) w.written (IsPart-more b c piece (text_of rest) part));
      },
      Rose-sooner f g h w.later rose,
    )
