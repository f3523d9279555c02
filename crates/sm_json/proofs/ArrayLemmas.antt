-- Lines that are given one after another, and what is written of their array.
use Rattle.std.proofs.Common.{◌≡◌, ℕ, ◌≤◌, Bool, true, false, List, [], ◌∷◌, ◌++◌, Option, refl, sym, ap, ◌∙◌, subst, append_assoc, append-nil, arith}
use Rattle.sm_io.specs.Faults.{Rose}
use Rattle.sm_io.specs.Sink.{Grows, IsPart}
use Rattle.sm_io.proofs.FaultLemmas.{Rose-sooner}
use Rattle.sm_io.proofs.SinkLemmas.{Grows-trans, IsPart-more, IsPart-after, IsPart-front}
use Rattle.sm_text.specs.Lines.{LF}
use Rattle.sm_answer.specs.Giving.{HasRest, PutLine}
use Rattle.sm_json.specs.Wrapping.{wrapped, wrapped_from, json_of_lines}
use Rattle.sm_json.specs.Writing.{WroteArray, WroteArrayFront}

-- whether the line behind some lines is the first of all, where the first of them may be it
abbrev first_behind : Bool → List (List ℕ) → Bool
first_behind first [] = first
first_behind first (line ∷ lines) = first_behind false lines

none_behind : (lines : List (List ℕ)) → first_behind false lines ≡ false
none_behind [] = refl
none_behind (line ∷ lines) = none_behind lines

later_behind : (first : Bool) (lines : List (List ℕ)) (line : List ℕ) → first_behind first (lines ++ line ∷ []) ≡ false
later_behind first [] line = refl
later_behind first (x ∷ lines) line = later_behind false lines line

wrapped_append : (first : Bool) (xs ys : List (List ℕ)) → wrapped_from first (xs ++ ys) ≡ wrapped_from first xs ++ wrapped_from (first_behind first xs) ys
wrapped_append first [] ys = refl
wrapped_append first (x ∷ xs) ys =
    ap (λ t. wrapped first x ++ t) (wrapped_append false xs ys) ∙ sym (append_assoc (wrapped first x) (wrapped_from false xs) (wrapped_from (first_behind false xs) ys))

-- what closes the array
abbrev closing : List ℕ
closing = 93 ∷ LF ∷ []

-- some lines are written, and with what may be left they are what was to be written
pub record IsWrappedSoFar (all left : List (List ℕ) → Type 0) (first : Bool) (before now : Option (List ℕ)) (f g : ℕ) : Type 0 where
  pub done : List (List ℕ)
  pub first_is : first ≡ first_behind true done
  pub sound : (rest : List (List ℕ)) → left rest → all (done ++ rest)
  pub more : HasRest left
  pub written : Grows before now (wrapped_from true done)
  pub later : f ≤ g

-- the piece is the item of the line that was put
item_is : (before after : List (List ℕ) → Type 0) (n m : ℕ) (held holds piece : List ℕ) (first : Bool) → (gave : PutLine before after n m held holds) → held ≡ [] → piece ≡ wrapped first holds → piece ≡ wrapped first gave.line
item_is before after n m held holds piece first gave none is = is ∙ ap (wrapped first) (gave.put ∙ ap (λ t. t ++ gave.line) none)

-- what is written with some lines behind those that are done
behind_done : (all left : List (List ℕ) → Type 0) (first : Bool) (a b : Option (List ℕ)) (f g : ℕ) (w : IsWrappedSoFar all left first a b f g) (rest : List (List ℕ))
    → wrapped_from true (w.done ++ rest) ≡ wrapped_from true w.done ++ wrapped_from first rest
behind_done all left first a b f g w rest = wrapped_append true w.done rest ∙ ap (λ t. wrapped_from true w.done ++ wrapped_from t rest) (sym w.first_is)

array_behind_done : (all left : List (List ℕ) → Type 0) (first : Bool) (a b : Option (List ℕ)) (f g : ℕ) (w : IsWrappedSoFar all left first a b f g) (rest : List (List ℕ))
    → json_of_lines (w.done ++ rest) ≡ wrapped_from true w.done ++ (wrapped_from first rest ++ closing)
array_behind_done all left first a b f g w rest = ap (λ t. t ++ closing) (behind_done all left first a b f g w rest) ∙ append_assoc (wrapped_from true w.done) (wrapped_from first rest) closing

-- one more line
pub one_more_wrapped : (all before after : List (List ℕ) → Type 0) (first : Bool) (n m : ℕ) (held holds piece : List ℕ) (a b c : Option (List ℕ)) (f g h : ℕ)
    → IsWrappedSoFar all before first a b f g → PutLine before after n m held holds → held ≡ [] → piece ≡ wrapped first holds → Grows b c piece → g ≤ h
    → IsWrappedSoFar all after false a c f h
one_more_wrapped all before after first n m held holds piece a b c f g h w gave none is grows later =
    let one : piece ≡ wrapped_from first (gave.line ∷ []) = item_is before after n m held holds piece first gave none is ∙ sym (append-nil (wrapped first gave.line)) in
    record {
      done = w.done ++ gave.line ∷ [];
      first_is = sym (later_behind true w.done gave.line);
      sound = λ rest given. subst all (sym (append_assoc w.done (gave.line ∷ []) rest)) (w.sound (gave.line ∷ rest) (gave.gave.first rest given));
      more = gave.gave.more;
      written = subst (Grows a c) (ap (λ t. wrapped_from true w.done ++ t) one ∙ sym (behind_done all before first a b f g w (gave.line ∷ [])))
          (Grows-trans a b c (wrapped_from true w.done) piece w.written grows);
      later = omega (arith, w.later, later);
    }

-- there was no memory for the next line
pub wrapped_front : (all left : List (List ℕ) → Type 0) (first : Bool) (a b : Option (List ℕ)) (f g : ℕ) → IsWrappedSoFar all left first a b f g → WroteArrayFront all a b
wrapped_front all left first a b f g w = record {
  lines = w.done ++ w.more.lines;
  is_right = w.sound w.more.lines w.more.given;
  written = subst (IsPart a b) (sym (array_behind_done all left first a b f g w w.more.lines)) (IsPart-front a b (wrapped_from true w.done) (wrapped_from first w.more.lines ++ closing) w.written);
}

-- the sink failed at a line
pub wrapped_part : (all before after : List (List ℕ) → Type 0) (first : Bool) (n m : ℕ) (held holds piece : List ℕ) (a b c : Option (List ℕ)) (f g h : ℕ)
    → IsWrappedSoFar all before first a b f g → PutLine before after n m held holds → held ≡ [] → piece ≡ wrapped first holds → IsPart b c piece → Rose g h
    → WroteArrayFront all a c × Rose f h
wrapped_part all before after first n m held holds piece a b c f g h w gave none is part rose =
    let one = item_is before after n m held holds piece first gave none is in
    let rest = gave.gave.more.lines in
    let behind = wrapped_from false rest ++ closing in
    let texts : json_of_lines (w.done ++ gave.line ∷ rest) ≡ wrapped_from true w.done ++ (piece ++ behind) =
    array_behind_done all before first a b f g w (gave.line ∷ rest)
    ∙ ap (λ t. wrapped_from true w.done ++ t) (append_assoc (wrapped first gave.line) (wrapped_from false rest) closing ∙ ap (λ t. t ++ behind) (sym one)) in (
      record {
        lines = w.done ++ gave.line ∷ rest;
        is_right = w.sound (gave.line ∷ rest) (gave.gave.first rest gave.gave.more.given);
        written = subst (IsPart a c) (sym texts) (IsPart-after a b c (wrapped_from true w.done) (piece ++ behind) w.written (IsPart-more b c piece behind part));
      },
      Rose-sooner f g h w.later rose,
    )

-- no line was left
last_is : (all left : List (List ℕ) → Type 0) (first : Bool) (a b : Option (List ℕ)) (f g : ℕ) → (w : IsWrappedSoFar all left first a b f g) → left [] → all w.done
last_is all left first a b f g w none = subst all (append-nil w.done) (w.sound [] none)

-- and the array was closed
pub wrapped_whole : (all left : List (List ℕ) → Type 0) (first : Bool) (a b c : Option (List ℕ)) (f g : ℕ) (piece : List ℕ) → IsWrappedSoFar all left first a b f g → left [] → piece ≡ closing → Grows b c piece → WroteArray all a c
wrapped_whole all left first a b c f g piece w none is grows = record {
  lines = w.done;
  is_right = last_is all left first a b f g w none;
  written = subst (Grows a c) (ap (λ t. wrapped_from true w.done ++ t) is) (Grows-trans a b c (wrapped_from true w.done) piece w.written grows);
}

-- or the sink failed when it was
pub wrapped_unclosed : (all left : List (List ℕ) → Type 0) (first : Bool) (a b c : Option (List ℕ)) (f g h : ℕ) (piece : List ℕ) → IsWrappedSoFar all left first a b f g → left [] → piece ≡ closing → IsPart b c piece → Rose g h
    → WroteArrayFront all a c × Rose f h
wrapped_unclosed all left first a b c f g h piece w none is part rose = (
  record {
    lines = w.done;
    is_right = last_is all left first a b f g w none;
    written = subst (IsPart a c) (ap (λ t. wrapped_from true w.done ++ t) is) (IsPart-after a b c (wrapped_from true w.done) piece w.written part);
  },
  Rose-sooner f g h w.later rose,
)
