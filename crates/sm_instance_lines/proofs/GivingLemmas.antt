-- The lines that are given one after another.
use Rattle.std.proofs.Common.{◌≡◌, ℕ, ◌+◌, ◌-◌, ◌<◌, List, [], ◌∷◌, ◌++◌, length, drop, get_or, Bool, true, false, Some, Ok, refl, sym, ap, ◌∙◌, subst, arith, All}
use Rattle.std.proofs.lemmas.List.{at_drop_more}
use Rattle.std.proofs.lemmas.Option.{slice_get-get_or}
use Rattle.std.specs.List.{slice_get}
use Rattle.sm_text.specs.Writer.{WriterData}
use Rattle.sm_answer.specs.Giving.{PutLine}
use Rattle.sm_instance_lines.specs.Putting.{PutsIfAny}
use Rattle.sm_instance_lines.proofs.PlainLemmas.{IsPlain}

-- a text that was put
bytes_put : (old new : WriterData) (text : List ℕ) (put : Bool) → PutsIfAny old new (Some text) (Ok put) → new.bytes ≡ old.bytes ++ text
bytes_put old new text true puts = puts.ok
bytes_put old new text false puts = absurd puts

-- the line at a place was put, and those behind it are left
pub line_given : (lines : List (List ℕ)) (count next : ℕ) (old new : WriterData) (put : Bool) → All IsPlain lines → count ≡ length lines → next < count → PutsIfAny old new (slice_get lines next) (Ok put)
    → PutLine (λ rest. rest ≡ drop next lines) (λ rest. rest ≡ drop (next + 1) lines) (count - next) (count - (next + 1)) old.bytes new.bytes
line_given lines count next old new put plain counted below puts =
    let here : slice_get lines next ≡ Some (get_or lines next []) = slice_get-get_or lines next [] (omega arith) in
    record {
      line = get_or lines next [];
      plain = plain next [] (omega (arith, counted, below));
      put = bytes_put old new (get_or lines next []) put (subst (λ o. PutsIfAny old new o (Ok put)) here puts);
      gave = record {
        first = λ rest is. ap (λ t. get_or lines next [] ∷ t) is ∙ sym (at_drop_more (λ t. t) lines next [] (omega arith));
        more = record { lines = drop (next + 1) lines; given = refl };
        fewer = omega arith;
      };
    }
