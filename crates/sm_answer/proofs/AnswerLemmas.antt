-- The lines of answers.
use Rattle.std.proofs.Common.{◌≡◌, ℕ, zero, suc, ◌+◌, ◌-◌, ◌<◌, List, [], ◌∷◌, ◌++◌, map, false, Option, Some, None, is_some, Result, Ok, Err, refl, sym, ap, ◌∙◌, subst, arith, length}
use Rattle.std.specs.List.{All}
use Rattle.std.specs.Option.{option_map}
use Rattle.std.proofs.lemmas.List.Elements.{All-append, All-cons, All-tail}
use Rattle.std.specs.declared.alloc.AllocError.{AllocError}
use Rattle.sm_instance.specs.Inputs.{IsInput}
use Rattle.sm_instance.specs.declared.inputs.Input.{Input}
use Rattle.sm_report.specs.Lines.{LineData, line_of}
use Rattle.sm_report.specs.Sound.{IsPrintable, IsLineOf}
use Rattle.sm_report.specs.Texts.{text_of_line}
use Rattle.sm_report.specs.declared.lines.Line.{Line}
use Rattle.sm_report.proofs.FreeLines.{line_plain}
use Rattle.sm_answer.specs.Giving.{HasRest, Gave, IsOver, PutLine, GivesNext, AreJoined}
use Rattle.sm_answer.specs.Lines.{line_left, line_or_none, lines_from}
use Rattle.sm_answer.specs.Printing.{IsShown, IsPrinted}

-- the line that is left, if there is one, is given, and then none is left
pub one_given : (line : Option Line) → GivesNext (λ rest. rest ≡ line_left line) (λ rest. rest ≡ line_left None) (length (line_left line)) (length (line_left None)) (Ok line)
one_given None = record { none_left = refl; none_more = refl; over = λ rest none. none; no_more = omega arith }
one_given (Some line) = record { first = λ rest none. ap (λ t. line_of line ∷ t) none; more = record { lines = []; given = refl }; fewer = omega arith }

-- Lines, and others behind them.

-- there are lines in front
pub rest_in_front : {X : Type 0} (P Q : List X → Type 0) → HasRest (AreJoined P Q) → HasRest P
rest_in_front P Q h = record { lines = h.given.front; given = h.given.in_front }

-- there are lines behind
pub rest_behind : {X : Type 0} (P Q : List X → Type 0) → HasRest (AreJoined P Q) → HasRest Q
rest_behind P Q h = record { lines = h.given.back; given = h.given.behind }

-- a line was given from the front
pub gave_in_front : {X : Type 0} (line : X) (P P' Q : List X → Type 0) (n m k : ℕ) → HasRest (AreJoined P Q) → Gave line P P' n m
    → Gave line (AreJoined P Q) (AreJoined P' Q) (n + k) (m + k)
gave_in_front line P P' Q n m k h gave = record {
  first = λ rest j. record {
    front = line ∷ j.front;
    back = j.back;
    in_front = gave.first j.front j.in_front;
    behind = j.behind;
    whole = ap (λ t. line ∷ t) j.whole;
  };
  more = record {
    lines = gave.more.lines ++ h.given.back;
    given = record { front = gave.more.lines; back = h.given.back; in_front = gave.more.given; behind = h.given.behind; whole = refl };
  };
  fewer = omega (arith, gave.fewer);
}

-- none was left in front, and behind it a line was given
pub given_behind : (P P' Q Q' : List LineData → Type 0) (n n' k k' : ℕ) (result : Result (Option Line) AllocError) → IsOver P P' n n' → GivesNext Q Q' k k' result
    → GivesNext (AreJoined P Q) (AreJoined P' Q') (n + k) (n' + k') result
given_behind P P' Q Q' n n' k k' (Err e) over given = tt
given_behind P P' Q Q' n n' k k' (Ok None) over given = record {
  none_left = record { front = []; back = []; in_front = over.none_left; behind = given.none_left; whole = refl };
  none_more = record { front = []; back = []; in_front = over.none_more; behind = given.none_more; whole = refl };
  over = λ rest j. j.whole ∙ ap (λ t. t ++ j.back) (over.over j.front j.in_front) ∙ given.over j.back j.behind;
  no_more = omega (arith, over.no_more, given.no_more);
}
given_behind P P' Q Q' n n' k k' (Ok (Some line)) over gave = record {
  first = λ rest j. record {
    front = [];
    back = line_of line ∷ rest;
    in_front = over.none_left;
    behind = gave.first rest (subst Q' (sym (j.whole ∙ ap (λ t. t ++ j.back) (over.over j.front j.in_front))) j.behind);
    whole = refl;
  };
  more = record { lines = gave.more.lines; given = record { front = []; back = gave.more.lines; in_front = over.none_more; behind = gave.more.given; whole = refl } };
  fewer = omega (arith, gave.fewer, over.no_more);
}

-- The texts of lines.

-- a line that may come first is a line of the input
next_of_input : (input : Input) (P P' : List LineData → Type 0) (line : LineData) (n m : ℕ) → HasRest (IsPrinted input P) → Gave line P P' n m → IsLineOf input line
next_of_input input P P' line n m h gave =
    h.given.sound (line ∷ gave.more.lines) (gave.first gave.more.lines gave.more.given) 0 line (omega arith)

-- so it can be printed
pub next_printable : (input : Input) (P P' : List LineData → Type 0) (line : LineData) (n m : ℕ) → HasRest (IsPrinted input P) → Gave line P P' n m → IsPrintable input line
next_printable input P P' line n m h gave = (next_of_input input P P' line n m h gave).printable

-- the text of a line was put
pub line_put : (input : Input) (P P' : List LineData → Type 0) (line : LineData) (n m : ℕ) (held holds : List ℕ) → IsInput input → HasRest (IsPrinted input P) → Gave line P P' n m
    → holds ≡ held ++ text_of_line input line → PutLine (IsPrinted input P) (IsPrinted input P') n m held holds
line_put input P P' line n m held holds sound h gave put =
    let tail : (other : List LineData) → P' other → All (IsLineOf input) other =
    λ other right. All-tail (IsLineOf input) line other (h.given.sound (line ∷ other) (gave.first other right)) in
    record {
      line = text_of_line input line;
      plain = line_plain input sound line (next_of_input input P P' line n m h gave);
      put = put;
      gave = record {
        first = λ rest printed. record {
          answer = line ∷ printed.answer;
          is_right = gave.first printed.answer printed.is_right;
          shows = ap (λ t. text_of_line input line ∷ t) printed.shows;
          sound = h.given.sound;
        };
        more = record {
          lines = map (text_of_line input) gave.more.lines;
          given = record { answer = gave.more.lines; is_right = gave.more.given; shows = refl; sound = tail };
        };
        fewer = gave.fewer;
      };
    }

-- no line was left
pub none_printed : (input : Input) (P : List LineData → Type 0) → HasRest (IsPrinted input P) → P [] → IsPrinted input P []
none_printed input P h none = record { answer = []; is_right = none; shows = refl; sound = h.given.sound }

-- The lines of numbers.

-- the lines of the numbers from one on
lines_first : (f : ℕ → Option LineData) (a n : ℕ) → a < n → lines_from f a (n - a) ≡ line_or_none (f a) ++ lines_from f (a + 1) (n - (a + 1))
lines_first f a n h =
    let count : n - a ≡ suc (n - (a + 1)) = omega arith in
    ap (lines_from f a) count

-- a number without a line is passed over
pub lines_from-suc : (f : ℕ → Option LineData) (a n : ℕ) (found : Option Line) → a < n → option_map line_of found ≡ f a → is_some found ≡ false
    → lines_from f (a + 1) (n - (a + 1)) ≡ lines_from f a (n - a)
lines_from-suc f a n None h e none = sym (lines_first f a n h ∙ ap (λ o. line_or_none o ++ lines_from f (a + 1) (n - (a + 1))) (sym e))
lines_from-suc f a n (Some line) h e none = absurd cc

-- There are lines that an answer of several parts may give.

-- exactly these lines
pub same_some : {X : Type 0} (xs : List X) → HasRest (λ (rest : List X). rest ≡ xs)
same_some xs = record { lines = xs; given = refl }

-- where there are lines in front and lines behind, there are both together
pub joined_some : {X : Type 0} (P Q : List X → Type 0) → HasRest P → HasRest Q → HasRest (AreJoined P Q)
joined_some P Q p q = record { lines = p.lines ++ q.lines; given = record { front = p.lines; back = q.lines; in_front = p.given; behind = q.given; whole = refl } }

-- where there are lines of the instance, there are their texts
pub printed_some : (input : Input) (P : List LineData → Type 0) → HasRest P → ((other : List LineData) → P other → All (IsLineOf input) other) → HasRest (IsPrinted input P)
printed_some input P p sound =
    record { lines = map (text_of_line input) p.lines; given = record { answer = p.lines; is_right = p.given; shows = refl; sound = sound } }

-- what holds of one line holds of each of a list of it
pub one_all : {X : Type 0} (R : X → Type 0) (x : X) → R x → All R (x ∷ [])
one_all R x r = All-cons R x [] r (λ k d l. absurd (omega arith))

-- what holds of each number's line holds of all
pub lines_all : (P : LineData → Type 0) (f : ℕ → Option LineData) → ((i : ℕ) → All P (line_or_none (f i))) → (a n : ℕ) → All P (lines_from f a n)
lines_all P f each a zero = λ k d l. absurd (omega arith)
lines_all P f each a (suc n) = All-append P (line_or_none (f a)) (lines_from f (a + 1) n) (each a) (lines_all P f each (a + 1) n)

-- what holds of the lines of each number holds of the lines of all
pub lines_each : (P : LineData → Type 0) (f : ℕ → Option LineData) (a n : ℕ) → ((i : ℕ) → i < a + n → All P (line_or_none (f i))) → All P (lines_from f a n)
lines_each P f a zero each = λ k d l. absurd (omega arith)
lines_each P f a (suc n) each =
    All-append P (line_or_none (f a)) (lines_from f (a + 1) n) (each a (omega arith)) (lines_each P f (a + 1) n (λ i l. each i (omega arith)))

-- lines that are alike number by number
pub lines_from-same : (f g : ℕ → Option LineData) → ((i : ℕ) → f i ≡ g i) → (a n : ℕ) → lines_from f a n ≡ lines_from g a n
lines_from-same f g e a zero = refl
lines_from-same f g e a (suc n) = ap (λ o. line_or_none o ++ lines_from f (a + 1) n) (e a) ∙ ap (λ t. line_or_none (g a) ++ t) (lines_from-same f g e (a + 1) n)

-- What a list gives.

-- the first line of a list was given
pub gave_first : (before after : List LineData) (line : Line) (n m : ℕ) → before ≡ line_of line ∷ after → m < n
    → GivesNext (λ rest. rest ≡ before) (λ rest. rest ≡ after) n m (Ok (Some line))
gave_first before after line n m is less = record {
  first = λ rest left. ap (λ t. line_of line ∷ t) left ∙ sym is;
  more = record { lines = after; given = refl };
  fewer = less;
}

-- none was left
pub gave_none : (lines : List LineData) (n : ℕ) → lines ≡ [] → GivesNext (λ rest. rest ≡ lines) (λ rest. rest ≡ lines) n n (Ok None)
gave_none lines n is = record { none_left = sym is; none_more = sym is; over = λ rest left. left ∙ is; no_more = omega arith }

-- An answer whose parts are lists gives one list.

-- lines that are these are these
pub same_is : {X : Type 0} (xs : List X) → (rest : List X) → rest ≡ xs → rest ≡ xs
same_is xs rest is = is

-- where the lines in front are known and those behind, those of both together are
pub joined_is : {X : Type 0} (P Q : List X → Type 0) (xs ys : List X) → ((rest : List X) → P rest → rest ≡ xs) → ((rest : List X) → Q rest → rest ≡ ys)
    → (rest : List X) → AreJoined P Q rest → rest ≡ xs ++ ys
joined_is P Q xs ys p q rest j = j.whole ∙ ap (λ t. t ++ j.back) (p j.front j.in_front) ∙ ap (λ t. xs ++ t) (q j.back j.behind)

-- lines that are known and right are shown as right ones
pub given_right : (input : Input) (P right : List LineData → Type 0) (given : List LineData) → ((rest : List LineData) → P rest → rest ≡ given) → right given
    → (lines : List (List ℕ)) → IsPrinted input P lines → IsShown input right lines
given_right input P right given all is lines printed =
    record { answer = printed.answer; is_right = subst right (sym (all printed.answer printed.is_right)) is; shows = printed.shows }

-- where the known lines are of the instance, there are their texts
pub given_some : (input : Input) (P : List LineData → Type 0) (given : List LineData) → HasRest P → ((rest : List LineData) → P rest → rest ≡ given) → All (IsLineOf input) given
    → HasRest (IsPrinted input P)
given_some input P given some all sound = printed_some input P some (λ other right. subst (All (IsLineOf input)) (sym (all other right)) sound)
