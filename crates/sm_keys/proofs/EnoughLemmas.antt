-- Tokens that are enough of all.
use Rattle.std.proofs.Common.{◌≡◌, ℕ, zero, suc, ◌+◌, ◌-◌, ◌<◌, ◌≤◌, ◌&&◌, ◌||◌, not, Bool, true, false, List, [], ◌∷◌, ◌++◌, length, get_or, take, drop, refl, sym, ap, subst, ◌∙◌, append_assoc, arith}
use Rattle.std.specs.List.{list_any, list_all}
use Rattle.std.specs.Str.{bytes_eq}
use Rattle.std.specs.Borrow.{Bor}
use Rattle.std.proofs.Math.Seq.{drop-cons}
use Rattle.std.proofs.lemmas.Bool.{false≢true}
use Rattle.std.proofs.lemmas.List.{take-append-drop, take-append-le, drop-append-le, get_or-take, get_or-drop, get_or-map, length-take-le, length-drop, length-map}
use Rattle.std.proofs.lemmas.List.Folds.{list_any-append, list_all-append, list_all_at}
use Rattle.sm_text.specs.Slices.{texts_of}
use Rattle.sm_keys.specs.Tables.{has_repeated}
use Rattle.sm_text.specs.Name.{is_name}
use Rattle.sm_text.specs.Tokens.{tokens, IsLeading}
use Rattle.sm_keys.specs.Tokens.{AreNamesAtEnd}
use Rattle.sm_keys.specs.Enough.{first_tokens, AreEnough, StandsTwice}
use Rattle.sm_keys.proofs.TextLemmas.{same_text, equal_text}
use Rattle.sm_keys.proofs.ListingLemmas.{repeated_among}
use Rattle.sm_keys.proofs.NameLemmas.{names_from}

-- enough of what is enough is enough
pub enough_twice : (a b d : List (List ℕ)) → AreEnough a b → AreEnough b d → AreEnough a d
enough_twice a b d h k = record {
  first = h.first ∙ k.first;
  tests = λ test. h.tests test ∙ k.tests test;
  repeated = h.repeated ∙ k.repeated;
  whole = λ none. h.whole none ∙ k.whole (sym h.repeated ∙ none);
}

-- a test that all pass but those that fail another
not_all : (test : List ℕ → Bool) (ts : List (List ℕ)) → list_any test ts ≡ not (list_all (λ t. not (test t)) ts)
not_all test [] = refl
not_all test (t ∷ ts) = by_test (test t) (list_all (λ t. not (test t)) ts) (not_all test ts)
  where
    by_test : (s u : Bool) → list_any test ts ≡ not u → (s || list_any test ts) ≡ not (not s && u)
    by_test true u h = refl
    by_test false u h = h

-- some token passes a test where one does of those that are enough
pub enough_any : (test : List ℕ → Bool) (kept all : List (List ℕ)) → AreEnough kept all → list_any test kept ≡ list_any test all
enough_any test kept all h =
    parts kept ∙ ap (λ t. list_any test t || list_any test (drop first_tokens kept)) h.first
    ∙ ap (λ b. list_any test (take first_tokens all) || b) (not_all test (drop first_tokens kept) ∙ ap not (h.tests (λ t. not (test t))) ∙ sym (not_all test (drop first_tokens all)))
    ∙ sym (parts all)
  where
    parts : (ts : List (List ℕ)) → list_any test ts ≡ (list_any test (take first_tokens ts) || list_any test (drop first_tokens ts))
    parts ts = ap (list_any test) (sym (take-append-drop first_tokens ts)) ∙ list_any-append test (take first_tokens ts) (drop first_tokens ts)

-- what stands at a place passes a test that all pass, and one that it passes some do
there_any : (test : List ℕ → Bool) (ts : List (List ℕ)) (i : ℕ) → i < length ts → test (get_or ts i []) ≡ true → list_any test ts ≡ true
there_any test [] i inside h = absurd (omega arith)
there_any test (t ∷ ts) zero inside h = ap (λ b. b || list_any test ts) h
there_any test (t ∷ ts) (suc i) inside h = ap (λ b. test t || b) (there_any test ts i (omega arith) h) ∙ or_true (test t)
  where
    or_true : (b : Bool) → (b || true) ≡ true
    or_true true = refl
    or_true false = refl

there_all : (test : List ℕ → Bool) (ts : List (List ℕ)) (i : ℕ) → i < length ts → list_all test ts ≡ (test (get_or ts i []) && list_all test ts)
there_all test [] i inside = absurd (omega arith)
there_all test (t ∷ ts) zero inside = twice (test t) (list_all test ts)
  where
    twice : (s u : Bool) → (s && u) ≡ (s && (s && u))
    twice true u = refl
    twice false u = refl
there_all test (t ∷ ts) (suc i) inside = ap (λ b. test t && b) (there_all test ts i (omega arith)) ∙ turned (test t) (test (get_or ts i [])) (list_all test ts)
  where
    turned : (s u v : Bool) → (s && (u && v)) ≡ (u && (s && v))
    turned true u v = refl
    turned false true v = refl
    turned false false v = refl

-- a token that stands twice among others is one too many
module _ (xs : List (List ℕ)) (token : List ℕ) (i j : ℕ) (later : i < j) (within : j < length xs) (there : get_or xs i [] ≡ token) (again : get_or xs j [] ≡ token) where
  -- the others have it repeated, whatever stands behind them
  twice_repeated : (more : List (List ℕ)) → has_repeated (xs ++ more) ≡ true
  twice_repeated more =
      let front = take j xs in
      let rest = drop (suc j) xs in
      let long : length front ≡ j = length-take-le j xs (omega arith) in
      let at : get_or front i [] ≡ token = get_or-take j xs i [] later ∙ there in
      let among : list_any (bytes_eq token) front ≡ true = there_any (bytes_eq token) front i (omega (arith, long)) (ap (bytes_eq token) at ∙ same_text token token refl) in
      let split : xs ≡ front ++ token ∷ rest = sym (take-append-drop j xs) ∙ ap (λ ts. front ++ ts) (drop-cons xs j [] within ∙ ap (λ t. t ∷ rest) again) in
      ap (λ ts. has_repeated (ts ++ more)) split ∙ ap has_repeated (append_assoc front (token ∷ rest) more) ∙ repeated_among front (rest ++ more) token among

  -- and a test tells nothing new of it
  twice_tests : (test : List ℕ → Bool) (more : List (List ℕ)) → list_all test (xs ++ more) ≡ list_all test (xs ++ token ∷ more)
  twice_tests test more =
      let all : list_all test xs ≡ (test token && list_all test xs) = there_all test xs i (omega arith) ∙ ap (λ t. test t && list_all test xs) there in
      list_all-append test xs more ∙ ap (λ b. b && list_all test more) all ∙ turned (test token) (list_all test xs) (list_all test more)
      ∙ sym (list_all-append test xs (token ∷ more))
    where
      turned : (s u v : Bool) → ((s && u) && v) ≡ (u && (s && v))
      turned true u v = refl
      turned false true v = refl
      turned false false v = refl

-- so it may be left out
pub enough_without : (xs : List (List ℕ)) (token : List ℕ) (i j : ℕ) → StandsTwice xs token i j → (more : List (List ℕ)) → AreEnough (xs ++ more) (xs ++ token ∷ more)
enough_without xs token i j h more =
    let long : first_tokens ≤ length xs = omega (arith, h.behind, h.later, h.within) in
    let ys = drop first_tokens xs in
    let within : j - first_tokens < length ys = omega (arith, length-drop first_tokens xs, h.within, h.behind, h.later) in
    let there : get_or ys (i - first_tokens) [] ≡ token = get_or-drop first_tokens xs (i - first_tokens) [] ∙ ap (λ n. get_or xs n []) (let e : first_tokens + (i - first_tokens) ≡ i = omega (arith, h.behind) in e) ∙ h.there in
    let again : get_or ys (j - first_tokens) [] ≡ token = get_or-drop first_tokens xs (j - first_tokens) [] ∙ ap (λ n. get_or xs n []) (let e : first_tokens + (j - first_tokens) ≡ j = omega (arith, h.behind, h.later) in e) ∙ h.again in
    let later : i - first_tokens < j - first_tokens = omega (arith, h.behind, h.later) in
    let behind : (w : List (List ℕ)) → drop first_tokens (xs ++ w) ≡ ys ++ w = λ w. drop-append-le first_tokens xs w long in
    let twice : (w : List (List ℕ)) → has_repeated (drop first_tokens (xs ++ w)) ≡ true =
    λ w. ap has_repeated (behind w) ∙ twice_repeated ys token (i - first_tokens) (j - first_tokens) later within there again w in
    record {
      first = take-append-le first_tokens xs more long ∙ sym (take-append-le first_tokens xs (token ∷ more) long);
      tests = λ test. ap (list_all test) (behind more) ∙ twice_tests ys token (i - first_tokens) (j - first_tokens) later within there again test more ∙ sym (ap (list_all test) (behind (token ∷ more)));
      repeated = twice more ∙ sym (twice (token ∷ more));
      whole = λ none. absurd (false≢true (sym none ∙ twice more));
    }

-- a token that is read at two places stands twice
pub stands : (kept : List (Bor (List ℕ))) (token : List ℕ) (i j : ℕ) → first_tokens ≤ i → i < j → j < length kept
    → let d : Bor (List ℕ) = record { ref_ptr = (0, 0); now = [] } in bytes_eq (get_or kept i d).now token ≡ true → bytes_eq (get_or kept j d).now token ≡ true
    → StandsTwice (texts_of kept) token i j
stands kept token i j behind later within there again =
    let d : Bor (List ℕ) = record { ref_ptr = (0, 0); now = [] } in
    record {
      behind = behind;
      later = later;
      within = omega (arith, within, length-map kept (λ (x : Bor (List ℕ)). x.now));
      there = get_or-map (λ (x : Bor (List ℕ)). x.now) kept i d [] (omega (arith, later, within)) ∙ equal_text (get_or kept i d).now token there;
      again = get_or-map (λ (x : Bor (List ℕ)). x.now) kept j d [] within ∙ equal_text (get_or kept j d).now token again;
    }

-- the same of slices
pub left_out : (kept xs : List (Bor (List ℕ))) (token : List ℕ) {i j : ℕ} → kept ≡ xs → StandsTwice (texts_of kept) token i j
    → (more : List (List ℕ)) → AreEnough (texts_of xs ++ more) (texts_of xs ++ token ∷ more)
left_out kept xs token {i} {j} e h more = enough_without (texts_of xs) token i j (subst (λ ts. StandsTwice (texts_of ts) token i j) e h) more

-- the tokens so far are enough of those of a line, where what is behind them is
module _ (line : List ℕ) (kept : List (List ℕ)) (from : ℕ) (enough : AreEnough (kept ++ tokens (drop from line)) (tokens line)) where
  -- one token more
  pub enough_step : (start stop : ℕ) → IsLeading line from start stop → (now : List (List ℕ))
      → ((more : List (List ℕ)) → AreEnough (now ++ more) (kept ++ take (stop - start) (drop start line) ∷ more)) → AreEnough (now ++ tokens (drop stop line)) (tokens line)
  enough_step start stop leading now more =
      enough_twice (now ++ tokens (drop stop line)) (kept ++ tokens (drop from line)) (tokens line)
      (subst (λ ts. AreEnough (now ++ tokens (drop stop line)) (kept ++ ts)) (sym leading.leads) (more (tokens (drop stop line)))) enough

-- the names at the end of tokens, of which those from a place on are names and the one before it isn't
pub names_behind : (place : ℕ) (tokens : List (List ℕ)) → list_all is_name (drop place tokens) ≡ true → place ≤ length tokens
    → (0 < place → is_name (get_or tokens (place - 1) []) ≡ false) → AreNamesAtEnd (length tokens - place) tokens
names_behind place tokens names within other = names_from place tokens names earlier within
  where
    earlier : (k : ℕ) → k < place → list_all is_name (drop k tokens) ≡ false
    earlier k before =
        let i = place - 1 - k in
        let at : get_or (drop k tokens) i [] ≡ get_or tokens (place - 1) [] = get_or-drop k tokens i [] ∙ ap (λ n. get_or tokens n []) (let e : k + i ≡ place - 1 = omega (arith, before) in e) in
        list_all_at is_name (drop k tokens) i [] (omega (arith, length-drop k tokens, before, within)) (ap is_name at ∙ other (omega (arith, before)))

-- one name more
pub names_before : (place : ℕ) (tokens : List (List ℕ)) → list_all is_name (drop place tokens) ≡ true → 0 < place → place ≤ length tokens
    → is_name (get_or tokens (place - 1) []) ≡ true → list_all is_name (drop (place - 1) tokens) ≡ true
names_before place tokens names some within name =
    let split : drop (place - 1) tokens ≡ get_or tokens (place - 1) [] ∷ drop (suc (place - 1)) tokens = drop-cons tokens (place - 1) [] (omega arith) in
    let e : suc (place - 1) ≡ place = omega (arith, some) in
    ap (list_all is_name) (split ∙ ap (λ n. get_or tokens (place - 1) [] ∷ drop n tokens) e) ∙ ap (λ b. b && list_all is_name (drop place tokens)) name ∙ names

-- whether a byte was met that no line holds, with one token more
pub bad_already : (before here now rest all : Bool) → before ≡ true → now ≡ true → (before || (here || rest)) ≡ all → (now || rest) ≡ all
bad_already true here true rest all e f h = h
bad_already true here false rest all e f h = absurd (false≢true f)
bad_already false here now rest all e f h = absurd (false≢true e)

-- it was not met before
pub bad_here : (before here now rest all : Bool) → before ≡ false → now ≡ here → (before || (here || rest)) ≡ all → (now || rest) ≡ all
bad_here false here now rest all e f h = ap (λ b. b || rest) f ∙ h
bad_here true here now rest all e f h = absurd (false≢true (sym e))
