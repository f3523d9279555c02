-- Decisions, bounded search and counting on {0..n-1}, without excluded middle.
use Rattle.std.proofs.Common.{◌≡◌, ℕ, zero, suc, ◌+◌, ◌<◌, ◌≤◌, ◌≢◌, ◌⊎◌, inl, inr, Bool, true, false, arith, refl, sym, ap, ◌∙◌}
use Rattle.std.proofs.lemmas.Bool.{false≢true}

-- P holds, or it doesn't
abbrev pub Decided : Type 0 → Type 0
Decided P = P ⊎ (P → ⊥)

-- of two numbers the first is below the second, or it is not
pub lt_or_le : (a b : ℕ) → (a < b) ⊎ (b ≤ a)
lt_or_le a b = grind arith

-- two numbers are the same or they are not
pub eq_or_ne : (a b : ℕ) → (a ≡ b) ⊎ (a ≢ b)
eq_or_ne a b = grind arith

-- of two numbers the first is below, the same or above
pub less_same_more : (a b : ℕ) → (a < b) ⊎ ((a ≡ b) ⊎ (b < a))
less_same_more a b = grind arith

-- whether one number is below another is decided
pub Decided-lt : (a b : ℕ) → Decided (a < b)
Decided-lt a b = elim (lt_or_le a b) [ inl h ↦ inl h | inr h ↦ inr (λ k. omega arith) ]

-- whether one number is at most another is decided
pub Decided-le : (a b : ℕ) → Decided (a ≤ b)
Decided-le a b = elim (lt_or_le b a) [ inl h ↦ inr (λ k. omega arith) | inr h ↦ inl h ]

-- whether two numbers are the same is decided
pub Decided-eq : (a b : ℕ) → Decided (a ≡ b)
Decided-eq a b = elim (eq_or_ne a b) [ inl h ↦ inl h | inr h ↦ inr h ]

-- what is decided stays so under "and"
pub Decided-and : {P Q : Type 0} → Decided P → Decided Q → Decided (P × Q)
Decided-and (inl p) (inl q) = inl (p, q)
Decided-and (inl p) (inr q) = inr (λ w. q w.1)
Decided-and (inr p) _ = inr (λ w. p w.0)

-- what is decided stays so under "not"
pub Decided-not : {P : Type 0} → Decided P → Decided (P → ⊥)
Decided-not (inl p) = inr (λ h. h p)
Decided-not (inr p) = inl p

-- whether a test passes is decided
pub Decided-true : (b : Bool) → Decided (b ≡ true)
Decided-true true = inl refl
Decided-true false = inr (λ e. false≢true e)

-- a decision as a `Bool`
pub bool_of : {P : Type 0} → Decided P → Bool
bool_of (inl _) = true
bool_of (inr _) = false

-- what holds where that is true
pub holds_of : {P : Type 0} (d : Decided P) → bool_of d ≡ true → P
unfolding bool_of
holds_of (inl p) e = p
holds_of (inr p) e = absurd (false≢true e)

-- and it is true where it holds
pub of_holds : {P : Type 0} (d : Decided P) → P → bool_of d ≡ true
unfolding bool_of
of_holds (inl p) _ = refl
of_holds (inr p) x = absurd (p x)

-- what isn't so where its denial is absurd
pub by_contradiction : {P : Type 0} → Decided P → ((P → ⊥) → ⊥) → P
by_contradiction (inl p) _ = p
by_contradiction (inr p) h = absurd (h p)

-- the first number below n at which P holds
pub record First (n : ℕ) (P : ℕ → Type 0) : Type 0 where
  pub at : ℕ
  pub below : at < n
  pub holds : P at
  pub earlier : (j : ℕ) → j < at → P j → ⊥

-- the first number below n with a decided property, or none below n has it
pub search_below : (n : ℕ) (P : ℕ → Type 0) → ((i : ℕ) → i < n → Decided (P i)) → First n P ⊎ ((i : ℕ) → i < n → P i → ⊥)
search_below zero P d = inr (λ i h _. omega arith)
search_below (suc n) P d = go (search_below n P (λ i h. d i (omega arith))) (d n (omega arith))
  where
    go : First n P ⊎ ((i : ℕ) → i < n → P i → ⊥) → Decided (P n) → First (suc n) P ⊎ ((i : ℕ) → i < suc n → P i → ⊥)
    go (inl w) _ = inl (record { at = w.at; below = omega (arith, w.below); holds = w.holds; earlier = w.earlier })
    go (inr none) (inl p) = inl (record { at = n; below = omega arith; holds = p; earlier = none })
    go (inr none) (inr p) = inr (λ i h x. elim (eq_or_ne i n) [ inl e ↦ p (rw e at x) | inr e ↦ none i (omega arith) x ])

-- the last number below n at which P holds
pub record Last (n : ℕ) (P : ℕ → Type 0) : Type 0 where
  pub at : ℕ
  pub below : at < n
  pub holds : P at
  pub later : (j : ℕ) → at < j → j < n → P j → ⊥

-- the last number below n with a decided property, or none below n has it
pub last_below : (n : ℕ) (P : ℕ → Type 0) → ((i : ℕ) → i < n → Decided (P i)) → Last n P ⊎ ((i : ℕ) → i < n → P i → ⊥)
last_below zero P d = inr (λ i h _. omega arith)
last_below (suc n) P d = go (last_below n P (λ i h. d i (omega arith))) (d n (omega arith))
  where
    go : Last n P ⊎ ((i : ℕ) → i < n → P i → ⊥) → Decided (P n) → Last (suc n) P ⊎ ((i : ℕ) → i < suc n → P i → ⊥)
    go _ (inl p) = inl (record { at = n; below = omega arith; holds = p; later = λ j h k _. omega arith })
    go (inl w) (inr p) = inl (record { at = w.at; below = omega (arith, w.below); holds = w.holds; later = λ j h k x. elim (eq_or_ne j n) [ inl e ↦ p (rw e at x) | inr e ↦ w.later j h (omega arith) x ] })
    go (inr none) (inr p) = inr (λ i h x. elim (eq_or_ne i n) [ inl e ↦ p (rw e at x) | inr e ↦ none i (omega arith) x ])

-- whether some number below n has a decided property is decided
pub Decided-some : (n : ℕ) (P : ℕ → Type 0) → ((i : ℕ) → i < n → Decided (P i)) → Decided (First n P)
Decided-some n P d = elim (search_below n P d) [ inl w ↦ inl w | inr none ↦ inr (λ w. none w.at w.below w.holds) ]

-- the pigeonhole: of n + 1 numbers below n two are equal
pub record Twice (f : ℕ → ℕ) (n : ℕ) : Type 0 where
  pub one : ℕ
  pub two : ℕ
  pub order : one < two
  pub within : two ≤ n
  pub same : f one ≡ f two

-- f with the value n replaced
replaced : (f : ℕ → ℕ) (n v i : ℕ) → ((f i ≡ n) ⊎ (f i ≢ n)) → ℕ
replaced f n v i (inl _) = v
replaced f n v i (inr _) = f i

abbrev moved : (f : ℕ → ℕ) (n v i : ℕ) → ℕ
moved f n v i = replaced f n v i (eq_or_ne (f i) n)

moved_cases : (f : ℕ → ℕ) (n v i : ℕ) → ((f i ≡ n) × (moved f n v i ≡ v)) ⊎ ((f i ≢ n) × (moved f n v i ≡ f i))
unfolding replaced
moved_cases f n v i = go (eq_or_ne (f i) n)
  where
    go : (d : (f i ≡ n) ⊎ (f i ≢ n)) → ((f i ≡ n) × (replaced f n v i d ≡ v)) ⊎ ((f i ≢ n) × (replaced f n v i d ≡ f i))
    go (inl e) = inl (e, refl)
    go (inr e) = inr (e, refl)

-- of n + 1 values below n two are the same
pub pigeonhole : (n : ℕ) (f : ℕ → ℕ) → ((i : ℕ) → i ≤ n → f i < n) → Twice f n
pigeonhole zero f h = absurd (omega (arith, h 0 (omega arith)))
pigeonhole (suc n) f h = go (search_below (suc n) (λ i. f i ≡ f (suc n)) (λ i _. Decided-eq (f i) (f (suc n)))) (pigeonhole n (moved f n (f (suc n))))
  where
    back : ((i : ℕ) → i < suc n → f i ≡ f (suc n) → ⊥) → Twice (moved f n (f (suc n))) n → Twice f (suc n)
    back none w = elim (moved_cases f n (f (suc n)) w.one) [
      | inl a ↦ elim (moved_cases f n (f (suc n)) w.two) [
        | inl b ↦ record { one = w.one; two = w.two; order = w.order; within = omega (arith, w.within); same = a.0 ∙ sym b.0 }
        | inr b ↦ absurd (none w.two (omega (arith, w.within)) (sym b.1 ∙ sym w.same ∙ a.1))
      ]
      | inr a ↦ elim (moved_cases f n (f (suc n)) w.two) [
        | inl b ↦ absurd (none w.one (omega (arith, w.within, w.order)) (sym a.1 ∙ w.same ∙ b.1))
        | inr b ↦ record { one = w.one; two = w.two; order = w.order; within = omega (arith, w.within); same = sym a.1 ∙ w.same ∙ b.1 }
      ]
    ]

    small : ((i : ℕ) → i < suc n → f i ≡ f (suc n) → ⊥) → (i : ℕ) → i ≤ n → moved f n (f (suc n)) i < n
    small none i k = elim (moved_cases f n (f (suc n)) i) [
      | inl a ↦ elim (eq_or_ne (f (suc n)) n) [ inl e ↦ absurd (none i (omega arith) (a.0 ∙ sym e)) | inr e ↦ omega (arith, h (suc n) (omega arith), a.1) ]
      | inr a ↦ omega (arith, h i (omega arith), a.0, a.1)
    ]

    go : First (suc n) (λ i. f i ≡ f (suc n)) ⊎ ((i : ℕ) → i < suc n → f i ≡ f (suc n) → ⊥) → (((i : ℕ) → i ≤ n → moved f n (f (suc n)) i < n) → Twice (moved f n (f (suc n))) n) → Twice f (suc n)
    go (inl w) _ = record { one = w.at; two = suc n; order = w.below; within = omega arith; same = w.holds }
    go (inr none) ih = back none (ih (small none))

-- so what doesn't repeat is no longer than its range
pub one_to_one-le : (m n : ℕ) (f : ℕ → ℕ) → ((i : ℕ) → i < m → f i < n) → ((i j : ℕ) → i < j → j < m → f i ≢ f j) → m ≤ n
one_to_one-le m n f within apart = elim (lt_or_le n m) [
  | inl more ↦ absurd (let t = pigeonhole n f (λ i le. within i (omega arith)) in apart t.one t.two t.order (omega (arith, t.within)) t.same)
  | inr le ↦ le
]

-- f applied k times
pub iterate : (f : ℕ → ℕ) (k x : ℕ) → ℕ
iterate f zero x = x
iterate f (suc k) x = f (iterate f k x)

-- f applied no times changes nothing
pub iterate-zero : (f : ℕ → ℕ) (x : ℕ) → iterate f zero x ≡ x
unfolding iterate
iterate-zero f x = refl

-- f applied once more
pub iterate-suc : (f : ℕ → ℕ) (k x : ℕ) → iterate f (suc k) x ≡ f (iterate f k x)
unfolding iterate
iterate-suc f k x = refl

-- iterates stay where f stays
pub iterate_stays : (P : ℕ → Type 0) (f : ℕ → ℕ) → ((x : ℕ) → P x → P (f x)) → (k x : ℕ) → P x → P (iterate f k x)
iterate_stays P f stays zero x p = rw (iterate-zero f x) p
iterate_stays P f stays (suc k) x p = rw (iterate-suc f k x) (stays _ (iterate_stays P f stays k x p))

-- f applied j times and then k times is f applied k + j times
pub iterate-add : (f : ℕ → ℕ) (k j x : ℕ) → iterate f (k + j) x ≡ iterate f k (iterate f j x)
iterate-add f zero j x = rw (iterate-zero f (iterate f j x)) (ap (λ z. iterate f z x) (omega arith))
iterate-add f (suc k) j x = rw (iterate-suc f k (iterate f j x), ← iterate-add f k j x, ← iterate-suc f (k + j) x) (ap (λ z. iterate f z x) (omega arith))

-- iterates of a map that stays in a part of {0..n-1} meet
pub find_cycle : (n : ℕ) (P : ℕ → Type 0) (f : ℕ → ℕ) → ((x : ℕ) → P x → x < n) → ((x : ℕ) → P x → P (f x)) → (x : ℕ) → P x → Twice (λ k. iterate f k x) n
find_cycle n P f inside stays x p = pigeonhole n (λ k. iterate f k x) (λ k _. inside _ (iterate_stays P f stays k x p))

-- y is the value of f at something with the property
pub record Reached (P : ℕ → Type 0) (f : ℕ → ℕ) (y : ℕ) : Type 0 where
  pub from : ℕ
  pub holds : P from
  pub arrives : f from ≡ y

-- an injective map of a part of {0..n-1} into itself is onto it
pub onto_itself : (n : ℕ) (P : ℕ → Type 0) (f : ℕ → ℕ) → ((x : ℕ) → P x → x < n) → ((x : ℕ) → P x → P (f x)) → ((x y : ℕ) → P x → P y → f x ≡ f y → x ≡ y) → (y : ℕ) → P y → Reached P f y
onto_itself n P f inside stays injective y p =
    let w = find_cycle n P f inside stays y p in
    go w.one w.two w.order w.same
  where
    it : (k : ℕ) → P (iterate f k y)
    it k = iterate_stays P f stays k y p

    go : (i j : ℕ) → i < j → iterate f i y ≡ iterate f j y → Reached P f y
    go zero zero h _ = absurd (omega arith)
    go zero (suc j) h e = record { from = iterate f j y; holds = it j; arrives = rw (← iterate-suc f j y, ← e) (iterate-zero f y) }
    go (suc i) zero h _ = absurd (omega arith)
    go (suc i) (suc j) h e = go i j (omega arith) (injective _ _ (it i) (it j) (rw (← iterate-suc f i y, ← iterate-suc f j y) e))

-- f takes P onto R, and g takes R onto P
pub record BothOnto (P R : ℕ → Type 0) (f g : ℕ → ℕ) : Type 0 where
  pub left : (r : ℕ) → R r → Reached P f r
  pub right : (p : ℕ) → P p → Reached R g p

-- two injections, there and back, are onto
pub two_injections : (n : ℕ) (P R : ℕ → Type 0) (f g : ℕ → ℕ) → ((x : ℕ) → P x → x < n)
    → ((x : ℕ) → P x → R (f x)) → ((x y : ℕ) → P x → P y → f x ≡ f y → x ≡ y)
    → ((x : ℕ) → R x → P (g x)) → ((x y : ℕ) → R x → R y → g x ≡ g y → x ≡ y)
    → BothOnto P R f g
two_injections n P R f g inside to to_inj back back_inj = record { left = left; right = right }
  where
    round : (p : ℕ) → P p → Reached P (λ x. g (f x)) p
    round = onto_itself n P (λ x. g (f x)) inside (λ x p. back _ (to x p)) (λ x y p q e. to_inj x y p q (back_inj _ _ (to x p) (to y q) e))

    right : (p : ℕ) → P p → Reached R g p
    right p h = let w = round p h in record { from = f w.from; holds = to _ w.holds; arrives = w.arrives }

    left : (r : ℕ) → R r → Reached P f r
    left r h = let w = round (g r) (back r h) in record { from = w.from; holds = w.holds; arrives = back_inj _ _ (to _ w.holds) h w.arrives }
