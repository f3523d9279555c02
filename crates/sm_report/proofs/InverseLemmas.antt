-- Readers that are inverse to writers.
use Rattle.std.proofs.Common.{◌≡◌, ℕ, Bool, true, false, cond, List, [], ◌∷◌, map, All, Option, Some, None, option_map, refl, sym, ap, ◌∙◌, subst, codes}
use Rattle.std.specs.List.{flat_map}
use Rattle.std.specs.Option.{option_zip, option_and_then}
use Rattle.std.specs.Str.{bytes_eq}
use Rattle.std.proofs.lemmas.List.Elements.{All-nil, All-cons, All-head, All-tail}
use Rattle.std.proofs.lemmas.Option.{none-some, same_Some}
use Rattle.std.proofs.lemmas.Slice.Eq.{bytes_eq-Decides}
use Rattle.sm_report.specs.Texts.{listed}
use Rattle.sm_report.specs.Vectors.{each_in}
use Rattle.sm_report.specs.Meanings.{one_of, two_of, headed_of, items_in, each_pair_in}

-- what is sound is read again from what was written for it, and what is read is sound and was so written
pub record Inverts {X Y : Type 0} (Sound : X → Type 0) (write : X → Y) (read : Y → Option X) : Type 0 where
  pub again : (x : X) → Sound x → read (write x) ≡ Some x
  pub sound : (y : Y) (x : X) → read y ≡ Some x → Sound x
  pub same : (y : Y) (x : X) → read y ≡ Some x → write x ≡ y

-- what an option that was mapped holds
pub record Mapped {X Y : Type 0} (f : X → Y) (o : Option X) (y : Y) : Type 0 where
  pub from : X
  pub is : o ≡ Some from
  pub gives : f from ≡ y

-- what was mapped came from an item
pub mapped : {X Y : Type 0} (f : X → Y) (o : Option X) (y : Y) → option_map f o ≡ Some y → Mapped f o y
mapped f None y e = absurd (none-some y e)
mapped f (Some x) y e = record { from = x; is = refl; gives = same_Some _ _ e }

-- what an option that was read in two steps holds
pub record Chained {X Y : Type 0} (f : X → Option Y) (o : Option X) (y : Y) : Type 0 where
  pub from : X
  pub is : o ≡ Some from
  pub gives : f from ≡ Some y

-- what was read in two steps passed both
pub chained : {X Y : Type 0} (f : X → Option Y) (o : Option X) (y : Y) → option_and_then f o ≡ Some y → Chained f o y
chained f None y e = absurd (none-some y e)
chained f (Some x) y e = record { from = x; is = refl; gives = e }

-- what a pair of options holds
pub record Zipped {X Y : Type 0} (o : Option X) (p : Option Y) (z : X × Y) : Type 0 where
  pub first : o ≡ Some z.0
  pub second : p ≡ Some z.1

-- what was paired was there on both sides
pub zipped : {X Y : Type 0} (o : Option X) (p : Option Y) (z : X × Y) → option_zip o p ≡ Some z → Zipped o p z
zipped None p z e = absurd (none-some z e)
zipped (Some x) None z e = absurd (none-some z e)
zipped (Some x) (Some y) z e =
    let same = same_Some _ _ e in
    record { first = ap (λ t. Some t.0) same; second = ap (λ t. Some t.1) same }

-- equal texts
pub text_true : (xs ys : List ℕ) → xs ≡ ys → bytes_eq xs ys ≡ true
text_true xs ys e = (bytes_eq-Decides xs ys).1 e

-- texts that compare equal are the same
pub text_same : (xs ys : List ℕ) → bytes_eq xs ys ≡ true → xs ≡ ys
text_same xs ys e = (bytes_eq-Decides xs ys).0 e

-- where a test answers true or false
pub by_answer : {P : Type 0} (b : Bool) → (b ≡ true → P) → (b ≡ false → P) → P
by_answer true yes_ no_ = yes_ refl
by_answer false yes_ no_ = no_ refl

-- the fields of one thing, of two and of three
pub one_inverts : {X : Type 0} {Sound : X → Type 0} {write : X → List ℕ} {read : List ℕ → Option X} → Inverts Sound write read
    → Inverts Sound (λ x. write x ∷ []) (λ fields. option_and_then read (one_of fields))
unfolding one_of
one_inverts {X} {Sound} {write} {read} h = record { again = λ x s. h.again x s; sound = sound; same = same } where
  sound : (fields : List (List ℕ)) (x : X) → option_and_then read (one_of fields) ≡ Some x → Sound x
  sound [] x e = absurd (none-some x e)
  sound (a ∷ []) x e = h.sound a x e
  sound (a ∷ b ∷ more) x e = absurd (none-some x e)

  same : (fields : List (List ℕ)) (x : X) → option_and_then read (one_of fields) ≡ Some x → write x ∷ [] ≡ fields
  same [] x e = absurd (none-some x e)
  same (a ∷ []) x e = ap (λ t. t ∷ []) (h.same a x e)
  same (a ∷ b ∷ more) x e = absurd (none-some x e)

-- two readers, each inverse to its writer, are so for two fields
pub two_inverts : {X Y : Type 0} {S : X → Type 0} {v : X → List ℕ} {r : List ℕ → Option X} {T : Y → Type 0} {w : Y → List ℕ} {q : List ℕ → Option Y}
    → Inverts S v r → Inverts T w q
    → Inverts (λ (z : X × Y). S z.0 × T z.1) (λ z. v z.0 ∷ w z.1 ∷ []) (λ fields. option_and_then (λ x. option_zip (r x.0) (q x.1)) (two_of fields))
unfolding two_of
two_inverts {X} {Y} {S} {v} {r} {T} {w} {q} h k = record { again = again; sound = sound; same = same } where
  again : (z : X × Y) → S z.0 × T z.1 → option_zip (r (v z.0)) (q (w z.1)) ≡ Some z
  again z s = ap (λ o. option_zip o (q (w z.1))) (h.again z.0 s.0) ∙ ap (λ o. option_zip (Some z.0) o) (k.again z.1 s.1)

  sound : (fields : List (List ℕ)) (z : X × Y) → option_and_then (λ x. option_zip (r x.0) (q x.1)) (two_of fields) ≡ Some z → S z.0 × T z.1
  sound [] z e = absurd (none-some z e)
  sound (a ∷ []) z e = absurd (none-some z e)
  sound (a ∷ b ∷ []) z e = let p = zipped (r a) (q b) z e in (h.sound a z.0 p.first, k.sound b z.1 p.second)
  sound (a ∷ b ∷ c ∷ more) z e = absurd (none-some z e)

  same : (fields : List (List ℕ)) (z : X × Y) → option_and_then (λ x. option_zip (r x.0) (q x.1)) (two_of fields) ≡ Some z → v z.0 ∷ w z.1 ∷ [] ≡ fields
  same [] z e = absurd (none-some z e)
  same (a ∷ []) z e = absurd (none-some z e)
  same (a ∷ b ∷ []) z e = let p = zipped (r a) (q b) z e in ap (λ t. t ∷ w z.1 ∷ []) (h.same a z.0 p.first) ∙ ap (λ t. a ∷ t ∷ []) (k.same b z.1 p.second)
  same (a ∷ b ∷ c ∷ more) z e = absurd (none-some z e)

-- a field and others behind it
pub headed_inverts : {X Y : Type 0} {S : X → Type 0} {v : X → List ℕ} {r : List ℕ → Option X} {T : Y → Type 0} {w : Y → List (List ℕ)} {q : List (List ℕ) → Option Y}
    → Inverts S v r → Inverts T w q
    → Inverts (λ (z : X × Y). S z.0 × T z.1) (λ z. v z.0 ∷ w z.1) (λ fields. option_and_then (λ x. option_zip (r x.0) (q x.1)) (headed_of fields))
unfolding headed_of
headed_inverts {X} {Y} {S} {v} {r} {T} {w} {q} h k = record { again = again; sound = sound; same = same } where
  again : (z : X × Y) → S z.0 × T z.1 → option_zip (r (v z.0)) (q (w z.1)) ≡ Some z
  again z s = ap (λ o. option_zip o (q (w z.1))) (h.again z.0 s.0) ∙ ap (λ o. option_zip (Some z.0) o) (k.again z.1 s.1)

  sound : (fields : List (List ℕ)) (z : X × Y) → option_and_then (λ x. option_zip (r x.0) (q x.1)) (headed_of fields) ≡ Some z → S z.0 × T z.1
  sound [] z e = absurd (none-some z e)
  sound (a ∷ more) z e = let p = zipped (r a) (q more) z e in (h.sound a z.0 p.first, k.sound more z.1 p.second)

  same : (fields : List (List ℕ)) (z : X × Y) → option_and_then (λ x. option_zip (r x.0) (q x.1)) (headed_of fields) ≡ Some z → v z.0 ∷ w z.1 ≡ fields
  same [] z e = absurd (none-some z e)
  same (a ∷ more) z e = let p = zipped (r a) (q more) z e in ap (λ t. t ∷ w z.1) (h.same a z.0 p.first) ∙ ap (λ t. a ∷ t) (k.same more z.1 p.second)

-- each of a list's items
pub each_inverts : {X : Type 0} {S : X → Type 0} {v : X → List ℕ} {r : List ℕ → Option X} → Inverts S v r → Inverts (All S) (map v) (each_in r)
each_inverts {X} {S} {v} {r} h = record { again = again; sound = sound; same = same } where
  again : (xs : List X) → All S xs → each_in r (map v xs) ≡ Some xs
  again [] s = refl
  again (x ∷ xs) s =
      ap (option_and_then (λ x. option_map (λ xs. x ∷ xs) (each_in r (map v xs)))) (h.again x (All-head S x xs s))
      ∙ ap (option_map (λ xs. x ∷ xs)) (again xs (All-tail S x xs s))

  sound : (ts : List (List ℕ)) (xs : List X) → each_in r ts ≡ Some xs → All S xs
  sound [] xs e = subst (All S) (same_Some _ _ e) (All-nil S)
  sound (t ∷ ts) xs e =
      let c = chained (λ x. option_map (λ xs. x ∷ xs) (each_in r ts)) (r t) xs e in
      let m = mapped (λ xs. c.from ∷ xs) (each_in r ts) xs c.gives in
      subst (All S) m.gives (All-cons S c.from m.from (h.sound t c.from c.is) (sound ts m.from m.is))

  same : (ts : List (List ℕ)) (xs : List X) → each_in r ts ≡ Some xs → map v xs ≡ ts
  same [] xs e = ap (map v) (sym (same_Some _ _ e))
  same (t ∷ ts) xs e =
      let c = chained (λ x. option_map (λ xs. x ∷ xs) (each_in r ts)) (r t) xs e in
      let m = mapped (λ xs. c.from ∷ xs) (each_in r ts) xs c.gives in
      ap (map v) (sym m.gives) ∙ ap (λ a. a ∷ map v m.from) (h.same t c.from c.is) ∙ ap (λ a. t ∷ a) (same ts m.from m.is)

-- each two of a list's items
pub each_pair_inverts : {X Y : Type 0} {S : X → Type 0} {v : X → List ℕ} {r : List ℕ → Option X} {T : Y → Type 0} {w : Y → List ℕ} {q : List ℕ → Option Y}
    → Inverts S v r → Inverts T w q
    → Inverts (All (λ (z : X × Y). S z.0 × T z.1)) (flat_map (λ (z : X × Y). v z.0 ∷ w z.1 ∷ [])) (each_pair_in r q)
each_pair_inverts {X} {Y} {S} {v} {r} {T} {w} {q} h k = record { again = again; sound = sound; same = same } where
  again : (zs : List (X × Y)) → All (λ (z : X × Y). S z.0 × T z.1) zs → each_pair_in r q (flat_map (λ (z : X × Y). v z.0 ∷ w z.1 ∷ []) zs) ≡ Some zs
  again [] s = refl
  again (z ∷ zs) s =
      let here = All-head (λ (z : X × Y). S z.0 × T z.1) z zs s in
      let rest = each_pair_in r q (flat_map (λ (z : X × Y). v z.0 ∷ w z.1 ∷ []) zs) in
      ap (λ o. option_and_then (λ z. option_map (λ zs. z ∷ zs) rest) (option_zip o (q (w z.1)))) (h.again z.0 here.0)
      ∙ ap (λ o. option_and_then (λ z. option_map (λ zs. z ∷ zs) rest) (option_zip (Some z.0) o)) (k.again z.1 here.1)
      ∙ ap (option_map (λ zs. z ∷ zs)) (again zs (All-tail (λ (z : X × Y). S z.0 × T z.1) z zs s))

  sound : (ts : List (List ℕ)) (zs : List (X × Y)) → each_pair_in r q ts ≡ Some zs → All (λ (z : X × Y). S z.0 × T z.1) zs
  sound [] zs e = subst (All (λ (z : X × Y). S z.0 × T z.1)) (same_Some _ _ e) (All-nil (λ (z : X × Y). S z.0 × T z.1))
  sound (t ∷ []) zs e = absurd (none-some zs e)
  sound (t ∷ u ∷ ts) zs e =
      let c = chained (λ x. option_map (λ xs. x ∷ xs) (each_pair_in r q ts)) (option_zip (r t) (q u)) zs e in
      let m = mapped (λ xs. c.from ∷ xs) (each_pair_in r q ts) zs c.gives in
      let p = zipped (r t) (q u) c.from c.is in
      subst (All (λ (z : X × Y). S z.0 × T z.1)) m.gives
      (All-cons (λ (z : X × Y). S z.0 × T z.1) c.from m.from (h.sound t c.from.0 p.first, k.sound u c.from.1 p.second) (sound ts m.from m.is))

  same : (ts : List (List ℕ)) (zs : List (X × Y)) → each_pair_in r q ts ≡ Some zs → flat_map (λ (z : X × Y). v z.0 ∷ w z.1 ∷ []) zs ≡ ts
  same [] zs e = ap (flat_map (λ (z : X × Y). v z.0 ∷ w z.1 ∷ [])) (sym (same_Some _ _ e))
  same (t ∷ []) zs e = absurd (none-some zs e)
  same (t ∷ u ∷ ts) zs e =
      let c = chained (λ x. option_map (λ xs. x ∷ xs) (each_pair_in r q ts)) (option_zip (r t) (q u)) zs e in
      let m = mapped (λ xs. c.from ∷ xs) (each_pair_in r q ts) zs c.gives in
      let p = zipped (r t) (q u) c.from c.is in
      let rest = flat_map (λ (z : X × Y). v z.0 ∷ w z.1 ∷ []) m.from in
      ap (flat_map (λ (z : X × Y). v z.0 ∷ w z.1 ∷ [])) (sym m.gives)
      ∙ ap (λ a. a ∷ w c.from.1 ∷ rest) (h.same t c.from.0 p.first) ∙ ap (λ a. t ∷ a ∷ rest) (k.same u c.from.1 p.second) ∙ ap (λ a. t ∷ u ∷ a) (same ts m.from m.is)

-- a list with one field at least
pub listed_inverts : {X : Type 0} {S : List X → Type 0} {w : List X → List (List ℕ)} {q : List (List ℕ) → Option (List X)} → Inverts S w q → q (codes "-" ∷ []) ≡ None
    → Inverts S (λ xs. listed (w xs)) (λ fields. option_and_then q (items_in fields))
unfolding items_in
listed_inverts {X} {S} {w} {q} h dash = record { again = again; sound = sound; same = same } where
  again : (xs : List X) → S xs → option_and_then q (items_in (listed (w xs))) ≡ Some xs
  again xs s = by_fields (w xs) (h.again xs s) where
    by_test : (t : List ℕ) (b : Bool) → bytes_eq t (codes "-") ≡ b → q (t ∷ []) ≡ Some xs → option_and_then q (cond b (Some []) (Some (t ∷ []))) ≡ Some xs
    by_test t true is e = absurd (none-some xs (sym dash ∙ ap (λ a. q (a ∷ [])) (sym (text_same t (codes "-") is)) ∙ e))
    by_test t false is e = e

    by_fields : (ts : List (List ℕ)) → q ts ≡ Some xs → option_and_then q (items_in (listed ts)) ≡ Some xs
    by_fields [] e = e
    by_fields (t ∷ []) e = by_test t (bytes_eq t (codes "-")) refl e
    by_fields (t ∷ u ∷ ts) e = e

  sound : (fields : List (List ℕ)) (xs : List X) → option_and_then q (items_in fields) ≡ Some xs → S xs
  sound [] xs e = absurd (none-some xs e)
  sound (t ∷ []) xs e = by_test (bytes_eq t (codes "-")) e where
    by_test : (b : Bool) → option_and_then q (cond b (Some []) (Some (t ∷ []))) ≡ Some xs → S xs
    by_test true e = h.sound [] xs e
    by_test false e = h.sound (t ∷ []) xs e
  sound (t ∷ u ∷ ts) xs e = h.sound (t ∷ u ∷ ts) xs e

  same : (fields : List (List ℕ)) (xs : List X) → option_and_then q (items_in fields) ≡ Some xs → listed (w xs) ≡ fields
  same [] xs e = absurd (none-some xs e)
  same (t ∷ []) xs e = by_test (bytes_eq t (codes "-")) refl e where
    by_test : (b : Bool) → bytes_eq t (codes "-") ≡ b → option_and_then q (cond b (Some []) (Some (t ∷ []))) ≡ Some xs → listed (w xs) ≡ t ∷ []
    by_test true is e = ap listed (h.same [] xs e) ∙ ap (λ a. a ∷ []) (sym (text_same t (codes "-") is))
    by_test false is e = ap listed (h.same (t ∷ []) xs e)
  same (t ∷ u ∷ ts) xs e = ap listed (h.same (t ∷ u ∷ ts) xs e)
