-- Texts that may not be there, one behind the other.
use Rattle.std.proofs.Common.{◌≡◌, ℕ, ◌<◌, ◌≤◌, ◌+◌, List, [], ◌∷◌, ◌++◌, map, length, drop, get_or, Option, Some, None, option_map, Result, Ok, Err, IsErrAnd, refl, sym, ap, ◌∙◌, append_assoc, append-nil, subst}
use Rattle.std.specs.List.{flat_map}
use Rattle.std.specs.Option.{option_and_then}
use Rattle.std.proofs.lemmas.List.{drop_all, at_drop_more}
use Rattle.std.proofs.lemmas.Option.{none-some}
use Rattle.sm_json.specs.declared.faults.JsonFault.{JsonFault}
use Rattle.sm_json.specs.declared.faults.JsonFault.TheVariants.{BadJson, OutOfMemory}
use Rattle.serde_json.specs.Data.{Data}
use Rattle.serde_json.specs.View.{items_of}
use Rattle.sm_json.specs.Values.{every, list_of}
use Rattle.sm_json.specs.Adding.{Adds, joined, texts}

-- one text was added
pub step_joined : (a b : List ℕ) (x y : Option (List ℕ)) → Adds a b x (Ok tt) → option_map (λ t. a ++ t) (joined x y) ≡ option_map (λ t. b ++ t) y
step_joined a b None y first = absurd (none-some b first)
step_joined a b (Some t) None first = refl
step_joined a b (Some t) (Some u) first = ap Some (sym (append_assoc a t u)) ∙ ap (option_map (λ z. z ++ u)) first

-- and there is none, and then none of both
pub none_joined : (x y : Option (List ℕ)) → y ≡ None → joined x y ≡ None
none_joined None y h = refl
none_joined (Some t) y h = ap (option_map (λ more. t ++ more)) h

-- one text and then another
pub adds_then : (a b c : List ℕ) (x y : Option (List ℕ)) (r : Result (Unit {0}) JsonFault) → Adds a b x (Ok tt) → Adds b c y r → Adds a c (joined x y) r
adds_then a b c x y (Ok done) first then = step_joined a b x y first ∙ then
adds_then a b c x y (Err BadJson) first then = none_joined x y then
adds_then a b c x y (Err OutOfMemory) first then = tt

-- another text that is the same
pub adds_same : (a b : List ℕ) (x y : Option (List ℕ)) (r : Result (Unit {0}) JsonFault) → x ≡ y → Adds a b x r → Adds a b y r
adds_same a b x y (Ok done) e h = ap (option_map (λ t. a ++ t)) (sym e) ∙ h
adds_same a b x y (Err BadJson) e h = sym e ∙ h
adds_same a b x y (Err OutOfMemory) e h = tt

each_both : {B : Type 0} (h : B → List ℕ) (p : Option B) (q : Option (List B))
    → option_map (flat_map h) (option_and_then (λ y. option_map (λ ys. y ∷ ys) q) p) ≡ joined (option_map h p) (option_map (flat_map h) q)
each_both h None q = refl
each_both h (Some y) None = refl
each_both h (Some y) (Some ys) = refl

-- the texts of some values, where each has one
pub texts_every : {A B : Type 0} (h : B → List ℕ) (g : A → Option B) (xs : List A) → option_map (flat_map h) (every g xs) ≡ texts (λ x. option_map h (g x)) xs
texts_every h g [] = refl
texts_every h g (x ∷ xs) = each_both h (g x) (every g xs) ∙ ap (joined (option_map h (g x))) (texts_every h g xs)

-- a list, as items, is a list again
pub list_again : (ds : List Data) → list_of (items_of ds) ≡ ds
list_again [] = refl
list_again (d ∷ ds) = ap (λ t. d ∷ t) (list_again ds)

-- a loop over values
module _ {A B : Type 0} (f : B → Option (List ℕ)) (v : A → B) where
  -- at the next value
  pub texts_at : (xs : List A) (i : ℕ) (d : A) → i < length xs → texts f (map v (drop i xs)) ≡ joined (f (v (get_or xs i d))) (texts f (map v (drop (i + 1) xs)))
  texts_at xs i d below = at_drop_more (λ zs. texts f (map v zs)) xs i d below

  -- its text was added
  pub texts_step : (a b c : List ℕ) (all : List A) (i : ℕ) (x : A) → i < length all → x ≡ get_or all i x
      → option_map (λ t. a ++ t) (texts f (map v all)) ≡ option_map (λ t. b ++ t) (texts f (map v (drop i all)))
      → Adds b c (f (v x)) (Ok tt)
      → option_map (λ t. a ++ t) (texts f (map v all)) ≡ option_map (λ t. c ++ t) (texts f (map v (drop (i + 1) all)))
  texts_step a b c all i x below is so_far here =
      so_far ∙ ap (option_map (λ t. b ++ t)) (texts_at all i x below ∙ ap (λ z. joined (f (v z)) (texts f (map v (drop (i + 1) all)))) (sym is))
      ∙ step_joined b c (f (v x)) _ here

  none_mapped : (a : List ℕ) (x : Option (List ℕ)) → option_map (λ t. a ++ t) x ≡ None → x ≡ None
  none_mapped a None h = refl
  none_mapped a (Some t) h = absurd (none-some (a ++ t) (sym h))

  -- it has none
  pub texts_stop : (a b c : List ℕ) (all : List A) (i : ℕ) (x : A) (e : JsonFault) → i < length all → x ≡ get_or all i x
      → option_map (λ t. a ++ t) (texts f (map v all)) ≡ option_map (λ t. b ++ t) (texts f (map v (drop i all)))
      → Adds b c (f (v x)) (Err e) → Adds a c (texts f (map v all)) (Err e)
  texts_stop a b c all i x BadJson below is so_far here =
      none_mapped a _ (so_far ∙ ap (option_map (λ t. b ++ t)) (texts_at all i x below ∙ ap (λ z. joined (f (v z)) (texts f (map v (drop (i + 1) all)))) (sym is)
      ∙ ap (λ o. joined o (texts f (map v (drop (i + 1) all)))) here))
  texts_stop a b c all i x OutOfMemory below is so_far here = tt

  -- all are added
  pub texts_done : (a b : List ℕ) (all : List A) (i : ℕ) → length all ≤ i
      → option_map (λ t. a ++ t) (texts f (map v all)) ≡ option_map (λ t. b ++ t) (texts f (map v (drop i all))) → Adds a b (texts f (map v all)) (Ok tt)
  texts_done a b all i over so_far = so_far ∙ ap (λ zs. option_map (λ t. b ++ t) (texts f (map v zs))) (drop_all i all over) ∙ ap Some (append-nil b)

-- the same refusal handed on
pub adds_on_err : (a b : List ℕ) (x : Option (List ℕ)) (e : JsonFault) (r : Result (Unit {0}) JsonFault) → IsErrAnd r (λ f. f ≡ e) → Adds a b x (Err e) → Adds a b x r
adds_on_err a b x e (Ok done) h adds = absurd h
adds_on_err a b x e (Err f) h adds = subst (λ y. Adds a b x (Err y)) (sym h) adds
