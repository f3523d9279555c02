-- Tests that agree, results, and vectors that were written through a slice.
use Rattle.std.proofs.Common.{◌≡◌, ℕ, ◌&&◌, cond, Bool, true, false, ◌++◌, List, Result, Ok, Err, length, take, refl, sym, subst}
use Rattle.std.specs.Result.{IfOk, OnErr}
use Rattle.std.proofs.Math.Seq.{take-append_seam}

-- two tests that pass alike are one
pub same_bool : (a b : Bool) → (a ≡ true → b ≡ true) → (b ≡ true → a ≡ true) → a ≡ b
same_bool true b f g = sym (f refl)
same_bool false true f g = g refl
same_bool false false f g = refl

-- a test of which one half fails
pub cond-and_false : (b : Bool) (x y : ℕ) → cond (b && false) x y ≡ y
cond-and_false true x y = refl
cond-and_false false x y = refl

-- what follows from a property of a success holds of it
pub IfOk-more : {X E : Type 0} (r : Result X E) (P Q : X → Type 0) → ((x : X) → P x → Q x) → IfOk r P → IfOk r Q
IfOk-more (Ok x) P Q f p = f x p
IfOk-more (Err e) P Q f p = tt

-- what follows from two facts on the value of a result
pub IfOk-both : {X E : Type 0} (r : Result X E) (P Q R : X → Type 0) → ((x : X) → P x → Q x → R x) → IfOk r P → IfOk r Q → IfOk r R
IfOk-both (Ok x) P Q R f p q = f x p q
IfOk-both (Err e) P Q R f p q = tt

-- a vector whose items are all written through a slice
pub take-append_at_length : {X : Type 0} (n : ℕ) (ys zs : List X) → length ys ≡ n → take n (ys ++ zs) ≡ ys
take-append_at_length n ys zs e = subst (λ k. take k (ys ++ zs) ≡ ys) e (take-append_seam ys zs)

-- what follows on an error, as on any result
pub on_err : {X E : Type 0} {P : Type 0} (r : Result X E) → P → OnErr r P
on_err (Ok x) p = tt
on_err (Err e) p = p
