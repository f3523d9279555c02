-- Facts carried over results and options.
use Rattle.std.proofs.Common.{◌≡◌, Option, Some, None, Result, Ok, Err, false, is_some, refl, sym, subst}
use Rattle.std.proofs.lemmas.Bool.{false≢true}
use Rattle.std.specs.Result.{IfOk, IfErr, IsErrAnd}

-- what holds of a value, by what held of it
pub if_ok : {T E : Type 0} (P Q : T → Type 0) (r : Result T E) → IfOk r P → ((x : T) → P x → Q x) → IfOk r Q
if_ok P Q (Ok x) h f = f x h
if_ok P Q (Err e) h f = tt

-- what holds of an error
pub if_err : {T E : Type 0} (P Q : E → Type 0) (r : Result T E) → IfErr r P → ((e : E) → P e → Q e) → IfErr r Q
if_err P Q (Ok x) h f = tt
if_err P Q (Err e) h f = f e h

-- what holds of the error that a result has
pub on_err : {T E : Type 0} (P : E → Type 0) (r : Result T E) (x : E) → IsErrAnd r (λ e. e ≡ x) → P x → IfErr r P
on_err P (Ok y) x h k = tt
on_err P (Err e) x h k = subst P (sym h) k
