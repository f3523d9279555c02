-- From the fault of a part to the fault of the whole.
use Rattle.std.proofs.Common.{◌≡◌, ℕ, List, Result, Ok, Err, IfErr, sym, subst, map, ℤ}
use Rattle.std.specs.Result.{IsErrAnd}
use Rattle.sm_agents.specs.Written.{weighed}
use Rattle.sm_agents.specs.Sound.{items_of}
use Rattle.sm_agents.specs.Checks.{IsItemFault}
use Rattle.sm_agents.specs.declared.faults.InstanceFault.{InstanceFault}
use Rattle.sm_agents.specs.declared.faults.InstanceFault.TheVariants.{TooMany, BadAgent, BadEntry, BadPair, BadOrder, OutOfMemory}
use Rattle.sm_agents.proofs.ItemLemmas.{bad_first}

-- an error that is handed on
pub on_err : {T E : Type 0} (P : E → Type 0) (e : E) (r : Result T E) → IsErrAnd r (λ f. f ≡ e) → P e → IfErr r P
on_err P e (Ok x) h k = absurd h
on_err P e (Err f) h k = subst P (sym h) k

-- the first weight that isn't sound is the first item that isn't
pub weights_faulty : (weights : List (ℕ × ℕ × ℤ)) (forced forbidden : List (ℕ × ℕ)) (p r : ℕ) (f : InstanceFault) → IsItemFault p r weights (map weighed weights) f → IsItemFault p r weights (items_of weights forced forbidden) f
weights_faulty weights forced forbidden p r TooMany h = h
weights_faulty weights forced forbidden p r (BadAgent side a) h = h
weights_faulty weights forced forbidden p r (BadEntry side a i) h = h
weights_faulty weights forced forbidden p r (BadPair n) h = bad_first weights forced forbidden p r n h
weights_faulty weights forced forbidden p r BadOrder h = h
weights_faulty weights forced forbidden p r OutOfMemory h = h
