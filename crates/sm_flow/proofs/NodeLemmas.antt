-- What counts at one node.
use Rattle.std.proofs.Common.{◌≡◌, ◌≢◌, ℕ, ◌+◌, ◌==◌, arith, refl, Bool, true, false, cond, eq-eqb, ne_eqb}
use Rattle.sm_flow.specs.Flowing.{at_node}

-- the same where the node is v by an equation
pub at_node-same : (v w n : ℕ) → w ≡ v → at_node v w n ≡ n
at_node-same v w n e = rw (eq-eqb w v e) refl

-- an amount at another node counts nothing
pub at_node-other : (v w n : ℕ) → w ≢ v → at_node v w n ≡ 0
at_node-other v w n e = rw (ne_eqb w v e) refl

-- a sum counts as the sum of what its parts count
pub at_node-plus : (v w m n : ℕ) → at_node v w (m + n) ≡ at_node v w m + at_node v w n
at_node-plus v w m n = go (w == v)
  where
    go : (b : Bool) → cond b (m + n) 0 ≡ cond b m 0 + cond b n 0
    go true = refl
    go false = omega arith

-- nothing counts nothing
pub at_node-zero : (v w : ℕ) → at_node v w 0 ≡ 0
at_node-zero v w = go (w == v)
  where
    go : (b : Bool) → ◌≡◌ {A = ℕ} (cond b 0 0) 0
    go true = refl
    go false = refl
