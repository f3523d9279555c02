-- Names with a space before them.
use Rattle.std.proofs.Common.{◌≡◌, ℕ, ◌+◌, ◌-◌, ◌<◌, ◌≤◌, ◌++◌, ◌∷◌, List, [], length, refl, sym, ap, ◌∙◌, subst, arith, ⊎_elim}
use Rattle.std.proofs.lemmas.Bool.{cases_lt}
use Rattle.std.proofs.lemmas.List.{length-append, get_or_append_left, get_or-append_right}
use Rattle.sm_text.specs.Writer.{IsSpacedName}
use Rattle.sm_text.specs.declared.spaced_name.SpacedName.{SpacedName}
use Rattle.sm_agents.specs.Written.{AgentData, agent_at}
use Rattle.sm_agents.specs.Spaced.{AreSpaced, spaced_at}

-- the last of some names, and the others
module _ (spaced : List SpacedName) (next : SpacedName) (n : ℕ) (long : length spaced ≡ n) where
  abbrev more : List SpacedName
  more = spaced ++ next ∷ []

  before : (a : ℕ) → a < n → spaced_at more a ≡ spaced_at spaced a
  before a below = get_or_append_left spaced (next ∷ []) (record { bytes = []; len = 0 }) a (omega (arith, long))

  last : spaced_at more n ≡ next
  last =
      let none : n - n ≡ 0 = omega arith in
      get_or-append_right spaced (next ∷ []) n n (record { bytes = []; len = 0 }) long (omega arith) ∙ ap (spaced_at (next ∷ [])) none

-- one more name
pub one_more : (agents : List AgentData) (n : ℕ) (spaced : List SpacedName) (next : SpacedName) → AreSpaced agents n spaced
    → IsSpacedName next.bytes next.len (agent_at agents n).name → AreSpaced agents (n + 1) (spaced ++ next ∷ [])
one_more agents n spaced next those this = record {
  one_each = length-append spaced (next ∷ []) ∙ ap (λ k. k + 1) those.one_each;
  names = names;
}
  where
    Fits : ℕ → SpacedName → Type 0
    Fits a s = IsSpacedName s.bytes s.len (agent_at agents a).name

    names : (a : ℕ) → a < n + 1 → Fits a (spaced_at (spaced ++ next ∷ []) a)
    names a below = ⊎_elim
        (λ (h : a < n). subst (Fits a) (sym (before spaced next n those.one_each a h)) (those.names a h))
        (λ (h : n ≤ a).
        let is_n : a ≡ n = omega arith in
        subst (λ k. Fits k (spaced_at (spaced ++ next ∷ []) k)) (sym is_n) (subst (Fits n) (sym (last spaced next n those.one_each)) this))
        (cases_lt a n)
