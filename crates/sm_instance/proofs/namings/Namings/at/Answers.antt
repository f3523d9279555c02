use Rattle.std.proofs.Common.{◌≡◌, ℕ, ◌<◌, List, length, sym, ap, subst, ◌∙◌, arith}
use Rattle.std.proofs.lemmas.List.FromFn.{get_or-map-range_with_len, length-map-range_with_len}
use Rattle.sm_lists.specs.CompactNamings.{no_naming, naming_at}
use Rattle.sm_agents.specs.Written.{AgentData}
use Rattle.sm_instance.specs.Namings.{asked, asked_at, all_asked}
use Rattle.sm_instance.specs.declared.namings.Namings.{Namings}
use Rattle.sm_instance.proofs.namings.Namings.at.Goals as goal

-- the number is that of one of those who are asked
below : (asking : Namings) (agents : List AgentData) (r : ℕ) {e : ℕ} → e < length (asked asking) → asked asking ≡ all_asked agents r → e < length agents
below asking agents r lt is =
    let long = ap length is in
    let many = length-map-range_with_len (asked_at agents r) 0 (length agents) in omega arith

pub kept_at-requires : goal.kept_at-requires
kept_at-requires c = let P : Namings → Type 0 = λ n. c.args.e < length (asked n) in subst P c.in-Kept.is c.requires

pub sought-requires : goal.sought-requires
sought-requires c = below c.args.self.now c.in-Sought.instance.now.proposers c.in-Sought.r c.requires (ap asked c.in-Sought.is)

pub returns-in-Sought : goal.returns-in-Sought
returns-in-Sought c =
    let agents = c.in-Sought.instance.now.proposers in
    let e = c.args.e in
    let P : Namings → Type 0 = λ n. c.sought.result ≡ naming_at (asked n) e in
    let lt = below c.args.self.now c.in-Sought.instance.now.proposers c.in-Sought.r c.requires (ap asked c.in-Sought.is) in
    subst P (sym c.in-Sought.is) (c.sought.ensures ∙ sym (get_or-map-range_with_len (asked_at agents c.in-Sought.r) 0 (length agents) e e no_naming lt (omega arith)))
