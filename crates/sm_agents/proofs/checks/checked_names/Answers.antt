use Rattle.std.proofs.Common.{◌≡◌, ◌++◌, ◌∷◌, [], cond, true, false, true≢false, inl, inr, refl, sym, ap, ◌∙◌, arith, below_more}
use Rattle.std.specs.List.{list_any}
use Rattle.std.specs.Str.{bytes_eq}
use Rattle.std.proofs.lemmas.Bool.{not-false, not-true}
use Rattle.sm_text.specs.Name.{is_name}
use Rattle.sm_agents.specs.Vectors.{agents_of}
use Rattle.sm_agents.proofs.AgentLemmas.{length-agents, fresh_name, stale_name, names_more}
use Rattle.sm_agents.proofs.checks.checked_names.Goals as goal

pub returns-then-not-is_new-clause-fault : goal.returns-then-not-is_new-clause-fault
returns-then-not-is_new-clause-fault c =
    let agents = agents_of c.args.agents.now in
    let long = length-agents c.args.agents.now in
    let among : list_any (bytes_eq c.name_at-name.result.now) c.loop-a.names ≡ true = not-false _ (sym c.in_ok-is_new.ensures.added ∙ c.if-not-is_new.true) in (
      refl,
      record {
        there = omega arith;
        bad = λ s. stale_name agents c.loop-a.a c.loop-a.names c.name_at-name.result.now (omega arith) c.loop-a.invariant.told c.name_at-name.ensures among s.fresh;
        earlier = c.loop-a.invariant.sound;
      },
    )

pub loop-a-preserved : goal.loop-a-preserved
loop-a-preserved c =
    let agents = agents_of c.args.agents.now in
    let long = length-agents c.args.agents.now in
    let old = c.loop-a.names in
    let name = c.name_at-name.result.now in
    let new : list_any (bytes_eq name) old ≡ false = not-true _ (sym c.in_ok-is_new.ensures.added ∙ c.if-not-is_new.false) in
    record {
      told = c.in_ok-is_new.ensures.names ∙ ap (λ b. cond b (old ++ name ∷ []) old) c.if-not-is_new.false
          ∙ names_more agents c.loop-a.a old name (omega arith) c.loop-a.invariant.told c.name_at-name.ensures;
      sound = below_more _ _ c.loop-a.invariant.sound (record {
        name = ap is_name (sym c.name_at-name.ensures) ∙ sym c.is_name.ensures ∙ c.if-not-is_name.false;
        fresh = fresh_name agents c.loop-a.a old name (omega arith) c.loop-a.invariant.told c.name_at-name.ensures new;
        capacity = let h = c.if-capacity-gt-MOST_CAPACITY.false in omega arith;
        one = λ e. elim c.if-capacity-ne1.either [
          | inl h ↦ sym c.capacity_at-capacity.ensures ∙ h.1
          | inr h ↦ absurd (true≢false (sym e ∙ h))
        ];
      });
    }

pub returns-clause-sound : goal.returns-clause-sound
returns-clause-sound c =
    let long = length-agents c.args.agents.now in
    record { sound = λ a l. c.loop-a.invariant.sound a (omega arith) }
