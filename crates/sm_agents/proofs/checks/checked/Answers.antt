use Rattle.std.proofs.Common.{ℕ, ◌≡◌, ◌<◌, ◌≤◌, ◌∙◌, length, sym, ap, subst, true, pos}
use Rattle.std.specs.List.{All}
use Rattle.std.specs.Int.RustNames.{unsigned_abs}
use Rattle.std.proofs.lemmas.List.{length-map}
use Rattle.sm_text.specs.Limits.{most_weight}
use Rattle.sm_agents.specs.Sound.{items_of, is_single, IsSoundItem, AreSoundAgents, AreSoundEntries}
use Rattle.sm_lists.specs.EachOnce.{IsEachOnce}
use Rattle.sm_agents.specs.Vectors.{agents_of}
use Rattle.sm_agents.proofs.AgentLemmas.{length-agents}
use Rattle.sm_lists.proofs.OrderLemmas.{range_is_each_once}
use Rattle.sm_agents.proofs.SecondLemmas.{zeros_small}
use Rattle.sm_agents.proofs.checks.checked.Goals as goal

pub returns-clause-instance : goal.returns-clause-instance
returns-clause-instance c =
    let parts = c.args.parts.now in
    let proposers = parts.proposers.items in
    let reviewers = parts.reviewers.items in
    let weights = parts.weights.items in
    let items = items_of weights parts.forced.items parts.forbidden.items in
    let P : ℕ → ℕ → Type 0 = λ p r. (n : ℕ) → n < length items → IsSoundItem p r weights items n in
    let left : length proposers ≡ length (agents_of proposers) = sym (length-agents proposers) in
    let right : length reviewers ≡ length (agents_of reviewers) = sym (length-agents reviewers) in
    let p = c.as_slice-proposers.ensures.value in
    let r = c.as_slice-reviewers.ensures.value in
    let proposers_sound : AreSoundAgents (agents_of proposers) true = rw p at c.in_ok-left.ensures.proposers in
    let reviewers_sound : AreSoundAgents (agents_of reviewers) (is_single parts.kind) = rw r at c.in_ok-left.ensures.reviewers in
    let proposer_entries : AreSoundEntries (agents_of proposers) (length (agents_of reviewers)) = rw (p, r) at c.in_ok-check_lists.ensures.proposers in
    let reviewer_entries : AreSoundEntries (agents_of reviewers) (length (agents_of proposers)) = rw (p, r) at c.in_ok-check_lists.ensures.reviewers in
    let sound : P (length proposers) (length reviewers) = rw (p, r, c.deref.ensures.value, c.deref-2.ensures.value, c.deref-3.ensures.value) at c.in_ok-weighed.ensures.sound in
    record {
      two_sided = c.requires.two_sided;
      limits = c.requires.limits;
      proposers = proposers_sound;
      reviewers = reviewers_sound;
      proposer_entries = proposer_entries;
      reviewer_entries = reviewer_entries;
      items = let Q : ℕ → Type 0 = λ p. P p (length (agents_of reviewers)) in
          subst Q left (let R : ℕ → Type 0 = λ r. P (length proposers) r in subst R right sound);
      seconds_each = ap length c.requires.seconds ∙ length-map weights (λ _. pos 0);
      seconds_small = subst (All (λ s. unsigned_abs s ≤ most_weight)) (sym c.requires.seconds) (zeros_small weights);
      order = subst (IsEachOnce (length (agents_of proposers))) (sym c.requires.order) (range_is_each_once (length (agents_of proposers)));
    }
