use Rattle.std.proofs.Common.{◌≡◌, ℕ, ◌-◌, ◌^◌, List, Option, length, ap, subst, sym, ◌∙◌, arith}
use Rattle.std.proofs.lemmas.List.{length-map}
use Rattle.sm_lists.specs.Rows.{lists_in}
use Rattle.sm_lists.specs.Crosses.{AreCrossPlaces as AreCrossesKnown}
use Rattle.sm_lists.specs.Held.{held_in, AreShort}
use Rattle.sm_lists.specs.Namings.{AreNamings as AreKnown}
use Rattle.sm_lists.specs.declared.compact_naming.CompactNaming.{CompactNaming}
use Rattle.sm_agents.specs.Written.{AgentData, lists_of}
use Rattle.sm_agents.specs.Vectors.{agents_of}
use Rattle.sm_instance.proofs.CrossLemmas.{lists_short, shorter, crosses_known, held_in-places, namings_known}
use Rattle.sm_instance.proofs.crosses.find_crosses.Goals as goal

pub namings-requires-clause-few : goal.namings-requires-clause-few
namings-requires-clause-few c =
    let is = ap (λ lent. lists_in lent) c.deref.ensures.value ∙ c.in_ok-proposers.ensures in
    subst (λ lists. AreShort lists (2 ^ 16)) (sym is) (shorter (omega arith) (lists_short c.requires.proposers c.requires.limits.proposers c.requires.limits.reviewers))

pub cross_places-requires-clause-short_rows : goal.cross_places-requires-clause-short_rows
cross_places-requires-clause-short_rows c =
    let is = ap (λ lent. lists_in lent) c.deref-3.ensures.value ∙ c.in_ok-proposers.ensures in
    subst (λ lists. AreShort lists (2 ^ 16 - 1)) (sym is) (shorter (omega arith) (lists_short c.requires.proposers c.requires.limits.proposers c.requires.limits.reviewers))

pub cross_places-requires-clause-short_others : goal.cross_places-requires-clause-short_others
cross_places-requires-clause-short_others c =
    let is = ap (λ lent. lists_in lent) c.deref-4.ensures.value ∙ c.in_ok-reviewers.ensures in
    subst (λ lists. AreShort lists (2 ^ 16 - 1)) (sym is) (shorter (omega arith) (lists_short c.requires.reviewers c.requires.limits.reviewers c.requires.limits.proposers))

pub returns : goal.returns
returns c =
    let proposers : List AgentData = agents_of c.args.proposers.now in
    let reviewers : List AgentData = agents_of c.args.reviewers.now in
    let is : lists_in c.deref.result.now ≡ lists_of proposers = ap (λ lent. lists_in lent) c.deref.ensures.value ∙ c.in_ok-proposers.ensures in
    let is' : lists_in c.deref-2.result.now ≡ lists_of reviewers = ap (λ lent. lists_in lent) c.deref-2.ensures.value ∙ c.in_ok-reviewers.ensures in
    let rows : lists_in c.deref-3.result.now ≡ lists_of proposers = ap (λ lent. lists_in lent) c.deref-3.ensures.value ∙ c.in_ok-proposers.ensures in
    let others : lists_in c.deref-4.result.now ≡ lists_of reviewers = ap (λ lent. lists_in lent) c.deref-4.ensures.value ∙ c.in_ok-reviewers.ensures in
    let many : length (lists_of reviewers) ≡ length reviewers = length-map reviewers (λ (x : AgentData). x.entries) in
    let made = c.in_ok-rows.field-0 in
    let known = c.in_ok-rows.ensures in
    let found = c.in_ok-found.found in
    let Held : List (List ℕ) → ℕ → Type 0 = λ rows others. AreKnown rows others (length rows) 0 (held_in (λ (n : CompactNaming). record { by = n.by; place = n.place }) found) in
    record {
      there = crosses_known proposers reviewers made.rows
          (subst (λ x. AreCrossesKnown (lists_of proposers) (lists_of reviewers) x) (held_in-places made.rows)
          (subst (λ x. AreCrossesKnown (lists_of proposers) x (held_in (λ (place : Option ℕ). place) made.rows)) others
          (subst (λ x. AreCrossesKnown x (lists_in c.deref-4.result.now) (held_in (λ (place : Option ℕ). place) made.rows)) rows known.rows)));
      back = crosses_known reviewers proposers made.others
          (subst (λ x. AreCrossesKnown (lists_of reviewers) (lists_of proposers) x) (held_in-places made.others)
          (subst (λ x. AreCrossesKnown (lists_of reviewers) x (held_in (λ (place : Option ℕ). place) made.others)) rows
          (subst (λ x. AreCrossesKnown x (lists_in c.deref-3.result.now) (held_in (λ (place : Option ℕ). place) made.others)) others known.others)));
      named = namings_known found c.requires.proposers
          (subst (λ n. Held (lists_of proposers) n) (ap length is' ∙ many)
          (subst (λ x. Held x (length (lists_in c.deref-2.result.now))) is c.in_ok-found.ensures));
    }
