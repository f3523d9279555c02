use Rattle.std.proofs.Common.{◌≡◌, ℕ, ◌<◌, List, Option, length, ap, sym, subst, ◌∙◌, arith, below_more}
use Rattle.sm_lists.specs.CompactNamings.{naming_at}
use Rattle.sm_lists.specs.declared.compact_naming.CompactNaming.{CompactNaming}
use Rattle.sm_agents.specs.Written.{Written, entry, place_of}
use Rattle.sm_instance.specs.Stable.{Blocks, IsGainLimit}
use Rattle.sm_instance.specs.Loads.{IsFirstBlockingWith}
use Rattle.sm_instance.specs.Matching.{standing, IsAssignment}
use Rattle.sm_instance.specs.Namings.{AreAskedOf}
use Rattle.sm_instance.proofs.NamingLemmas.{asked_there}
use Rattle.sm_instance.proofs.BlockLemmas.{first_at, none_at, standing-le}
use Rattle.sm_instance.proofs.instance.Instance.first_blocking_at.Goals as goal
use Rattle.sm_instance.proofs.instance.Instance.first_blocking_at.Goals.{else-place-standing-via-then-place-standing+else-blocks_at, else-place-standing-via-else-place-standing}

-- a place before the one that the proposer holds is that of the reviewer
there : {w : Written} {places : List (Option ℕ)} {r : ℕ} {all : List CompactNaming} → IsAssignment w places → AreAskedOf w.proposers r all → (e : ℕ) → e < length all → (n : CompactNaming) → n ≡ naming_at all e
    → (p i limit : ℕ) → p ≡ n.by → i ≡ n.place → limit ≡ standing w places p → i < limit → entry w.proposers p i ≡ r
there assigned named e l n is p i limit by at stands less =
    let most = standing-le assigned p in
    asked_there named e l p i (by ∙ ap (λ (n : CompactNaming). n.by) is) (at ∙ ap (λ (n : CompactNaming). n.place) is) (omega arith)

pub blocks_at-requires-clause-limit : goal.blocks_at-requires-clause-limit
blocks_at-requires-clause-limit c =
    let Q : ℕ → Type 0 = λ s. IsGainLimit c.args.self.now c.args.a.now.places.items s c.gain_limit-limit.result in
    subst Q (sym (there c.requires.matching.assigned c.namings_of-namings.ensures.namings c.loop-e.e (omega arith) c.at-naming.result c.at-naming.ensures c.from-p.result c.from-place.result c.standing.result c.from-p.ensures c.from-place.ensures c.standing.ensures.standing c.if-place-standing.true)) c.gain_limit-limit.ensures

pub returns-then-blocks_at : goal.returns-then-blocks_at
returns-then-blocks_at c =
    let w = c.args.self.now in
    let places = c.args.a.now.places.items in
    let Q : ℕ → Type 0 = λ s. Blocks w places c.from-p.result s in
    let R : ℕ → Type 0 = λ q. Blocks w places q c.args.r in
    let by = c.from-p.ensures ∙ ap (λ (n : CompactNaming). n.by) c.at-naming.ensures in
    let F : CompactNaming → Type 0 = λ n. IsFirstBlockingWith w places c.args.r n in
    let blocks = subst R by (subst Q (there c.requires.matching.assigned c.namings_of-namings.ensures.namings c.loop-e.e (omega arith) c.at-naming.result c.at-naming.ensures c.from-p.result c.from-place.result c.standing.result c.from-p.ensures c.from-place.ensures c.standing.ensures.standing c.if-place-standing.true) (c.blocks_at.ensures.0 c.if-blocks_at.true)) in
    subst F (sym c.at-naming.ensures) (first_at c.namings_of-namings.ensures.namings c.loop-e.e (omega arith) c.loop-e.invariant blocks)

pub loop-e-preserved : goal.loop-e-preserved
loop-e-preserved c =
    let w = c.args.self.now in
    let places = c.args.a.now.places.items in
    let Q : ℕ → Type 0 = λ s. Blocks w places c.from-p.result s in
    let R : ℕ → Type 0 = λ q. Blocks w places q c.args.r in
    let by = c.from-p.ensures ∙ ap (λ (n : CompactNaming). n.by) c.at-naming.ensures in
    let place = c.from-place.ensures ∙ ap (λ (n : CompactNaming). n.place) c.at-naming.ensures in
    elim c.else-place-standing.branch [
      | else-place-standing-via-then-place-standing+else-blocks_at x ↦ below_more _ _ c.loop-e.invariant (λ b.
          let here = subst Q (sym (there c.requires.matching.assigned c.namings_of-namings.ensures.namings c.loop-e.e (omega arith) c.at-naming.result c.at-naming.ensures c.from-p.result c.from-place.result c.standing.result c.from-p.ensures c.from-place.ensures c.standing.ensures.standing x.if-place-standing.true)) (subst R (sym by) b) in
          let t = x.blocks_at.ensures.1 here in let f = x.if-blocks_at.false in cc)
      | else-place-standing-via-else-place-standing x ↦ below_more _ _ c.loop-e.invariant (λ b.
          let here : Blocks w places c.from-p.result c.args.r = subst R (sym by) b in
          let gains = here.proposer_gains in
          let stands = c.standing.ensures.standing in
          let is = place ∙ c.namings_of-namings.ensures.namings.places c.loop-e.e (omega arith) ∙ ap (λ q. place_of w.proposers q c.args.r) (sym by) in
          let less = x.if-place-standing.false in absurd (omega arith))
    ]

pub returns : goal.returns
returns c = none_at c.namings_of-namings.ensures.namings c.loop-e.e (omega arith) c.loop-e.invariant
