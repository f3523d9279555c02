use Rattle.std.proofs.Common.{ℕ, sym, subst, IsTrue}
use Rattle.sm_instance.specs.Stable.{Blocks, IsGainLimit}
use Rattle.sm_instance.proofs.AcceptLemmas.{entry_cross}
use Rattle.sm_instance.proofs.instance.Instance.blocks.Goals as goal

pub blocks_at-requires-clause-limit : goal.blocks_at-requires-clause-limit
blocks_at-requires-clause-limit c =
    let there = entry_cross c.args.self.now.proposers c.args.p c.args.r c.in-Some.place c.in-Some.ensures in
    let Q : ℕ → Type 0 = λ s. IsGainLimit c.args.self.now c.args.a.now.places.items s c.gain_limit.result in
    subst Q (sym there) c.gain_limit.ensures

pub returns-in-Some : goal.returns-in-Some
returns-in-Some c =
    let there = entry_cross c.args.self.now.proposers c.args.p c.args.r c.in-Some.place c.in-Some.ensures in
    let Q : ℕ → Type 0 = λ s. (IsTrue c.blocks_at.result → Blocks c.args.self.now c.args.a.now.places.items c.args.p s) × (Blocks c.args.self.now c.args.a.now.places.items c.args.p s → IsTrue c.blocks_at.result) in
    subst Q there c.blocks_at.ensures
