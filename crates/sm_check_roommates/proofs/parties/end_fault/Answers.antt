use Rattle.std.proofs.Common.{◌≡◌, ℕ, ◌<◌, true, length, refl, sym, ◌∙◌}
use Rattle.std.proofs.lemmas.Bool.{false≢true}
use Rattle.sm_theory.specs.Partitions.{IsStablePartition}
use Rattle.sm_check_roommates.specs.PartiesKept.{is_met}
use Rattle.sm_check_roommates.proofs.PartyLemmas.{not_all_met, not_stable, not_odd, all_hold}
use Rattle.sm_check_roommates.proofs.parties.end_fault.Goals as goal

pub returns-then-not-are_all_met : goal.returns-then-not-are_all_met
returns-then-not-are_all_met c = λ persons parties is k.
    not_all_met k persons is (λ all. false≢true (c.if-not-are_all_met.ensures.1 (rw c.deref.ensures.value all)))

pub returns-then-not-branch : goal.returns-then-not-branch
returns-then-not-branch c = λ persons parties is k.
    not_stable k persons is (λ s. false≢true (sym c.if-not-branch.true ∙ c.in_ok-is_stable_partition.ensures.1 (rw c.deref-2.ensures.value s)))

pub returns-then-not-parties : goal.returns-then-not-parties
returns-then-not-parties c = λ persons parties is k.
    let all : (z : ℕ) → z < length c.args.parties.now.met.items → is_met c.args.parties.now.met.items z ≡ true = rw c.deref.ensures.value at (c.if-not-are_all_met.ensures.0 refl) in
    let s : IsStablePartition c.args.rooms.now c.args.parties.now.next.items = rw c.deref-2.ensures.value at (c.in_ok-is_stable_partition.ensures.0 c.if-not-branch.false) in
    not_odd k persons is all s c.if-not-parties.true

pub returns : goal.returns
returns c = λ persons parties is k.
    let all : (z : ℕ) → z < length c.args.parties.now.met.items → is_met c.args.parties.now.met.items z ≡ true = rw c.deref.ensures.value at (c.if-not-are_all_met.ensures.0 refl) in
    let s : IsStablePartition c.args.rooms.now c.args.parties.now.next.items = rw c.deref-2.ensures.value at (c.in_ok-is_stable_partition.ensures.0 c.if-not-branch.false) in
    all_hold k persons is all s c.if-not-parties.false
