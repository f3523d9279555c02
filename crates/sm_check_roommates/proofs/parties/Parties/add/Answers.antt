use Rattle.std.proofs.Common.{◌≡◌, length, ◌∙◌}
use Rattle.sm_lists.proofs.ResultLemmas.{take-append_at_length}
use Rattle.sm_check_roommates.specs.PartiesKept.{AreMet, AreLinked}
use Rattle.sm_check_roommates.proofs.PartyLemmas.{parted, parted_back, not_new}
use Rattle.sm_check_roommates.proofs.parties.Parties.add.Goals as goal

pub returns-then-not-mark_party : goal.returns-then-not-mark_party
returns-then-not-mark_party c = λ parties k. not_new k c.args.party.now c.requires.in_range (rw c.deref_mut.ensures.value at c.if-not-mark_party.ensures)

pub returns : goal.returns
returns c = λ parties k.
    let m : AreMet c.args.party.now c.args.self.now.met.items (length c.args.party.now) c.mark_party.new.met = rw c.deref_mut.ensures.value at c.if-not-mark_party.ensures in
    let l : AreLinked c.args.party.now c.args.self.now.next.items (length c.args.party.now) c.link.new.next = rw c.deref_mut-2.ensures.value at c.link.ensures in
    let met_long : length c.mark_party.new.met ≡ c.args.self.now.met.len = c.mark_party.auto.met ∙ c.deref_mut.ensures.len in
    let next_long : length c.link.new.next ≡ c.args.self.now.next.len = c.link.auto.next ∙ c.deref_mut-2.ensures.len in
    parted_back
    (take-append_at_length c.args.self.now.next.len c.link.new.next _ next_long)
    (take-append_at_length c.args.self.now.met.len c.mark_party.new.met _ met_long)
    (parted k c.args.party.now c.requires.in_range m l c.is_odd_or-self.ensures)
