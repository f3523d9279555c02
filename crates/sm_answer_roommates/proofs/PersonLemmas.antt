-- The lists of persons are those of roommates, and an odd party of them excludes stable matchings.
use Rattle.std.proofs.Common.{ℕ, List, length, get_or, sym, ap, ◌∙◌, arith}
use Rattle.std.proofs.lemmas.List.{length-map}
use Rattle.sm_lists.specs.Limits.{AreWithinLimits}
use Rattle.sm_agents.specs.Written.{AgentData, lists_of}
use Rattle.sm_agents.specs.Sound.{ArePersons}
use Rattle.sm_instance.proofs.CrossLemmas.{row-lists_of, lists_within}
use Rattle.sm_theory.specs.Rooms.{AreRoomLists}
use Rattle.sm_theory.specs.Partitions.{IsStablePartition, IsInOddParty}
use Rattle.sm_theory.proofs.Room.Partitions.{odd_party_excludes}
use Rattle.sm_answer_roommates.specs.Parties.{AreParties}
use Rattle.sm_answer_roommates.specs.RoomAnswer.{AreExcluding}

-- the lists of persons are within the limits
pub persons_within : {persons : List AgentData} → ArePersons persons → AreWithinLimits (lists_of persons)
persons_within {persons} h = lists_within persons h.limits.proposers (let few = h.limits.entries in omega arith)

-- no person stands twice on a list, and all who stand there are persons
pub persons_listed : {persons : List AgentData} → ArePersons persons → AreRoomLists (lists_of persons)
persons_listed {persons} h = record {
  in_range = λ x i on.
      let sound = h.entries.sound x i (let same = ap (λ (list : List ℕ). length list) (row-lists_of persons x) in omega (arith, same, on)) in
      let e = ap (λ list. get_or list i 0) (row-lists_of persons x) in
      omega (arith, e, sound.in_range, length-map persons (λ (person : AgentData). person.entries));
  distinct = λ x i j less on same.
      let sound = h.entries.sound x j (let long = ap (λ (list : List ℕ). length list) (row-lists_of persons x) in omega (arith, long, on)) in
      sound.fresh i less (ap (λ list. get_or list i 0) (sym (row-lists_of persons x)) ∙ same ∙ ap (λ list. get_or list j 0) (row-lists_of persons x));
}

-- the parties of a stable partition with an odd one exclude stable matchings
pub excluding : {rows parties : List (List ℕ)} {next : List ℕ} {x : ℕ} → IsStablePartition rows next → AreParties next parties → IsInOddParty rows next x → AreExcluding rows parties
excluding {rows} {parties} {next} {x} h all odd = record {
  next = next;
  partition = h;
  all = all;
  member = x;
  odd = odd;
  none_stable = λ mates. odd_party_excludes rows next x mates h odd;
}
