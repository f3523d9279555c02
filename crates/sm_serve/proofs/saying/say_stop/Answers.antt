use Rattle.std.proofs.Common.{refl}
use Rattle.sm_serve.specs.Texts.{refusal_fields}
use Rattle.sm_serve.proofs.WritingLemmas.{plain_said}
use Rattle.sm_serve.proofs.saying.say_stop.Goals as goal

pub returns-in-Usage : goal.returns-in-Usage
returns-in-Usage g c = rw c.in-Usage.is c.write.ensures

pub returns-in-Refused : goal.returns-in-Refused
returns-in-Refused g c =
    let kind = c.in-Refused.kind in
    let at = c.in-Refused.at in
    rw c.in-Refused.is (plain_said kind at (refusal_fields c.no_detail.result) _ _ _ _ _ c.no_detail.ensures.none c.write-in-Refused.ensures)

pub say_unstable-requires : goal.say_unstable-requires
say_unstable-requires g c = rw c.in-Unstable.is at c.requires

pub returns-in-Unstable : goal.returns-in-Unstable
returns-in-Unstable g c = rw c.in-Unstable.is c.say_unstable.ensures

pub returns-in-ReadFault : goal.returns-in-ReadFault
returns-in-ReadFault g c = rw c.in-ReadFault.is (refl, refl)

pub returns-in-OutOfMemory : goal.returns-in-OutOfMemory
returns-in-OutOfMemory g c = rw c.in-OutOfMemory.is (refl, refl)
