use Rattle.std.proofs.lemmas.List.{take_rest}
use Rattle.sm_io.proofs.Out.{IsOut-more, IsOut-part, IsOut-last}
use Rattle.sm_io.proofs.edge.write_out.Goals as goal

pub loop-rest-preserved : goal.loop-rest-preserved
loop-rest-preserved g c =
    rw take_rest (IsOut-more (g.W.Write.contents c.write.new.self) c.in-Ok.count c.loop-rest.invariant c.in-Ok.ensures.bytes)

pub returns-in-Ok-eq0 : goal.returns-in-Ok-eq0
returns-in-Ok-eq0 g c =
    IsOut-last (g.W.Write.contents c.write.new.self) c.in-Ok-eq0.field-0 c.loop-rest.invariant c.in-Ok-eq0.ensures.bytes

pub returns-in-Err : goal.returns-in-Err
returns-in-Err g c = IsOut-part _ c.loop-rest.invariant c.in-Err.ensures.bytes

pub returns-in-Err-flush : goal.returns-in-Err-flush
returns-in-Err-flush g c = IsOut-part _ c.loop-rest.invariant c.in-Err-flush.ensures.bytes
