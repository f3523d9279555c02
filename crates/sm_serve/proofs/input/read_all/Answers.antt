use Rattle.std.proofs.Common.{◌<◌, length, take, arith}
use Rattle.sm_serve.proofs.InputLemmas.{consumes_end, loses_more}
use Rattle.sm_serve.proofs.input.read_all.Goals as goal

pub returns-in-End-clause-whole : goal.returns-in-End-clause-whole
returns-in-End-clause-whole g c =
    let left = g.S.Source.left in
    let room : 0 < length c.take.new.into = omega (arith, c.take.auto.into, c.as_mut_slice.ensures.len, c.reading.chunk.ok.0) in
    let end = consumes_end (left c.args.source.now) (left c.reading.source) (left c.take.new.self) c.reading.bytes.items c.take.new.into room c.reading.invariant.given c.in-End.ensures.taken in
    record { given = end.0; over = end.1; short = omega (arith, c.len.ensures, c.reading.bytes.ok.0) }

pub returns-in_err-extend_from_slice-in-Got-clause-drains : goal.returns-in_err-extend_from_slice-in-Got-clause-drains
returns-in_err-extend_from_slice-in-Got-clause-drains g c =
    let left = g.S.Source.left in
    record { lost = loses_more (left c.args.source.now) (left c.reading.source) (left c.take.new.self) c.reading.bytes.items (take c.in-Got.count c.take.new.into) c.reading.invariant.given c.in-Got.ensures.taken.2; later = omega (arith, c.reading.invariant.later, c.take.ensures.later) }
