use Rattle.std.proofs.Common.{arith}
use Rattle.std.proofs.lemmas.Grind.{common_steps}
use Rattle.sm_text.proofs.DigitLemmas.{first_written, more_written, room_left}
use Rattle.sm_text.proofs.writer.write_digits.Goals as goal

pub loop-rest-init : goal.loop-rest-init
loop-rest-init c = record {
  room = grind (arith, common_steps);
  inside = omega arith;
  small = omega arith;
  fits = omega arith;
  written = first_written c.args.digits.now c.args.value c.requires (omega arith);
}

pub loop-rest-preserved : goal.loop-rest-preserved
loop-rest-preserved c =
    let i = c.loop-rest.invariant in
    let left = room_left c.loop-rest.rest c.loop-rest.start c.loop-rest-test.true i.small in
    record {
      room = grind (arith, common_steps);
      inside = omega arith;
      small = left.1;
      fits = omega arith;
      written = more_written c.loop-rest.digits _ c.loop-rest.rest c.loop-rest.start i.room i.inside left.0 i.fits (omega arith) i.written;
    }
