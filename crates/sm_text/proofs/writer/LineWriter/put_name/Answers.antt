use Rattle.std.proofs.Common.{◌++◌, ◌∷◌, take, refl, ap, ◌∙◌, arith}
use Rattle.sm_text.proofs.WriterLemmas.{written_over}
use Rattle.sm_text.proofs.writer.LineWriter.put_name.Goals as goal

pub returns-then-len-from-ge-WIDTH : goal.returns-then-len-from-ge-WIDTH
returns-then-len-from-ge-WIDTH c =
    let from = c.self.inside.len in
    let name = c.args.name.now in
    let held = c.self.inside.bytes.items in
    record {
      ok = written_over held _ _ from 16 c.args.spaced.now.len (omega (arith, c.self.inside.within)) c.requires.fits c.write_over.ensures.written
          ∙ ap (λ ys. take from held ++ ys) (c.requires.text (omega (arith, c.if-len-gt0.true))) ∙ ap (λ w. w.bytes ++ 32 ∷ name) c.self.view_is;
      err = tt;
      fits = λ _. refl;
      room = omega (arith, ap (λ w. w.room) c.self.view_is, c.write_over.ensures.room);
    }
