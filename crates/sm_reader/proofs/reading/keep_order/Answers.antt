use Rattle.std.proofs.Common.{ℕ, List, refl, ap, Vec}
use Rattle.std.specs.Borrow.{Bor}
use Rattle.std.specs.declared.alloc.Global.{Global}
use Rattle.sm_text.specs.Slices.{texts_of}
use Rattle.sm_reader.proofs.reading.keep_order.Goals as goal

pub returns : goal.returns
returns c = record {
  order = record { tokens = c.swap.new.y; line = c.args.line };
  tokens_are = ap (λ (v : Vec (Bor (List ℕ)) Global). texts_of v.items) c.swap.ensures.y_after;
  on_line = refl;
  changes = refl;
}
