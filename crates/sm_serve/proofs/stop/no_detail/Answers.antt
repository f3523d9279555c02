use Rattle.std.proofs.Common.{ℕ, List, Vec, map, ap}
use Rattle.std.specs.declared.alloc.Global.{Global}
use Rattle.sm_serve.specs.Texts.{are_plain}
use Rattle.sm_serve.proofs.stop.no_detail.Goals as goal

pub returns-clause-none : goal.returns-clause-none
returns-clause-none c = ap (map (λ (field : Vec ℕ Global). field.items)) c.new.ensures.items

pub returns-clause-plain : goal.returns-clause-plain
returns-clause-plain c = ap (λ (fields : List (Vec ℕ Global)). are_plain (map (λ (field : Vec ℕ Global). field.items) fields)) c.new.ensures.items
