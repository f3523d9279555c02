use Rattle.std.proofs.Common.{◌≡◌, ◌∙◌, ap, arith, length, nat_eq}
use Rattle.sm_check_forms.proofs.LeftLemmas.{whole_left}
use Rattle.sm_check_forms.proofs.layouts.Layout.is_whole.Goals as goal

pub returns-then-self : goal.returns-then-self
returns-then-self c =
    let long : c.len.result ≡ length c.args.self.now.parts.items = omega (arith, c.len.ensures, c.len.type_inv) in
    ap (nat_eq c.args.self.now.at) long ∙ whole_left c.args.self.now c.if-self.true c.requires.within
