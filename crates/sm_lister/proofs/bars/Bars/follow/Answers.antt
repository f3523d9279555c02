use Rattle.std.proofs.Common.{◌∙◌, ◌<◌, ap, subst, sym, arith, length, slice_index, set}
use Rattle.std.proofs.lemmas.List.{length-set}
use Rattle.sm_lister.specs.Barred.{LeadTo}
use Rattle.sm_lister.proofs.BarredLemmas.{noted_is, all_barred, leads_more, front_keeps}
use Rattle.sm_lister.proofs.bars.Bars.follow.Goals as goal

pub returns-in-Some : goal.returns-in-Some
returns-in-Some c =
    let w = c.needs.invariant in
    let bar = noted_is c.needs.self c.needs.now c.in-Some.position c.requires.bars w.front w.same (c.noted.ensures c.in-Some.position c.in-Some.is) in
    record {
      followed = record {
        room = w.room;
        more = w.more;
        few = w.few;
        front = w.front;
        same = w.same;
        barred = all_barred c.needs.self.looked.items w.leads bar;
        here = λ less D d m. bar less D d (w.here D d m);
      };
    }

pub needs-preserved : goal.needs-preserved
needs-preserved c =
    let w = c.needs.invariant in
    let b = c.args.course.now.board in
    let missing = c.missing.ensures c.in-Some-missing.need c.in-Some-missing.is in
    let looked = c.needs.self.looked.items in
    let n = c.needs.self.count in
    let start = c.args.self.now.count in
    let need = c.in-Some-missing.need in
    let less : n < length looked = omega (arith, c.needs-test.true, c.len.ensures) in
    record {
      room = record {
        place_each = c.look.ensures.place_each ∙ w.room.place_each;
        looked_each = ap length c.look.ensures.looked ∙ length-set looked n c.needs.now ∙ w.room.looked_each;
        position_each = ap (λ v. length v.items) c.look.ensures.positions ∙ w.room.position_each;
      };
      more = let a = w.more in omega (arith, c.look.ensures.count);
      few = omega (arith, c.look.ensures.count, less, w.room.looked_each);
      front = λ k early. ap (λ xs. slice_index xs k) c.look.ensures.looked ∙ front_keeps looked c.args.self.now.looked.items n c.needs.now w.more w.front k early;
      same = c.look.ensures.positions ∙ w.same;
      number = c.board-board.ensures.course.board.needs_in_range c.needs.now need missing.need;
      fresh = missing.new;
      leads = subst (λ xs. LeadTo b xs start c.look.new.self.count need) (sym c.look.ensures.looked)
          (subst (λ k. LeadTo b (set looked n c.needs.now) start k need) (sym c.look.ensures.count) (leads_more looked n need less w.leads (λ D d m. d.closed need c.needs.now m missing.need)));
      here = λ D d m. d.closed need c.needs.now (w.here D d m) missing.need;
    }
