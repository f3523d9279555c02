use Rattle.std.proofs.Common.{ℕ, List, get_or, subst, ap, ◌∙◌}
use Rattle.sm_lists.specs.Held.{place_in}
use Rattle.sm_theory.specs.RoomsKept.{AreRoomsKept}
use Rattle.sm_check_decide.proofs.RoomLemmas.{cross_read}
use Rattle.sm_check_decide.proofs.room_lists.RoomLists.cross.Goals as goal

pub returns : goal.returns
returns c =
    let kept = subst (λ (rows : List (List ℕ)). AreRoomsKept rows c.self.inside.crosses) c.self.view_is c.self.invariant in
    let read = ap (λ (list : List ℕ). get_or list c.args.place 0) c.at-2.ensures in
    cross_read kept c.args.x c.args.place c.requires.on_list (λ e. c.if-at-x.false (c.at.ensures.named ∙ e)) c.place.result (c.place.ensures ∙ ap place_in read)
