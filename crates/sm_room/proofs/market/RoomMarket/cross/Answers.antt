use Rattle.std.proofs.Common.{ℕ, List, length, get_or, ap, subst, ◌∙◌, sym}
use Rattle.sm_lists.specs.Rows.{row}
use Rattle.sm_lists.specs.Held.{place_in}
use Rattle.sm_theory.specs.RoomsKept.{AreRoomsKept}
use Rattle.sm_room.proofs.EntryLemmas.{cross-some, cross-none}
use Rattle.sm_room.proofs.market.RoomMarket.cross.Goals as goal

pub returns-in-Some : goal.returns-in-Some
returns-in-Some c =
    let kept = subst (λ (rows : List (List ℕ)). AreRoomsKept rows c.self.inside.crosses) c.self.view_is c.self.invariant in
    let read = ap (λ (list : List ℕ). get_or list c.args.place 0) c.at.ensures in
    cross-some kept c.args.x c.args.place c.requires.on_list c.in-Some.cross (sym c.in-Some.is ∙ c.place.ensures ∙ ap place_in read)

pub returns-in-None : goal.returns-in-None
returns-in-None c =
    let kept = subst (λ (rows : List (List ℕ)). AreRoomsKept rows c.self.inside.crosses) c.self.view_is c.self.invariant in
    let read = ap (λ (list : List ℕ). get_or list c.args.place 0) c.at.ensures in
    let rows = c.args.self.now in
    c.len.ensures.count ∙ ap (λ y. length (row rows y)) c.at-in-None.ensures.named
    ∙ cross-none kept c.args.x c.args.place c.requires.on_list (sym c.in-None.is ∙ c.place.ensures ∙ ap place_in read)
