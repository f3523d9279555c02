use Rattle.std.proofs.Common.{◌≡◌, ℕ, ◌+◌, ◌<◌, ◌≤◌, ◌++◌, ◌∷◌, [], Bool, true, arith, ap, sym, subst, ◌∙◌, List, length, slice_index, set, take}
use Rattle.std.proofs.lemmas.List.{length-take, length-set, take_more_set}
use Rattle.sm_lists.proofs.ResultLemmas.{take-append_at_length}
use Rattle.sm_market.specs.Lists.{row}
use Rattle.sm_board.specs.Courses.{Held}
use Rattle.sm_board.proofs.GrowLemmas.{log_fits}
use Rattle.sm_board.proofs.HeldLemmas.{enter_held, held_is, mover_in, room_on}
use Rattle.sm_board.proofs.held.Held.enter.Goals as goal

pub enter-requires-clause-room : goal.enter-requires-clause-room
enter-requires-clause-room c =
    let few = (log_fits c.args.board.now c.args.self.now.log c.args.self.now.set c.requires.held.logged).1 c.args.x c.requires.number c.requires.fresh in
    let long = length-take c.self.inside.count c.self.inside.log.items in
    let is = ap (λ (h : Held). length h.log) c.self.view_is in
    let room = ap (λ (h : Held). h.room) c.self.view_is in
    omega (arith, ap length c.deref_mut-2.ensures.value, c.self.invariant, c.requires.held.room)

pub move_on-requires-clause-room : goal.move_on-requires-clause-room
move_on-requires-clause-room c = λ a k.
    let at : c.deref_mut-3.result.now ≡ c.args.self.now.stays = c.deref_mut-3.ensures.value ∙ ap (λ (h : Held). h.stays) c.self.view_is in
    let p : ℕ = slice_index (row c.args.board.now.movers c.args.x) a in
    let e : slice_index c.deref_mut-3.result.now p ≡ slice_index c.args.self.now.stays p = ap (λ (xs : List ℕ). slice_index xs p) at in
    let less = mover_in c.requires.board c.args.x a k in
    omega (arith, room_on c.requires.board c.args.self.now.set c.args.x (omega (arith, c.requires.number, c.requires.held.logged.one_each)) c.requires.fresh a k, c.requires.held.at_is p less)

less_long : (c : goal.After-self-5-1) → c.self.inside.count < length c.deref_mut-2.result.now
less_long c =
    let few = (log_fits c.args.board.now c.args.self.now.log c.args.self.now.set c.requires.held.logged).1 c.args.x c.requires.number c.requires.fresh in
    let long = length-take c.self.inside.count c.self.inside.log.items in
    let is = ap (λ (h : Held). length h.log) c.self.view_is in
    let room = ap (λ (h : Held). h.room) c.self.view_is in
    omega (arith, ap length c.deref_mut-2.ensures.value, c.self.invariant, c.requires.held.room)

set_is : (c : goal.After-self-5-1) → c.enter.new.members ≡ set c.args.self.now.set c.args.x true
set_is c = c.enter.ensures.member ∙ ap (λ (xs : List Bool). set xs c.args.x true) (c.deref_mut.ensures.value ∙ ap (λ (h : Held). h.set) c.self.view_is)

set_long : (c : goal.After-self-5-1) → length c.enter.new.members ≡ c.self.inside.set.members.len
set_long c = ap length c.enter.ensures.member ∙ length-set c.deref_mut.result.now c.args.x true ∙ c.deref_mut.ensures.len

log_long : (c : goal.After-self-5-1) → length c.enter.new.log ≡ c.self.inside.log.len
log_long c = ap length c.enter.ensures.logged ∙ length-set c.deref_mut-2.result.now c.self.inside.count c.args.x ∙ c.deref_mut-2.ensures.len

log_is : (c : goal.After-self-5-1) → take (c.self.inside.count + 1) c.enter.new.log ≡ c.args.self.now.log ++ c.args.x ∷ []
log_is c =
    let less = less_long c in
    ap (take (c.self.inside.count + 1)) c.enter.ensures.logged ∙ take_more_set c.deref_mut-2.result.now c.self.inside.count c.args.x less
    ∙ ap (λ (xs : List ℕ). take c.self.inside.count xs ++ c.args.x ∷ []) c.deref_mut-2.ensures.value ∙ ap (λ (h : Held). h.log ++ c.args.x ∷ []) c.self.view_is

pub returns-clause-held : goal.returns-clause-held
returns-clause-held c =
    let at : c.deref_mut-3.result.now ≡ c.args.self.now.stays = c.deref_mut-3.ensures.value ∙ ap (λ (h : Held). h.stays) c.self.view_is in
    let now : c.deref_mut-4.result.now ≡ c.args.self.now.levels = c.deref_mut-4.ensures.value ∙ ap (λ (h : Held). h.levels) c.self.view_is in
    let w = enter_held c.args.self.now c.args.x c.move_on.new.at c.move_on.new.now c.requires.board c.requires.held c.requires.number c.requires.fresh (rw (at, now) at c.move_on.ensures) in
    held_is
    (take-append_at_length c.self.inside.set.members.len c.enter.new.members _ (set_long c) ∙ set_is c)
    (ap (take (c.self.inside.count + 1)) (take-append_at_length c.self.inside.log.len c.enter.new.log _ (log_long c)) ∙ log_is c)
    (ap length (take-append_at_length c.self.inside.log.len c.enter.new.log _ (log_long c)) ∙ omega (arith, log_long c, c.deref_mut-2.ensures.len, ap length c.deref_mut-2.ensures.value, ap (λ (h : Held). h.room) c.self.view_is))
    (take-append_at_length c.self.inside.stays.len c.move_on.new.at _ (c.move_on.ensures.at_each ∙ c.deref_mut-3.ensures.len))
    (take-append_at_length c.self.inside.levels.len c.move_on.new.now _ (c.move_on.ensures.now_each ∙ c.deref_mut-4.ensures.len))
    w

pub returns-clause-logged : goal.returns-clause-logged
returns-clause-logged c = ap (take (c.self.inside.count + 1)) (take-append_at_length c.self.inside.log.len c.enter.new.log _ (log_long c)) ∙ log_is c

pub invariant_of-self : goal.invariant_of-self
invariant_of-self c =
    let e = ap length (take-append_at_length c.self.inside.log.len c.enter.new.log _ (log_long c)) in
    subst (λ n. c.self.inside.count + 1 ≤ n) (sym e) (omega (arith, less_long c, log_long c, c.deref_mut-2.ensures.len))
