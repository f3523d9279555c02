use Rattle.std.proofs.Common.{rules, refl, ◌≡◌, ℕ, ◌∙◌, arith, ap, Vec, false, length, replicate}
use Rattle.std.specs.declared.alloc.Global.{Global}
use Rattle.std.proofs.lemmas.List.{length-map}
use Rattle.sm_board.proofs.HeldLemmas.{held_is}
use Rattle.sm_board.proofs.StartLemmas.{nothing_held}
use Rattle.sm_board.proofs.held.Held.nothing.Goals as goal

pub returns-clause-held : goal.returns-clause-held
returns-clause-held c =
    let board = c.requires in
    let members : c.in_ok-members.members.items ≡ replicate (length c.args.board.now.needs) false = c.in_ok-members.ensures.items_if_clones_equal (search rules) ∙ ap (λ (n : ℕ). replicate n false) c.rotations-rotations.ensures in
    let stays : c.in_ok-vec-2.field-0.items ≡ replicate (length c.args.board.now.leaves) 0 = c.in_ok-vec-2.ensures.items_if_clones_equal (search rules) ∙ ap (λ (n : ℕ). replicate n 0) c.proposers.ensures in
    let first = rw c.all_levels.ensures at c.in_ok-first_levels.ensures in
    let many = length-map c.all_levels.result.now (λ (v : Vec ℕ Global). v.items) in
    let all = ap length c.all_levels.ensures in
    held_is members refl (omega (arith, c.in_ok-vec.ensures.len, c.rotations-rotations.ensures)) stays refl
    (nothing_held c.in_ok-first_levels.field-0.items (omega (arith, first.level_each, board.levels_each)) (λ p less. first.levels p (omega (arith, board.levels_each))))
