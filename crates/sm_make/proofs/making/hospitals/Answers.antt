use Rattle.std.proofs.Common.{◌≡◌, ◌+◌, ◌-◌, ◌*◌, ◌≤◌, ℕ, ◌∙◌, ap, arith, sym, subst, true≢false}
use Rattle.sm_agents.specs.declared.kinds.Kind.TheVariants.{Hospitals}
use Rattle.sm_instance.specs.declared.inputs.Input.{Input}
use Rattle.sm_make.specs.Words.{words, of_seed}
use Rattle.sm_make.specs.Lists.{shuffled_list}
use Rattle.sm_make.specs.Made.{agents_made, plain, proposer_letter, reviewer_letter, hospitals_for}
use Rattle.sm_make.proofs.DrawnLemmas.{drawn_first, drawn_second}
use Rattle.sm_make.proofs.InstanceLemmas.{shuffled_are_instance, two_are_instance, plain_of, hospitals_have_two, hospitals_are_few}
use Rattle.sm_make.proofs.making.hospitals.Goals as goal

-- how many words so many residents and hospitals take
abbrev words_of : ℕ → ℕ → ℕ
words_of n m = n * (m - 1) + m * (n - 1)

-- the instance of so many residents and hospitals
abbrev sides : ℕ → ℕ → ℕ → Input
sides n seed m = plain Hospitals (agents_made proposer_letter 1 (shuffled_list m 0 (words (words_of n m) (of_seed seed))) n)
    (agents_made reviewer_letter 7 (shuffled_list n (n * (m - 1)) (words (words_of n m) (of_seed seed))) m)

pub two-requires : goal.two-requires
two-requires c =
    let n = c.args.size in
    let m = c.max-count.result in
    let count : m ≡ hospitals_for n = c.max-count.ensures in
    two_are_instance (drawn_first proposer_letter 1 n m (words_of n m) c.args.seed c.in_ok-residents.ensures.agents c.new-generator.ensures (omega arith))
    (drawn_second reviewer_letter 7 m n (n * (m - 1)) (words_of n m) c.args.seed c.in_ok-hospitals.ensures.agents c.in_ok-residents.ensures.generator c.new-generator.ensures (omega arith))
    (shuffled_are_instance Hospitals 7 n m 0 (n * (m - 1)) (words (words_of n m) (of_seed c.args.seed)) hospitals_have_two (omega arith) (λ e. absurd (true≢false (sym e))) c.requires
    (subst (λ k. k ≤ 512) (sym count) (hospitals_are_few n c.requires)))

pub returns : goal.returns
returns c =
    let n = c.args.size in
    let m = c.max-count.result in
    let count : m ≡ hospitals_for n = c.max-count.ensures in
    c.in_ok-input.ensures
    ∙ plain_of (drawn_first proposer_letter 1 n m (words_of n m) c.args.seed c.in_ok-residents.ensures.agents c.new-generator.ensures (omega arith))
    (drawn_second reviewer_letter 7 m n (n * (m - 1)) (words_of n m) c.args.seed c.in_ok-hospitals.ensures.agents c.in_ok-residents.ensures.generator c.new-generator.ensures (omega arith))
    ∙ ap (sides n c.args.seed) count
