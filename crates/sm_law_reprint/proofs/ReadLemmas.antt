-- What an instance says by names is read from its lines.
use Rattle.std.proofs.Common.{◌≡◌, ◌≢◌, ℕ, ◌+◌, ◌≤◌, ◌||◌, Bool, true, false, not, if◌then◌else◌, List, [], ◌∷◌, ◌++◌, length, map, codes, nat_lt, All, Option, Some, None, is_some, IfSome, refl, sym, ap, ◌∙◌, subst, arith, length-append}
use Rattle.std.specs.List.{list_all, list_any, fold}
use Rattle.std.proofs.lemmas.Bool.Decides.{nat_tests}
use Rattle.std.proofs.lemmas.List.Concat.{flat_map-append}
use Rattle.std.proofs.lemmas.List.Elements.{All-head, All-tail}
use Rattle.std.proofs.lemmas.List.Folds.{list_all-append, list_any_at}
use Rattle.std.proofs.lemmas.Bool.{and_from}
use Rattle.sm_text.specs.Limits.{most_bytes}
use Rattle.sm_text.specs.Lines.{LF}
use Rattle.sm_text.specs.Name.{is_name}
use Rattle.sm_text.specs.Tokens.{begins_run, tokens}
use Rattle.sm_agents.specs.Sound.{is_single}
use Rattle.sm_agents.specs.declared.kinds.Kind.{Kind}
use Rattle.sm_agents.specs.declared.kinds.Kind.TheVariants.{Roommates}
use Rattle.sm_agents.specs.Named.{SaidAgent, SaidPair, SaidWeight, SaidOrder, Said, nothing, entries_of}
use Rattle.sm_report.proofs.FreeLemmas.{is_free}
use Rattle.sm_report.specs.Fields.{spaced}
use Rattle.sm_answer.specs.Writing.{text_of}
use Rattle.sm_reader.specs.Judging.{verdict_on, heading_of}
use Rattle.sm_keys.specs.Tables.{has_repeated}
use Rattle.sm_reader.specs.InstanceText.{ended, behind_header, before_header, instance_text}
use Rattle.sm_agents.specs.Nonzero.{is_zero}
use Rattle.sm_instance_lines.specs.Printed.{format_of, header_line, proposer_line, reviewer_line, weight_line, force_line, forbid_line, order_line, order_lines, last_lines, agent_lines, printed_lines}
use Rattle.sm_law_reprint.proofs.CutLemmas.{with_end, lines_cut, content_of, no_run, tokens-spaced}
use Rattle.sm_law_reprint.proofs.LineLemmas.{HasNoEnds, both_free, spaced_free, header_free, words_free, order_cut}
use Rattle.sm_law_reprint.proofs.VerdictLemmas.{order_goes, heading_of-header, verdict_on-end}
use Rattle.sm_law_reprint.proofs.SectionLemmas.{lined, one_read, section_read, section_free}
use Rattle.sm_law_reprint.proofs.AgentLemmas.{IsOwn, AreAgents, on_line, agents_next, with_proposers, proposer_step, proposer_free, with_reviewers, reviewer_step, reviewer_free}
use Rattle.sm_law_reprint.proofs.PairLemmas.{HasNames, pair_on_line, IsOwnWeight, AreWeights, weight_on_line, weights_next, with_weights, weight_step, weight_free, with_forced, with_forbidden, force_step, forbid_step, force_free, forbid_free}

-- an order by itself: names that differ
pub record IsOwnOrder (order : SaidOrder) : Type 0 where
  pub names : list_all is_name order.names ≡ true
  pub differ : has_repeated order.names ≡ false

-- what may be said where it is to be read again
pub record IsPrintable (kind : Kind) (said : Said) : Type 0 where
  pub proposers : AreAgents true 0 [] said.proposers
  pub reviewers : AreAgents (is_single kind) (entries_of said.proposers) [] said.reviewers
  pub weights : AreWeights [] said.weights
  pub forced : All HasNames said.forced
  pub forbidden : All HasNames said.forbidden
  pub order : IfSome said.order IsOwnOrder

-- an order that stands on line n
abbrev pub order_on_line : ℕ → Option SaidOrder → Option SaidOrder
order_on_line n None = None
order_on_line n (Some order) = Some (record order { line = n })

-- what is said, with the lines on which it is printed
abbrev pub lined_said : Said → Said
lined_said said =
    let reviewers = 2 + length said.proposers in
    let weights = reviewers + length said.reviewers in
    let forced = weights + length said.weights in
    let forbidden = forced + length said.forced in
    let order = forbidden + length said.forbidden in
    record {
      proposers = lined on_line 2 said.proposers;
      reviewers = lined on_line reviewers said.reviewers;
      weights = lined weight_on_line weights said.weights;
      forced = lined pair_on_line forced said.forced;
      forbidden = lined pair_on_line forbidden said.forbidden;
      masters = [];
      order = order_on_line order said.order;
    }

-- a weight has a second one only under a header of format 2
abbrev pub IsUnder : ℕ → SaidWeight → Type 0
IsUnder format w = is_zero w.second ≡ false → format ≡ 2

-- as many entries
lined_entries : (agents : List SaidAgent) (n : ℕ) → entries_of (lined on_line n agents) ≡ entries_of agents
lined_entries agents n = from_sum agents n 0
  where
    from_sum : (agents : List SaidAgent) (n m : ℕ)
        → fold (λ (k : ℕ) (x : SaidAgent). k + length x.entries) m (lined on_line n agents) ≡ fold (λ (k : ℕ) (x : SaidAgent). k + length x.entries) m agents
    from_sum [] n m = refl
    from_sum (a ∷ agents) n m = from_sum agents (n + 1) (m + length a.entries)

-- the same end
same_end : (kind : Kind) (header : ℕ) {said more : Said} {place there n m : ℕ} → said ≡ more → place ≡ there → n ≡ m → ended kind header said place n ≡ ended kind header more there m
same_end kind header a b c = cc

-- names behind spaces don't go on a word
spaced_apart : (names : List (List ℕ)) → begins_run (spaced names) ≡ false
spaced_apart [] = refl
spaced_apart (name ∷ names) = (no_run (name ++ spaced names)).0

-- the line of an order holds no end of a line
order_free : (order : SaidOrder) → IsOwnOrder order → HasNoEnds (order_line order)
order_free order own = let word : HasNoEnds (codes "order") = record { of_LF = refl; of_CR = refl } in both_free word (spaced_free order.names own.names)

-- a section of proposers, and then the others
module _ (kind : Kind) (format header : ℕ) where
  proposers_read : (rest : List (List ℕ)) (items : List SaidAgent) (n place : ℕ) → AreAgents true 0 [] items
      → behind_header kind format header nothing n place (map with_end (map proposer_line items ++ rest))
      ≡ behind_header kind format header (with_proposers (lined on_line n items)) (n + length items) (place + length (text_of (map proposer_line items))) (map with_end rest)
  proposers_read = section_read kind format header proposer_line on_line with_proposers (AreAgents true 0)
      (λ done a todo n good. proposer_step kind format done a todo good n) (λ done a todo n good. agents_next true 0 done a todo n good)
      (λ done a todo good. proposer_free a (All-head (IsOwn true) a todo good.own))

  module _ (two : kind ≢ Roommates) (proposers : List SaidAgent) where
    reviewers_read : (rest : List (List ℕ)) (items : List SaidAgent) (n place : ℕ) → AreAgents (is_single kind) (entries_of proposers) [] items
        → behind_header kind format header (with_proposers proposers) n place (map with_end (map (reviewer_line kind) items ++ rest))
        ≡ behind_header kind format header (with_reviewers proposers (lined on_line n items)) (n + length items) (place + length (text_of (map (reviewer_line kind) items))) (map with_end rest)
    reviewers_read = section_read kind format header (reviewer_line kind) on_line (with_reviewers proposers) (AreAgents (is_single kind) (entries_of proposers))
        (λ done a todo n good. reviewer_step proposers done a todo kind format n two good) (λ done a todo n good. agents_next (is_single kind) (entries_of proposers) done a todo n good)
        (λ done a todo good. reviewer_free kind (is_single kind) a (All-head (IsOwn (is_single kind)) a todo good.own))

    module _ (reviewers : List SaidAgent) where
      weights_read : (rest : List (List ℕ)) (items : List SaidWeight) (n place : ℕ) → AreWeights [] items → All (IsUnder format) items
          → behind_header kind format header (with_reviewers proposers reviewers) n place (map with_end (map weight_line items ++ rest))
          ≡ behind_header kind format header (with_weights proposers reviewers (lined weight_on_line n items)) (n + length items) (place + length (text_of (map weight_line items))) (map with_end rest)
      weights_read rest items n place are under = section_read kind format header weight_line weight_on_line (with_weights proposers reviewers) (λ done todo. AreWeights done todo × All (IsUnder format) todo)
          (λ done w todo n good. weight_step proposers reviewers kind done w todo good.0 format n two (All-head (IsUnder format) w todo good.1))
          (λ done w todo n good. (weights_next done w todo n good.0, All-tail (IsUnder format) w todo good.1))
          (λ done w todo good. weight_free w (All-head IsOwnWeight w todo good.0.own)) rest items n place (are, under)

      module _ (weights : List SaidWeight) where
        forced_read : (rest : List (List ℕ)) (items : List SaidPair) (n place : ℕ) → All HasNames items
            → behind_header kind format header (with_weights proposers reviewers weights) n place (map with_end (map force_line items ++ rest))
            ≡ behind_header kind format header (with_forced proposers reviewers weights (lined pair_on_line n items)) (n + length items) (place + length (text_of (map force_line items))) (map with_end rest)
        forced_read = section_read kind format header force_line pair_on_line (with_forced proposers reviewers weights) (λ done todo. All HasNames todo)
            (λ done x todo n good. force_step proposers reviewers weights kind format two done x (All-head HasNames x todo good) n) (λ done x todo n good. All-tail HasNames x todo good)
            (λ done x todo good. force_free x (All-head HasNames x todo good))

        forbidden_read : (forced : List SaidPair) (rest : List (List ℕ)) (items : List SaidPair) (n place : ℕ) → All HasNames items
            → behind_header kind format header (with_forced proposers reviewers weights forced) n place (map with_end (map forbid_line items ++ rest))
            ≡ behind_header kind format header (with_forbidden proposers reviewers weights forced (lined pair_on_line n items)) (n + length items) (place + length (text_of (map forbid_line items)))
            (map with_end rest)
        forbidden_read forced = section_read kind format header forbid_line pair_on_line (with_forbidden proposers reviewers weights forced) (λ done todo. All HasNames todo)
            (λ done x todo n good. forbid_step proposers reviewers weights kind format two done x (All-head HasNames x todo good) forced n) (λ done x todo n good. All-tail HasNames x todo good)
            (λ done x todo good. forbid_free x (All-head HasNames x todo good))

  -- the last line
  end_read : (said : Said) (n place : ℕ) → behind_header kind format header said n place (map with_end (codes "end" ∷ [])) ≡ ended kind header said (place + length (with_end (codes "end"))) (n + 1)
  end_read said n place =
      let stops_here = ap (λ t. verdict_on kind format said n (tokens t)) (content_of (codes "end") words_free.6.of_CR) ∙ verdict_on-end kind format said n in
      rw stops_here refl

  -- the line of an order, where there is one, and then the last line
  last_read : kind ≢ Roommates → (said : Said) → said.order ≡ None → (order : Option SaidOrder) → IfSome order IsOwnOrder → (is_some order ≡ true → format ≡ 2) → (n place : ℕ)
      → behind_header kind format header said n place (map with_end (order_lines order ++ codes "end" ∷ []))
      ≡ ended kind header (record said { order = order_on_line n order }) (place + length (text_of (order_lines order ++ codes "end" ∷ []))) (n + length (order_lines order) + 1)
  last_read two said none None good under n place =
      end_read said n place
      ∙ same_end kind header (ap (λ o. record said { order = o }) none) (omega (arith, length-append (with_end (codes "end")) [])) (omega arith)
  last_read two said none (Some order) good under n place =
      let line = order_line order in
      let more : Said = record said { order = Some (record order { line = n }) } in
      let here = ap (λ t. verdict_on kind format said n (tokens t)) (content_of line (order_free order good).of_CR) ∙ ap (λ k. verdict_on kind k said n (tokens line)) (under refl)
      ∙ ap (verdict_on kind 2 said n) (order_cut (spaced order.names) (spaced_apart order.names) ∙ ap (λ t. codes "order" ∷ t) (tokens-spaced order.names good.names))
      ∙ order_goes said order.names good.names none good.differ kind n two in
      one_read kind format header said more n place line (with_end (codes "end") ∷ []) here
      ∙ end_read more (n + 1) (place + length (with_end line))
      ∙ same_end kind header {said = more} {more = more} refl (omega (arith, length-append (with_end line) (text_of (codes "end" ∷ [])), length-append (with_end (codes "end")) [])) (omega arith)

-- the length of a text in two parts
text_length : (xs ys : List (List ℕ)) → length (text_of (xs ++ ys)) ≡ length (text_of xs) + length (text_of ys)
text_length xs ys = ap length (flat_map-append (λ line. line ++ LF ∷ []) xs ys) ∙ length-append (text_of xs) (text_of ys)

-- the line behind the last
abbrev pub last_line : Said → ℕ
last_line said =
    2 + length said.proposers + length said.reviewers + length said.weights + length said.forced + length said.forbidden + length (order_lines said.order) + 1

-- all lines behind the header of an instance with two sides
module _ (kind : Kind) (format header : ℕ) (said : Said) (good : IsPrintable kind said) where
  -- they are read to the end, and say what the instance says, on the lines of the print
  pub two_read : kind ≢ Roommates → All (IsUnder format) said.weights → (is_some said.order ≡ true → format ≡ 2) → (place : ℕ)
      → behind_header kind format header nothing 2 place (map with_end (agent_lines kind said))
      ≡ ended kind header (lined_said said) (place + length (text_of (agent_lines kind said))) (last_line said)
  two_read two under ordered place =
      let now = lined_said said in
      let n1 = 2 + length said.proposers in
      let n2 = n1 + length said.reviewers in
      let n3 = n2 + length said.weights in
      let n4 = n3 + length said.forced in
      let n5 = n4 + length said.forbidden in
      let t1 = map proposer_line said.proposers in
      let t2 = map (reviewer_line kind) said.reviewers in
      let t3 = map weight_line said.weights in
      let t4 = map force_line said.forced in
      let t5 = map forbid_line said.forbidden in
      let p1 = place + length (text_of t1) in
      let p2 = p1 + length (text_of t2) in
      let p3 = p2 + length (text_of t3) in
      let p4 = p3 + length (text_of t4) in
      let p5 = p4 + length (text_of t5) in
      let r5 = last_lines said in
      let r4 = t5 ++ r5 in
      let r3 = t4 ++ r4 in
      let r2 = t3 ++ r3 in
      let r1 = t2 ++ r2 in
      let reviewers = subst (λ m. AreAgents (is_single kind) m [] said.reviewers) (sym (lined_entries said.proposers 2)) good.reviewers in
      let whole : p5 + length (text_of r5) ≡ place + length (text_of (t1 ++ r1)) =
      omega (arith, text_length t1 r1, text_length t2 r2, text_length t3 r3, text_length t4 r4, text_length t5 r5) in
      proposers_read kind format header r1 said.proposers 2 place good.proposers
      ∙ reviewers_read kind format header two now.proposers r2 said.reviewers n1 p1 reviewers
      ∙ weights_read kind format header two now.proposers now.reviewers r3 said.weights n2 p2 good.weights under
      ∙ forced_read kind format header two now.proposers now.reviewers now.weights r4 said.forced n3 p3 good.forced
      ∙ forbidden_read kind format header two now.proposers now.reviewers now.weights now.forced r5 said.forbidden n4 p4 good.forbidden
      ∙ last_read kind format header two (with_forbidden now.proposers now.reviewers now.weights now.forced now.forbidden) refl said.order good.order ordered n5 p5
      ∙ ap (λ p. ended kind header now p (n5 + length (order_lines said.order) + 1)) whole

-- those of persons
pub persons_read : (format header : ℕ) (persons : List SaidAgent) → AreAgents true 0 [] persons → (place : ℕ)
    → (let said : Said = record nothing { proposers = persons } in
    behind_header Roommates format header nothing 2 place (map with_end (agent_lines Roommates said))
    ≡ ended Roommates header (lined_said said) (place + length (text_of (agent_lines Roommates said))) (2 + length persons + 1))
persons_read format header persons good place =
    let said : Said = record nothing { proposers = persons } in
    let t1 = map proposer_line persons in
    let r1 = codes "end" ∷ [] in
    let whole : place + length (text_of t1) + length (with_end (codes "end")) ≡ place + length (text_of (t1 ++ r1)) =
    omega (arith, text_length t1 r1, length-append (with_end (codes "end")) []) in
    proposers_read Roommates format header r1 persons 2 place good
    ∙ end_read Roommates format header (lined_said said) (2 + length persons) (place + length (text_of t1))
    ∙ ap (λ p. ended Roommates header (lined_said said) p (2 + length persons + 1)) whole

-- whether the header is that of format 2
abbrev pub is_second : Said → Bool
is_second said = is_some said.order || list_any (λ (x : SaidWeight). not (is_zero x.second)) said.weights

-- the format of a header by that
abbrev format_by : Bool → ℕ
format_by second = if second then 2 else 1

-- it is where a weight has a second one
pub under_format : (said : Said) → All (IsUnder (format_of said)) said.weights
under_format said k d below isnt =
    let has : SaidWeight → Bool = λ (x : SaidWeight). not (is_zero x.second) in
    let some : list_any has said.weights ≡ true = list_any_at has said.weights k d below (ap not isnt) in
    ap (λ t. format_by (is_some said.order || t)) some ∙ either (is_some said.order)
  where
    either : (t : Bool) → format_by (t || true) ≡ 2
    either true = refl
    either false = refl

-- and where there is an order
pub order_format : (said : Said) → is_some said.order ≡ true → format_of said ≡ 2
order_format said some = ap (λ t. format_by (t || list_any (λ (x : SaidWeight). not (is_zero x.second)) said.weights)) some

-- no line holds an end of a line
pub lines_free : (kind : Kind) (said : Said) → IsPrintable kind said → list_all (is_free LF) (printed_lines kind said) ≡ true
lines_free kind said good =
    let single = is_single kind in
    let a = section_free (IsOwn true) proposer_line proposer_free said.proposers good.proposers.own in
    let b = section_free (IsOwn single) (reviewer_line kind) (reviewer_free kind single) said.reviewers good.reviewers.own in
    let w = section_free IsOwnWeight weight_line weight_free said.weights good.weights.own in
    let f = section_free HasNames force_line force_free said.forced good.forced in
    let g = section_free HasNames forbid_line forbid_free said.forbidden good.forbidden in
    and_from _ _ (header_free (is_second said) kind).of_LF
    (joined (map proposer_line said.proposers) _ a (joined (map (reviewer_line kind) said.reviewers) _ b (joined (map weight_line said.weights) _ w
    (joined (map force_line said.forced) _ f (joined (map forbid_line said.forbidden) (last_lines said) g (joined (order_lines said.order) (codes "end" ∷ []) (ordered said.order good.order) refl))))))
  where
    ordered : (order : Option SaidOrder) → IfSome order IsOwnOrder → list_all (is_free LF) (order_lines order) ≡ true
    ordered None own = refl
    ordered (Some order) own = and_from (is_free LF (order_line order)) true (order_free order own).of_LF refl

    joined : (xs ys : List (List ℕ)) → list_all (is_free LF) xs ≡ true → list_all (is_free LF) ys ≡ true → list_all (is_free LF) (xs ++ ys) ≡ true
    joined xs ys h k = list_all-append (is_free LF) xs ys ∙ and_from (list_all (is_free LF) xs) (list_all (is_free LF) ys) h k

-- a text whose first line is a header
headed_read : (second : Bool) (kind : Kind) (ls : List (List ℕ)) → before_header 1 0 (with_end (header_line (if second then 2 else 1) kind) ∷ map with_end ls)
    ≡ behind_header kind (if second then 2 else 1) 1 nothing 2 (0 + length (with_end (header_line (if second then 2 else 1) kind))) (map with_end ls)
headed_read second kind ls =
    let heading = ap (λ t. heading_of (tokens t)) (content_of (header_line (if second then 2 else 1) kind) (header_free second kind).of_CR) ∙ heading_of-header second kind in
    rw heading refl

-- a printed text means what stands behind its header
pub text_read : (kind : Kind) (said : Said) → list_all (is_free LF) (printed_lines kind said) ≡ true → length (text_of (printed_lines kind said)) ≤ most_bytes
    → instance_text (text_of (printed_lines kind said))
    ≡ behind_header kind (format_of said) 1 nothing 2 (0 + length (with_end (header_line (format_of said) kind))) (map with_end (agent_lines kind said))
unfolding instance_text
text_read kind said free short =
    let fits : nat_lt most_bytes (length (text_of (printed_lines kind said))) ≡ false = not_longer (length (text_of (printed_lines kind said))) short in
    rw fits (ap (before_header 1 0) (lines_cut (printed_lines kind said) free) ∙ headed_read (is_second said) kind (agent_lines kind said))
  where
    not_longer : (n : ℕ) → n ≤ most_bytes → nat_lt most_bytes n ≡ false
    not_longer n h = grind (arith, nat_tests)
