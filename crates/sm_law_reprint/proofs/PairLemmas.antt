-- The lines of pairs are read.
use Rattle.std.proofs.Common.{◌≡◌, ◌≢◌, ℕ, ◌≤◌, ◌&&◌, ◌||◌, Bool, true, false, if◌then◌else◌, List, [], ◌∷◌, ◌++◌, map, codes, All, AllPairs, refl, sym, ap, ◌∙◌, subst, arith, append_assoc, append-nil}
use Rattle.std.specs.List.{list_any}
use Rattle.std.specs.Fmt.{signed_decimal}
use Rattle.std.specs.Int.RustNames.{unsigned_abs}
use Rattle.std.specs.Str.{bytes_eq}
use Rattle.std.proofs.lemmas.List.{map-append}
use Rattle.std.proofs.lemmas.List.Elements.{All-head, All-tail}
use Rattle.sm_text.specs.Limits.{most_weight}
use Rattle.sm_text.specs.Name.{is_name}
use Rattle.sm_text.specs.Tokens.{tokens}
use Rattle.sm_agents.specs.declared.kinds.Kind.{Kind}
use Rattle.sm_agents.specs.declared.kinds.Kind.TheVariants.{Roommates}
use Rattle.sm_agents.specs.Named.{SaidAgent, SaidPair, SaidWeight, Said, nothing, is_given_to}
use Rattle.sm_forms.specs.declared.forms.Condition.TheVariants.{Force, Forbid}
use Rattle.sm_reader.specs.Judging.{said_with, goes, verdict_on}
use Rattle.sm_keys.proofs.TextLemmas.{equal_text}
use Rattle.sm_report.proofs.DecimalLemmas.{signed_of-decimal}
use Rattle.sm_agents.proofs.NonzeroLemmas.{zero_is}
use Rattle.sm_text.specs.Tokens.{begins_run}
use Rattle.sm_lists.proofs.BoolLemmas.{first_true, second_true}
use Rattle.sm_agents.specs.Nonzero.{is_zero}
use Rattle.sm_instance_lines.specs.Printed.{pair_text, weight_line, force_line, forbid_line}
use Rattle.sm_law_reprint.proofs.CutLemmas.{tokens-run, tokens-run_alone, tokens-blank, no_run}
use Rattle.sm_law_reprint.proofs.LineLemmas.{words_cut, tokens-pair, signed_is_run, begins_run-run, HasNoEnds, both_free, name_free, run_free, words_free}
use Rattle.sm_law_reprint.proofs.VerdictLemmas.{weight_goes, second_goes, pair_goes}
use Rattle.sm_law_reprint.proofs.AgentLemmas.{fresh_in}

-- A pair has two names.

-- both parts of a pair are names
pub record HasNames (pair : SaidPair) : Type 0 where
  pub proposer : is_name pair.proposer ≡ true
  pub reviewer : is_name pair.reviewer ≡ true

module _ (pair : SaidPair) (names : HasNames pair) where
  two_cut : tokens (pair_text pair) ≡ pair.proposer ∷ pair.reviewer ∷ []
  two_cut = ap tokens (sym (append-nil (pair_text pair))) ∙ tokens-pair pair.proposer pair.reviewer [] names.proposer names.reviewer refl

  two_free : HasNoEnds (pair_text pair)
  two_free = both_free (both_free (name_free pair.proposer names.proposer) words_free.5) (name_free pair.reviewer names.reviewer)

-- a pair that stands on line n
abbrev pub pair_on_line : ℕ → SaidPair → SaidPair
pair_on_line n pair = record pair { line = n }

-- The weights.

-- the names of the pair of a weight
abbrev pub key_of : SaidWeight → List ℕ × List ℕ
key_of w = (w.pair.proposer, w.pair.reviewer)

-- a weight by itself: two names, and a size within the limit
pub record IsOwnWeight (w : SaidWeight) : Type 0 where
  pub names : HasNames w.pair
  pub size : unsigned_abs w.weight ≤ most_weight
  pub second_size : unsigned_abs w.second ≤ most_weight

-- weights that are read and that are left, of different pairs
pub record AreWeights (done todo : List SaidWeight) : Type 0 where
  pub own : All IsOwnWeight todo
  pub differ : AllPairs ◌≢◌ (map key_of done ++ map key_of todo)

-- a weight that stands on line n
abbrev pub weight_on_line : ℕ → SaidWeight → SaidWeight
weight_on_line n w = record w { pair = pair_on_line n w.pair }

-- the next weight moves from those that are left to those that are read
pub weights_next : (done : List SaidWeight) (w : SaidWeight) (todo : List SaidWeight) (n : ℕ) → AreWeights done (w ∷ todo) → AreWeights (done ++ weight_on_line n w ∷ []) todo
weights_next done w todo n are = record {
  own = All-tail IsOwnWeight w todo are.own;
  differ = subst (AllPairs ◌≢◌)
      (sym (append_assoc (map key_of done) (key_of w ∷ []) (map key_of todo)) ∙ ap (λ t. t ++ map key_of todo) (sym (map-append key_of done (weight_on_line n w ∷ []))))
      are.differ;
}

module _ (p r : List ℕ) where
  abbrev is_key : List ℕ × List ℕ → Bool
  is_key k = bytes_eq p k.0 && bytes_eq r k.1

  by_keys : (ws : List SaidWeight) → list_any (is_given_to p r) ws ≡ list_any is_key (map key_of ws)
  by_keys [] = refl
  by_keys (w ∷ ws) = ap (λ t. is_given_to p r w || t) (by_keys ws)

  only_key : (k : List ℕ × List ℕ) → is_key k ≡ true → k ≡ (p, r)
  only_key (a, b) h =
      let first = equal_text p a (first_true (bytes_eq p a) (bytes_eq r b) h) in
      let second = equal_text r b (second_true (bytes_eq p a) (bytes_eq r b) h) in
      same_pair (sym first) (sym second)
    where
      same_pair : {a b c d : List ℕ} → a ≡ c → b ≡ d → let x : List ℕ × List ℕ = (a, b) in let y : List ℕ × List ℕ = (c, d) in x ≡ y
      same_pair e f = cc

module _ (proposers reviewers : List SaidAgent) where
  -- what is said while the lines of the weights are read
  abbrev pub with_weights : List SaidWeight → Said
  with_weights done = record nothing { proposers = proposers; reviewers = reviewers; weights = done }

  module _ (kind : Kind) (done : List SaidWeight) (w : SaidWeight) (todo : List SaidWeight) (are : AreWeights done (w ∷ todo)) where
    fresh_weight : list_any (is_given_to w.pair.proposer w.pair.reviewer) done ≡ false
    fresh_weight = by_keys w.pair.proposer w.pair.reviewer done
        ∙ fresh_in (is_key w.pair.proposer w.pair.reviewer) (key_of w) (only_key w.pair.proposer w.pair.reviewer) (map key_of done) (map key_of todo) are.differ

    own_weight : IsOwnWeight w
    own_weight = All-head IsOwnWeight w todo are.own

    weight_cut : (rest : List ℕ) → begins_run rest ≡ false
        → tokens (codes "weight " ++ pair_text w.pair ++ codes " " ++ signed_decimal w.weight ++ rest) ≡ codes "weight" ∷ w.pair.proposer ∷ w.pair.reviewer ∷ signed_decimal w.weight ∷ tokens rest
    weight_cut rest apart =
        let run = signed_decimal w.weight in
        let names = own_weight.names in
        let behind = codes " " ++ run ++ rest in
        ap tokens (append_assoc (codes "weight " ++ pair_text w.pair ++ codes " ") run rest ∙ append_assoc (codes "weight " ++ pair_text w.pair) (codes " ") (run ++ rest)
        ∙ append_assoc (codes "weight ") (pair_text w.pair) (codes " " ++ (run ++ rest)))
        ∙ (words_cut (pair_text w.pair ++ behind)).2
        ∙ ap (λ t. codes "weight" ∷ t) (tokens-pair w.pair.proposer w.pair.reviewer behind names.proposer names.reviewer (no_run (run ++ rest)).0
        ∙ ap (λ t. w.pair.proposer ∷ w.pair.reviewer ∷ t) (tokens-blank (run ++ rest) ∙ tokens-run run rest (signed_is_run w.weight (omega (arith, own_weight.size))) apart))

    -- the line of the next weight goes on, and adds it: under a header of format 2 where it has a second weight
    pub weight_step : (format n : ℕ) → kind ≢ Roommates → (is_zero w.second ≡ false → format ≡ 2)
        → verdict_on kind format (with_weights done) n (tokens (weight_line w)) ≡ goes (with_weights (done ++ weight_on_line n w ∷ []))
    weight_step format n two needed = by_test (is_zero w.second) refl
      where
        run : List ℕ
        run = signed_decimal w.weight

        line : List ℕ
        line = codes "weight " ++ pair_text w.pair ++ codes " " ++ signed_decimal w.weight

        begins : begins_run run ≡ true
        begins = begins_run-run run (signed_is_run w.weight (omega (arith, own_weight.size)))

        by_test : (t : Bool) → is_zero w.second ≡ t
            → verdict_on kind format (with_weights done) n (tokens (line ++ (if t then [] else codes " " ++ signed_decimal w.second))) ≡ goes (with_weights (done ++ weight_on_line n w ∷ []))
        by_test true e =
            let names = own_weight.names in
            ap (verdict_on kind format (with_weights done) n) (weight_cut [] refl)
            ∙ weight_goes (with_weights done) w.pair.proposer w.pair.reviewer names.proposer names.reviewer run w.weight begins
            (signed_of-decimal w.weight most_weight own_weight.size (omega arith)) fresh_weight kind format n two
            ∙ ap (λ z. goes (with_weights (done ++ (record { pair = pair_on_line n w.pair; weight = w.weight; second = z }) ∷ []))) (sym (zero_is w.second e))
        by_test false e =
            let names = own_weight.names in
            let further = signed_decimal w.second in
            ap (λ k. verdict_on kind k (with_weights done) n (tokens (line ++ (codes " " ++ further)))) (needed e)
            ∙ ap (verdict_on kind 2 (with_weights done) n) (weight_cut (codes " " ++ further) (no_run further).0
            ∙ ap (λ t. codes "weight" ∷ w.pair.proposer ∷ w.pair.reviewer ∷ run ∷ t) (tokens-blank further ∙ tokens-run_alone further (signed_is_run w.second (omega (arith, own_weight.second_size)))))
            ∙ second_goes (with_weights done) w.pair.proposer w.pair.reviewer names.proposer names.reviewer run w.weight begins
            (signed_of-decimal w.weight most_weight own_weight.size (omega arith)) fresh_weight kind n further w.second two
            (begins_run-run further (signed_is_run w.second (omega (arith, own_weight.second_size)))) (signed_of-decimal w.second most_weight own_weight.second_size (omega arith))

  -- The forced and the forbidden pairs.

  module _ (weights : List SaidWeight) where
    -- what is said while the lines of the forced pairs are read
    abbrev pub with_forced : List SaidPair → Said
    with_forced done = record nothing { proposers = proposers; reviewers = reviewers; weights = weights; forced = done }

    -- what is said while the lines of the forbidden pairs are read
    abbrev pub with_forbidden : List SaidPair → List SaidPair → Said
    with_forbidden forced done = record nothing { proposers = proposers; reviewers = reviewers; weights = weights; forced = forced; forbidden = done }

    module _ (kind : Kind) (format : ℕ) (two : kind ≢ Roommates) (done : List SaidPair) (pair : SaidPair) (names : HasNames pair) where
      -- the line of the next forced pair goes on, and adds it
      pub force_step : (n : ℕ) → verdict_on kind format (with_forced done) n (tokens (force_line pair)) ≡ goes (with_forced (done ++ pair_on_line n pair ∷ []))
      unfolding said_with
      force_step n =
          ap (verdict_on kind format (with_forced done) n) ((words_cut (pair_text pair)).3 ∙ ap (λ t. codes "force" ∷ t) (two_cut pair names))
          ∙ pair_goes (with_forced done) pair.proposer pair.reviewer names.proposer names.reviewer Force kind format n two

      -- the line of the next forbidden pair goes on, and adds it
      pub forbid_step : (forced : List SaidPair) (n : ℕ)
          → verdict_on kind format (with_forbidden forced done) n (tokens (forbid_line pair)) ≡ goes (with_forbidden forced (done ++ pair_on_line n pair ∷ []))
      unfolding said_with
      forbid_step forced n =
          ap (verdict_on kind format (with_forbidden forced done) n) ((words_cut (pair_text pair)).4 ∙ ap (λ t. codes "forbid" ∷ t) (two_cut pair names))
          ∙ pair_goes (with_forbidden forced done) pair.proposer pair.reviewer names.proposer names.reviewer Forbid kind format n two

-- the line of a forced pair holds neither LF nor CR
pub force_free : (pair : SaidPair) → HasNames pair → HasNoEnds (force_line pair)
force_free pair names = both_free words_free.3 (two_free pair names)

-- nor does that of a forbidden pair
pub forbid_free : (pair : SaidPair) → HasNames pair → HasNoEnds (forbid_line pair)
forbid_free pair names = both_free words_free.4 (two_free pair names)

-- nor does that of a weight
pub weight_free : (w : SaidWeight) → IsOwnWeight w → HasNoEnds (weight_line w)
weight_free w own =
    let run = signed_decimal w.weight in
    both_free (both_free (both_free (both_free words_free.2 (two_free w.pair own.names)) words_free.5) (run_free run (signed_is_run w.weight (omega (arith, own.size))).bytes)) (by_test (is_zero w.second))
  where
    by_test : (t : Bool) → HasNoEnds (if t then [] else codes " " ++ signed_decimal w.second)
    by_test true = record { of_LF = refl; of_CR = refl }
    by_test false = both_free words_free.5 (run_free (signed_decimal w.second) (signed_is_run w.second (omega (arith, own.second_size))).bytes)
