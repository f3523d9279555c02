-- Numbers of names, and the first line that names nobody.
use Rattle.std.proofs.Common.{◌≡◌, ◌≢◌, ℕ, ◌≤◌, List, [], ◌∷◌, ◌++◌, length, map, min, Option, Some, None, Result, refl, sym, ap, ◌∙◌, subst, arith, ℤ}
use Rattle.std.specs.Option.{option_map, option_map_or}
use Rattle.std.specs.Result.{IfOk}
use Rattle.std.specs.declared.alloc.AllocError.{AllocError}
use Rattle.std.proofs.lemmas.List.{length-map}
use Rattle.sm_text.specs.Limits.{most_agents}
use Rattle.sm_agents.specs.Vectors.{agents_of, written_with, written_in}
use Rattle.sm_agents.specs.Written.{AgentData, Written}
use Rattle.sm_agents.specs.declared.agents.Agent.{Agent}
use Rattle.sm_agents.specs.declared.kinds.Kind.{Kind}
use Rattle.sm_agents.specs.declared.kinds.Kind.TheVariants.{Marriage, Hospitals, Roommates}
use Rattle.sm_agents.specs.Named.{SaidPair, SaidWeight, names_of, names_first}
use Rattle.sm_lists.specs.Earlier.{earlier_of}
use Rattle.sm_reader.specs.InstanceText.{lines_with_unknown, pairs_with_unknown, order_with_unknown, least, unknown_lines, listed_by_proposers, numbered, two_sides}
use Rattle.sm_agents.specs.Order.{full_order}
use Rattle.sm_keys.specs.Tables.{number_in, Table}
use Rattle.sm_reader.specs.Draft.{listed_table, agent_in, pair_in, given_in, order_of, said_of, IsDraft}
use Rattle.sm_reader.specs.Numbering.{pair_among, weight_among, weighed_pair, second_of, agents_with_unknown, NumbersPersons, NumbersSides, NumbersSaid, NumbersBoth, ArePartsOf}
use Rattle.sm_reader.specs.declared.draft.Declared.{Declared}
use Rattle.sm_reader.specs.declared.draft.Weights.{Weights}
use Rattle.sm_keys.specs.declared.text_key.TextKey.{TextKey}
use Rattle.sm_reader.specs.declared.draft.Draft.{Draft}
use Rattle.sm_reader.specs.declared.numbering.BothNumbered.{BothNumbered}
use Rattle.sm_reader.specs.declared.numbering.SaidNumbered.{SaidNumbered}
use Rattle.sm_agents.specs.declared.parts.Parts.{Parts}

-- the earliest of three
earlier_assoc : (a b d : Option ℕ) → earlier_of (earlier_of a b) d ≡ earlier_of a (earlier_of b d)
earlier_assoc None b d = refl
earlier_assoc (Some a) None d = refl
earlier_assoc (Some a) (Some b) None = refl
earlier_assoc (Some a) (Some b) (Some d) = ap Some (let e : min (min a b) d ≡ min a (min b d) = omega arith in e)

-- the least of a number and others
earlier_one : (n : ℕ) (o : Option ℕ) → Some (option_map_or (min n) o n) ≡ earlier_of (Some n) o
earlier_one n None = refl
earlier_one n (Some m) = refl

-- the least of two lists is the earlier of theirs
pub least-append : (xs ys : List ℕ) → least (xs ++ ys) ≡ earlier_of (least xs) (least ys)
least-append [] ys = refl
least-append (n ∷ xs) ys =
    earlier_one n (least (xs ++ ys)) ∙ ap (earlier_of (Some n)) (least-append xs ys)
    ∙ sym (earlier_assoc (Some n) (least xs) (least ys)) ∙ ap (λ o. earlier_of o (least ys)) (sym (earlier_one n (least xs)))

-- the lists of persons are numbered among persons, and those of any other kind among reviewers
pub other_table : (kind : Kind) (pn rn : Table) → kind ≢ Roommates → listed_table kind pn rn ≡ rn
other_table Marriage pn rn other = refl
other_table Hospitals pn rn other = refl
other_table Roommates pn rn other = absurd (other refl)

-- the names of a draft's agents are those that are declared
pub names_in : (texts : List (List ℕ)) (agents : List Declared) → names_of (map (agent_in texts) agents) ≡ map (λ (a : Declared). a.name.now) agents
names_in texts [] = refl
names_in texts (a ∷ agents) = ap (λ x. a.name.now ∷ x) (names_in texts agents)

-- the pairs of weights that are said are those of the draft's
pub pairs_in : (ws : List ((TextKey × TextKey) × Weights)) → map (λ (w : SaidWeight). w.pair) (map given_in ws) ≡ map weighed_pair ws
pairs_in [] = refl
pairs_in (w ∷ ws) = ap (λ x. weighed_pair w ∷ x) (pairs_in ws)

-- the second weights that are said are those of the draft's
seconds_in : (ws : List ((TextKey × TextKey) × Weights)) → map (λ (w : SaidWeight). w.second) (map given_in ws) ≡ map second_of ws
seconds_in [] = refl
seconds_in (w ∷ ws) = ap (λ x. second_of w ∷ x) (seconds_in ws)

module _ (kind : Kind) (line : ℕ) (d : Draft) (draft : IsDraft kind line d) where
  -- the proposers that are said are those declared
  pub proposer_names : names_of (said_of kind d).proposers ≡ d.proposer_names.declared
  proposer_names = names_in (listed_table kind d.proposer_names d.reviewer_names).texts d.proposers.items ∙ sym draft.proposers_declared

  -- so are the reviewers
  pub reviewer_names : names_of (said_of kind d).reviewers ≡ d.reviewer_names.declared
  reviewer_names = names_in d.proposer_names.texts d.reviewers.items ∙ sym draft.reviewers_declared

-- whom the proposers list
pub listed_names : (kind : Kind) (line : ℕ) (d : Draft) → IsDraft kind line d → listed_by_proposers kind (said_of kind d) ≡ (listed_table kind d.proposer_names d.reviewer_names).declared
listed_names Marriage line d draft = reviewer_names Marriage line d draft
listed_names Hospitals line d draft = reviewer_names Hospitals line d draft
listed_names Roommates line d draft = proposer_names Roommates line d draft

-- the first line that names an undeclared agent, part by part
pub unknown_is : (kind : Kind) (line : ℕ) (d : Draft) → IsDraft kind line d
    → let p = d.proposer_names.declared in let r = d.reviewer_names.declared in
    least (unknown_lines kind (said_of kind d)) ≡ earlier_of (earlier_of (earlier_of (earlier_of
    (least (agents_with_unknown kind d))
    (least (pairs_with_unknown p r (map weighed_pair d.weights.entries))))
    (least (pairs_with_unknown p r (map pair_in d.forced.items))))
    (least (pairs_with_unknown p r (map pair_in d.forbidden.items))))
    (least (order_with_unknown p (option_map order_of d.order)))
unknown_is kind line d draft =
    let p = d.proposer_names.declared in
    let r = d.reviewer_names.declared in
    let t = listed_table kind d.proposer_names d.reviewer_names in
    let said = said_of kind d in
    let parts = λ (listed ps rs : List (List ℕ)) (ws : List SaidPair). lines_with_unknown listed said.proposers ++ lines_with_unknown ps said.reviewers
    ++ pairs_with_unknown ps rs ws ++ pairs_with_unknown ps rs said.forced ++ pairs_with_unknown ps rs said.forbidden ++ order_with_unknown ps said.order in
    let weighed = map (λ (w : SaidWeight). w.pair) said.weights in
    let named : unknown_lines kind said ≡ parts t.declared p r (map weighed_pair d.weights.entries) =
    ap (λ x. parts x (names_of said.proposers) (names_of said.reviewers) weighed) (listed_names kind line d draft)
    ∙ ap (λ x. parts t.declared x (names_of said.reviewers) weighed) (proposer_names kind line d draft)
    ∙ ap (λ x. parts t.declared p x weighed) (reviewer_names kind line d draft)
    ∙ ap (λ x. parts t.declared p r x) (pairs_in d.weights.entries) in
    let a = agents_with_unknown kind d in
    let w = pairs_with_unknown p r (map weighed_pair d.weights.entries) in
    let f = pairs_with_unknown p r said.forced in
    let g = pairs_with_unknown p r said.forbidden in
    let h = order_with_unknown p said.order in
    ap least named
    ∙ least-append (a ++ w ++ f ++ g) h
    ∙ ap (λ o. earlier_of o (least h)) (least-append (a ++ w ++ f) g)
    ∙ ap (λ o. earlier_of (earlier_of o (least g)) (least h)) (least-append (a ++ w) f)
    ∙ ap (λ o. earlier_of (earlier_of (earlier_of o (least f)) (least g)) (least h)) (least-append a w)

-- one part after another
pub earlier_chain : {a w f g h x y z v p q r s t : Option ℕ} → x ≡ earlier_of a w → y ≡ earlier_of x f → z ≡ earlier_of y g → v ≡ earlier_of z h
    → a ≡ p → w ≡ q → f ≡ r → g ≡ s → h ≡ t → v ≡ earlier_of (earlier_of (earlier_of (earlier_of p q) r) s) t
earlier_chain e1 e2 e3 e4 ha hw hf hg ho = cc

-- the persons that are numbered are those that a draft says
pub persons_said : (line : ℕ) (d : Draft) → IsDraft Roommates line d → (persons : List Agent) → NumbersPersons d persons
    → agents_of persons ≡ (let said = said_of Roommates d in map (numbered (names_of said.proposers)) said.proposers)
persons_said line d draft persons are = are ∙ ap (λ ns. map (numbered ns) (said_of Roommates d).proposers) (sym (proposer_names Roommates line d draft))

-- and so are the two sides
pub sides_said : (kind : Kind) (line : ℕ) (d : Draft) → IsDraft kind line d → kind ≢ Roommates → (sides : Parts) → NumbersSides d sides
    → written_with kind sides.proposers.items sides.reviewers.items sides.weights.items sides.forced.items sides.forbidden.items sides.seconds.items sides.order.items ≡ two_sides kind (said_of kind d)
sides_said kind line d draft other n are =
    let said = said_of kind d in
    let p = d.proposer_names in
    let r = d.reviewer_names in
    let sides : List (List ℕ) → List (List ℕ) → List (List ℕ) → Written = λ ps rs listed. record {
      kind = kind;
      proposers = map (numbered rs) (map (agent_in listed) d.proposers.items);
      reviewers = map (numbered ps) said.reviewers;
      weights = map (weight_among ps rs) said.weights;
      forced = map (pair_among ps rs) said.forced;
      forbidden = map (pair_among ps rs) said.forbidden;
      seconds = map (λ (w : SaidWeight). w.second) said.weights;
      order = full_order (length (map (agent_in listed) d.proposers.items)) (map (number_in ps) (names_first said.order));
    } in
    let count : length d.proposers.items ≡ length (map (agent_in r.texts) d.proposers.items) = sym (length-map d.proposers.items (agent_in r.texts)) in
    let first : written_with kind n.proposers.items n.reviewers.items n.weights.items n.forced.items n.forbidden.items n.seconds.items n.order.items ≡ sides p.declared r.declared r.texts =
    seven kind are.proposers are.reviewers are.weights are.forced are.forbidden (are.seconds ∙ sym (seconds_in d.weights.entries))
    (are.order ∙ ap (λ c. full_order c (map (number_in p.declared) (names_first said.order))) count) in
    first
    ∙ ap (λ (t : Table). sides p.declared r.declared t.texts) (sym (other_table kind d.proposer_names d.reviewer_names other))
    ∙ ap (λ ps. sides ps r.declared (listed_table kind d.proposer_names d.reviewer_names).texts) (sym (proposer_names kind line d draft))
    ∙ ap (λ rs. sides (names_of said.proposers) rs (listed_table kind d.proposer_names d.reviewer_names).texts) (sym (reviewer_names kind line d draft))
  where
    seven : (k : Kind) {a a' b b' : List AgentData} {w w' : List (ℕ × ℕ × ℤ)} {f f' g g' : List (ℕ × ℕ)} {s s' : List ℤ} {o o' : List ℕ} → a ≡ a' → b ≡ b' → w ≡ w' → f ≡ f' → g ≡ g' → s ≡ s' → o ≡ o'
        → let x : Written = record { kind = k; proposers = a; reviewers = b; weights = w; forced = f; forbidden = g; seconds = s; order = o } in
        let y : Written = record { kind = k; proposers = a'; reviewers = b'; weights = w'; forced = f'; forbidden = g'; seconds = s'; order = o' } in x ≡ y
    seven k h1 h2 h3 h4 h5 h6 h7 = cc

-- the numbered parts of a draft make the two sides that it says
pub parts_said : (kind : Kind) (line : ℕ) (d : Draft) → IsDraft kind line d → kind ≢ Roommates → (parts : Parts) → parts.kind ≡ kind → NumbersSides d parts → written_in parts ≡ two_sides kind (said_of kind d)
parts_said kind line d draft other parts same are =
    ap (λ k. written_with k parts.proposers.items parts.reviewers.items parts.weights.items parts.forced.items parts.forbidden.items parts.seconds.items parts.order.items) same ∙ sides_said kind line d draft other parts are

-- few names are declared
pub few_names : (kind : Kind) (line : ℕ) (d : Draft) → IsDraft kind line d → (length d.proposer_names.declared ≤ most_agents) × (length d.reviewer_names.declared ≤ most_agents)
few_names kind line d draft =
    let name = λ (a : Declared). a.name.now in (
      omega (arith, ap length draft.proposers_declared, length-map d.proposers.items name, draft.proposers_fit),
      omega (arith, ap length draft.reviewers_declared, length-map d.reviewers.items name, draft.reviewers_fit),
    )

-- the two sides are numbered where both halves of them are
pub sides_of : (kind : Kind) (d : Draft) (halves : Result BothNumbered AllocError) (rest : Result SaidNumbered AllocError) (parts : Parts)
    → IfOk halves (NumbersBoth d.proposer_names d.reviewer_names d.proposers.items d.reviewers.items d.order)
    → IfOk rest (NumbersSaid d.proposer_names.declared d.reviewer_names.declared d.weights.entries d.forced.items d.forbidden.items)
    → ArePartsOf kind halves rest parts → NumbersSides d parts
sides_of kind d halves rest parts h k are =
    let both : NumbersBoth d.proposer_names d.reviewer_names d.proposers.items d.reviewers.items d.order are.both =
    subst (λ (x : Result BothNumbered AllocError). IfOk x (NumbersBoth d.proposer_names d.reviewer_names d.proposers.items d.reviewers.items d.order)) are.both_is h in
    let said : NumbersSaid d.proposer_names.declared d.reviewer_names.declared d.weights.entries d.forced.items d.forbidden.items are.said =
    subst (λ (x : Result SaidNumbered AllocError). IfOk x (NumbersSaid d.proposer_names.declared d.reviewer_names.declared d.weights.entries d.forced.items d.forbidden.items)) are.said_is k in
    subst (NumbersSides d) (sym are.is) (record {
      proposers = both.proposers;
      reviewers = both.reviewers;
      weights = said.weights;
      forced = said.forced;
      forbidden = said.forbidden;
      seconds = said.seconds;
      order = both.order;
    })
