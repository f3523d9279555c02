-- The reader of first lines is inverse to their fields.
use Rattle.std.proofs.Common.{◌≡◌, ℕ, Bool, true, false, cond, List, [], ◌∷◌, ◌++◌, length, All, take, drop, Option, Some, None, option_map, option_and_then, refl, sym, ap, ◌∙◌, subst, codes}
use Rattle.std.specs.Option.{option_zip}
use Rattle.std.specs.Str.{bytes_eq}
use Rattle.std.proofs.lemmas.List.{take-append-drop}
use Rattle.std.proofs.lemmas.Option.{none-some, same_Some}
use Rattle.sm_agents.specs.declared.kinds.Kind.{Kind}
use Rattle.sm_agents.specs.declared.kinds.Kind.TheVariants.{Marriage, Hospitals, Roommates}
use Rattle.sm_agents.specs.declared.kinds.Side.{Side}
use Rattle.sm_agents.specs.declared.kinds.Side.TheVariants.{Proposers, Reviewers}
use Rattle.sm_agents.specs.declared.kinds.Measure.{Measure}
use Rattle.sm_agents.specs.declared.kinds.Measure.TheVariants.{Ranks, Given}
use Rattle.sm_report.specs.Heads.{HeadData}
use Rattle.sm_report.specs.Sound.{IsSmall, IsLimit, IsHeadOf}
use Rattle.sm_report.specs.Texts.{vector_text, limit_text, fields_of_head}
use Rattle.sm_report.specs.Vectors.{vector_in}
use Rattle.sm_report.specs.Meanings.{look_up, behind_word, limit_named, limit_in, after_in, sides, measures, bare_heads, bare_head_in, side_in, measure_in, operand_head_in, list_head_in, head_in}
use Rattle.sm_report.proofs.InverseLemmas.{Inverts, mapped, chained, zipped, text_same}
use Rattle.sm_report.proofs.FieldInverses.{limit_inverts, vector_inverts}

-- what holds of each row of a table holds of what is looked up
abbrev pub EachRow : {X : Type 0} → (List ℕ → X → Type 0) → List (List ℕ × X) → Type 0
EachRow P [] = Unit {0}
EachRow P (row ∷ rows) = P row.0 row.1 × EachRow P rows

-- an answer by a test
pub by_test_of : {X P : Type 0} (t : Bool) (a b : Option X) (x : X) → cond t a b ≡ Some x → (t ≡ true → a ≡ Some x → P) → (t ≡ false → b ≡ Some x → P) → P
by_test_of true a b x e p q = p refl e
by_test_of false a b x e p q = q refl e

-- what holds of each row of a table holds of what is looked up in it
pub looked_up : {X : Type 0} (P : List ℕ → X → Type 0) (rows : List (List ℕ × X)) → EachRow P rows → (name : List ℕ) (x : X) → look_up rows name ≡ Some x → P name x
looked_up P [] each name x e = absurd (none-some x e)
looked_up {X} P (row ∷ rows) each name x e = by_test_of (bytes_eq name row.0) (Some row.1) (look_up rows name) x e
    (λ is e. let P1 : X → Type 0 = λ y. P name y in subst P1 (same_Some row.1 x e) (let P0 : List ℕ → Type 0 = λ n. P n row.1 in subst P0 (sym (text_same name row.0 is)) each.0))
    (λ is e. looked_up P rows each.1 name x e)

-- what stands behind a name
behind_is : (name text rest : List ℕ) → behind_word name text ≡ Some rest → name ++ rest ≡ text
behind_is name text rest e = by_test_of (bytes_eq (take (length name) text) name) (Some (drop (length name) text)) None rest e
    (λ is e. ap (λ t. t ++ rest) (sym (text_same (take (length name) text) name is)) ∙ ap (λ t. take (length name) text ++ t) (sym (same_Some _ _ e)) ∙ take-append-drop (length name) text)
    (λ is e. absurd (none-some rest e))

limit_text_inverts : Inverts IsLimit limit_text limit_in
limit_text_inverts = record {
  again = λ n h. limit_inverts.again n h;
  sound = λ text n e. let c = chained limit_named (behind_word (codes "limit=") text) n e in limit_inverts.sound c.from n c.gives;
  same = λ text n e. let c = chained limit_named (behind_word (codes "limit=") text) n e in
      ap (λ t. codes "limit=" ++ t) (limit_inverts.same c.from n c.gives) ∙ behind_is (codes "limit=") text c.from c.is;
}

after_inverts : Inverts (All IsSmall) (λ v. codes "after=" ++ vector_text v) after_in
after_inverts = record {
  again = λ v h. vector_inverts.again v h;
  sound = λ text v e. let c = chained vector_in (behind_word (codes "after=") text) v e in vector_inverts.sound c.from v c.gives;
  same = λ text v e. let c = chained vector_in (behind_word (codes "after=") text) v e in
      ap (λ t. codes "after=" ++ t) (vector_inverts.same c.from v c.gives) ∙ behind_is (codes "after=") text c.from c.is;
}

-- a first line that was read
record IsHeadRead (kind : Kind) (fields : List (List ℕ)) (head : HeadData) : Type 0 where
  sound : IsHeadOf kind head
  same : fields_of_head head ≡ fields

-- without operands
bare : (kind : Kind) (name : List ℕ) (head : HeadData) → IsHeadOf kind head → fields_of_head head ≡ name ∷ [] → IsHeadRead kind (name ∷ []) head
bare kind name head h e = record { sound = h; same = e }

bare_read : (kind : Kind) (command : List ℕ) (head : HeadData) → bare_head_in kind command ≡ Some head → IsHeadRead kind (command ∷ []) head
bare_read Marriage command head e =
    looked_up (λ name head. IsHeadRead Marriage (name ∷ []) head) bare_heads
    (bare _ _ _ tt refl, (bare _ _ _ tt refl, (bare _ _ _ tt refl, (bare _ _ _ tt refl, (bare _ _ _ tt refl, (bare _ _ _ tt refl, (bare _ _ _ tt refl, (bare _ _ _ tt refl, (bare _ _ _ tt refl, (bare _ _ _ tt refl, tt)))))))))) command head e
bare_read Hospitals command head e =
    looked_up (λ name head. IsHeadRead Hospitals (name ∷ []) head) bare_heads
    (bare _ _ _ tt refl, (bare _ _ _ tt refl, (bare _ _ _ tt refl, (bare _ _ _ tt refl, (bare _ _ _ tt refl, (bare _ _ _ tt refl, (bare _ _ _ tt refl, (bare _ _ _ tt refl, (bare _ _ _ tt refl, (bare _ _ _ tt refl, tt)))))))))) command head e
bare_read Roommates command head e =
    looked_up (λ name head. IsHeadRead Roommates (name ∷ []) head) ((codes "solve", HeadData.Solve None) ∷ bare_heads)
    (bare _ _ _ refl refl, (bare _ _ _ tt refl, (bare _ _ _ tt refl, (bare _ _ _ tt refl, (bare _ _ _ tt refl, (bare _ _ _ tt refl, (bare _ _ _ tt refl, (bare _ _ _ tt refl, (bare _ _ _ tt refl, (bare _ _ _ tt refl, (bare _ _ _ tt refl, tt))))))))))) command head e

-- with a side
side_fields : (name : List ℕ) (side : Side) → look_up sides name ≡ Some side → fields_of_head (HeadData.Solve (Some side)) ≡ codes "solve" ∷ (codes "side=" ++ name) ∷ []
side_fields name side e = looked_up (λ name side. fields_of_head (HeadData.Solve (Some side)) ≡ codes "solve" ∷ (codes "side=" ++ name) ∷ []) sides (refl, (refl, tt)) name side e

side_given : (operand : List ℕ) (side : Side) → option_and_then (look_up sides) (behind_word (codes "side=") operand) ≡ Some side → fields_of_head (HeadData.Solve (Some side)) ≡ codes "solve" ∷ operand ∷ []
side_given operand side e =
    let c = chained (look_up sides) (behind_word (codes "side=") operand) side e in
    side_fields c.from side c.gives ∙ ap (λ t. codes "solve" ∷ t ∷ []) (behind_is (codes "side=") operand c.from c.is)

-- with one operand
side_read : (kind : Kind) (operand : List ℕ) (side : Side) → side_in kind operand ≡ Some side → IsHeadRead kind (codes "solve" ∷ operand ∷ []) (HeadData.Solve (Some side))
side_read Marriage operand side e = let s = side_given operand side e in record { sound = refl; same = s }
side_read Hospitals operand side e = let s = side_given operand side e in record { sound = refl; same = s }
side_read Roommates operand side e = absurd (none-some side e)

-- with a measure
measure_fields : (name : List ℕ) (by : Measure) → look_up measures name ≡ Some by → fields_of_head (HeadData.Weight by) ≡ codes "weight" ∷ (codes "by=" ++ name) ∷ []
measure_fields name by e = looked_up (λ name by. fields_of_head (HeadData.Weight by) ≡ codes "weight" ∷ (codes "by=" ++ name) ∷ []) measures (refl, (refl, tt)) name by e

measure_read : (kind : Kind) (operand : List ℕ) (by : Measure) → measure_in operand ≡ Some by → IsHeadRead kind (codes "weight" ∷ operand ∷ []) (HeadData.Weight by)
measure_read kind operand by e =
    let c = chained (look_up measures) (behind_word (codes "by=") operand) by e in
    record { sound = tt; same = measure_fields c.from by c.gives ∙ ap (λ t. codes "weight" ∷ t ∷ []) (behind_is (codes "by=") operand c.from c.is) }

-- under the name of the command that was written
named : (kind : Kind) (command name : List ℕ) (more : List (List ℕ)) (head : HeadData) → bytes_eq command name ≡ true → IsHeadRead kind (name ∷ more) head → IsHeadRead kind (command ∷ more) head
named kind command name more head is h = subst (λ c. IsHeadRead kind (c ∷ more) head) (sym (text_same command name is)) h

operand_read : (kind : Kind) (command operand : List ℕ) (head : HeadData) → operand_head_in kind command operand ≡ Some head → IsHeadRead kind (command ∷ operand ∷ []) head
operand_read kind command operand head e =
    by_test_of (bytes_eq command (codes "solve")) _ _ head e
    (λ is e. let m = mapped (λ side. HeadData.Solve (Some side)) (side_in kind operand) head e in
    named kind command (codes "solve") (operand ∷ []) head is (subst (IsHeadRead kind (codes "solve" ∷ operand ∷ [])) m.gives (side_read kind operand m.from m.is)))
    (λ _ e. by_test_of (bytes_eq command (codes "weight")) _ _ head e
    (λ is e. let m = mapped HeadData.Weight (measure_in operand) head e in
    named kind command (codes "weight") (operand ∷ []) head is (subst (IsHeadRead kind (codes "weight" ∷ operand ∷ [])) m.gives (measure_read kind operand m.from m.is)))
    (λ _ e. by_test_of (bytes_eq command (codes "list")) _ _ head e
    (λ is e. let m = mapped (HeadData.List None) (limit_in operand) head e in
    named kind command (codes "list") (operand ∷ []) head is (subst (IsHeadRead kind (codes "list" ∷ operand ∷ [])) m.gives
    (record { sound = (tt, limit_text_inverts.sound operand m.from m.is); same = ap (λ t. codes "list" ∷ t ∷ []) (limit_text_inverts.same operand m.from m.is) })))
    (λ _ e. by_test_of (bytes_eq command (codes "survey")) _ _ head e
    (λ is e. let m = mapped HeadData.Survey (limit_in operand) head e in
    named kind command (codes "survey") (operand ∷ []) head is (subst (IsHeadRead kind (codes "survey" ∷ operand ∷ [])) m.gives
    (record { sound = limit_text_inverts.sound operand m.from m.is; same = ap (λ t. codes "survey" ∷ t ∷ []) (limit_text_inverts.same operand m.from m.is) })))
    (λ _ e. absurd (none-some head e)))))

-- with two operands
list_read : (kind : Kind) (command after limit : List ℕ) (head : HeadData) → list_head_in command after limit ≡ Some head → IsHeadRead kind (command ∷ after ∷ limit ∷ []) head
list_read kind command after limit head e =
    by_test_of (bytes_eq command (codes "list")) _ _ head e
    (λ is e.
    let m = mapped (λ (x : List ℕ × ℕ). HeadData.List (Some x.0) x.1) (option_zip (after_in after) (limit_in limit)) head e in
    let z = zipped (after_in after) (limit_in limit) m.from m.is in
    named kind command (codes "list") (after ∷ limit ∷ []) head is (subst (IsHeadRead kind (codes "list" ∷ after ∷ limit ∷ [])) m.gives
    (record {
      sound = (after_inverts.sound after m.from.0 z.first, limit_text_inverts.sound limit m.from.1 z.second);
      same = ap (λ t. codes "list" ∷ t ∷ limit_text m.from.1 ∷ []) (after_inverts.same after m.from.0 z.first) ∙ ap (λ t. codes "list" ∷ after ∷ t ∷ []) (limit_text_inverts.same limit m.from.1 z.second);
    })))
    (λ _ e. absurd (none-some head e))

head_read : (kind : Kind) (fields : List (List ℕ)) (head : HeadData) → head_in kind fields ≡ Some head → IsHeadRead kind fields head
unfolding head_in
head_read kind [] head e = absurd (none-some head e)
head_read kind (command ∷ []) head e = bare_read kind command head e
head_read kind (command ∷ operand ∷ []) head e = operand_read kind command operand head e
head_read kind (command ∷ after ∷ limit ∷ []) head e = list_read kind command after limit head e
head_read kind (command ∷ a ∷ b ∷ c ∷ more) head e = absurd (none-some head e)

-- a command that every kind has
plain : (kind : Kind) (name : List ℕ) (head : HeadData) → bytes_eq name (codes "solve") ≡ false → look_up bare_heads name ≡ Some head → bare_head_in kind name ≡ Some head
plain Marriage name head other e = e
plain Hospitals name head other e = e
plain Roommates name head other e = ap (λ t. cond t (Some (HeadData.Solve None)) (look_up bare_heads name)) other ∙ e

-- the first line that was written is read again
head_again : (kind : Kind) (head : HeadData) → IsHeadOf kind head → head_in kind (fields_of_head head) ≡ Some head
unfolding head_in
head_again Marriage (HeadData.Solve None) h = absurd cc
head_again Hospitals (HeadData.Solve None) h = absurd cc
head_again Roommates (HeadData.Solve None) h = refl
head_again Marriage (HeadData.Solve (Some Proposers)) h = refl
head_again Hospitals (HeadData.Solve (Some Proposers)) h = refl
head_again Roommates (HeadData.Solve (Some Proposers)) h = absurd cc
head_again Marriage (HeadData.Solve (Some Reviewers)) h = refl
head_again Hospitals (HeadData.Solve (Some Reviewers)) h = refl
head_again Roommates (HeadData.Solve (Some Reviewers)) h = absurd cc
head_again kind HeadData.Reduced h = plain kind (codes "reduced") HeadData.Reduced refl refl
head_again kind HeadData.Rotations h = plain kind (codes "rotations") HeadData.Rotations refl refl
head_again kind HeadData.Pairs h = plain kind (codes "pairs") HeadData.Pairs refl refl
head_again kind (HeadData.List None limit) h = ap (option_map (HeadData.List None)) (limit_text_inverts.again limit h.1)
head_again kind (HeadData.List (Some v) limit) h =
    ap (λ o. option_map (λ x. HeadData.List (Some x.0) x.1) (option_zip o (limit_in (limit_text limit)))) (after_inverts.again v h.0)
    ∙ ap (λ o. option_map (λ x. HeadData.List (Some x.0) x.1) (option_zip (Some v) o)) (limit_text_inverts.again limit h.1)
head_again kind HeadData.Regret h = plain kind (codes "regret") HeadData.Regret refl refl
head_again kind (HeadData.Weight Ranks) h = refl
head_again kind (HeadData.Weight Given) h = refl
head_again kind HeadData.Meet h = plain kind (codes "meet") HeadData.Meet refl refl
head_again kind HeadData.Join h = plain kind (codes "join") HeadData.Join refl refl
head_again kind (HeadData.Survey limit) h = ap (option_map HeadData.Survey) (limit_text_inverts.again limit h)
head_again kind HeadData.Check h = plain kind (codes "check") HeadData.Check refl refl
head_again kind HeadData.Median h = plain kind (codes "median") HeadData.Median refl refl
head_again kind HeadData.Route h = plain kind (codes "route") HeadData.Route refl refl
head_again kind HeadData.Rest h = plain kind (codes "rest") HeadData.Rest refl refl

-- the reader of first lines is inverse to their fields
pub head_inverts : (kind : Kind) → Inverts (IsHeadOf kind) fields_of_head (head_in kind)
head_inverts kind = record { again = head_again kind; sound = λ fields head e. (head_read kind fields head e).sound; same = λ fields head e. (head_read kind fields head e).same }
