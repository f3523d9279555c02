-- Sections of a printed instance: lines of one form, one after another.
use Rattle.std.proofs.Common.{◌≡◌, ℕ, ◌+◌, List, [], ◌∷◌, ◌++◌, length, map, refl, sym, ap, ◌∙◌, arith, append_assoc, append-nil, length-append, All, true}
use Rattle.std.specs.List.{list_all}
use Rattle.std.proofs.lemmas.List.{map-append}
use Rattle.std.proofs.lemmas.List.Elements.{All-head, All-tail}
use Rattle.std.proofs.lemmas.Bool.{and_from}
use Rattle.sm_text.specs.Lines.{LF, content}
use Rattle.sm_text.specs.Tokens.{tokens}
use Rattle.sm_agents.specs.declared.kinds.Kind.{Kind}
use Rattle.sm_agents.specs.Named.{Said}
use Rattle.sm_answer.specs.Writing.{text_of}
use Rattle.sm_report.proofs.FreeLemmas.{is_free}
use Rattle.sm_reader.specs.Judging.{goes, verdict_on}
use Rattle.sm_reader.specs.InstanceText.{behind_header}
use Rattle.sm_law_reprint.proofs.CutLemmas.{with_end, content_of}
use Rattle.sm_law_reprint.proofs.LineLemmas.{HasNoEnds}

-- items with the numbers of their lines, of which the first is given
abbrev pub lined : {X : Type 0} → (ℕ → X → X) → ℕ → List X → List X
lined f n [] = []
lined f n (x ∷ xs) = f n x ∷ lined f (n + 1) xs

-- a line that goes on
pub one_read : (kind : Kind) (format header : ℕ) (said more : Said) (n place : ℕ) (line : List ℕ) (rest : List (List ℕ)) → verdict_on kind format said n (tokens (content (with_end line))) ≡ goes more
    → behind_header kind format header said n place (with_end line ∷ rest) ≡ behind_header kind format header more (n + 1) (place + length (with_end line)) rest
one_read kind format header said more n place line rest e = rw e refl

same_reading : (kind : Kind) (format header : ℕ) {said more : Said} {n m place there : ℕ} (rest : List (List ℕ)) → said ≡ more → n ≡ m → place ≡ there
    → behind_header kind format header said n place rest ≡ behind_header kind format header more m there rest
same_reading kind format header rest a b c = cc

-- a section is read where each of its lines goes on: what is said so far and what is left are good together
module _ {X : Type 0} (kind : Kind) (format header : ℕ) (line : X → List ℕ) (f : ℕ → X → X) (state : List X → Said) (Good : List X → List X → Type 0)
    (step : (done : List X) (x : X) (todo : List X) (n : ℕ) → Good done (x ∷ todo) → verdict_on kind format (state done) n (tokens (line x)) ≡ goes (state (done ++ f n x ∷ [])))
    (next : (done : List X) (x : X) (todo : List X) (n : ℕ) → Good done (x ∷ todo) → Good (done ++ f n x ∷ []) todo)
    (free : (done : List X) (x : X) (todo : List X) → Good done (x ∷ todo) → HasNoEnds (line x)) where
  each_read : (rest : List (List ℕ)) (todo done : List X) (n place : ℕ) → Good done todo
      → behind_header kind format header (state done) n place (map with_end (map line todo) ++ rest)
      ≡ behind_header kind format header (state (done ++ lined f n todo)) (n + length todo) (place + length (text_of (map line todo))) rest
  each_read rest [] done n place good = same_reading kind format header rest (ap state (sym (append-nil done))) (omega arith) (omega arith)
  each_read rest (x ∷ todo) done n place good =
      let others = map with_end (map line todo) ++ rest in
      let here = ap (λ t. verdict_on kind format (state done) n (tokens t)) (content_of (line x) (free done x todo good).of_CR) ∙ step done x todo n good in
      one_read kind format header (state done) (state (done ++ f n x ∷ [])) n place (line x) others here
      ∙ each_read rest todo (done ++ f n x ∷ []) (n + 1) (place + length (with_end (line x))) (next done x todo n good)
      ∙ same_reading kind format header rest (ap state (append_assoc done (f n x ∷ []) (lined f (n + 1) todo))) (omega arith)
      (omega (arith, length-append (with_end (line x)) (text_of (map line todo))))

  -- behind a section the lines of the rest are read, with all of its items said
  pub section_read : (rest : List (List ℕ)) (items : List X) (n place : ℕ) → Good [] items
      → behind_header kind format header (state []) n place (map with_end (map line items ++ rest))
      ≡ behind_header kind format header (state (lined f n items)) (n + length items) (place + length (text_of (map line items))) (map with_end rest)
  section_read rest items n place good =
      ap (behind_header kind format header (state []) n place) (map-append with_end (map line items) rest) ∙ each_read (map with_end rest) items [] n place good

-- no line of a section holds an end of a line
pub section_free : {X : Type 0} (P : X → Type 0) (line : X → List ℕ) → ((x : X) → P x → HasNoEnds (line x)) → (xs : List X) → All P xs → list_all (is_free LF) (map line xs) ≡ true
section_free P line free [] all = refl
section_free P line free (x ∷ xs) all =
    and_from (is_free LF (line x)) (list_all (is_free LF) (map line xs)) (free x (All-head P x xs all)).of_LF (section_free P line free xs (All-tail P x xs all))
