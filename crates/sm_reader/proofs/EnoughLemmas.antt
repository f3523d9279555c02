-- A line is judged by tokens that are enough of all.
use Rattle.std.proofs.Common.{◌≡◌, ℕ, ◌≤◌, ◌&&◌, ◌||◌, not, Bool, true, false, cond, eqb, List, [], ◌∷◌, ◌++◌, length, take, drop, Option, Some, None, is_some, refl, sym, ap, subst, ◌∙◌, arith}
use Rattle.std.specs.List.{list_any, list_all}
use Rattle.std.specs.Option.{option_or}
use Rattle.std.specs.Str.{bytes_eq}
use Rattle.std.proofs.lemmas.Bool.{false≢true}
use Rattle.std.proofs.lemmas.List.{take-append-drop, length-take-le, length-drop}
use Rattle.std.specs.Prelude.{codes}
use Rattle.sm_text.specs.Name.{is_name}
use Rattle.sm_text.specs.Tokens.{begins_run}
use Rattle.sm_text.specs.declared.refusal.RefusalKind.{RefusalKind}
use Rattle.sm_text.specs.declared.refusal.RefusalKind.TheVariants.{BadByte, BadHeader, BadName, BadNumber, Redeclared, RepeatedEntry}
use Rattle.sm_agents.specs.declared.kinds.Kind.{Kind}
use Rattle.sm_agents.specs.declared.kinds.Kind.TheVariants.{Marriage, Hospitals, Roommates}
use Rattle.sm_agents.specs.declared.kinds.Side.{Side}
use Rattle.sm_agents.specs.declared.kinds.Side.TheVariants.{Proposers, Reviewers}
use Rattle.sm_agents.specs.Sound.{is_single}
use Rattle.sm_agents.specs.Named.{Said, names_of, master_names, agents_on, all_entries}
use Rattle.sm_keys.specs.Tables.{has_repeated}
use Rattle.sm_keys.specs.Tokens.{is_bad}
use Rattle.sm_keys.specs.Enough.{AreEnough, first_tokens}
use Rattle.sm_keys.proofs.EnoughLemmas.{enough_any}
use Rattle.sm_forms.specs.Forms.{Form, declares, shares, orders, list_form, capacity_form, weight_form, pair_form, reviewer_form, two_sided_form, form_behind, is_end, header_of, is_colon, master_form, use_form, capacity_use_form, reviewer_use_form, order_form, second_form, two_sided_added_form, added_form, form_under}
use Rattle.sm_agents.specs.Kinds.{has_two_sides}
use Rattle.sm_reader.specs.Judging.{first_fault, entry_rows, limit_rows, is_bad_capacity, refuses, faces, fault_of, of_form, verdict_on, heading_of}
use Rattle.sm_reader.proofs.JudgeLemmas.{by_fault}

or_true : (b : Bool) → (b || true) ≡ true
or_true true = refl
or_true false = refl

-- lists on which a name comes twice, and of which all are names or runs where those of the other are
record AreAlike (x y : List (List ℕ)) : Type 0 where
  names : list_all is_name x ≡ list_all is_name y
  runs : list_all begins_run x ≡ list_all begins_run y
  twice : has_repeated x ≡ true
  again : has_repeated y ≡ true

-- so it is with the same token before both
alike_behind : (t : List ℕ) (x y : List (List ℕ)) → AreAlike x y → AreAlike (t ∷ x) (t ∷ y)
alike_behind t x y h = record {
  names = ap (λ b. is_name t && b) h.names;
  runs = ap (λ b. begins_run t && b) h.runs;
  twice = ap (λ b. list_any (bytes_eq t) x || b) h.twice ∙ or_true (list_any (bytes_eq t) x);
  again = ap (λ b. list_any (bytes_eq t) y || b) h.again ∙ or_true (list_any (bytes_eq t) y);
}

-- what stands behind the row of a repeated name doesn't count
abbrev Rows : Type 0
Rows = List (Bool × RefusalKind)

rows_alike : (front p q : Rows) → first_fault (front ++ (true, RepeatedEntry) ∷ p) ≡ first_fault (front ++ (true, RepeatedEntry) ∷ q)
rows_alike [] p q = refl
rows_alike (row ∷ front) p q = ap (λ o. cond row.0 (Some row.1) o) (rows_alike front p q)

-- and there is a fault
rows_some : (front p : Rows) → is_some (first_fault (front ++ (true, RepeatedEntry) ∷ p)) ≡ true
rows_some [] p = refl
rows_some (row ∷ front) p = by_test row.0 (rows_some front p)
  where
    by_test : (t : Bool) → is_some (first_fault (front ++ (true, RepeatedEntry) ∷ p)) ≡ true → is_some (cond t (Some row.1) (first_fault (front ++ (true, RepeatedEntry) ∷ p))) ≡ true
    by_test true h = refl
    by_test false h = h

-- the fault of a list whose names come first in its table, and then some rows, and then a name that comes twice
abbrev fault_by : (named : Bool → Bool) → Rows → (names repeated : Bool) → Rows → Option RefusalKind
fault_by named middle names repeated more = first_fault ((not (named names), BadName) ∷ (middle ++ (repeated, RepeatedEntry) ∷ more))

module _ (x y : List (List ℕ)) (alike : AreAlike x y) (named : Bool → Bool) (middle p q : Rows) where
  faults_alike : fault_by named middle (list_all is_name x) (has_repeated x) p ≡ fault_by named middle (list_all is_name y) (has_repeated y) q
  faults_alike =
      ap (λ n. fault_by named middle n (has_repeated x) p) alike.names
      ∙ ap (λ r. fault_by named middle (list_all is_name y) r p) alike.twice
      ∙ rows_alike ((not (named (list_all is_name y)), BadName) ∷ middle) p q
      ∙ ap (λ r. fault_by named middle (list_all is_name y) r q) (sym alike.again)

  faults_some : is_some (fault_by named middle (list_all is_name x) (has_repeated x) p) ≡ true
  faults_some =
      ap (λ r. is_some (fault_by named middle (list_all is_name x) r p)) alike.twice ∙ rows_some ((not (named (list_all is_name x)), BadName) ∷ middle) p

module _ (said : Said) (line : ℕ) where
  -- forms with the same fault, of which there is one, are judged alike
  judged_alike : (f g : Form) → fault_of said f ≡ fault_of said g → is_some (fault_of said f) ≡ true → of_form said line (Some f) ≡ of_form said line (Some g)
  judged_alike f g same some = by_fault_of (fault_of said f) refl some
    where
      by_fault_of : (o : Option RefusalKind) → fault_of said f ≡ o → is_some o ≡ true → of_form said line (Some f) ≡ of_form said line (Some g)
      by_fault_of None e h = absurd (false≢true h)
      by_fault_of (Some kind) e h = by_fault said line f kind e ∙ sym (by_fault said line g kind (sym same ∙ e))

  declared_alike : (side : Side) (name : List ℕ) (capacity : Option (List ℕ)) (x y : List (List ℕ)) → AreAlike x y
      → of_form said line (Some (declares side name capacity x)) ≡ of_form said line (Some (declares side name capacity y))
  unfolding fault_of
  declared_alike side name capacity x y alike =
      let middle : Rows = (is_bad_capacity capacity, BadNumber) ∷ (list_any (bytes_eq name) (names_of (agents_on side said)), Redeclared) ∷ [] in
      let more = λ (es : List (List ℕ)). limit_rows (length (agents_on side said)) (all_entries said) (length es) in
      judged_alike (declares side name capacity x) (declares side name capacity y)
      (faults_alike x y alike (λ n. is_name name && n) middle (more x) (more y)) (faults_some x y alike (λ n. is_name name && n) middle (more x) (more y))

  shared_alike : (name : List ℕ) (x y : List (List ℕ)) → AreAlike x y → of_form said line (Some (shares name x)) ≡ of_form said line (Some (shares name y))
  unfolding fault_of
  shared_alike name x y alike =
      let middle : Rows = (false, BadNumber) ∷ (list_any (bytes_eq name) (master_names said.masters), Redeclared) ∷ [] in
      let more = λ (es : List (List ℕ)). entry_rows (all_entries said) (length es) in
      judged_alike (shares name x) (shares name y)
      (faults_alike x y alike (λ n. is_name name && n) middle (more x) (more y)) (faults_some x y alike (λ n. is_name name && n) middle (more x) (more y))

  ordered_alike : (x y : List (List ℕ)) → AreAlike x y → of_form said line (Some (orders x)) ≡ of_form said line (Some (orders y))
  unfolding fault_of
  ordered_alike x y alike =
      let middle : Rows = (is_some said.order, Redeclared) ∷ [] in
      judged_alike (orders x) (orders y) (faults_alike x y alike (λ n. n) middle [] []) (faults_some x y alike (λ n. n) middle [] [])

  -- both are forms or neither is, and they are judged alike
  record LikeForms (a b : Option Form) : Type 0 where
    both : is_some a ≡ is_some b
    judged : of_form said line a ≡ of_form said line b

  like_itself : (a : Option Form) → LikeForms a a
  like_itself a = record { both = refl; judged = refl }

  like_test : (t u : Bool) (f g : Form) → t ≡ u → of_form said line (Some f) ≡ of_form said line (Some g) → LikeForms (cond t (Some f) None) (cond u (Some g) None)
  like_test t u f g e h = subst (λ v. LikeForms (cond t (Some f) None) (cond v (Some g) None)) e (by_test t)
    where
      by_test : (t : Bool) → LikeForms (cond t (Some f) None) (cond t (Some g) None)
      by_test true = record { both = refl; judged = h }
      by_test false = record { both = refl; judged = refl }

  like_cond : (t : Bool) (a b d e : Option Form) → LikeForms a b → LikeForms d e → LikeForms (cond t a d) (cond t b e)
  like_cond true a b d e h k = h
  like_cond false a b d e h k = k

  like_or : (a b d e : Option Form) → LikeForms a b → LikeForms d e → LikeForms (option_or a d) (option_or b e)
  like_or None None d e h k = k
  like_or (Some f) (Some g) d e h k = h
  like_or None (Some g) d e h k = absurd (false≢true h.both)
  like_or (Some f) None d e h k = absurd (false≢true (sym h.both))

  -- lines with so many tokens have a list if they have a form
  module _ (a b d e f g h i j : List ℕ) (x y : List (List ℕ)) (alike : AreAlike x y) where
    -- the lists of such a line
    alike_6 : AreAlike (g ∷ h ∷ i ∷ j ∷ x) (g ∷ h ∷ i ∷ j ∷ y)
    alike_6 = alike_behind g _ _ (alike_behind h _ _ (alike_behind i _ _ (alike_behind j x y alike)))

    alike_3 : AreAlike (d ∷ e ∷ f ∷ g ∷ h ∷ i ∷ j ∷ x) (d ∷ e ∷ f ∷ g ∷ h ∷ i ∷ j ∷ y)
    alike_3 = alike_behind d _ _ (alike_behind e _ _ (alike_behind f _ _ alike_6))

    alike_1 : AreAlike (a ∷ b ∷ d ∷ e ∷ f ∷ g ∷ h ∷ i ∷ j ∷ x) (a ∷ b ∷ d ∷ e ∷ f ∷ g ∷ h ∷ i ∷ j ∷ y)
    alike_1 = alike_behind a _ _ (alike_behind b _ _ alike_3)

    like_list : (side : Side) → LikeForms (list_form side (a ∷ b ∷ d ∷ e ∷ f ∷ g ∷ h ∷ i ∷ j ∷ x)) (list_form side (a ∷ b ∷ d ∷ e ∷ f ∷ g ∷ h ∷ i ∷ j ∷ y))
    unfolding list_form
    like_list side = like_test _ _ _ _ (ap (λ t. begins_run a && is_colon b && t) alike_3.runs) (declared_alike side a None _ _ alike_3)

    like_capacity : LikeForms (capacity_form (a ∷ b ∷ d ∷ e ∷ f ∷ g ∷ h ∷ i ∷ j ∷ x)) (capacity_form (a ∷ b ∷ d ∷ e ∷ f ∷ g ∷ h ∷ i ∷ j ∷ y))
    unfolding capacity_form
    like_capacity =
        like_test _ _ _ _ (ap (λ t. begins_run a && bytes_eq b (codes "[") && begins_run d && bytes_eq e (codes "]") && is_colon f && t) alike_6.runs) (declared_alike Reviewers a (Some d) _ _ alike_6)

    like_master : LikeForms (master_form (a ∷ b ∷ d ∷ e ∷ f ∷ g ∷ h ∷ i ∷ j ∷ x)) (master_form (a ∷ b ∷ d ∷ e ∷ f ∷ g ∷ h ∷ i ∷ j ∷ y))
    unfolding master_form
    like_master = like_test _ _ _ _ (ap (λ t. begins_run a && is_colon b && t) alike_3.runs) (shared_alike a _ _ alike_3)

    like_order : LikeForms (order_form (a ∷ b ∷ d ∷ e ∷ f ∷ g ∷ h ∷ i ∷ j ∷ x)) (order_form (a ∷ b ∷ d ∷ e ∷ f ∷ g ∷ h ∷ i ∷ j ∷ y))
    unfolding order_form
    like_order = like_test _ _ _ _ alike_1.runs (ordered_alike _ _ alike_1)

    like_reviewer : (kind : Kind) → LikeForms (reviewer_form kind (a ∷ b ∷ d ∷ e ∷ f ∷ g ∷ h ∷ i ∷ j ∷ x)) (reviewer_form kind (a ∷ b ∷ d ∷ e ∷ f ∷ g ∷ h ∷ i ∷ j ∷ y))
    unfolding reviewer_form
    like_reviewer kind = like_cond (is_single kind) _ _ _ _ (like_list Reviewers) (like_or _ _ _ _ (like_list Reviewers) like_capacity)

    like_two_sided : (kind : Kind) (word : List ℕ) → LikeForms (two_sided_form kind word (a ∷ b ∷ d ∷ e ∷ f ∷ g ∷ h ∷ i ∷ j ∷ x)) (two_sided_form kind word (a ∷ b ∷ d ∷ e ∷ f ∷ g ∷ h ∷ i ∷ j ∷ y))
    unfolding two_sided_form weight_form pair_form
    like_two_sided kind word = like_cond (bytes_eq word (codes "r")) _ _ _ _ (like_reviewer kind) (like_itself _)

    like_format_1 : (kind : Kind) (word : List ℕ) → LikeForms (form_behind kind word (a ∷ b ∷ d ∷ e ∷ f ∷ g ∷ h ∷ i ∷ j ∷ x)) (form_behind kind word (a ∷ b ∷ d ∷ e ∷ f ∷ g ∷ h ∷ i ∷ j ∷ y))
    unfolding form_behind
    like_format_1 Roommates word = like_cond (bytes_eq word (codes "p")) _ _ _ _ (like_list Proposers) (like_itself None)
    like_format_1 Marriage word = like_cond (bytes_eq word (codes "p")) _ _ _ _ (like_list Proposers) (like_two_sided Marriage word)
    like_format_1 Hospitals word = like_cond (bytes_eq word (codes "p")) _ _ _ _ (like_list Proposers) (like_two_sided Hospitals word)

    like_two_sided_added : (kind : Kind) (word : List ℕ) → LikeForms (two_sided_added_form kind word (a ∷ b ∷ d ∷ e ∷ f ∷ g ∷ h ∷ i ∷ j ∷ x)) (two_sided_added_form kind word (a ∷ b ∷ d ∷ e ∷ f ∷ g ∷ h ∷ i ∷ j ∷ y))
    unfolding two_sided_added_form reviewer_use_form use_form capacity_use_form second_form
    like_two_sided_added kind word = like_cond (bytes_eq word (codes "r")) _ _ _ _ (like_itself _) (like_cond (bytes_eq word (codes "order")) _ _ _ _ like_order (like_itself _))

    like_added : (kind : Kind) (word : List ℕ) → LikeForms (added_form kind word (a ∷ b ∷ d ∷ e ∷ f ∷ g ∷ h ∷ i ∷ j ∷ x)) (added_form kind word (a ∷ b ∷ d ∷ e ∷ f ∷ g ∷ h ∷ i ∷ j ∷ y))
    unfolding added_form use_form
    like_added kind word =
        like_cond (bytes_eq word (codes "p")) _ _ _ _ (like_itself None)
        (like_cond (bytes_eq word (codes "master")) _ _ _ _ like_master (like_cond (has_two_sides kind) _ _ _ _ (like_two_sided_added kind word) (like_itself None)))

    like_under : (kind : Kind) (format : ℕ) (word : List ℕ) → LikeForms (form_under kind format word (a ∷ b ∷ d ∷ e ∷ f ∷ g ∷ h ∷ i ∷ j ∷ x)) (form_under kind format word (a ∷ b ∷ d ∷ e ∷ f ∷ g ∷ h ∷ i ∷ j ∷ y))
    unfolding form_under
    like_under kind format word = like_cond (eqb format 2) _ _ _ _ (like_or _ _ _ _ (like_format_1 kind word) (like_added kind word)) (like_format_1 kind word)

-- the verdict on so many first tokens and others, of which only that counts in which they are alike
module _ (kind : Kind) (format : ℕ) (said : Said) (line : ℕ) where
  verdict_alike : (front x y : List (List ℕ)) → length front ≡ first_tokens → AreAlike x y → list_any is_bad (front ++ x) ≡ list_any is_bad (front ++ y)
      → verdict_on kind format said line (front ++ x) ≡ verdict_on kind format said line (front ++ y)
  unfolding verdict_on is_end
  verdict_alike (w ∷ a ∷ b ∷ d ∷ e ∷ f ∷ g ∷ h ∷ i ∷ j ∷ []) x y long alike bad =
      let all = λ (more : List (List ℕ)). w ∷ a ∷ b ∷ d ∷ e ∷ f ∷ g ∷ h ∷ i ∷ j ∷ more in
      let under = λ (more : List (List ℕ)). form_under kind format w (a ∷ b ∷ d ∷ e ∷ f ∷ g ∷ h ∷ i ∷ j ∷ more) in
      ap (λ t. cond t (refuses BadByte) (of_form said line (under x))) bad
      ∙ ap (λ v. cond (list_any is_bad (all y)) (refuses BadByte) v) (like_under said line a b d e f g h i j x y alike kind format w).judged
  verdict_alike (w ∷ a ∷ b ∷ d ∷ e ∷ f ∷ g ∷ h ∷ i ∷ j ∷ k ∷ more) x y long alike bad = absurd (omega arith)
  verdict_alike [] x y long alike bad = absurd (omega arith)
  verdict_alike (w ∷ []) x y long alike bad = absurd (omega arith)
  verdict_alike (w ∷ a ∷ []) x y long alike bad = absurd (omega arith)
  verdict_alike (w ∷ a ∷ b ∷ []) x y long alike bad = absurd (omega arith)
  verdict_alike (w ∷ a ∷ b ∷ d ∷ []) x y long alike bad = absurd (omega arith)
  verdict_alike (w ∷ a ∷ b ∷ d ∷ e ∷ []) x y long alike bad = absurd (omega arith)
  verdict_alike (w ∷ a ∷ b ∷ d ∷ e ∷ f ∷ []) x y long alike bad = absurd (omega arith)
  verdict_alike (w ∷ a ∷ b ∷ d ∷ e ∷ f ∷ g ∷ []) x y long alike bad = absurd (omega arith)
  verdict_alike (w ∷ a ∷ b ∷ d ∷ e ∷ f ∷ g ∷ h ∷ []) x y long alike bad = absurd (omega arith)
  verdict_alike (w ∷ a ∷ b ∷ d ∷ e ∷ f ∷ g ∷ h ∷ i ∷ []) x y long alike bad = absurd (omega arith)

-- a line of so many tokens is no header
heading_alike : (front x y : List (List ℕ)) → length front ≡ first_tokens → list_any is_bad (front ++ x) ≡ list_any is_bad (front ++ y) → heading_of (front ++ x) ≡ heading_of (front ++ y)
unfolding heading_of header_of
heading_alike (w ∷ a ∷ b ∷ d ∷ more) x y long bad = ap (λ t. cond t (faces BadByte) (faces BadHeader)) bad
heading_alike [] x y long bad = absurd (omega arith)
heading_alike (w ∷ []) x y long bad = absurd (omega arith)
heading_alike (w ∷ a ∷ []) x y long bad = absurd (omega arith)
heading_alike (w ∷ a ∷ b ∷ []) x y long bad = absurd (omega arith)

-- tokens that are enough of all are all, or the first of them stand before others that are alike
module _ (kept all : List (List ℕ)) (enough : AreEnough kept all) where
  abbrev front : List (List ℕ)
  front = take first_tokens all

  kept_parts : kept ≡ front ++ drop first_tokens kept
  kept_parts = sym (take-append-drop first_tokens kept) ∙ ap (λ ts. ts ++ drop first_tokens kept) enough.first

  all_parts : all ≡ front ++ drop first_tokens all
  all_parts = sym (take-append-drop first_tokens all)

  bad_parts : list_any is_bad (front ++ drop first_tokens kept) ≡ list_any is_bad (front ++ drop first_tokens all)
  bad_parts = ap (list_any is_bad) (sym kept_parts) ∙ enough_any is_bad kept all enough ∙ ap (list_any is_bad) all_parts

  long : has_repeated (drop first_tokens all) ≡ true → length front ≡ first_tokens
  long h = length-take-le first_tokens all (some (drop first_tokens all) refl h)
    where
      some : (ts : List (List ℕ)) → drop first_tokens all ≡ ts → has_repeated ts ≡ true → first_tokens ≤ length all
      some [] e h = absurd (false≢true h)
      some (t ∷ ts) e h = omega (arith, length-drop first_tokens all, ap length e)

  parts_alike : has_repeated (drop first_tokens kept) ≡ true → AreAlike (drop first_tokens kept) (drop first_tokens all)
  parts_alike h = record { names = enough.tests is_name; runs = enough.tests begins_run; twice = h; again = sym enough.repeated ∙ h }

  -- so the verdict is the same
  pub verdict_enough : (kind : Kind) (format : ℕ) (said : Said) (line : ℕ) → verdict_on kind format said line kept ≡ verdict_on kind format said line all
  verdict_enough kind format said line = by_test (has_repeated (drop first_tokens kept)) refl
    where
      by_test : (t : Bool) → has_repeated (drop first_tokens kept) ≡ t → verdict_on kind format said line kept ≡ verdict_on kind format said line all
      by_test false h = ap (verdict_on kind format said line) (enough.whole h)
      by_test true h =
          ap (verdict_on kind format said line) kept_parts
          ∙ verdict_alike kind format said line front (drop first_tokens kept) (drop first_tokens all) (long (sym enough.repeated ∙ h)) (parts_alike h) bad_parts
          ∙ ap (verdict_on kind format said line) (sym all_parts)

  -- and so is the heading
  pub heading_enough : heading_of kept ≡ heading_of all
  heading_enough = by_test (has_repeated (drop first_tokens kept)) refl
    where
      by_test : (t : Bool) → has_repeated (drop first_tokens kept) ≡ t → heading_of kept ≡ heading_of all
      by_test false h = ap heading_of (enough.whole h)
      by_test true h =
          ap heading_of kept_parts ∙ heading_alike front (drop first_tokens kept) (drop first_tokens all) (long (sym enough.repeated ∙ h)) bad_parts
          ∙ ap heading_of (sym all_parts)
