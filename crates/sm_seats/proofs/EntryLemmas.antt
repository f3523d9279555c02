-- How many entries the lists of a market have.
use Rattle.std.proofs.Common.{◌≡◌, ℕ, ◌+◌, ◌<◌, ◌≤◌, ◌⊎◌, List, [], length, sym, ap, ◌∙◌, arith, inl, inr}
use Rattle.std.specs.List.{flat_map, sum_by}
use Rattle.std.proofs.lemmas.Bool.{cases_lt}
use Rattle.std.proofs.lemmas.List.Concat.{length-flat_map}
use Rattle.std.proofs.lemmas.List.Folds.{length-flat_map-take}
use Rattle.sm_lists.proofs.Counting.{one_to_one-le}
use Rattle.sm_lists.proofs.PlaceLemmas.{entry-place_of}
use Rattle.sm_market.specs.Lists.{entry, place_of, AreMutual}
use Rattle.sm_market.proofs.PlaceLemmas.{place_of-entry}
use Rattle.sm_seats.proofs.PieceLemmas.{start_of, IsInPiece, in_piece, piece_end}

abbrev whole : List ℕ → List ℕ
whole l = l

-- each entry of one side's lists leads to one of the other side's
module _ {rows others : List (List ℕ)} (m : AreMutual rows others) where
  abbrev Entry : ℕ → Type 0
  Entry j = IsInPiece whole rows [] j

  there : {j : ℕ} → Entry j → ℕ
  there e = start_of whole others (entry rows e.piece e.at) + place_of others (entry rows e.piece e.at) e.piece

  inside : {j : ℕ} (e : Entry j) → there e < length (flat_map whole others)
  unfolding there
  inside e =
      let back = m.returned e.piece e.at e.inside in
      let all = length-flat_map-take whole others (entry rows e.piece e.at) [] (m.in_range e.piece e.at e.inside) in
      omega arith

  apart : {i j : ℕ} (a : Entry i) (b : Entry j) → there a ≡ there b → i ≡ j
  unfolding there
  apart {i} {j} a b same = elim (cases_lt (entry rows a.piece a.at) (entry rows b.piece b.at)) [
    | inl less ↦ absurd (
        let back = m.returned a.piece a.at a.inside in
        let end = piece_end whole others (entry rows a.piece a.at) (entry rows b.piece b.at) [] less (m.in_range a.piece a.at a.inside) in
        omega arith)
    | inr ge ↦ elim (cases_lt (entry rows b.piece b.at) (entry rows a.piece a.at)) [
      | inl less ↦ absurd (
          let back = m.returned b.piece b.at b.inside in
          let end = piece_end whole others (entry rows b.piece b.at) (entry rows a.piece a.at) [] less (m.in_range b.piece b.at b.inside) in
          omega arith)
      | inr le ↦
          let who : entry rows a.piece a.at ≡ entry rows b.piece b.at = omega arith in
          let begin = ap (start_of whole others) who in
          let place : place_of others (entry rows a.piece a.at) a.piece ≡ place_of others (entry rows b.piece b.at) b.piece = omega arith in
          let piece : a.piece ≡ b.piece =
          sym (entry-place_of others (entry rows a.piece a.at) a.piece (m.returned a.piece a.at a.inside))
          ∙ (λ t. entry others (who t) (place t))
          ∙ entry-place_of others (entry rows b.piece b.at) b.piece (m.returned b.piece b.at b.inside) in
          let at : a.at ≡ b.at =
          sym (place_of-entry m a.piece a.at a.inside) ∙ (λ t. place_of rows (piece t) (who t)) ∙ place_of-entry m b.piece b.at b.inside in
          let front = ap (start_of whole rows) piece in
          omega (arith, a.is, b.is)
    ]
  ]

  go : {j : ℕ} → (j < length (flat_map whole rows)) ⊎ (length (flat_map whole rows) ≤ j) → ℕ
  go {j} (inl h) = there (in_piece whole rows [] j h)
  go (inr _) = 0

  go_inside : {j : ℕ} (d : (j < length (flat_map whole rows)) ⊎ (length (flat_map whole rows) ≤ j)) → j < length (flat_map whole rows) → go d < length (flat_map whole others)
  unfolding go
  go_inside {j} (inl h) l = inside (in_piece whole rows [] j h)
  go_inside {j} (inr past) l = absurd (omega arith)

  go_apart : {i j : ℕ} (c : (i < length (flat_map whole rows)) ⊎ (length (flat_map whole rows) ≤ i)) (d : (j < length (flat_map whole rows)) ⊎ (length (flat_map whole rows) ≤ j))
      → i < length (flat_map whole rows) → j < length (flat_map whole rows) → go c ≡ go d → i ≡ j
  unfolding go
  go_apart {i} {j} (inl a) (inl b) l k same = apart (in_piece whole rows [] i a) (in_piece whole rows [] j b) same
  go_apart (inl a) (inr past) l k same = absurd (omega arith)
  go_apart (inr past) _ l k same = absurd (omega arith)

  -- so one side's lists have no more entries than the other's
  pub entries-le : sum_by (λ list. length list) rows ≤ sum_by (λ list. length list) others
  entries-le =
      let n = length (flat_map whole rows) in
      let le = one_to_one-le n (length (flat_map whole others)) (λ j. go (cases_lt j n)) (λ j l. go_inside (cases_lt j n) l)
      (λ i j less l same. let e = go_apart (cases_lt i n) (cases_lt j n) (omega arith) l same in omega arith) in
      omega (arith, length-flat_map whole rows, length-flat_map whole others)
