-- What is noted, round by round.
use Rattle.std.proofs.Common.{◌≡◌, ◌≢◌, ℕ, ◌+◌, ◌<◌, ◌≤◌, if◌then◌else◌, List, [], ◌∷◌, Option, Some, None, length, get_or, map, set, replicate, zero, suc, refl, sym, ap, ◌∙◌, arith}
use Rattle.std.proofs.lemmas.Bool.{eq-eqb, ne_eqb}
use Rattle.std.proofs.lemmas.List.{get_or-map, map-set}
use Rattle.sm_lists.specs.Kept.{no_note, noted_in, noted_of, first_noted}
use Rattle.sm_lists.specs.declared.notes.Note.{Note}

-- a note of another round says nothing, and one of this round its place
pub noted_in-other : (round : ℕ) (note : Note) → note.stamp ≢ round → let none : Option ℕ = None in noted_in round note ≡ none
noted_in-other round note ne = ap (λ t. if t then Some note.place else None) (ne_eqb note.stamp round ne)

noted_in-same : (round place : ℕ) → noted_in round (record { stamp = round; place = place }) ≡ Some place
noted_in-same round place = ap (λ t. if t then Some place else None) (eq-eqb round round refl)

-- where all notes are of earlier rounds nothing is noted
pub map-noted_in_earlier : (round : ℕ) (notes : List Note) → ((a : ℕ) → (get_or notes a no_note).stamp ≤ round) → map (noted_in (round + 1)) notes ≡ replicate (length notes) None
map-noted_in_earlier round [] h = refl
map-noted_in_earlier round (note ∷ notes) h =
    let none : noted_in (round + 1) note ≡ None = noted_in-other (round + 1) note (λ e. let le = h 0 in omega arith) in
    let rest : map (noted_in (round + 1)) notes ≡ replicate (length notes) None = map-noted_in_earlier round notes (λ a. h (suc a)) in
    ap (λ x. x ∷ map (noted_in (round + 1)) notes) none ∙ ap (λ xs. None ∷ xs) rest

-- a place is noted for an agent that has none
pub map-noted_in_set : (round a place : ℕ) (notes : List Note) (d : Note) → a < length notes → (get_or notes a d).stamp ≢ round
    → map (noted_in round) (set notes a (record { stamp = round; place = place })) ≡ first_noted (noted_of (map (noted_in round) notes) a) (map (noted_in round) notes) a place
map-noted_in_set round a place notes d lt other =
    let places : List (Option ℕ) = map (noted_in round) notes in
    let none : noted_of places a ≡ None = get_or-map (noted_in round) notes a d None lt ∙ noted_in-other round (get_or notes a d) other in
    map-set (noted_in round) notes a (record { stamp = round; place = place }) ∙ ap (set places a) (noted_in-same round place) ∙ ap (λ o. first_noted o places a place) (sym none)

-- where no note is of the round nothing is noted
pub map-noted_in_replicate : (round n : ℕ) (note : Note) → note.stamp ≢ round → map (noted_in round) (replicate n note) ≡ replicate n None
map-noted_in_replicate round zero note other = refl
map-noted_in_replicate round (suc n) note other =
    ap (λ x. x ∷ map (noted_in round) (replicate n note)) (noted_in-other round note other) ∙ ap (λ xs. None ∷ xs) (map-noted_in_replicate round n note other)
