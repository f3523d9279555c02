-- Reordered lines are the same ones.
use Rattle.std.proofs.Common.{◌≡◌, ℕ, arith, slice_index, slice_index_or, refl, sym, ap, ◌∙◌, true, List, [], ◌∷◌, map, None, IsPermutation}
use Rattle.std.specs.List.{cons_option}
use Rattle.std.proofs.lemmas.Bool.{false≢true}
use Rattle.std.proofs.lemmas.List.Sorted.{IsPermutation-refl, IsPermutation-cons, IsPermutation-middle, IsPermutation-trans}
use Rattle.sm_report.specs.Lines.{LineData}
use Rattle.sm_report.specs.declared.keywords.Keyword.{Keyword}
use Rattle.sm_report.specs.Keywords.{keyword_of}
use Rattle.sm_check_clauses.specs.Said.{vector_in, vectors_in}
use Rattle.sm_law_yes.specs.Reordered.{is_free, IsReordered, ReorderedIsPermuted}
use Rattle.sm_law_yes.specs.Reordered.IsReordered.{none, kept, exchanged, both}
use Rattle.sm_law_yes.specs.Witnesses.{PairsAndVectors}

permuted : {lines others : List LineData} → IsReordered lines others → IsPermutation lines others
permuted none = IsPermutation-refl []
permuted (kept {lines} {others} x r) = IsPermutation-cons x lines others (permuted r)
permuted (exchanged x y lines e f) = IsPermutation-middle (x ∷ []) y lines
permuted (both {lines} {middle} {others} r s) = IsPermutation-trans lines middle others (permuted r) (permuted s)

keywords_stay : {lines others : List LineData} → IsReordered lines others → map keyword_of lines ≡ map keyword_of others
keywords_stay none = refl
keywords_stay (kept x r) = ap (λ (words : List Keyword). keyword_of x ∷ words) (keywords_stay r)
keywords_stay (exchanged x y lines e f) =
    ap (λ (word : Keyword). word ∷ keyword_of y ∷ map keyword_of lines) e ∙ ap (λ (word : Keyword). keyword_of y ∷ word ∷ map keyword_of lines) (sym e)
keywords_stay (both r s) = keywords_stay r ∙ keywords_stay s

-- the law of reordered lines
pub reordered_is_permuted : ReorderedIsPermuted
reordered_is_permuted lines others r = (permuted r, keywords_stay r)

no_vector : (x : LineData) → is_free (keyword_of x) ≡ true → vector_in x ≡ None
no_vector (LineData.Vector v) f = absurd (false≢true f)
no_vector _ f = refl

vectors_stay : {lines others : List LineData} → IsReordered lines others → vectors_in lines ≡ vectors_in others
vectors_stay none = refl
vectors_stay (kept x r) = ap (cons_option (vector_in x)) (vectors_stay r)
vectors_stay (exchanged x y lines e f) = rw (no_vector x f, no_vector y (ap is_free (sym e) ∙ f)) refl
vectors_stay (both r s) = vectors_stay r ∙ vectors_stay s

-- two pairs in either order, and two vectors
pub pairs_and_vectors : PairsAndVectors
pairs_and_vectors = (exchanged (LineData.Pair 0 1) (LineData.Pair 1 0) (LineData.End ∷ []) refl refl, λ r. absurd (other (vectors_stay r)))
  where
    other : ◌≡◌ {A = List (List ℕ)} ((1 ∷ []) ∷ (2 ∷ []) ∷ []) ((2 ∷ []) ∷ (1 ∷ []) ∷ []) → ⊥
    other e = absurd (let first = ap (λ (vs : List (List ℕ)). slice_index (slice_index_or vs 0 []) 0) e in omega (arith, first))
