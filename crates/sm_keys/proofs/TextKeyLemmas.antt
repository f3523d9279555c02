-- Sets whose keys are texts.
use Rattle.std.proofs.Common.{◌≡◌, ℕ, false, cond, List, [], ◌∷◌, ◌++◌, sym, ap, ◌∙◌}
use Rattle.std.specs.List.{list_any}
use Rattle.std.specs.Str.{bytes_eq}
use Rattle.std.proofs.lemmas.List.{map_push}
use Rattle.indexmap.specs.IndexSet.{insert_key}
use Rattle.sm_keys.specs.Keys.{spelled, spellings}
use Rattle.sm_keys.specs.declared.text_key.TextKey.{TextKey}
use Rattle.sm_keys.proofs.PositionLemmas.{list_any-map}

-- keys of one text
module _ (keys : List TextKey) where
  -- a text is among them where it is among the texts that they are
  pub text_among : (text : List ℕ) → list_any (λ (k : TextKey). bytes_eq text (spelled k)) keys ≡ list_any (bytes_eq text) (spellings keys)
  text_among text = sym (list_any-map (bytes_eq text) spelled keys)

  -- one that isn't is inserted behind them
  pub text_put : (key : TextKey) (new : List TextKey) → new ≡ insert_key (λ (a b : TextKey). bytes_eq (spelled a) (spelled b)) keys key
      → list_any (bytes_eq (spelled key)) (spellings keys) ≡ false → new ≡ keys ++ key ∷ []
  text_put key new put absent = put ∙ ap (λ t. cond t keys (keys ++ key ∷ [])) (text_among (spelled key) ∙ absent)

  -- so it stands behind their texts
  pub spellings-put : (key : TextKey) (new : List TextKey) → new ≡ insert_key (λ (a b : TextKey). bytes_eq (spelled a) (spelled b)) keys key
      → list_any (bytes_eq (spelled key)) (spellings keys) ≡ false → spellings new ≡ spellings keys ++ spelled key ∷ []
  spellings-put key new put absent = ap spellings (text_put key new put absent) ∙ map_push spelled keys key
