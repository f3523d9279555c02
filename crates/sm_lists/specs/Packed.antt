-- Lists of which each stands between two places of all items, with room behind it.
use Rattle.std.specs.Prelude.{◌≡◌, ◌≢◌, ℕ, ◌-◌, ◌<◌, ◌≤◌, ◌⊎◌, List, length, map, take, drop, slice_index_or}
use Rattle.sm_lists.specs.declared.packed.Slot.{Slot}
use Rattle.sm_lists.specs.declared.span.Span.{Span}

-- what stands for a slot past the last
abbrev pub no_slot : Slot
no_slot = record { start = 0; end = 0; limit = 0 }

-- how many items a list has
abbrev pub filled_in : Slot → ℕ
filled_in slot = slot.end - slot.start

-- the items of a list
abbrev pub packed_list : {T : Type 0} → List T → Slot → List T
packed_list items slot = take (filled_in slot) (drop slot.start items)

-- all lists
abbrev pub packed_lists : {T : Type 0} → List T → List Slot → List (List T)
packed_lists items slots = map (packed_list items) slots

-- the slot of a list whose items are taken off
abbrev pub emptied : Slot → Slot
emptied slot = record { start = slot.start; end = slot.start; limit = slot.limit }

-- where the list of a slot stands
abbrev pub span_of : Slot → Span
span_of slot = record { start = slot.start; end = slot.end }

-- no item is in both slots
abbrev pub AreApart : Slot → Slot → Type 0
AreApart one other = (one.limit ≤ other.start) ⊎ (other.limit ≤ one.start)

-- each list ends where its slot does, or before that, each slot is among so many items, and no two slots share one
pub record AreSlots (count : ℕ) (slots : List Slot) : Type 0 where
  pub ordered : (a : ℕ) → (slice_index_or slots a no_slot).start ≤ (slice_index_or slots a no_slot).end
  pub filled : (a : ℕ) → (slice_index_or slots a no_slot).end ≤ (slice_index_or slots a no_slot).limit
  pub within : (a : ℕ) → (slice_index_or slots a no_slot).limit ≤ count
  pub apart : (a b : ℕ) → a ≢ b → AreApart (slice_index_or slots a no_slot) (slice_index_or slots b no_slot)

-- slots for lists of these lengths, all full, up to so many items
pub record AreFull (lengths : List ℕ) (count : ℕ) (slots : List Slot) : Type 0 where
  pub sound : AreSlots count slots
  pub as_long : map filled_in slots ≡ lengths

-- a list has room for one more item, where it stood or behind all that stood among the old items
pub record HasSpace {T : Type 0} (old new : List T) (before after : Slot) : Type 0 where
  pub same : packed_list new after ≡ packed_list old before
  pub others : take (length old) new ≡ old
  pub ordered : after.start ≤ after.end
  pub space : after.end < after.limit
  pub within : after.limit ≤ length new
  pub apart : ((after.start ≡ before.start) × (after.limit ≡ before.limit)) ⊎ (length old ≤ after.start)
