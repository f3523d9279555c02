-- Lists of which each stands between two places of all items, with room behind it.
use Rattle.std.proofs.Common.{Bor, Vec, ◌≡◌, ◌≢◌, ℕ, zero, suc, ◌+◌, ◌-◌, ◌<◌, ◌≤◌, ◌⊎◌, inl, inr, ◌++◌, ◌∷◌, [], List, length, map, take, drop, replicate, set, get_or, refl, sym, ap, subst, ◌∙◌, arith, ⊎_elim}
use Rattle.std.proofs.lemmas.Bool.{cases_lt}
use Rattle.std.proofs.lemmas.List.{with_items_is, map_more, append_assoc, set_at, get_or_at, drop_more, get_or_read, get_or-map, length-map, take-map, length-drop, length-set, length-take-le, drop-set-lt, drop-set-add, take-set-le, take_more_set, take-append-drop, take-append-le, drop-append-le, set-get_or, set-set, get_or-set_same, drop-replicate, take-replicate, map_push, take_all}
use Rattle.std.proofs.lemmas.List.Sums.{sum_by_more_le}
use Rattle.std.proofs.lemmas.Simd.{map-map}
use Rattle.std.proofs.Math.ListN.{get_or-map as get_or-map_all}
use Rattle.std.specs.List.{sum_by}
use Rattle.std.specs.Vec.{with_items}
use Rattle.std.specs.declared.alloc.Global.{Global}
use Rattle.sm_lists.specs.Rows.{lists_in}
use Rattle.sm_lists.specs.declared.packed.Slot.{Slot}
use Rattle.sm_lists.specs.Packed.{no_slot, filled_in, packed_list, packed_lists, emptied, span_of, AreApart, AreSlots, AreFull, HasSpace}
use Rattle.sm_lists.specs.Spans.{no_span, list_in, AreSpans}
use Rattle.sm_lists.proofs.ItemLemmas.{set_cases}

-- values that two functions give alike
map_alike : {X Y : Type 0} (f g : X → Y) (xs : List X) (d : X) → ((b : ℕ) → g (get_or xs b d) ≡ f (get_or xs b d)) → map g xs ≡ map f xs
map_alike f g [] d alike = refl
map_alike f g (x ∷ xs) d alike = ap (λ t. t ∷ map g xs) (alike 0) ∙ ap (λ t. f x ∷ t) (map_alike f g xs d (λ b. alike (suc b)))

-- the same, where one of the values is replaced
map-set_alike : {X Y : Type 0} (f g : X → Y) (xs : List X) (a : ℕ) (x d : X) → ((b : ℕ) → b ≢ a → g (get_or xs b d) ≡ f (get_or xs b d)) → map g (set xs a x) ≡ set (map f xs) a (g x)
map-set_alike f g [] a x d alike = refl
map-set_alike f g (y ∷ ys) zero x d alike = ap (λ t. g x ∷ t) (map_alike f g ys d (λ b. alike (suc b) (λ e. absurd (omega (arith, e)))))
map-set_alike f g (y ∷ ys) (suc a) x d alike =
    ap (λ t. t ∷ map g (set ys a x)) (alike 0 (λ e. absurd (omega (arith, e))))
    ∙ ap (λ t. f y ∷ t) (map-set_alike f g ys a x d (λ b ne. alike (suc b) (λ e. ne (omega (arith, e)))))

-- the first items of a list, one of which is replaced
take_set : {X : Type 0} (n : ℕ) (xs : List X) (i : ℕ) (x : X) → take n (set xs i x) ≡ set (take n xs) i x
take_set zero xs i x = refl
take_set (suc n) [] i x = refl
take_set (suc n) (y ∷ ys) zero x = refl
take_set (suc n) (y ∷ ys) (suc i) x = ap (λ t. y ∷ t) (take_set n ys i x)

-- what holds at each index once an item is added
added_cases : {X : Type 0} (P : ℕ → X → Type 0) (xs : List X) (y d : X) → P (length xs) y → ((j : ℕ) → j ≢ length xs → P j (get_or xs j d)) → (j : ℕ) → P j (get_or (xs ++ y ∷ []) j d)
added_cases P [] y d here there zero = here
added_cases P [] y d here there (suc j) = there (suc j) (λ e. absurd (omega (arith, e)))
added_cases P (x ∷ xs) y d here there zero = there 0 (λ e. absurd (omega (arith, e)))
added_cases P (x ∷ xs) y d here there (suc j) = added_cases (λ k. P (suc k)) xs y d here (λ k ne. there (suc k) (λ e. ne (omega (arith, e)))) j

-- the list at an index is that of the slot there
pub list_read : {T : Type 0} (items : List T) (slots : List Slot) (a : ℕ) → get_or (packed_lists items slots) a [] ≡ packed_list items (get_or slots a no_slot)
list_read items [] a = refl
list_read items (r ∷ slots) zero = refl
list_read items (r ∷ slots) (suc a) = list_read items slots a

-- a list is as long as its slot is filled
long_as_filled : {T : Type 0} (items : List T) (r : Slot) → r.start ≤ r.end → r.end ≤ length items → length (packed_list items r) ≡ filled_in r
long_as_filled items r ordered within = let left = length-drop r.start items in length-take-le (filled_in r) (drop r.start items) (omega arith)

-- an item that is written outside a list's slot changes nothing of the list
list_kept : {T : Type 0} (items : List T) (r : Slot) (k : ℕ) (x : T) → r.start ≤ r.end → r.end ≤ r.limit → ((k < r.start) ⊎ (r.limit ≤ k)) → packed_list (set items k x) r ≡ packed_list items r
list_kept items r k x ordered filled outside = ⊎_elim
    (λ before. ap (take (filled_in r)) (drop-set-lt r.start items k x before))
    (λ behind.
    let at : k ≡ r.start + (k - r.start) = omega arith in
    ap (λ n. take (filled_in r) (drop r.start (set items n x))) at
    ∙ ap (take (filled_in r)) (drop-set-add r.start items (k - r.start) x)
    ∙ take-set-le (filled_in r) (drop r.start items) (k - r.start) x (omega arith))
    outside

-- nor does one in the slot of another list
others_kept : {T : Type 0} (items : List T) (slots : List Slot) (a k : ℕ) (x : T) → AreSlots (length items) slots → (get_or slots a no_slot).start ≤ k → k < (get_or slots a no_slot).limit
    → (b : ℕ) → b ≢ a → packed_list (set items k x) (get_or slots b no_slot) ≡ packed_list items (get_or slots b no_slot)
others_kept items slots a k x h from up_to b ne =
    list_kept items (get_or slots b no_slot) k x (h.ordered b) (h.filled b)
    (⊎_elim (λ before. inr (omega arith)) (λ behind. inl (omega arith)) (h.apart b a ne))

-- an item of a list is replaced
pub lists_put : {T : Type 0} (items : List T) (slots : List Slot) (a k place : ℕ) (x : T) → AreSlots (length items) slots → k ≡ (get_or slots a no_slot).start + place
    → place < length (get_or (packed_lists items slots) a []) → packed_lists (set items k x) slots ≡ set (packed_lists items slots) a (set (get_or (packed_lists items slots) a []) place x)
lists_put items slots a k place x h at on =
    let r : Slot = get_or slots a no_slot in
    let read = list_read items slots a in
    let ordered : r.start ≤ r.end = h.ordered a in
    let filled : r.end ≤ r.limit = h.filled a in
    let within : r.limit ≤ length items = h.within a in
    let long = ap length read ∙ long_as_filled items r ordered (omega arith) in
    let inside : place < filled_in r = omega arith in
    let here : packed_list (set items k x) r ≡ set (packed_list items r) place x =
    ap (λ n. take (filled_in r) (drop r.start (set items n x))) at ∙ ap (take (filled_in r)) (drop-set-add r.start items place x) ∙ take_set (filled_in r) (drop r.start items) place x in
    ap (packed_lists (set items k x)) (sym (set-get_or slots a no_slot))
    ∙ map-set_alike (packed_list items) (packed_list (set items k x)) slots a r no_slot (others_kept items slots a k x h (omega arith) (omega arith))
    ∙ ap (set (packed_lists items slots) a) (here ∙ ap (λ list. set list place x) (sym read))

-- a list that stood among the old items is the same among the new ones
list_moved : {T : Type 0} (old new : List T) (r : Slot) → take (length old) new ≡ old → r.start ≤ r.end → r.end ≤ length old → packed_list new r ≡ packed_list old r
list_moved old new r others ordered within =
    let rest = drop (length old) new in
    let is : new ≡ old ++ rest = sym (take-append-drop (length old) new) ∙ ap (λ t. t ++ rest) others in
    let left = length-drop r.start old in
    ap (λ t. packed_list t r) is
    ∙ ap (take (filled_in r)) (drop-append-le r.start old rest (omega arith))
    ∙ take-append-le (filled_in r) (drop r.start old) rest (omega arith)

-- one more item on a list whose slot r isn't full
pub lists_added : {T : Type 0} (items : List T) (slots : List Slot) (a : ℕ) (r s : Slot) (x : T) → AreSlots (length items) slots → get_or slots a no_slot ≡ r → r.end < r.limit
    → s.start ≡ r.start → s.end ≡ r.end + 1 → packed_lists (set items r.end x) (set slots a s) ≡ set (packed_lists items slots) a (packed_list items r ++ x ∷ [])
lists_added items slots a r s x h is space start end =
    let ordered : r.start ≤ r.end = subst (λ (q : Slot). q.start ≤ q.end) is (h.ordered a) in
    let within : r.limit ≤ length items = subst (λ (q : Slot). q.limit ≤ length items) is (h.within a) in
    let starts : (get_or slots a no_slot).start ≡ r.start = ap (λ (q : Slot). q.start) is in
    let ends : (get_or slots a no_slot).limit ≡ r.limit = ap (λ (q : Slot). q.limit) is in
    let at : r.end ≡ r.start + filled_in r = omega arith in
    let more : filled_in s ≡ filled_in r + 1 = omega arith in
    let left = length-drop r.start items in
    map-set_alike (packed_list items) (packed_list (set items r.end x)) slots a s no_slot (others_kept items slots a r.end x h (omega arith) (omega arith))
    ∙ ap (set (packed_lists items slots) a)
    (ap (λ n. take n (drop s.start (set items r.end x))) more
    ∙ ap (λ n. take (filled_in r + 1) (drop n (set items r.end x))) start
    ∙ ap (λ n. take (filled_in r + 1) (drop r.start (set items n x))) at
    ∙ ap (take (filled_in r + 1)) (drop-set-add r.start items (filled_in r) x)
    ∙ take_more_set (drop r.start items) (filled_in r) x (omega arith))

-- slots of which one is new, or another than it was, where `cases` says so
slots_changed : (count more : ℕ) (slots new : List Slot) (a : ℕ) (s : Slot)
    → ((P : ℕ → Slot → Type 0) → P a s → ((j : ℕ) → j ≢ a → P j (get_or slots j no_slot)) → (j : ℕ) → P j (get_or new j no_slot))
    → AreSlots count slots → count ≤ more → s.start ≤ s.end → s.end ≤ s.limit → s.limit ≤ more → ((b : ℕ) → b ≢ a → AreApart (get_or slots b no_slot) s) → AreSlots more new
slots_changed count more slots new a s cases h grown ordered filled within apart = record {
  ordered = cases (λ _ r. r.start ≤ r.end) ordered (λ b _. h.ordered b);
  filled = cases (λ _ r. r.end ≤ r.limit) filled (λ b _. h.filled b);
  within = cases (λ _ r. r.limit ≤ more) within (λ b _. let w = h.within b in omega arith);
  apart = cases (λ b r. (c : ℕ) → b ≢ c → AreApart r (get_or new c no_slot))
      (cases (λ c r. a ≢ c → AreApart s r) (λ ne. absurd (ne refl)) (λ c ne _. ⊎_elim inr inl (apart c ne)))
      (λ b ne. cases (λ c r. b ≢ c → AreApart (get_or slots b no_slot) r) (λ _. apart b ne) (λ c _ other. h.apart b c other));
}

-- another slot for one list
slots_set : (count more : ℕ) (slots : List Slot) (a : ℕ) (s : Slot) → a < length slots
    → AreSlots count slots → count ≤ more → s.start ≤ s.end → s.end ≤ s.limit → s.limit ≤ more → ((b : ℕ) → b ≢ a → AreApart (get_or slots b no_slot) s) → AreSlots more (set slots a s)
slots_set count more slots a s in_range = slots_changed count more slots (set slots a s) a s (λ P. set_cases P slots a s no_slot in_range)

-- a list that has found room for one more item, and the others, are what they were
lists_spaced : {T : Type 0} (old new : List T) (slots : List Slot) (a : ℕ) (r : Slot) → AreSlots (length old) slots → HasSpace old new (get_or slots a no_slot) r → packed_lists new (set slots a r) ≡ packed_lists old slots
lists_spaced old new slots a r h s =
    map-set_alike (packed_list old) (packed_list new) slots a r no_slot
    (λ b _. let filled = h.filled b in let within = h.within b in list_moved old new (get_or slots b no_slot) s.others (h.ordered b) (omega arith))
    ∙ ap (set (packed_lists old slots) a) (s.same ∙ sym (list_read old slots a))
    ∙ set-get_or (packed_lists old slots) a []

-- what stood before is still there, so nothing was taken off
grown : {T : Type 0} (old new : List T) → take (length old) new ≡ old → length old ≤ length new
grown old new others = ⊎_elim
    (λ shorter. let same = ap length (sym (take_all (length old) new (omega arith)) ∙ others) in omega arith)
    (λ le. le)
    (cases_lt (length new) (length old))

-- and its slot is apart from the others
slots_spaced : {T : Type 0} (old new : List T) (slots : List Slot) (a : ℕ) (r : Slot) → a < length slots → AreSlots (length old) slots → HasSpace old new (get_or slots a no_slot) r
    → AreSlots (length new) (set slots a r)
slots_spaced old new slots a r in_range h s =
    slots_set (length old) (length new) slots a r in_range h (grown old new s.others) s.ordered (let space = s.space in omega arith) s.within
    (λ b ne. ⊎_elim
    (λ stays. let start = stays.0 in let limit = stays.1 in ⊎_elim (λ before. inl (omega arith)) (λ behind. inr (omega arith)) (h.apart b a ne))
    (λ behind. let within = h.within b in inl (omega arith))
    s.apart)

-- the slots once a list that has room for it has one more item
slots_added : (count : ℕ) (slots : List Slot) (a : ℕ) (r s : Slot) → a < length slots → AreSlots count slots → get_or slots a no_slot ≡ r → r.end < r.limit
    → s.start ≡ r.start → s.end ≡ r.end + 1 → s.limit ≡ r.limit → AreSlots count (set slots a s)
slots_added count slots a r s in_range h is space start end limit =
    let ordered : r.start ≤ r.end = subst (λ (q : Slot). q.start ≤ q.end) is (h.ordered a) in
    let within : r.limit ≤ count = subst (λ (q : Slot). q.limit ≤ count) is (h.within a) in
    slots_set count count slots a s in_range h (omega arith) (omega arith) (omega arith) (omega arith)
    (λ b ne. ⊎_elim
    (λ before. inl (omega arith))
    (λ behind. inr (omega arith))
    (let other : AreApart (get_or slots b no_slot) r = subst (AreApart (get_or slots b no_slot)) is (h.apart b a ne) in other))

-- one more item on a list that has found room for it
pub lists_pushed : {T : Type 0} (old new : List T) (slots : List Slot) (a : ℕ) (r s : Slot) (x : T) → a < length slots → AreSlots (length old) slots → HasSpace old new (get_or slots a no_slot) r
    → s.start ≡ r.start → s.end ≡ r.end + 1 → packed_lists (set new r.end x) (set slots a s) ≡ set (packed_lists old slots) a (get_or (packed_lists old slots) a [] ++ x ∷ [])
lists_pushed old new slots a r s x in_range h spaced start end =
    ap (packed_lists (set new r.end x)) (sym (set-set slots a r s))
    ∙ lists_added new (set slots a r) a r s x (slots_spaced old new slots a r in_range h spaced) (get_or-set_same slots a r no_slot in_range) spaced.space start end
    ∙ ap (λ lists. set lists a (packed_list new r ++ x ∷ [])) (lists_spaced old new slots a r h spaced)
    ∙ ap (λ list. set (packed_lists old slots) a (list ++ x ∷ [])) (spaced.same ∙ sym (list_read old slots a))

-- and its slots
pub slots_pushed : {T : Type 0} (old new : List T) (slots : List Slot) (a : ℕ) (r s : Slot) (x : T) → a < length slots → AreSlots (length old) slots → HasSpace old new (get_or slots a no_slot) r
    → s.start ≡ r.start → s.end ≡ r.end + 1 → s.limit ≡ r.limit → AreSlots (length (set new r.end x)) (set slots a s)
slots_pushed old new slots a r s x in_range h spaced start end limit =
    let long = set-set slots a r s in
    let inside : a < length (set slots a r) = let e = length-set slots a r in omega arith in
    let added = slots_added (length new) (set slots a r) a r s inside (slots_spaced old new slots a r in_range h spaced) (get_or-set_same slots a r no_slot in_range) spaced.space start end limit in
    let here : AreSlots (length new) (set slots a s) = subst (AreSlots (length new)) long added in
    subst (λ n. AreSlots n (set slots a s)) (sym (length-set new r.end x)) here

-- there are as many slots as lists
pub slots_in_range : {T : Type 0} (items : List T) (slots : List Slot) (lists : List (List T)) (a : ℕ) → packed_lists items slots ≡ lists → a < length lists → a < length slots
slots_in_range items slots lists a view in_range = let same = sym (length-map slots (packed_list items)) ∙ ap length view in omega arith

-- a slot that is read of the vector, where so many lists are seen
pub slot_read : {T : Type 0} (items : List T) (slots : List Slot) (lists : List (List T)) (a : ℕ) (r : Slot) → packed_lists items slots ≡ lists → a < length lists → r ≡ get_or slots a r → r ≡ get_or slots a no_slot
slot_read items slots lists a r view in_range read = get_or_read slots a r (slots_in_range items slots lists a view in_range) read no_slot

-- the next list's slot, behind the others
pub full_more : {lengths : List ℕ} {count : ℕ} {slots : List Slot} (n : ℕ) → AreFull lengths count slots
    → AreFull (lengths ++ n ∷ []) (count + n) (slots ++ record { start = count; end = count + n; limit = count + n } ∷ [])
full_more {lengths} {count} {slots} n h =
    let r : Slot = record { start = count; end = count + n; limit = count + n } in
    record {
      sound = slots_changed count (count + n) slots (slots ++ r ∷ []) (length slots) r (λ P. added_cases P slots r no_slot) h.sound (omega arith) (omega arith) (omega arith) (omega arith)
          (λ b _. inl (h.sound.within b));
      as_long = map_push filled_in slots r ∙ ap (λ t. t ++ filled_in r ∷ []) h.as_long ∙ ap (λ k. lengths ++ k ∷ []) (let e : filled_in r ≡ n = omega arith in e);
    }

-- each next list still fits
pub lists_fit : (lent : List (Bor (List ℕ))) (i : ℕ) (d : Bor (List ℕ)) → i < length lent
    → sum_by (λ list. length list) (lists_in (take i lent)) + length (get_or lent i d).now ≤ sum_by (λ list. length list) (lists_in lent)
lists_fit lent i d inside =
    let len : List ℕ → ℕ = λ list. length list in
    let of : Bor (List ℕ) → List ℕ = λ list. list.now in
    let le = sum_by_more_le len (lists_in lent) i [] (let long = length-map lent of in omega arith) in
    let front = ap (sum_by len) (take-map of i lent) in
    let here = ap len (get_or-map of lent i d [] inside) in
    omega arith

-- lists all of whose items are the same
lists_alike : {T : Type 0} (x : T) (n : ℕ) (slots : List Slot) → ((a : ℕ) → (get_or slots a no_slot).start ≤ (get_or slots a no_slot).end) → ((a : ℕ) → (get_or slots a no_slot).end ≤ n)
    → packed_lists (replicate n x) slots ≡ map (λ k. replicate k x) (map filled_in slots)
lists_alike x n [] ordered within = refl
lists_alike x n (r ∷ slots) ordered within =
    let first = ordered 0 in
    let last = within 0 in
    ap (λ t. t ∷ packed_lists (replicate n x) slots) (ap (take (filled_in r)) (drop-replicate r.start n x) ∙ take-replicate (filled_in r) (n - r.start) x (omega arith))
    ∙ ap (λ t. replicate (filled_in r) x ∷ t) (lists_alike x n slots (λ a. ordered (suc a)) (λ a. within (suc a)))

-- with as many items as the slots are for
pub lists_filled : {T : Type 0} (x : T) (lists : List (List ℕ)) (count : ℕ) (slots : List Slot) → AreFull (map (λ list. length list) lists) count slots
    → packed_lists (replicate count x) slots ≡ map (λ list. replicate (length list) x) lists
lists_filled x lists count slots h =
    lists_alike x count slots h.sound.ordered (λ a. let filled = h.sound.filled a in let within = h.sound.within a in omega arith)
    ∙ ap (map (λ k. replicate k x)) h.as_long
    ∙ map-map (λ k. replicate k x) (λ list. length list) lists

-- slots of which nothing is filled
pub slots_emptied : (count : ℕ) (slots : List Slot) → AreSlots count slots → AreSlots count (map emptied slots)
slots_emptied count slots h =
    let read : (a : ℕ) → emptied (get_or slots a no_slot) ≡ get_or (map emptied slots) a no_slot = λ a. sym (get_or-map_all emptied slots a no_slot) in
    record {
      ordered = λ a. subst (λ (r : Slot). r.start ≤ r.end) (read a) (omega arith);
      filled = λ a. subst (λ (r : Slot). r.end ≤ r.limit) (read a) (let ordered = h.ordered a in let filled = h.filled a in omega arith);
      within = λ a. subst (λ (r : Slot). r.limit ≤ count) (read a) (h.within a);
      apart = λ a b ne. subst (λ r. AreApart r (get_or (map emptied slots) b no_slot)) (read a) (subst (AreApart (emptied (get_or slots a no_slot))) (read b) (h.apart a b ne));
    }

-- and the lists without an item
pub lists_emptied : {T : Type 0} (items : List T) (slots : List Slot) → packed_lists items (map emptied slots) ≡ replicate (length slots) []
lists_emptied items [] = refl
lists_emptied items (r ∷ slots) =
    ap (λ k. take k (drop r.start items) ∷ packed_lists items (map emptied slots)) (let e : r.start - r.start ≡ 0 = omega arith in e)
    ∙ ap (λ t. [] ∷ t) (lists_emptied items slots)

-- one more value is replaced by what a function gives for it
pub mapped_more : {X : Type 0} (f : X → X) (xs old : List X) (i : ℕ) (d : X) → i < length old → xs ≡ map f (take i old) ++ drop i old
    → set xs i (f (get_or xs i d)) ≡ map f (take (i + 1) old) ++ drop (i + 1) old
mapped_more f xs old i d inside is =
    let front = map f (take i old) in
    let rest = drop (i + 1) old in
    let x = get_or old i d in
    let at : length front ≡ i = length-map (take i old) f ∙ length-take-le i old (omega arith) in
    let split : xs ≡ front ++ x ∷ rest = is ∙ ap (λ t. front ++ t) (drop_more old i d inside) in
    let read : get_or xs i d ≡ x = ap (λ t. get_or t i d) split ∙ get_or_at front x rest d i at in
    ap (λ t. set t i (f (get_or xs i d))) split
    ∙ ap (λ y. set (front ++ x ∷ rest) i (f y)) read
    ∙ set_at front x rest (f x) i at
    ∙ sym (append_assoc front (f x ∷ []) rest)
    ∙ ap (λ t. t ++ rest) (sym (map_more f old i d inside))

-- what a vector of slots holds once all are emptied through a slice
pub slots_written : (slots : Vec Slot Global) (new : List Slot) → new ≡ map emptied slots.items → (with_items slots new).items ≡ map emptied slots.items
slots_written slots new is =
    let same : slots.len ≡ length slots.items = slots.ok.0 in
    with_items_is slots new (ap length is ∙ length-map slots.items emptied ∙ sym same) ∙ is

-- where lists of slots stand
span_at : (slots : List Slot) (a : ℕ) → get_or (map span_of slots) a no_span ≡ span_of (get_or slots a no_slot)
span_at [] a = refl
span_at (slot ∷ slots) zero = refl
span_at (slot ∷ slots) (suc a) = span_at slots a

-- they end among the items, and not before they start
pub spans_of_slots : (count : ℕ) (slots : List Slot) → AreSlots count slots → AreSpans count (map span_of slots)
spans_of_slots count slots h = record {
  ordered = λ a. rw (span_at slots a) (h.ordered a);
  within = λ a. rw (span_at slots a) (omega (arith, h.filled a, h.within a));
}

-- and they are the lists
pub lists_at_spans : {T : Type 0} (items : List T) (slots : List Slot) → map (list_in items) (map span_of slots) ≡ packed_lists items slots
lists_at_spans items [] = refl
lists_at_spans items (slot ∷ slots) = ap (λ lists. packed_list items slot ∷ lists) (lists_at_spans items slots)
