use Rattle.std.proofs.Common.{◌≡◌, ◌<◌, ◌++◌, ◌∷◌, ℕ, List, [], get_or, ◌+◌, length, sym, subst, arith}
use Rattle.std.specs.Borrow.{Bor}
use Rattle.std.specs.Prelude.{vec_len}
use Rattle.std.proofs.lemmas.List.{get_or-map, length-map}
use Rattle.sm_text.specs.Slices.{texts_of}
use Rattle.sm_keys.specs.Tables.{IsListing}
use Rattle.sm_keys.proofs.ListingLemmas.{listing_none, listing_more, listing_stuck, listing_all}
use Rattle.sm_keys.proofs.names.Names.list.Goals as goal

pub entries-init : goal.entries-init
entries-init c =
    let t = c.args.self.now in
    record {
      listing = rw (c.in_ok-indexes.ensures.items, c.in_ok-indexes.ensures.len) (listing_none t (texts_of c.args.entries.now) c.args.line c.requires);
      within = omega (arith, c.in_ok-indexes.ensures.len);
      room = c.in_ok-indexes.ensures.capacity;
    }

pub returns-in_default : goal.returns-in_default
returns-in_default c =
    let d : Bor (List ℕ) = record { ref_ptr = (0, 0); now = [] } in
    let entries = c.args.entries.now in
    let indexes = c.entries.indexes in
    let i = c.len-in-entries.result in
    let inside : i < length entries = omega (arith, c.entries-test.true, c.len.ensures, c.len-in-entries.ensures) in
    let none = rw c.in_default.is at c.in_ok-index.ensures in
    listing_stuck c.args.self.now c.entries.self c.list_name.new.self (texts_of entries) c.args.line i indexes.items (get_or entries i d).now (omega (arith, c.requires 0))
    (subst (λ n. IsListing c.args.self.now c.entries.self (texts_of entries) c.args.line n indexes.items) (sym c.len-in-entries.ensures) c.entries.invariant.listing)
    (omega (arith, inside, length-map entries (λ (x : Bor (List ℕ)). x.now))) (get_or-map (λ (x : Bor (List ℕ)). x.now) entries i d [] inside) none

pub entries-preserved : goal.entries-preserved
entries-preserved c =
    let d : Bor (List ℕ) = record { ref_ptr = (0, 0); now = [] } in
    let entries = c.args.entries.now in
    let indexes = c.entries.indexes in
    let i = c.len-in-entries.result in
    let inside : i < length entries = omega (arith, c.entries-test.true, c.len.ensures, c.len-in-entries.ensures) in
    let some = rw c.in-Some.is at c.in_ok-index.ensures in
    let long : vec_len c.push_reserved.new.self ≡ i + 1 = omega (arith, c.push_reserved.ensures.len, c.len-in-entries.ensures) in
    let more : IsListing c.args.self.now c.list_name.new.self (texts_of entries) c.args.line (i + 1) (indexes.items ++ c.in-Some.index ∷ []) =
    listing_more c.args.self.now c.entries.self c.list_name.new.self (texts_of entries) c.args.line i indexes.items (get_or entries i d).now (omega (arith, c.requires 0))
    (subst (λ n. IsListing c.args.self.now c.entries.self (texts_of entries) c.args.line n indexes.items) (sym c.len-in-entries.ensures) c.entries.invariant.listing)
    (omega (arith, inside, length-map entries (λ (x : Bor (List ℕ)). x.now))) (get_or-map (λ (x : Bor (List ℕ)). x.now) entries i d [] inside) c.in-Some.index some in
    record {
      listing = c.list_guessed.ensures.further c.args.self.now (rw (c.push_reserved.ensures.items, long) more);
      within = c.list_guessed.ensures.within;
      room = c.list_guessed.ensures.room;
    }

pub returns : goal.returns
returns c =
    let entries = c.args.entries.now in
    listing_all c.args.self.now c.entries.self (texts_of entries) c.args.line (vec_len c.entries.indexes) c.entries.indexes.items c.entries.invariant.listing
    (omega (arith, c.entries-test.false, c.len.ensures, length-map entries (λ (x : Bor (List ℕ)). x.now)))
