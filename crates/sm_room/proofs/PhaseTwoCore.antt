-- Phase two: round a cycle of persons, each of whom has the next last on the list of its second, the list of each second
-- is cut behind that person.
use Rattle.std.proofs.Common.{List, ◌≡◌, ℕ, ◌<◌, ◌≤◌, ◌⊎◌, inl, inr, arith, sym}
use Rattle.sm_lists.proofs.Counting.{lt_or_le}
use Rattle.sm_lists.specs.Rows.{place_of}
use Rattle.sm_room.specs.Bounds.{IsLeft, IsFirst, IsLast, IsSecond, IsNextPerson, HasLast, IsGoodAt}
use Rattle.sm_room.proofs.TableCore.{IsLeft-turn, one_first, one_final, one_second, same_foremost, has_first, has_second, HasFirst, one_at, turn, left_before}

-- who is before somebody, and who is after, among those for whom C holds
pub record Before (rows : List (List ℕ)) (b : ℕ → ℕ) (C : ℕ → Type 0) (v : ℕ) : Type 0 where
  pub who : ℕ
  pub here : C who
  pub next : IsNextPerson rows b who v

-- somebody for whom C holds comes after x
pub record After (rows : List (List ℕ)) (b : ℕ → ℕ) (C : ℕ → Type 0) (x : ℕ) : Type 0 where
  pub who : ℕ
  pub here : C who
  pub next : IsNextPerson rows b x who

-- a set of persons round which IsNextPerson goes
pub record Round (rows : List (List ℕ)) (b : ℕ → ℕ) (C : ℕ → Type 0) : Type 0 where
  pub before : (v : ℕ) → C v → Before rows b C v
  pub after : (x : ℕ) → C x → After rows b C x

-- the bound of y is at a person of the set whose second y is
pub record Cutter (rows : List (List ℕ)) (b c : ℕ → ℕ) (C : ℕ → Type 0) (y : ℕ) : Type 0 where
  pub by : ℕ
  pub here : C by
  pub second : IsSecond rows b by y
  pub bound : c y ≡ place_of rows y by

-- c is b with the bound of each second of the set at the person whose second it is
pub record Cuts (rows : List (List ℕ)) (b c : ℕ → ℕ) (C : ℕ → Type 0) : Type 0 where
  pub cut : (x y : ℕ) → C x → IsSecond rows b x y → c y ≡ place_of rows y x
  pub other : (y : ℕ) → Cutter rows b c C y ⊎ (c y ≡ b y)

-- u of the set has two left on its list, and the last is of the set
pub record Two (rows : List (List ℕ)) (b : ℕ → ℕ) (C : ℕ → Type 0) (u w : ℕ) : Type 0 where
  pub here : C u
  pub there : C w
  pub second : IsSecond rows b u w
  pub at : place_of rows u w ≡ b u

module _ {rows : List (List ℕ)} {b : ℕ → ℕ} (good : IsGoodAt rows b) where
  -- nobody is last on the list of its second
  pub second_before_last : (x y : ℕ) → IsSecond rows b x y → place_of rows y x < b y
  second_before_last x y f = elim (lt_or_le (place_of rows y x) (b y)) [
    | inl l ↦ l
    | inr l ↦
        let e : place_of rows y x ≡ b y = omega (arith, l, f.left.there) in
        let first : IsFirst rows b x y = good.last_first y x (record { left = IsLeft-turn f.left; at = e }) in
        absurd (omega (arith, f.behind, first.least f.foremost f.first.left))
  ]

  -- who comes next to x has x's second first
  pub next_first : {x v : ℕ} → (n : IsNextPerson rows b x v) → IsFirst rows b v n.over
  next_first {x} {v} n = good.last_first n.over v n.final

  -- somebody comes next to x, and has a second
  pub record Follows (x : ℕ) : Type 0 where
    pub who : ℕ
    pub next : IsNextPerson rows b x who
    pub onward : ℕ
    pub second : IsSecond rows b who onward

  -- who has a second has somebody next, who has a second too
  pub follows : (x y : ℕ) → IsSecond rows b x y → Follows x
  follows x y f =
      let h = good.ends y x (IsLeft-turn f.left) in
      let first : IsFirst rows b h.last y = good.last_first y h.last h.final in
      let l = good.ends h.last y first.left in
      let behind : place_of rows h.last y < place_of rows h.last l.last = elim (lt_or_le (place_of rows h.last y) (b h.last)) [
        | inl k ↦ omega (arith, k, l.final.at)
        | inr k ↦
            let e : place_of rows h.last y ≡ b h.last = omega (arith, k, first.left.here) in
            let g : IsFirst rows b y h.last = good.last_first h.last y (record { left = first.left; at = e }) in
            absurd (omega (arith, g.least x (IsLeft-turn f.left), second_before_last x y f, h.final.at))
      ] in
      let w = has_second first l.final.left behind in
      record { who = h.last; next = record { over = y; second = f; final = h.final }; onward = w.next; second = w.second }

  module _ {C : ℕ → Type 0} (round : Round rows b C) where
    -- who has two: so does the one before its last, whose last it is
    pub two_back : (u w : ℕ) → Two rows b C u w → (v : Before rows b C w) → IsFirst rows b u v.who × Two rows b C v.who u
    two_back u w t v =
        let fw : IsFirst rows b w u = good.last_first u w (record { left = t.second.left; at = t.at }) in
        let e : v.next.over ≡ u = one_first (next_first v.next) fw in
        let sv : IsSecond rows b v.who u = rw e at v.next.second in
        let short : place_of rows u v.who < b u = second_before_last v.who u sv in
        let i : IsLeft rows b u v.who = IsLeft-turn sv.left in
        let fu : IsFirst rows b u v.who = elim (lt_or_le (place_of rows u t.second.foremost) (place_of rows u v.who)) [
          | inl l ↦ absurd (omega (arith, t.second.least v.who i l, t.at, short))
          | inr l ↦ record { left = i; least = λ z j. omega (arith, t.second.first.least z j, l) }
        ] in
        let last : IsLast rows b v.who u = good.first_last u v.who fu in
        (fu, record { here = v.here; there = t.here; second = sv; at = last.at })

    -- u has two left, the last of the set
    pub record HasTwo (u : ℕ) : Type 0 where
      pub last : ℕ
      pub two : Two rows b C u last

    -- and so does whoever is before it
    pub has_two_back : (u : ℕ) → HasTwo u → (x : ℕ) → C x → IsNextPerson rows b x u → HasTwo x
    has_two_back u h x k n =
        let w = two_back u h.last h.two (round.before h.last h.two.there) in
        let v = two_back _ u w.1 (record { who = x; here = k; next = n }) in
        record { last = _; two = v.1 }

    -- all who are left on its list are of the set
    pub two_inside : (u z : ℕ) → HasTwo u → IsLeft rows b u z → C z
    two_inside u z h i =
        let p = round.before h.last h.two.there in
        let w = two_back u h.last h.two p in
        let t = h.two in
        let f = w.0 in
        elim (lt_or_le (place_of rows u t.second.foremost) (place_of rows u z)) [
          | inl l ↦ let e : z ≡ h.last = one_at rows u z h.last i.acc t.second.left.acc (omega (arith, t.second.least z i l, t.at, i.here)) in rw e t.there
          | inr l ↦ let e : z ≡ p.who = one_at rows u z p.who i.acc f.left.acc (omega (arith, f.least z i, same_foremost t.second f, l)) in rw e p.here
        ]

    -- who isn't of the set isn't before one of it
    pub before_inside : (x u : ℕ) → ((v : ℕ) → C v → HasTwo v) → IsNextPerson rows b x u → C u → C x
    before_inside x u all n k =
        let y : C n.over = two_inside u n.over (all u k) (next_first n).left in
        two_inside n.over x (all n.over y) (IsLeft-turn n.second.left)

    -- the cuts leave a good table, where nobody of the set has two and a last of the set
    module _ {c : ℕ → ℕ} (cuts : Cuts rows b c C) (none : (u w : ℕ) → Two rows b C u w → ⊥) where
      -- no bound rises
      pub less : (y : ℕ) → c y ≤ b y
      less y = elim (cuts.other y) [
        | inl w ↦ omega (arith, w.bound, w.second.left.there)
        | inr e ↦ omega (arith, e)
      ]

      -- who is left after the cuts was left before them
      pub before_cuts : {u v : ℕ} → IsLeft rows c u v → IsLeft rows b u v
      before_cuts {u} {v} h = left_before b c less h

      -- the second of a person of the set stays on its list, and becomes the first
      stays : (x y : ℕ) → C x → IsSecond rows b x y → IsLast rows c y x
      stays x y k f = record { left = IsLeft-turn i; at = sym (cuts.cut x y k f) }
        where
          here : place_of rows x y ≤ c x
          here = elim (cuts.other x) [
            | inr e ↦ omega (arith, e, f.left.here)
            | inl w ↦ elim (lt_or_le (place_of rows x f.foremost) (place_of rows x w.by)) [
              | inl l ↦ omega (arith, w.bound, f.least w.by (IsLeft-turn w.second.left) l)
              | inr l ↦
                  let first : IsFirst rows b x w.by = record { left = IsLeft-turn w.second.left; least = λ z j. omega (arith, f.first.least z j, l) } in
                  let final : IsLast rows b w.by x = good.first_last x w.by first in
                  absurd (none w.by x (record { here = w.here; there = k; second = w.second; at = final.at }))
            ]
          ]

          i : IsLeft rows c x y
          i = record { acc = f.left.acc; here = here; there = omega (arith, cuts.cut x y k f) }

      -- who isn't cut keeps its last, and who is gets another: nobody becomes empty
      still_held : (u : ℕ) → HasLast rows b u → HasLast rows c u
      still_held u h = elim (cuts.other u) [
        | inl w ↦ record { last = w.by; final = stays w.by u w.here w.second }
        | inr e ↦
            let v : ℕ = h.last in
            let f : IsFirst rows b v u = good.last_first u v h.final in
            let there : place_of rows v u ≤ c v = elim (cuts.other v) [
              | inl w ↦ omega (arith, w.bound, f.least w.by (IsLeft-turn w.second.left))
              | inr d ↦ omega (arith, d, f.left.here)
            ] in
            record { last = v; final = record { left = record { acc = h.final.left.acc; here = omega (arith, e, h.final.at); there = there }; at = omega (arith, e, h.final.at) } }
      ]

      -- a list on which somebody was left has a last
      pub never_empty : (x y : ℕ) → IsLeft rows b x y → HasLast rows c x
      never_empty x y i = still_held x (good.ends x y i)

      -- who is last on a list has its owner first
      pub last_first : (u v : ℕ) → IsLast rows c u v → IsFirst rows c v u
      last_first u v g = record { left = IsLeft-turn g.left; least = least }
        where
          least : (z : ℕ) → IsLeft rows c v z → place_of rows v u ≤ place_of rows v z
          least z i = elim (cuts.other u) [
            | inr e ↦
                let f : IsFirst rows b v u = good.last_first u v (record { left = before_cuts g.left; at = omega (arith, e, g.at) }) in
                f.least z (before_cuts i)
            | inl w ↦
                let d : v ≡ w.by = one_at rows u v w.by g.left.acc (turn rows w.by u w.second.left.acc) (omega (arith, g.at, w.bound)) in
                let k : C v = rw d w.here in
                let f : IsSecond rows b v u = rw d w.second in
                let p = round.before v k in
                let first : IsFirst rows b v p.next.over = next_first p.next in
                let short = second_before_last p.who p.next.over p.next.second in
                let bound = cuts.cut p.who p.next.over p.here p.next.second in
                elim (lt_or_le (place_of rows v f.foremost) (place_of rows v z)) [
                  | inl l ↦ f.least z (before_cuts i) l
                  | inr l ↦
                      let same : z ≡ p.next.over = one_at rows v z p.next.over i.acc first.left.acc (omega (arith, l, same_foremost f first, first.least z (before_cuts i))) in
                      let j : IsLeft rows c v p.next.over = rw same at i in
                      absurd (omega (arith, j.there, short, bound, p.next.final.at))
                ]
          ]

      -- who is first on a list has its owner last
      pub first_last : (u v : ℕ) → IsFirst rows c u v → IsLast rows c v u
      first_last u v f = go (has_first (before_cuts f.left))
        where
          go : HasFirst rows b u → IsLast rows c v u
          go w = elim (cuts.other w.foremost) [
            | inl k ↦
                let a = round.after k.by k.here in
                let same : a.next.over ≡ w.foremost = one_second a.next.second k.second in
                let last : IsLast rows b w.foremost a.who = rw same at a.next.final in
                let e : a.who ≡ u = one_final last (good.first_last u w.foremost w.first) in
                let here : C u = rw e at a.here in
                let n = round.after u here in
                let g : IsLast rows c n.next.over u = stays u n.next.over here n.next.second in
                let d : n.next.over ≡ v = one_first (last_first n.next.over u g) f in
                rw d at g
            | inr k ↦
                let foremost : ℕ = w.foremost in
                let last : IsLast rows b foremost u = good.first_last u foremost w.first in
                let here : place_of rows u foremost ≤ c u = elim (cuts.other u) [
                  | inl j ↦ omega (arith, j.bound, w.first.least j.by (IsLeft-turn j.second.left))
                  | inr e ↦ omega (arith, e, w.first.left.here)
                ] in
                let i : IsLeft rows c foremost u = record { acc = last.left.acc; here = omega (arith, k, last.at); there = here } in
                let g : IsLast rows c foremost u = record { left = i; at = omega (arith, k, last.at) } in
                let d : foremost ≡ v = one_first (last_first foremost u g) f in
                rw d at g
          ]

      -- so the table is good
      pub good_again : IsGoodAt rows c
      good_again = record {
        ends = λ x y i. never_empty x y (before_cuts i);
        past = λ x y acc behind. elim (cuts.other x) [
          | inl w ↦ record { last = w.by; final = stays w.by x w.here w.second }
          | inr e ↦ still_held x (good.past x y acc (omega (arith, e, behind)))
        ];
        first_last = first_last;
        last_first = last_first;
      }
