use Rattle.std.proofs.Common.{◌≡◌, length, get_or, sym, ap, ◌∙◌, arith}
use Rattle.std.proofs.lemmas.Bool.{eqb-true, eq-eqb}
use Rattle.std.proofs.lemmas.List.FromFn.{length-map-range_with_len, get_or-map-range_with_len}
use Rattle.sm_agents.specs.Written.{row}
use Rattle.sm_seats.specs.Mutual.{lists_back}
use Rattle.sm_seats.specs.Counted.{acceptable_at}
use Rattle.sm_seats.proofs.FilterLemmas.{whole_filter}
use Rattle.sm_seats.proofs.TableLemmas.{seats_read}
use Rattle.sm_seats.proofs.plain.has_one_seat.Goals as goal

pub bounds-firsts-r : goal.bounds-firsts-r
bounds-firsts-r c = (seats_read c.args.instance.now c.args.r c.requires.firsts c.requires.in_range).inside

pub bounds-firsts-r-2 : goal.bounds-firsts-r-2
bounds-firsts-r-2 c = omega (arith, (seats_read c.args.instance.now c.args.r c.requires.firsts c.requires.in_range).inside)

pub overflow_sub-count : goal.overflow_sub-count
overflow_sub-count c =
    let s = seats_read c.args.instance.now c.args.r c.requires.firsts c.requires.in_range in
    omega (arith, s.first, s.next)

pub bounds-acceptable-r : goal.bounds-acceptable-r
bounds-acceptable-r c =
    let w = c.args.instance.now in
    let long = ap length (c.as_slice-acceptable.ensures.value ∙ c.requires.acceptable) ∙ length-map-range_with_len (acceptable_at w) 0 (length w.reviewers) in
    omega (arith, long, c.requires.in_range)

pub returns-then-count-ne1 : goal.returns-then-count-ne1
returns-then-count-ne1 c =
    let s = seats_read c.args.instance.now c.args.r c.requires.firsts c.requires.in_range in
    ((λ never. absurd cc), (λ it. absurd (c.if-count-ne1.true (s.count ∙ it.one))))

pub returns : goal.returns
returns c =
    let w = c.args.instance.now in
    let r = c.args.r in
    let s = seats_read w r c.requires.firsts c.requires.in_range in
    let acceptable : get_or c.as_slice-acceptable.result.now r 0 ≡ acceptable_at w r =
    ap (λ l. get_or l r 0) (c.as_slice-acceptable.ensures.value ∙ c.requires.acceptable) ∙ get_or-map-range_with_len (acceptable_at w) 0 (length w.reviewers) r r 0 c.requires.in_range (omega arith) in (
      (λ same. record {
        one = sym s.count ∙ c.if-count-ne1.false;
        whole = whole_filter (lists_back w.proposers r) (row w.reviewers r) (sym acceptable ∙ eqb-true _ _ same ∙ c.reviewer_len.ensures.length);
      }),
      (λ it. eq-eqb _ _ (acceptable ∙ ap length it.whole ∙ sym c.reviewer_len.ensures.length)),
    )
