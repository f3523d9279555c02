use Rattle.std.proofs.Common.{[], ◌∷◌, ◌++◌, true, refl, arith}
use Rattle.std.proofs.lemmas.List.{length-append}
use Rattle.sm_answer_list.proofs.UnderwayLemmas.{none_so_far, current_allowed, one_more_so_far, whole_listing, cut_listing, more_behind}
use Rattle.sm_answer_median.specs.MedianAnswer.{most_listed}
use Rattle.sm_answer_median.proofs.walking.count_listed.Goals as goal

pub matchings-init : goal.matchings-init
matchings-init c = record { within = omega arith; counted = record { vectors = []; so_far = none_so_far c.requires.lister; counts = c.requires.counts; count = refl } }

pub returns-then-not-advance-clause-all : goal.returns-then-not-advance-clause-all
returns-then-not-advance-clause-all c =
    let h = c.matchings.invariant.counted in
    record { vectors = h.vectors; all = whole_listing most_listed h.so_far (omega (arith, h.count, c.matchings.invariant.within)) (c.advance.ensures.none c.if-not-advance.true).0; counts = h.counts; count = h.count }

pub count_ranks-requires-clause-vector : goal.count_ranks-requires-clause-vector
count_ranks-requires-clause-vector c =
    current_allowed c.advance.new.self _ c.matchings.invariant.counted.so_far (c.advance.ensures.next c.if-not-advance.false) c.current.ensures

pub count_ranks-requires-clause-few : goal.count_ranks-requires-clause-few
count_ranks-requires-clause-few c =
    let h = c.matchings.invariant.counted in
    record { vectors = h.vectors; counts = h.counts; few = omega (arith, h.count, c.matchings-test.true) }

pub matchings-preserved : goal.matchings-preserved
matchings-preserved c =
    let h = c.matchings.invariant.counted in
    record {
      within = omega (arith, c.matchings-test.true);
      counted = record {
        vectors = h.vectors ++ c.current.result.now ∷ [];
        so_far = one_more_so_far _ h.so_far c.advance.ensures.same (c.advance.ensures.next c.if-not-advance.false) c.current.ensures;
        counts = c.count_ranks.ensures h.vectors h.counts;
        count = omega (arith, h.count, length-append h.vectors (c.current.result.now ∷ []));
      };
    }

pub returns-then-advance-clause-fault : goal.returns-then-advance-clause-fault
returns-then-advance-clause-fault c =
    let h = c.matchings.invariant.counted in
    (refl, record { vectors = h.vectors; cut = cut_listing most_listed true h.so_far (omega (arith, h.count, c.matchings.invariant.within, c.matchings-test.false)) (more_behind c.matchings.lister c.advance-2.new.self (c.advance-2.ensures.next c.if-advance.true)) })

pub returns-clause-all : goal.returns-clause-all
returns-clause-all c =
    let h = c.matchings.invariant.counted in
    record { vectors = h.vectors; all = whole_listing most_listed h.so_far (omega (arith, h.count, c.matchings.invariant.within)) (c.advance-2.ensures.none c.if-advance.false).0; counts = h.counts; count = h.count }
