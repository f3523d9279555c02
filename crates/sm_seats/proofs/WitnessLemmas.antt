-- The small instances of specs/Witnesses.antt.
use Rattle.std.proofs.Common.{refl}
use Rattle.sm_market.specs.Stable.{IsStable}
use Rattle.sm_market.proofs.CheckLemmas.{market_from_test, matching_from_test, stable_from_test}
use Rattle.sm_seats.specs.SeatMarket.{seat_market}
use Rattle.sm_seats.specs.Witnesses.{SmallHospitals, MarriageSeats, TurningHospitals, turning_hospitals, firsts, lasts}

-- computed
pub small_hospitals_seats : SmallHospitals
small_hospitals_seats = (refl, refl, refl, refl, refl, refl)

-- computed
pub marriage_seats : MarriageSeats
marriage_seats = (refl, refl, refl)

firsts_stable : IsStable (seat_market turning_hospitals) firsts
firsts_stable = stable_from_test (seat_market turning_hospitals) firsts (matching_from_test (seat_market turning_hospitals) firsts refl refl) refl

lasts_stable : IsStable (seat_market turning_hospitals) lasts
lasts_stable = stable_from_test (seat_market turning_hospitals) lasts (matching_from_test (seat_market turning_hospitals) lasts refl refl) refl

-- by tests that compute
pub turning : TurningHospitals
turning = (market_from_test (seat_market turning_hospitals) refl refl, firsts_stable, lasts_stable, refl, refl, refl, refl, refl)
