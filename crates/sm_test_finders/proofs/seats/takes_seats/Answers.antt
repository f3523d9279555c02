use Rattle.std.proofs.Common.{sym, subst, ap}
use Rattle.sm_agents.specs.Written.{Written}
use Rattle.sm_instance.specs.Matching.{IsMatching}
use Rattle.sm_seats.specs.Seating.{Seating}
use Rattle.sm_test_finders.proofs.seats.takes_seats.Goals as goal

pub to_seats-requires : goal.to_seats-requires
to_seats-requires g c =
    subst (λ (w : Written). IsMatching w c.args.a.now.places.items) (sym (ap (λ (s : Seating). s.written) c.requires.seats)) c.requires.matching
