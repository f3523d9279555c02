use Rattle.std.proofs.Common.{sym, ◌∙◌}
use Rattle.sm_seats.proofs.TakingLemmas.{place_listed}
use Rattle.sm_seats.proofs.taking.is_at.Goals as goal

pub entry_at-requires-clause-on_list : goal.entry_at-requires-clause-on_list
entry_at-requires-clause-on_list g c = place_listed g.written c.args.a.now.places.items c.args.lists.now c.requires.0 c.requires.1.0 c.args.q c.in-Some.place (sym c.held_place.ensures ∙ c.in-Some.is)
