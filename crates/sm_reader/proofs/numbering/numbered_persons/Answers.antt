use Rattle.std.proofs.Common.{arith}
use Rattle.sm_agents.specs.declared.kinds.Kind.TheVariants.{Roommates}
use Rattle.sm_reader.proofs.NumberLemmas.{few_names}
use Rattle.sm_reader.proofs.numbering.numbered_persons.Goals as goal

pub number_agents-persons-requires-clause-few : goal.number_agents-persons-requires-clause-few
number_agents-persons-requires-clause-few c = omega (arith, (few_names Roommates c.requires.line c.args.draft c.requires.draft).0)
