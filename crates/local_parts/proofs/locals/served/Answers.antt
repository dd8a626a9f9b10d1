use Rattle.std.proofs.lemmas.Option.{slice_get_within}
use Rattle.local_parts.proofs.locals.served.Goals as goal

pub returns-in_default-clause-none : goal.returns-in_default-clause-none
returns-in_default-clause-none g c = λ j o number served. c.in_default.ensures.none j number served.has

pub quantum-quantum-requires : goal.quantum-quantum-requires
quantum-quantum-requires g c = let has = c.in-Some.ensures.some.1.1 in record { within = slice_get_within c.args.stock.now c.args.arena has.space has.at }
