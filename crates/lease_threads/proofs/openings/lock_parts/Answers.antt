use Rattle.std.proofs.Common.{◌∙◌, ◌++◌, ap, map, subst, sym}
use Rattle.locked_parts.specs.News.{StandAsSet, locked_of}
use Rattle.locked_parts.proofs.Stands.{stand_as_set}
use Rattle.lease_threads.proofs.openings.lock_parts.Goals as goal

pub new-requires : goal.new-requires
new-requires g c = stand_as_set c.args.tree c.args.made.items _ c.requires.count c.requires.set_up (c.lock_all.ensures.stand ∙ ap (λ l. l ++ map locked_of c.args.made.items) c.requires.none.0)

pub returns-clause-stand : goal.returns-clause-stand
returns-clause-stand g c =
    let made = stand_as_set c.args.tree c.args.made.items _ c.requires.count c.requires.set_up (c.lock_all.ensures.stand ∙ ap (λ l. l ++ map locked_of c.args.made.items) c.requires.none.0) in
    subst (λ arenas. StandAsSet arenas c.new.result.stand) (sym c.new.ensures.arenas) (subst (λ stand. StandAsSet c.args.tree stand) (sym c.new.ensures.stand) made)
