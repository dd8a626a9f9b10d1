use Rattle.stock.proofs.Chains.{caches_stay}
use Rattle.stock.proofs.Homeward.{others_then, reaped_at}
use Rattle.stock.proofs.stocks.Stock.reap_cache.Goals as goal

pub reap_slabs-requires : goal.reap_slabs-requires
reap_slabs-requires g c = record { has = caches_stay c.args.self.now c.empty_depot.new.self c.empty_depot.ensures.fixed c.args.arena c.args.cache c.requires.has }

pub returns-clause-reaped : goal.returns-clause-reaped
returns-clause-reaped g c = reaped_at c.reap_slabs.result c.empty_depot.new.self c.reap_slabs.new.self c.args.arena c.args.cache c.reap_slabs.ensures.reaped c.reap_slabs.ensures.depots c.in_ok-empty_depot.ensures.emptied

pub returns-clause-others : goal.returns-clause-others
returns-clause-others g c = others_then c.args.arena c.args.cache c.args.self.now c.empty_depot.new.self c.reap_slabs.new.self c.empty_depot.ensures.others c.reap_slabs.ensures.others

pub returns-clause-frame : goal.returns-clause-frame
returns-clause-frame g c rest a = c.reap_slabs.ensures.frame rest (c.in_ok-empty_depot.ensures.frame rest a)

pub returns-clause-never : goal.returns-clause-never
returns-clause-never g c rest a = c.reap_slabs.ensures.never rest (c.in_ok-empty_depot.ensures.frame rest a)
