use Rattle.std.proofs.Common.{◌+◌}
use Rattle.stock.proofs.Homeward.{put_others, put_depots}
use Rattle.stock.proofs.Lasting.{lasts_on_put}
use Rattle.stock.proofs.stocks.Stock.put_home.Goals as goal

pub returns-in-Ok-clause-others : goal.returns-in-Ok-clause-others
returns-in-Ok-clause-others g c = put_others c.args.self.now c.slab_put.new.self c.args.arena c.args.cache c.args.round c.slab_put.result c.requires.has c.requires.chunk c.slab_put.ensures.put

pub returns-in-Ok-clause-depots : goal.returns-in-Ok-clause-depots
returns-in-Ok-clause-depots g c = put_depots c.args.self.now c.slab_put.new.self c.args.round c.slab_put.result c.slab_put.ensures.put

pub returns-in-Err-NotMine-clause-others : goal.returns-in-Err-NotMine-clause-others
returns-in-Err-NotMine-clause-others g c = put_others c.args.self.now c.slab_put.new.self c.args.arena c.args.cache c.args.round c.slab_put.result c.requires.has c.requires.chunk c.slab_put.ensures.put

pub returns-in-Err-NotMine-clause-depots : goal.returns-in-Err-NotMine-clause-depots
returns-in-Err-NotMine-clause-depots g c = put_depots c.args.self.now c.slab_put.new.self c.args.round c.slab_put.result c.slab_put.ensures.put

pub returns-in-Err-AtHome-clause-others : goal.returns-in-Err-AtHome-clause-others
returns-in-Err-AtHome-clause-others g c = put_others c.args.self.now c.slab_put.new.self c.args.arena c.args.cache c.args.round c.slab_put.result c.requires.has c.requires.chunk c.slab_put.ensures.put

pub returns-in-Err-AtHome-clause-depots : goal.returns-in-Err-AtHome-clause-depots
returns-in-Err-AtHome-clause-depots g c = put_depots c.args.self.now c.slab_put.new.self c.args.round c.slab_put.result c.slab_put.ensures.put

pub returns-in-Err-NotMine-clause-never : goal.returns-in-Err-NotMine-clause-never
returns-in-Err-NotMine-clause-never g c rest a =
    let route = (c.requires.chunk c.requires.has.1.space c.requires.has.1.at).by in
    c.in-Err-NotMine.ensures.never (c.args.cache + 1) route rest a

pub returns-in-Err-AtHome-clause-never : goal.returns-in-Err-AtHome-clause-never
returns-in-Err-AtHome-clause-never g c rest a =
    let route = (c.requires.chunk c.requires.has.1.space c.requires.has.1.at).by in
    c.in-Err-AtHome.ensures.never (c.args.cache + 1) route rest a

pub returns-in-Ok-clause-lasts : goal.returns-in-Ok-clause-lasts
returns-in-Ok-clause-lasts g c = lasts_on_put c.args.self.now c.slab_put.new.self c.args.round c.slab_put.result c.slab_put.ensures.put

pub returns-in-Err-NotMine-clause-lasts : goal.returns-in-Err-NotMine-clause-lasts
returns-in-Err-NotMine-clause-lasts g c = lasts_on_put c.args.self.now c.slab_put.new.self c.args.round c.slab_put.result c.slab_put.ensures.put

pub returns-in-Err-AtHome-clause-lasts : goal.returns-in-Err-AtHome-clause-lasts
returns-in-Err-AtHome-clause-lasts g c = lasts_on_put c.args.self.now c.slab_put.new.self c.args.round c.slab_put.result c.slab_put.ensures.put
