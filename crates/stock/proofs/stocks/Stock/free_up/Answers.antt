use Rattle.std.proofs.Common.{◌∙◌, ◌++◌, subst, Option}
use Rattle.std.specs.Option.{option_to_list}
use Rattle.deed_core.specs.Tag.{Tag}
use Rattle.stock.specs.Accounts.{Accounts}
use Rattle.stock.proofs.Homeward.{free_caches, free_lowers, lowers_direct, lower_height}
use Rattle.stock.proofs.Lasting.{lasts_on_free}
use Rattle.stock.proofs.stocks.Stock.free_up.Goals as goal

pub loop-left-init : goal.loop-left-init
loop-left-init g c = record {
  caches = free_caches c.args.self.now c.free.new.self c.args.segment c.free.result c.free.ensures.freed;
  frame = c.in_ok-left.ensures.frame;
  fixed = c.free.ensures.fixed;
  lasts = lasts_on_free c.args.self.now c.free.new.self c.args.segment c.free.result c.free.ensures.freed;
  direct = lowers_direct c.args.segment c.in_ok-left.left (free_lowers c.args.self.now c.free.new.self c.count.ensures.stock c.args.segment c.in_ok-left.left c.in_ok-left.ensures.freed);
}

pub loop-left-smaller : goal.loop-left-smaller
loop-left-smaller g c = lower_height c.in-Some.span c.loop-left.left c.in_ok-left-2.left c.in-Some.is (free_lowers c.loop-left.self c.free-in-Some.new.self c.count-in-Some.ensures.stock c.in-Some.span c.in_ok-left-2.left c.in_ok-left-2.ensures.freed)

pub loop-left-preserved : goal.loop-left-preserved
loop-left-preserved g c =
    let i = c.loop-left.invariant in
    record {
      caches = λ k n x there. i.caches k n x (free_caches c.loop-left.self c.free-in-Some.new.self c.in-Some.span c.free-in-Some.result c.free-in-Some.ensures.freed k n x there);
      frame = λ rest a. c.in_ok-left-2.ensures.frame rest (subst (λ (o : Option Tag). Accounts c.loop-left.self (option_to_list o ++ rest)) c.in-Some.is (i.frame rest a));
      fixed = c.free-in-Some.ensures.fixed ∙ i.fixed;
      lasts = lasts_on_free c.loop-left.self c.free-in-Some.new.self c.in-Some.span c.free-in-Some.result c.free-in-Some.ensures.freed ∙ i.lasts;
      direct = lowers_direct c.in-Some.span c.in_ok-left-2.left (free_lowers c.loop-left.self c.free-in-Some.new.self c.count-in-Some.ensures.stock c.in-Some.span c.in_ok-left-2.left c.in_ok-left-2.ensures.freed);
    }

pub returns-in_err-left-clause-caches : goal.returns-in_err-left-clause-caches
returns-in_err-left-clause-caches g c = free_caches c.args.self.now c.free.new.self c.args.segment c.free.result c.free.ensures.freed

pub returns-in_err-left-2-clause-caches : goal.returns-in_err-left-2-clause-caches
returns-in_err-left-2-clause-caches g c k n x there = c.loop-left.invariant.caches k n x (free_caches c.loop-left.self c.free-in-Some.new.self c.in-Some.span c.free-in-Some.result c.free-in-Some.ensures.freed k n x there)

pub returns-in_err-left-clause-lasts : goal.returns-in_err-left-clause-lasts
returns-in_err-left-clause-lasts g c = lasts_on_free c.args.self.now c.free.new.self c.args.segment c.free.result c.free.ensures.freed

pub returns-in_err-left-2-clause-lasts : goal.returns-in_err-left-2-clause-lasts
returns-in_err-left-2-clause-lasts g c = lasts_on_free c.loop-left.self c.free-in-Some.new.self c.in-Some.span c.free-in-Some.result c.free-in-Some.ensures.freed ∙ c.loop-left.invariant.lasts
