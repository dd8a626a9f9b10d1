use Rattle.std.proofs.Common.{rules, ◌≡◌, sym, subst, ap, ◌∙◌, [], ◌∷◌, ◌++◌, length, arith}
use Rattle.std.proofs.lemmas.Grind.{common_steps}
use Rattle.tag_arena.specs.ArenaState.{IsSoundArena, empty_arena}
use Rattle.stock.specs.Stocks.{IsStock}
use Rattle.stock.specs.Accounts.{Accounts}
use Rattle.stock.specs.Steps.{new_space}
use Rattle.stock.proofs.Setting.{arena_added, arena_balances}
use Rattle.stock.proofs.stocks.Stock.add_arena.Goals as goal

pub invariant_of-self : goal.invariant_of-self
invariant_of-self g c =
    subst IsStock (sym c.reserve.ensures.items) c.self.invariant

pub invariant_of-self-2 : goal.invariant_of-self-2
invariant_of-self-2 g c =
    let length_is : c.len-id.result ≡ length c.args.self.now = (let e = ap length c.self.view_is in omega (arith, e, c.len-id.ensures, ap length c.reserve.ensures.items)) in
    let arena : c.new-arena.result ≡ empty_arena (length c.args.self.now) c.args.quantum c.args.policy = c.new-arena.ensures ∙ ap (λ n. empty_arena n c.args.quantum c.args.policy) length_is in
    let sound : IsSoundArena (empty_arena (length c.args.self.now) c.args.quantum c.args.policy) = subst IsSoundArena arena c.id.ensures.sound in
    let is : c.push_reserved.new.self.items ≡ c.args.self.now ++ new_space (length c.args.self.now) c.args.source c.args.quantum c.args.policy ∷ [] = search rules in
    subst IsStock (sym is) (arena_added c.args.self.now c.args.source c.args.quantum c.args.policy sound c.requires.source c.requires.few (subst IsStock c.self.view_is c.self.invariant))

pub returns-clause-frame : goal.returns-clause-frame
returns-clause-frame g c rest a =
    let length_is : c.len-id.result ≡ length c.args.self.now = (let e = ap length c.self.view_is in omega (arith, e, c.len-id.ensures, ap length c.reserve.ensures.items)) in
    let arena : c.new-arena.result ≡ empty_arena (length c.args.self.now) c.args.quantum c.args.policy = c.new-arena.ensures ∙ ap (λ n. empty_arena n c.args.quantum c.args.policy) length_is in
    let sound : IsSoundArena (empty_arena (length c.args.self.now) c.args.quantum c.args.policy) = subst IsSoundArena arena c.id.ensures.sound in
    let is : c.push_reserved.new.self.items ≡ c.args.self.now ++ new_space (length c.args.self.now) c.args.source c.args.quantum c.args.policy ∷ [] = grind (arith, common_steps) in
    subst (λ xs. Accounts xs rest) (sym is) (arena_balances c.args.self.now c.args.source c.args.quantum c.args.policy sound c.requires.source c.requires.few rest a)
