use Rattle.std.proofs.Common.{◌≡◌, ◌∙◌, refl, List, All, sym, subst, true, false, IsTrue}
use Rattle.stock.specs.Spaces.{SpaceState}
use Rattle.stock.specs.Stocks.{IsStock}
use Rattle.stock.specs.Accounts.{Accounts}
use Rattle.stock.specs.Endings.{IsBare, RoundsHaveUnits}
use Rattle.stock.proofs.Bare.{rounds_of}
use Rattle.stock.proofs.Ending.{ends_once_reaped, ends_with_nothing_out}
use Rattle.stock.proofs.stocks.Stock.close.Goals as goal

pub are_bare-requires : goal.are_bare-requires
are_bare-requires g c = record { rounds = subst (λ (xs : List SpaceState). All (λ s. RoundsHaveUnits s.caches) xs) (sym c.deref.ensures.value) (rounds_of c.self.inside.spaces.items c.self.invariant) }

pub returns-then-not-are_bare-clause-nothing_out : goal.returns-then-not-are_bare-clause-nothing_out
returns-then-not-are_bare-clause-nothing_out g c = λ out a reaped taken. (
  λ e. absurd (let no : false ≡ true = e in cc),
  λ none.
      let stock : IsStock c.args.self = subst IsStock c.self.view_is c.self.invariant in
      let bare : All IsBare c.args.self = ends_once_reaped c.args.self (record { stock = stock; accounts = subst (Accounts c.args.self) none a }) reaped taken in
      let own : All IsBare c.deref.result.now = subst (λ (s : List SpaceState). All IsBare s) (sym (c.deref.ensures.value ∙ c.self.view_is)) bare in
      let is : IsTrue c.are_bare.result = c.are_bare.ensures.1 own in
      absurd (let no : false ≡ true = sym c.if-not-are_bare.true ∙ is in cc),
)

pub returns-clause-nothing_out : goal.returns-clause-nothing_out
returns-clause-nothing_out g c = λ out a reaped taken. (
  λ e.
      let stock : IsStock c.args.self = subst IsStock c.self.view_is c.self.invariant in
      let bare : All IsBare c.args.self = subst (λ (s : List SpaceState). All IsBare s) (c.deref.ensures.value ∙ c.self.view_is) (c.are_bare.ensures.0 c.if-not-are_bare.false) in
      ends_with_nothing_out c.args.self out (record { stock = stock; accounts = a }) bare,
  λ none. refl,
)
