-- Each step keeps a stock accounted for.
use Rattle.std.proofs.Common.{◌≡◌, ℕ, ◌+◌, sym, subst, ap, List, [], ◌++◌, All, set, arith}
use Rattle.std.specs.Prelude.{sum_by}
use Rattle.std.proofs.lemmas.List.Sums.{sum_by-append}
use Rattle.std.proofs.lemmas.List.Elements.{All-nil, All-set}
use Rattle.deed_core.specs.Tag.{Tag}
use Rattle.deed_core.specs.Weights.{WeighSame}
use Rattle.deed_core.proofs.LawProofs.{all_at, sum_set, sum_by-flat_map}
use Rattle.stock.specs.Spaces.{SpaceState, HasCache}
use Rattle.stock.specs.Steps.{HasQuantum}
use Rattle.stock.specs.OwnCaches.{OwnCacheState, own_rounds, all_own_rounds}
use Rattle.stock.proofs.LawProofs.{out_weighs}
use Rattle.stock_audit.specs.Outside.{Outside, nothing_out, segments_out}
use Rattle.stock_audit.specs.Accounted.{IsOwnIn, IsAccountedFor}
use Rattle.stock_audit.specs.Keeping.{IsStep, OnCpu}
use Rattle.stock_audit.specs.Laws.{FreshIsAccounted, AccountedBalances, HandStepsKeep, SwapsKeep, PopsKeep, PushesKeep, ChangesKeep, LeasesKeep, ReleasesKeep, CpusKeep}
use Rattle.stock_audit.proofs.Standing.{accounted, own_kept}

pub fresh_is_accounted : FreshIsAccounted
fresh_is_accounted spaces a = accounted spaces nothing_out a.stock a.accounts (All-nil (IsOwnIn spaces))

pub accounted_balances : AccountedBalances
accounted_balances spaces out a = record { stock = a.parts; accounts = a.accounts }

-- what the rounds of CPUs weigh
abbrev rounds_weigh : (Tag → ℕ) → List OwnCacheState → ℕ
rounds_weigh f cpus = sum_by (λ o. sum_by f (own_rounds o)) cpus

-- what is out weighs
weight : (f : Tag → ℕ) (out : Outside) → sum_by f (segments_out out) ≡ sum_by f out.hands + sum_by f out.leases + rounds_weigh f out.cpus
weight f out = omega (
  arith,
  sum_by-append f out.hands (out.leases ++ all_own_rounds out.cpus),
  sum_by-append f out.leases (all_own_rounds out.cpus),
  sum_by-flat_map f own_rounds out.cpus,
)

-- where the stock is as it was, what is out weighs the same
stays : (spaces : List SpaceState) (before after : Outside) → IsAccountedFor spaces before → WeighSame (segments_out before) (segments_out after) → All (IsOwnIn spaces) after.cpus → IsAccountedFor spaces after
stays spaces before after a same cpus = accounted spaces after a.parts (out_weighs spaces (segments_out before) (segments_out after) same a.accounts) cpus

-- a step that is given some of what is out, and leaves the rest
step_keeps : (old new : List SpaceState) (given answered rest : List Tag) (before after : Outside) → IsAccountedFor old before → IsStep old given new answered
    → WeighSame (segments_out before) (given ++ rest) → WeighSame (answered ++ rest) (segments_out after) → All (IsOwnIn old) after.cpus → IsAccountedFor new after
step_keeps old new given answered rest before after a step gave took cpus = accounted new after step.stock
    (out_weighs new (answered ++ rest) (segments_out after) took (step.frame rest (out_weighs old (segments_out before) (given ++ rest) gave a.accounts)))
    (own_kept old new step.fixed after.cpus cpus)

pub hand_steps_keep : HandStepsKeep
hand_steps_keep old new given answered before after a step m =
    let left : List Tag = m.rest ++ (before.leases ++ all_own_rounds before.cpus) in
    let left_weighs : (f : Tag → ℕ) → sum_by f left ≡ sum_by f m.rest + sum_by f before.leases + rounds_weigh f before.cpus = λ f. omega (
      arith,
      sum_by-append f m.rest (before.leases ++ all_own_rounds before.cpus),
      sum_by-append f before.leases (all_own_rounds before.cpus),
      sum_by-flat_map f own_rounds before.cpus,
    ) in
    step_keeps old new given answered left before after a step
    (λ f. omega (arith, weight f before, left_weighs f, m.gave f, sum_by-append f given m.rest, sum_by-append f given left))
    (λ f. omega (arith, weight f after, left_weighs f, m.took f, sum_by-append f answered m.rest, sum_by-append f answered left, ap (sum_by f) m.leases, ap (rounds_weigh f) m.cpus))
    (subst (All (IsOwnIn old)) (sym m.cpus) a.cpus)

-- a CPU's cache with no round
abbrev emptied : OwnCacheState → OwnCacheState
emptied o = record { arena = o.arena; cache = o.cache; quantum = o.quantum; cpu = record { size = o.cpu.size; loaded = []; previous = [] } }

module _ (spaces : List SpaceState) (i : ℕ) (o p : OwnCacheState) (before after : Outside) (a : IsAccountedFor spaces before) (on : OnCpu i o p before after) where
  -- the CPU's cache is still of its quantum cache
  own : IsOwnIn spaces p
  own =
      let is = all_at (IsOwnIn spaces) before.cpus i o a.cpus on.at in
      record {
        own = on.own;
        has = subst (λ k. HasCache spaces k p.cache) (sym on.index.arena) (subst (HasCache spaces o.arena) (sym on.index.cache) is.has);
        quantum = subst (λ k. HasQuantum spaces k p.quantum) (sym on.index.arena) (subst (HasQuantum spaces o.arena) (sym on.index.quantum) is.quantum);
      }

  own_after : All (IsOwnIn spaces) after.cpus
  own_after = subst (All (IsOwnIn spaces)) (sym on.cpus) (All-set (IsOwnIn spaces) before.cpus i p own a.cpus)

  -- what the CPUs' rounds weigh then
  weighs_after : (f : Tag → ℕ) → rounds_weigh f after.cpus + sum_by f (own_rounds o) ≡ rounds_weigh f before.cpus + sum_by f (own_rounds p)
  weighs_after f = omega (arith, ap (sum_by (λ x. sum_by f (own_rounds x))) on.cpus, sum_set (λ x. sum_by f (own_rounds x)) before.cpus i o p on.at)

  -- what is out but for that cache's rounds
  abbrev others : List Tag
  others = before.hands ++ (before.leases ++ all_own_rounds (set before.cpus i (emptied o)))

  others_weigh : (f : Tag → ℕ) → sum_by f others + sum_by f (own_rounds o) ≡ sum_by f before.hands + sum_by f before.leases + rounds_weigh f before.cpus
  others_weigh f = omega (
    arith,
    sum_by-append f before.hands (before.leases ++ all_own_rounds (set before.cpus i (emptied o))),
    sum_by-append f before.leases (all_own_rounds (set before.cpus i (emptied o))),
    sum_by-flat_map f own_rounds (set before.cpus i (emptied o)),
    sum_set (λ x. sum_by f (own_rounds x)) before.cpus i o (emptied o) on.at,
  )

pub swaps_keep : SwapsKeep
swaps_keep old new i o p before after a step on hands =
    let rest : List Tag = others old i o p before after a on in
    step_keeps old new (own_rounds o) (own_rounds p) rest before after a step
    (λ f. omega (arith, weight f before, others_weigh old i o p before after a on f, sum_by-append f (own_rounds o) rest))
    (λ f. omega (arith, weight f after, others_weigh old i o p before after a on f, sum_by-append f (own_rounds p) rest, weighs_after old i o p before after a on f, ap (sum_by f) hands, ap (sum_by f) on.leases))
    (own_after old i o p before after a on)

pub pops_keep : PopsKeep
pops_keep spaces i o p t before after a m = stays spaces before after a
    (λ f. omega (arith, weight f before, weight f after, weighs_after spaces i o p before after a m.on f, m.rounds f, m.hands f, ap (sum_by f) m.on.leases))
    (own_after spaces i o p before after a m.on)

pub pushes_keep : PushesKeep
pushes_keep spaces i o p t before after a m = stays spaces before after a
    (λ f. omega (arith, weight f before, weight f after, weighs_after spaces i o p before after a m.on f, m.rounds f, m.hands f, ap (sum_by f) m.on.leases))
    (own_after spaces i o p before after a m.on)

pub changes_keep : ChangesKeep
changes_keep spaces i o p before after a m = stays spaces before after a
    (λ f. omega (arith, weight f before, weight f after, weighs_after spaces i o p before after a m.on f, m.rounds f, ap (sum_by f) m.hands, ap (sum_by f) m.on.leases))
    (own_after spaces i o p before after a m.on)

pub leases_keep : LeasesKeep
leases_keep spaces t before after a m = stays spaces before after a
    (λ f. omega (arith, weight f before, weight f after, m.hands f, m.leases f, ap (rounds_weigh f) m.cpus))
    (subst (All (IsOwnIn spaces)) (sym m.cpus) a.cpus)

pub releases_keep : ReleasesKeep
releases_keep spaces t before after a m = stays spaces before after a
    (λ f. omega (arith, weight f before, weight f after, m.hands f, m.leases f, ap (rounds_weigh f) m.cpus))
    (subst (All (IsOwnIn spaces)) (sym m.cpus) a.cpus)

pub cpus_keep : CpusKeep
cpus_keep spaces before after a m = stays spaces before after a
    (λ f. omega (
      arith,
      weight f before,
      weight f after,
      ap (sum_by f) m.hands,
      ap (sum_by f) m.leases,
      m.rounds f,
      sum_by-flat_map f own_rounds before.cpus,
      sum_by-flat_map f own_rounds after.cpus,
    ))
    m.own
