use Rattle.std.proofs.Common.{◌≡◌, ◌<◌, ◌∙◌, refl, ap, set, length, slice_get, Some, arith}
use Rattle.deed_core.proofs.LawProofs.{slice_get_some}
use Rattle.magazine_layer.specs.Depots.{after_tick}
use Rattle.lease_machine.specs.Operators.{with_depots_by}
use Rattle.stock_desk.proofs.FirstChanged.{first_changed, changed_here, changed_next, changed_length, changed_all}
use Rattle.stock_desk.proofs.depots.tick.Goals as goal

pub loop-arena-init : goal.loop-arena-init
loop-arena-init c = refl

pub tick_arena-requires : goal.tick_arena-requires
tick_arena-requires c =
    let same = ap length c.loop-arena.invariant ∙ changed_length (with_depots_by after_tick) c.loop-arena.arena c.args.stock.now in
    let count = c.count-arena-end.ensures.value in
    record { within = omega (arith, same, count) }

pub loop-arena-preserved : goal.loop-arena-preserved
loop-arena-preserved c =
    let count = c.count-arena-end.ensures.value in
    let within : c.loop-arena.arena < length c.args.stock.now = omega (arith, count) in
    let (s, at) = slice_get_some c.args.stock.now c.loop-arena.arena within in
    let here : slice_get c.loop-arena.stock c.loop-arena.arena ≡ Some s = ap (λ z. slice_get z c.loop-arena.arena) c.loop-arena.invariant ∙ changed_here (with_depots_by after_tick) c.loop-arena.arena c.args.stock.now ∙ at in
    c.tick_arena.ensures.ticked s here
    ∙ ap (λ z. set z c.loop-arena.arena (with_depots_by after_tick s)) c.loop-arena.invariant
    ∙ changed_next (with_depots_by after_tick) c.loop-arena.arena c.args.stock.now s at

pub returns : goal.returns
returns c =
    let count = c.count-arena-end.ensures.value in
    let all : c.loop-arena.arena ≡ length c.args.stock.now = omega (arith, count) in
    record { ticked = c.loop-arena.invariant ∙ ap (λ n. first_changed (with_depots_by after_tick) n c.args.stock.now) all ∙ changed_all (with_depots_by after_tick) c.args.stock.now }
