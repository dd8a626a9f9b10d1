use Rattle.std.proofs.Common.{◌≡◌, ◌<◌, List, Option, length, sym, subst, ap, ◌∙◌, arith}
use Rattle.deed_core.proofs.LawProofs.{slice_get_some}
use Rattle.deed_core.specs.Tag.{Tag}
use Rattle.stock_audit.specs.Outside.{out_of}
use Rattle.stock.specs.OwnCaches.{all_own_rounds, OwnCacheState}
use Rattle.stock_audit.specs.Audits.{IsTally, units_of_arena_in}
use Rattle.stock_audit.specs.declared.audits.UnitsOut.{UnitsOut}
use Rattle.world_core.specs.WorldState.{WorldState, in_hands, outside_of, entries_of}
use Rattle.world_core.specs.IsWorld.{IsWorld}
use Rattle.world_core.proofs.AuditLemmas.{tallied, rounds_fit}
use Rattle.world_core.proofs.parts.WorldParts.units_out.Goals as goal

pub returns : goal.returns
returns g c =
    let w : WorldState = record { stock = c.self.inside.stock; names = c.self.inside.names.items; owners = c.self.inside.owners.items; caches = c.self.inside.caches.items; hands = c.self.inside.hands.items; tasks = c.self.inside.tasks.items; failed = c.self.inside.failed.items; book = c.self.inside.book; entries = entries_of c.self.inside.log.items; clients = c.self.inside.clients.items; requests = c.self.inside.requests.items; replies = c.self.inside.replies.items } in
    let view : w ≡ c.args.self.now = c.self.view_is in
    let world : IsWorld w = subst IsWorld (sym view) c.requires.world in
    let within : c.args.arena < length w.stock = omega (arith, world.named, ap (λ (x : WorldState). length x.names) view, c.requires.within) in
    let hand : c.units_in_hands.result ≡ units_of_arena_in c.args.arena (in_hands w.hands) = c.units_in_hands.ensures ∙ ap (λ (hands : List (Option Tag)). units_of_arena_in c.args.arena (in_hands hands)) c.deref-2.ensures.value in
    let s = slice_get_some w.stock c.args.arena within in
    let rounds : c.rounds_units.result ≡ units_of_arena_in c.args.arena (all_own_rounds w.caches) = omega (arith, rounds_fit w world c.args.arena s.0 s.1, c.arena_report.ensures.span s.0 s.1, c.rounds_units.ensures, ap (λ (cs : List OwnCacheState). units_of_arena_in c.args.arena (all_own_rounds cs)) c.deref.ensures.value) in
    let out : UnitsOut = record { rounds = c.rounds_units.result; leased = c.units.result; hand = c.units_in_hands.result } in
    subst (λ (x : WorldState). IsTally c.args.arena (out_of (outside_of x)) out) view (tallied w c.args.arena out rounds c.units.ensures.value hand)
