use Rattle.std.proofs.Common.{◌≡◌, ◌<◌, None, length, refl, subst, ap, ◌∙◌, arith}
use Rattle.std.specs.Prelude.{slice_get}
use Rattle.deed_core.proofs.LawProofs.{slice_get-set_other}
use Rattle.world_core.specs.WorldState.{WorldState, entries_of}
use Rattle.world_core.specs.Events.{EndsAs, HasInHand}
use Rattle.world_core.specs.declared.events.WorldEvent.TheVariants as events
use Rattle.world_core.specs.declared.events.Outcome.TheVariants.{Done}
use Rattle.world_core.proofs.AdoptLemmas.{adopts_hand}
use Rattle.world_core.proofs.parts.WorldParts.adopt_hand.Goals as goal

pub put-requires : goal.put-requires
put-requires g c =
    let w : WorldState = record { stock = c.self.inside.stock; names = c.self.inside.names.items; hands = c.self.inside.hands.items; tasks = c.self.inside.tasks.items; failed = c.self.inside.failed.items; owners = c.self.inside.owners.items; caches = c.self.inside.caches.items; book = c.self.inside.book; entries = entries_of c.self.inside.log.items; clients = c.self.inside.clients.items; requests = c.self.inside.requests.items; replies = c.self.inside.replies.items } in
    let view : w ≡ c.args.self.now = c.self.view_is in
    let empty : HasInHand w c.args.cpu None = ap (λ (x : WorldState). slice_get x.hands c.args.cpu) view ∙ c.requires.empty in
    let within : c.args.other < length w.failed = omega (arith, ap (λ (x : WorldState). length x.failed) view, c.requires.within) in
    record { empty = ap (λ hs. slice_get hs c.args.cpu) c.take-segment.ensures.emptied ∙ (slice_get-set_other w.hands c.args.other c.args.cpu None c.requires.apart ∙ empty) }

pub returns : goal.returns
returns g c =
    let w : WorldState = record { stock = c.self.inside.stock; names = c.self.inside.names.items; hands = c.self.inside.hands.items; tasks = c.self.inside.tasks.items; failed = c.self.inside.failed.items; owners = c.self.inside.owners.items; caches = c.self.inside.caches.items; book = c.self.inside.book; entries = entries_of c.self.inside.log.items; clients = c.self.inside.clients.items; requests = c.self.inside.requests.items; replies = c.self.inside.replies.items } in
    let view : w ≡ c.args.self.now = c.self.view_is in
    let empty : HasInHand w c.args.cpu None = ap (λ (x : WorldState). slice_get x.hands c.args.cpu) view ∙ c.requires.empty in
    let within : c.args.other < length w.failed = omega (arith, ap (λ (x : WorldState). length x.failed) view, c.requires.within) in
    let mid : WorldState = record w { hands = c.put.new.hands.items } in
    subst (λ x. EndsAs (events.Adopts c.args.cpu c.args.other) Done x c.fail.new.self) view
    (adopts_hand w c.args.cpu c.args.other c.requires.apart within empty c.take-segment.result c.take-segment.new.hands.items c.put.new.hands.items mid c.fail.new.self c.take-segment.ensures.held c.take-segment.ensures.emptied c.put.ensures refl c.fail.ensures)
