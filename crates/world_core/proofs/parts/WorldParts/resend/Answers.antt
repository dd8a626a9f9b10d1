use Rattle.std.proofs.Common.{◌≡◌, ◌<◌, sym, subst, ap, ◌∙◌, length, Some, None, refl, arith}
use Rattle.std.specs.Prelude.{slice_get}
use Rattle.deed_core.proofs.LawProofs.{slice_get_here}
use Rattle.world_core.specs.WorldState.{WorldState, entries_of}
use Rattle.world_core.specs.Moves.{sent_again}
use Rattle.world_core.specs.Events.{EndsAs}
use Rattle.world_core.specs.declared.events.WorldEvent.TheVariants as events
use Rattle.world_core.specs.declared.events.Outcome.TheVariants.{Done}
use Rattle.world_core.proofs.PartLemmas.{onto, said_again}
use Rattle.world_core.proofs.parts.WorldParts.resend.Goals as goal

pub returns-in_default : goal.returns-in_default
returns-in_default g c =
    let w : WorldState = record { stock = c.self.inside.stock; names = c.self.inside.names.items; owners = c.self.inside.owners.items; caches = c.self.inside.caches.items; hands = c.self.inside.hands.items; tasks = c.self.inside.tasks.items; failed = c.self.inside.failed.items; book = c.self.inside.book; entries = entries_of c.self.inside.log.items; clients = c.self.inside.clients.items; requests = c.self.inside.requests.items; replies = c.self.inside.replies.items } in
    let view : w ≡ c.args.self.now = c.self.view_is in
    let within : c.args.client < length w.clients = omega arith in
    let here : slice_get w.clients c.args.client ≡ Some c.index.result.now = slice_get_here w.clients c.args.client c.index.result.now within c.index.ensures in
    let again : sent_again c.args.number c.index.result.now ≡ Some c.in-Some.line = sym c.sent_again.ensures ∙ c.in-Some.is in (
      (c.index.result.now, c.in-Some.line, ap (λ (v : WorldState). slice_get v.clients c.args.client) (sym view) ∙ here, again),
      (λ j. record w { requests = c.reserve.ensures.items j }) ∙ view,
    )

pub returns-in-Some : goal.returns-in-Some
returns-in-Some g c =
    let w : WorldState = record { stock = c.self.inside.stock; names = c.self.inside.names.items; owners = c.self.inside.owners.items; caches = c.self.inside.caches.items; hands = c.self.inside.hands.items; tasks = c.self.inside.tasks.items; failed = c.self.inside.failed.items; book = c.self.inside.book; entries = entries_of c.self.inside.log.items; clients = c.self.inside.clients.items; requests = c.self.inside.requests.items; replies = c.self.inside.replies.items } in
    let view : w ≡ c.args.self.now = c.self.view_is in
    let within : c.args.client < length w.clients = omega arith in
    let here : slice_get w.clients c.args.client ≡ Some c.index.result.now = slice_get_here w.clients c.args.client c.index.result.now within c.index.ensures in
    let again : sent_again c.args.number c.index.result.now ≡ Some c.in-Some.line = sym c.sent_again.ensures ∙ c.in-Some.is in
    let move = said_again w c.args.client c.args.number _ c.in-Some.line _ here again (onto _ _ _ _ c.push_reserved.ensures.items c.reserve.ensures.items) in
    subst (λ v. EndsAs (events.Repeats c.args.client c.args.number) Done v (record w { requests = c.push_reserved.new.self.items })) view move

pub returns-in-None : goal.returns-in-None
returns-in-None g c =
    let w : WorldState = record { stock = c.self.inside.stock; names = c.self.inside.names.items; owners = c.self.inside.owners.items; caches = c.self.inside.caches.items; hands = c.self.inside.hands.items; tasks = c.self.inside.tasks.items; failed = c.self.inside.failed.items; book = c.self.inside.book; entries = entries_of c.self.inside.log.items; clients = c.self.inside.clients.items; requests = c.self.inside.requests.items; replies = c.self.inside.replies.items } in
    let view : w ≡ c.args.self.now = c.self.view_is in
    let within : c.args.client < length w.clients = omega arith in
    let here : slice_get w.clients c.args.client ≡ Some c.index.result.now = slice_get_here w.clients c.args.client c.index.result.now within c.index.ensures in
    let none : sent_again c.args.number c.index.result.now ≡ None = sym c.sent_again.ensures ∙ c.in-None.is in
    ((c.index.result.now, ap (λ (v : WorldState). slice_get v.clients c.args.client) (sym view) ∙ here, none), refl)
