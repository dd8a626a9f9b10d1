use Rattle.std.proofs.Common.{◌≡◌, ◌≢◌, [], sym, subst, ap, ◌∙◌, ◌∷◌, ◌++◌}
use Rattle.lease_client.specs.ClientState.{ClientState}
use Rattle.world_core.specs.WorldState.{WorldState, entries_of, Each}
use Rattle.world_core.specs.IsWorld.{IsWorld}
use Rattle.world_core.proofs.PartLemmas.{onto}
use Rattle.world_core.proofs.SetupLemmas.{client_added}
use Rattle.world_core.proofs.worlds.World.add_client.Goals as goal

pub invariant_of-self-2 : goal.invariant_of-self-2
invariant_of-self-2 g c =
    let w : WorldState = record { stock = c.parts.inside.stock; names = c.parts.inside.names.items; owners = c.parts.inside.owners.items; caches = c.parts.inside.caches.items; hands = c.parts.inside.hands.items; tasks = c.parts.inside.tasks.items; failed = c.parts.inside.failed.items; book = c.parts.inside.book; entries = entries_of c.parts.inside.log.items; clients = c.parts.inside.clients.items; requests = c.parts.inside.requests.items; replies = c.parts.inside.replies.items } in
    let inner : w ≡ c.self.inside.parts = c.parts.view_is in
    let view : w ≡ c.args.self.now = inner ∙ c.self.view_is in
    let is = subst IsWorld (sym inner) c.self.invariant in
    client_added w c.args.id _ is (ap (λ (x : WorldState). x.entries) view ∙ c.requires.entries) (ap (λ (x : WorldState). x.requests) view ∙ c.requires.requests)
    (subst (λ (x : WorldState). Each (λ (y : ClientState). y.id ≢ c.args.id) x.clients) (sym view) c.requires.fresh) c.get.ensures.range
    (onto _ _ _ _ c.push_reserved.ensures.items c.reserve.ensures.items ∙ ap (λ (y : ClientState). w.clients ++ y ∷ []) c.new.ensures)
