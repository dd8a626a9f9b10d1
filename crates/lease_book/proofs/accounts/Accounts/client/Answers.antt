use Rattle.std.proofs.Common.{◌≤◌, ◌<◌, length, arith}
use Rattle.lease_book.proofs.ShelfLemmas.{within_parts, client_at, past_none}
use Rattle.lease_book.proofs.accounts.Accounts.client.Goals as goal

pub unreachable-requires : goal.unreachable-requires
unreachable-requires g c =
    let within : c.args.index < length c.self.inside.clients.entries = (within_parts _ _ _ _ c.self.view_is c.self.invariant.shelf.together c.requires).0 in
    let past : length c.self.inside.clients.entries ≤ c.args.index = past_none _ _ c.in-None.ensures.entry in
    omega arith

pub returns : goal.returns
returns g c = client_at _ _ _ _ _ c.self.view_is c.self.invariant.shelf.together c.in-Some.ensures.entry
