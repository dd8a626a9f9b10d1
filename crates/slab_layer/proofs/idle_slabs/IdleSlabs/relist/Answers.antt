use Rattle.std.proofs.Common.{◌≡◌, ◌++◌, arith, sym, ◌∙◌, ap}
use Rattle.slab_layer.specs.Standings.{lists_partial, lists_complete}
use Rattle.slab_layer.specs.Bases.{IdleState, base_if, bases_where}
use Rattle.slab_layer.proofs.ListedLemmas.{bases_around, room_listed}
use Rattle.slab_layer.proofs.idle_slabs.IdleSlabs.relist.Goals as goal

pub relist-requires-clause-place : goal.relist-requires-clause-place
relist-requires-clause-place c =
    let place = c.requires.place in
    let is = ap (λ (s : IdleState). s.partial) c.self.view_is ∙ place.3.partial in
    (bases_where lists_partial place.0, bases_where lists_partial place.1, bases_around lists_partial place.0 c.args.base place.1 place.2, rw c.is_partial.ensures is)

pub relist-requires-clause-room : goal.relist-requires-clause-room
relist-requires-clause-room c = λ out comes.
    let place = c.requires.place in
    let is = ap (λ (s : IdleState). s.partial) c.self.view_is ∙ place.3.partial in
    let room = ap (λ (s : IdleState). s.room) c.self.view_is in
    room_listed lists_partial place.0 c.args.base place.1 c.self.inside.partial.items (lists_partial c.args.was) c.self.inside.partial.room is (sym c.is_partial.ensures ∙ out) (omega (arith, place.4, room))

pub relist-requires-2-clause-place : goal.relist-requires-2-clause-place
relist-requires-2-clause-place c =
    let place = c.requires.place in
    let is = ap (λ (s : IdleState). s.complete) c.self.view_is ∙ place.3.complete in
    (bases_where lists_complete place.0, bases_where lists_complete place.1, bases_around lists_complete place.0 c.args.base place.1 place.2, rw c.is_complete.ensures is)

pub relist-requires-2-clause-room : goal.relist-requires-2-clause-room
relist-requires-2-clause-room c = λ out comes.
    let place = c.requires.place in
    let is = ap (λ (s : IdleState). s.complete) c.self.view_is ∙ place.3.complete in
    let room = ap (λ (s : IdleState). s.room) c.self.view_is in
    room_listed lists_complete place.0 c.args.base place.1 c.self.inside.complete.items (lists_complete c.args.was) c.self.inside.complete.room is (sym c.is_complete.ensures ∙ out) (omega (arith, place.4, room))

pub returns-clause-lists : goal.returns-clause-lists
returns-clause-lists c = λ low high beside lists.
    let partial : c.self.inside.partial.items ≡ bases_where lists_partial low ++ (base_if c.is_partial.result c.args.base ++ bases_where lists_partial high) = rw c.is_partial.ensures (ap (λ (s : IdleState). s.partial) c.self.view_is ∙ lists.partial) in
    let complete : c.self.inside.complete.items ≡ bases_where lists_complete low ++ (base_if c.is_complete.result c.args.base ++ bases_where lists_complete high) = rw c.is_complete.ensures (ap (λ (s : IdleState). s.complete) c.self.view_is ∙ lists.complete) in
    record {
      partial = rw (← c.is_partial-2.ensures) (c.relist.ensures.items (bases_where lists_partial low) (bases_where lists_partial high) (bases_around lists_partial low c.args.base high beside) partial);
      complete = rw (← c.is_complete-2.ensures) (c.relist-2.ensures.items (bases_where lists_complete low) (bases_where lists_complete high) (bases_around lists_complete low c.args.base high beside) complete);
    }
