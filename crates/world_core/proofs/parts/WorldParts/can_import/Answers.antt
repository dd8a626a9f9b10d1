use Rattle.std.proofs.Common.{◌≡◌, ◌<◌, Some, length, sym, subst, ap, ◌∙◌, arith, rules}
use Rattle.std.specs.Prelude.{slice_get}
use Rattle.world_core.specs.WorldState.{WorldState, entries_of}
use Rattle.std.proofs.Common.{ℕ, refl}
use Rattle.deed_core.specs.Request.{IsGood, plain_of, rounding_of}
use Rattle.deed_core.specs.declared.requests.Request.{Request}
use Rattle.deed_core.proofs.LawProofs.{slice_get_some}
use Rattle.world_core.proofs.parts.WorldParts.can_import.Goals as goal

pub returns : goal.returns
returns g c =
    let w : WorldState = record { stock = c.self.inside.stock; names = c.self.inside.names.items; owners = c.self.inside.owners.items; caches = c.self.inside.caches.items; hands = c.self.inside.hands.items; tasks = c.self.inside.tasks.items; failed = c.self.inside.failed.items; book = c.self.inside.book; entries = entries_of c.self.inside.log.items; clients = c.self.inside.clients.items; requests = c.self.inside.requests.items; replies = c.self.inside.replies.items } in
    let view : w ≡ c.args.self.now = c.self.view_is in
    let within : c.args.child < length w.stock = omega arith in
    let space = slice_get_some w.stock c.args.child within in
    let at : slice_get c.args.self.now.stock c.args.child ≡ Some space.0 = ap (λ (x : WorldState). slice_get x.stock c.args.child) (sym view) ∙ space.1 in
    let quantum : space.0.arena.quantum ≡ c.quantum-quantum.result = c.quantum-quantum.ensures.value space.0 at in
    let home : c.in-Some-source.source ≡ c.in-Some.span.arena = omega arith in
    let source : space.0.source ≡ Some c.in-Some.span.arena = sym (c.in-Some-source.ensures.value space.0 space.1) ∙ ap Some home in
    let asks = c.plain-request.ensures.value in
    let good : IsGood space.0.arena.quantum (plain_of c.args.size) = subst (λ (q : Request). IsGood space.0.arena.quantum q) asks (subst (λ (n : ℕ). IsGood n c.plain-request.result) (sym quantum) (c.is_good.ensures.0 (search rules))) in
    let units : c.in-Some-units.units ≡ rounding_of space.0.arena.quantum c.args.size = c.in-Some-units.ensures.1 ∙ (λ j. rounding_of (sym quantum j) (asks j).size) in (
      λ yes. (
        c.in-Some.span,
        space.0,
        c.in-Some.ensures.some.0,
        at,
        record {
          source = source;
          route = c.in-Some.ensures.some.1;
          good = good;
          plain = record { align = refl; phase = refl; nocross = refl; min = refl; max = refl };
          room = omega (arith, units, c.len.ensures);
        },
      ),
      λ ready. refl,
    )
