use Rattle.std.proofs.Common.{◌≡◌, ℕ, ap, sym, subst, ◌∙◌, List, length}
use Rattle.world_core.specs.WorldState.{WorldState}
use Rattle.world_core.proofs.BookLemmas.{repeat_tellable}
use Rattle.world_core.proofs.parts.WorldParts.answered.Goals as goal
use Rattle.lease_history.specs.Told.{IsTellable}

pub reply_to-requires : goal.reply_to-requires
reply_to-requires g c =
    let again = rw c.in-Kept.is at c.requires.answer in
    let tell : IsTellable (length c.args.self.now.names) c.in-Kept.receipt.reply = repeat_tellable c.args.self.now c.args.id c.in-Kept.receipt c.requires.world again.0 in
    let same : c.args.self.now.names ≡ c.deref.result.now = sym (ap (λ (x : WorldState). x.names) c.self.view_is) ∙ sym c.deref.ensures.value in
    subst (IsTellable (length c.deref.result.now)) (sym c.reply.ensures.value) (subst (λ (names : List (List ℕ)). IsTellable (length names) c.in-Kept.receipt.reply) same tell)
