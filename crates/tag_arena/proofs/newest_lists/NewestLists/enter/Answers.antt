use Rattle.std.proofs.Common.{◌≡◌, ◌<◌, ℕ, sym, ap, ◌∙◌, refl, arith, subst, length, get_or, set, Option, None, Some, IfSome}
use Rattle.std.proofs.lemmas.List.{length-set}
use Rattle.tag_arena.specs.declared.newest_lists.Link.{Link}
use Rattle.tag_arena.specs.declared.short_indexes.TheConstants.{MOST_INDEXES}
use Rattle.tag_arena.specs.Linked.{ListsState, IsLinked, lists_room, newest_of}
use Rattle.tag_arena.proofs.Linking.{entered, head_within, IsWithin, within_more, relink_newer, wired_newer}
use Rattle.tag_arena.proofs.newest_lists.NewestLists.enter.Goals as goal
use Rattle.tag_arena.proofs.newest_lists.NewestLists.enter.Goals.{in-Some, in_default}

pub returns-clause-linked : goal.returns-clause-linked
returns-clause-linked c = λ kept old new linked timed vacant later becomes.
    let s = c.self.inside in
    let slot = c.args.slot in
    let power = c.args.tag.power in
    let l : ListsState = record { kept = s.kept; newest = s.newest; links = s.links.items } in
    let x : IsLinked l old = subst (λ v. IsLinked v old) (sym c.self.view_is) linked in
    let room : slot < lists_room l = subst (λ v. slot < lists_room v) (sym c.self.view_is) (c.requires.room kept) in
    let own : Option ℕ → Link = λ o. record { newer = None; older = o } in
    let seen : newest_of l power ≡ get_or s.newest c.power-list.result None = ap (λ p. get_or s.newest p None) (sym c.power-list.ensures) in
    let now = c.match-newest.self-inside in
    let l2 : ListsState = record { kept = now.kept; newest = set now.newest c.power-list.result (Some slot); links = now.links.items } in
    let listed : now.newest ≡ s.newest → set now.newest c.power-list.result (Some slot) ≡ set s.newest power (Some slot) = λ e. ap (λ ns. set ns c.power-list.result (Some slot)) e ∙ ap (λ p. set s.newest p (Some slot)) c.power-list.ensures in
    let put : Link = record { newer = c.none.result; older = c.to.result } in
    let short : IfSome (newest_of l power) (λ i. i < MOST_INDEXES) = within_more (lists_room l) MOST_INDEXES c.self.invariant.1 (newest_of l power)
    (head_within old new slot c.args.tag l x c.self.invariant.0 c.requires.power room (lists_room l) refl (newest_of l power) (x.heads power c.requires.power)) in
    let put_is : put ≡ own (newest_of l power) = ap (λ n. record { newer = n; older = c.to.result }) c.none.ensures ∙ ap own (c.to.ensures (subst (λ o. IfSome o (λ i. i < MOST_INDEXES)) seen short) ∙ sym seen) in
    elim c.match-newest.branch [
      | in-Some w ↦
          let h = w.in-Some.older in
          let head : newest_of l power ≡ Some h = seen ∙ w.in-Some.is in
          let links1 = set s.links.items slot put in
          let within : h < length links1 = subst (IsWithin (length links1)) head (head_within old new slot c.args.tag l x c.self.invariant.0 c.requires.power room (length links1) (length-set s.links.items slot put) (newest_of l power) (x.heads power c.requires.power)) in
          let wired = wired_newer links1 h w.to-in-Some.result w.index_mut-in-Some.result.now within w.index_mut-in-Some.ensures.value in
          entered old new slot c.args.tag l x c.self.invariant.0 c.requires.power room l2 (listed (ap (λ v. v.newest) w.self-inside-is))
          (ap (λ v. v.links.items) w.self-inside-is ∙ (wired ∙ (ap (relink_newer links1 (Some h)) (w.to-in-Some.ensures (omega (arith, room, c.self.invariant.1))) ∙ (ap (λ v. relink_newer (set s.links.items slot v) (Some h) (Some slot)) put_is ∙ ap (λ o. relink_newer (set s.links.items slot (own (newest_of l power))) o (Some slot)) (sym head)))))
          timed vacant later becomes
      | in_default w ↦
          let head : newest_of l power ≡ None = seen ∙ w.in_default.is in
          entered old new slot c.args.tag l x c.self.invariant.0 c.requires.power room l2 (listed (ap (λ v. v.newest) w.self-inside-is))
          (ap (λ v. v.links.items) w.self-inside-is ∙ (ap (set s.links.items slot) put_is ∙ ap (λ o. relink_newer (set s.links.items slot (own (newest_of l power))) o (Some slot)) (sym head)))
          timed vacant later becomes
    ]
