use Rattle.std.proofs.Common.{◌≡◌, ◌<◌, sym, ap, ◌∙◌, subst, length, set, None, Some}
use Rattle.std.proofs.lemmas.List.{get_or_default}
use Rattle.tag_arena.specs.Linked.{ListsState, IsLinked, IsNextNewer, IsNextOlder, lists_room, link_at}
use Rattle.tag_arena.proofs.Linking.{struck, newer_within, older_within, relink_newer, relink_older, relinked_older, wired_newer, wired_older}
use Rattle.tag_arena.proofs.newest_lists.NewestLists.strike.Goals as goal
use Rattle.tag_arena.proofs.newest_lists.NewestLists.strike.Goals.{in-Some, in-None}

pub returns-in-Some-get-clause-linked : goal.returns-in-Some-get-clause-linked
returns-in-Some-get-clause-linked c = λ kept old new linked timed here becomes.
    let s = c.self.inside in
    let slot = c.args.slot in
    let t = c.args.tag in
    let l : ListsState = record { kept = s.kept; newest = s.newest; links = s.links.items } in
    let x : IsLinked l old = subst (λ v. IsLinked v old) (sym c.self.view_is) linked in
    let link : c.index.result.now ≡ link_at l.links slot = c.index.ensures ∙ get_or_default l.links slot c.index.result.now (record { newer = None; older = None }) (x.within slot t here) in
    let o = c.in-Some-get.older in
    let seen : c.index.result.now.older ≡ Some o = sym c.get-2.ensures ∙ c.in-Some-get.is in
    let y_is : Some o ≡ (link_at l.links slot).older = sym seen ∙ ap (λ v. v.older) link in
    let o_within : o < lists_room l = older_within old new slot t l x c.self.invariant.0 c.requires.power (Some o) (subst (IsNextOlder old t) (sym y_is) (x.older slot t here)) in
    let now = c.match-get.self-inside in
    let last = c.index_mut-in-Some-get in
    let l2 : ListsState = record { kept = now.kept; newest = now.newest; links = set now.links.items o (record { newer = c.index.result.now.newer; older = last.result.now.older }) } in
    elim c.match-get.branch [
      | in-Some w ↦
          let n = w.in-Some.newer in
          let n_is : Some n ≡ (link_at l.links slot).newer = sym w.in-Some.is ∙ (c.get.ensures ∙ ap (λ v. v.newer) link) in
          let n_within : n < lists_room l = newer_within old new slot t l x c.self.invariant.0 c.requires.power (Some n) (subst (IsNextNewer old t) (sym n_is) (x.newer slot t here)) in
          let links1 = relink_older l.links (Some n) (Some o) in
          let first : now.links.items ≡ links1 = ap (λ v. v.links.items) w.self-inside-is ∙ (wired_older l.links n c.index.result.now.older w.index_mut.result.now n_within w.index_mut.ensures.value ∙ ap (relink_older l.links (Some n)) seen) in
          let wired = wired_newer now.links.items o c.index.result.now.newer last.result.now (subst (λ m. o < m) (sym (ap length first ∙ relinked_older l.links (Some o) (Some n))) o_within) last.ensures.value in
          struck old new slot t l x c.self.invariant.0 c.requires.power l2 (Some n) (Some o) n_is y_is (ap (λ v. v.newest) w.self-inside-is)
          (wired ∙ (ap (λ ls. relink_newer ls (Some o) c.index.result.now.newer) first ∙ ap (relink_newer links1 (Some o)) (sym c.get.ensures ∙ w.in-Some.is))) timed here becomes
      | in-None w ↦
          let n_is : None ≡ (link_at l.links slot).newer = sym w.in-None.is ∙ (c.get.ensures ∙ ap (λ v. v.newer) link) in
          let first : now.links.items ≡ l.links = ap (λ v. v.links.items) w.self-inside-is in
          let wired = wired_newer now.links.items o c.index.result.now.newer last.result.now (subst (λ m. o < m) (sym (ap length first)) o_within) last.ensures.value in
          struck old new slot t l x c.self.invariant.0 c.requires.power l2 None (Some o) n_is y_is
          (ap (λ v. v.newest) w.self-inside-is ∙ (ap (λ p. set s.newest p w.get-in-None.result) w.power.ensures ∙ ap (set s.newest t.power) (w.get-in-None.ensures ∙ seen)))
          (wired ∙ (ap (λ ls. relink_newer ls (Some o) c.index.result.now.newer) first ∙ ap (relink_newer l.links (Some o)) (sym c.get.ensures ∙ w.in-None.is))) timed here becomes
    ]

pub returns-in_default-clause-linked : goal.returns-in_default-clause-linked
returns-in_default-clause-linked c = λ kept old new linked timed here becomes.
    let s = c.self.inside in
    let slot = c.args.slot in
    let t = c.args.tag in
    let l : ListsState = record { kept = s.kept; newest = s.newest; links = s.links.items } in
    let x : IsLinked l old = subst (λ v. IsLinked v old) (sym c.self.view_is) linked in
    let link : c.index.result.now ≡ link_at l.links slot = c.index.ensures ∙ get_or_default l.links slot c.index.result.now (record { newer = None; older = None }) (x.within slot t here) in
    let seen : c.index.result.now.older ≡ None = sym c.get-2.ensures ∙ c.in_default.is in
    let y_is : None ≡ (link_at l.links slot).older = sym seen ∙ ap (λ v. v.older) link in
    elim c.match-get.branch [
      | in-Some w ↦
          let n = w.in-Some.newer in
          let n_is : Some n ≡ (link_at l.links slot).newer = sym w.in-Some.is ∙ (c.get.ensures ∙ ap (λ v. v.newer) link) in
          let n_within : n < lists_room l = newer_within old new slot t l x c.self.invariant.0 c.requires.power (Some n) (subst (IsNextNewer old t) (sym n_is) (x.newer slot t here)) in
          let now = c.match-get.self-inside in
          struck old new slot t l x c.self.invariant.0 c.requires.power (record { kept = now.kept; newest = now.newest; links = now.links.items }) (Some n) None n_is y_is (ap (λ v. v.newest) w.self-inside-is)
          (ap (λ v. v.links.items) w.self-inside-is ∙ (wired_older l.links n c.index.result.now.older w.index_mut.result.now n_within w.index_mut.ensures.value ∙ ap (relink_older l.links (Some n)) seen)) timed here becomes
      | in-None w ↦
          let n_is : None ≡ (link_at l.links slot).newer = sym w.in-None.is ∙ (c.get.ensures ∙ ap (λ v. v.newer) link) in
          let now = c.match-get.self-inside in
          struck old new slot t l x c.self.invariant.0 c.requires.power (record { kept = now.kept; newest = now.newest; links = now.links.items }) None None n_is y_is
          (ap (λ v. v.newest) w.self-inside-is ∙ (ap (λ p. set s.newest p w.get-in-None.result) w.power.ensures ∙ ap (set s.newest t.power) (w.get-in-None.ensures ∙ seen)))
          (ap (λ v. v.links.items) w.self-inside-is) timed here becomes
    ]
