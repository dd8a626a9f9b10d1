use Rattle.std.proofs.Common.{◌≡◌, ◌∙◌, ap}
use Rattle.lease_watch.specs.declared.seen.Work.{Work}
use Rattle.lease_watch.specs.Looks.{after_look, since, work_of}
use Rattle.lease_http.proofs.showing.Showing.look.Goals as goal

pub returns : goal.returns
returns g c =
    let seen = c.in_ok-seen.seen in
    let work : c.work.result ≡ work_of seen = c.work.ensures in (
      seen,
      c.in_ok-seen.ensures,
      c.look-seen.ensures.kept ∙ ap (after_look c.args.self.now.looks) work,
      ap (λ (l : Work). record seen { lately = l }) (c.look-seen.ensures.value ∙ ap (since c.look-seen.new.self.older) work),
    )
