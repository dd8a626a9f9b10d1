use Rattle.std.proofs.Common.{rules}
use Rattle.lease_watch.specs.declared.requests.Wanted.TheVariants as wanted
use Rattle.lease_watch.specs.Metrics.{metrics_text}
use Rattle.lease_watch.specs.Pages.{page_text}
use Rattle.lease_http.proofs.Bodies.{shows_by, shows_body}
use Rattle.lease_http.proofs.showing.Showing.body.Goals as goal

pub returns-in_ok-page_text-in-Page : goal.returns-in_ok-page_text-in-Page
returns-in_ok-page_text-in-Page g c =
    let looks = c.args.self.now.looks in
    let may_see = g.V.View.may_see c.args.self.now.view.now in
    let may_count = g.V.View.may_count c.args.self.now.view.now in
    let may_have = g.V.View.may_have c.args.self.now.view.now in
    let items = c.in_ok-page_text-in-Page.field-0.items in
    shows_body may_see may_count may_have c.args.wanted.now wanted.Page c.args.serves looks c.in_ok-seen-in-Page.looks items (search rules)
    (shows_by may_see page_text looks c.in_ok-seen-in-Page.looks c.in_ok-seen-in-Page.seen items c.in_ok-seen-in-Page.ensures c.in_ok-page_text-in-Page.ensures)

pub returns-in_ok-metrics_text-in-Metrics : goal.returns-in_ok-metrics_text-in-Metrics
returns-in_ok-metrics_text-in-Metrics g c =
    let looks = c.args.self.now.looks in
    let may_see = g.V.View.may_see c.args.self.now.view.now in
    let may_count = g.V.View.may_count c.args.self.now.view.now in
    let may_have = g.V.View.may_have c.args.self.now.view.now in
    let items = c.in_ok-metrics_text-in-Metrics.field-0.items in
    shows_body may_see may_count may_have c.args.wanted.now wanted.Metrics c.args.serves looks c.in_ok-seen-in-Metrics.looks items (search rules)
    (shows_by may_see metrics_text looks c.in_ok-seen-in-Metrics.looks c.in_ok-seen-in-Metrics.seen items c.in_ok-seen-in-Metrics.ensures c.in_ok-metrics_text-in-Metrics.ensures)
