use Rattle.std.proofs.Common.{◌≡◌, ℕ, ◌≤◌, ◌++◌, List, [], map, replicate, length, Option, None, refl, sym, ap, ◌∙◌, arith}
use Rattle.std.proofs.lemmas.List.{length-map, length-replicate}
use Rattle.deed_core.specs.Tag.{Tag}
use Rattle.arena_tree.specs.declared.limits.TheConstants.{MOST_ARENAS}
use Rattle.arena_tree.specs.declared.trees.TreeArena.{TreeArena}
use Rattle.stock.specs.Spaces.{SpaceState, plan_of}
use Rattle.stock.specs.Setups.{plan_for}
use Rattle.world_core.specs.declared.tasks.Task.{Task}
use Rattle.world_core.specs.IsWorld.{IsWorld}
use Rattle.world_core.specs.WorldState.{WorldState, entries_of}
use Rattle.world_core.specs.Setups.{own_owners, own_caches}
use Rattle.world_core.proofs.SetupLemmas.{born}
use Rattle.world_core.proofs.MakingLemmas.{as_many, are_names, with_cpus}
use Rattle.world_core.proofs.OwnSetups.{with_own}
use Rattle.world_core.proofs.openings.World+PlainDeed.new.Goals as goal

pub invariant_of-result : goal.invariant_of-result
invariant_of-result c =
    let names : List (List ℕ) = c.in_ok-names.names.items in
    let stock : List SpaceState = c.in-Ok-plain_stock.stock in
    let arenas : List TreeArena = c.args.setup.now.arenas in
    let is : names ≡ map (λ x. x.name) arenas = c.in_ok-names.ensures.value ∙ ap (map (λ (x : TreeArena). x.name)) c.tree.ensures.value in
    let alike : map plan_of stock ≡ map plan_for arenas = c.in-Ok-plain_stock.ensures.set_up.plans in
    let count : length names ≡ length stock = as_many arenas names is ∙ sym (length-map arenas plan_for) ∙ sym (ap length alike) ∙ length-map stock plan_of in
    let few : length names ≤ MOST_ARENAS = (let f : length arenas ≤ MOST_ARENAS = c.tree.ensures.tree.few in let n : length names ≡ length arenas = as_many arenas names is in omega (arith, f, n)) in
    let w : WorldState = record { stock = stock; names = names; hands = []; tasks = []; failed = []; owners = []; caches = []; book = c.new-2.result; entries = entries_of c.new-3.result.items; clients = c.new-4.result.items; requests = c.new-5.result.items; replies = c.new-6.result.items } in
    let idle : IsWorld w = born stock names c.new-2.result [] [] [] [] [] c.new-3.result.items c.new-4.result.items c.new-5.result.items c.new-6.result.items c.count.ensures.stock c.in-Ok-plain_stock.ensures.nothing_out count few
    (are_names arenas names is c.tree.ensures.tree.names c.in_ok-names.ensures.names) c.new-2.ensures.empty refl refl refl refl refl c.new-3.ensures.items c.new-4.ensures.items c.new-5.ensures.items c.new-6.ensures.items in
    let hands = c.fill_empty-2.new.list.items in
    let handed : hands ≡ replicate c.args.cpus None = c.fill_empty-2.ensures ∙ ap (λ (xs : List (Option Tag)). xs ++ replicate c.args.cpus None) c.in_ok-hands.ensures.items in
    let working = with_cpus w c.args.cpus hands c.fill_empty.new.list.items c.in_ok-failed.failed.items idle handed
    (c.fill_empty.ensures ∙ ap (λ (xs : List (Option Task)). xs ++ replicate c.args.cpus None) c.in_ok-tasks.ensures.items) (c.in_ok-failed.ensures.items_if_clones_equal (λ y same. same)) in
    with_own (record w { hands = hands; tasks = c.fill_empty.new.list.items; failed = c.in_ok-failed.failed.items }) c.args.cpus arenas _ _ working (ap length handed ∙ length-replicate c.args.cpus None) c.tree.ensures.tree alike
    (c.in-Ok.ensures.owners ∙ ap (own_owners c.args.cpus) c.tree-2.ensures.value) (c.in-Ok.ensures.caches ∙ ap (own_caches c.args.cpus) c.tree-2.ensures.value)
