use Rattle.std.proofs.Common.{sym, ◌∙◌}
use Rattle.std.specs.Iterator.Adapters.{zip_first, zip_second}
use Rattle.std.specs.Slice.Iter.{iter_rest}
use Rattle.std.proofs.lemmas.Slice.Zip.{either_empty_from_Zip}
use Rattle.vmemd.specs.Watching.{with_imports}
use Rattle.vmemd.proofs.WatchLemmas.{zip_ends}
use Rattle.vmemd.proofs.looking.exported_by.Goals as goal

pub returns : goal.returns
returns c =
    let left = c.loop-child.child-iterator in
    let ends = either_empty_from_Zip left c.next.new.self c.next.result c.in-None.is c.next.ensures.steps in
    sym (zip_ends (with_imports c.args.source) c.loop-child.exported (iter_rest (zip_first left)) (iter_rest (zip_second left)) ends) ∙ c.loop-child.invariant
