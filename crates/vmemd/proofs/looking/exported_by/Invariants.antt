use Rattle.std.proofs.Common.{◌≡◌, fold}
use Rattle.std.specs.Prelude.{zip}
use Rattle.std.specs.Iterator.Adapters.{zip_first, zip_second}
use Rattle.std.specs.Slice.Iter.{iter_rest}
use Rattle.vmemd.specs.Watching.{exported_by, with_imports}
use Rattle.vmemd.proofs.looking.exported_by.Given as goal

-- what is left to add
abbrev pub invariant-loop-child : goal.invariant-loop-child
invariant-loop-child l =
    fold (with_imports l.source) l.exported (zip (iter_rest (zip_first l.child-iterator)) (iter_rest (zip_second l.child-iterator)))
    ≡ exported_by l.arenas l.sums l.source
