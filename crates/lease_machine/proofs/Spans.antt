-- The spans that arenas own go on.
use Rattle.std.proofs.Common.{◌≡◌, sym, subst, ap, ◌∙◌, List, [], ◌++◌, map, length, append_assoc}
use Rattle.std.specs.Prelude.{slice_get, Some}
use Rattle.std.proofs.lemmas.List.{append-nil, length-map}
use Rattle.deed_core.specs.Holding.{Holding}
use Rattle.deed_core.proofs.LawProofs.{mapped, slice_get_mapped}
use Rattle.lease_machine.specs.Laws.{SameSetupGrows, SetupGrowsOn}
use Rattle.lease_machine.specs.Picture.{Picture, SetupGrows, GoOn, owned_spans}

go_on_none : (spans : List Holding) → GoOn spans spans
go_on_none spans = ([], sym (append-nil spans))

go_on_then : (a b c : List Holding) → GoOn a b → GoOn b c → GoOn a c
go_on_then a b c first second = (first.0 ++ second.0, second.1 ∙ ap (λ (hs : List Holding). hs ++ second.0) first.1 ∙ append_assoc a first.0 second.0)

pub same_grows : SameSetupGrows
same_grows old new same = record {
  tree = same.tree;
  count = sym (length-map new.spaces owned_spans) ∙ ap length same.owned ∙ length-map old.spaces owned_spans;
  owned = λ k s at. (
      let there : slice_get (map owned_spans new.spaces) k ≡ Some (owned_spans s) = ap (λ (os : List (List Holding)). slice_get os k) same.owned ∙ slice_get_mapped owned_spans old.spaces k s at in
      let t = mapped owned_spans new.spaces k (owned_spans s) there in
      (t.0, t.1, subst (GoOn s.arena.owned) t.2 (go_on_none s.arena.owned))
      );
}

pub grows_none : (old new : Picture) → new ≡ old → SetupGrows old new
grows_none old new same = same_grows old new (record { tree = ap (λ (d : Picture). d.tree) same; owned = ap (λ (d : Picture). map owned_spans d.spaces) same })

pub grows_then : SetupGrowsOn
grows_then old mid new first second = record {
  tree = second.tree ∙ first.tree;
  count = second.count ∙ first.count;
  owned = λ k s at. (
      let t = first.owned k s at in
      let u = second.owned k t.0 t.1 in
      (u.0, u.1, go_on_then s.arena.owned t.0.arena.owned u.0.arena.owned t.2 u.2)
      );
}
