-- What operators' lines come to for a picture.
use Rattle.std.proofs.Common.{◌≡◌, ℕ, refl, sym, subst, ap, inl, List, [], map, Result, Ok, Err, OnErr}
use Rattle.magazine_layer.specs.Depots.{after_tick}
use Rattle.lease_proto.specs.Cpus.{IsCpu}
use Rattle.lease_proto.specs.Reports.{ok_text, outcome_text}
use Rattle.lease_proto.specs.declared.faults.ErrorWord.{ErrorWord}
use Rattle.lease_proto.specs.declared.operators.OperatorLine.TheVariants as operator
use Rattle.lease_proto.specs.declared.operators.GrowLine.{GrowLine}
use Rattle.lease_proto.specs.declared.operators.ResizeLine.{ResizeLine}
use Rattle.lease_proto.specs.Operators.{rounds_named}
use Rattle.lease_call.specs.Growing.{AsksGrowth, TellsGrowth}
use Rattle.lease_book.specs.BookState.{BookState}
use Rattle.arena_tree.specs.declared.trees.TreeArena.{TreeArena}
use Rattle.stock.specs.Spaces.{SpaceState}
use Rattle.stock_audit.specs.Keeping.{IsStep}
use Rattle.lease_machine.specs.Picture.{NumberedCpu, Picture, IsPicture, IsBookOf, SameSetup, IsHeld}
use Rattle.lease_machine.specs.Operators.{GrowsAt, Resizes, with_depots_by, with_cpu}
use Rattle.lease_machine.proofs.LawProofs.{ticks_keep, resizes_keep, grows_keep, selected_is_picture}
use Rattle.stock_desk.specs.Operators.{StaysPicture, IsPerformed}
use Rattle.stock_desk.specs.Supplies.{SupplyState, picture_with}

pub keeps_none : (d : Picture) → IsPicture d → StaysPicture d d
keeps_none d is = record { setup = record { tree = refl; owned = refl }; picture = is }

-- where all but the history stays as it must
pub keeps_held : (b : BookState) (old new : SupplyState) → IsPicture (picture_with b old) → IsHeld [] (picture_with b new) → SameSetup (picture_with b old) (picture_with b new) → StaysPicture (picture_with b old) (picture_with b new)
keeps_held b old new is held setup = record {
  setup = setup;
  picture = record { held = held; book = subst (λ tree. IsBookOf tree b) (sym setup.tree) is.book };
}

pub keeps_selected : (d : Picture) (n : ℕ) → IsPicture d → IsCpu n → StaysPicture d (record d { cpus = with_cpu n d; selected = n })
keeps_selected d n is in_range = record { setup = record { tree = refl; owned = refl }; picture = selected_is_picture d n is in_range }

pub keeps_ticked : (d : Picture) → IsPicture d → StaysPicture d (record d { spaces = map (with_depots_by after_tick) d.spaces })
keeps_ticked d is = let kept = ticks_keep d is in record { setup = kept.1; picture = kept.0 }

module _ (b : BookState) (s : SupplyState) (text : List ℕ) (is : IsPicture (picture_with b s)) where
  pub selected_so : (n : ℕ) (cs : List NumberedCpu) → IsCpu n → text ≡ ok_text → cs ≡ with_cpu n (picture_with b s) → IsPerformed (operator.Cpu n) (picture_with b s) text (picture_with b (record s { cpus = cs; selected = n }))
  selected_so n cs in_range said made = record {
    performs = (said, ap (λ (xs : List NumberedCpu). picture_with b (record s { cpus = xs; selected = n })) made);
    kept = subst (λ (xs : List NumberedCpu). StaysPicture (picture_with b s) (picture_with b (record s { cpus = xs; selected = n }))) (sym made) (keeps_selected (picture_with b s) n is in_range);
  }

  pub ticked_so : (spaces : List SpaceState) → text ≡ ok_text → spaces ≡ map (with_depots_by after_tick) s.spaces → IsPerformed operator.Tick (picture_with b s) text (picture_with b (record s { spaces = spaces }))
  ticked_so spaces said made = record {
    performs = (said, ap (λ (xs : List SpaceState). picture_with b (record s { spaces = xs })) made);
    kept = subst (λ (xs : List SpaceState). StaysPicture (picture_with b s) (picture_with b (record s { spaces = xs }))) (sym made) (keeps_ticked (picture_with b s) is);
  }

  pub resized_so : (r : ResizeLine) (spaces : List SpaceState) → Resizes r.arena (rounds_named r.size) (picture_with b s) text (picture_with b (record s { spaces = spaces })) → IsPerformed (operator.Resize r) (picture_with b s) text (picture_with b (record s { spaces = spaces }))
  resized_so r spaces resizes =
      let kept = resizes_keep (picture_with b s) (picture_with b (record s { spaces = spaces })) r text is resizes in
      record { performs = resizes; kept = record { setup = kept.1; picture = kept.0 } }

  pub grown_so : (g : GrowLine) (spaces : List SpaceState) (told : Result (Unit {0}) ErrorWord) → text ≡ outcome_text told → TellsGrowth GrowsAt s.tree g (picture_with b s) told (picture_with b (record s { spaces = spaces })) → IsStep s.spaces [] spaces []
      → IsPerformed (operator.Grow g) (picture_with b s) text (picture_with b (record s { spaces = spaces }))
  grown_so g spaces told said tells step =
      let kept = grows_keep (picture_with b s) (picture_with b (record s { spaces = spaces })) g text is (told, said, tells) step in
      record { performs = (told, said, tells); kept = record { setup = kept.1; picture = kept.0 } }

-- where there is no such root, or no such range, nothing grows
pub none_asked : (g : GrowLine) (w : ErrorWord) (d : Picture) (tree : List TreeArena) (spaces : List SpaceState) → AsksGrowth tree g (Err w) → d.tree ≡ tree → d.spaces ≡ spaces → TellsGrowth GrowsAt d.tree g d (Err w) (record d { spaces = spaces })
none_asked g w d tree spaces asks named here = inl (w, subst (λ (t : List TreeArena). AsksGrowth t g (Err w)) (sym named) asks, refl, ap (λ (ss : List SpaceState). record d { spaces = ss }) (sym here))

pub on_err_map : {A E : Type 0} (r : Result A E) (P Q : Type 0) → (P → Q) → OnErr r P → OnErr r Q
on_err_map (Ok x) P Q f p = tt
on_err_map (Err e) P Q f p = f p
