-- What a setup gives is a picture, in which nothing is kept.
use Rattle.std.proofs.Common.{◌≡◌, refl, sym, subst, ap, ◌∙◌, List, [], ◌∷◌, length, All, arith}
use Rattle.std.specs.List.{flat_map}
use Rattle.std.proofs.lemmas.List.{append-nil}
use Rattle.deed_core.specs.Holding.{Holding}
use Rattle.deed_core.proofs.LawProofs.{all_from}
use Rattle.magazine_layer.specs.Depots.{depot_rounds}
use Rattle.arena_tree.specs.declared.trees.TreeArena.{TreeArena}
use Rattle.arena_tree.specs.Settings.{SetupState}
use Rattle.arena_tree.specs.Trees.{IsTree}
use Rattle.stock.specs.Accounts.{IsAccounted}
use Rattle.stock.specs.Endings.{IsReaped, IsReapedCache}
use Rattle.stock.specs.Setups.{IsSetUpFrom, numbered_deeds, plans_for}
use Rattle.stock.specs.Spaces.{SpaceState, QuantumCacheState}
use Rattle.stock.specs.OwnCaches.{all_own_rounds}
use Rattle.lease_book.specs.BookState.{BookState, IsHistory, segments_of_accounts}
use Rattle.lease_machine.specs.Picture.{NumberedCpu, Picture, IsPicture, caches_of, fresh_cpu}
use Rattle.lease_machine.specs.RoomLaws.{NothingIsKept}
use Rattle.lease_machine.proofs.LawProofs.{fresh_is_picture, fresh_cpu_fits}
use Rattle.stock_desk.specs.Openings.{IsOpenedFrom}

module _ (setup : SetupState) (deeds : List Holding) (spaces : List SpaceState) (up : IsSetUpFrom setup deeds 3 spaces) where
  -- no cache of it has anything
  all_reaped : All IsReaped spaces
  all_reaped = all_from IsReaped spaces (λ k s at. all_from IsReapedCache s.caches (λ j c among.
      (let new = (up.unused k s at).caches j c among in
      record {
        rounds = ap (λ (x : QuantumCacheState). depot_rounds x.depot) new;
        slabs = λ i s below. absurd (omega (arith, below, ap (λ (x : QuantumCacheState). length x.slab.slabs) new));
      })))

  module _ (tree : List TreeArena) (cpus : List NumberedCpu) (b : BookState) (named : tree ≡ setup.arenas) (one : cpus ≡ fresh_cpu 0 spaces ∷ []) (history : IsHistory [] b) where
    abbrev begun : List NumberedCpu → Picture
    begun cs = record { tree = tree; spaces = spaces; cpus = cs; selected = 0; book = b }

    pub begins_picture : IsTree setup.arenas → IsAccounted spaces [] → IsPicture (begun cpus)
    begins_picture is accounted =
        fresh_is_picture (begun cpus) (record {
          tree = subst IsTree (sym named) is;
          plans = up.plans ∙ ap plans_for (sym named);
          units = accounted;
          cpus = one;
          selected = refl;
          book = history;
        })

pub opened_unused : (setup : SetupState) (d : Picture) → IsOpenedFrom setup d → NothingIsKept d
opened_unused setup d is = record {
  leases = ap segments_of_accounts is.book.accounts;
  rounds = ap (λ (cs : List NumberedCpu). all_own_rounds (flat_map caches_of cs)) is.cpus ∙ ap all_own_rounds (append-nil (caches_of (fresh_cpu 0 d.spaces))) ∙ fresh_cpu_fits.none d.spaces 0;
  reaped = all_reaped setup (numbered_deeds setup.spans) d.spaces is.stock;
}
