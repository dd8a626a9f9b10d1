-- What is said of a step from one picture to another, where it isn't said of their books, holds with
-- other books.
use Rattle.std.proofs.Common.{ℕ, inl, inr}
use Rattle.deed_core.specs.Tag.{Tag}
use Rattle.deed_core.specs.declared.requests.Request.{Request}
use Rattle.deed_core.specs.declared.segments.Route.{Route}
use Rattle.deed_core.specs.declared.segments.Route.TheVariants.{Direct, Cached}
use Rattle.arena_tree.specs.declared.trees.TreeArena.{TreeArena}
use Rattle.magazine_layer.specs.Magazines.{CpuCacheState}
use Rattle.lease_book.specs.BookState.{BookState}
use Rattle.lease_machine.specs.Picture.{Picture}
use Rattle.lease_machine.specs.Chunks.{OnSelected, GoesBack, GoesBackBy}
use Rattle.lease_machine.specs.Serving.{ServesWith, ServesNone, ComesFrom, CachesServe}
use Rattle.lease_machine.proofs.BookMoves.{rebooked}

module _ (old new : Picture) (b : BookState) where
  -- the second picture with another book
  selected_then : (k j : ℕ) (P : CpuCacheState → CpuCacheState → Type 0) → OnSelected k j P old new → OnSelected k j P old (rebooked new b)
  selected_then k j P on = record { others = record { numbers = on.others.numbers; others = on.others.others }; own = on.own }

  -- the first
  selected_from : (k j : ℕ) (P : CpuCacheState → CpuCacheState → Type 0) → OnSelected k j P old new → OnSelected k j P (rebooked old b) new
  selected_from k j P on = record { others = record { numbers = on.others.numbers; others = on.others.others }; own = on.own }

  goes_by : (r : Route) (t : Tag) → GoesBackBy r t old new → GoesBackBy r t (rebooked old b) new
  goes_by Direct t back = back
  goes_by (Cached number) t back = (
    back.0,
    back.1,
    back.2,
    back.3,
    elim back.4 [
      | inl round ↦ inl (round.0, selected_from t.arena back.0 _ round.1, round.2)
      | inr home ↦ inr (selected_from t.arena back.0 _ home.0, home.1)
    ],
  )

  pub goes_back_from : (t : Tag) → GoesBack t old new → GoesBack t (rebooked old b) new
  goes_back_from t back = (back.0, goes_by t.route t back.1)

  cached_then : (index : ℕ) (x : TreeArena) (q : Request) (t : Tag) → CachesServe index x q t old new → CachesServe index x q t old (rebooked new b)
  cached_then index x q t s = (
    s.0,
    s.1,
    s.2,
    elim s.3 [
      | inl round ↦ inl (round.0, selected_then index s.2.cache _ round.1, round.2)
      | inr rest ↦ inr (elim rest [
        | inl idle ↦ inl (selected_then index s.2.cache _ idle.0, idle.1)
        | inr lacks ↦ inr ((selected_then index s.2.cache _ lacks.0.0, lacks.0.1), lacks.1)
      ])
    ],
  )

  comes_then : (index : ℕ) (x : TreeArena) (q : Request) (t : Tag) → ComesFrom index x q t old new → ComesFrom index x q t old (rebooked new b)
  comes_then index x q t from = elim from [
    | inl carved ↦ inl carved
    | inr other ↦ inr (elim other [
      | inl climbed ↦ inl climbed
      | inr cached ↦ inr (cached.0, cached_then index x q t cached.1)
    ])
  ]

  pub serves_then : (index : ℕ) (x : TreeArena) (q : Request) (t : Tag) → ServesWith index x q t old new → ServesWith index x q t old (rebooked new b)
  serves_then index x q t s = record { arena = s.arena; fits = s.fits; from = comes_then index x q t s.from; names = s.names }

  pub none_then : (index : ℕ) (x : TreeArena) (q : Request) → ServesNone index x q old new → ServesNone index x q old (rebooked new b)
  none_then index x q s = record {
    none = s.none;
    spaces = s.spaces;
    cpus = elim s.cpus [
      | inl same ↦ inl same
      | inr looks ↦ inr (looks.0, (looks.1.0, looks.1.1, looks.1.2, selected_then index looks.1.2.cache _ looks.1.3))
    ];
    names = s.names;
  }
