-- When a request is refused for want of room.
use Rattle.std.specs.Prelude.{◌≡◌, ◌≢◌, ◌⊎◌, ℕ, ◌≤◌, List, [], ◌∷◌, All, Contains, slice_get}
use Rattle.std.specs.Prelude.{Some, Ok}
use Rattle.deed_core.specs.Holding.{Holding}
use Rattle.deed_core.specs.Tag.{Tag}
use Rattle.deed_core.specs.Request.{IsPlain, plain_of}
use Rattle.deed_core.specs.declared.requests.Request.{Request}
use Rattle.tag_arena.specs.ArenaState.{spans_of}
use Rattle.tag_arena.specs.Layout.{IsRun}
use Rattle.tag_arena.specs.Place.{ServesIn}
use Rattle.arena_tree.specs.declared.trees.TreeArena.{TreeArena}
use Rattle.arena_tree.specs.declared.levels.Level.{Level}
use Rattle.arena_tree.specs.Chains.{amount_of}
use Rattle.quantum_cache.specs.Caches.{chain_in}
use Rattle.stock.specs.Spaces.{SpaceState}
use Rattle.stock.specs.Endings.{IsReaped}
use Rattle.stock.specs.OwnCaches.{all_own_rounds}
use Rattle.lease_terms.specs.Requests.{RequestId}
use Rattle.lease_terms.specs.declared.refusals.Refusal.{Refusal}
use Rattle.lease_terms.specs.declared.refusals.Refusal.TheVariants.{NoFit}
use Rattle.lease_proto.specs.declared.lines.Line.TheVariants as lines
use Rattle.lease_proto.specs.declared.lines.HelloLine.{HelloLine}
use Rattle.lease_proto.specs.declared.lines.LeaseLine.{LeaseLine}
use Rattle.lease_proto.specs.declared.lines.Op.TheVariants as ops
use Rattle.lease_proto.specs.declared.operators.ServedLine.TheVariants as served
use Rattle.lease_proto.specs.declared.replies.Reply.{Reply}
use Rattle.lease_proto.specs.declared.replies.Reply.TheVariants as reply
use Rattle.lease_proto.specs.Frames.{Frame}
use Rattle.lease_proto.specs.Operators.{served_of}
use Rattle.lease_proto.specs.Requests.{demand_of}
use Rattle.lease_book.specs.BookState.{leased_segments, account_in}
use Rattle.lease_book.specs.Answers.{IsNew}
use Rattle.lease_machine.specs.Picture.{Picture, IsPicture, Finds, held_outside}
use Rattle.local_calls.specs.NoFits.{HasBaseUp}
use Rattle.lease_machine.specs.Serving.{CanServe, ServesWith}
use Rattle.lease_machine.specs.Machine.{LeaseStep, Grants}
use Rattle.lease_machine.specs.AnswerLaws.{reply_bytes, IsRequestLine}
use Rattle.lease_machine.specs.CpuLaws.{IsFresh}
use Rattle.lease_machine.specs.Laws.{Runs}

-- the request is refused so
abbrev pub refusal_to : RequestId → Refusal → Reply
refusal_to id why = reply.Refused (record { id = id; refusal = why })

-- a line with a lease of a new number was answered `nofit`
pub record FindsNoRoom (old new : Picture) (id : RequestId) (l : LeaseLine) : Type 0 where
  pub line : List ℕ
  pub text : List ℕ
  pub read : IsRequestLine line id (ops.Lease l)
  pub fresh : IsNew (account_in id.client old.book) id
  pub step : LeaseStep old line text new
  pub said : text ≡ reply_bytes (refusal_to id NoFit)

-- the line names the arena at the index, which is so
pub record NamesArena (d : Picture) (l : LeaseLine) (x : TreeArena) (s : SpaceState)
    : Type 0 where
  pub index : ℕ
  pub finds : Finds d l.arena index x
  pub here : slice_get d.spaces index ≡ Some s

-- then each run of free units inside one span is too short for what is asked, or stands wrong:
-- however the arena was used, and whether caches serve it or not
abbrev pub NoFitMeansTaken : Type 0
NoFitMeansTaken = (old new : Picture) (id : RequestId) (l : LeaseLine) (x : TreeArena)
    (s : SpaceState) → IsPicture old → NamesArena old l x s → FindsNoRoom old new id l
    → (run : Holding) (base : ℕ) → IsRun (spans_of s.arena) s.arena.allocated run
    → ¬ ServesIn x.quantum (demand_of l) run base

-- what served a request could serve it: a cache had the chunk, or an address of the arena or of one
-- of its sources was free
abbrev pub WhatServesCan : Type 0
WhatServesCan = (old new : Picture) (index : ℕ) (x : TreeArena) (q : Request) (t : Tag)
    → IsPicture old → slice_get old.tree index ≡ Some x → ServesWith index x q t old new
    → CanServe old index x q

-- so no picture lets one request be granted and be refused so
abbrev pub NeverGrantedAndRefused : Type 0
NeverGrantedAndRefused = (old new other : Picture) (id : RequestId) (l : LeaseLine) (r : Reply)
    → IsPicture old → Grants id l old new r → ¬ FindsNoRoom old other id l

-- nor does what any lines leave of a fresh one
abbrev pub RunsNeverGrantAndRefuse : Type 0
RunsNeverGrantAndRefuse = (start old new other : Picture) (frames : List Frame) (text : List ℕ)
    (id : RequestId) (l : LeaseLine) (r : Reply) → IsFresh start → Runs start frames text old
    → Grants id l old new r → ¬ FindsNoRoom old other id l

-- a run of free units of the arena at the index serves the request
abbrev pub HasRun : List SpaceState → ℕ → Request → Type 0
HasRun spaces index q = (s : SpaceState) × (slice_get spaces index ≡ Some s)
    × ((run : Holding) × (base : ℕ) × IsRun (spans_of s.arena) s.arena.allocated run
    × ServesIn s.arena.quantum q run base)

-- so does one of an arena of the chain: of the first so many units, of each other what the one
-- below it would import for them
abbrev pub HasRunUp : List SpaceState → List Level → ℕ → Type 0
HasRunUp spaces [] n = ⊥
HasRunUp spaces (l ∷ up) n =
    HasRun spaces l.id (plain_of n) ⊎ HasRunUp spaces up (amount_of l up n)

-- and where the request isn't constrained, none of a source serves what would be imported for it
abbrev pub NoFitMeansTakenUp : Type 0
NoFitMeansTakenUp = (old new : Picture) (id : RequestId) (l : LeaseLine) (x : TreeArena) (index : ℕ)
    → IsPicture old → Finds old l.arena index x → IsPlain (demand_of l) → FindsNoRoom old new id l
    → ¬ HasRunUp old.spaces (chain_in old.tree index) l.size

-- nothing is leased, no CPU and no depot has a round, and no slab is whole
pub record NothingIsKept (d : Picture) : Type 0 where
  pub leases : leased_segments d.book ≡ []
  pub rounds : all_own_rounds (held_outside d).cpus ≡ []
  pub reaped : All IsReaped d.spaces

-- and then what fits in a span that the arena owns isn't refused so, however all was used before
abbrev pub FreedIsWhole : Type 0
FreedIsWhole = (old new : Picture) (id : RequestId) (l : LeaseLine) (x : TreeArena)
    (s : SpaceState) → IsPicture old → NothingIsKept old → NamesArena old l x s
    → (span : Holding) (base : ℕ) → Contains s.arena.owned span
    → ServesIn x.quantum (demand_of l) span base → ¬ FindsNoRoom old new id l

-- With an empty book and empty caches, a hello, and then a lease that fits in a span that its arena
-- owns, whoever asks and by whatever number: it isn't answered `nofit`.
abbrev pub FirstLeaseIsServed : Type 0
FirstLeaseIsServed = (start mid new : Picture) (hello greeting lease text : List ℕ) (h : HelloLine)
    (id : RequestId) (l : LeaseLine) (x : TreeArena) (s : SpaceState) → IsPicture start
    → NothingIsKept start → start.book.accounts ≡ [] → NamesArena start l x s
    → served_of hello ≡ Ok (served.Client (lines.Hello h)) → LeaseStep start hello greeting mid
    → IsRequestLine lease id (ops.Lease l) → LeaseStep mid lease text new
    → (span : Holding) (base : ℕ) → Contains s.arena.owned span
    → ServesIn x.quantum (demand_of l) span base → text ≢ reply_bytes (refusal_to id NoFit)

-- where an arena of the chain has a base for so many units, and for what would be imported for
-- them, one has a base for fewer
abbrev pub FewerFitToo : Type 0
FewerFitToo = (d : Picture) (index n most : ℕ) → IsPicture d → n ≤ most
    → HasBaseUp d.spaces (chain_in d.tree index) most
    → HasBaseUp d.spaces (chain_in d.tree index) n
