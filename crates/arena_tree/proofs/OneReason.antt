-- What is asked for is refused for one reason.
use Rattle.std.proofs.Common.{◌≡◌, ℕ, ◌<◌, ◌≤◌, List, length, slice_get, Option, Some, None, refl, sym, subst, ◌∙◌, inl, inr, arith}
use Rattle.deed_core.proofs.LawProofs.{slice_get_one}
use Rattle.arena_tree.specs.declared.limits.TheConstants.{MOST_SPANS, LONGEST_CHAIN}
use Rattle.arena_tree.specs.declared.levels.Level.{Level}
use Rattle.arena_tree.specs.declared.trees.TreeArena.{TreeArena}
use Rattle.arena_tree.specs.declared.setups.OwnedSpan.{OwnedSpan}
use Rattle.arena_tree.specs.declared.settings.NewRoot.{NewRoot}
use Rattle.arena_tree.specs.declared.settings.NewChild.{NewChild}
use Rattle.arena_tree.specs.declared.settings.NewSpan.{NewSpan}
use Rattle.arena_tree.specs.declared.settings.Setting.TheVariants.{Root, Child, Span}
use Rattle.arena_tree.specs.declared.setup_faults.SetupFault.{SetupFault}
use Rattle.arena_tree.specs.declared.setup_faults.SetupFault.TheVariants.{NameTaken, TooMany, NoArena, ChainTooLong, BadQuantum, BadCache, BadRange, NoMemory}
use Rattle.arena_tree.specs.Trees.{index_in, ChainFrom}
use Rattle.arena_tree.specs.Setups.{HasRoom, IsFull, HasSource, IsChildQuantum, RefusesRoot, RefusesChild}
use Rattle.arena_tree.specs.Settings.{SetupState, RefusesNewSpan, IsRoot, HasSpanRoom, CanSpan, BecomesSpan, new_range, span_count}
use Rattle.arena_tree.specs.Laws.{OneRefusal}
use Rattle.arena_tree.proofs.TreeLemmas.{chain_one}

found : {X : Type 0} {o : Option X} (x : X) → o ≡ Some x → o ≡ None → ⊥
found x some none = let e : Some x ≡ None = sym some ∙ none in cc

-- a name has one index
one_index : {o : Option ℕ} (i j : ℕ) → o ≡ Some i → o ≡ Some j → i ≡ j
one_index i j at there = let e : Some i ≡ Some j = sym at ∙ there in cc

not_full : (arenas : List TreeArena) (name : List ℕ) → IsFull arenas name → HasRoom arenas name → ⊥
not_full arenas name full room = let most = full.1 in let less = room.1 in omega (arith, most, less)

has_source : (arenas : List TreeArena) (c : NewChild) → IsChildQuantum arenas c → HasSource arenas c
has_source arenas c is = ((is.1).0, (is.1).1, (is.1).2)

no_source_there : (arenas : List TreeArena) (c : NewChild) → index_in c.source arenas ≡ None → HasSource arenas c → ⊥
no_source_there arenas c none has = found has.0 (has.2).finds none

-- a chain that takes one more isn't too long
not_long : (arenas : List TreeArena) (c : NewChild) (id : ℕ) (up : List Level) → index_in c.source arenas ≡ Some id → ChainFrom arenas (Some id) up → LONGEST_CHAIN ≤ length up → HasSource arenas c → ⊥
not_long arenas c id up finds chain long has =
    let short = (has.2).short in
    let same : has.0 ≡ id = one_index has.0 id (has.2).finds finds in
    let other : ChainFrom arenas (Some id) short.0 = subst (λ k. ChainFrom arenas (Some k) short.0) same short.1 in
    let one : up ≡ short.0 = chain_one arenas (Some id) up short.0 chain other in
    let less : length up < LONGEST_CHAIN = subst (λ (ls : List Level). length ls < LONGEST_CHAIN) (sym one) short.2 in
    omega (arith, long, less)

-- an arena that imports is no root
no_root : (s : SetupState) (n : NewSpan) → RefusesNewSpan s n NoArena → (id : ℕ) (x : TreeArena) → index_in n.name s.arenas ≡ Some id → IsRoot s.arenas id x → ⊥
no_root s n why id x finds root = elim why [
  | inl none ↦ found id finds none
  | inr imports ↦
      let same : imports.0 ≡ id = one_index imports.0 id imports.3 finds in
      let there : slice_get s.arenas id ≡ Some imports.1 = subst (λ k. slice_get s.arenas k ≡ Some imports.1) same imports.4 in
      let one : x ≡ imports.1 = slice_get_one s.arenas id x imports.1 root.here there in
      found imports.2 imports.5 (subst (λ (z : TreeArena). z.source ≡ None) one root.root)
]

not_many : (s : SetupState) (n : NewSpan) (id : ℕ) → index_in n.name s.arenas ≡ Some id → MOST_SPANS ≤ span_count id s.spans → (id' : ℕ) (x : TreeArena) → HasSpanRoom s n id' x → ⊥
not_many s n id finds most id' x room =
    let same : id' ≡ id = one_index id' id room.finds finds in
    let less : span_count id s.spans < MOST_SPANS = subst (λ k. span_count k s.spans < MOST_SPANS) same room.few in
    omega (arith, most, less)

can_there : (s : SetupState) (n : NewSpan) (id : ℕ) (x : TreeArena) → HasSpanRoom s n id x → (o : OwnedSpan) → BecomesSpan s n o → CanSpan s id x (new_range n)
can_there s n id x room o is =
    let same : o.arena ≡ id = one_index o.arena id is.room.finds room.finds in
    let there : slice_get s.arenas id ≡ Some is.arena = subst (λ k. slice_get s.arenas k ≡ Some is.arena) same is.room.root.here in
    let one : is.arena ≡ x = slice_get_one s.arenas id is.arena x there room.root.here in
    subst (λ (z : TreeArena). CanSpan s id z (new_range n)) one (subst (λ k. CanSpan s k is.arena (new_range n)) same is.can)

one_root : (arenas : List TreeArena) (r : NewRoot) (f g : SetupFault) → RefusesRoot arenas r f → RefusesRoot arenas r g → f ≡ g
one_root arenas r NameTaken NameTaken p q = refl
one_root arenas r NameTaken TooMany p q = absurd (found p.0 p.1 q.0)
one_root arenas r NameTaken NoArena p q = absurd q
one_root arenas r NameTaken ChainTooLong p q = absurd q
one_root arenas r NameTaken BadQuantum p q = absurd (found p.0 p.1 (q.0).0)
one_root arenas r NameTaken BadCache p q = absurd (found p.0 p.1 (q.0).0)
one_root arenas r NameTaken BadRange p q = absurd (found p.0 p.1 (q.0).0)
one_root arenas r NameTaken NoMemory p q = absurd (found p.0 p.1 (q.room).0)
one_root arenas r TooMany NameTaken p q = absurd (found q.0 q.1 p.0)
one_root arenas r TooMany TooMany p q = refl
one_root arenas r TooMany NoArena p q = absurd q
one_root arenas r TooMany ChainTooLong p q = absurd q
one_root arenas r TooMany BadQuantum p q = absurd (not_full arenas r.name p q.0)
one_root arenas r TooMany BadCache p q = absurd (not_full arenas r.name p q.0)
one_root arenas r TooMany BadRange p q = absurd (not_full arenas r.name p q.0)
one_root arenas r TooMany NoMemory p q = absurd (not_full arenas r.name p q.room)
one_root arenas r NoArena g p q = absurd p
one_root arenas r ChainTooLong g p q = absurd p
one_root arenas r BadQuantum NameTaken p q = absurd (found q.0 q.1 (p.0).0)
one_root arenas r BadQuantum TooMany p q = absurd (not_full arenas r.name q p.0)
one_root arenas r BadQuantum NoArena p q = absurd q
one_root arenas r BadQuantum ChainTooLong p q = absurd q
one_root arenas r BadQuantum BadQuantum p q = refl
one_root arenas r BadQuantum BadCache p q = absurd (p.1 q.1)
one_root arenas r BadQuantum BadRange p q = absurd (p.1 q.1)
one_root arenas r BadQuantum NoMemory p q = absurd (p.1 q.power)
one_root arenas r BadCache NameTaken p q = absurd (found q.0 q.1 (p.0).0)
one_root arenas r BadCache TooMany p q = absurd (not_full arenas r.name q p.0)
one_root arenas r BadCache NoArena p q = absurd q
one_root arenas r BadCache ChainTooLong p q = absurd q
one_root arenas r BadCache BadQuantum p q = absurd (q.1 p.1)
one_root arenas r BadCache BadCache p q = refl
one_root arenas r BadCache BadRange p q = absurd (p.2 q.2)
one_root arenas r BadCache NoMemory p q = absurd (p.2 q.caches)
one_root arenas r BadRange NameTaken p q = absurd (found q.0 q.1 (p.0).0)
one_root arenas r BadRange TooMany p q = absurd (not_full arenas r.name q p.0)
one_root arenas r BadRange NoArena p q = absurd q
one_root arenas r BadRange ChainTooLong p q = absurd q
one_root arenas r BadRange BadQuantum p q = absurd (q.1 p.1)
one_root arenas r BadRange BadCache p q = absurd (q.2 p.2)
one_root arenas r BadRange BadRange p q = refl
one_root arenas r BadRange NoMemory p q = absurd (p.3 q.range)
one_root arenas r NoMemory NameTaken p q = absurd (found q.0 q.1 (p.room).0)
one_root arenas r NoMemory TooMany p q = absurd (not_full arenas r.name q p.room)
one_root arenas r NoMemory NoArena p q = absurd q
one_root arenas r NoMemory ChainTooLong p q = absurd q
one_root arenas r NoMemory BadQuantum p q = absurd (q.1 p.power)
one_root arenas r NoMemory BadCache p q = absurd (q.2 p.caches)
one_root arenas r NoMemory BadRange p q = absurd (q.3 p.range)
one_root arenas r NoMemory NoMemory p q = refl

one_child : (arenas : List TreeArena) (c : NewChild) (f g : SetupFault) → RefusesChild arenas c f → RefusesChild arenas c g → f ≡ g
one_child arenas c NameTaken NameTaken p q = refl
one_child arenas c NameTaken TooMany p q = absurd (found p.0 p.1 q.0)
one_child arenas c NameTaken NoArena p q = absurd (found p.0 p.1 (q.0).0)
one_child arenas c NameTaken ChainTooLong p q = absurd (found p.0 p.1 (q.0).0)
one_child arenas c NameTaken BadQuantum p q = absurd (found p.0 p.1 (q.0).0)
one_child arenas c NameTaken BadCache p q = absurd (found p.0 p.1 (q.0).0)
one_child arenas c NameTaken BadRange p q = absurd q
one_child arenas c NameTaken NoMemory p q = absurd (found p.0 p.1 (q.room).0)
one_child arenas c TooMany NameTaken p q = absurd (found q.0 q.1 p.0)
one_child arenas c TooMany TooMany p q = refl
one_child arenas c TooMany NoArena p q = absurd (not_full arenas c.name p q.0)
one_child arenas c TooMany ChainTooLong p q = absurd (not_full arenas c.name p q.0)
one_child arenas c TooMany BadQuantum p q = absurd (not_full arenas c.name p q.0)
one_child arenas c TooMany BadCache p q = absurd (not_full arenas c.name p q.0)
one_child arenas c TooMany BadRange p q = absurd q
one_child arenas c TooMany NoMemory p q = absurd (not_full arenas c.name p q.room)
one_child arenas c NoArena NameTaken p q = absurd (found q.0 q.1 (p.0).0)
one_child arenas c NoArena TooMany p q = absurd (not_full arenas c.name q p.0)
one_child arenas c NoArena NoArena p q = refl
one_child arenas c NoArena ChainTooLong p q = absurd (found (q.1).0 (q.1).2 p.1)
one_child arenas c NoArena BadQuantum p q = absurd (no_source_there arenas c p.1 q.1)
one_child arenas c NoArena BadCache p q = absurd (no_source_there arenas c p.1 (has_source arenas c (q.1)))
one_child arenas c NoArena BadRange p q = absurd q
one_child arenas c NoArena NoMemory p q = absurd (no_source_there arenas c p.1 (has_source arenas c (q.quantum)))
one_child arenas c ChainTooLong NameTaken p q = absurd (found q.0 q.1 (p.0).0)
one_child arenas c ChainTooLong TooMany p q = absurd (not_full arenas c.name q p.0)
one_child arenas c ChainTooLong NoArena p q = absurd (found (p.1).0 (p.1).2 q.1)
one_child arenas c ChainTooLong ChainTooLong p q = refl
one_child arenas c ChainTooLong BadQuantum p q = absurd (not_long arenas c (p.1).0 (p.1).1 (p.1).2 (p.1).3 (p.1).4 q.1)
one_child arenas c ChainTooLong BadCache p q = absurd (not_long arenas c (p.1).0 (p.1).1 (p.1).2 (p.1).3 (p.1).4 (has_source arenas c (q.1)))
one_child arenas c ChainTooLong BadRange p q = absurd q
one_child arenas c ChainTooLong NoMemory p q = absurd (not_long arenas c (p.1).0 (p.1).1 (p.1).2 (p.1).3 (p.1).4 (has_source arenas c (q.quantum)))
one_child arenas c BadQuantum NameTaken p q = absurd (found q.0 q.1 (p.0).0)
one_child arenas c BadQuantum TooMany p q = absurd (not_full arenas c.name q p.0)
one_child arenas c BadQuantum NoArena p q = absurd (no_source_there arenas c q.1 p.1)
one_child arenas c BadQuantum ChainTooLong p q = absurd (not_long arenas c (q.1).0 (q.1).1 (q.1).2 (q.1).3 (q.1).4 p.1)
one_child arenas c BadQuantum BadQuantum p q = refl
one_child arenas c BadQuantum BadCache p q = absurd (p.2 q.1)
one_child arenas c BadQuantum BadRange p q = absurd q
one_child arenas c BadQuantum NoMemory p q = absurd (p.2 q.quantum)
one_child arenas c BadCache NameTaken p q = absurd (found q.0 q.1 (p.0).0)
one_child arenas c BadCache TooMany p q = absurd (not_full arenas c.name q p.0)
one_child arenas c BadCache NoArena p q = absurd (no_source_there arenas c q.1 (has_source arenas c (p.1)))
one_child arenas c BadCache ChainTooLong p q = absurd (not_long arenas c (q.1).0 (q.1).1 (q.1).2 (q.1).3 (q.1).4 (has_source arenas c (p.1)))
one_child arenas c BadCache BadQuantum p q = absurd (q.2 p.1)
one_child arenas c BadCache BadCache p q = refl
one_child arenas c BadCache BadRange p q = absurd q
one_child arenas c BadCache NoMemory p q = absurd (p.2 q.caches)
one_child arenas c BadRange g p q = absurd p
one_child arenas c NoMemory NameTaken p q = absurd (found q.0 q.1 (p.room).0)
one_child arenas c NoMemory TooMany p q = absurd (not_full arenas c.name q p.room)
one_child arenas c NoMemory NoArena p q = absurd (no_source_there arenas c q.1 (has_source arenas c (p.quantum)))
one_child arenas c NoMemory ChainTooLong p q = absurd (not_long arenas c (q.1).0 (q.1).1 (q.1).2 (q.1).3 (q.1).4 (has_source arenas c (p.quantum)))
one_child arenas c NoMemory BadQuantum p q = absurd (q.2 p.quantum)
one_child arenas c NoMemory BadCache p q = absurd (q.2 p.caches)
one_child arenas c NoMemory BadRange p q = absurd q
one_child arenas c NoMemory NoMemory p q = refl

one_span : (s : SetupState) (n : NewSpan) (f g : SetupFault) → RefusesNewSpan s n f → RefusesNewSpan s n g → f ≡ g
one_span s n NameTaken g p q = absurd p
one_span s n TooMany NameTaken p q = absurd q
one_span s n TooMany TooMany p q = refl
one_span s n TooMany NoArena p q = absurd (no_root s n q p.0 p.1 p.2 p.3)
one_span s n TooMany ChainTooLong p q = absurd q
one_span s n TooMany BadQuantum p q = absurd q
one_span s n TooMany BadCache p q = absurd q
one_span s n TooMany BadRange p q = absurd (not_many s n p.0 p.2 p.4 q.0 q.1 q.2)
one_span s n TooMany NoMemory p q = absurd (not_many s n p.0 p.2 p.4 (q.0).arena (q.1).arena (q.1).room)
one_span s n NoArena NameTaken p q = absurd q
one_span s n NoArena TooMany p q = absurd (no_root s n p q.0 q.1 q.2 q.3)
one_span s n NoArena NoArena p q = refl
one_span s n NoArena ChainTooLong p q = absurd q
one_span s n NoArena BadQuantum p q = absurd q
one_span s n NoArena BadCache p q = absurd q
one_span s n NoArena BadRange p q = absurd (no_root s n p q.0 q.1 (q.2).finds (q.2).root)
one_span s n NoArena NoMemory p q = absurd (no_root s n p (q.0).arena (q.1).arena (q.1).room.finds (q.1).room.root)
one_span s n ChainTooLong g p q = absurd p
one_span s n BadQuantum g p q = absurd p
one_span s n BadCache g p q = absurd p
one_span s n BadRange NameTaken p q = absurd q
one_span s n BadRange TooMany p q = absurd (not_many s n q.0 q.2 q.4 p.0 p.1 p.2)
one_span s n BadRange NoArena p q = absurd (no_root s n q p.0 p.1 (p.2).finds (p.2).root)
one_span s n BadRange ChainTooLong p q = absurd q
one_span s n BadRange BadQuantum p q = absurd q
one_span s n BadRange BadCache p q = absurd q
one_span s n BadRange BadRange p q = refl
one_span s n BadRange NoMemory p q = absurd (p.3 (can_there s n p.0 p.1 p.2 q.0 q.1))
one_span s n NoMemory NameTaken p q = absurd q
one_span s n NoMemory TooMany p q = absurd (not_many s n q.0 q.2 q.4 (p.0).arena (p.1).arena (p.1).room)
one_span s n NoMemory NoArena p q = absurd (no_root s n q (p.0).arena (p.1).arena (p.1).room.finds (p.1).room.root)
one_span s n NoMemory ChainTooLong p q = absurd q
one_span s n NoMemory BadQuantum p q = absurd q
one_span s n NoMemory BadCache p q = absurd q
one_span s n NoMemory BadRange p q = absurd (q.3 (can_there s n q.0 q.1 q.2 p.0 p.1))
one_span s n NoMemory NoMemory p q = refl

pub one_refusal : OneRefusal
one_refusal s (Root r) f g p q = one_root s.arenas r f g p q
one_refusal s (Child c) f g p q = one_child s.arenas c f g p q
one_refusal s (Span n) f g p q = one_span s n f g p q
