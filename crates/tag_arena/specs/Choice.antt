-- What a policy chooses among the free ranges, which stand from the oldest to the newest.
use Rattle.std.specs.Prelude.{◌≡◌, ℕ, ◌+◌, ◌*◌, ◌^◌, ◌<◌, ◌≤◌, ◌⊎◌, List, Contains, HoldsAt, Option}
use Rattle.std.specs.Prelude.{Some, None, length, MatchOption}
use Rattle.std.specs.List.{AllWithin}
use Rattle.deed_core.specs.Holding.{Holding}
use Rattle.deed_core.specs.Request.{IsPlain, rounding_of}
use Rattle.deed_core.specs.declared.requests.Request.{Request}
use Rattle.tag_arena.specs.declared.policies.Policy.{Policy}
use Rattle.tag_arena.specs.declared.policies.Policy.TheVariants.{Best, Next, Instant}
use Rattle.tag_arena.specs.Place.{IsLeast, Serves, ServesIn}

-- of two ranges with an address each, the first comes no later: by length, then by base, then
-- by address
abbrev pub ComesFirst : Holding → ℕ → Holding → ℕ → Type 0
ComesFirst r a s b = (r.range.len < s.range.len)
    ⊎ ((r.range.len ≡ s.range.len)
    × ((r.range.base < s.range.base) ⊎ ((r.range.base ≡ s.range.base) × (a ≤ b))))

-- the range, one of those that serve, has the least length, then the least base, and base is
-- the least address that serves in it
pub record IsBest (quantum : ℕ) (q : Request) (free : List Holding) (range : Holding)
    (base : ℕ) : Type 0 where
  pub among : Contains free range
  pub serves : ServesIn quantum q range base
  pub least : (r : Holding) (b : ℕ) → Contains free r → ServesIn quantum q r b
      → ComesFirst range base r b

-- the best address, or none where no address serves
abbrev pub IsBestChoice : ℕ → Request → List Holding → Option ℕ → Type 0
IsBestChoice quantum q free None = (base : ℕ) → Serves quantum q free base → ⊥
IsBestChoice quantum q free (Some base) = (range : Holding) × IsBest quantum q free range base

-- the least address at or past the rover that serves, else the least address that serves
abbrev pub IsNextChoice : ℕ → Request → List Holding → ℕ → Option ℕ → Type 0
IsNextChoice quantum q free rover choice =
    (past : Option ℕ) × IsLeast (λ b. Serves quantum q free b × (rover ≤ b)) past
    × MatchOption past (IsLeast (Serves quantum q free) choice) (λ b. choice ≡ Some b)

-- the range has 2 ^ i to 2 ^ (i + 1) - 1 quanta: it is on the i-th power-of-two list
abbrev pub OnList : ℕ → Holding → ℕ → Type 0
OnList quantum r i = (2 ^ i * quantum ≤ r.range.len) × (r.range.len < 2 ^ (i + 1) * quantum)

-- each member of list i has room for len units
abbrev pub ListServes : ℕ → ℕ → ℕ → Type 0
ListServes quantum len i = len ≤ 2 ^ i * quantum

-- the newest range on the least non-empty list whose every member has room for len units
pub record IsInstant (quantum len : ℕ) (free : List Holding) (range : Holding) : Type 0 where
  pub list : ℕ
  pub large : ListServes quantum len list
  pub least : (r : Holding) (i : ℕ) → Contains free r → OnList quantum r i
      → ListServes quantum len i → list ≤ i
  pub index : ℕ
  pub within : index < length free
  pub here : HoldsAt (λ r. r ≡ range) free index
  pub on_list : OnList quantum range list
  pub newest : AllWithin (λ r. OnList quantum r list → ⊥) free (index + 1) (length free)

-- no list whose every member has room has a member
abbrev pub NoListServes : ℕ → ℕ → List Holding → Type 0
NoListServes quantum len free = (r : Holding) (i : ℕ) → Contains free r → OnList quantum r i
    → ListServes quantum len i → ⊥

-- of a request with no constraint the base of the newest member of that list, and else, or
-- where there is no such list, the best choice
abbrev pub IsInstantChoice : ℕ → Request → List Holding → Option ℕ → Type 0
IsInstantChoice quantum q free choice =
    let len = rounding_of quantum q.size in
    (IsPlain q
    × ((range : Holding) × IsInstant quantum len free range × (choice ≡ Some range.range.base)))
    ⊎ ((IsPlain q → NoListServes quantum len free) × IsBestChoice quantum q free choice)

-- what the policy chooses: an address, or none exactly where no address serves
abbrev pub IsChoice : Policy → ℕ → Request → List Holding → ℕ → Option ℕ → Type 0
IsChoice Best quantum q free rover choice = IsBestChoice quantum q free choice
IsChoice Next quantum q free rover choice = IsNextChoice quantum q free rover choice
IsChoice Instant quantum q free rover choice = IsInstantChoice quantum q free choice
