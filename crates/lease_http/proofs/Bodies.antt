-- The bytes of answers.
use Rattle.std.proofs.Common.{◌≡◌, ◌∙◌, sym, ap, subst, ℕ, List, Bool}
use Rattle.lease_watch.specs.declared.looks.Looks.{Looks}
use Rattle.lease_watch.specs.declared.requests.Wanted.{Wanted}
use Rattle.lease_watch.specs.declared.rows.LeaseRow.{LeaseRow}
use Rattle.lease_watch.specs.declared.seen.Seen.{Seen}
use Rattle.lease_http.specs.Answers.{ShowsBody, ShowsBy, shown, looked}

-- what a look came to
abbrev pub Looked : (Seen → Type 0) → Looks → Seen → Looks → Type 0
Looked may_see old told new = (seen : Seen) × may_see seen × (new ≡ looked old seen) × (told ≡ shown new seen)

-- a text of it
pub shows_by : (may_see : Seen → Type 0) (text : Seen → List ℕ) (old new : Looks) (told : Seen) (body : List ℕ) → Looked may_see old told new → body ≡ text told → ShowsBy may_see text old body new
shows_by may_see text old new told body (seen, may, kept, is) made = (seen, may, kept, made ∙ ap text is)

module _ (may_see : Seen → Type 0) (may_count : ℕ → Type 0) (may_have : ℕ → List LeaseRow → Type 0) where
  pub shows_body : (w v : Wanted) (serves : Bool) (old new : Looks) (body : List ℕ) → w ≡ v → ShowsBody may_see may_count may_have v serves old body new → ShowsBody may_see may_count may_have w serves old body new
  shows_body w v serves old new body is shows = subst (λ (x : Wanted). ShowsBody may_see may_count may_have x serves old body new) (sym is) shows
