-- What a contract sees of a watched reader or writer.
use Rattle.std.specs.Prelude.{ℕ, Bool, List, Option}
use Rattle.lease_server.specs.declared.watching.Watched.{Watched}

-- the reader or writer itself
abbrev pub inner_of : {T : Type 0} → Watched T → T
inner_of w = w.inner

-- whether a call of it has failed
abbrev pub has_failed : {T : Type 0} → Watched T → Bool
has_failed w = w.failed

-- how many reads were asked of it, up to 2^64 - 1
abbrev pub reads_of : {T : Type 0} → Watched T → ℕ
reads_of w = w.reads

-- a reader and a writer: what is left to read, what was written, which has failed, and how often
-- was read
pub record Streams : Type 0 where
  pub unread : Option (List ℕ)
  pub written : Option (List ℕ)
  pub reader_failed : Bool
  pub writer_failed : Bool
  pub reads : ℕ

-- by what readers have left and writers hold
abbrev pub streams_of : {R W : Type 0} → (R → Option (List ℕ)) → (W → Option (List ℕ))
    → Watched R → Watched W → Streams
streams_of remaining contents reader writer = record {
  unread = remaining reader.inner;
  written = contents writer.inner;
  reader_failed = reader.failed;
  writer_failed = writer.failed;
  reads = reader.reads;
}
