-- The families of samples, and the homes of units. Families that count up end in `_total`.
use Rattle.std.specs.Prelude.{ℕ, List, [], ◌∷◌, codes}
use Rattle.lease_watch.specs.declared.families.Family.{Family}
use Rattle.lease_watch.specs.declared.families.Family.TheVariants as family
use Rattle.lease_watch.specs.declared.families.Home.{Home}
use Rattle.lease_watch.specs.declared.families.Home.TheVariants as home
use Rattle.lease_watch.specs.declared.words.Word.{Word}
use Rattle.lease_watch.specs.declared.words.Word.TheVariants as word

unfoldable pub name_of : Family → List ℕ
name_of family.Build = codes "vmemd_build_info"
name_of family.Uptime = codes "vmemd_uptime_seconds"
name_of family.Clients = codes "vmemd_clients"
name_of family.Leases = codes "vmemd_leases"
name_of family.Connections = codes "vmemd_connections"
name_of family.ConnectionsTotal = codes "vmemd_connections_total"
name_of family.ConnectionsRefused = codes "vmemd_connections_refused_total"
name_of family.ConnectionsFailed = codes "vmemd_connections_failed_total"
name_of family.CpuWaits = codes "vmemd_cpu_waits_total"
name_of family.Lines = codes "vmemd_lines_total"
name_of family.Replies = codes "vmemd_replies_total"
name_of family.Refusals = codes "vmemd_refusals_total"
name_of family.Setups = codes "vmemd_arena_info"
name_of family.Units = codes "vmemd_units"

unfoldable pub kind_of : Family → List ℕ
kind_of family.Build = codes "gauge"
kind_of family.Uptime = codes "gauge"
kind_of family.Clients = codes "gauge"
kind_of family.Leases = codes "gauge"
kind_of family.Connections = codes "gauge"
kind_of family.ConnectionsTotal = codes "counter"
kind_of family.ConnectionsRefused = codes "counter"
kind_of family.ConnectionsFailed = codes "counter"
kind_of family.CpuWaits = codes "counter"
kind_of family.Lines = codes "counter"
kind_of family.Replies = codes "counter"
kind_of family.Refusals = codes "counter"
kind_of family.Setups = codes "gauge"
kind_of family.Units = codes "gauge"

unfoldable pub help_of : Family → List ℕ
help_of family.Build = codes "The version of the server."
help_of family.Uptime = codes "Seconds since the server started."
help_of family.Clients = codes "Clients that ever said hello."
help_of family.Leases = codes "Leases that are held."
help_of family.Connections = codes "Connections that are served."
help_of family.ConnectionsTotal = codes "Connections that were ever served."
help_of family.ConnectionsRefused = codes "Connections that were turned away."
help_of family.ConnectionsFailed =
    codes "Connections that ended for want of memory or a thread."
help_of family.CpuWaits = codes "Lines that waited for a CPU."
help_of family.Lines = codes "Lines of clients, by first word."
help_of family.Replies = codes "Replies, by first word."
help_of family.Refusals = codes "Refused requests, by reason."
help_of family.Setups = codes "How an arena was set up."
help_of family.Units = codes "Units of an arena, by where they are; span is all of them."

-- the words that the samples of a family have, a sample each
abbrev pub words_of : Family → List Word
words_of family.Lines = word.Hello ∷ word.Lease ∷ word.Release ∷ []
words_of family.Replies =
    word.Welcome ∷ word.Granted ∷ word.Released ∷ word.Refused ∷ word.Old ∷ word.Stale
    ∷ word.Gap ∷ word.Again ∷ word.Error ∷ []
words_of family.Refusals =
    word.NoFit ∷ word.BadRequest ∷ word.NoArena ∷ word.NotYours ∷ word.Leases ∷ []
words_of f = []

unfoldable pub home_of : Home → List ℕ
home_of home.Span = codes "span"
home_of home.Free = codes "free"
home_of home.Slab = codes "slab"
home_of home.Magazine = codes "magazine"
home_of home.Exported = codes "exported"
home_of home.Leased = codes "leased"

-- all homes, in the order in which they are shown
abbrev pub homes : List Home
homes =
    home.Leased ∷ home.Magazine ∷ home.Slab ∷ home.Exported ∷ home.Free ∷ home.Span ∷ []
