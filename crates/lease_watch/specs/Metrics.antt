-- The samples of a server.
use Rattle.std.specs.Prelude.{ℕ, List, [], ◌∷◌, ◌++◌, codes, decimal, Option, Some, None}
use Rattle.std.specs.List.{flat_map}
use Rattle.lease_watch.specs.declared.families.Family.TheVariants as family
use Rattle.lease_watch.specs.declared.families.Family.{Family}
use Rattle.lease_watch.specs.declared.families.Home.{Home}
use Rattle.lease_watch.specs.declared.seen.ArenaSeen.{ArenaSeen}
use Rattle.lease_watch.specs.declared.seen.Seen.{Seen}
use Rattle.lease_watch.specs.declared.seen.Version.{Version}
use Rattle.lease_watch.specs.declared.words.Word.{Word}
use Rattle.lease_watch.specs.Families.{words_of, homes}
use Rattle.lease_watch.specs.Samples.{head, label, pair, opening, closing, plain, word_sample}
use Rattle.lease_watch.specs.Samples.{home_sample}
use Rattle.lease_watch.specs.Units.{units_at}
use Rattle.lease_watch.specs.Words.{count_of}

-- as 1.2.3
abbrev pub version_text : Version → List ℕ
version_text v = decimal v.major ++ codes "." ++ decimal v.minor ++ codes "." ++ decimal v.patch

unfoldable pub build_text : Version → List ℕ
build_text v =
    head family.Build ++ opening family.Build ++ label (codes "version") (version_text v)
    ++ closing 1

-- the families of one sample each, with their values
unfoldable pub plain_values : Seen → List (Family × ℕ)
plain_values s =
    (family.Uptime, s.uptime) ∷ (family.Clients, s.clients) ∷ (family.Leases, s.leases)
    ∷ (family.Connections, s.connections.served)
    ∷ (family.ConnectionsTotal, s.connections.total)
    ∷ (family.ConnectionsRefused, s.connections.refused)
    ∷ (family.ConnectionsFailed, s.connections.failed)
    ∷ (family.CpuWaits, s.cpu_waits) ∷ []

-- such a family
abbrev pub plain_of : Family × ℕ → List ℕ
plain_of one = plain one.0 one.1

-- how often a word was counted
abbrev pub counted_sample : Family → List ℕ → Word → List ℕ
counted_sample f counts w = word_sample f w (count_of counts w)

-- the samples of a family whose samples have a word each
unfoldable pub words_text : Family → List ℕ → List ℕ
words_text f counts = head f ++ flat_map (counted_sample f counts) (words_of f)

-- how many units of an arena have a home
abbrev pub units_sample : ArenaSeen → Home → List ℕ
units_sample a h = home_sample a.name h (units_at a.units h)

-- the units of an arena, home by home
abbrev pub units_text : ArenaSeen → List ℕ
units_text a = flat_map (units_sample a) homes

-- the name of a source; nothing for a root
abbrev pub source_text : Option (List ℕ) → List ℕ
source_text None = codes ""
source_text (Some name) = name

-- an arena and the one that it imports from
unfoldable pub names_text : ArenaSeen → List ℕ
names_text a = pair (label (codes "arena") a.name) (label (codes "source") (source_text a.source))

unfoldable pub limits_text : ArenaSeen → List ℕ
limits_text a =
    pair (label (codes "quantum") (decimal a.quantum)) (label (codes "qmax") (decimal a.qmax))

-- how an arena was set up
unfoldable pub setup_text : ArenaSeen → List ℕ
setup_text a = opening family.Setups ++ pair (names_text a) (limits_text a) ++ closing 1

unfoldable pub arenas_text : List ArenaSeen → List ℕ
arenas_text arenas =
    head family.Setups ++ flat_map setup_text arenas
    ++ head family.Units ++ flat_map units_text arenas

-- what was asked and answered
unfoldable pub counts_text : List ℕ → List ℕ
counts_text counts =
    words_text family.Lines counts ++ words_text family.Replies counts
    ++ words_text family.Refusals counts

-- all samples of a server
abbrev pub metrics_text : Seen → List ℕ
metrics_text s =
    build_text s.version ++ flat_map plain_of (plain_values s) ++ counts_text s.counts
    ++ arenas_text s.arenas.items
