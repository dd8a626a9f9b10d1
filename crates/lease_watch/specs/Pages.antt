-- The page that shows a server. Each number that is a sample's value stands in an element that
-- names the sample.
use Rattle.std.specs.Prelude.{◌==◌, ℕ, ◌+◌, ◌*◌, ◌-◌, ◌/◌, ◌^◌, List, ◌++◌, if◌then◌else◌, decimal, min}
use Rattle.std.specs.Prelude.{Option, Some, None, codes}
use Rattle.std.specs.List.{flat_map}
use Rattle.lease_watch.specs.declared.families.Family.{Family}
use Rattle.lease_watch.specs.declared.families.Family.TheVariants as family
use Rattle.lease_watch.specs.declared.families.Home.{Home}
use Rattle.lease_watch.specs.declared.families.Home.TheVariants as home
use Rattle.lease_watch.specs.declared.markup.Markup.TheVariants as markup
use Rattle.lease_watch.specs.declared.seen.ArenaSeen.{ArenaSeen}
use Rattle.lease_watch.specs.declared.seen.Work.{Work}
use Rattle.lease_watch.specs.declared.seen.Seen.{Seen}
use Rattle.lease_watch.specs.declared.seen.UnitsSeen.{UnitsSeen}
use Rattle.lease_watch.specs.declared.seen.Version.{Version}
use Rattle.lease_watch.specs.declared.words.Word.{Word}
use Rattle.lease_watch.specs.Families.{name_of, help_of, words_of, home_of, homes}
use Rattle.lease_watch.specs.Markup.{markup_of}
use Rattle.lease_watch.specs.Metrics.{plain_values, version_text}
use Rattle.lease_watch.specs.Samples.{word_key, home_key}
use Rattle.lease_watch.specs.Units.{units_at}
use Rattle.lease_watch.specs.Words.{count_of, text_of}

-- a number that is a sample's value, with the name of the sample
unfoldable pub cell : List ℕ → ℕ → List ℕ
cell key value =
    markup_of markup.CellStart ++ key ++ markup_of markup.CellValue ++ decimal value
    ++ markup_of markup.CellEnd

-- a row of a table: what it is, and the number
unfoldable pub row : List ℕ → List ℕ → List ℕ
row title shown =
    markup_of markup.RowStart ++ title ++ markup_of markup.RowValue ++ shown
    ++ markup_of markup.RowEnd

unfoldable pub plain_row : Family → ℕ → List ℕ
plain_row f value = row (help_of f) (cell (name_of f) value)

unfoldable pub word_row : Family → Word → ℕ → List ℕ
word_row f w value = row (text_of w) (cell (word_key f w) value)

-- the begin of a table
unfoldable pub caption : List ℕ → List ℕ
caption title = markup_of markup.TableStart ++ title ++ markup_of markup.CaptionEnd

-- how often a word was counted
abbrev pub counted_row : Family → List ℕ → Word → List ℕ
counted_row f counts w = word_row f w (count_of counts w)

-- a table of a family whose samples have a word each
unfoldable pub words_table : Family → List ℕ → List ℕ
words_table f counts =
    caption (help_of f) ++ flat_map (counted_row f counts) (words_of f) ++ markup_of markup.TableEnd

-- a family of one sample, with its value
abbrev pub value_row : Family × ℕ → List ℕ
value_row one = plain_row one.0 one.1

unfoldable pub state_table : Seen → List ℕ
state_table s =
    caption (markup_of markup.StateTitle) ++ flat_map value_row (plain_values s)
    ++ markup_of markup.TableEnd

-- a sum, which stays at the greatest number
abbrev pub added : ℕ → ℕ → ℕ
added a b = min (a + b) (2 ^ 128 - 1)

-- how many thousandths of the span these units are
unfoldable pub thousandths : ℕ → ℕ → ℕ
thousandths units span =
    if span == 0 then 0 else min (min (units * 1000) (2 ^ 128 - 1) / span) 1000

-- a part of a bar, from its begin on
unfoldable pub rect : Home → ℕ → List ℕ
rect h width =
    markup_of markup.RectStart ++ home_of h ++ markup_of markup.RectWidth ++ decimal width
    ++ markup_of markup.RectEnd

-- the leased units, and those in caches with them
abbrev pub cached : UnitsSeen → ℕ
cached u = added (added u.leased u.slab) u.magazine

-- and the exported ones with these
abbrev pub away : UnitsSeen → ℕ
away u = added (cached u) u.exported

-- a bar: leased units lie over the cached, and those over the exported
unfoldable pub bar : UnitsSeen → List ℕ
bar u =
    markup_of markup.BarStart
    ++ rect home.Exported (thousandths (away u) u.span)
    ++ rect home.Magazine (thousandths (cached u) u.span)
    ++ rect home.Leased (thousandths u.leased u.span)
    ++ markup_of markup.BarEnd

-- how many units of an arena have a home
unfoldable pub item : List ℕ → Home → ℕ → List ℕ
item arena h units =
    markup_of markup.ItemStart ++ home_of h ++ markup_of markup.ItemName ++ home_of h
    ++ markup_of markup.Space ++ cell (home_key arena h) units ++ markup_of markup.ItemEnd

abbrev pub units_item : ArenaSeen → Home → List ℕ
units_item a h = item a.name h (units_at a.units h)

-- where an arena imports from
unfoldable pub source_link : Option (List ℕ) → List ℕ
source_link None = codes ""
source_link (Some name) =
    markup_of markup.SourceStart ++ name ++ markup_of markup.SourceName ++ name
    ++ markup_of markup.SourceEnd

-- an arena's name and how it was set up
unfoldable pub arena_head : ArenaSeen → List ℕ
arena_head a =
    markup_of markup.ArenaStart ++ a.name ++ markup_of markup.ArenaName ++ a.name
    ++ markup_of markup.ArenaLimits ++ decimal a.quantum ++ markup_of markup.ArenaCached
    ++ decimal a.qmax ++ source_link a.source

-- where the leases of an arena are listed
unfoldable pub leases_link : List ℕ → List ℕ
leases_link name = markup_of markup.LeasesStart ++ name ++ markup_of markup.LeasesEnd

unfoldable pub arena_part : ArenaSeen → List ℕ
arena_part a =
    arena_head a ++ leases_link a.name ++ bar a.units ++ flat_map (units_item a) homes
    ++ markup_of markup.ArenaEnd

-- how many lines a second
unfoldable pub rate : Work → ℕ
rate l = if l.seconds == 0 then 0 else l.lines / l.seconds

unfoldable pub lately_text : Work → List ℕ
lately_text l =
    markup_of markup.LatelyStart ++ decimal l.seconds ++ markup_of markup.LatelySeconds
    ++ decimal l.lines ++ markup_of markup.LatelyLines ++ decimal (rate l)
    ++ markup_of markup.LatelyRate ++ decimal l.refused ++ markup_of markup.LatelyEnd

unfoldable pub page_head : Version → Work → List ℕ
page_head v l =
    markup_of markup.Start ++ version_text v ++ markup_of markup.HeadEnd ++ lately_text l

unfoldable pub tables : Seen → List ℕ
tables s =
    state_table s ++ words_table family.Lines s.counts ++ words_table family.Replies s.counts
    ++ words_table family.Refusals s.counts

-- the page
abbrev pub page_text : Seen → List ℕ
page_text s =
    page_head s.version s.lately ++ markup_of markup.ArenasStart
    ++ flat_map arena_part s.arenas.items ++ markup_of markup.ArenasEnd ++ tables s
    ++ markup_of markup.End
