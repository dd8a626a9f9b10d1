-- Samples in the text format of Prometheus: a family has a line of help, a line of its kind, and
-- then its samples, each a name, labels in braces where there are some, and a number.
use Rattle.std.specs.Prelude.{ℕ, List, ◌++◌, codes, decimal}
use Rattle.lease_watch.specs.declared.families.Family.{Family}
use Rattle.lease_watch.specs.declared.families.Family.TheVariants as family
use Rattle.lease_watch.specs.declared.families.Home.{Home}
use Rattle.lease_watch.specs.declared.words.Word.{Word}
use Rattle.lease_watch.specs.Families.{name_of, kind_of, help_of, home_of}
use Rattle.lease_watch.specs.Words.{text_of}

-- the line of help of a family
unfoldable pub help_line : Family → List ℕ
help_line f = codes "# HELP " ++ name_of f ++ codes " " ++ help_of f ++ codes "\n"

-- the line of its kind
unfoldable pub kind_line : Family → List ℕ
kind_line f = codes "# TYPE " ++ name_of f ++ codes " " ++ kind_of f ++ codes "\n"

-- what a family is
unfoldable pub head : Family → List ℕ
head f = help_line f ++ kind_line f

-- the end of a sample
unfoldable pub value_text : ℕ → List ℕ
value_text value = codes " " ++ decimal value ++ codes "\n"

-- a family of one sample with no label
unfoldable pub plain : Family → ℕ → List ℕ
plain f value = head f ++ name_of f ++ value_text value

unfoldable pub label : List ℕ → List ℕ → List ℕ
label key value = key ++ codes "=\"" ++ value ++ codes "\""

-- the two ends of a sample that has labels
unfoldable pub opening : Family → List ℕ
opening f = name_of f ++ codes "{"

unfoldable pub closing : ℕ → List ℕ
closing value = codes "}" ++ value_text value

-- what names a sample of a family whose samples have a word each
unfoldable pub word_key : Family → Word → List ℕ
word_key f word = opening f ++ label (codes "word") (text_of word) ++ codes "}"

unfoldable pub word_sample : Family → Word → ℕ → List ℕ
word_sample f word value = word_key f word ++ value_text value

-- two labels
abbrev pub pair : List ℕ → List ℕ → List ℕ
pair first second = first ++ codes "," ++ second

-- the labels of a home of an arena's units
unfoldable pub place_text : List ℕ → Home → List ℕ
place_text arena home =
    pair (label (codes "arena") arena) (label (codes "home") (home_of home))

-- what names the sample of the units of an arena that have this home
unfoldable pub home_key : List ℕ → Home → List ℕ
home_key arena home = opening family.Units ++ place_text arena home ++ codes "}"

unfoldable pub home_sample : List ℕ → Home → ℕ → List ℕ
home_sample arena home units = home_key arena home ++ value_text units
