-- What was done lately.
use Rattle.std.specs.Prelude.{ℕ, ◌+◌, ◌^◌, min, ◌-◌, if◌then◌else◌, nat_le}
use Rattle.lease_watch.specs.declared.looks.Looks.{Looks}
use Rattle.lease_watch.specs.declared.looks.TheConstants.{STRIDE}
use Rattle.lease_watch.specs.declared.seen.Seen.{Seen}
use Rattle.lease_watch.specs.declared.seen.Work.{Work}
use Rattle.lease_watch.specs.declared.words.Word.TheVariants as word
use Rattle.lease_watch.specs.Words.{count_of}

abbrev pub no_work : Work
no_work = record { seconds = 0; lines = 0; refused = 0 }

abbrev pub no_looks : Looks
no_looks = record { older = no_work; newer = no_work }

-- what was done between two looks
abbrev pub since : Work → Work → Work
since older now =
    record {
      seconds = now.seconds - older.seconds;
      lines = now.lines - older.lines;
      refused = now.refused - older.refused;
    }

-- a sum of counts, which stays at the greatest
abbrev pub counted : ℕ → ℕ → ℕ
counted a b = min (a + b) (2 ^ 64 - 1)

-- what was done since the start
abbrev pub work_of : Seen → Work
work_of s =
    record {
      seconds = s.uptime;
      lines =
          counted (counted (count_of s.counts word.Hello) (count_of s.counts word.Lease))
          (count_of s.counts word.Release);
      refused = count_of s.counts word.Refused;
    }

-- a look is kept once enough time has gone since the newer one
abbrev pub after_look : Looks → Work → Looks
after_look looks now =
    if nat_le STRIDE (now.seconds - looks.newer.seconds)
    then record { older = looks.newer; newer = now }
    else looks
