-- The lines that an operator is told.
use Rattle.std.specs.Prelude.{ℕ, List, ◌++◌, Result, Ok, Err, codes, decimal}
use Rattle.lease_proto.specs.Faults.{error_text}
use Rattle.lease_proto.specs.declared.faults.ErrorWord.{ErrorWord}
use Rattle.lease_proto.specs.declared.reports.AuditLine.{AuditLine}
use Rattle.lease_proto.specs.declared.reports.ClientLine.{ClientLine}
use Rattle.lease_proto.specs.declared.reports.ReapedLine.{ReapedLine}

-- how many units of an arena it has itself
abbrev pub kept_text : AuditLine → List ℕ
kept_text r = codes " free " ++ decimal r.free ++ codes " slab " ++ decimal r.slab
    ++ codes " magazine " ++ decimal r.magazine

-- how many are with others
abbrev pub given_text : AuditLine → List ℕ
given_text r = codes " exported " ++ decimal r.exported ++ codes " leased " ++ decimal r.leased
    ++ codes " hand " ++ decimal r.hand ++ codes "\n"

abbrev pub sums_text : AuditLine → List ℕ
sums_text r = kept_text r ++ given_text r

-- where the units of an arena are
abbrev pub audit_text : AuditLine → List ℕ
audit_text r = codes "arena " ++ (r.name ++ sums_text r)

-- a client, its incarnation, its greatest settled number and how many leases it has
abbrev pub client_text : ClientLine → List ℕ
client_text r = codes "client " ++ decimal r.client ++ codes " " ++ decimal r.incarnation
    ++ codes " " ++ decimal r.last ++ codes " " ++ decimal r.leases ++ codes "\n"

-- how many units the slabs had that went back
abbrev pub reaped_text : ReapedLine → List ℕ
reaped_text r = codes "reaped " ++ decimal r.units ++ codes "\n"

-- what was asked for was done
abbrev pub ok_text : List ℕ
ok_text = codes "ok\n"

-- what came of what was asked for
abbrev pub outcome_text : Result (Unit {0}) ErrorWord → List ℕ
outcome_text (Ok _) = ok_text
outcome_text (Err word) = error_text word
