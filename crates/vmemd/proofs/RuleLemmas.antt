-- The rules of leases over a whole script.
use Rattle.std.proofs.Common.{◌≡◌, refl, sym, subst, ap, ◌∙◌, inl, inr, Option, Some, None, List, [], ◌∷◌, ◌++◌, ℕ, true, arith, append_assoc}
use Rattle.std.proofs.lemmas.List.{append-nil}
use Rattle.std.proofs.lemmas.List.Elements.{All-push}
use Rattle.std.specs.Io.KnownBytes.{Appends}
use Rattle.std.specs.List.{flat_map}
use Rattle.arena_tree.specs.declared.trees.TreeArena.{TreeArena}
use Rattle.arena_tree.specs.Settings.{SetupState}
use Rattle.lease_terms.specs.Names.{is_name}
use Rattle.lease_proto.specs.declared.setup_lines.SetupLine.{SetupLine}
use Rattle.lease_proto.specs.declared.setup_lines.SetupLine.TheVariants.{Root, Child, Span}
use Rattle.lease_proto.specs.Frames.{Frame, frames_in, frames_of, frames_of_rest, rest_in, with_line_feed}
use Rattle.lease_proto.specs.SetupTexts.{IsSetupLine}
use Rattle.lease_proto.proofs.LawProofs.{frames_in-append, setups_are_texts}
use Rattle.lease_machine.specs.Picture.{Picture}
use Rattle.lease_machine.specs.AnswerLaws.{AreNamed}
use Rattle.lease_machine.specs.GrantLaws.{GrantsApart}
use Rattle.lease_machine.specs.Laws.{Runs}
use Rattle.lease_machine.proofs.LawProofs.{runs_keep_rules, grants_stay_apart, new_grants_stay_apart, clients_get_replies, pictures_stay, setup_only_grows}
use Rattle.vmemd_setup.specs.declared.faults.ScriptFault.TheVariants.{Setup, Read, Write, Memory}
use Rattle.vmemd.specs.Scripts.{OpensDesk}
use Rattle.vmemd_setup.specs.Setups.{Makes}
use Rattle.vmemd_setup.specs.Settings.{TakesSetupLine, no_arenas}
use Rattle.stock_desk.specs.Openings.{IsOpenedFrom}
use Rattle.vmemd.specs.Laws.{Script}
use Rattle.vmemd.proofs.MadeLemmas.{script_begins}
use Rattle.vmemd.specs.RuleLaws.{EndsAreScripts, FailsAreScripts, IsWrittenInPart, ScriptKeepsRules, ScriptClientsGetReplies, ScriptGrantsStayApart, ScriptNewGrantsStayApart}

pub ends_are_scripts : EndsAreScripts
ends_are_scripts input before after (lines, desk, last, opens, writes) = record {
  last = last;
  script = record {
    setup = opens.setup.lines;
    made = opens.made;
    desk = desk;
    frames = _;
    text = writes.0;
    makes = opens.setup.makes;
    opened = opens.opened;
    serves = writes.1;
  };
  lines = lines;
  split = opens.setup.split;
  frames = refl;
  written = writes.2;
}

-- the frames of lines, and of more behind them
frames_on : (lines more : List ℕ) → frames_of (lines ++ more) ≡ frames_in [] lines ++ (frames_in (rest_in [] lines) more ++ frames_of_rest (rest_in [] (lines ++ more)))
frames_on lines more =
    let last = frames_of_rest (rest_in [] (lines ++ more)) in
    ap (λ (fs : List Frame). fs ++ last) (frames_in-append [] lines more) ∙ append_assoc (frames_in [] lines) (frames_in (rest_in [] lines) more) last

-- a desk that was opened answered the first frames of all lines
in_part : (part lines input all : List ℕ) (desk last : Picture) (frames later : List Frame) (front unwritten : List ℕ) (before after : Option (List ℕ))
    → (opens : OpensDesk TakesSetupLine IsOpenedFrom no_arenas part lines desk) → input ≡ flat_map with_line_feed opens.setup.lines ++ all → frames_of all ≡ frames ++ later
    → Runs desk frames (front ++ unwritten) last → Appends before after front → IsWrittenInPart input before after
in_part part lines input all desk last frames later front unwritten before after opens split is serves written = record {
  last = last;
  script = record {
    setup = opens.setup.lines;
    made = opens.made;
    desk = desk;
    frames = frames;
    text = front ++ unwritten;
    makes = opens.setup.makes;
    opened = opens.opened;
    serves = serves;
  };
  lines = all;
  split = split;
  later = later;
  frames = is;
  front = front;
  unwritten = unwritten;
  text = refl;
  written = written;
}

-- all of its text
whole : (desk last : Picture) (frames : List Frame) (text : List ℕ) → Runs desk frames text last → Runs desk frames (text ++ []) last
whole desk last frames text serves = subst (λ (t : List ℕ). Runs desk frames t last) (sym (append-nil text)) serves

pub fails_are_scripts : FailsAreScripts
fails_are_scripts input left before after (Setup line word) fails = inl fails.1
fails_are_scripts input None before after Read (part, read, so_far) = absurd read
fails_are_scripts input (Some more) before after Read (part, read, inl none) = inl none.4
fails_are_scripts input (Some more) before after Read (part, read, inr (lines, desk, last, opens, writes)) =
    let split : input ≡ flat_map with_line_feed opens.setup.lines ++ (lines ++ more) =
    read ∙ ap (λ (l : List ℕ). l ++ more) opens.setup.split ∙ append_assoc (flat_map with_line_feed opens.setup.lines) lines more in
    inr (in_part part lines input (lines ++ more) desk last (frames_in [] lines) _ writes.0 [] before after opens split (frames_on lines more) (whole desk last (frames_in [] lines) writes.0 writes.1) writes.2)
fails_are_scripts input left before after Write (lines, desk, opens, (served, later, split, (last, front, unwritten, serves, written))) =
    inr (in_part input lines input lines desk last served later front unwritten before after opens opens.setup.split split serves written)
fails_are_scripts input left before after Memory (inl none) = inl none.1
fails_are_scripts input left before after Memory (inr (lines, desk, opens, (served, later, last, split, writes))) =
    inr (in_part input lines input lines desk last served later writes.0 [] before after opens opens.setup.split split (whole desk last served writes.0 writes.1) writes.2)

pub script_keeps_rules : ScriptKeepsRules
script_keeps_rules last s = runs_keep_rules s.desk last s.frames s.text (script_begins last s) s.serves

-- the arenas of a setup have names, as setup lines have them
taken_named : (old new : SetupState) (setting : SetupLine) → IsSetupLine setting → TakesSetupLine old setting new → AreNamed old.arenas → AreNamed new.arenas
taken_named old new (Root r) is takes named =
    let adds = takes.0 in
    subst AreNamed (sym adds.added) (All-push (λ (x : TreeArena). is_name x.name ≡ true) old.arenas adds.arena named (ap is_name (ap (λ (x : TreeArena). x.name) adds.becomes.is) ∙ is.0))
taken_named old new (Child c) is takes named =
    let adds = takes.0 in
    subst AreNamed (sym adds.added) (All-push (λ (x : TreeArena). is_name x.name ≡ true) old.arenas adds.arena named (ap is_name (ap (λ (x : TreeArena). x.name) adds.becomes.is) ∙ is.0))
taken_named old new (Span s) is takes named = subst AreNamed (sym takes.arenas) named

made_named : (lines : List (List ℕ)) (old new : SetupState) → Makes TakesSetupLine old lines new → AreNamed old.arenas → AreNamed new.arenas
made_named [] old new same named = subst (λ (s : SetupState). AreNamed s.arenas) (sym same) named
made_named (line ∷ lines) old new (setting, mid, read, takes, rest) named =
    made_named lines mid new rest (taken_named old mid setting ((setups_are_texts line setting).0 read).0 takes named)

desk_named : (last : Picture) (s : Script last) → AreNamed s.desk.tree
desk_named last s =
    let none : AreNamed [] = (λ k d lt. absurd (omega (arith, lt))) in
    subst AreNamed (sym s.opened.tree) (made_named s.setup no_arenas s.made s.makes none)

pub script_clients_replies : ScriptClientsGetReplies
script_clients_replies old new l line text a read =
    let s = a.script in
    let is = pictures_stay s.desk old s.frames s.text (script_begins old s) s.serves in
    let tree = (setup_only_grows s.desk old s.frames s.text s.serves).tree in
    clients_get_replies old new l line text is (subst AreNamed (sym tree) (desk_named old s)) read a.step

pub script_grants_apart : ScriptGrantsStayApart
script_grants_apart old s g h two other =
    subst (λ (xs : List TreeArena). GrantsApart xs g h) s.opened.tree
    (grants_stay_apart s.desk old s.frames s.text g h (script_begins old s) s.opened.book.accounts (desk_named old s) s.serves two other)

pub script_new_grants_apart : ScriptNewGrantsStayApart
script_new_grants_apart old s g h two =
    subst (λ (xs : List TreeArena). GrantsApart xs g h) s.opened.tree
    (new_grants_stay_apart s.desk old s.frames s.text g h (script_begins old s) s.opened.book.accounts (desk_named old s) two)
