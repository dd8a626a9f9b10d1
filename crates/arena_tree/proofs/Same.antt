-- A segment of deeds is seen as its tag: what is answered with such segments is the same with their tags.
use Rattle.std.proofs.Common.{◌≡◌, refl, Option, Some, None, Result, Ok, Err}
use Rattle.deed_core.specs.Tag.{Tag}
use Rattle.arena_tree.specs.declared.part_faults.GivenFault.{GivenFault}
use Rattle.tag_arena.specs.declared.faults.SpanFault.{SpanFault}
use Rattle.slab_layer.specs.declared.faults.PutFault.{PutFault}
use Rattle.slab_layer.specs.declared.faults.AddFault.{AddFault}
use Rattle.arena_tree.specs.declared.part_faults.GivenFault.TheVariants as giving
use Rattle.tag_arena.specs.declared.faults.SpanFault.TheVariants as adding
use Rattle.slab_layer.specs.declared.faults.PutFault.TheVariants as putting
use Rattle.slab_layer.specs.declared.faults.AddFault.TheVariants as slabbing
use Rattle.arena_tree.specs.declared.part_faults.ClimbFault.{ClimbFault}
use Rattle.arena_tree.specs.declared.part_faults.ClimbFault.TheVariants as climbing
use Rattle.arena_tree.specs.declared.part_faults.ReturnFault.{ReturnFault}
use Rattle.arena_tree.specs.declared.part_faults.ReturnFault.TheVariants as returning
use Rattle.arena_tree.specs.Tags.{tag_ok, tag_all, tag_option, tag_free, tag_add, tag_put, tag_slab, tag_push, tag_climb, tag_return}

pub tag_ok_same : {E : Type 0} (r : Result Tag E) → tag_ok (λ (t : Tag). t) r ≡ r
tag_ok_same (Ok t) = refl
tag_ok_same (Err e) = refl

pub tag_option_same : (o : Option Tag) → tag_option (λ (t : Tag). t) o ≡ o
tag_option_same None = refl
tag_option_same (Some t) = refl

pub tag_all_same : {E : Type 0} (r : Result (Option Tag) E) → tag_all (λ (t : Tag). t) r ≡ r
tag_all_same (Ok None) = refl
tag_all_same (Ok (Some t)) = refl
tag_all_same (Err e) = refl

pub tag_free_same : (r : Result (Option Tag) (GivenFault Tag Tag)) → tag_free (λ (t : Tag). t) r ≡ r
tag_free_same (Ok None) = refl
tag_free_same (Ok (Some t)) = refl
tag_free_same (Err (giving.Refused t)) = refl
tag_free_same (Err (giving.Stopped t)) = refl

pub tag_add_same : (r : Result Tag (GivenFault (SpanFault Tag) Tag)) → tag_add (λ (t : Tag). t) r ≡ r
tag_add_same (Ok t) = refl
tag_add_same (Err (giving.Refused (adding.Overlaps t))) = refl
tag_add_same (Err (giving.Refused (adding.NotAligned t))) = refl
tag_add_same (Err (giving.Refused (adding.NoMemory t))) = refl
tag_add_same (Err (giving.Stopped t)) = refl

pub tag_put_same : (r : Result (Unit {0}) (GivenFault (PutFault Tag) Tag)) → tag_put (λ (t : Tag). t) r ≡ r
tag_put_same (Ok u) = refl
tag_put_same (Err (giving.Refused (putting.NotMine t))) = refl
tag_put_same (Err (giving.Refused (putting.AtHome t))) = refl
tag_put_same (Err (giving.Stopped t)) = refl

pub tag_slab_same : (r : Result Tag (GivenFault (AddFault Tag) Tag)) → tag_slab (λ (t : Tag). t) r ≡ r
tag_slab_same (Ok t) = refl
tag_slab_same (Err (giving.Refused (slabbing.WrongSize t))) = refl
tag_slab_same (Err (giving.Refused (slabbing.Overlaps t))) = refl
tag_slab_same (Err (giving.Refused (slabbing.NoMemory t))) = refl
tag_slab_same (Err (giving.Stopped t)) = refl

pub tag_push_same : (r : Result (Unit {0}) (GivenFault Tag Tag)) → tag_push (λ (t : Tag). t) r ≡ r
tag_push_same (Ok u) = refl
tag_push_same (Err (giving.Refused t)) = refl
tag_push_same (Err (giving.Stopped t)) = refl

pub tag_climb_same : (r : Result Tag (ClimbFault Tag)) → tag_climb (λ (t : Tag). t) r ≡ r
tag_climb_same (Ok t) = refl
tag_climb_same (Err (climbing.Refused w)) = refl
tag_climb_same (Err (climbing.Stuck t)) = refl
tag_climb_same (Err (climbing.Stopped None)) = refl
tag_climb_same (Err (climbing.Stopped (Some t))) = refl

pub tag_return_same : (r : Result (Unit {0}) (ReturnFault Tag)) → tag_return (λ (t : Tag). t) r ≡ r
tag_return_same (Ok u) = refl
tag_return_same (Err (returning.Stuck t)) = refl
tag_return_same (Err (returning.Stopped t)) = refl
