use Rattle.std.proofs.Common.{refl, ◌∙◌}
use Rattle.world_views.specs.WorldOf.{whole_of}
use Rattle.shell_top.proofs.OnDisksLemmas.{heard_lives, same_disks}
use Rattle.shell_top.proofs.SeenLemmas.{grown_itself, seen_in, then_still}
use Rattle.shell_top.proofs.SettingLemmas.{still_setting}
use Rattle.shell_top.proofs.TakenLemmas.{all_taken, fewer_left, none_taken, one_taken, told_all}
use Rattle.shell_top.proofs.taken.take_replies.Goals as goal

pub loop-reply-init : goal.loop-reply-init
loop-reply-init g c =
    record {
      setting = refl;
      grown = grown_itself (seen_in g.D.Disk.told g.D.Disk.faults c.args.world.now);
      disks = refl;
      world = none_taken (whole_of c.args.world.now.world) c.new-replies.result.items c.new-replies.ensures.items;
    }

pub loop-reply-smaller : goal.loop-reply-smaller
loop-reply-smaller g c =
    fewer_left (whole_of c.loop-reply.world.world) (whole_of c.next_reply.new.self.world) c.in-Some.reply
    c.in-Some.ensures.some

pub loop-reply-preserved : goal.loop-reply-preserved
loop-reply-preserved g c =
    record {
      setting = still_setting c.loop-reply.world c.next_reply.new.self c.next_reply.ensures.life
          c.next_reply.ensures.disks.0 ∙ c.loop-reply.invariant.setting;
      grown = then_still g.D.Disk.told g.D.Disk.faults c.args.world.now c.loop-reply.world c.next_reply.new.self
          c.loop-reply.invariant.grown c.next_reply.ensures.disks.0;
      disks = same_disks g.D.Disk.told c.loop-reply.world c.next_reply.new.self c.next_reply.ensures.disks
          ∙ c.loop-reply.invariant.disks;
      world = one_taken (whole_of c.args.world.now.world) (whole_of c.loop-reply.world.world)
          (whole_of c.next_reply.new.self.world)
          c.loop-reply.replies.items c.extend_from_slice.new.self.items c.in-Some.reply c.loop-reply.invariant.world
          c.in-Some.ensures.some (c.in_ok-extend_from_slice.ensures).items;
    }

pub returns-in_err-extend_from_slice-clause-setting : goal.returns-in_err-extend_from_slice-clause-setting
returns-in_err-extend_from_slice-clause-setting g c =
    still_setting c.loop-reply.world c.next_reply.new.self c.next_reply.ensures.life c.next_reply.ensures.disks.0
    ∙ c.loop-reply.invariant.setting

pub returns-in_err-extend_from_slice-clause-grown : goal.returns-in_err-extend_from_slice-clause-grown
returns-in_err-extend_from_slice-clause-grown g c =
    then_still g.D.Disk.told g.D.Disk.faults c.args.world.now c.loop-reply.world c.next_reply.new.self
    c.loop-reply.invariant.grown c.next_reply.ensures.disks.0

pub returns-clause-setting : goal.returns-clause-setting
returns-clause-setting g c =
    still_setting c.loop-reply.world c.next_reply.new.self c.next_reply.ensures.life c.next_reply.ensures.disks.0
    ∙ c.loop-reply.invariant.setting

pub returns-clause-grown : goal.returns-clause-grown
returns-clause-grown g c =
    then_still g.D.Disk.told g.D.Disk.faults c.args.world.now c.loop-reply.world c.next_reply.new.self
    c.loop-reply.invariant.grown c.next_reply.ensures.disks.0

pub returns-clause-told : goal.returns-clause-told
returns-clause-told g c =
    told_all (whole_of c.args.world.now.world) (whole_of c.loop-reply.world.world)
    (whole_of c.next_reply.new.self.world)
    c.loop-reply.replies.items c.loop-reply.invariant.world (c.in_default.ensures.none refl) c.in_default.ensures.some

pub returns-clause-replies : goal.returns-clause-replies
returns-clause-replies g c =
    all_taken (whole_of c.args.world.now.world) (whole_of c.loop-reply.world.world) c.loop-reply.replies.items
    c.loop-reply.invariant.world (c.in_default.ensures.none refl)

pub returns-clause-lived : goal.returns-clause-lived
returns-clause-lived g c =
    heard_lives g.start g.D.Disk.told c.args.world.now c.next_reply.new.self c.requires.1
    (same_disks g.D.Disk.told c.loop-reply.world c.next_reply.new.self c.next_reply.ensures.disks
    ∙ c.loop-reply.invariant.disks)
    (told_all (whole_of c.args.world.now.world) (whole_of c.loop-reply.world.world)
    (whole_of c.next_reply.new.self.world)
    c.loop-reply.replies.items c.loop-reply.invariant.world (c.in_default.ensures.none refl) c.in_default.ensures.some)
