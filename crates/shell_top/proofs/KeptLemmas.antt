-- What a cluster's lives are on its disks: the life that goes on, where the disks are, and the room that is kept.
use Rattle.std.proofs.Common.{◌≡◌, ◌<◌, ℕ, List, [], length, map, Bool, true, false, not, refl, ap, sym, subst, ◌∙◌}
use Rattle.std.specs.Global.{Vec}
use Rattle.std.specs.Prelude.{IfNone, Option, None, Some, is_some, option_map}
use Rattle.std.specs.Vec.{vec_capacity}
use Rattle.disk_world.specs.declared.disk_world.DiskWorld.{DiskWorld}
use Rattle.disk_world.specs.Starting.{start_from}
use Rattle.frag_map.specs.Shape.{IsShape}
use Rattle.host_io.specs.Call.{Call}
use Rattle.life_start.specs.Begun as life
use Rattle.life_start.specs.Refusals.{IsRefusedFor}
use Rattle.script_lang.specs.declared.command.Command.{Command}
use Rattle.script_lang.specs.declared.command.Command.TheVariants as command
use Rattle.sig_core.specs.declared.fault.RestartFault.{RestartFault}
use Rattle.sig_core.specs.declared.log.HostLog.{HostLog}
use Rattle.sig_core.specs.declared.log.Life.{Life}
use Rattle.sig_core.specs.declared.slots.Slots.{Slots}
use Rattle.sig_core.specs.declared.slots.Slots.{Slots}
use Rattle.sig_core.specs.declared.view.Shape.{Shape}
use Rattle.shell_top.specs.Asked.{MayAsk}
use Rattle.shell_top.specs.Chapters.{IsUnborn, ending_for}
use Rattle.shell_top.specs.declared.ended.Ending.{Ending}
use Rattle.shell_top.specs.declared.lives.Lives.{Lives}
use Rattle.shell_top.specs.Lives.{AreKept, Going, HasBegun, HasRoom, IsGoing, IsLivedSince, disks_by, disks_of}
use Rattle.shell_top.specs.Lives.{going_from, going_in, is_up, life_of, now_of, start_in}
use Rattle.shell_top.specs.Seen.{Seen, seen, seen_on}
use Rattle.shell_top.specs.Setting.{Setting, setting_of}
use Rattle.shell_top.proofs.FreshLemmas.{fresh_going}
use Rattle.sys_restart.specs.Answers.{IsCauseAmong, is_outside}
use Rattle.sys_restart.specs.Files.{disks_of as disks_told}
use Rattle.world_views.specs.Driven.{IsSound}
use Rattle.world_views.specs.World.{is_down, new_world}
use Rattle.world_views.specs.WorldOf.{whole_of}

module _ {D : Type 0} (lives : Lives D) where
  -- where no life goes on
  module _ (none : lives.world ≡ None) where
    pub none_goes : now_of lives ≡ None
    none_goes = ap (option_map (going_in lives.shape)) none

    pub disks_aside : disks_of lives ≡ lives.disks.items
    disks_aside = ap (disks_by lives.disks.items) none

    pub kept_aside : IsShape lives.shape → length lives.disks.items ≡ lives.shape.nodes → AreKept lives
    kept_aside sound many =
        record {
          shape = sound;
          disks = ap length disks_aside ∙ many;
          room = subst (λ now. HasRoom now (length lives.ended.items) (vec_capacity lives.ended)) (sym none_goes) tt;
        }

  -- where one does
  module _ (w : DiskWorld D) (is : lives.world ≡ Some w) where
    pub goes : now_of lives ≡ Some (going_in lives.shape w)
    goes = ap (option_map (going_in lives.shape)) is

    pub disks_within : disks_of lives ≡ w.disks.items
    disks_within = ap (disks_by lives.disks.items) is

    pub has_room : AreKept lives → length lives.ended.items < vec_capacity lives.ended
    has_room kept =
        subst (λ now. HasRoom now (length lives.ended.items) (vec_capacity lives.ended)) goes kept.room

    pub kept_within : IsShape lives.shape → length w.disks.items ≡ lives.shape.nodes
        → length lives.ended.items < vec_capacity lives.ended → AreKept lives
    kept_within sound many room =
        record {
          shape = sound;
          disks = ap length disks_within ∙ many;
          room = subst (λ now. HasRoom now (length lives.ended.items) (vec_capacity lives.ended)) (sym goes) room;
        }

-- a life goes on where there is a world
pub goes_where : {D : Type 0} → (shape : Shape) (world : Option (DiskWorld D))
    → is_some (option_map (going_in shape) world) ≡ is_some world
goes_where shape None = refl
goes_where shape (Some w) = refl

-- a world in the same setting is that of a life that began as it did
pub goes_same : {D : Type 0} → (shape : Shape) (w t : DiskWorld D) → setting_of t ≡ setting_of w
    → going_in shape t ≡ record { start = (going_in shape w).start; whole = whole_of t.world; slots = t.slots.items }
goes_same shape w t same =
    ap (λ (setting : Setting). going_from shape setting (whole_of t.world) t.slots.items) same

-- what is kept where a life goes on in a world in the same setting
module _ {D : Type 0} (lives : Lives D) (w : DiskWorld D) (is : lives.world ≡ Some w) where
  pub sound_within : IsGoing (now_of lives) → IsSound (start_in lives.shape (now_of lives)) (whole_of w.world)
  sound_within going =
      subst (λ now. IsGoing now → IsSound (start_in lives.shape now) (whole_of w.world)) (sym (goes lives w is))
      (λ sound. sound) going

  pub may_ask : (c : Command) → (c ≡ command.Restart → is_up (now_of lives) ≡ true)
      → MayAsk c (is_down (whole_of w.world))
  may_ask command.Restart may = up (is_down (whole_of w.world)) (sym (ap is_up (goes lives w is)) ∙ may refl)
    where
      up : (down : Bool) → not down ≡ true → down ≡ false
      up false is = refl
      up true is = cc
  may_ask _ may = tt

  module _ (t : DiskWorld D) (same : setting_of t ≡ setting_of w) where
    pub as_many : AreKept lives → length t.disks.items ≡ lives.shape.nodes
    as_many kept =
        ap (λ (setting : Setting). setting.disks) same ∙ sym (ap length (disks_within lives w is)) ∙ kept.disks

    pub still_sound : (result : Option Ending)
        → IfNone result (IsSound (start_in lives.shape (now_of lives)) (whole_of t.world))
        → IfNone result (IsGoing (Some (going_in lives.shape t)))
    still_sound (Some e) sound = tt
    still_sound None sound =
        subst (λ start. IsSound start (whole_of t.world))
        (ap (start_in lives.shape) (goes lives w is)
        ∙ sym (ap (λ (g : Going). g.start) (goes_same lives.shape w t same)))
        sound

-- what goes on as it did, however a line was told
pub if_none : {A : Type 0} → (result : Option Ending) → A → IfNone result A
if_none None holds = holds
if_none (Some e) holds = tt

-- a life as its end left it
pub ended_life : (l : Life) (g : Going) → l.logs ≡ g.whole.logs → l.start_epoch ≡ g.start.start_epoch
    → l.start_rows ≡ g.start.rows → l.slots ≡ [] → l ≡ life_of g
ended_life l g logs epoch rows slots =
    ap (λ (e : ℕ). record { start_epoch = e; start_rows = l.start_rows; logs = l.logs; slots = l.slots }) epoch
    ∙ ap (λ (r : List (List ℕ × List ℕ)).
    record { start_epoch = g.start.start_epoch; start_rows = r; logs = l.logs; slots = l.slots }) rows
    ∙ ap (λ (x : List HostLog).
    record { start_epoch = g.start.start_epoch; start_rows = g.start.rows; logs = x; slots = l.slots }) logs
    ∙ ap (λ (x : List Slots).
    record { start_epoch = g.start.start_epoch; start_rows = g.start.rows; logs = g.whole.logs; slots = x }) slots

-- a life that has begun
module _ {D : Type 0} (shape : Shape) (told : List (Option (List Call))) (faults : List ℕ) (w : DiskWorld D)
    (fresh : whole_of w.world ≡ new_world (start_from shape w.start w.rows.items)) where
  pub has_begun : (now : Seen)
      → ((records : List (List Call)) → told ≡ map Some records
      → life.HasBegun shape (disks_told records) w.generation w.start w.rows.items)
      → IsLivedSince shape (seen told faults) now (going_in shape w)
      → HasBegun shape (seen told faults) now (Some (going_in shape w))
  has_begun now restored lived =
      record {
        going = going_in shape w;
        is = refl;
        begins = refl;
        restored = λ records all. (w.generation, restored records all);
        fresh = fresh;
        lived = lived;
      }

  pub goes_on : IsGoing (Some (going_in shape w))
  goes_on = fresh_going (start_from shape w.start w.rows.items) (whole_of w.world) fresh refl

module _ {D : Type 0} (told : D → Option (List Call)) (faults : D → ℕ) where
  -- disks that were taken from where no life goes on
  pub opened_with : (lives : Lives D) → lives.world ≡ None → (disks : Vec D) → disks ≡ lives.disks
      → disks.items ≡ disks_of lives
  opened_with lives none disks same = ap (λ (v : Vec D). v.items) same ∙ sym (disks_aside lives none)

  -- why no life begins on disks
  pub unborn_by : (shape : Shape) (opened now as_opened as_now : List D) (found : RestartFault) (e : Ending)
      → opened ≡ as_opened → now ≡ as_now → e ≡ ending_for found
      → IsCauseAmong (map faults opened) (map faults now) found
      → ((records : List (List Call)) → map told opened ≡ map Some records → is_outside found ≡ false
      → IsRefusedFor shape (disks_told records) (map told now) found)
      → IsUnborn shape e (seen_on told faults as_opened) (seen_on told faults as_now)
  unborn_by shape opened now as_opened as_now found e same same_now is cause refused =
      subst (λ disks. IsUnborn shape e (seen_on told faults disks) (seen_on told faults as_now)) same
      (subst (λ disks. IsUnborn shape e (seen_on told faults opened) (seen_on told faults disks)) same_now
      (record { fault = found; is = is; cause = cause; refused = refused }))
