-- A life goes on with its disks: it begins, asks and is driven, is given replies, and at its end a restart comes to its
-- history.
use Rattle.std.proofs.Common.{◌≡◌, ◌+◌, ◌∙◌, ◌++◌, ℕ, List, [], length, map, refl, ap, subst, sym}
use Rattle.std.specs.Global.{Vec}
use Rattle.std.specs.Prelude.{OnOk, Option, Some, Ok, Err, Result}
use Rattle.disk_world.specs.declared.disk_world.DiskWorld.{DiskWorld}
use Rattle.disk_world.specs.Disks.{WayOn, disks_with}
use Rattle.disk_world.specs.Starting.{start_from}
use Rattle.host_io.specs.Call.{Call}
use Rattle.journal_laws.specs.Asked.{IsOfRequest}
use Rattle.life_start.specs.Begun as life
use Rattle.life_start.specs.Begun.{AreSlotsOf, rows_of}
use Rattle.life_start.specs.Records.{AllTellMore}
use Rattle.life_start.specs.Shapes.{HaveShape}
use Rattle.node_disk.specs.Slots.{SlotsInUse}
use Rattle.restart_laws.specs.Lived.{AreReadyFor, IsLived, LivesGoOn, start_behind}
use Rattle.restart_laws.specs.Restart.{IsOfLife}
use Rattle.sig_core.specs.declared.no_memory.NoMemory.{NoMemory}
use Rattle.sig_core.specs.declared.request.ApiReq.{ApiReq}
use Rattle.sig_core.specs.declared.view.Shape.{Shape}
use Rattle.shell_top.specs.Chapters.{RestartsAsHistory}
use Rattle.shell_top.specs.Lives.{Going, IsLivedSince, going_in, life_of}
use Rattle.shell_top.specs.OnDisks.{LivesOn, disks_told}
use Rattle.shell_top.specs.Seen.{Seen, seen, seen_on}
use Rattle.restart_laws.proofs.lived.Asks.{lives_ask, lives_hear}
use Rattle.restart_laws.proofs.lived.Begins.{lives_begin}
use Rattle.restart_laws.proofs.lived.Ends.{lives_restart}
use Rattle.restart_laws.proofs.lived.Opened.{opened_are_ready}
use Rattle.sys_restart.proofs.AlikeLemmas.{same_answer}
use Rattle.sys_restart.proofs.DisksLemmas.{mapped}
use Rattle.sys_restart.specs.declared.restored.Restored.{Restored}
use Rattle.sys_restart.specs.Files.{disks_of}
use Rattle.sys_restart.specs.ReadyDisks.{AreReady, AreToPrepare}
use Rattle.sys_restart.specs.Restored.{restored_of}
use Rattle.world_core.specs.Start.{Start}
use Rattle.world_core.specs.World.{logs_at}
use Rattle.world_views.proofs.FreshWorld.{fresh_sound}
use Rattle.world_views.proofs.ShellLemmas.{told_right}
use Rattle.world_views.specs.Driven.{HasAsked, IsSound}
use Rattle.world_views.specs.Lives.{start_of}
use Rattle.world_views.specs.World.{Whole, new_world}
use Rattle.world_views.specs.WorldOf.{whole_of}

-- what was restored from disks is one thing, and the life behind it begins with it
module _ (shape : Shape) (r : Restored) (generation epoch : ℕ) (rows : List (List ℕ × List ℕ))
    (records : List (List Call)) (begun : life.HasBegun shape (disks_of records) generation epoch rows)
    (read : restored_of shape (disks_of records) ≡ Ok r) where
  same_restored : begun.restored ≡ r
  same_restored = same_answer begun.restored r (restored_of shape (disks_of records)) begun.read read

  next_generation : generation ≡ r.generation + 1
  next_generation = begun.begins.0 ∙ ap (λ (x : Restored). x.generation + 1) same_restored

  starts_behind : start_from shape epoch rows ≡ start_behind shape r
  starts_behind =
      ap (λ e. start_from shape e rows) (begun.begins.1 ∙ ap (λ (x : Restored). x.epoch) same_restored)
      ∙ ap (start_from shape r.epoch) (begun.begins.2 ∙ ap (λ (x : Restored). rows_of x.groups) same_restored)

-- a life begins on disks that are fit for it
module _ {D : Type 0} (shape : Shape) (told : D → Option (List Call)) (before : List (Option (List Call)))
    (w : DiskWorld D) (fresh : whole_of w.world ≡ new_world (start_from shape w.start w.rows.items))
    (restored : (records : List (List Call)) → before ≡ map Some records
    → life.HasBegun shape (disks_of records) w.generation w.start w.rows.items)
    (ready : (records : List (List Call)) (r : Restored) → before ≡ map Some records → AreToPrepare shape r records
    → AreReady shape r (map told w.disks.items))
    (shapes : (records : List (List Call)) (r : Restored) → before ≡ map Some records → AreToPrepare shape r records
    → HaveShape shape (map told w.disks.items))
    (slots : (records : List (List Call)) → map told w.disks.items ≡ map Some records
    → AreSlotsOf w.generation (disks_of records) w.slots.items)
    (count : (length w.disks.items ≡ shape.nodes) × (length w.slots.items ≡ shape.nodes))
    (recorded : AllTellMore before (map told w.disks.items))
  where
    pub begun_lived : (counts : List ℕ) (faults : D → ℕ)
        → IsLivedSince shape (seen before counts) (seen_on told faults w.disks.items) (going_in shape w)
    begun_lived counts faults records all r fit =
        let begun = restored records all in
        let read = fit.0.restored in
        let tells : List (Option (List Call)) = map told w.disks.items in
        let are : AreReadyFor shape r (disks_told told w) =
        opened_are_ready shape r records tells w.slots.items fit.0 (ready records r all fit.0)
        (subst (λ b. AllTellMore b tells) all recorded) (shapes records r all fit.0)
        (λ now is. subst (λ n. AreSlotsOf n (disks_of now) w.slots.items)
        (next_generation shape r w.generation w.start w.rows.items records begun read) (slots now is))
        (mapped told w.disks.items ∙ count.0) count.1 in
        let behind : start_from shape w.start w.rows.items ≡ start_behind shape r =
        starts_behind shape r w.generation w.start w.rows.items records begun read in
        subst (λ x. IsLived r x (disks_told told w) (start_from shape w.start w.rows.items)) (sym fresh)
        (subst (λ s. IsLived r (new_world s) (disks_told told w) s) (sym behind)
        (lives_begin shape r (disks_told told w) fit.1 are (fresh_sound (start_behind shape r) refl)))

-- a world keeps its disks as they are
pub same_disks : {D : Type 0} → (told : D → Option (List Call)) (w t : DiskWorld D)
    → (t.disks ≡ w.disks) × (t.slots ≡ w.slots) → disks_told told t ≡ disks_told told w
same_disks told w t same =
    ap (λ (disks : Vec _). disks_with (map told disks.items) t.slots.items) same.0
    ∙ ap (λ (slots : Vec SlotsInUse). disks_with (map told w.disks.items) slots.items) same.1

module _ {D : Type 0} (start : Start) (told : D → Option (List Call)) where
  -- something is asked for, and the world is driven to quiet
  pub asked_lives : LivesGoOn → (request : ApiReq) → IsOfRequest request
      → (result : Result (Unit {0}) NoMemory) (w u t : DiskWorld D)
      → HasAsked start request (whole_of w.world) (whole_of u.world)
      → (u.disks ≡ w.disks) × (u.slots ≡ w.slots)
      → OnOk result (WayOn (whole_of u.world) (disks_told told u) (whole_of t.world) (disks_told told t))
      → OnOk result (LivesOn start told w t)
  asked_lives go_on request words (Err fault) w u t asked same way = tt
  asked_lives go_on request words (Ok done) w u t asked same way = λ r was.
      go_on start r (whole_of u.world) (whole_of t.world) (disks_told told u) (disks_told told t) way
      (lives_ask start r request (whole_of w.world) (whole_of u.world) (disks_told told u) asked words
      (subst (λ disks. IsLived r (whole_of w.world) disks start) (sym (same_disks told w u same)) was))

  -- all replies are taken
  pub heard_lives : (w t : DiskWorld D) → IsSound start (whole_of w.world)
      → disks_told told t ≡ disks_told told w → whole_of t.world ≡ record (whole_of w.world) { replies = [] }
      → LivesOn start told w t
  heard_lives w t sound same taken r was =
      lives_hear start r (whole_of w.world) (whole_of t.world) (disks_told told t)
      (subst (IsSound start) (sym taken)
      (record {
        given = sound.given ++ (whole_of w.world).replies;
        right = told_right start sound.given (whole_of w.world) sound.right;
      }))
      (ap (λ (x : Whole). x.logs) taken) (ap (λ (x : Whole). x.links) taken)
      (subst (λ disks. IsLived r (whole_of w.world) disks start) (sym same) was)

  -- one call, and then another
  pub lives_then : (w u t : DiskWorld D) → LivesOn start told w u → LivesOn start told u t → LivesOn start told w t
  lives_then w u t one two r was = two r (one r was)

  pub lives_both : (result : Result (Unit {0}) NoMemory) (w u t : DiskWorld D) → LivesOn start told w u
      → OnOk result (LivesOn start told u t) → OnOk result (LivesOn start told w t)
  lives_both (Ok done) w u t one two = lives_then w u t one two
  lives_both (Err fault) w u t one two = tt

-- at its end a restart comes to its history
pub left_as_history : (shape : Shape) (opened now : Seen) (g : Going) → g.start ≡ start_of shape (life_of g)
    → IsLivedSince shape opened now g → RestartsAsHistory shape opened now (life_of g)
left_as_history shape opened now g begins lived records told r fit images left =
    subst
    (λ (s : Start).
    (found : Restored)
    × ((restored_of s.shape images ≡ Ok found)
    × IsOfLife s r (logs_at g.whole.logs) found))
    begins
    (lives_restart g.start r g.whole (disks_with now.told g.slots) images (lived records told r fit) left)
