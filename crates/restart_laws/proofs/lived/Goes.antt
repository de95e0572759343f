-- A life on disks goes on: a host does, with what the disk of its node keeps of it, or the shell asks for something.
use Rattle.std.proofs.Common.{◌≡◌, ◌≤◌, ◌<◌, ◌+◌, ◌-◌, ◌++◌, ◌==◌, ◌&&◌, ◌∙◌, Bool, true, ℕ, zero, suc, List, [], ◌∷◌}
use Rattle.std.proofs.Common.{length, get_or, refl, ap, sym, subst, arith}
use Rattle.std.proofs.lemmas.Bool.{eq-eqb}
use Rattle.std.proofs.lemmas.List.{length-append}
use Rattle.std.specs.Prelude.{IfSome, option_to_list, Option, None, Some}
use Rattle.run_theory.specs.Lists.{IsIn, IsPast}
use Rattle.frag_map.specs.Replicas.{first_start}
use Rattle.frag_map.specs.Shape.{IsShape}
use Rattle.sig_core.specs.declared.member.Member.{Member}
use Rattle.sig_core.specs.declared.request.ApiReq.{ApiReq}
use Rattle.node_disk.specs.Slots.{SlotsInUse}
use Rattle.sys_restart.specs.declared.restored.Restored.{Restored}
use Rattle.sig_core.specs.declared.view.Shape.{Shape}
use Rattle.sys_restart.specs.Latest.{same_shape}
use Rattle.sys_restart.specs.Calls.{next_system, rows_of_node}
use Rattle.world_core.proofs.MadeFirst.{begins_made}
use Rattle.world_core.specs.Start.{Start, made}
use Rattle.world_core.specs.Steps.{HostStep}
use Rattle.world_core.specs.World.{logs_at}
use Rattle.world_views.specs.Driven.{IsSound}
use Rattle.world_views.specs.Requests.{request_of, requests}
use Rattle.world_views.specs.World.{Whole}
use Rattle.world_views.proofs.WorldLemmas.{stays_sound}
use Rattle.view_laws.specs.Runs.{AreOfCluster}
use Rattle.moment_laws.specs.Places.{ldm_of}
use Rattle.disk_world.specs.Disks.{Disks, HasGoneOn, HaveGoneOn}
use Rattle.journal_laws.specs.Asked.{AreOfWords, IsOfRequest}
use Rattle.saved_laws.specs.Behind.{SavedBeforeIsDurable}
use Rattle.saved_laws.specs.Checkpoints.{WalkedCheckpointsStand}
use Rattle.disk_laws.specs.Laws.{AreSavable}
use Rattle.disk_laws.specs.OnDisk.{KeepsUp}
use Rattle.disk_laws.specs.Owners.{KeepsOwner}
use Rattle.disk_laws.specs.Shapes.{KeepsShape}
use Rattle.disk_laws.specs.ToldSlots.{KeepsTold}
use Rattle.disk_laws.proofs.StepLaw.{steps_kept}
use Rattle.disk_laws.proofs.owner_of.Kept.{owners_kept}
use Rattle.disk_laws.proofs.shapes_of.Kept.{shapes_kept}
use Rattle.disk_laws.proofs.told_slots.Kept.{told_slots_kept}
use Rattle.restart_laws.specs.Lived.{IsLived, LivesGoOn}
use Rattle.restart_laws.specs.Told.{TellsWhatIsKept}
use Rattle.view_laws.proofs.runs.FirstMembers.{first_in}
use Rattle.restart_laws.proofs.lived.Before.{before_durable}
use Rattle.restart_laws.proofs.lived.Epochs.{below_first, first_high, first_low}
use Rattle.restart_laws.proofs.lived.Notable.{notable}
use Rattle.restart_laws.proofs.lived.Savable.{can_write, cluster, savable}
use Rattle.restart_laws.proofs.telling.All.{steps_tell_what_is_kept}

-- a list has a place at which something stands
in_range : {A : Type 0} (xs : List (Option A)) (k : ℕ) (x : A) → get_or xs k None ≡ Some x → k < length xs
in_range [] k x is = absurd cc
in_range (y ∷ xs) zero x is = omega arith
in_range (y ∷ xs) (suc k) x is = let rest = in_range xs k x is in omega (arith, rest)

-- and one at which the same stands, whatever stands elsewhere
of_slots : (xs : List SlotsInUse) (k : ℕ) (s : SlotsInUse) → ((other : SlotsInUse) → get_or xs k other ≡ s)
    → k < length xs
of_slots [] k s is =
    let one : 0 ≡ s.system_at = ap (λ (t : SlotsInUse). t.system_at) (is (record s { system_at = 0 })) in
    let other : 1 ≡ s.system_at = ap (λ (t : SlotsInUse). t.system_at) (is (record s { system_at = 1 })) in
    absurd (omega (arith, one, other))
of_slots (y ∷ xs) zero s is = omega arith
of_slots (y ∷ xs) (suc k) s is = let rest = of_slots xs k s is in omega (arith, rest)

-- requests only become more
more_requests : (newer log : List HostStep) → length (requests log) ≤ length (requests (newer ++ log))
more_requests [] log = omega arith
more_requests (e ∷ newer) log =
    let rest = more_requests newer log in
    omega (arith, rest, length-append (requests (newer ++ log)) (option_to_list (request_of e)))

-- steps that made none asked for nothing, so the shell was asked for words behind them as before
still_words : (newer log : List HostStep) → length (requests (newer ++ log)) ≤ length (requests log)
    → AreOfWords log → AreOfWords (newer ++ log)
still_words [] log few words = words
still_words (e ∷ newer) log few words =
    by (request_of e) refl (still_words newer log (omega (arith, few, parts)) words)
  where
    parts : length (requests (newer ++ log) ++ option_to_list (request_of e))
        ≡ length (requests (newer ++ log)) + length (option_to_list (request_of e))
    parts = length-append (requests (newer ++ log)) (option_to_list (request_of e))

    by : (o : Option ApiReq) → request_of e ≡ o → AreOfWords (newer ++ log) → AreOfWords (e ∷ (newer ++ log))
    by None is rest = (subst (λ o. IfSome o IsOfRequest) (sym is) tt, rest)
    by (Some request) is rest =
        let one : length (option_to_list (request_of e)) ≡ 1 = ap (λ o. length (option_to_list o)) is in
        let more = more_requests newer log in
        absurd (omega (arith, few, parts, one, more))

-- the shell was asked for this
pub asked_is : (xs : List ApiReq) (o : Option ApiReq) (request : ApiReq) → xs ++ option_to_list o ≡ xs ++ request ∷ []
    → o ≡ Some request
asked_is [] None request same = absurd cc
asked_is [] (Some other) request same = cc
asked_is (x ∷ xs) o request same =
    let rest : xs ++ option_to_list o ≡ xs ++ request ∷ [] = cc in asked_is xs o request rest

same_itself : (shape : Shape) → same_shape shape shape ≡ true
same_itself shape =
    all_three (shape.nodes == shape.nodes) (shape.replicas == shape.replicas) (shape.fragments == shape.fragments)
    (eq-eqb shape.nodes shape.nodes refl) (eq-eqb shape.replicas shape.replicas refl)
    (eq-eqb shape.fragments shape.fragments refl)
  where
    all_three : (a b c : Bool) → a ≡ true → b ≡ true → c ≡ true → (a && b && c) ≡ true
    all_three a b c one two three = ap (λ x. x && b && c) one ∙ ap (λ x. x && c) two ∙ three

module _ (start : Start) (r : Restored) where
  -- as many disks, and as many slots, as nodes
  module _ (t : Whole) (disks : Disks) (shape : IsShape start.shape)
      (each : (member : Member) → IsIn member (made start) → KeepsUp start member
      (rows_of_node start.shape member.node r) (next_system start.shape r) t disks) where
    abbrev last : Member
    last = first_start start.shape.nodes

    up : KeepsUp start last (rows_of_node start.shape last.node r) (next_system start.shape r) t disks
    up = each last (begins_made start _ (first_in start.shape.nodes start.shape.nodes shape.nodes_some (omega arith)))

    pub all_told : start.shape.nodes ≤ length disks.told
    all_told = let inside = in_range disks.told (last.node - 1) up.calls up.told in omega (arith, inside)

    pub all_slots : start.shape.nodes ≤ length disks.slots
    all_slots = let inside = of_slots disks.slots (last.node - 1) up.slots up.slots_are in omega (arith, inside)

  -- one host went on, and the disk of its node kept what it was to keep of it
  module _ (stand : WalkedCheckpointsStand) (behind : SavedBeforeIsDurable) (w t : Whole) (old new : Disks)
      (counts : List ℕ) (gone : HasGoneOn w old new counts t) (lived : IsLived r w old start) where
    sound : IsSound start t
    sound = stays_sound start w t (gone.goes start lived.sound) lived.sound

    are : AreOfCluster start (logs_at t.logs)
    are = cluster start t lived.may.is_shape sound

    words : AreOfWords (logs_at t.logs 0)
    words =
        let grown = (gone.goes start lived.sound).grown in
        let more = grown.more 0 in
        let same : length (requests (logs_at t.logs 0)) ≡ length (requests (logs_at w.logs 0)) =
        ap length grown.requests in
        subst AreOfWords (sym more.is)
        (still_words more.newer (logs_at w.logs 0)
        (let few = ap (λ log. length (requests log)) more.is in omega (arith, same, few)) lived.words)

    tells : (member : Member) → IsIn member (made start) → TellsWhatIsKept start member t
    tells member there =
        steps_tell_what_is_kept start member w t old new counts lived.sound there lived.told lived.slots gone
        (lived.each member there).tells

    all_savable : (member : Member) → IsIn member (made start) → (log : List HostStep)
        → IsPast log (logs_at t.logs (ldm_of start member))
        → AreSavable start member (rows_of_node start.shape member.node r) log
    all_savable member there log past =
        savable start (logs_at t.logs) are (below_first start r lived.is_start lived.may)
        (first_low start r lived.is_start lived.may) member there log past stand
        (rows_of_node start.shape member.node r)
        (can_write start r lived.is_start lived.may member there (lived.each member there).storable) words

    ups : (member : Member) → IsIn member (made start) → KeepsUp start member
        (rows_of_node start.shape member.node r) (next_system start.shape r) t new
    ups member there =
        steps_kept start member (rows_of_node start.shape member.node r) (next_system start.shape r) w t old new counts
        lived.sound there lived.told lived.slots gone (first_high start r lived.is_start lived.may)
        (all_savable member there)
        (notable start r t are (below_first start r lived.is_start lived.may)
        (first_low start r lived.is_start lived.may) tells member there)
        (lived.each member there).up

    shapes : (member : Member) → IsIn member (made start) → KeepsShape start.shape member.node new
    shapes member there =
        shapes_kept start member (rows_of_node start.shape member.node r) (next_system start.shape r) w t old new counts
        lived.sound there lived.told lived.slots gone (same_itself start.shape) (lived.each member there).up
        (lived.each member there).shape

    told_slots_are : (member : Member) → IsIn member (made start) → KeepsTold start member (r.generation + 1) t new
    told_slots_are member there =
        told_slots_kept start member (rows_of_node start.shape member.node r) (next_system start.shape r) w t old new
        counts lived.sound there lived.told lived.slots gone (first_high start r lived.is_start lived.may)
        (all_savable member there)
        (before_durable behind start (logs_at t.logs) are (below_first start r lived.is_start lived.may) member there)
        (lived.each member there).up (lived.each member there).told_slots

    owners : (member : Member) → IsIn member (made start) → KeepsOwner member.node new
    owners member there =
        owners_kept start member (rows_of_node start.shape member.node r) (next_system start.shape r) w t old new counts
        lived.sound there lived.told lived.slots gone (lived.each member there).up (lived.each member there).owner

    pub one_step : IsLived r t new start
    one_step =
        record {
          is_start = lived.is_start;
          may = lived.may;
          sound = sound;
          words = words;
          told = all_told t new lived.may.is_shape ups;
          slots = all_slots t new lived.may.is_shape ups;
          each = λ member there.
              record {
                up = ups member there;
                tells = tells member there;
                shape = shapes member there;
                told_slots = told_slots_are member there;
                owner = owners member there;
                storable = (lived.each member there).storable;
              };
        }

  many_steps : WalkedCheckpointsStand → SavedBeforeIsDurable → (steps : ℕ) (w t : Whole) (old new : Disks)
      → HaveGoneOn steps w old t new → IsLived r w old start → IsLived r t new start
  many_steps stand behind zero w t old new same lived =
      subst (λ (v : Whole). IsLived r v new start) (sym same.0)
      (subst (λ (d : Disks). IsLived r w d start) (sym same.1) lived)
  many_steps stand behind (suc steps) w t old new (between, (disks, (counts, (way, gone)))) lived =
      one_step stand behind between t disks new counts gone
      (many_steps stand behind steps w between old disks way lived)

-- where what a member has written stands for all that was before it, and what it had saved is durable before it saves
-- more
pub lives_go_on : WalkedCheckpointsStand → SavedBeforeIsDurable → LivesGoOn
lives_go_on stand behind start r w t old new way lived =
    many_steps start r stand behind way.0 w t old new way.1 lived
