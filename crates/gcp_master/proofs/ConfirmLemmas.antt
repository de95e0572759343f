-- Confirmations that don't count.
use Rattle.std.proofs.Common.{◌≡◌, ℕ, ◌==◌, ◌&&◌, ◌||◌, Bool, true, false, not, nat_lt, List, [], ◌∷◌, ◌++◌, length}
use Rattle.std.proofs.Common.{refl, ap, sym, ◌∙◌}
use Rattle.std.proofs.lemmas.Bool.{and_from, eq-eqb, false≢true}
use Rattle.std.specs.List.{list_any}
use Rattle.sig_core.specs.declared.member.Member.{Member}
use Rattle.sig_core.specs.declared.signal.Body.{Body}
use Rattle.sig_core.specs.declared.signal.Body.TheVariants.{Epoch, Checkpoint}
use Rattle.sig_core.specs.declared.signal.checkpoint.CheckpointSignal.TheVariants.{LcpFragRep, LcpSwitchConf}
use Rattle.sig_core.specs.declared.signal.epoch.EpochSignal.TheVariants.{GcpPrepareConf, GcpNodeFinish, GcpClosedConf}
use Rattle.sig_core.specs.declared.signal.epoch.EpochSignal.TheVariants.{GcpSaveConf, CopyGciConf, GcpStateConf}
use Rattle.sig_core.specs.Step.{stay}
use Rattle.gcp_master.specs.declared.known.Told.{Told}
use Rattle.gcp_master.specs.declared.local.LocalStage.{LocalStage}
use Rattle.gcp_master.specs.declared.local.LocalStage.TheVariants as stage
use Rattle.gcp_master.specs.declared.phase.Phase.{Phase}
use Rattle.gcp_master.specs.declared.phase.Phase.TheVariants.{Gathering, Preparing, Committing, Closing, Saving}
use Rattle.gcp_master.specs.declared.phase.Phase.TheVariants.{Copying}
use Rattle.gcp_master.specs.declared.voices.TheConstants.{VOICES}
use Rattle.gcp_master.specs.declared.voices.Voice.{Voice}
use Rattle.gcp_master.specs.Closing.{copy_by, copy_if, copy_row, finish_by, finish_if, finish_row, note_by, note_if}
use Rattle.gcp_master.specs.Closing.{note_row, prepare_by, prepare_if, prepare_row, save_by, save_if, save_row}
use Rattle.gcp_master.specs.Laws.{OutsidersConfirmNothing, is_confirmation}
use Rattle.gcp_master.specs.Local.{counted_local, counts_local, hear_switch_if, hear_walk_if, switched_by}
use Rattle.gcp_master.specs.Local.{switched_row, walked_by, walked_row}
use Rattle.gcp_master.specs.Master.{master_table}
use Rattle.gcp_master.specs.Resume.{learned_if, state_by, state_if, state_row}
use Rattle.gcp_master.specs.State.{MasterState, counted, counts}
use Rattle.gcp_master.specs.Voices.{is_among, is_heard, is_in, same_member, same_voice}

and_false : (b : Bool) → (b && false) ≡ false
and_false true = refl
and_false false = refl

or_true : (b : Bool) → (b || true) ≡ true
or_true true = refl
or_true false = refl

-- who is outside doesn't count
pub outsider : (s : MasterState) (v : Voice) → is_in s.view v.member ≡ false → counts s v ≡ false
unfolding counts
outsider s v e = ap (λ b. b && (not (is_heard s.voices v) && nat_lt (length s.voices) VOICES)) e

-- who was counted doesn't count again
same_member-self : (a : Member) → same_member a a ≡ true
same_member-self a = and_from _ _ (eq-eqb a.node a.node refl) (eq-eqb a.start a.start refl)

same_voice-self : (v : Voice) → same_voice v v ≡ true
same_voice-self v = and_from _ _ (same_member-self v.member) (eq-eqb v.from.0 v.from.0 refl)

heard : (p : Voice → Bool) (voices : List Voice) (v : Voice) → p v ≡ true → list_any p (voices ++ v ∷ []) ≡ true
heard p [] v e = ap (λ b. b || false) e
heard p (w ∷ voices) v e = ap (λ b. p w || b) (heard p voices v e) ∙ or_true (p w)

pub counted_once : (s : MasterState) (v : Voice) → counts (counted s v) v ≡ false
unfolding counts
counted_once s v =
    ap (λ b. is_in s.view v.member && (not b && nat_lt (length (s.voices ++ v ∷ [])) VOICES))
    (heard (same_voice v) s.voices v (same_voice-self v))
    ∙ and_false (is_in s.view v.member)

-- the same of what a local checkpoint orders
left_part : (a b : Bool) → (a || b) ≡ false → a ≡ false
left_part false b e = refl
left_part true b e = absurd (false≢true (sym e))

outsider_local : (s : MasterState) (v : Voice) → is_in s.view v.member ≡ false → counts_local s v ≡ false
unfolding counts_local
outsider_local s v e =
    ap (λ b. b && (not (is_heard s.local.voices v) && nat_lt (length s.local.voices) VOICES))
    (left_part (is_among s.view.full v.member) (is_among s.view.starting v.member) e)

pub counted_local_once : (s : MasterState) (v : Voice) → counts_local (counted_local s v) v ≡ false
unfolding counts_local
counted_local_once s v =
    ap (λ b. is_among s.view.full v.member && (not b && nat_lt (length (s.local.voices ++ v ∷ [])) VOICES))
    (heard (same_voice v) s.local.voices v (same_voice-self v))
    ∙ and_false (is_among s.view.full v.member)

pub walk_ignored : (s : MasterState) (v : Voice) → counts_local s v ≡ false → walked_row s v ≡ stay s
unfolding walked_row
walk_ignored s v none = by s.local.stage
  where
    by : (at : LocalStage) → walked_by s v at ≡ stay s
    by stage.Walking = ap (hear_walk_if s v) none
    by _ = refl

pub switch_ignored : (s : MasterState) (v : Voice) → counts_local s v ≡ false → switched_row s v ≡ stay s
unfolding switched_row
switch_ignored s v none = by s.local.stage
  where
    by : (at : LocalStage) → switched_by s v at ≡ stay s
    by (stage.Switching epoch) = ap (hear_switch_if s v epoch) none
    by _ = refl

-- one that doesn't count changes nothing
module _ (s : MasterState) (v : Voice) (none : counts s v ≡ false) where
  off : (b : Bool) → (b && counts s v) ≡ false
  off b = ap (λ c. b && c) none ∙ and_false b

  pub prepare_ignored : (epoch : ℕ) → prepare_row s v epoch ≡ stay s
  unfolding prepare_row
  prepare_ignored epoch = by s.phase
    where
      by : (phase : Phase) → prepare_by s v epoch phase ≡ stay s
      by (Preparing run) = ap (prepare_if s v run) (off (run.epoch == epoch))
      by _ = refl

  pub finish_ignored : (epoch : ℕ) → finish_row s v epoch ≡ stay s
  unfolding finish_row
  finish_ignored epoch = by s.phase
    where
      by : (phase : Phase) → finish_by s v epoch phase ≡ stay s
      by (Committing run) = ap (finish_if s v run) (off (run.epoch == epoch))
      by _ = refl

  pub note_ignored : (epoch : ℕ) → note_row s v epoch ≡ stay s
  unfolding note_row
  note_ignored epoch = by s.phase
    where
      by : (phase : Phase) → note_by s v epoch phase ≡ stay s
      by (Closing run) = ap (note_if s v run) (off (run.epoch == epoch))
      by _ = refl

  pub save_ignored : (epoch : ℕ) → save_row s v epoch ≡ stay s
  unfolding save_row
  save_ignored epoch = by s.phase
    where
      by : (phase : Phase) → save_by s v epoch phase ≡ stay s
      by (Saving run) = ap (save_if s v run) (off (run.epoch == epoch))
      by _ = refl

  pub copy_ignored : (epoch : ℕ) → copy_row s v epoch ≡ stay s
  unfolding copy_row
  copy_ignored epoch = by s.phase
    where
      by : (phase : Phase) → copy_by s v epoch phase ≡ stay s
      by (Copying run) = ap (copy_if s v run) (off (run.epoch == epoch))
      by _ = refl

  pub state_ignored : (told : Told) → state_row s v told ≡ stay s
  unfolding state_row
  state_ignored told = by s.phase
    where
      by : (phase : Phase) → state_by s v told phase ≡ stay s
      by (Gathering known) = ap (state_if s v (learned_if known told (is_among s.view.full v.member))) none
      by _ = refl

outside : (s : MasterState) (v : Voice) (number : ℕ) (body : Body) → is_confirmation body ≡ true → counts s v ≡ false
    → counts_local s v ≡ false → master_table s v number body ≡ stay s
outside s v number (Epoch (GcpPrepareConf epoch)) e none nor = prepare_ignored s v none epoch
outside s v number (Epoch (GcpNodeFinish epoch)) e none nor = finish_ignored s v none epoch
outside s v number (Epoch (GcpClosedConf epoch)) e none nor = note_ignored s v none epoch
outside s v number (Epoch (GcpSaveConf epoch)) e none nor = save_ignored s v none epoch
outside s v number (Epoch (CopyGciConf epoch)) e none nor = copy_ignored s v none epoch
outside s v number (Epoch (GcpStateConf current prepared next closed saved durable)) e none nor =
    let told : Told = record {
      current = current;
      prepared = prepared;
      next = next;
      closed = closed;
      saved = saved;
      durable = durable;
    } in state_ignored s v none told
outside s v number (Checkpoint (LcpFragRep epoch)) e none nor = walk_ignored s v nor
outside s v number (Checkpoint LcpSwitchConf) e none nor = switch_ignored s v nor
outside s v number _ e none nor = absurd (false≢true e)

pub outsiders_confirm_nothing : OutsidersConfirmNothing
outsiders_confirm_nothing s x e none =
    let v : Voice = record { member = x.member; from = x.from } in
    outside s v x.view.number x.body e (outsider s v none) (outsider_local s v none)
