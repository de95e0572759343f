-- What blocks of epochs note as durable, and what is told and known of that, signal by signal.
use Rattle.std.proofs.Common.{◌∙◌, ◌≡◌, ◌⊎◌, Bool, List, false, inl, inr, refl, subst, sym, true, ℕ}
use Rattle.std.proofs.lemmas.Bool.{eq-eqb, true≢false}
use Rattle.std.specs.Prelude.{◌==◌, if◌then◌else◌}
use Rattle.run_theory.specs.Links.{sent}
use Rattle.sig_core.specs.declared.mark.Mark.{Mark}
use Rattle.sig_core.specs.declared.outs.Outgoing.{Outgoing}
use Rattle.sig_core.specs.declared.signal.Body.{Body}
use Rattle.sig_core.specs.declared.signal.Body.TheVariants.{Epoch}
use Rattle.sig_core.specs.declared.signal.Signal.{Signal}
use Rattle.sig_core.specs.declared.signal.epoch.EpochSignal.TheVariants.{GcpClosed, GcpDone, GcpStateConf}
use Rattle.dih_node.specs.Dih.{dih_row, dih_table}
use Rattle.dih_node.specs.Orders.{done_row, greater}
use Rattle.dih_node.specs.State.{DihState}
use Rattle.gcp_master.proofs.Outcomes.{state_body}
use Rattle.gcp_master.specs.Known.{learned, learned_of_epochs, learned_of_rows, lesser, nothing_known}
use Rattle.gcp_master.specs.declared.known.Known.{Known}
use Rattle.gcp_master.specs.declared.known.Told.{Told}
use Rattle.gcp_master.specs.declared.phase.Phase.{Phase}
use Rattle.gcp_master.specs.declared.phase.Phase.TheVariants.{Closing, Copying, Gathering, Saving}
use Rattle.node_views.specs.Words.{parts_words}
use Rattle.node_views.specs.declared.parts.Parts.{Parts}
use Rattle.node_views.specs.declared.parts.Parts.TheVariants.{Ldm, Main, Shell}
use Rattle.node_views.specs.declared.parts.Parts.TheVariants as part
use Rattle.world_core.specs.Start.{Start}
use Rattle.world_core.specs.Steps.{HostStep}
use Rattle.epoch_laws.proofs.MasterKnows.{lesser_second}
use Rattle.epoch_laws.proofs.SentNone.{is_order}
use Rattle.epoch_laws.proofs.SentRows.{IsOfRowsBy}
use Rattle.closing_laws.proofs.durable.LateMasters.{IsGood, LateOrMarked}
use Rattle.closing_laws.proofs.durable.Noted.{NotesAt, dih_notes}
use Rattle.closing_laws.proofs.durable.Tells.{TellsNoted}
use Rattle.saved_laws.proofs.behind.Statement.{IsToldDurable, KnowsDurable, KnowsIn, durable_before}
use Rattle.saved_laws.specs.Behind.{IsDurable}

-- what the epochs of a member note as durable at a signal
abbrev pub NotesDurable : DihState → Body → DihState → Type 0
NotesDurable s (Epoch (GcpDone epoch)) now = now.durable ≡ greater s.durable epoch
NotesDurable s body now = now.durable ≡ s.durable

pub dih_durable : (s : DihState) (x : Signal) → NotesDurable s x.body (dih_row s x).state
unfolding done_row
dih_durable s x = by x.body refl (dih_notes s x)
  where
    by : (body : Body) → x.body ≡ body → NotesAt s body (dih_row s x).state
        → NotesDurable s body (dih_row s x).state
    by (Epoch (GcpDone epoch)) is notes =
        subst (λ body. NotesDurable s (Epoch (GcpDone epoch)) (dih_table s x.member.node x.view.number body).state)
        (sym is) refl
    by (Epoch (GcpClosed epoch)) is notes = notes.1
    by body is notes = notes.durable

-- who tells of epochs that are durable
abbrev pub is_state : Body → Bool
is_state (Epoch (GcpStateConf now prepared next closed saved durable)) = true
is_state body = false

abbrev pub TellsNoState : Outgoing → Type 0
TellsNoState sent = is_state sent.body ≡ false

abbrev pub HasNoEpochs : Parts → Type 0
HasNoEpochs (part.Tc p) = ⊥
HasNoEpochs (part.Ldm p) = ⊥
HasNoEpochs parts = Unit {0}

pub quiet_words : (parts : Parts) → HasNoEpochs parts → (body : Body) → parts_words parts body ≡ true
    → is_state body ≡ false
quiet_words (part.Tc p) none body word = absurd none
quiet_words (part.Ldm p) none body word = absurd none
quiet_words (part.Shell p) none (Epoch (GcpStateConf now prepared next closed saved durable)) word = absurd cc
quiet_words (part.Shell p) none body word = refl
quiet_words (part.Main p) none (Epoch (GcpStateConf now prepared next closed saved durable)) word = absurd cc
quiet_words (part.Main p) none body word = refl

module _ (start : Start) (logs : ℕ → List HostStep) where
  pub none_told : (body : Body) → is_state body ≡ false → IsToldDurable start logs body
  none_told (Epoch (GcpStateConf now prepared next closed saved durable)) none = absurd cc
  none_told body none = tt

  pub no_order_told : (body : Body) → is_order body ≡ false → IsToldDurable start logs body
  no_order_told (Epoch (GcpStateConf now prepared next closed saved durable)) none = absurd cc
  no_order_told body none = tt

  pub rows_told : (body : Body) → IsOfRowsBy body → IsToldDurable start logs body
  rows_told (Epoch (GcpStateConf now prepared next closed saved durable)) rows = inl rows
  rows_told body rows = tt

  pub epochs_told : (s : DihState) → IsDurable start logs s.durable → (body : Body) → TellsNoted s body
      → IsToldDurable start logs body
  epochs_told s durable (Epoch (GcpStateConf now prepared next closed saved told)) (closed_is, (order_is, is)) =
      inr (subst (IsDurable start logs) (sym is) durable)
  epochs_told s durable body tells = tt

  -- what is known once one more has told
  pub nothing_durable : KnowsDurable start logs nothing_known
  nothing_durable = inl refl

  lesser_durable : (one other : ℕ) → IsDurable start logs other → IsDurable start logs (lesser one other)
  lesser_durable one other is = durable_before start logs (lesser one other) other (lesser_second one other) is

  pub learned_durable : (t : Told) → (t.current ≡ 0) ⊎ IsDurable start logs t.durable → (known : Known)
      → KnowsDurable start logs known → KnowsDurable start logs (learned known t)
  learned_durable t told known knows = by (t.current == 0) refl told
    where
      by : (b : Bool) → (t.current == 0) ≡ b → (t.current ≡ 0) ⊎ IsDurable start logs t.durable
          → KnowsDurable start logs (if b then learned_of_rows known t else learned_of_epochs known t)
      by true is told = knows
      by false is (inr durable) = inr (lesser_durable known.durable t.durable durable)
      by false is (inl none) = absurd (true≢false (sym (eq-eqb t.current 0 none) ∙ is))

  pub told_so : (t : Told) → IsToldDurable start logs (state_body t)
      → (t.current ≡ 0) ⊎ IsDurable start logs t.durable
  told_so t is = is

  pub knows_so : (marks : List Mark) (phase : Phase)
      → IsGood (LateOrMarked (λ (epoch : ℕ). Unit {0}) (KnowsDurable start logs) marks) (KnowsDurable start logs) phase
      → KnowsIn start logs phase
  knows_so marks (Gathering known) is = is
  knows_so marks (Closing run) is = tt
  knows_so marks (Saving run) is = tt
  knows_so marks (Copying run) is = tt
  knows_so marks _ is = tt
