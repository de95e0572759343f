-- What rows report to takeovers is true: whoever is reported committed commits, and wrote something.
use Rattle.std.proofs.Common.{◌≡◌, ℕ, true, false, List, refl, sym, subst, ⊎_elim}
use Rattle.std.specs.Prelude.{Option, None, Some, slice_get}
use Rattle.run_theory.specs.Lists.{Each}
use Rattle.run_theory.proofs.Pasts.{each_append, each_map}
use Rattle.sig_core.specs.declared.member.TxId.{TxId}
use Rattle.sig_core.specs.declared.outs.Outgoing.{Outgoing}
use Rattle.sig_core.specs.declared.place.BlockId.{BlockId}
use Rattle.sig_core.specs.declared.place.BlockId.TheVariants as block
use Rattle.sig_core.specs.declared.rows.PendingRecord.{PendingRecord}
use Rattle.sig_core.specs.declared.signal.Body.{Body}
use Rattle.sig_core.specs.declared.signal.Body.TheVariants.{Takeover}
use Rattle.sig_core.specs.declared.signal.Signal.{Signal}
use Rattle.sig_core.specs.declared.signal.takeover.RecordState.TheVariants as state
use Rattle.sig_core.specs.declared.signal.takeover.TakeoverSignal.TheVariants.{LqhTransConf}
use Rattle.sig_core.specs.declared.view.View.{View}
use Rattle.lqh_block.specs.declared.request.Marker.{Marker}
use Rattle.dih_node.specs.Orders as dih
use Rattle.lqh_views.specs.Laws.{TellsTruly}
use Rattle.lqh_views.specs.Replica.{replica_row}
use Rattle.lqh_views.specs.State.{ReplicaState}
use Rattle.lqh_views.proofs.LawLemmas.{reports_are_true}
use Rattle.takeover_block.specs.Gathered.{told_epoch}
use Rattle.takeover_block.specs.State.{TakeoverState}
use Rattle.takeover_block.specs.Takeover.{takeover_row}
use Rattle.tc_views.specs.Coordinator.{coordinator_row}
use Rattle.tc_views.specs.State.{CoordinatorState}
use Rattle.tc_views.specs.Views as coordinator
use Rattle.node_views.specs.declared.tc_part.TcPart.{TcPart}
use Rattle.node_views.specs.Parts.{tc_entered, tc_row}
use Rattle.view_laws.proofs.words.Coordinator.{coordinator_installs_kinds, coordinator_kinds}
use Rattle.view_laws.proofs.words.Sent.{IsOf}
use Rattle.view_laws.proofs.words.Takeover.{is_of_takeover, takeover_kinds}
use Rattle.view_laws.proofs.words.Turns.{is_of_coordinator}
use Rattle.request_laws.proofs.routes.BesideRows.{IsAside, epochs_aside, epochs_install_aside, is_of_rows}

-- what a takeover is told of a transaction
abbrev pub Fated : (TxId → Option ℕ → Type 0) → Body → Type 0
Fated D (Takeover (LqhTransConf tx key told epoch)) = D tx (told_epoch told epoch)
Fated D body = Unit {0}

abbrev pub AreFated : (TxId → Option ℕ → Type 0) → List Outgoing → Type 0
AreFated D sends = Each (λ (sent : Outgoing). Fated D sent.body) sends

-- hosts that run no rows tell takeovers nothing
module _ (D : TxId → Option ℕ → Type 0) where
  abbrev pub IsFated : Outgoing → Type 0
  IsFated sent = Fated D sent.body

  of_coordinator : (body : Body) → is_of_coordinator body ≡ true → Fated D body
  of_coordinator (Takeover signal) is = absurd cc
  of_coordinator body is = tt

  of_takeover : (body : Body) → is_of_takeover body ≡ true → Fated D body
  of_takeover (Takeover (LqhTransConf tx key told epoch)) is = absurd cc
  of_takeover body is = tt

  aside_fated : (body : Body) → is_of_rows body ≡ false → Fated D body
  aside_fated (Takeover (LqhTransConf tx key told epoch)) aside = absurd cc
  aside_fated body aside = tt

  pub all_aside_fated : (sends : List Outgoing) → Each IsAside sends → AreFated D sends
  all_aside_fated sends all = each_map IsAside IsFated sends (λ sent is. aside_fated sent.body is) all

  all_of_coordinator : (sends : List Outgoing) → Each (IsOf is_of_coordinator) sends → AreFated D sends
  all_of_coordinator sends all =
      each_map (IsOf is_of_coordinator) IsFated sends (λ sent is. of_coordinator sent.body is) all

  coordinator_fated : (s : CoordinatorState) (x : Signal) → AreFated D (coordinator_row s x).effects.sends
  coordinator_fated s x =
      ⊎_elim (λ kinds. all_of_coordinator (coordinator_row s x).effects.sends kinds)
      (λ confirms. subst (AreFated D) (sym confirms.1) (tt, tt)) (coordinator_kinds s x)

  takeover_fated : (s : TakeoverState) (x : Signal) → AreFated D (takeover_row s x).effects.sends
  takeover_fated s x =
      each_map (IsOf is_of_takeover) IsFated (takeover_row s x).effects.sends
      (λ sent is. of_takeover sent.body is) (takeover_kinds s x)

  pub tc_fated : (p : TcPart) (x : Signal) (b : BlockId) → AreFated D (tc_row p b x).effects.sends
  unfolding tc_row
  tc_fated p x block.Tc = coordinator_fated p.coordinator x
  tc_fated p x block.Takeover = takeover_fated p.takeover x
  tc_fated p x block.Dih = all_aside_fated _ (epochs_aside p.dih x)
  tc_fated p x _ = tt

  pub tc_enters_fated : (p : TcPart) (now : View) → AreFated D (tc_entered p now).effects.sends
  tc_enters_fated p now =
      each_append IsFated (coordinator.install_row p.coordinator now).effects.sends
      (dih.install_row p.dih now.number).effects.sends
      (all_of_coordinator _ (coordinator_installs_kinds p.coordinator now))
      (all_aside_fated _ (epochs_install_aside p.dih now.number))

-- rows tell of what they have: a committed record, or a marker
pub data HasTrace (tx : TxId) (s : ReplicaState) : Type 0 where
  by_record : (at : ℕ) (r : PendingRecord) → slice_get s.lqh.rows.pending at ≡ Some r → r.tx ≡ tx → r.committed ≡ true
      → HasTrace tx s
  by_marker : (at : ℕ) (m : Marker) → slice_get s.lqh.markers at ≡ Some m → m.tx ≡ tx → HasTrace tx s

abbrev pub TracesIf : ReplicaState → TxId → Option ℕ → Type 0
TracesIf s tx None = Unit {0}
TracesIf s tx (Some epoch) = HasTrace tx s

pub rows_trace : (s : ReplicaState) (x : Signal) → AreFated (TracesIf s) (replica_row s x).effects.sends
rows_trace s x =
    each_map (λ (sent : Outgoing). TellsTruly s sent.body) (IsFated (TracesIf s)) (replica_row s x).effects.sends
    (λ sent tells. by sent.body tells) (reports_are_true s x)
  where
    by : (body : Body) → TellsTruly s body → Fated (TracesIf s) body
    by (Takeover (LqhTransConf tx key state.Prepared epoch)) tells = tt
    by (Takeover (LqhTransConf tx key state.Committed epoch)) tells =
        by_record tells.0.at tells.0.one tells.0.there tells.0.is_tx tells.0.is_committed
    by (Takeover (LqhTransConf tx key state.Marker epoch)) tells =
        by_marker tells.at (record { tx = tx; key = key; epoch = epoch }) tells.there refl
    by body tells = tt
