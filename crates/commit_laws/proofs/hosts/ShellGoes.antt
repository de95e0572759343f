-- What a step of the shell's host comes to: its part takes the signal once it has noted its view, or leaves it alone.
use Rattle.std.proofs.Common.{◌≡◌, ◌++◌, ◌∙◌, true, false, List, [], ◌∷◌, refl, sym, ap, subst}
use Rattle.std.proofs.lemmas.Bool.{true≢false}
use Rattle.std.specs.List.{list_any}
use Rattle.std.specs.Prelude.{Option, None}
use Rattle.run_theory.specs.Lists.{Each, IsIn}
use Rattle.run_theory.proofs.Pasts.{each_in}
use Rattle.sig_core.specs.declared.mark.Mark.{Mark}
use Rattle.sig_core.specs.declared.outs.Outgoing.{Outgoing}
use Rattle.sig_core.specs.declared.signal.Signal.{Signal}
use Rattle.sig_core.specs.declared.view.View.{View}
use Rattle.sig_core.specs.Step.{Step}
use Rattle.api_block.specs.declared.opened.OpenTransaction.{OpenTransaction}
use Rattle.api_views.specs.Members.{noted}
use Rattle.node_views.specs.declared.host_body.HostBody as hosts
use Rattle.node_views.specs.declared.parts.Parts.{Parts}
use Rattle.node_views.specs.declared.parts.Parts.TheVariants.{Shell}
use Rattle.node_views.specs.declared.shell_part.ShellPart.{ShellPart}
use Rattle.node_views.specs.Blocks.{parts_entered, parts_row, settled_at}
use Rattle.node_views.specs.Parts.{shell_row}
use Rattle.node_views.specs.Replies.{giving}
use Rattle.node_views.specs.Row.{is_stop}
use Rattle.node_views.specs.WellFormed.{is_well_formed}
use Rattle.world_core.specs.Start.{NobodyStarts, Start}
use Rattle.world_core.specs.Steps.{HostStep}
use Rattle.world_views.specs.Machine.{after, step_after}
use Rattle.view_laws.specs.Runs.{view_after}
use Rattle.moment_laws.specs.Parts.{Enters, enters, stays}
use Rattle.commit_laws.proofs.hosts.Goes.{HostGoes, IsOff, halts, host_goes, leaves, takes}
use Rattle.commit_laws.proofs.hosts.Marks.{IsFrom, host_marks, is_own_mark, of_blocks, of_host, of_installation}
use Rattle.commit_laws.proofs.reported.Client.{noted_opened, noted_taken}
use Rattle.commit_laws.proofs.hosts.ShellSees.{IsSeeing, seeing}

-- what the client's side of a part knows, apart from the view
pub record IsSameBut (p q : ShellPart) : Type 0 where
  pub opened : q.client.api.opened ≡ p.client.api.opened
  pub taken : q.client.taken_over ≡ p.client.taken_over

pub data ShellGoes (start : Start) (p : ShellPart) (x : Signal) (step : Step hosts.HostBody) : Type 0 where
  ends : list_any is_stop step.effects.marks ≡ true → ShellGoes start p x step
  rests : IsOff start.shape x → (q : ShellPart) → IsSameBut p q → step.state.parts ≡ Shell q
      → step.effects.sends ≡ [] → ShellGoes start p x step
  acts : is_well_formed start.shape x ≡ true → (q : ShellPart) → IsSameBut p q
      → step.state.parts ≡ Shell (shell_row q x.to.block x).state
      → step.effects.sends ≡ (shell_row q x.to.block x).effects.sends → ShellGoes start p x step

module _ (start : Start) (nobody : NobodyStarts start) (log : List HostStep) (e : HostStep) where
  abbrev x : Signal
  x = e.step.taken

  abbrev step : Step hosts.HostBody
  step = step_after start 0 log e

  abbrev stood : View
  stood = view_after start 0 log

  abbrev own : IsSeeing start log
  own = seeing start nobody log

  record Inside (between : Parts) (front : List Outgoing) : Type 0 where
    q : ShellPart
    is : between ≡ Shell q
    same : IsSameBut own.part q
    none : front ≡ []

  inside : (between : Parts) (seen : View) (front : List Outgoing) → Enters (Shell own.part) stood x between seen front
      → Inside between front
  inside between seen front (stays same stands none) =
      record { q = own.part; is = same; same = record { opened = refl; taken = refl }; none = none }
  inside between seen front (enters above same stands sends) = record {
    q = record { client = noted own.part.client x.view; arbiter = own.part.arbiter };
    is = same;
    same = record {
      opened = noted_opened own.part.client x.view;
      taken = noted_taken own.part.client x.view;
    };
    none = sends;
  }

  unsettled : settled_at (after start 0 log).parts x ≡ None
  unsettled = ap (λ (parts : Parts). settled_at parts x) own.runs

  then_unsettled : settled_at (parts_entered (after start 0 log).parts x.view).state x ≡ None
  then_unsettled = ap (λ (parts : Parts). settled_at (parts_entered parts x.view).state x) own.runs

  pub shell_goes : ShellGoes start (seeing start nobody log).part e.step.taken (step_after start 0 log e)
  shell_goes =
      by (subst (λ (parts : Parts). HostGoes start.shape parts stood x step) own.runs
      (host_goes start nobody 0 log e unsettled then_unsettled))
    where
      by : HostGoes start.shape (Shell own.part) stood x step → ShellGoes start own.part x step
      by (halts is) = ends is
      by (leaves off between seen front entering same stands sends) =
          let i = inside between seen front entering in rests off i.q i.same (same ∙ i.is) (sends ∙ i.none)
      by (takes between seen front entering passed same stands sends) =
          let i = inside between seen front entering in
          acts passed.sound i.q i.same (same ∙ ap (λ (parts : Parts). (parts_row parts x).state) i.is)
          (sends ∙ (ap (λ (more : List Outgoing). more ++ (parts_row between x).effects.sends) i.none
          ∙ ap (λ (parts : Parts). (parts_row parts x).effects.sends) i.is))

  -- and of a mark that isn't the host's own its part is the cause
  pub record IsOfShell (mark : Mark) : Type 0 where
    pub q : ShellPart
    pub same : IsSameBut (seeing start nobody log).part q
    pub sound : is_well_formed start.shape e.step.taken ≡ true
    pub there : IsIn mark (shell_row q e.step.taken.to.block e.step.taken).effects.marks

  pub shell_marks : (mark : Mark) → IsIn mark (step_after start 0 log e).effects.marks → is_own_mark mark ≡ false
      → IsOfShell mark
  shell_marks mark there other =
      by (each_in (IsFrom start.shape (Shell own.part) stood x) mark step.effects.marks
      (subst (λ (parts : Parts). Each (IsFrom start.shape parts stood x) step.effects.marks) own.runs
      (host_marks start nobody 0 log e unsettled then_unsettled)) there)
    where
      by : IsFrom start.shape (Shell own.part) stood x mark → IsOfShell mark
      by (of_host is) = absurd (true≢false (sym is ∙ other))
      by (of_installation none) = absurd none
      by (of_blocks row) =
          let i = inside row.between row.seen row.front row.entering in
          record {
            q = i.q;
            same = i.same;
            sound = row.passed.sound;
            there = subst (λ (parts : Parts). IsIn mark (parts_row parts x).effects.marks) i.is row.there;
          }

  -- the view of its client is the one in which the host stands behind the step
  abbrev view_of : View → Parts → View
  view_of other (Shell p) = p.client.api.view
  view_of other parts = other

  view_given : (other : View) (parts : Parts) → view_of other (giving parts []) ≡ view_of other parts
  view_given other (Shell p) = refl
  view_given other _ = refl

  pub shell_view : (q : ShellPart) → (step_after start 0 log e).state.parts ≡ Shell q
      → q.client.api.view ≡ view_after start 0 (e ∷ log)
  shell_view q is =
      let next = seeing start nobody (e ∷ log) in
      sym (ap (view_of stood) is) ∙ (sym (view_given stood step.state.parts) ∙
      (ap (view_of stood) next.runs ∙ next.sees))

  -- what it has open, and which takeover is complete, is so behind the step
  abbrev opened_of : List OpenTransaction → Parts → List OpenTransaction
  opened_of other (Shell p) = p.client.api.opened
  opened_of other parts = other

  abbrev taken_of : Option View → Parts → Option View
  taken_of other (Shell p) = p.client.taken_over
  taken_of other parts = other

  opened_given : (other : List OpenTransaction) (parts : Parts)
      → opened_of other (giving parts []) ≡ opened_of other parts
  opened_given other (Shell p) = refl
  opened_given other _ = refl

  taken_given : (other : Option View) (parts : Parts) → taken_of other (giving parts []) ≡ taken_of other parts
  taken_given other (Shell p) = refl
  taken_given other _ = refl

  pub shell_next : (q : ShellPart) → (step_after start 0 log e).state.parts ≡ Shell q
      → IsSameBut q (seeing start nobody (e ∷ log)).part
  shell_next q is =
      let next = seeing start nobody (e ∷ log) in
      record {
        opened =
            sym (ap (opened_of []) next.runs) ∙ (opened_given [] step.state.parts ∙ ap (opened_of []) is);
        taken = sym (ap (taken_of None) next.runs) ∙ (taken_given None step.state.parts ∙ ap (taken_of None) is);
      }
