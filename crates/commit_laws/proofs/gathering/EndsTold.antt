-- Hosts that neither coordinate nor run rows send nothing about rows, and tell of no commit; but the client's side
-- acknowledges what it is told.
use Rattle.std.proofs.Common.{◌≡◌, ◌∙◌, ◌||◌, ℕ, true, List, sym, ap}
use Rattle.run_theory.specs.Lists.{Each}
use Rattle.run_theory.proofs.Pasts.{each_from, each_in}
use Rattle.sig_core.specs.declared.mark.Mark.{Mark}
use Rattle.sig_core.specs.declared.member.TxId.{TxId}
use Rattle.sig_core.specs.declared.outs.Outgoing.{Outgoing}
use Rattle.sig_core.specs.declared.place.BlockId.{BlockId}
use Rattle.sig_core.specs.declared.place.BlockId.TheVariants as block
use Rattle.sig_core.specs.declared.signal.Body.{Body}
use Rattle.sig_core.specs.declared.signal.Body.TheVariants.{Chain, Client, Takeover}
use Rattle.sig_core.specs.declared.signal.Signal.{Signal}
use Rattle.sig_core.specs.declared.signal.client.ClientSignal.TheVariants.{TcCommitAck, TcCommitConf, TcKeyFailConf}
use Rattle.sig_core.specs.declared.view.View.{View}
use Rattle.sig_core.specs.Step.{Step}
use Rattle.step_forms.specs.Does.{Does, IsWord, Speaks}
use Rattle.step_forms.proofs.DoesLemmas.{speaks_do}
use Rattle.api_views.specs.Client.{client_row}
use Rattle.api_views.specs.State.{ClientState}
use Rattle.api_views.specs.Words.{is_client_word}
use Rattle.api_views.proofs.Walk.{client_words}
use Rattle.arbiter_block.specs.Arbiter.{arbiter_row}
use Rattle.arbiter_block.specs.Words.{is_arbiter_mark, is_arbiter_word}
use Rattle.arbiter_block.proofs.Walk.{arbiter_words}
use Rattle.gcp_master.specs.Words.{is_master_word}
use Rattle.qmgr_block.specs.Words.{is_qmgr_word}
use Rattle.node_views.specs.Blocks.{parts_entered, parts_row}
use Rattle.node_views.specs.declared.main_part.MainPart.{MainPart}
use Rattle.node_views.specs.declared.parts.Parts.{Parts}
use Rattle.node_views.specs.declared.parts.Parts.TheVariants.{Ldm, Main, Shell, Tc}
use Rattle.node_views.specs.declared.shell_part.ShellPart.{ShellPart}
use Rattle.node_views.specs.Parts.{shell_row}
use Rattle.node_views.specs.WellFormed.{is_well_formed}
use Rattle.node_views.specs.Words.{parts_marks, parts_words}
use Rattle.node_views.proofs.WordWalk.{parts_speak, parts_speak_installed}
use Rattle.world_core.specs.Start.{NobodyStarts, Start}
use Rattle.world_core.specs.Steps.{HostStep}
use Rattle.world_views.specs.Hosts.{started}
use Rattle.world_views.specs.Machine.{after, step_after}
use Rattle.node_views.proofs.HostEach.{TakesEach}
use Rattle.world_views.proofs.StepEach.{step_each}
use Rattle.view_laws.proofs.eras.Shapes.{shape_stays}
use Rattle.request_laws.proofs.routes.Hosts.{IsBeside}
use Rattle.commit_laws.proofs.forth.Client.{Answers, IsToldOf, client_acknowledges}
use Rattle.commit_laws.proofs.hosts.Words.{Beside, entered_stays, kind_stays, of_beside, row_stays}

module _ (D : TxId → Type 0) where
  -- of whom a commit is acknowledged, of that this is so
  abbrev pub IsEnd : Body → Type 0
  IsEnd (Chain signal) = ⊥
  IsEnd (Client (TcCommitAck tx)) = D tx
  IsEnd (Client (TcCommitConf tx epoch)) = ⊥
  IsEnd (Client (TcKeyFailConf tx epoch)) = ⊥
  IsEnd body = Unit {0}

  abbrev pub AreEnds : List Outgoing → Type 0
  AreEnds sends = Each (λ (sent : Outgoing). IsEnd sent.body) sends

  abbrev Sends : Outgoing → Type 0
  Sends sent = IsEnd sent.body

  abbrev Marks : Mark → Type 0
  Marks mark = Unit {0}

  -- a membership and the master beside it tell of no commit, nor does the arbitrator
  main_words : (body : Body) → (is_qmgr_word body || is_master_word body) ≡ true → IsEnd body
  main_words (Chain signal) is = absurd cc
  main_words (Client (TcCommitAck tx)) is = absurd cc
  main_words (Client (TcCommitConf tx epoch)) is = absurd cc
  main_words (Client (TcKeyFailConf tx epoch)) is = absurd cc
  main_words body is = tt

  grant_words : (body : Body) → is_arbiter_word body ≡ true → IsEnd body
  grant_words (Chain signal) is = absurd cc
  grant_words (Client signal) is = absurd cc
  grant_words body is = tt

  main_ends : {S : Type 0} (p : MainPart) (step : Step S)
      → Speaks (parts_words (Main p)) (parts_marks (Main p)) step → Does Sends Marks step
  main_ends p step =
      speaks_do (parts_words (Main p)) (parts_marks (Main p)) IsEnd Marks step main_words (λ mark among. tt)

  entered_ends : (parts : Parts) (view : View) → Beside parts → Does Sends Marks (parts_entered parts view)
  entered_ends (Shell p) view beside = (tt, tt)
  entered_ends (Main p) view beside = main_ends p (parts_entered (Main p) view) (parts_speak_installed (Main p) view)
  entered_ends (Ldm p) view beside = absurd beside
  entered_ends (Tc p) view beside = absurd beside

  module _ (x : Signal) (so : (tx : TxId) → IsToldOf tx x.body → D tx) where
    answers_end : (body : Body) → is_client_word body ≡ true → Answers x.body body → IsEnd body
    answers_end (Client (TcCommitAck tx)) word answers = so tx answers
    answers_end (Client (TcCommitConf tx epoch)) word answers = absurd cc
    answers_end (Client (TcKeyFailConf tx epoch)) word answers = absurd cc
    answers_end (Chain signal) word answers = absurd answers
    answers_end (Takeover signal) word answers = absurd answers
    answers_end body word answers = tt

    client_ends : (s : ClientState) → AreEnds (client_row s x).effects.sends
    client_ends s =
        each_from _ sends (λ o there.
        answers_end o.body (each_in (IsWord is_client_word) o sends (client_words s x).0 there)
        (each_in (λ (y : Outgoing). Answers x.body y.body) o sends (client_acknowledges x s) there))
      where
        sends : List Outgoing
        sends = (client_row s x).effects.sends

    shell_ends : (p : ShellPart) (b : BlockId) → Does Sends Marks (shell_row p b x)
    unfolding shell_row
    shell_ends p block.Api =
        (client_ends p.client, each_from Marks (client_row p.client x).effects.marks (λ mark there. tt))
    shell_ends p block.Arbiter =
        speaks_do is_arbiter_word is_arbiter_mark IsEnd Marks (arbiter_row p.arbiter x) grant_words (λ mark among. tt)
        (arbiter_words p.arbiter x)
    shell_ends p _ = (tt, tt)

    row_ends : (parts : Parts) → Beside parts → Does Sends Marks (parts_row parts x)
    row_ends (Shell p) beside = shell_ends p x.to.block
    row_ends (Main p) beside = main_ends p (parts_row (Main p) x) (parts_speak (Main p) x)
    row_ends (Ldm p) beside = absurd beside
    row_ends (Tc p) beside = absurd beside

    takes_end : (parts : Parts) → Beside parts → TakesEach Sends Marks x parts
    takes_end parts beside = record {
      row = row_ends parts beside;
      settles = λ view at.
          entered_ends (parts_row parts x).state view (row_stays (Unit {0}) (Unit {0}) ⊥ ⊥ x parts beside);
    }

-- so it is of all that such a host sends
pub beside_ends : (start : Start) (nobody : NobodyStarts start) (h : ℕ) (first : IsBeside (started start h).parts)
    (D : TxId → Type 0)
    (log : List HostStep) (e : HostStep)
    → (is_well_formed start.shape e.step.taken ≡ true → (tx : TxId) → IsToldOf tx e.step.taken.body → D tx)
    → AreEnds D (step_after start h log e).effects.sends
beside_ends start nobody h first D log e so =
    (step_each (Sends D) (Marks D) (record { stops = λ cause. tt; installs = λ view. tt; cuts = λ host. tt })
    e.step.taken h (after start h log) (record {
      goes = λ sound old barred. takes_end D e.step.taken (told sound) (after start h log).parts beside;
      enters = λ sound newer among. entered_ends D (after start h log).parts e.step.taken.view beside;
      behind = λ sound newer among barred.
          takes_end D e.step.taken (told sound) (parts_entered (after start h log).parts e.step.taken.view).state
          (entered_stays (Unit {0}) (Unit {0}) ⊥ ⊥ (after start h log).parts e.step.taken.view beside);
    })).0
  where
    beside : Beside (after start h log).parts
    beside = kind_stays (Unit {0}) (Unit {0}) ⊥ ⊥ start h (of_beside (started start h).parts first) log

    told : is_well_formed (after start h log).standing.shape e.step.taken ≡ true → (tx : TxId)
        → IsToldOf tx e.step.taken.body → D tx
    told sound = so (ap (λ shape. is_well_formed shape e.step.taken) (sym (shape_stays start nobody h log)) ∙ sound)
