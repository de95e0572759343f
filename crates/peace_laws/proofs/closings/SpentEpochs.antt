-- Where the numbers of epochs are used up, the master that is asked for a closing stops its host.
use Rattle.std.proofs.Common.{◌≡◌, ◌∙◌, ℕ, List, ◌∷◌, true, false, ap, sym, subst}
use Rattle.std.specs.List.{list_any}
use Rattle.std.specs.Prelude.{is_some, Option, None}
use Rattle.std.proofs.lemmas.Bool.{false≢true, true≢false}
use Rattle.api_views.specs.declared.closings.Closing.{Closing}
use Rattle.api_views.specs.declared.closings.Closing.TheVariants.{Gcp, Micro, Lcp}
use Rattle.api_views.specs.Closings.{ask_of}
use Rattle.frag_map.specs.Shape.{IsShape}
use Rattle.gcp_master.specs.declared.phase.Asked.{Asked}
use Rattle.gcp_master.specs.declared.phase.Phase.{Phase}
use Rattle.gcp_master.specs.Begin.{begin_global, begin_micro, begins, begins_if, begun}
use Rattle.gcp_master.specs.Master.{master_row, master_table}
use Rattle.gcp_master.specs.Requests.{asked_by, asked_row, global_asked, micro_asked}
use Rattle.gcp_master.specs.State.{MasterState}
use Rattle.node_views.specs.Blocks.{in_main, parts_row}
use Rattle.node_views.specs.Parts.{main_row}
use Rattle.node_views.specs.declared.host_body.HostBody as host
use Rattle.node_views.specs.declared.main_part.MainPart.{MainPart}
use Rattle.node_views.specs.declared.parts.Parts.{Parts}
use Rattle.node_views.specs.declared.parts.Parts.TheVariants.{Shell, Main, Tc, Ldm}
use Rattle.run_theory.specs.Runs.{IsWithin, Run, log_of}
use Rattle.sig_core.specs.declared.member.Member.{Member}
use Rattle.sig_core.specs.declared.outs.Outgoing.{Outgoing}
use Rattle.sig_core.specs.declared.place.BlockId.{BlockId}
use Rattle.sig_core.specs.declared.place.BlockId.TheVariants as block
use Rattle.sig_core.specs.declared.signal.Body.{Body}
use Rattle.sig_core.specs.declared.signal.Signal.{Signal}
use Rattle.sig_core.specs.Place.{checkpoints}
use Rattle.sig_core.specs.Step.{Step, to_place}
use Rattle.world_core.specs.Hosts.{first_hosts, member_at}
use Rattle.world_core.specs.Start.{Start, made}
use Rattle.world_core.specs.Steps.{HostStep}
use Rattle.world_views.specs.Machine.{after, machine}
use Rattle.world_views.specs.Sending.{is_asked}
use Rattle.level_laws.specs.Laws.{HostsAreLevel}
use Rattle.peace_laws.specs.Closing.{Course, IsAskedFor, MainRests, PresidentRests, closes_epoch, main, next_of}
use Rattle.peace_laws.specs.Laws.{is_spent}
use Rattle.peace_laws.proofs.closings.Moments as moments
use Rattle.peace_laws.proofs.closings.Moments.{Links, moment}
use Rattle.peace_laws.proofs.closings.Runs.{AreOn, asked_fits, asked_is}
use Rattle.peace_laws.proofs.lives.NextSignals.{AllTaken}

module _ (start : Start) (epoch : ℕ) (s : MasterState) (rests : PresidentRests start epoch s) where
  none_left : (asked : Asked)
      → list_any is_spent (begins (record s { asked = asked }) epoch (is_some s.front)).effects.marks ≡ true
      → list_any is_spent (asked_row s asked).effects.marks ≡ true
  unfolding asked_row
  none_left asked is =
      ap (λ (phase : Phase). list_any is_spent (asked_by (record s { asked = asked }) phase).effects.marks) rests.phase
      ∙ is

  global_spent : next_of Gcp epoch ≡ None
      → list_any is_spent (asked_row s (record {
        global = true;
        copy = false;
        local = false;
        micro = false;
      })).effects.marks ≡ true
  unfolding begins begun
  global_spent none =
      none_left (record { global = true; copy = false; local = false; micro = false })
      (ap (λ (next : Option ℕ).
      list_any is_spent
      (begins_if
      (begin_global (record s { asked = record { global = true; copy = false; local = false; micro = false } }) epoch
      next).state
      (begin_global (record s { asked = record { global = true; copy = false; local = false; micro = false } }) epoch
      next).spent
      (is_some s.front)).effects.marks) none)

  micro_spent : next_of Micro epoch ≡ None
      → list_any is_spent (asked_row s (record {
        global = false;
        copy = false;
        local = false;
        micro = true;
      })).effects.marks ≡ true
  unfolding begins begun
  micro_spent none =
      none_left (record { global = false; copy = false; local = false; micro = true })
      (ap (λ (next : Option ℕ).
      list_any is_spent
      (begins_if
      (begin_micro (record s { asked = record { global = false; copy = false; local = false; micro = true } }) epoch
      next).state
      (begin_micro (record s { asked = record { global = false; copy = false; local = false; micro = true } }) epoch
      next).spent
      (is_some s.front)).effects.marks) none)

  spent_by : (kind : Closing) → closes_epoch kind ≡ true → next_of kind epoch ≡ None → (x : Signal)
      → x.body ≡ ask_of kind → x.member.node ≡ 0
      → list_any is_spent (master_row s x).effects.marks ≡ true
  spent_by Lcp closes none x body node = absurd (false≢true closes)
  spent_by Gcp closes none x body node =
      ap (λ (said : Body).
      list_any is_spent
      (master_table s (record { member = x.member; from = x.from }) x.view.number said).effects.marks) body
      ∙ ap (λ n. list_any is_spent (asked_row s (global_asked s.asked n)).effects.marks) node
      ∙ ap (λ (asked : Asked). list_any is_spent (asked_row s (global_asked asked 0)).effects.marks) rests.asked
      ∙ global_spent none
  spent_by Micro closes none x body node =
      ap (λ (said : Body).
      list_any is_spent
      (master_table s (record { member = x.member; from = x.from }) x.view.number said).effects.marks) body
      ∙ ap (λ (asked : Asked). list_any is_spent (asked_row s (micro_asked asked)).effects.marks) rests.asked
      ∙ micro_spent none

main_is : (p : MainPart) (x : Signal) → x.to.block ≡ block.GcpMaster
    → (parts_row (Main p) x).effects.marks ≡ (master_row p.master x).effects.marks
unfolding main_row
main_is p x at = ap (λ (to : BlockId). (in_main (main_row p to x)).effects.marks) at

main_spent : (start : Start) (epoch : ℕ) (parts : Parts) → MainRests start epoch parts → (kind : Closing)
    → closes_epoch kind ≡ true → next_of kind epoch ≡ None → (x : Signal) → x.body ≡ ask_of kind
    → x.to.block ≡ block.GcpMaster
    → x.member.node ≡ 0 → list_any is_spent (parts_row parts x).effects.marks ≡ true
main_spent start epoch (Main p) rests kind closes none x body at node =
    ap (list_any is_spent) (main_is p x at) ∙ spent_by start epoch p.master rests kind closes none x body node
main_spent start epoch (Shell p) rests kind closes none x body at node = absurd rests
main_spent start epoch (Tc p) rests kind closes none x body at node = absurd rests
main_spent start epoch (Ldm p) rests kind closes none x body at node = absurd rests

-- So no host takes the request, if none is to stop by that.
module _ (hosts_level : HostsAreLevel) (start : Start) (shape : IsShape start.shape) (c : Course)
    (none : next_of c.kind c.epoch ≡ None) (base : ℕ → List HostStep) (all : AllTaken start base)
    (es : List HostStep) (e : HostStep) (run : Run (machine start) (e ∷ es))
    (within_now : IsWithin (first_hosts start) (log_of (machine start) (e ∷ es)))
    (unasked : is_asked e.host e.step.taken ≡ false) (unspent : list_any is_spent e.step.marks ≡ false)
    (on : AreOn start c.epoch base es) (links : Links start base es)
    (asked : IsAskedFor start c (moment start base es links)) where
  abbrev x : Signal
  x = e.step.taken

  is_the : (x.from.0 ≡ 0)
      × ((e.host ≡ main) × (record { to = x.to; body = x.body } ≡ to_place (checkpoints 1) (ask_of c.kind)))
  is_the =
      asked_is start shape c base es links asked x.from.0 e.host (record { to = x.to; body = x.body })
      (moments.one_under hosts_level start shape base all es e run within_now on.kept on.running unasked unspent links
      (asked_fits start shape c base es links asked))

  node : x.member.node ≡ 0
  node =
      ap (λ (m : Member). m.node)
      (moments.member_is hosts_level start shape base all es e run within_now on.kept on.running unasked unspent links
      (asked_fits start shape c base es links asked)
      ∙ ap (member_at (made start)) is_the.0)

  spends_it : list_any is_spent e.step.marks ≡ true
  spends_it =
      ap (list_any is_spent) run.1.step.fits.marks
      ∙ ap (λ (t : Step host.HostBody). list_any is_spent t.effects.marks)
      (moments.blocks hosts_level start shape base all es e run within_now on.kept on.running unasked unspent links
      (asked_fits start shape c base es links asked))
      ∙ main_spent start c.epoch (after start e.host (log_of (machine start) es e.host)).parts
      (subst (λ k. MainRests start c.epoch (after start k (log_of (machine start) es k)).parts) (sym is_the.1.0)
      asked.rest.master)
      c.kind c.closes none x (ap (λ (o : Outgoing). o.body) is_the.1.1) (ap (λ (o : Outgoing). o.to.block) is_the.1.1)
      node

  pub none_takes : ⊥
  none_takes = true≢false (sym spends_it ∙ unspent)
