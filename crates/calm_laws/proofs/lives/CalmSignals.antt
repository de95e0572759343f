-- What a calm signal tells by its block and its body.
use Rattle.std.proofs.Common.{◌≡◌, ℕ, zero, suc, [], Bool, true, false, refl, sym, ◌∙◌}
use Rattle.std.specs.Prelude.{◌%◌}
use Rattle.std.proofs.lemmas.Bool.{false≢true}
use Rattle.api_views.specs.Laws.{is_vouched}
use Rattle.node_core.specs.Requests.{is_request}
use Rattle.node_views.specs.WellFormed.{is_body_sound}
use Rattle.sig_core.specs.declared.member.HostId.{HostId}
use Rattle.sig_core.specs.declared.outcome.StopCause.{StopCause}
use Rattle.sig_core.specs.declared.place.BlockId.{BlockId}
use Rattle.sig_core.specs.declared.place.BlockId.TheVariants as block
use Rattle.sig_core.specs.declared.place.Part.{Part}
use Rattle.sig_core.specs.declared.place.Part.TheVariants.{Main, Tc, Ldm}
use Rattle.sig_core.specs.declared.signal.Body.{Body}
use Rattle.sig_core.specs.declared.signal.Body.TheVariants.{Host, Client, Membership}
use Rattle.sig_core.specs.declared.signal.Signal.{Signal}
use Rattle.sig_core.specs.declared.signal.client.ClientSignal.TheVariants.{TcBeginConf, TcCommitConf, TcRollbackRep}
use Rattle.sig_core.specs.declared.signal.host.HostSignal.TheVariants.{Closed, Continue, Cut, Round}
use Rattle.sig_core.specs.declared.signal.host.Work.TheVariants.{Request}
use Rattle.sig_core.specs.declared.signal.membership.MembershipSignal.TheVariants.{Heartbeat}
use Rattle.sig_core.specs.declared.view.Shape.{Shape}
use Rattle.world_core.specs.Hosts.{part_by}
use Rattle.world_views.specs.Sending.{is_own_work}
use Rattle.calm_laws.specs.Calm.{has_block, is_calm, is_for, is_for_coordinator, is_for_epochs, is_for_membership}
use Rattle.calm_laws.specs.Calm.{is_for_rows, is_in}
use Rattle.calm_laws.specs.Known.{txs_in}
use Rattle.calm_laws.specs.Plain.{is_beating, is_main}
use Rattle.calm_laws.specs.Steps.{is_of_views}
use Rattle.calm_laws.proofs.plain_steps.Ease.{has_calm_block, takes_calmly}

-- a block of the client's side
abbrev pub is_client : BlockId → Bool
is_client block.Api = true
is_client of = false

-- no block takes a closing or a cut
pub no_closing : (of : BlockId) (cause : StopCause) → is_for of (Host (Closed cause)) ≡ false
no_closing block.Api cause = refl
no_closing block.Qmgr cause = refl
no_closing block.Tc cause = refl
no_closing block.Dih cause = refl
no_closing block.Lqh cause = refl
no_closing of cause = refl

no_cut : (of : BlockId) (node : ℕ) (host : HostId) → is_for of (Host (Cut node host)) ≡ false
no_cut block.Api node host = refl
no_cut block.Qmgr node host = refl
no_cut block.Tc node host = refl
no_cut block.Dih node host = refl
no_cut block.Lqh node host = refl
no_cut of node host = refl

-- so what a host asks of itself is a request
pub own_request : (of : BlockId) (body : Body) → is_for of body ≡ true → is_own_work body ≡ true
    → is_request body ≡ true
own_request of (Host (Continue (Request request) at)) calm own = refl
own_request of (Host (Cut node host)) calm own = absurd (false≢true (sym (no_cut of node host) ∙ calm))
own_request of (Host (Closed cause)) calm own = absurd (false≢true (sym (no_closing of cause) ∙ calm))
own_request of body calm own = absurd cc

-- only main parts have a block of views
part_views : (part : Part) (of : BlockId) → is_main part ≡ false → is_in part of ≡ true → is_of_views of ≡ true → ⊥
part_views Main of takes has views = cc
part_views Tc block.Tc takes has views = cc
part_views Tc block.Dih takes has views = cc
part_views Tc of takes has views = cc
part_views Ldm block.Lqh takes has views = cc
part_views Ldm of takes has views = cc

pub no_views : (h : ℕ) (of : BlockId) → is_beating h ≡ false → has_block h of ≡ true → is_of_views of ≡ true → ⊥
no_views zero block.Api takes has views = cc
no_views zero of takes has views = cc
no_views (suc h) of takes has views = part_views (part_by (h % 3)) of takes has views

-- what only a member may say is for the client
membership_vouched : (body : Body) → is_for_membership body ≡ true → is_vouched body ≡ true → ⊥
membership_vouched (Client (TcBeginConf name tx)) calm vouched = cc
membership_vouched (Client (TcCommitConf tx epoch)) calm vouched = cc
membership_vouched (Client (TcRollbackRep tx cause)) calm vouched = cc
membership_vouched body calm vouched = cc

coordinator_vouched : (body : Body) → is_for_coordinator body ≡ true → is_vouched body ≡ true → ⊥
coordinator_vouched (Client (TcBeginConf name tx)) calm vouched = cc
coordinator_vouched (Client (TcCommitConf tx epoch)) calm vouched = cc
coordinator_vouched (Client (TcRollbackRep tx cause)) calm vouched = cc
coordinator_vouched body calm vouched = cc

epochs_vouched : (body : Body) → is_for_epochs body ≡ true → is_vouched body ≡ true → ⊥
epochs_vouched (Client (TcBeginConf name tx)) calm vouched = cc
epochs_vouched (Client (TcCommitConf tx epoch)) calm vouched = cc
epochs_vouched (Client (TcRollbackRep tx cause)) calm vouched = cc
epochs_vouched body calm vouched = cc

rows_vouched : (body : Body) → is_for_rows body ≡ true → is_vouched body ≡ true → ⊥
rows_vouched (Client (TcBeginConf name tx)) calm vouched = cc
rows_vouched (Client (TcCommitConf tx epoch)) calm vouched = cc
rows_vouched (Client (TcRollbackRep tx cause)) calm vouched = cc
rows_vouched body calm vouched = cc

pub vouched_client : (of : BlockId) (body : Body) → is_for of body ≡ true → is_vouched body ≡ true → is_client of ≡ true
vouched_client block.Api body calm vouched = refl
vouched_client block.Qmgr body calm vouched = absurd (membership_vouched body calm vouched)
vouched_client block.Tc body calm vouched = absurd (coordinator_vouched body calm vouched)
vouched_client block.Dih body calm vouched = absurd (epochs_vouched body calm vouched)
vouched_client block.Lqh body calm vouched = absurd (rows_vouched body calm vouched)
vouched_client of body calm vouched = absurd cc

-- What a main part takes tells of no transaction, and each host may say it.
pub record IsBeat (shape : Shape) (body : Body) : Type 0 where
  pub txs : txs_in body ≡ []
  pub sound : is_body_sound shape body ≡ true
  pub free : is_vouched body ≡ false
  pub given : is_own_work body ≡ false

beat : (shape : Shape) (body : Body) → is_for_membership body ≡ true → IsBeat shape body
beat shape (Host Round) calm = record { txs = refl; sound = refl; free = refl; given = refl }
beat shape (Membership Heartbeat) calm = record { txs = refl; sound = refl; free = refl; given = refl }
beat shape body calm = absurd cc

main_takes : (part : Part) (of : BlockId) (body : Body) → is_main part ≡ true → is_in part of ≡ true
    → is_for of body ≡ true → is_for_membership body ≡ true
main_takes Main block.Qmgr body beats has calm = calm
main_takes Main of body beats has calm = absurd cc
main_takes Tc of body beats has calm = absurd cc
main_takes Ldm of body beats has calm = absurd cc

pub main_beat : (shape : Shape) (h : ℕ) (x : Signal) → is_beating h ≡ true → is_calm h x ≡ true → IsBeat shape x.body
main_beat shape zero x beats calm = absurd (false≢true beats)
main_beat shape (suc h) x beats calm =
    beat shape x.body
    (main_takes (part_by (h % 3)) x.to.block x.body beats (has_calm_block (suc h) x calm) (takes_calmly (suc h) x calm))
