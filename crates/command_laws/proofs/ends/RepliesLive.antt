-- No reply tells of a host that stopped.
use Rattle.std.proofs.Common.{◌≡◌, ◌≢◌, ◌⊎◌, ℕ, zero, suc, Bool, true, false, List, [], ◌∷◌, refl, sym, subst, inl, inr}
use Rattle.std.proofs.Common.{true≢false}
use Rattle.std.specs.Prelude.{◌%◌}
use Rattle.run_theory.proofs.EventCases.{event_each}
use Rattle.run_theory.proofs.Along.{along_signals_of_logs}
use Rattle.run_theory.specs.Along.{Comes, IsKept}
use Rattle.run_theory.specs.Lists.{Each}
use Rattle.run_theory.specs.Runs.{log_of}
use Rattle.sig_core.specs.declared.outs.Outgoing.{Outgoing}
use Rattle.sig_core.specs.declared.place.Part.{Part}
use Rattle.sig_core.specs.declared.place.Part.TheVariants as part
use Rattle.sig_core.specs.declared.reply.ApiReply.{ApiReply}
use Rattle.sig_core.specs.declared.signal.Body.{Body}
use Rattle.sig_core.specs.declared.signal.Body.TheVariants.{Client, Chain}
use Rattle.sig_core.specs.declared.signal.chain.ChainSignal.TheVariants.{LqhKeyRef}
use Rattle.sig_core.specs.declared.signal.client.ClientSignal.TheVariants.{TcRollbackRep}
use Rattle.sig_core.specs.declared.signal.Signal.{Signal}
use Rattle.sig_core.specs.Step.{Step}
use Rattle.frag_map.specs.Layout.{first_layout}
use Rattle.api_block.specs.State.{ApiState}
use Rattle.lqh_block.specs.Lqh.{lqh_table}
use Rattle.node_core.proofs.HostCases.{IsApiStep, IsTcStep, api_step, each_send, tc_step}
use Rattle.node_core.specs.Blocks.{api_of, dih_of, lqh_of, tc_of}
use Rattle.node_core.specs.declared.host.Host.{Host}
use Rattle.node_core.specs.Dih.{dih_table}
use Rattle.node_core.specs.Fresh.{fresh_part, fresh_shell}
use Rattle.node_core.specs.Requests.{is_request}
use Rattle.node_core.specs.Row.{row}
use Rattle.tc_block.specs.State.{TcState}
use Rattle.tc_block.specs.Tc.{tc_row}
use Rattle.world_core.proofs.Stamped.{stamped}
use Rattle.world_core.specs.Hosts.{Membership, first_membership, first_hosts, member_at, part_by, receiver, started}
use Rattle.world_core.specs.Machine.{after, all_addressed, counted, machine, sent_count, signals_of, step_after}
use Rattle.world_core.specs.Start.{Start, made}
use Rattle.world_core.specs.Steps.{Addressed, HostStep}
use Rattle.host_laws.proofs.api.Moves.{is_api_kind}
use Rattle.host_laws.proofs.hosts.DihSends.{dih_kinds}
use Rattle.host_laws.proofs.hosts.SendKinds.{are_of, each_of, is_dih_kind, of_kind}
use Rattle.run_laws.proofs.ways.Passed.{api_each}
use Rattle.host_laws.proofs.hosts.BlocksAlong.{replies_are}
use Rattle.command_laws.proofs.ends.LivingReplies.{AllLiving, api_lives}
use Rattle.command_laws.proofs.ends.LivingRows.{lqh_sound}
use Rattle.command_laws.proofs.ends.LivingTurns.{AllLive, is_sound, tc_lives}
use Rattle.command_laws.specs.Living.{RepliesAreOfTheLiving, is_of_living}

-- a request of the shell gives no cause
request_sound : (body : Body) → is_request body ≡ true → is_sound body ≡ true
request_sound (Client (TcRollbackRep tx why)) e = cc
request_sound (Chain (LqhKeyRef tx key why)) e = cc
request_sound _ e = refl

dih_sound : (body : Body) → is_dih_kind body ≡ true → is_sound body ≡ true
dih_sound (Client (TcRollbackRep tx why)) e = cc
dih_sound (Chain (LqhKeyRef tx key why)) e = cc
dih_sound _ e = refl

api_sound : (body : Body) → is_api_kind body ≡ true → is_sound body ≡ true
api_sound (Client (TcRollbackRep tx why)) e = cc
api_sound (Chain (LqhKeyRef tx key why)) e = cc
api_sound _ e = refl

-- no reply of a host, and no transaction of it, tells of a host that stopped
record HostLives (g : Host) : Type 0 where
  replies : AllLiving (api_of g).replies
  live : AllLive (tc_of g).live

record StepLives (step : Step Host) : Type 0 where
  state : HostLives step.state
  sends : Each (λ (o : Outgoing). is_sound o.body ≡ true) step.effects.sends

all_sound : (sends : List Outgoing) → are_of is_sound sends ≡ true
    → Each (λ (o : Outgoing). is_sound o.body ≡ true) sends
all_sound sends kind = each_of is_sound (λ (o : Outgoing). is_sound o.body ≡ true) (λ o is. is) sends kind

row_lives : (g : Host) (x : Signal) → is_sound x.body ≡ true → HostLives g → StepLives (row g x)
row_lives g x sound all = record {
  state = record { replies = replies_kept (api_step g x); live = live_kept (tc_step g x) };
  sends = each_send (λ (o : Outgoing). is_sound o.body ≡ true) g x (record {
    api = λ runs at. api_each (λ (o : Outgoing). is_sound o.body ≡ true) (λ o is. api_sound o.body is)
        (λ name node. refl) (api_of g) x.body;
    tc = λ runs at. all_sound (tc_row (tc_of g) x).effects.sends (tc_lives (tc_of g) x.body sound all.live).sends;
    dih = λ runs at. all_sound (dih_table (dih_of g) x.body).effects.sends
        (of_kind is_dih_kind is_sound dih_sound (dih_table (dih_of g) x.body).effects.sends
        (dih_kinds (dih_of g) x.body));
    rows = λ runs at. all_sound (lqh_table (lqh_of g) x.body).effects.sends (lqh_sound (lqh_of g) x.body);
  });
}
  where
    replies_kept : IsApiStep g x (row g x) ⊎ (api_of (row g x).state ≡ api_of g)
        → AllLiving (api_of (row g x).state).replies
    replies_kept (inl step) = subst (λ (s : ApiState). AllLiving s.replies) (sym step.state)
        (api_lives (api_of g) all.replies x.body sound)
    replies_kept (inr same) = subst (λ (s : ApiState). AllLiving s.replies) (sym same) all.replies

    live_kept : IsTcStep g x (row g x) ⊎ (tc_of (row g x).state ≡ tc_of g) → AllLive (tc_of (row g x).state).live
    live_kept (inl step) = subst (λ (s : TcState). AllLive s.live) (sym step.state)
        (tc_lives (tc_of g) x.body sound all.live).live
    live_kept (inr same) = subst (λ (s : TcState). AllLive s.live) (sym same) all.live

addressed_sound : (who : Membership) (h stamp : ℕ) (count : ℕ → ℕ) (sends : List Outgoing)
    → Each (λ (o : Outgoing). is_sound o.body ≡ true) sends
    → Each (λ (x : Addressed). is_sound x.signal.body ≡ true) (all_addressed who h stamp count sends)
addressed_sound who h stamp count [] all = tt
addressed_sound who h stamp count (o ∷ more) all =
    (all.0, addressed_sound who h stamp (counted (receiver who o.to) count) more all.1)

module _ (start : Start) where
  fresh_lives : (h : ℕ) → HostLives (started start h)
  unfolding started fresh_shell fresh_part
  fresh_lives zero = record { replies = tt; live = tt }
  fresh_lives (suc h) = by (part_by (h % 3))
    where
      by : (of : Part)
          → HostLives (fresh_part of (member_at (made start) (suc h)) (first_layout start.shape) start.epoch start.rows)
      by part.Main = record { replies = tt; live = tt }
      by part.Tc = record { replies = tt; live = tt }
      by part.Ldm = record { replies = tt; live = tt }

  abbrev Sound : Addressed → (ℕ → List HostStep) → Type 0
  Sound x logs = is_sound x.signal.body ≡ true

  abbrev AllHosts : (ℕ → List HostStep) → Type 0
  AllHosts logs = (h : ℕ) → HostLives (after start h (logs h))

  module _ (es : List HostStep) (e : HostStep) (come : Comes (machine start) Sound AllHosts es e) where
    abbrev h : ℕ
    h = e.host

    abbrev log : List HostStep
    log = log_of (machine start) es h

    sound : is_sound e.step.taken.body ≡ true
    sound = by (is_request e.step.taken.body) refl
      where
        by : (b : Bool) → is_request e.step.taken.body ≡ b → is_sound e.step.taken.body ≡ true
        by true is = request_sound e.step.taken.body is
        by false is = come.told is

    lives : StepLives (step_after start h log e)
    lives = row_lives (after start h log) e.step.taken sound (come.all.law h)

    now_lives : AllHosts (log_of (machine start) (e ∷ es))
    now_lives =
        event_each (machine start) e es (λ g l. HostLives (after start g l)) lives.state (λ g off. come.all.law g)

    sends_sound : Each (λ (x : Addressed). is_sound x.signal.body ≡ true) (signals_of start h log e)
    sends_sound = addressed_sound (first_membership start) h e.step.stamp (sent_count start h log)
        (step_after start h log e).effects.sends lives.sends

  living_kept : IsKept (machine start) Sound AllHosts
  living_kept = record {
    start = λ h. fresh_lives h;
    step = λ es e come. now_lives es e come;
    sends = λ es e come runs. sends_sound es e come;
    closing = λ es e come stop j. absurd (true≢false (sym stop));
    stays = λ es e x come sound. sound;
  }

pub replies_live : RepliesAreOfTheLiving
replies_live start logs within right =
    subst (Each (λ (reply : ApiReply). is_of_living reply ≡ true)) (sym (replies_are (after start 0 (logs 0))))
    ((along_signals_of_logs (machine start) (stamped start) (Sound start) (AllHosts start) (living_kept start)
    (first_hosts start) logs within right).law 0).replies
