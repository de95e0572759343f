-- What a step sends, and to which hosts.
use Rattle.std.specs.Prelude.{ℕ, ◌==◌, ◌&&◌, ◌||◌, Bool, true, false, List, [], ◌∷◌}
use Rattle.sig_core.specs.declared.member.Member.{Member}
use Rattle.sig_core.specs.declared.outs.Outgoing.{Outgoing}
use Rattle.sig_core.specs.declared.signal.Body.{Body}
use Rattle.sig_core.specs.declared.signal.Body.TheVariants.{Host}
use Rattle.sig_core.specs.declared.signal.Signal.{Signal}
use Rattle.sig_core.specs.declared.signal.host.HostSignal.TheVariants.{Closed, Continue, Cut}
use Rattle.sig_core.specs.declared.signal.host.Work.TheVariants.{Request}
use Rattle.node_views.specs.declared.standing.Standing.{Standing}
use Rattle.node_views.specs.Row.{is_cut}
use Rattle.world_core.specs.Machine.{counted}
use Rattle.world_core.specs.Steps.{Addressed}
use Rattle.world_views.specs.declared.sender.Sender.{Sender}
use Rattle.world_views.specs.Hosts.{reached}

-- what only a host itself asks of itself, and no link gives
abbrev pub is_own_work : Body → Bool
is_own_work (Host (Continue (Request request) at)) = true
is_own_work (Host (Cut node first)) = true
is_own_work (Host (Closed cause)) = true
is_own_work body = false

-- a host asked itself for this signal
abbrev pub is_asked : ℕ → Signal → Bool
is_asked h x = (x.from.0 == h) && is_own_work x.body

-- a thing that is sent, and the host that it is sent to
pub record Routed : Type 0 where
  pub to : ℕ
  pub sent : Outgoing

abbrev pub routed : ℕ → Outgoing → Routed
routed to sent = record { to = to; sent = sent }

-- host h, standing so, doesn't send this to a host that it has cut off, nor to itself what it asks of itself alone
abbrev pub is_kept_back : ℕ → Standing → ℕ → Outgoing → Bool
is_kept_back h standing to sent = is_cut standing (record { 0 = to }) || ((to == h) && is_own_work sent.body)

abbrev pub routed_if : Bool → Routed → List Routed → List Routed
routed_if true first more = more
routed_if false first more = first ∷ more

-- what host h sends of these, one after the other, and where
abbrev pub routed_all : List Member → ℕ → Standing → List Outgoing → List Routed
routed_all made h standing [] = []
routed_all made h standing (sent ∷ more) =
    routed_if (is_kept_back h standing (reached made h standing.view sent.to) sent)
    (routed (reached made h standing.view sent.to) sent) (routed_all made h standing more)

-- a signal with its header: it is the one of this number on its link
abbrev pub headed : Sender → ℕ → Outgoing → Signal
headed by number sent =
    record {
      from = record { 0 = by.host };
      member = by.member;
      to = sent.to;
      seq = number;
      stamp = by.stamp;
      view = by.view;
      body = sent.body;
    }

-- so many to each host, and then these
abbrev pub count_routed : List Routed → (ℕ → ℕ) → ℕ → ℕ
count_routed [] count = count
count_routed (r ∷ more) count = count_routed more (counted r.to count)

abbrev pub addressed : Sender → ℕ → Routed → Addressed
addressed by number r = record { to = r.to; signal = headed by number r.sent }

-- on their way, each with the next number of its link
abbrev pub all_addressed : Sender → (ℕ → ℕ) → List Routed → List Addressed
all_addressed by count [] = []
all_addressed by count (r ∷ more) = addressed by (count r.to) r ∷ all_addressed by (counted r.to count) more
