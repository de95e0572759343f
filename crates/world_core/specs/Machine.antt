-- The machine of the kernel: the shell's host and three for each node, each of which has a log.
use Rattle.std.specs.Prelude.{◌≡◌, ℕ, ◌+◌, ◌-◌, ◌^◌, ◌==◌, min, if◌then◌else◌, Bool, true, false, List, [], ◌∷◌}
use Rattle.node_core.specs.declared.host.Host as node
use Rattle.node_core.specs.Requests.{is_request}
use Rattle.node_core.specs.Row.{row}
use Rattle.run_theory.specs.Machine.{Machine}
use Rattle.sig_core.specs.declared.outs.Outgoing.{Outgoing}
use Rattle.sig_core.specs.declared.request.ApiReq.{ApiReq}
use Rattle.sig_core.specs.declared.signal.Body.TheVariants.{Host}
use Rattle.sig_core.specs.declared.signal.Signal.{Signal}
use Rattle.sig_core.specs.declared.signal.host.HostSignal.TheVariants.{Continue}
use Rattle.sig_core.specs.declared.signal.host.Work.TheVariants.{Request}
use Rattle.sig_core.specs.Place.{client}
use Rattle.sig_core.specs.Step.{Step}
use Rattle.world_core.specs.Hosts.{Membership, first_membership, member_at, receiver, started}
use Rattle.world_core.specs.Start.{Start}
use Rattle.world_core.specs.Steps.{Addressed, HostStep}

-- host h after the steps of its log
abbrev pub after : Start → ℕ → List HostStep → node.Host
after start h [] = started start h
after start h (e ∷ log) = (row (after start h log) e.step.taken).state

-- what a step of host h does that comes after a log
abbrev pub step_after : Start → ℕ → List HostStep → HostStep → Step node.Host
step_after start h log e = row (after start h log) e.step.taken

-- so many signals and one more; the count stays at the end of its type
abbrev pub one_more : ℕ → ℕ
one_more count = min (count + 1) (2 ^ 64 - 1)

-- how many signals were sent to each host, and then one more to this one
abbrev pub counted : ℕ → (ℕ → ℕ) → ℕ → ℕ
counted to count j = if to == j then one_more (count j) else count j

-- so many to each host, and then those of a step
abbrev pub count_sends : Membership → List Outgoing → (ℕ → ℕ) → ℕ → ℕ
count_sends who [] count = count
count_sends who (sent ∷ more) count = count_sends who more (counted (receiver who sent.to) count)

-- how many signals the steps of host h's log sent to each host
abbrev pub sent_count : Start → ℕ → List HostStep → ℕ → ℕ
sent_count start h [] = λ j. 0
sent_count start h (e ∷ log) =
    count_sends (first_membership start) (step_after start h log e).effects.sends (sent_count start h log)

-- a signal of host h with its header: it is the one of this number on its link
abbrev pub headed : Membership → ℕ → ℕ → ℕ → Outgoing → Signal
headed who h stamp number sent =
    record {
      from = record { 0 = h };
      member = member_at who.made h;
      to = sent.to;
      seq = number;
      stamp = stamp;
      view = who.view;
      body = sent.body;
    }

-- on its way
abbrev pub addressed : Membership → ℕ → ℕ → ℕ → Outgoing → Addressed
addressed who h stamp number sent = record { to = receiver who sent.to; signal = headed who h stamp number sent }

-- the signals of a step, each with the next number of its link
abbrev pub all_addressed : Membership → ℕ → ℕ → (ℕ → ℕ) → List Outgoing → List Addressed
all_addressed who h stamp count [] = []
all_addressed who h stamp count (sent ∷ more) =
    addressed who h stamp (count (receiver who sent.to)) sent ∷ all_addressed who h stamp
    (counted (receiver who sent.to) count) more

-- the signals that host h sends in a step
abbrev pub signals_of : Start → ℕ → List HostStep → HostStep → List Addressed
signals_of start h log e = all_addressed (first_membership start) h e.step.stamp (sent_count start h log)
    (step_after start h log e).effects.sends

-- the signal by which host 0 is asked for a request
abbrev pub request_signal : Membership → ℕ → ApiReq → Signal
request_signal who stamp request = headed who 0 stamp 0 (record {
  to = client;
  body = Host (Continue (Request request) 0);
})

-- a step that a request makes, at host 0
pub record IsAsked (who : Membership) (h stamp : ℕ) (signal : Signal) : Type 0 where
  pub request : ApiReq
  pub shell : h ≡ 0
  pub is : signal ≡ request_signal who stamp request

abbrev pub asked_rightly : Membership → Bool → ℕ → ℕ → Signal → Type 0
asked_rightly who true h stamp signal = IsAsked who h stamp signal
asked_rightly who false h stamp signal = Unit {0}

-- the stamp of the newest step
abbrev pub last_stamp : List HostStep → ℕ
last_stamp [] = 0
last_stamp (e ∷ log) = e.step.stamp

-- after its log host h may make the step: it has the marks of its row, and a request is asked rightly, at any time
pub record FitsRow (start : Start) (h : ℕ) (log : List HostStep) (e : HostStep) : Type 0 where
  pub marks : e.step.marks ≡ (step_after start h log e).effects.marks
  pub asked_at : ℕ
  pub asked : asked_rightly (first_membership start) (is_request e.step.taken.body) h asked_at e.step.taken

-- The machine, from this start. No host stops and none is made later by now. Stamps may be skipped, so that it goes on
-- as a part of a cluster does whose hosts have something else to do besides.
abbrev pub machine : Start → Machine HostStep Addressed
machine start =
    record {
      host = λ e. e.host;
      stamp = λ e. e.step.stamp;
      skips = true;
      signal = λ e. record { to = e.host; signal = e.step.taken };
      asked = λ e. is_request e.step.taken.body;
      from = λ x. x.signal.from.0;
      to = λ x. x.to;
      sent_at = λ x. x.signal.stamp;
      Fits = λ h log e. FitsRow start h log e;
      sends = λ h log e. signals_of start h log e;
      stops = λ e. false;
      closing = λ h log e j. record { to = j; signal = record e.step.taken { stamp = e.step.stamp } };
      made = λ h. 0;
      Makes = λ h log e. ⊥;
    }
