-- An order to a takeover is well formed, if a signal of its view is that was taken from a link.
use Rattle.std.proofs.Common.{◌≡◌, ◌<◌, ◌≤◌, ◌+◌, ◌/◌, ◌⊎◌, ◌==◌, ◌&&◌, ◌++◌, ◌∙◌, ℕ, zero, suc, Bool, true, false}
use Rattle.std.proofs.Common.{List, [], ◌∷◌, nat_le, inl, inr, refl, sym, ap, arith, subst}
use Rattle.std.proofs.lemmas.Bool.{and_from, and_parts, cases_lt, eq-eqb, le-leb, or_left, true≢false}
use Rattle.std.specs.Prelude.{if◌then◌else◌, not}
use Rattle.run_theory.proofs.Links.{put_each, sent_by_each}
use Rattle.run_theory.proofs.Pasts.{each_in, each_map, each_past}
use Rattle.run_theory.specs.Links.{IsGiven, is_from, sent, sent_by, taken}
use Rattle.run_theory.specs.Lists.{Each, IsIn, IsPast}
use Rattle.run_theory.specs.Machine.{Machine}
use Rattle.sig_core.specs.declared.member.Member.{Member}
use Rattle.sig_core.specs.declared.signal.Body.{Body}
use Rattle.sig_core.specs.declared.signal.Body.TheVariants.{Host, Takeover}
use Rattle.sig_core.specs.declared.signal.Signal.{Signal}
use Rattle.sig_core.specs.declared.signal.host.HostSignal.TheVariants.{Closed}
use Rattle.sig_core.specs.declared.signal.takeover.TakeoverSignal.TheVariants.{TakeoverOrd}
use Rattle.sig_core.specs.Members.{nobody}
use Rattle.node_views.specs.WellFormed.{is_body_sound, is_node, is_sender, is_view, is_well_formed}
use Rattle.world_core.proofs.MadeFirst.{hosts_first}
use Rattle.world_core.proofs.HostNumbers.{made_at}
use Rattle.world_core.specs.Hosts.{hosts, member_at}
use Rattle.world_core.specs.Start.{NobodyStarts, Start, made}
use Rattle.world_core.specs.Steps.{Addressed, HostStep}
use Rattle.world_views.specs.Machine.{cause_in, machine, signals_of}
use Rattle.world_views.specs.Sending.{is_own_work}
use Rattle.view_laws.specs.Order.{sound_machine}
use Rattle.view_laws.specs.Runs.{AreOfCluster, WasInstalled}
use Rattle.view_laws.proofs.follow.Senders.{each_from}
use Rattle.view_laws.proofs.runs.Headers.{headers_installed}
use Rattle.view_laws.proofs.runs.AllSound.{have_orderly}
use Rattle.view_laws.proofs.runs.ChosenViews.{one_view}
use Rattle.moment_laws.specs.Moments.{IsMoment, logs_of}
use Rattle.moment_laws.proofs.MomentSignals.{IsClosed}
use Rattle.moment_laws.proofs.MomentTurns.{host_low}
use Rattle.request_laws.proofs.routes.Headers.{event_past}
use Rattle.commit_laws.proofs.gathering.TellingsNoted.{sound_of}

-- what is so of all that a link carries is so of what it gave, but for closings
module _ (n : Machine HostStep Addressed)
    (closes : (i : ℕ) (log : List HostStep) (e : HostStep) (j : ℕ) → IsClosed (n.closing i log e j).signal.body)
    (K : Addressed → Type 0)
  where
    pub given_so : (i j : ℕ) (log : List HostStep) (xs : List Addressed) → Each K (sent n i j log)
        → IsGiven n i j log xs → (y : Addressed) → IsIn y xs → (IsClosed y.signal.body → ⊥) → K y
    given_so i j log xs all (inl past) y there open_ = each_in K y xs (each_past K past all) there
    given_so i j [] xs all (inr closing) y there open_ = absurd closing
    given_so i j (e ∷ log) xs all (inr closing) y there open_ = by (subst (IsIn y) closing.is there)
      where
        by : IsIn y (n.closing i log e j ∷ closing.rest) → K y
        by (inl is) = absurd (open_ (subst (λ (z : Addressed). IsClosed z.signal.body) (sym is) (closes i log e j)))
        by (inr inside) = each_in K y closing.rest (each_past K closing.past all) inside

pub sound_closes : (start : Start) (i : ℕ) (log : List HostStep) (e : HostStep) (j : ℕ)
    → IsClosed ((sound_machine start).closing i log e j).signal.body
sound_closes start i log e j = record { cause = cause_in e.step.marks; is = refl }

-- no order to a takeover closes a link
pub order_open : (signal : Body) → signal ≡ Takeover TakeoverOrd → IsClosed signal → ⊥
order_open signal is closed =
    let differ : Takeover TakeoverOrd ≡ Host (Closed closed.cause) = sym is ∙ closed.is in absurd cc

-- senders are members that were made, or the client's side
module _ (start : Start) where
  abbrev m : Machine HostStep Addressed
  m = machine start

  node_sound : (node : ℕ) → 1 ≤ node → node ≤ start.shape.nodes → is_node start.shape node ≡ true
  node_sound node some low =
      and_from (nat_le 1 node) (nat_le node start.shape.nodes) (le-leb 1 node some) (le-leb node start.shape.nodes low)

  sender_sound : NobodyStarts start → (h : ℕ) → h < hosts start
      → is_sender start.shape (member_at (made start) h) ≡ true
  sender_sound none_starts zero low = refl
  sender_sound none_starts (suc h) low =
      let few : h / 3 + 1 ≤ start.shape.nodes = omega (arith, low, hosts_first start none_starts) in
      subst (λ (member : Member). is_sender start.shape member ≡ true)
      (sym (made_at start (h / 3) nobody (omega (arith, few))))
      (or_left (is_node start.shape (h / 3 + 1)) _ (node_sound (h / 3 + 1) (omega arith) few))

  abbrev IsFrom : Addressed → Type 0
  IsFrom y = is_sender start.shape y.signal.member ≡ true

  sent_from : NobodyStarts start → (i j : ℕ) → i < hosts start → (log : List HostStep)
      → Each (λ (y : Addressed). is_sender start.shape y.signal.member ≡ true) (sent (machine start) i j log)
  sent_from none_starts i j low [] = tt
  sent_from none_starts i j low (e ∷ log) =
      put_each m IsFrom j (sent_by m i log e) (sent m i j log)
      (sent_by_each m IsFrom i log e
      (λ goes.
      each_map _ IsFrom (signals_of start i log e)
      (λ y one.
      subst (λ (member : Member). is_sender start.shape member ≡ true) (sym one.member)
      (sender_sound none_starts i low))
      (each_from start i log e)))
      (sent_from none_starts i j low log)

  module _ (all : ℕ → List HostStep) (cluster : AreOfCluster start all) where
    all_from : (i j : ℕ)
        → Each (λ (y : Addressed). is_sender start.shape y.signal.member ≡ true) (sent (machine start) i j (all i))
    all_from i j = by (cases_lt i (hosts start))
      where
        by : (i < hosts start) ⊎ (hosts start ≤ i)
            → Each (λ (y : Addressed). is_sender start.shape y.signal.member ≡ true) (sent (machine start) i j (all i))
        by (inl low) = sent_from cluster.nobody i j low (all i)
        by (inr high) = subst (λ log. Each IsFrom (sent m i j log)) (sym (cluster.within i high)) tt

    -- so it is of who sent what was taken from a link
    taken_from : (j : ℕ) (y : Addressed) (i : ℕ) → IsIn y (taken (machine start) i (all j))
        → (IsClosed y.signal.body → ⊥) → is_sender start.shape y.signal.member ≡ true
    taken_from j y i there open_ =
        given_so m (λ k log e l. record { cause = cause_in e.step.marks; is = refl }) IsFrom i j (all i)
        (taken m i (all j)) (all_from i j) (cluster.right.linked i j) y there open_

  -- what was taken earlier was taken
  taken_more : (i : ℕ) (y : Addressed) (newer log : List HostStep) → IsIn y (taken (machine start) i log)
      → IsIn y (taken (machine start) i (newer ++ log))
  taken_more i y [] log there = there
  taken_more i y (e ∷ newer) log there = by (is_from m i e) (taken_more i y newer log there)
    where
      by : (b : Bool) → IsIn y (taken m i (newer ++ log))
          → IsIn y (if b then m.signal e ∷ taken m i (newer ++ log) else taken m i (newer ++ log))
      by true inside = inr inside
      by false inside = inside

  -- what was taken of sound signals is sound, and its view was installed
  module _ (all : ℕ → List HostStep) (i : ℕ) (y : Addressed) where
    pub record IsSoundOf : Type 0 where
      pub sound : is_well_formed start.shape y.signal ≡ true
      pub was : WasInstalled start all y.signal.view

    pub taken_sound : (log : List HostStep) → Each (λ (e : HostStep). WasInstalled start all e.step.taken.view) log
        → IsIn y (taken (sound_machine start) i log) → IsSoundOf
    taken_sound [] was there = absurd there
    taken_sound (e ∷ log) was there =
        by (is_from (sound_machine start) i e) refl there (taken_sound log was.1)
      where
        by : (b : Bool) → is_from (sound_machine start) i e ≡ b
            → IsIn y (if b then (sound_machine start).signal e ∷ taken (sound_machine start) i log
            else taken (sound_machine start) i log)
            → (IsIn y (taken (sound_machine start) i log) → IsSoundOf) → IsSoundOf
        by true from (inl is) rest = record {
          sound =
              ap (λ (z : Addressed). is_well_formed start.shape z.signal) is
              ∙ sound_of (m.asked e) (is_well_formed start.shape e.step.taken) (m.from (m.signal e) == i) from;
          was = subst (λ (z : Addressed). WasInstalled start all z.signal.view) (sym is) was.0;
        }
        by true from (inr inside) rest = rest inside
        by false from inside rest = rest inside

module _ (start : Start) (all : ℕ → List HostStep) (e : HostStep) (es : List HostStep)
    (moment : IsMoment start all (e ∷ es)) (order : e.step.taken.body ≡ Takeover TakeoverOrd)
  where
    abbrev x : Signal
    x = e.step.taken

    -- no host asks itself for it
    pub order_given : (machine start).asked e ≡ false
    order_given = by (x.from.0 == e.host)
      where
        by : (b : Bool) → (b && is_own_work x.body) ≡ false
        by true = ap is_own_work order
        by false = refl

    order_from : is_sender start.shape x.member ≡ true
    order_from =
        taken_from start all moment.cluster e.host ((machine start).signal e) x.from.0
        (subst (λ log. IsIn ((machine start).signal e) (taken (machine start) x.from.0 log))
        (sym past.is)
        (taken_more start x.from.0 ((machine start).signal e) past.newer (e ∷ logs_of start es e.host) newest))
        (order_open x.body order)
      where
        past : IsPast (e ∷ logs_of start es e.host) (all e.host)
        past = event_past start all e es moment

        newest : IsIn ((machine start).signal e) (taken (machine start) x.from.0 (e ∷ logs_of start es e.host))
        newest =
            by ((machine start).asked e) (x.from.0 == x.from.0) order_given (eq-eqb x.from.0 x.from.0 refl)
          where
            by : (asked from : Bool) → asked ≡ false → from ≡ true
                → IsIn ((machine start).signal e)
                (if not asked && from
                then (machine start).signal e ∷ taken (machine start) x.from.0 (logs_of start es e.host)
                else taken (machine start) x.from.0 (logs_of start es e.host))
            by false true is same = inl refl
            by false false is same = absurd (true≢false (sym same))
            by true from is same = absurd (true≢false is)

    -- with another sound signal of its view it is sound
    pub order_sound : (y : Addressed) (i : ℕ) → IsSoundOf start all i y → x.view.number ≡ y.signal.view.number
        → is_well_formed start.shape x ≡ true
    unfolding is_well_formed
    order_sound y i other same =
        and_from (is_sender start.shape x.member && is_view start.shape x.view) (is_body_sound start.shape x.body)
        (and_from (is_sender start.shape x.member) (is_view start.shape x.view) order_from view_sound)
        (ap (is_body_sound start.shape) order)
      where
        was : WasInstalled start all x.view
        was =
            (each_past (λ e. WasInstalled start all e.step.taken.view) (event_past start all e es moment)
            (headers_installed start all moment.cluster e.host (host_low start all e es moment))).0

        view_is : x.view ≡ y.signal.view
        view_is = one_view have_orderly start all moment.cluster x.view y.signal.view was other.was same

        view_sound : is_view start.shape x.view ≡ true
        view_sound =
            ap (is_view start.shape) view_is
            ∙ (and_parts (is_sender start.shape y.signal.member) (is_view start.shape y.signal.view)
            (and_parts (is_sender start.shape y.signal.member && is_view start.shape y.signal.view)
            (is_body_sound start.shape y.signal.body) other.sound).0).1
