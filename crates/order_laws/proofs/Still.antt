-- When nothing is under way: what is for hosts that are there isn't in transit.
use Rattle.std.proofs.Common.{◌≡◌, ◌⊎◌, ◌≤◌, ◌<◌, ◌+◌, ℕ, suc, Bool, true, false, List, [], ◌∷◌, ◌++◌, length}
use Rattle.std.proofs.Common.{refl, sym, ap}
use Rattle.std.proofs.Common.{◌∙◌, subst, arith, inl, inr}
use Rattle.std.proofs.lemmas.Bool.{cases_lt, eqb-true, false≢true, true≢false}
use Rattle.std.proofs.lemmas.List.{length-append}
use Rattle.std.specs.List.{list_any}
use Rattle.std.specs.Prelude.{◌==◌, ◌&&◌, if◌then◌else◌}
use Rattle.run_theory.specs.Links.{taken}
use Rattle.run_theory.specs.Lists.{Each}
use Rattle.sig_core.specs.declared.member.Member.{Member}
use Rattle.sig_core.specs.declared.member.TxId.{TxId}
use Rattle.sig_core.specs.declared.outs.Outgoing.{Outgoing}
use Rattle.sig_core.specs.declared.place.BlockId.TheVariants as block
use Rattle.sig_core.specs.declared.place.Place.{Place}
use Rattle.sig_core.specs.declared.signal.Body.{Body}
use Rattle.sig_core.specs.Chain.{node_at}
use Rattle.sig_core.specs.Place.{coordinator_of}
use Rattle.sig_core.specs.Same.{same_tx}
use Rattle.world_core.proofs.HostNumbers.{host_below}
use Rattle.world_core.specs.Hosts.{Membership, first_membership, home, host_for, first_hosts, receiver}
use Rattle.world_core.specs.Machine.{all_addressed, counted, machine, sent_count, signals_of, step_after}
use Rattle.world_core.specs.Quiet.{IsQuiet}
use Rattle.world_core.specs.Start.{Start}
use Rattle.world_core.specs.Steps.{Addressed, HostStep}
use Rattle.host_laws.proofs.coordinator.Sends.{eqb-self}
use Rattle.host_laws.proofs.api.Wishes.{is_tc}
use Rattle.host_laws.specs.Ways.{back_by, forth_by, sent_ways}
use Rattle.run_laws.specs.GivenUp.{is_carried_out, is_given_up}
use Rattle.run_laws.specs.Routes.{IsForBlock, IsRouted, IsSentTo, replicas}
use Rattle.run_laws.specs.Transit.{AreInTransit, Comes, IsRun, logs_of}
use Rattle.run_laws.proofs.routes.Addressed.{comes_below}
use Rattle.run_laws.proofs.hosts.AlongSteps.{home_place}
use Rattle.run_laws.proofs.routes.Routes.{signals_are_for_blocks, signals_are_routed}
use Rattle.run_laws.proofs.routes.Chain.{replicas_are_nodes}
use Rattle.run_laws.proofs.transit.Transit.{along_transit}
use Rattle.run_laws.proofs.transit.Runs.{HasTransit, chosen, has_transit, is_on}
use Rattle.run_laws.proofs.transit.Weighing.{each_between, in_transit, joined_each}
use Rattle.order_laws.specs.Still.{IsStill}

module _ (start : Start) where
  -- each signal is on a link from a host that is there, to the host of its place
  pub record IsOnLink (x : Addressed) : Type 0 where
    pub place : x.to ≡ host_for start x.signal.to
    pub from : x.signal.from.0 < first_hosts start

  headed_links : (h stamp : ℕ) (count : ℕ → ℕ) (sends : List Outgoing) → h < first_hosts start
      → Each IsOnLink (all_addressed (first_membership start) h stamp count sends)
  headed_links h stamp count [] low = tt
  headed_links h stamp count (o ∷ sends) low = (
    record { place = refl; from = low },
    headed_links h stamp (counted (receiver (first_membership start) o.to) count) sends low,
  )

  pub links_along : (es : List HostStep) (xs : List Addressed) → IsRun start es → AreInTransit start es xs
      → Each IsOnLink xs
  links_along =
      along_transit start (λ es xs. Each IsOnLink xs) tt
      (λ es e before between come transit all takes.
      joined_each IsOnLink (signals_of start e.host (logs_of start es e.host) e) between
      (headed_links e.host e.step.stamp (sent_count start e.host (logs_of start es e.host))
      (step_after start e.host (logs_of start es e.host) e).effects.sends (comes_below start es e come))
      (each_between IsOnLink e before between takes all))

  -- who has gone either way is at a host that is there
  pub home_low : (es : List HostStep) (tx : TxId) → IsRun start es
      → (is_given_up start (logs_of start es) tx ≡ true) ⊎ (is_carried_out start (logs_of start es) tx ≡ true)
      → home start tx < first_hosts start
  home_low es tx run over = by (cases_lt (home start tx) (first_hosts start))
    where
      none : first_hosts start ≤ home start tx → logs_of start es (home start tx) ≡ []
      none high = run.within (home start tx) high

      which : first_hosts start ≤ home start tx
          → (is_given_up start (logs_of start es) tx ≡ true) ⊎ (is_carried_out start (logs_of start es) tx ≡ true) → ⊥
      which high (inl given) =
          false≢true (sym (ap (λ log. list_any (same_tx tx) (sent_ways start back_by (home start tx) log)) (none high))
          ∙ given)
      which high (inr carried) =
          false≢true (sym (ap (λ log. list_any (same_tx tx) (sent_ways start forth_by (home start tx) log)) (none high))
          ∙ carried)

      by : (home start tx < first_hosts start) ⊎ (first_hosts start ≤ home start tx) → home start tx < first_hosts start
      by (inl low) = low
      by (inr high) = absurd (which high over)

  module _ (es : List HostStep) (xs : List Addressed) (run : IsRun start es) (still : IsStill start es xs) where
    -- a place of a chain is at a host that is there
    pub replica_low : (key : List ℕ) (at : ℕ) → at < length (replicas start key) → (to : Place)
        → to.node ≡ node_at (replicas start key) at → host_for start to < first_hosts start
    replica_low key at inside to is =
        let node = replicas_are_nodes start key at run.shape inside in
        host_below start to (omega (arith, node.from, is)) (omega (arith, node.to, is))

    -- what weighs nothing where it is for hosts that aren't there, weighs nothing at all
    abbrev pub IsZero : (Place → Body → ℕ) → Type 0
    IsZero w =
        (to : Place) (body : Body) → IsRouted start to.node body → IsForBlock to body
        → first_hosts start ≤ host_for start to
        → w to body ≡ 0

    pub none_weigh : (w : Place → Body → ℕ) → IsZero w → in_transit w xs ≡ 0
    none_weigh w zero_at =
        go xs (signals_are_routed start es xs run still.transit).signals
        (signals_are_for_blocks start es xs run still.transit) (links_along es xs run still.transit) still.absent
      where
        go : (ys : List Addressed) → Each (λ (x : Addressed). IsRouted start x.signal.to.node x.signal.body) ys
            → Each (λ (x : Addressed). IsForBlock x.signal.to x.signal.body) ys → Each IsOnLink ys
            → Each (λ (x : Addressed). first_hosts start ≤ x.to) ys → in_transit w ys ≡ 0
        go [] routed blocks links absent = refl
        go (x ∷ ys) routed blocks links absent =
            omega (
              arith,
              zero_at x.signal.to x.signal.body routed.0 blocks.0 (omega (arith, absent.0, links.0.place)),
              go ys routed.1 blocks.1 links.1 absent.1,
            )

  -- the host of its coordinator
  pub home_for : (tx : TxId) → home start tx < first_hosts start → (to : Place)
      → (is_tc to.block && (to.node == tx.tc)) ≡ true → host_for start to < first_hosts start
  home_for tx low to is = omega (arith, low, home_place start tx to is)

  pub coordinator_low : (tx : TxId) → home start tx < first_hosts start → (to : Place) → to ≡ coordinator_of tx
      → host_for start to < first_hosts start
  coordinator_low tx low to is =
      home_for tx low to
      (ap (λ (p : Place). is_tc p.block && (p.node == tx.tc)) is ∙ eqb-self tx.tc)

  -- where each host has taken all that was sent to it
  chosen_none : {A : Type 0} (p : A → Bool) (ys : List A) → chosen p ys ≡ [] → Each (λ y. p y ≡ false) ys
  chosen_none p [] none = tt
  chosen_none p (y ∷ ys) none = by (p y) refl none (chosen_none p ys)
    where
      by : (b : Bool) → p y ≡ b → (if b then y ∷ chosen p ys else chosen p ys) ≡ []
          → (chosen p ys ≡ [] → Each (λ y. p y ≡ false) ys) → (p y ≡ false) × Each (λ y. p y ≡ false) ys
      by true e none more = absurd cc
      by false e none more = (e, more none)

  nothing_before : {A : Type 0} (front back : List A) → front ++ back ≡ back → front ≡ []
  nothing_before [] back is = refl
  nothing_before (x ∷ front) back is =
      absurd (omega (arith, ap length is, length-append front back))

  pub still_at_quiet : (es : List HostStep) → IsRun start es
      → IsQuiet (machine start) (first_hosts start) (logs_of start es)
      → (xs : List Addressed) × IsStill start es xs
  still_at_quiet es run quiet = (
    has.xs,
    record {
      transit = has.transit;
      absent = go has.xs (λ i j low under. off i j low under)
          (links_along es has.xs run has.transit);
    },
  )
    where
      has : HasTransit start es
      has = has_transit start es run

      off : (i j : ℕ) → i < first_hosts start → j < first_hosts start
          → Each (λ (x : Addressed). is_on i j x ≡ false) has.xs
      off i j low under =
          chosen_none (is_on i j) has.xs
          (nothing_before (chosen (is_on i j) has.xs) (taken (machine start) i (logs_of start es j))
          (sym (has.links.links i j) ∙ sym (quiet i j low under)))

      go : (ys : List Addressed)
          → ((i j : ℕ) → i < first_hosts start → j < first_hosts start → Each (λ (x : Addressed). is_on i j x ≡ false)
          ys)
          → Each IsOnLink ys → Each (λ (x : Addressed). first_hosts start ≤ x.to) ys
      go [] none links = tt
      go (x ∷ ys) none links =
          (by (cases_lt x.to (first_hosts start)), go ys (λ i j low under. (none i j low under).1) links.1)
        where
          by : (x.to < first_hosts start) ⊎ (first_hosts start ≤ x.to) → first_hosts start ≤ x.to
          by (inr high) = high
          by (inl low) =
              absurd (false≢true (sym (none x.signal.from.0 x.to links.0.from low).0
              ∙ (ap (λ b. b && (x.to == x.to)) (eqb-self x.signal.from.0) ∙ eqb-self x.to)))
