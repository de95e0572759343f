-- Who isn't away from the first place of a chain was last heard of there with a request.
use Rattle.std.proofs.Common.{◌≡◌, ◌≢◌, ◌⊎◌, ◌≤◌, ◌<◌, ℕ, Bool, true, false, List, [], ◌∷◌, length, refl, sym}
use Rattle.std.proofs.Common.{ap, ◌∙◌, subst, inl, inr, eq-eqb, not}
use Rattle.std.proofs.lemmas.Bool.{and_parts, false≢true, true≢false}
use Rattle.std.specs.Prelude.{◌==◌, ◌&&◌, ◌||◌, if◌then◌else◌}
use Rattle.run_theory.proofs.EventCases.{event_cases}
use Rattle.run_theory.specs.Links.{taken}
use Rattle.sig_core.proofs.Keys.{same_tx-self}
use Rattle.sig_core.proofs.TxLemmas.{same_tx-is}
use Rattle.sig_core.specs.declared.member.TxId.{TxId}
use Rattle.sig_core.specs.declared.place.BlockId.{BlockId}
use Rattle.sig_core.specs.declared.place.BlockId.TheVariants as block
use Rattle.sig_core.specs.declared.place.Place.{Place}
use Rattle.sig_core.specs.declared.signal.Body.{Body}
use Rattle.sig_core.specs.declared.signal.Body.TheVariants.{Chain}
use Rattle.sig_core.specs.declared.signal.chain.ChainSignal.TheVariants.{Abort, LqhKeyConf, LqhKeyRef, LqhKeyReq}
use Rattle.sig_core.specs.Place.{coordinator_of}
use Rattle.sig_core.specs.Same.{same_key, same_tx}
use Rattle.sig_core.specs.Work.{work_key}
use Rattle.row_records.proofs.KeyLemmas as keys
use Rattle.node_core.specs.Blocks.{lqh_of}
use Rattle.node_core.specs.declared.host.Host as host
use Rattle.node_core.specs.Requests.{is_request}
use Rattle.world_core.specs.Hosts.{home}
use Rattle.world_core.specs.Machine.{after, machine}
use Rattle.world_core.specs.Start.{Start}
use Rattle.world_core.specs.Steps.{Addressed, HostStep}
use Rattle.key_laws.specs.Replica.{aborts, event_at, rests}
use Rattle.host_laws.specs.ReplicaLaws.{event_in}
use Rattle.run_laws.specs.Routes.{IsForBlock, IsRequestRouted, IsRouted, replica_host, replicas}
use Rattle.run_laws.specs.Transit.{Comes, IsRun, logs_of}
use Rattle.run_laws.proofs.routes.Addressed.{rows_addressed}
use Rattle.run_laws.proofs.tokens.Signals.{is_rows}
use Rattle.run_laws.proofs.routes.Events.{coming_are_routed, placed, placed_runs}
use Rattle.run_laws.proofs.routes.Chain.{hosts_are_apart, replicas_some}
use Rattle.run_laws.proofs.circle.RowsEvents.{event_off, event_rows}
use Rattle.run_laws.proofs.transit.Transit.{comes, earlier}
use Rattle.run_laws.proofs.transit.Runs.{taking}
use Rattle.run_laws.proofs.transit.Weighing.{each_taken}
use Rattle.order_laws.specs.Gone.{gone_by}
use Rattle.order_laws.specs.Standing.{is_away}
use Rattle.order_laws.specs.Unanswered.{is_part_on}
use Rattle.order_laws.proofs.FirstSources.{IsFromHome, homes_along}
use Rattle.order_laws.proofs.Standing.{came_back}

rows_is : (b : BlockId) → is_rows b ≡ true → b ≡ block.Lqh
rows_is block.Lqh is = refl
rows_is _ is = absurd cc

module _ (tx : TxId) (key : List ℕ) where
  -- the newest of a transaction's requests and aborts of a key is a request, behind one more signal
  abbrev pub last_by : Body → Bool → Bool
  last_by (Chain (LqhKeyReq other work chain at)) was =
      if same_tx other tx && same_key (work_key work) key then true else was
  last_by (Chain (Abort other own)) was = if same_tx other tx && same_key own key then false else was
  last_by body was = was

  abbrev pub asks_last : List Addressed → Bool
  asks_last [] = false
  asks_last (x ∷ xs) = last_by x.signal.body (asks_last xs)

  -- an abort of its row
  abbrev pub is_its_abort : Body → Bool
  is_its_abort (Chain (Abort other own)) = same_tx other tx && same_key own key
  is_its_abort body = false

  -- what isn't one leaves it a request
  pub last_stays : (body : Body) → is_its_abort body ≡ false → last_by body true ≡ true
  last_stays (Chain (LqhKeyReq other work chain at)) off = by (same_tx other tx && same_key (work_key work) key)
    where
      by : (b : Bool) → (if b then true else true) ≡ true
      by true = refl
      by false = refl
  last_stays (Chain (Abort other own)) off = ap (λ b. if b then false else true) off
  last_stays _ off = refl

module _ (start : Start) (tx : TxId) (key : List ℕ) (some : 1 ≤ tx.tc) (low : tx.tc ≤ start.shape.nodes) where
  -- what the first place has taken of its coordinator's host
  module _ (es : List HostStep) (e : HostStep) (come : Comes start es e) (here : e.host ≡ replica_host start key 0)
    where
      abbrev g : host.Host
      g = after start e.host (logs_of start es e.host)

      -- an abort of its row is an event of the key
      abort_event : is_its_abort tx key e.step.taken.body ≡ true → event_in key g e.step.taken ≡ aborts tx
      abort_event is = by e.step.taken.body refl (coming_are_routed start es e come).block is
        where
          first_inside : 0 < length (replicas start key)
          first_inside = replicas_some start come.before.shape key

          by : (body : Body) → e.step.taken.body ≡ body → IsForBlock e.step.taken.to e.step.taken.body
              → is_its_abort tx key body ≡ true → event_in key g e.step.taken ≡ aborts tx
          by (Chain (Abort other own)) is to its =
              let both = and_parts (same_tx other tx) (same_key own key) its in
              event_rows key g e.step.taken
              (placed_runs start e.host key 0 (logs_of start es e.host) come.before.shape
              (record { inside = first_inside; host_is = here }))
              (subst (IsForBlock e.step.taken.to) is to)
              ∙ ap (event_at key (lqh_of g)) is
              ∙ ap (λ b. if b then aborts other else rests) both.1
              ∙ ap (λ v. aborts v) (same_tx-is other tx both.0)
          by _ is to its = absurd (false≢true its)

      -- a request of it comes from there
      request_home : e.step.taken.to.block ≡ block.Lqh → is_part_on tx key e.step.taken.body ≡ true
          → (last_by tx key e.step.taken.body false ≡ true)
          × ((is_request e.step.taken.body ≡ false) × (e.step.taken.from.0 ≡ home start tx))
      request_home at_rows part = by e.step.taken.body refl (coming_are_routed start es e come).block part
        where
          not_tc : (v : TxId) → e.step.taken.to ≡ coordinator_of v → ⊥
          not_tc v to = let both : block.Lqh ≡ block.Tc = sym at_rows ∙ ap (λ (p : Place). p.block) to in cc

          by : (body : Body) → e.step.taken.body ≡ body → IsForBlock e.step.taken.to e.step.taken.body
              → is_part_on tx key body ≡ true
              → (last_by tx key body false ≡ true)
              × ((is_request e.step.taken.body ≡ false) × (e.step.taken.from.0 ≡ home start tx))
          by (Chain (LqhKeyReq v work chain place)) is to its = (
            ap (λ b. if b then true else false) its,
            (ap is_request is, from_there),
          )
            where
              both : (same_tx v tx ≡ true) × (same_key (work_key work) key ≡ true)
              both = and_parts (same_tx v tx) (same_key (work_key work) key) its

              on : work_key work ≡ key
              on = keys.same (work_key work) key both.1

              routed : IsRequestRouted start e.step.taken.to.node
                  (record { tx = v; work = work; chain = chain; at = place })
              routed = subst (IsRouted start e.step.taken.to.node) is (coming_are_routed start es e come).routed

              first_place : place ≡ 0
              first_place =
                  let there = placed start e.host e.step.taken.to.node key chain place
                  (rows_addressed start es e come at_rows) (routed.chain ∙ ap (replicas start) on) routed.sent in
                  hosts_are_apart start key place 0 come.before.shape there.inside
                  (replicas_some start come.before.shape key) (sym there.host_is ∙ here)

              from_there : e.step.taken.from.0 ≡ home start tx
              from_there =
                  let t = taking start es e come in
                  let told : IsFromHome start e.step.taken.from.0 e.step.taken.body =
                  each_taken (λ (x : Addressed). IsFromHome start x.signal.from.0 x.signal.body) e t.before t.between
                  (ap is_request is) t.takes (homes_along start es t.before come.before t.transit) in
                  subst (IsFromHome start e.step.taken.from.0) is told first_place
                  ∙ ap (home start) (same_tx-is v tx both.0)
          by (Chain (LqhKeyConf v own answer)) is to its = absurd (not_tc v (subst (IsForBlock e.step.taken.to) is to))
          by (Chain (LqhKeyRef v own cause)) is to its = absurd (not_tc v (subst (IsForBlock e.step.taken.to) is to))
          by _ is to its = absurd (false≢true its)

  abbrev First : (ℕ → List HostStep) → Type 0
  First logs = is_away start key tx (replica_host start key 0) (logs (replica_host start key 0)) ≡ false

  -- who isn't away from the first place asked there last
  pub taken_asks : (es : List HostStep) → IsRun start es → First (logs_of start es)
      → asks_last tx key (taken (machine start) (home start tx) (logs_of start es (replica_host start key 0))) ≡ true
  taken_asks [] run is = absurd (true≢false is)
  taken_asks (e ∷ es) run is =
      let more = taken_asks es (earlier start es e run) in
      event_cases (machine start) e es h (λ l. is_away start key tx h l ≡ false → Asks l) (own more) (λ off. more) is
    where
      come : Comes start es e
      come = comes start es e run

      h : ℕ
      h = replica_host start key 0

      log : List HostStep
      log = logs_of start es (replica_host start key 0)

      Asks : List HostStep → Type 0
      Asks log = asks_last tx key (taken (machine start) (home start tx) log) ≡ true

      own : (First (logs_of start es) → Asks log) → e.host ≡ h → is_away start key tx h (e ∷ log) ≡ false
          → Asks (e ∷ log)
      own more here now_is = which (came_back tx key start h log e now_is)
        where
          no_abort : is_its_abort tx key e.step.taken.body ≡ false
          no_abort = off (is_its_abort tx key e.step.taken.body) refl
            where
              off : (b : Bool) → is_its_abort tx key e.step.taken.body ≡ b → b ≡ false
              off false is = refl
              off true is =
                  absurd (false≢true (sym now_is
                  ∙ ap (λ event. gone_by tx event (is_away start key tx h log))
                  (subst (λ k. event_in key (after start k (logs_of start es k)) e.step.taken ≡ aborts tx) here
                  (abort_event es e come here is))
                  ∙ ap (λ b. b || is_away start key tx h log) (same_tx-self tx)))

          -- behind the ones before
          behind : asks_last tx key (taken (machine start) (home start tx) log) ≡ true
              → asks_last tx key (taken (machine start) (home start tx) (e ∷ log)) ≡ true
          behind was = go (not (is_request e.step.taken.body) && (e.step.taken.from.0 == home start tx))
            where
              go : (b : Bool)
                  → asks_last tx key (if b then record { to = e.host; signal = e.step.taken }
                  ∷ taken (machine start) (home start tx) log else taken (machine start) (home start tx) log) ≡ true
              go true = ap (last_by tx key e.step.taken.body) was ∙ last_stays tx key e.step.taken.body no_abort
              go false = was

          which : (is_away start key tx h log ≡ false) ⊎ (is_part_on tx key e.step.taken.body ≡ true)
              → asks_last tx key (taken (machine start) (home start tx) (e ∷ log)) ≡ true
          which (inl was) = behind (more was)
          which (inr part) = at_block (is_rows e.step.taken.to.block) refl
            where
              at_block : (b : Bool) → is_rows e.step.taken.to.block ≡ b
                  → asks_last tx key (taken (machine start) (home start tx) (e ∷ log)) ≡ true
              at_block false off =
                  behind (more (sym (ap (λ event. gone_by tx event (is_away start key tx h log))
                  (subst (λ k. event_in key (after start k (logs_of start es k)) e.step.taken ≡ rests) here
                  (event_off key (after start e.host (logs_of start es e.host)) e.step.taken off))) ∙ now_is))
              at_block true rows =
                  let found = request_home es e come here (rows_is e.step.taken.to.block rows) part in
                  go (is_request e.step.taken.body) found.1.0 (e.step.taken.from.0 == home start tx)
                  (eq-eqb e.step.taken.from.0 (home start tx) found.1.1) found.0
                where
                  go : (r : Bool) → r ≡ false → (b : Bool) → b ≡ true
                      → last_by tx key e.step.taken.body false ≡ true
                      → asks_last tx key (if not r && b then record { to = e.host; signal = e.step.taken }
                      ∷ taken (machine start) (home start tx) log else taken (machine start) (home start tx) log) ≡ true
                  go true plain b from asks = absurd (true≢false plain)
                  go false plain false from asks = absurd (false≢true from)
                  go false plain true from asks =
                      anyway (asks_last tx key (taken (machine start) (home start tx) log))
                    where
                      anyway : (was : Bool) → last_by tx key e.step.taken.body was ≡ true
                      anyway false = asks
                      anyway true = last_stays tx key e.step.taken.body no_abort
