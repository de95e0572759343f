-- What comes to a host in peace: what the shell asks for, or what a link gives in both machines, or something of a
-- closing.
use Rattle.std.proofs.Common.{◌≡◌, ◌⊎◌, ◌<◌, ◌≤◌, ◌+◌, ◌/◌, inl, inr, ℕ, zero, suc, List, [], ◌∷◌, Bool, true, false}
use Rattle.std.proofs.Common.{refl, ap, sym, ◌∙◌, subst, subst₂, arith}
use Rattle.std.specs.Prelude.{◌==◌, map}
use Rattle.std.proofs.lemmas.Bool.{and_right, cases_lt, false≢true, true≢false}
use Rattle.std.proofs.lemmas.List.{map-append}
use Rattle.api_views.specs.Laws.{is_vouched}
use Rattle.api_views.specs.Members.{is_member}
use Rattle.node_core.specs.Requests.{is_request}
use Rattle.node_views.specs.WellFormed.{is_well_formed}
use Rattle.run_laws.specs.Transit.{IsRun}
use Rattle.run_theory.proofs.Pasts.{each_in, in_past}
use Rattle.run_theory.proofs.Runs.{logs_of_run}
use Rattle.run_theory.specs.Links.{Closes, IsGiven, sent, taken}
use Rattle.run_theory.specs.Lists.{Each, IsIn, IsPast}
use Rattle.run_theory.specs.Logs.{IsLog}
use Rattle.run_theory.specs.Runs.{GivesNext, IsWithin, Run, log_of}
use Rattle.sig_core.specs.declared.member.Member.{Member}
use Rattle.sig_core.specs.declared.outcome.StopCause.{StopCause}
use Rattle.sig_core.specs.declared.signal.Body.{Body}
use Rattle.sig_core.specs.declared.place.BlockId.{BlockId}
use Rattle.sig_core.specs.declared.place.BlockId.TheVariants as block
use Rattle.sig_core.specs.declared.signal.Body.TheVariants.{Host, Epoch}
use Rattle.sig_core.specs.declared.signal.epoch.EpochSignal.TheVariants as epoch
use Rattle.sig_core.specs.declared.signal.Signal.{Signal}
use Rattle.sig_core.specs.declared.signal.host.HostSignal.TheVariants.{Closed, Continue}
use Rattle.sig_core.specs.declared.signal.host.Work.TheVariants.{Request}
use Rattle.world_core.proofs.SentFacts.{IsBetween, sent_between}
use Rattle.world_core.specs.Hosts.{first_membership, first_hosts, member_at}
use Rattle.world_core.specs.Machine as plain
use Rattle.world_core.specs.Machine.{IsAsked, asked_rightly, last_stamp}
use Rattle.world_core.specs.Start.{NobodyStarts, Start, made}
use Rattle.world_core.proofs.MadeFirst.{last_first}
use Rattle.world_core.specs.Steps.{Addressed, HostStep}
use Rattle.world_views.specs.Machine.{IsOwn, IsOwnWork, after, cause_in, closing, comes_rightly, machine, own_signal}
use Rattle.world_views.specs.Sending.{is_asked, is_own_work}
use Rattle.calm_laws.specs.Alike.{first}
use Rattle.calm_laws.specs.Calm.{is_calm}
use Rattle.calm_laws.specs.Known.{IsOfFirst}
use Rattle.calm_laws.specs.Plain.{is_beating}
use Rattle.calm_laws.specs.Steps.{ComesCalmly}
use Rattle.calm_laws.proofs.lives.Arrivals.{arriving}
use Rattle.calm_laws.proofs.lives.CalmSignals.{IsBeat, main_beat}
use Rattle.calm_laws.proofs.lives.FirstMembers.{first_fine, member_first, member_known}
use Rattle.level_laws.specs.Levels.{signal_at}
use Rattle.host_laws.proofs.rows.Operations.{right_of}
use Rattle.peace_laws.specs.Parts.{plain_part}
use Rattle.peace_laws.specs.Peace.{is_closing, is_for_closing}
use Rattle.peace_laws.specs.Steps.{ComesForClosing, asks_master}
use Rattle.peace_laws.proofs.closings.Signals.{IsPlainKind, calm_apart, closing_given, closing_links}
use Rattle.peace_laws.proofs.near.Signals.{calm_level, request_level}
use Rattle.peace_laws.proofs.near.Mirrored.{IsMirrored}
use Rattle.peace_laws.proofs.plain.Calm.{sent_calm}
use Rattle.peace_laws.proofs.plain.Events.{events_are, plain_events}
use Rattle.peace_laws.proofs.near.Seen.{IsSeen, IsSend, is_master}
use Rattle.peace_laws.proofs.near.Sent.{addressed_at}
use Rattle.peace_laws.proofs.closings.Ease.{takes_it}

-- What is known of the signal that comes next to host h, and that it may come to the plain one, but for its epoch.
pub record Arrives (start : Start) (es : List HostStep) (h : ℕ) (x : Signal) : Type 0 where
  pub view : x.view ≡ first start
  pub vouched : is_vouched x.body ≡ true → is_member (first start) x.member ≡ true
  pub asked : is_asked h x ≡ is_request x.body
  pub rightly :
      asked_rightly (first_membership start) (is_request (signal_at start.epoch x).body) h
      (last_stamp (log_of (machine start) es h)) (signal_at start.epoch x)
  pub takes : is_request (signal_at start.epoch x).body ≡ false
      → GivesNext (plain.machine start) (plain_events start es) x.from.0 h (arriving h (signal_at start.epoch x))

-- what the shell asks itself for is a request, in both machines
own_asked : (start : Start) (nobody : NobodyStarts start) (h : ℕ) (log : List HostStep) (x : Signal)
    → (after start h log).standing.view ≡ first start
    → is_request x.body ≡ true → IsOwn start h log x
    → IsAsked (first_membership start) h (last_stamp log) (signal_at start.epoch x)
own_asked start nobody h log x view asks by = go x.body refl asks by.work
  where
    go : (body : Body) → x.body ≡ body → is_request body ≡ true → IsOwnWork start h body
        → IsAsked (first_membership start) h (last_stamp log) (signal_at start.epoch x)
    go (Host (Continue (Request request) at)) is asks work =
        record {
          request = request;
          shell = work.0;
          is =
              ap (signal_at start.epoch)
              (by.is
              ∙ ap (λ n. own_signal (made start) h n (after start h log).standing.view x.body)
              (last_first start nobody h log)
              ∙ ap (λ (body : Body). own_signal (made start) h (last_stamp log) (after start h log).standing.view body)
              (is ∙ ap (λ (k : ℕ). Host (Continue (Request request) k)) work.1)
              ∙ ap (λ view. own_signal (made start) h (last_stamp log) view (Host (Continue (Request request) 0))) view
              ∙ ap (λ k. own_signal (made start) k (last_stamp log) (first start) (Host (Continue (Request request) 0)))
              work.0);
        }
    go body is asks work = absurd cc

-- a request is rightly asked for, and nothing else is asked for
asked_true : (start : Start) (h stamp : ℕ) (x : Signal) (b : Bool) → b ≡ true
    → IsAsked (first_membership start) h stamp x → asked_rightly (first_membership start) b h stamp x
asked_true start h stamp x true is asked = asked
asked_true start h stamp x false is asked = tt

asked_false : (start : Start) (h stamp : ℕ) (x : Signal) (b : Bool) → b ≡ false
    → asked_rightly (first_membership start) b h stamp x
asked_false start h stamp x true is = absurd cc
asked_false start h stamp x false is = tt

request_free : (body : Body) → is_request body ≡ true → is_vouched body ≡ true → ⊥
request_free (Host (Continue (Request request) at)) asks vouched = cc
request_free body asks vouched = cc

-- a closing is asked for at a master alone
asks_at : (of : BlockId) (body : Body) → is_for_closing of body ≡ true → asks_master body ≡ true → is_master of ≡ true
asks_at block.GcpMaster (Epoch (epoch.GcpReq by)) closing asks = refl
asks_at block.GcpMaster (Epoch epoch.MicroReq) closing asks = refl
asks_at of (Epoch (epoch.GcpReq by)) closing asks = absurd cc
asks_at of (Epoch epoch.MicroReq) closing asks = absurd cc
asks_at of body closing asks = absurd cc

-- an older part, with all epochs made one
past_level : (epoch : ℕ) (xs ys : List Addressed) → IsPast xs ys
    → IsPast (map (addressed_at epoch) xs) (map (addressed_at epoch) ys)
past_level epoch xs ys past =
    record {
      newer = map (addressed_at epoch) past.newer;
      is = ap (map (addressed_at epoch)) past.is ∙ map-append (addressed_at epoch) past.newer xs;
    }

in_level : (epoch : ℕ) (x : Addressed) (ys : List Addressed) → IsIn x ys
    → IsIn (addressed_at epoch x) (map (addressed_at epoch) ys)
in_level epoch x [] there = absurd there
in_level epoch x (y ∷ ys) (inl is) = inl (ap (addressed_at epoch) is)
in_level epoch x (y ∷ ys) (inr there) = inr (in_level epoch x ys there)

-- what closes no link was sent
given_sent : (start : Start) (i j : ℕ) (log : List HostStep) (x : Addressed) (xs : List Addressed)
    → ((cause : StopCause) → x.signal.body ≡ Host (Closed cause) → ⊥) → IsGiven (machine start) i j log (x ∷ xs)
    → IsPast (x ∷ xs) (sent (machine start) i j log)
given_sent start i j log x xs links (inl past) = past
given_sent start i j [] x xs links (inr c) = absurd c
given_sent start i j (e ∷ log) x xs links (inr c) = absurd (never c)
  where
    never : Closes (machine start) i log e j (sent (machine start) i j (e ∷ log)) (x ∷ xs) → ⊥
    never c =
        let same : x ≡ closing start i log e j = cc (c.is) in
        links (cause_in e.step.marks) (ap (λ (y : Addressed). y.signal.body) same)

module _ (start : Start) (es : List HostStep) (h : ℕ) (x : Signal)
    (within : IsWithin (first_hosts start) (log_of (machine start) es))
    (mirrored : (k : ℕ) → IsMirrored start k (log_of (machine start) es k)) where
  abbrev i : ℕ
  i = x.from.0

  abbrev log : ℕ → List HostStep
  log k = log_of (machine start) es k

  -- What a link gives was sent by a host that is there.
  module _ (links : (cause : StopCause) → x.body ≡ Host (Closed cause) → ⊥)
      (given : GivesNext (machine start) es i h (arriving h x)) where
    past : IsPast (arriving h x ∷ taken (machine start) i (log h)) (sent (machine start) i h (log i))
    past = given_sent start i h (log i) (arriving h x) (taken (machine start) i (log h)) links given

    pub there : IsIn (arriving h x) (sent (machine start) i h (log i))
    there = in_past (arriving h x) past (inl refl)

    pub seen : IsSeen start i (arriving h x)
    seen = each_in (IsSeen start i) (arriving h x) (sent (machine start) i h (log i)) ((mirrored i).seen h) there

    sender_low : i < first_hosts start
    sender_low = go (cases_lt i (first_hosts start))
      where
        go : (i < first_hosts start) ⊎ (first_hosts start ≤ i) → i < first_hosts start
        go (inl low) = low
        go (inr above) =
            absurd (subst (λ rest. IsIn (arriving h x) (sent (machine start) i h rest)) (within i above) there)

    -- to a main part it comes calmly
    pub main_comes : is_calm h x ≡ true → is_beating h ≡ true → ComesCalmly start h x
    main_comes calm beats =
        let body : IsBeat start.shape x.body = main_beat start.shape h x beats calm in
        record {
          calm = calm;
          fine = first_fine start i x sender_low seen.view seen.member body.sound;
          view = seen.view;
          known = subst (Each (IsOfFirst start)) (sym body.txs) tt;
          vouched = λ vouched. absurd (true≢false (sym vouched ∙ body.free));
        }

    -- to another host, of which the plain one takes it too, it comes from one that is no main part
    module _ (kind : IsPlainKind x.to.block x.body) (takes : is_beating h ≡ false)
        (run : Run (plain.machine start) (plain_events start es)) where
      abbrev y : Signal
      y = signal_at start.epoch x

      abbrev part : ℕ → List HostStep
      part k = plain_part start k (log k)

      sender_plain : is_beating i ≡ false
      sender_plain = go (is_beating i) refl
        where
          go : (b : Bool) → is_beating i ≡ b → b ≡ false
          go true beats = absurd (by seen.send)
            where
              by : IsSend i x.to.block x.body → ⊥
              by (inl calm) = kind.views (calm.views beats)
              by (inr closing) = false≢true (sym kind.apart ∙ closing.closing)
          go false is = refl

      plain_past :
          IsPast (arriving h y ∷ taken (plain.machine start) i (part h)) (sent (plain.machine start) i h (part i))
      plain_past =
          subst₂ IsPast
          (ap (λ xs. arriving h y ∷ xs) (sym ((mirrored h).took i takes sender_plain)))
          (sym ((mirrored i).links h sender_plain takes))
          (past_level start.epoch (arriving h x ∷ taken (machine start) i (log h)) (sent (machine start) i h (log i))
          past)

      plain_there : IsIn (arriving h y) (sent (plain.machine start) i h (part i))
      plain_there = in_past (arriving h y) plain_past (inl refl)

      between : IsBetween i h (last_stamp (part i)) (arriving h y)
      between =
          each_in (IsBetween i h (last_stamp (part i))) (arriving h y) (sent (plain.machine start) i h (part i))
          (sent_between start i h (part i)
          (subst (IsLog (plain.machine start) i) (events_are start es i)
          ((logs_of_run (plain.machine start) (plain_events start es) run).local i)))
          plain_there

      next : GivesNext (plain.machine start) (plain_events start es) i h (arriving h y)
      next =
          inl
          (subst₂ (λ a b. IsPast (arriving h y ∷ taken (plain.machine start) i a) (sent (plain.machine start) i h b))
          (sym (events_are start es h)) (sym (events_are start es i)) plain_past)

      -- only a member may say what must be vouched for
      is_vouched_for : is_vouched x.body ≡ true → is_member (first start) x.member ≡ true
      is_vouched_for vouched = go i sender_low seen.member seen.send
        where
          go : (k : ℕ) → k < first_hosts start → x.member ≡ member_at (made start) k → IsSend k x.to.block x.body
              → is_member (first start) x.member ≡ true
          go zero low member (inl calm) = absurd (false≢true (sym (calm.shell refl) ∙ kind.client vouched))
          go zero low member (inr closing) = absurd (false≢true (sym kind.apart ∙ closing.closing))
          go (suc k) low member send = ap (is_member (first start)) member ∙ member_known start k low

      given_arrives : is_asked h x ≡ false → Arrives start es h x
      given_arrives unasked =
          record {
            view = seen.view;
            vouched = is_vouched_for;
            asked = unasked ∙ sym (sym (request_level start.epoch x.body) ∙ between.plain);
            rightly = asked_false start h (last_stamp (log h)) y (is_request y.body) between.plain;
            takes = λ unasked. next;
          }

  -- what the shell asks itself for
  asked_arrives : NobodyStarts start → IsPlainKind x.to.block x.body → is_asked h x ≡ true → IsOwn start h (log h) x
      → Arrives start es h x
  asked_arrives nobody kind asked own =
      let work : is_own_work x.body ≡ true = right_of (x.from.0 == h) (is_own_work x.body) asked in
      let asks : is_request x.body ≡ true = kind.own work in
      let level : is_request (signal_at start.epoch x).body ≡ true = request_level start.epoch x.body ∙ asks in
      record {
        view = ap (λ (z : Signal). z.view) own.is ∙ (mirrored h).near.standing.view;
        vouched = λ vouched. absurd (request_free x.body asks vouched);
        asked = asked ∙ sym asks;
        rightly =
            asked_true start h (last_stamp (log h)) (signal_at start.epoch x)
            (is_request (signal_at start.epoch x).body) level
            (own_asked start nobody h (log h) x (mirrored h).near.standing.view asks own);
        takes = λ unasked. absurd (true≢false (sym level ∙ unasked));
      }

  -- each signal that comes to a host that is no main part, and isn't of a closing
  pub arrives : NobodyStarts start → IsPlainKind x.to.block x.body → is_beating h ≡ false
      → Run (plain.machine start) (plain_events start es) → comes_rightly (is_asked h x) start h (log h) x
      → (is_asked h x ≡ false → GivesNext (machine start) es i h (arriving h x)) → Arrives start es h x
  arrives nobody kind takes run rightly given = go (is_asked h x) refl rightly
    where
      go : (b : Bool) → is_asked h x ≡ b → comes_rightly b start h (log h) x → Arrives start es h x
      go true asked own = asked_arrives nobody kind asked own
      go false unasked uncut = given_arrives kind.links (given unasked) kind takes run unasked

  pub beats_unasked : is_calm h x ≡ true → is_beating h ≡ true → is_asked h x ≡ false
  beats_unasked calm beats =
      and_right (x.from.0 == h) (is_own_work x.body) (main_beat start.shape h x beats calm).given

  -- What is of a closing a link gives, and a main part sent it to a host that is none.
  module _ (closing : is_closing h x ≡ true) where
    pub closing_unasked : is_asked h x ≡ false
    closing_unasked =
        and_right (x.from.0 == h) (is_own_work x.body) (closing_given x.to.block x.body (takes_it h x closing))

    no_link : (cause : StopCause) → x.body ≡ Host (Closed cause) → ⊥
    no_link cause is = closing_links x.to.block x.body cause (takes_it h x closing) is

    module _ (given : GivesNext (machine start) es i h (arriving h x)) where
      -- the client's side alone asks for one
      asks_shell : asks_master x.body ≡ true → x.member.node ≡ 0
      asks_shell asks = go i (seen no_link given).member (seen no_link given).send
        where
          go : (k : ℕ) → x.member ≡ member_at (made start) k → IsSend k x.to.block x.body → x.member.node ≡ 0
          go zero member send = ap (λ (m : Member). m.node) member
          go (suc k) member (inl calm) =
              absurd (false≢true (sym calm.other ∙ asks_at x.to.block x.body (takes_it h x closing) asks))
          go (suc k) member (inr of) = absurd (cc (of.asks asks))

      pub closing_comes : is_well_formed start.shape x ≡ true → ComesForClosing start h x
      closing_comes fine =
          record { closing = closing; fine = fine; view = (seen no_link given).view; client = asks_shell }

      module _ (takes : is_beating h ≡ false) (low : h < first_hosts start)
          (run : IsRun start (plain_events start es)) where
        pub from_main : is_beating i ≡ true
        from_main = go (is_beating i) refl
          where
            go : (b : Bool) → is_beating i ≡ b → b ≡ true
            go true beats = refl
            go false rests =
                absurd
                (false≢true
                (sym (calm_apart h x (sym (calm_level start.epoch h x) ∙ calm)) ∙ takes_it h x closing))
              where
                calm : is_calm h (signal_at start.epoch x) ≡ true
                calm =
                    sent_calm start (plain_events start es) run i h low (arriving h (signal_at start.epoch x))
                    (subst (λ those. IsIn (arriving h (signal_at start.epoch x)) (sent (plain.machine start) i h those))
                    (sym (events_are start es i))
                    (subst (IsIn (arriving h (signal_at start.epoch x))) (sym ((mirrored i).links h rests takes))
                    (in_level start.epoch (arriving h x) (sent (machine start) i h (log i)) (there no_link given))))

        pub of_member : 1 ≤ x.member.node
        of_member = go i (sender_low no_link given) from_main (seen no_link given).member
          where
            go : (k : ℕ) → k < first_hosts start → is_beating k ≡ true → x.member ≡ member_at (made start) k
                → 1 ≤ x.member.node
            go zero low beats member = absurd (false≢true beats)
            go (suc k) low beats member =
                let node : x.member.node ≡ k / 3 + 1 =
                ap (λ (m : Member). m.node) (member ∙ member_first start k low) in
                omega (arith, node)
