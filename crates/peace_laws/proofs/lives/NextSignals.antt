-- Where peace goes on by a calm request: the next signal of a run is calm, since it was sent since the quiet moment, or
-- is the request.
use Rattle.std.proofs.Common.{◌≡◌, ◌⊎◌, ◌+◌, ◌<◌, ◌≤◌, inl, inr, ℕ, List, [], ◌∷◌, ◌++◌, length, Bool, true, false}
use Rattle.std.proofs.Common.{refl, ap, sym, ◌∙◌, subst, append_assoc, length-append, arith}
use Rattle.std.specs.Prelude.{◌&&◌, if◌then◌else◌, Option, None, Some, option_to_list}
use Rattle.std.proofs.lemmas.Bool.{cases_lt}
use Rattle.std.proofs.lemmas.List.{append_cancel_right}
use Rattle.node_core.specs.Requests.{is_request}
use Rattle.run_theory.proofs.Cuts.{taken_past}
use Rattle.run_theory.proofs.Pasts.{each_in, each_past, past_short}
use Rattle.run_theory.proofs.Runs as theory
use Rattle.run_theory.proofs.Runs.{log_of-own, log_of-past}
use Rattle.run_theory.specs.Links.{sent, taken}
use Rattle.run_theory.specs.Lists.{IsIn, IsPast}
use Rattle.run_theory.specs.Runs.{IsWithin, Run, log_of}
use Rattle.sig_core.specs.declared.place.BlockId.{BlockId}
use Rattle.sig_core.specs.declared.place.BlockId.TheVariants.{Api}
use Rattle.sig_core.specs.declared.place.Place.{Place}
use Rattle.sig_core.specs.declared.request.ApiReq.{ApiReq}
use Rattle.sig_core.specs.declared.signal.Body.{Body}
use Rattle.sig_core.specs.declared.signal.Body.TheVariants.{Host}
use Rattle.sig_core.specs.declared.signal.host.HostSignal.TheVariants.{Continue}
use Rattle.sig_core.specs.declared.signal.host.Work.TheVariants.{Request}
use Rattle.sig_core.specs.declared.signal.Signal.{Signal}
use Rattle.peace_laws.proofs.lives.FirstHosts.{go_within}
use Rattle.world_core.specs.Hosts.{first_hosts}
use Rattle.world_core.specs.Requests.{request_in}
use Rattle.world_core.specs.Start.{NobodyStarts, Start, made}
use Rattle.world_core.specs.Steps.{HostStep}
use Rattle.world_views.specs.Hosts.{front_of}
use Rattle.world_views.specs.Machine.{IsOwn, IsOwnWork, comes_rightly, has_stopped, machine}
use Rattle.world_views.specs.Requests.{request_of, requests}
use Rattle.world_views.specs.Sending.{is_asked}
use Rattle.calm_laws.specs.Calm.{has_block, is_calm, is_calm_request, is_for}
use Rattle.calm_laws.proofs.lives.Arrivals.{arriving, given_running}
use Rattle.calm_laws.proofs.lives.Asked.{IsAskedBehind, asked_behind}
use Rattle.calm_laws.proofs.lives.Events.{host_there, none_before, within_before}
use Rattle.calm_laws.proofs.places.Main.{main_at}
use Rattle.calm_laws.proofs.plain_steps.SentStep.{IsFine, IsSince}
use Rattle.calm_laws.proofs.lives.Steady.{IsGood, IsShellSteady}
use Rattle.peace_laws.specs.Laws.{GoOnBy}

-- each host has taken all that the others sent to it
abbrev pub AllTaken : Start → (ℕ → List HostStep) → Type 0
AllTaken start logs =
    (i j : ℕ) → i < first_hosts start → j < first_hosts start
    → taken (machine start) i (logs j) ≡ sent (machine start) i j (logs i)

-- what comes behind a part that was taken is newer
newer_next : {A : Type 0} (x : A) (then_taken all newer base : List A) → IsPast base then_taken
    → IsPast (x ∷ then_taken) all → all ≡ newer ++ base → IsIn x newer
newer_next {A} x then_taken all newer base before next is = subst (IsIn x) whole (inside next.newer)
  where
    whole : next.newer ++ x ∷ before.newer ≡ newer
    whole =
        append_cancel_right (next.newer ++ x ∷ before.newer) newer base
        (append_assoc next.newer (x ∷ before.newer) base
        ∙ ap (λ (xs : List A). next.newer ++ x ∷ xs) (sym before.is) ∙ sym next.is ∙ is)

    inside : (front : List A) → IsIn x (front ++ x ∷ before.newer)
    inside [] = inl refl
    inside (y ∷ front) = inr (inside front)

-- where one request more was asked, it is the one
only_one : (front newer back : List ApiReq) (one request : ApiReq)
    → ((front ++ newer) ++ one ∷ []) ++ back ≡ front ++ request ∷ [] → one ≡ request
only_one [] [] back one request is = cc (is)
only_one [] (first ∷ []) back one request is =
    let none : one ∷ back ≡ [] = cc (is) in
    absurd (cc (none))
only_one [] (first ∷ second ∷ newer) back one request is =
    let none : second ∷ ((newer ++ one ∷ []) ++ back) ≡ [] = cc (is) in
    absurd (cc (none))
only_one (first ∷ front) newer back one request is =
    let rest : ((front ++ newer) ++ one ∷ []) ++ back ≡ front ++ request ∷ [] = cc (is) in
    only_one front newer back one request rest

-- One more step of a run to logs that go on.
module _ (start : Start) (request : ApiReq) (logs more : ℕ → List HostStep) (all : AllTaken start logs)
    (by : GoOnBy start request logs more) (asks_calmly : is_calm_request request ≡ true) (es : List HostStep)
    (e : HostStep) (run : Run (machine start) (e ∷ es))
    (upto : (h : ℕ) → IsPast (log_of (machine start) (e ∷ es) h) (more h))
    (running : (h : ℕ) → has_stopped (log_of (machine start) es h) ≡ false)
    (good : (h : ℕ) → IsGood start logs h (log_of (machine start) es h)) where
  abbrev log : ℕ → List HostStep
  log h = log_of (machine start) es h

  abbrev x : Signal
  x = e.step.taken

  abbrev i : ℕ
  i = x.from.0

  pub within_now : NobodyStarts start → IsWithin (first_hosts start) (log_of (machine start) (e ∷ es))
  within_now nobody h above =
      none_before (log_of (machine start) (e ∷ es) h) (more h) (upto h)
      (go_within start nobody request logs more by h above)

  within_then : NobodyStarts start → IsWithin (first_hosts start) (log_of (machine start) es)
  within_then nobody = within_before start (first_hosts start) e es (within_now nobody)

  upto_own : IsPast (e ∷ log e.host) (more e.host)
  upto_own = subst (λ all. IsPast all (more e.host)) (log_of-own (machine start) e es e.host refl) (upto e.host)

  pub host_low : NobodyStarts start → e.host < first_hosts start
  host_low nobody = host_there start (first_hosts start) e es (within_now nobody)

  -- the signal that a link gave was sent since the quiet moment
  module _ (nobody : NobodyStarts start) (unasked : is_asked e.host x ≡ false) where
    given : IsPast (arriving e.host x ∷ taken (machine start) i (log e.host)) (sent (machine start) i e.host (log i))
    given =
        given_running start i e.host (log i) (arriving e.host x ∷ taken (machine start) i (log e.host)) (running i)
        (run.1.takes unasked)

    from_low : i < first_hosts start
    from_low = go (cases_lt i (first_hosts start))
      where
        go : (i < first_hosts start) ⊎ (first_hosts start ≤ i) → i < first_hosts start
        go (inl low) = low
        go (inr above) =
            absurd
            (cc (none_before (arriving e.host x ∷ taken (machine start) i (log e.host))
            (sent (machine start) i e.host (log i)) given
            (ap (sent (machine start) i e.host) (within_then nobody i above))))

    pub signal_fine : IsFine start i (arriving e.host x)
    signal_fine =
        let since : IsSince start i e.host (logs i) (log i) = (good i).since e.host in
        each_in (IsFine start i) (arriving e.host x) since.newer since.fine
        (newer_next (arriving e.host x) (taken (machine start) i (log e.host)) (sent (machine start) i e.host (log i))
        since.newer (sent (machine start) i e.host (logs i))
        (subst (λ all. IsPast all (taken (machine start) i (log e.host))) (all i e.host from_low (host_low nobody))
        (taken_past (machine start) i (good e.host).past))
        given since.is)

  -- what the shell asks itself for is the request
  asked_of : (h : ℕ) → h ≡ 0 → requests (more h) ≡ requests (logs h) ++ request ∷ []
  asked_of h shell = subst (λ k. requests (more k) ≡ requests (logs k) ++ request ∷ []) (sym shell) by.asked

  few_asked : (h : ℕ) → h ≡ 0 → length (requests (log h)) ≤ 1 + length (requests (logs h))
  few_asked h shell =
      let all : IsAskedBehind (log h) (log_of (machine start) (e ∷ es) h) =
      asked_behind (log_of-past (machine start) e es h) in
      let whole : IsAskedBehind (log_of (machine start) (e ∷ es) h) (more h) = asked_behind (upto h) in
      omega (
        arith,
        ap length all.is,
        length-append (requests (log h)) all.more,
        ap length whole.is,
        length-append (requests (log_of (machine start) (e ∷ es) h)) whole.more,
        ap length (asked_of h shell),
        length-append (requests (logs h)) (request ∷ []),
      )

  module _ (asked : is_asked e.host x ≡ true) where
    is_the : (one : ApiReq) → request_of e ≡ Some one → e.host ≡ 0 → one ≡ request
    is_the one is shell =
        let before : IsAskedBehind (logs e.host) (log e.host) = asked_behind (good e.host).past in
        let whole : IsAskedBehind (e ∷ log e.host) (more e.host) = asked_behind upto_own in
        only_one (requests (logs e.host)) before.more whole.more one request
        (ap (λ (all : List ApiReq). (all ++ one ∷ []) ++ whole.more) (sym before.is)
        ∙ ap (λ (o : Option ApiReq). (requests (log e.host) ++ option_to_list o) ++ whole.more) (sym is)
        ∙ sym whole.is ∙ asked_of e.host shell)

    own : IsOwn start e.host (log e.host) x
    own = subst (λ b. comes_rightly b start e.host (log e.host) x) asked run.1.step.fits.comes

    is_one : is_request x.body ≡ true
    is_one =
        (each_past (λ (d : HostStep). is_asked e.host d.step.taken ≡ true → is_request d.step.taken.body ≡ true)
        upto_own (by.none e.host)).0 asked

    to_front : x.to ≡ front_of (made start) e.host
    to_front = ap (λ (y : Signal). y.to) own.is

    asked_calm : (body : Body) → x.body ≡ body → is_request body ≡ true → IsOwnWork start e.host body
        → is_calm e.host x ≡ true
    asked_calm (Host (Continue (Request one) at)) is asks work =
        let block : x.to.block ≡ Api =
        ap (λ (to : Place). to.block) to_front ∙ ap (λ h. (front_of (made start) h).block) work.0 in
        let of : request_of e ≡ Some one =
        ap (λ (b : Bool). if b then request_in x.body else None) asked ∙ ap request_in is in
        ap (λ (to : BlockId). has_block e.host to && is_for to x.body) block
        ∙ ap (λ (h : ℕ). has_block h Api && is_for Api x.body) work.0
        ∙ ap (λ (body : Body). is_for Api body) is
        ∙ ap is_calm_request (is_the one of work.0)
        ∙ asks_calmly
    asked_calm body is asks work = absurd cc

  -- so it is calm
  pub next_calm : NobodyStarts start → is_calm e.host x ≡ true
  next_calm nobody = go (is_asked e.host x) refl
    where
      go : (b : Bool) → is_asked e.host x ≡ b → is_calm e.host x ≡ true
      go true asked = asked_calm asked x.body refl (is_one asked) (own asked).work
      go false unasked = (signal_fine nobody unasked).calm (host_low nobody)

  -- a main part takes no more rounds than the shell told it of: one, since the quiet moment
  pub room : NobodyStarts start → (k : ℕ) → k < start.shape.nodes → e.host ≡ main_at k → is_asked e.host x ≡ false
      → i ≡ 0
      → length (taken (machine start) 0 (e ∷ log e.host)) ≤ 1 + length (taken (machine start) 0 (logs e.host))
  room nobody k low at unasked from =
      let shell : IsShellSteady start (logs 0) (log 0) = (good 0).shell refl in
      omega (
        arith,
        ap length (theory.taken-step (machine start) 0 e (log e.host) unasked from),
        past_short (subst (λ h.
            IsPast (arriving e.host x ∷ taken (machine start) h (log e.host)) (sent (machine start) h e.host (log h)))
            from (given nobody unasked)),
        shell.asked,
        few_asked 0 refl,
        subst (λ h.
            length (sent (machine start) 0 h (log 0)) ≡ shell.rounds + length (sent (machine start) 0 h (logs 0)))
            (sym at) (shell.told k low),
        ap length (all 0 e.host (omega arith) (host_low nobody)),
      )
