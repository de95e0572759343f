-- Peace goes on by a closing from one moment at which nothing is under way to the next: it stands, and where nothing is
-- under way again it rests in the next epoch, and the client was told.
use Rattle.std.proofs.Common.{◌≡◌, ◌≢◌, ◌<◌, ◌≤◌, ◌+◌, ◌*◌, ◌/◌, ◌%◌, inl, ℕ, List, [], ◌∷◌, ◌++◌, Bool, true, false}
use Rattle.std.proofs.Common.{refl, ap, sym, ◌∙◌, subst, length, length-append, map, arith}
use Rattle.std.specs.List.{list_any}
use Rattle.std.specs.Prelude.{◌||◌, if◌then◌else◌, nat_lt, Option, None, Some, option_to_list}
use Rattle.std.proofs.lemmas.Bool.{false≢true}
use Rattle.api_views.specs.declared.closings.Closing.{Closing}
use Rattle.api_views.specs.declared.closings.Closing.TheVariants as closing
use Rattle.api_views.specs.Closings.{ask_of, closed_reply}
use Rattle.frag_map.specs.Shape.{IsShape}
use Rattle.gcp_master.specs.declared.numbers.TheConstants.{MICROS}
use Rattle.node_core.specs.Requests.{is_request}
use Rattle.node_views.specs.declared.parts.Parts.{Parts}
use Rattle.node_views.specs.declared.parts.Parts.TheVariants.{Shell, Main, Tc, Ldm}
use Rattle.run_theory.proofs.Pasts.{each_past, past_self, past_trans}
use Rattle.run_theory.proofs.Runs.{log_of-own, log_of-past}
use Rattle.run_theory.specs.Along.{Grows}
use Rattle.run_theory.specs.Links.{taken}
use Rattle.run_theory.specs.Lists.{Each, IsIn, IsPast}
use Rattle.run_theory.specs.Runs.{IsWithin, Run, log_of}
use Rattle.sig_core.specs.declared.outs.Outgoing.{Outgoing}
use Rattle.sig_core.specs.declared.request.ApiReq.{ApiReq}
use Rattle.sig_core.specs.declared.request.ApiReq.TheVariants as req
use Rattle.sig_core.specs.declared.signal.Body.{Body}
use Rattle.sig_core.specs.declared.signal.Body.TheVariants.{Host}
use Rattle.sig_core.specs.declared.signal.Signal.{Signal}
use Rattle.sig_core.specs.declared.signal.host.HostSignal.TheVariants.{Continue}
use Rattle.sig_core.specs.declared.signal.host.Work.TheVariants.{Request}
use Rattle.sig_core.specs.Place.{checkpoints}
use Rattle.sig_core.specs.Step.{to_place}
use Rattle.peace_laws.proofs.lives.FirstHosts.{go_within}
use Rattle.world_core.specs.Hosts.{first_hosts}
use Rattle.world_core.specs.Requests.{request_in}
use Rattle.world_core.specs.Start.{NobodyStarts, Start}
use Rattle.world_core.specs.Steps.{Addressed, HostStep}
use Rattle.world_views.specs.Machine.{IsOwn, IsOwnWork, after, comes_rightly, has_stopped, machine}
use Rattle.world_views.specs.Quiet.{IsQuiet}
use Rattle.world_views.specs.Requests.{request_of, requests}
use Rattle.world_views.specs.Right.{replies_in}
use Rattle.world_views.specs.Sending.{is_asked}
use Rattle.calm_laws.specs.Calm.{is_calm}
use Rattle.calm_laws.specs.Plain.{is_beating}
use Rattle.calm_laws.specs.Resting.{IsRestingPart}
use Rattle.calm_laws.proofs.lives.Events.{none_before}
use Rattle.calm_laws.proofs.lives.Asked.{IsAskedBehind, asked_behind}
use Rattle.level_laws.specs.Laws.{HostsAreLevel}
use Rattle.peace_laws.specs.Closing.{Course, IsAskedFor, IsEnded, ShellWaits, main, next_of}
use Rattle.peace_laws.specs.Laws.{GoOnBy, IsTold, is_spent}
use Rattle.peace_laws.specs.Moments.{IsStill, Moment}
use Rattle.peace_laws.specs.Peace.{ArePeaceful, asks_closing, is_closing, is_closing_request, is_peaceful}
use Rattle.peace_laws.specs.Rest.{AreAtRestIn}
use Rattle.peace_laws.proofs.closings.AskedMoment as first
use Rattle.peace_laws.proofs.closings.AskingSteps.{closing_of, course_of}
use Rattle.peace_laws.proofs.closings.Ends.{closings_end}
use Rattle.peace_laws.proofs.closings.Moments.{Links, moment}
use Rattle.peace_laws.proofs.closings.Runs.{AreOn, IsOn, each_host, fits, is_on_next}
use Rattle.peace_laws.proofs.lives.FirstAsked as opening
use Rattle.peace_laws.proofs.closings.Letters.{IsFit}
use Rattle.peace_laws.proofs.lives.NextSignals.{AllTaken}
use Rattle.peace_laws.proofs.lives.RestAgain.{all_rest, logs_later}
use Rattle.peace_laws.proofs.lives.Served.{ClosesOn, ClosingGoesOn}
use Rattle.peace_laws.proofs.closings.ShellOwns.{ShellOwns}
use Rattle.peace_laws.proofs.closings.SpentEpochs.{none_takes}
use Rattle.peace_laws.proofs.lives.Stands.{AreBelow, IsBelow, Rests, Stands, taken_by_all}
use Rattle.peace_laws.proofs.lives.UnderWay.{said}

-- the next epoch is no earlier one
pub later_epoch : (kind : Closing) (epoch next : ℕ) → next_of kind epoch ≡ Some next → epoch ≤ next
later_epoch closing.Gcp epoch next is = go (nat_lt (epoch / MICROS + 1) MICROS) is
  where
    go : (b : Bool) → (if b then Some ((epoch / MICROS + 1) * MICROS) else None) ≡ Some next → epoch ≤ next
    go true is =
        let same : (epoch / MICROS + 1) * MICROS ≡ next = cc (is) in
        omega (arith, same)
    go false none = absurd (cc (none))
later_epoch closing.Micro epoch next is = go (nat_lt (epoch % MICROS + 1) MICROS) is
  where
    go : (b : Bool) → (if b then Some (epoch + 1) else None) ≡ Some next → epoch ≤ next
    go true is =
        let same : epoch + 1 ≡ next = cc (is) in
        omega (arith, same)
    go false none = absurd (cc (none))
later_epoch closing.Lcp epoch next is = absurd (cc (is))

-- what the client was told
told_of : (start : Start) (request : ApiReq) (was now : ℕ → List HostStep) (epoch : ℕ)
    → is_closing_request request ≡ true
    → replies_in start 0 (now 0) ≡ replies_in start 0 (was 0) ++ closed_reply (closing_of request) epoch ∷ []
    → IsTold request start was now epoch
told_of start req.Gcp was now epoch closes is = is
told_of start req.Micro was now epoch closes is = is
told_of start request was now epoch closes is = absurd (false≢true closes)

-- where one request more was asked for, it is the one
first_one : (front back : List ApiReq) (one request : ApiReq) → (front ++ one ∷ []) ++ back ≡ front ++ request ∷ []
    → one ≡ request
first_one [] back one request is = cc (is)
first_one (first ∷ front) back one request is =
    let rest : (front ++ one ∷ []) ++ back ≡ front ++ request ∷ [] = cc (is) in
    first_one front back one request rest

-- one of three
last_of : (a b c : Bool) → c ≡ true → (a || (b || c)) ≡ true
last_of true b c is = refl
last_of false true c is = refl
last_of false false c is = is

-- the client's side waits for its closing, so none that isn't asked for is its own
waits_owns : (start : Start) (kind : Closing) (parts : Parts) → ShellWaits start (Some kind) parts → ShellOwns parts
waits_owns start kind (Shell p) waits = λ none. absurd (cc (waits.closing_is, none))
waits_owns start kind (Main p) waits = absurd waits
waits_owns start kind (Tc p) waits = absurd waits
waits_owns start kind (Ldm p) waits = absurd waits

-- nothing stands in front of itself
none_front : {A : Type 0} (front back : List A) → front ++ back ≡ back → front ≡ []
none_front [] back is = refl
none_front (x ∷ front) back is = absurd (omega (arith, ap length is, length-append front back))

-- what a host asked itself for
record IsRequested (e : HostStep) : Type 0 where
  one : ApiReq
  shell : e.host ≡ 0
  body : e.step.taken.body ≡ Host (Continue (Request one) 0)
  of : request_of e ≡ Some one

requested : (start : Start) (e : HostStep) → is_asked e.host e.step.taken ≡ true
    → is_request e.step.taken.body ≡ true → IsOwnWork start e.host e.step.taken.body → IsRequested e
requested start e asked asks work = go e.step.taken.body refl asks work
  where
    go : (body : Body) → e.step.taken.body ≡ body → is_request body ≡ true → IsOwnWork start e.host body → IsRequested e
    go (Host (Continue (Request one) at)) is asks work =
        record {
          one = one;
          shell = work.0;
          body = is ∙ ap (λ (k : ℕ). Host (Continue (Request one) k)) work.1;
          of = ap (λ (b : Bool). if b then request_in e.step.taken.body else None) asked ∙ ap request_in is;
        }
    go body is asks work = absurd cc

module _ (hosts_level : HostsAreLevel) (start : Start) (nobody : NobodyStarts start) (shape : IsShape start.shape)
    (request : ApiReq) (epoch : ℕ)
    (was more : ℕ → List HostStep) (rests : Rests start epoch was) (quiet : IsQuiet start was)
    (closes : is_closing_request request ≡ true) (by : GoOnBy start request was more) where
  abbrev es : List HostStep
  es = rests.stands.es

  abbrev base : ℕ → List HostStep
  base h = log_of (machine start) es h

  abbrev kind : Closing
  kind = closing_of request

  all : AllTaken start base
  all = subst (AllTaken start) (sym rests.stands.is) (taken_by_all start was rests.stands quiet)

  asked_once : requests (more 0) ≡ requests (base 0) ++ request ∷ []
  asked_once =
      subst (λ (logs : ℕ → List HostStep). requests (more 0) ≡ requests (logs 0) ++ request ∷ [])
      (sym rests.stands.is) by.asked

  running : (h : ℕ) → has_stopped (base h) ≡ false
  running =
      subst (λ (logs : ℕ → List HostStep). (h : ℕ) → has_stopped (logs h) ≡ false) (sym rests.stands.is)
      rests.stands.running

  at_rest : AreAtRestIn start epoch base
  at_rest = subst (AreAtRestIn start epoch) (sym rests.stands.is) rests.rests

  -- a run to older parts of the logs
  abbrev Upto : List HostStep → Type 0
  Upto those = (h : ℕ) → IsPast (log_of (machine start) those h) (more h)

  within : (those : List HostStep) → Upto those → IsWithin (first_hosts start) (log_of (machine start) those)
  within those upto h above =
      none_before (log_of (machine start) those h) (more h) (upto h)
      (go_within start nobody request was more by h above)

  module _ (those : List HostStep) (e : HostStep) (upto : Upto (e ∷ those)) where
    own_past : IsPast (e ∷ log_of (machine start) those e.host) (more e.host)
    own_past =
        subst (λ all. IsPast all (more e.host)) (log_of-own (machine start) e those e.host refl) (upto e.host)

    unspent : list_any is_spent e.step.marks ≡ false
    unspent = (each_past (λ e. list_any is_spent e.step.marks ≡ false) own_past (by.unspent e.host)).0

    before : Upto those
    before h = past_trans (log_of-past (machine start) e those h) (upto h)

    module _ (run : Run (machine start) (e ∷ those)) (asked : is_asked e.host e.step.taken ≡ true) where
      own : IsOwn start e.host (log_of (machine start) those e.host) e.step.taken
      own =
          subst (λ b. comes_rightly b start e.host (log_of (machine start) those e.host) e.step.taken) asked
          run.1.step.fits.comes

      what : IsRequested e
      what =
          requested start e asked
          ((each_past (λ (d : HostStep). is_asked e.host d.step.taken ≡ true → is_request d.step.taken.body ≡ true)
          own_past (by.none e.host)).0 asked)
          own.work

      shell_past : IsPast (e ∷ log_of (machine start) those 0) (more 0)
      shell_past = subst (λ h. IsPast (e ∷ log_of (machine start) those h) (more h)) what.shell own_past

    -- what comes later is given
    later_given : Run (machine start) (e ∷ those)
        → length (requests (log_of (machine start) those 0)) ≡ 1 + length (requests (base 0))
        → is_asked e.host e.step.taken ≡ false
    later_given run once = go (is_asked e.host e.step.taken) refl
      where
        go : (b : Bool) → is_asked e.host e.step.taken ≡ b → b ≡ false
        go false is = refl
        go true asked =
            let front : IsAskedBehind (e ∷ log_of (machine start) those 0) (more 0) =
            asked_behind (shell_past run asked) in
            absurd (omega (
              arith,
              once,
              ap length front.is,
              length-append (requests (e ∷ log_of (machine start) those 0)) front.more,
              length-append (requests (log_of (machine start) those 0)) (option_to_list (request_of e)),
              ap (λ (o : Option ApiReq). length (option_to_list o)) (what run asked).of,
              ap length asked_once,
              length-append (requests (base 0)) (request ∷ []),
            ))

  -- The first step is the request.
  module _ (e : HostStep) (run : Run (machine start) (e ∷ es)) (upto : Upto (e ∷ es)) where
    abbrev x : Signal
    x = e.step.taken

    asked : is_asked e.host x ≡ true
    asked = go (is_asked e.host x) refl
      where
        go : (b : Bool) → is_asked e.host x ≡ b → b ≡ true
        go true is = refl
        go false unasked =
            absurd
            (opening.not_given start nobody request was more rests.stands (taken_by_all start was rests.stands quiet) by
            e run
            upto unasked)

    is_request_of : IsRequested e
    is_request_of = what es e upto run asked

    is_the : is_request_of.one ≡ request
    is_the =
        let front : IsAskedBehind (e ∷ base 0) (more 0) = asked_behind (shell_past es e upto run asked) in
        first_one (requests (base 0)) front.more is_request_of.one request
        (ap (λ (o : Option ApiReq). (requests (base 0) ++ option_to_list o) ++ front.more) (sym is_request_of.of)
        ∙ sym front.is ∙ asked_once)

    body_is : x.body ≡ Host (Continue (Request request) 0)
    body_is = is_request_of.body ∙ ap (λ (r : ApiReq). Host (Continue (Request r) 0)) is_the

    links : Links start base (e ∷ es)
    links =
        first.links_now hosts_level start shape request closes epoch es e run (within (e ∷ es) upto) rests.stands.kept
        at_rest running is_request_of.shell asked (own es e upto run asked) body_is nobody

    asked_for : (next : ℕ)
        → IsAskedFor start
        (course_of request epoch next (replies_in start 0 (base 0)))
        (moment start base (e ∷ es) links)
    unfolding links
    asked_for =
        first.asked_for hosts_level start shape request closes epoch es e run (within (e ∷ es) upto) rests.stands.kept
        at_rest running is_request_of.shell asked (own es e upto run asked) body_is nobody

    stay : (k : ℕ) → k ≢ 0
        → (after start k (log_of (machine start) (e ∷ es) k)).parts ≡ (after start k (base k)).parts
    stay =
        first.stay hosts_level start shape request closes epoch es e run (within (e ∷ es) upto) rests.stands.kept
        at_rest running is_request_of.shell asked (own es e upto run asked) body_is

    apart : (k : ℕ) → is_beating k ≡ true → k ≢ 0
    apart k beats none = false≢true (sym (ap is_beating none) ∙ beats)

    first_on : AreOn start epoch base (e ∷ es)
    first_on =
        record {
          kept =
              first.kept_now hosts_level start shape request closes epoch es e run (within (e ∷ es) upto)
              rests.stands.kept at_rest running is_request_of.shell asked (own es e upto run asked) body_is nobody;
          running =
              each_host start es e (λ h log. has_stopped log ≡ false)
              (first.goes_now hosts_level start shape request closes epoch es e run (within (e ∷ es) upto)
              rests.stands.kept at_rest running is_request_of.shell asked (own es e upto run asked) body_is nobody)
              running;
          peaceful =
              each_host start es e (λ k log. Each (λ d. is_peaceful k d.step.taken ≡ true) log) (
                last_of (is_calm e.host x) (is_closing e.host x) (asks_closing e.host x)
                    (first.asks_host hosts_level start shape request closes epoch es e run (within (e ∷ es) upto)
                    rests.stands.kept at_rest running is_request_of.shell asked (own es e upto run asked) body_is),
                subst ArePeaceful (sym rests.stands.is) rests.stands.peaceful e.host,
              )
              (subst ArePeaceful (sym rests.stands.is) rests.stands.peaceful);
          beating = λ h low beats.
              subst (IsRestingPart start h 1) (sym (stay h (apart h beats)))
              (subst (λ (logs : ℕ → List HostStep). IsRestingPart start h 1 (after start h (logs h)).parts)
              (sym rests.stands.is) (rests.beating h low beats));
          aside = λ h beats other. stay h (apart h beats);
          owns =
              waits_owns start kind (after start 0 (log_of (machine start) (e ∷ es) 0)).parts (asked_for epoch).client;
          below =
              each_host start es e (λ k log. AreBelow epoch log) (
                subst (Each (IsBelow epoch))
                    (sym (first.no_marks hosts_level start shape request closes epoch es e run (within (e ∷ es) upto)
                    rests.stands.kept at_rest running is_request_of.shell asked (own es e upto run asked) body_is))
                    tt,
                subst (λ (logs : ℕ → List HostStep). AreBelow epoch (logs e.host)) (sym rests.stands.is)
                    (rests.below e.host),
              )
              (λ h.
              subst (λ (logs : ℕ → List HostStep). AreBelow epoch (logs h)) (sym rests.stands.is) (rests.below h));
          once =
              ap (λ log. length (requests log)) (log_of-own (machine start) e es 0 is_request_of.shell)
              ∙ length-append (requests (base 0)) (option_to_list (request_of e))
              ∙ ap (λ (o : Option ApiReq). length (requests (base 0)) + length (option_to_list o)) is_request_of.of
              ∙ omega arith;
        }

    first_is_on : (next : ℕ)
        → IsOn start (course_of request epoch next (replies_in start 0 (base 0))) base (e ∷ es)
    first_is_on next =
        record {
          on = first_on;
          links = links;
          first = moment start base (e ∷ es) links;
          asked = asked_for next;
          since = [];
          goes = tt;
          now = refl;
          under = inl (asked_for next);
        }

  -- the run to it goes on
  abbrev grows : Grows (machine start) es more
  grows = opening.grows start nobody request was more rests.stands (taken_by_all start was rests.stands quiet) by

  abbrev whole : List HostStep
  whole = grows.more ++ es

  logs_are : log_of (machine start) whole ≡ more
  logs_are = opening.logs_are start nobody request was more rests.stands (taken_by_all start was rests.stands quiet) by

  upto_whole : Upto whole
  upto_whole =
      subst (λ (logs : ℕ → List HostStep). (h : ℕ) → IsPast (logs h) (more h)) (sym logs_are) (λ h. past_self (more h))

  stands_by : AreOn start epoch base whole → Stands start more
  stands_by on =
      record {
        es = whole;
        run = grows.run;
        is = logs_are;
        within = go_within start nobody request was more by;
        kept = on.kept;
        peaceful = subst ArePeaceful logs_are on.peaceful;
        running = λ h. subst (λ (logs : ℕ → List HostStep). has_stopped (logs h) ≡ false) logs_are (on.running h);
      }

  -- where nothing is under way again
  module _ (on : AreOn start epoch base whole) (links : Links start base whole)
      (fit : (i h : ℕ) (one : Outgoing) → IsIn one (map said (links i h).under) → IsFit start i h one)
      (again : IsQuiet start more) where
    all_again : AllTaken start (log_of (machine start) whole)
    all_again = subst (AllTaken start) (sym logs_are) (taken_by_all start more (stands_by on) again)

    low_still : (i j : ℕ) → i < first_hosts start → j < first_hosts start → (links i j).under ≡ []
    low_still i j i_low low =
        none_front (links i j).under (taken (machine start) i (log_of (machine start) whole j))
        (ap (λ (those : List Addressed). (links i j).under ++ those)
        ((links i j).taken_is ∙ ap (λ (those : List Addressed). (links i j).gone ++ those) (all i j i_low low))
        ∙ sym (links i j).sent_is ∙ sym (all_again i j i_low low))

    all_still : (i j : ℕ) → map said (links i j).under ≡ []
    all_still i j = go (links i j).under refl
      where
        go : (under : List Addressed) → (links i j).under ≡ under → map said (links i j).under ≡ []
        go [] is = ap (map said) is
        go (x ∷ under) is =
            let fits : IsFit start i j (said x) =
            fit i j (said x) (subst (λ those. IsIn (said x) (map said those)) (sym is) (inl refl)) in
            ap (map said) (low_still i j fits.from_low fits.low)

  -- Where the numbers are used up nothing more was done.
  record OnlyAsked (those : List HostStep) : Type 0 where
    on : AreOn start epoch base those
    links : Links start base those
    asked : IsAskedFor start
        (course_of request epoch epoch (replies_in start 0 (base 0)))
        (moment start base those links)

  only_asked : next_of kind epoch ≡ None → (e : HostStep) (newer : List HostStep)
      → Run (machine start) (e ∷ (newer ++ es)) → Upto (e ∷ (newer ++ es)) → OnlyAsked (e ∷ (newer ++ es))
  only_asked none e [] run upto =
      record { on = first_on e run upto; links = links e run upto; asked = asked_for e run upto epoch }
  only_asked none e (d ∷ newer) run upto =
      let was : OnlyAsked (d ∷ (newer ++ es)) =
      only_asked none d newer run.0 (before (d ∷ (newer ++ es)) e upto) in
      absurd
      (none_takes hosts_level start shape
      (course_of request epoch epoch (replies_in start 0 (base 0))) none base all
      (d ∷ (newer ++ es)) e run (within (e ∷ (d ∷ (newer ++ es))) upto)
      (later_given (d ∷ (newer ++ es)) e upto run was.on.once) (unspent (d ∷ (newer ++ es)) e upto) was.on was.links
      was.asked)

  none_closes : OnlyAsked whole → ClosesOn start request epoch was more
  none_closes only =
      record {
        stands = stands_by only.on;
        next = epoch;
        later = omega arith;
        rests = λ again. absurd (not_quiet again);
        told = λ again. absurd (not_quiet again);
      }
    where
      not_quiet : IsQuiet start more → ⊥
      not_quiet again =
          let none : to_place (checkpoints 1) (ask_of kind) ∷ [] ≡ [] =
          sym only.asked.request
          ∙ all_still only.on only.links
          (fits start shape
          (course_of request epoch epoch (replies_in start 0 (base 0))) base whole
          only.links (inl only.asked))
          again 0 main in
          absurd (cc (none))

  -- Else the closing ends.
  module _ (next : ℕ) (next_is : next_of kind epoch ≡ Some next) where
    abbrev c : Course
    c = course_of request epoch next (replies_in start 0 (base 0))

    goes : (e : HostStep) (newer : List HostStep) → Run (machine start) (e ∷ (newer ++ es))
        → Upto (e ∷ (newer ++ es)) → IsOn start c base (e ∷ (newer ++ es))
    goes e [] run upto = first_is_on e run upto next
    goes e (d ∷ newer) run upto =
        let was : IsOn start c base (d ∷ (newer ++ es)) =
        goes d newer run.0 (before (d ∷ (newer ++ es)) e upto) in
        is_on_next hosts_level start nobody shape c next_is base all (d ∷ (newer ++ es)) e run
        (within (e ∷ (d ∷ (newer ++ es))) upto) (later_given (d ∷ (newer ++ es)) e upto run was.on.once)
        (unspent (d ∷ (newer ++ es)) e upto) was

    module _ (on : IsOn start c base whole) where
      abbrev last : Moment
      last = moment start base whole on.links

      module _ (again : IsQuiet start more) where
        still : IsStill last
        still = all_still on.on on.links (fits start shape c base whole on.links on.under) again

        ended : IsEnded start c last
        ended =
            subst (IsEnded start c) on.now
            (closings_end start c on.first on.since shape next_is on.asked on.goes (subst IsStill (sym on.now) still))

        rests_again : Rests start next more
        rests_again =
            record {
              stands = stands_by on.on;
              beating = λ h low beats.
                  subst (λ (logs : ℕ → List HostStep). IsRestingPart start h 1 (after start h (logs h)).parts) logs_are
                  (on.on.beating h low beats);
              rests =
                  subst (AreAtRestIn start next) logs_are
                  (all_rest start shape epoch next base (log_of (machine start) whole) rests.stands.kept.mirrored
                  at_rest on.on.aside ended.client on.on.owns ended.rest.master ended.rest.epochs ended.rest.rows);
              below = λ h.
                  subst (λ (logs : ℕ → List HostStep). AreBelow next (logs h)) logs_are
                  (logs_later epoch next (later_epoch kind epoch next next_is)
                  (log_of (machine start) whole h) (on.on.below h));
            }

        told : IsTold request start was more epoch
        told =
            told_of start request was more epoch closes
            (ap (λ (logs : ℕ → List HostStep). replies_in start 0 (logs 0)) (sym logs_are)
            ∙ ended.replies
            ∙ ap (λ (logs : ℕ → List HostStep). replies_in start 0 (logs 0) ++ closed_reply kind epoch ∷ [])
            rests.stands.is)

      closes_on : ClosesOn start request epoch was more
      closes_on =
          record {
            stands = stands_by on.on;
            next = next;
            later = later_epoch kind epoch next next_is;
            rests = rests_again;
            told = told;
          }

  closes_by : ClosesOn start request epoch was more
  closes_by = go grows.more grows.run upto_whole refl (next_of kind epoch) refl
    where
      go : (newer : List HostStep) → Run (machine start) (newer ++ es) → Upto (newer ++ es) → grows.more ≡ newer
          → (next : Option ℕ) → next_of kind epoch ≡ next → ClosesOn start request epoch was more
      go [] run upto is next of =
          absurd
          (opening.none_more start nobody request was more rests.stands (taken_by_all start was rests.stands quiet) by
          is)
      go (e ∷ newer) run upto is None of =
          none_closes
          (subst (λ those. OnlyAsked (those ++ es)) (sym is) (only_asked of e newer run upto))
      go (e ∷ newer) run upto is (Some next) of =
          closes_on next of
          (subst
          (λ those. IsOn start
          (course_of request epoch next (replies_in start 0 (base 0))) base (those ++ es))
          (sym is) (goes next of e newer run upto))

pub closing_goes_on : HostsAreLevel → ClosingGoesOn
closing_goes_on hosts_level start nobody request epoch was more shape some rests quiet closes by =
    closes_by hosts_level start nobody shape request epoch was more rests quiet closes by
