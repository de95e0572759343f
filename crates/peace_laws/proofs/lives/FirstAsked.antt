-- Where peace goes on by a request, from a moment at which nothing is under way, the request comes first; and so in the
-- plain machine too each request is asked when nothing is under way.
use Rattle.std.proofs.Common.{◌≡◌, ◌⊎◌, ◌+◌, ◌<◌, ◌≤◌, inl, inr, ℕ, List, [], ◌∷◌, ◌++◌, length, Bool, true, false}
use Rattle.std.proofs.Common.{refl, ap, sym, ◌∙◌, subst, append_assoc, length-append, arith}
use Rattle.std.proofs.Math.Path.{fun_ext}
use Rattle.std.specs.Prelude.{if◌then◌else◌, Option, None, Some, filter, map, option_to_list}
use Rattle.std.proofs.lemmas.Bool.{cases_lt, false≢true}
use Rattle.std.proofs.lemmas.List.{map-append}
use Rattle.std.proofs.lemmas.List.Elements.{filter-append}
use Rattle.node_core.specs.Requests.{is_request}
use Rattle.run_theory.proofs.Growth.{grow}
use Rattle.run_theory.proofs.Pasts.{each_before, each_past, past_self, past_short, past_trans}
use Rattle.run_theory.proofs.Runs.{log_of-own, log_of-past}
use Rattle.run_theory.specs.Along.{Grows}
use Rattle.run_theory.specs.Cuts.{IsCut}
use Rattle.run_theory.specs.Links.{sent, taken}
use Rattle.run_theory.specs.Lists.{Each, IsPast}
use Rattle.run_theory.specs.Runs.{AreLogs, Run, log_of}
use Rattle.sig_core.specs.declared.request.ApiReq.{ApiReq}
use Rattle.sig_core.specs.declared.signal.Body.{Body}
use Rattle.sig_core.specs.declared.signal.Body.TheVariants.{Host}
use Rattle.sig_core.specs.declared.signal.host.HostSignal.TheVariants.{Continue}
use Rattle.sig_core.specs.declared.signal.host.Work.TheVariants.{Request}
use Rattle.sig_core.specs.declared.signal.Signal.{Signal}
use Rattle.peace_laws.proofs.lives.FirstHosts.{go_within}
use Rattle.world_core.specs.Hosts.{first_hosts}
use Rattle.world_core.specs.Machine as plain
use Rattle.world_core.specs.Quiet as plain_quiet
use Rattle.world_core.specs.Requests.{request_in}
use Rattle.world_core.specs.Requests as plain_requests
use Rattle.world_core.specs.Start.{NobodyStarts, Start}
use Rattle.world_core.specs.Steps.{HostStep}
use Rattle.world_views.proofs.SentFacts.{is_stamped}
use Rattle.world_views.specs.Machine.{IsOwn, IsOwnWork, comes_rightly, has_stopped, machine}
use Rattle.world_views.specs.Requests.{request_of, requests}
use Rattle.world_views.specs.Sending.{is_asked}
use Rattle.command_laws.proofs.waits.Run.{is_asked_in}
use Rattle.calm_laws.specs.Plain.{is_beating}
use Rattle.calm_laws.proofs.lives.Arrivals.{arriving, given_running}
use Rattle.calm_laws.proofs.lives.Asked.{IsAskedAlike, IsAskedBehind, asked_behind}
use Rattle.calm_laws.proofs.lives.Events.{none_before}
use Rattle.peace_laws.specs.Laws.{GoOnBy}
use Rattle.peace_laws.specs.Parts.{is_beside, levelled, plain_part, plain_parts}
use Rattle.peace_laws.specs.Peace.{is_closing}
use Rattle.peace_laws.proofs.closings.Signals.{closing_asks}
use Rattle.peace_laws.proofs.near.Signals.{request_level}
use Rattle.peace_laws.proofs.lives.NextSignals.{AllTaken}
use Rattle.peace_laws.proofs.plain.Events.{part_next}
use Rattle.peace_laws.proofs.lives.Stands.{Stands, has}
use Rattle.peace_laws.proofs.plain.Logs.{mirrored}
use Rattle.peace_laws.proofs.closings.Ease.{takes_it}

-- the last of a list, if it has one
last_split : {A : Type 0} (xs : List A) → (xs ≡ []) ⊎ ((front : List A) × ((x : A) × (xs ≡ front ++ x ∷ [])))
last_split [] = inl refl
last_split {A} (x ∷ xs) = by (last_split xs)
  where
    by : (xs ≡ []) ⊎ ((front : List A) × ((y : A) × (xs ≡ front ++ y ∷ [])))
        → (x ∷ xs ≡ []) ⊎ ((front : List A) × ((y : A) × (x ∷ xs ≡ front ++ y ∷ [])))
    by (inl none) = inr ([], (x, ap (λ ys. x ∷ ys) none))
    by (inr (front, (y, is))) = inr (x ∷ front, (y, ap (λ ys. x ∷ ys) is))

-- an older part of a run is one, and has older parts of its logs
run_behind : (start : Start) (front es : List HostStep) → Run (machine start) (front ++ es) → Run (machine start) es
run_behind start [] es run = run
run_behind start (e ∷ front) es run = run_behind start front es run.0

logs_behind : (start : Start) (front es : List HostStep) (h : ℕ)
    → IsPast (log_of (machine start) es h) (log_of (machine start) (front ++ es) h)
logs_behind start [] es h = past_self (log_of (machine start) es h)
logs_behind start (e ∷ front) es h =
    past_trans (logs_behind start front es h) (log_of-past (machine start) e (front ++ es) h)

-- The first step since then is the request.
pub record IsFirst (base all : List HostStep) : Type 0 where
  pub first : HostStep
  pub newer : List HostStep
  pub is : all ≡ newer ++ first ∷ base
  pub asked : is_asked first.host first.step.taken ≡ true
  pub request : is_request first.step.taken.body ≡ true

module _ (start : Start) (nobody : NobodyStarts start) (request : ApiReq) (was more : ℕ → List HostStep)
    (stands : Stands start was)
    (all : AllTaken start was) (by : GoOnBy start request was more) where
  abbrev es : List HostStep
  es = stands.es

  -- the run to it goes on
  pub grows : Grows (machine start) es more
  grows =
      grow (machine start) (is_stamped start) (first_hosts start) es more stands.run
      (go_within start nobody request was more by) by.right
      (subst (λ (logs : ℕ → List HostStep). (h : ℕ) → IsPast (logs h) (more h)) (sym stands.is) by.past)

  pub logs_are : log_of (machine start) (grows.more ++ es) ≡ more
  logs_are = fun_ext grows.logs

  -- something was done
  pub none_more : grows.more ≡ [] → ⊥
  none_more none =
      absurd (omega (
        arith,
        ap length by.asked,
        length-append (requests (was 0)) (request ∷ []),
        ap (λ (logs : ℕ → List HostStep). length (requests (logs 0))) (sym logs_are
            ∙ ap (λ newer. log_of (machine start) (newer ++ es)) none ∙ stands.is),
      ))

  -- a first step that a link gave there is none
  module _ (e : HostStep) (run : Run (machine start) (e ∷ es))
      (upto : (h : ℕ) → IsPast (log_of (machine start) (e ∷ es) h) (more h)) where
    abbrev x : Signal
    x = e.step.taken

    upto_own : IsPast (e ∷ was e.host) (more e.host)
    upto_own =
        subst (λ (logs : ℕ → List HostStep). IsPast (e ∷ logs e.host) (more e.host)) stands.is
        (subst (λ those. IsPast those (more e.host)) (log_of-own (machine start) e es e.host refl) (upto e.host))

    low : e.host < first_hosts start
    low = go (cases_lt e.host (first_hosts start))
      where
        go : (e.host < first_hosts start) ⊎ (first_hosts start ≤ e.host) → e.host < first_hosts start
        go (inl under) = under
        go (inr above) =
            absurd (cc (none_before (e ∷ was e.host) (more e.host) upto_own
            (go_within start nobody request was more by e.host above)))

    pub not_given : is_asked e.host x ≡ false → ⊥
    not_given unasked = go (cases_lt x.from.0 (first_hosts start))
      where
        given : IsPast (arriving e.host x ∷ taken (machine start) x.from.0 (was e.host))
            (sent (machine start) x.from.0 e.host (was x.from.0))
        given =
            subst
            (λ (logs : ℕ → List HostStep). IsPast (arriving e.host x ∷ taken (machine start) x.from.0 (logs e.host))
            (sent (machine start) x.from.0 e.host (logs x.from.0))) stands.is
            (given_running start x.from.0 e.host (log_of (machine start) es x.from.0)
            (arriving e.host x ∷ taken (machine start) x.from.0 (log_of (machine start) es e.host))
            (subst (λ (logs : ℕ → List HostStep). has_stopped (logs x.from.0) ≡ false) (sym stands.is)
            (stands.running x.from.0)) (run.1.takes unasked))

        go : (x.from.0 < first_hosts start) ⊎ (first_hosts start ≤ x.from.0) → ⊥
        go (inl under) = absurd (omega (arith, past_short given, ap length (all x.from.0 e.host under low)))
        go (inr above) =
            absurd
            (cc (none_before (arriving e.host x ∷ taken (machine start) x.from.0 (was e.host))
            (sent (machine start) x.from.0 e.host (was x.from.0)) given
            (ap (sent (machine start) x.from.0 e.host) (stands.within x.from.0 above))))

    -- one that was asked for is a request of the shell
    first_asked : is_asked e.host x ≡ true → IsFirst (was 0) (more 0)
    first_asked asked =
        let past : IsPast (e ∷ was 0) (more 0) = subst (λ h. IsPast (e ∷ was h) (more h)) shell upto_own in
        record { first = e; newer = past.newer; is = past.is; asked = asked; request = is_one }
      where
        own : IsOwn start e.host (log_of (machine start) es e.host) x
        own =
            subst (λ b. comes_rightly b start e.host (log_of (machine start) es e.host) x) asked run.1.step.fits.comes

        is_one : is_request x.body ≡ true
        is_one =
            (each_past (λ (d : HostStep). is_asked e.host d.step.taken ≡ true → is_request d.step.taken.body ≡ true)
            upto_own (by.none e.host)).0 asked

        shell : e.host ≡ 0
        shell = of x.body is_one own.work
          where
            of : (body : Body) → is_request body ≡ true → IsOwnWork start e.host body → e.host ≡ 0
            of (Host (Continue (Request one) at)) asks work = work.0
            of body asks work = absurd cc

    first_by : (b : Bool) → is_asked e.host x ≡ b → IsFirst (was 0) (more 0)
    first_by true asked = first_asked asked
    first_by false unasked = absurd (not_given unasked)

  request_first : IsFirst (was 0) (more 0)
  request_first = go (last_split grows.more)
    where
      go : (grows.more ≡ []) ⊎ ((front : List HostStep) × ((e : HostStep) × (grows.more ≡ front ++ e ∷ [])))
          → IsFirst (was 0) (more 0)
      go (inl none) = absurd (none_more none)
      go (inr (front, (e, is))) =
          let split : grows.more ++ es ≡ front ++ e ∷ es =
          ap (λ newer. newer ++ es) is ∙ append_assoc front (e ∷ []) es in
          first_by e (run_behind start front (e ∷ es) (subst (Run (machine start)) split grows.run))
          (λ h.
          subst (λ (logs : ℕ → List HostStep). IsPast (log_of (machine start) (e ∷ es) h) (logs h))
          (ap (log_of (machine start)) (sym split) ∙ logs_are) (logs_behind start front (e ∷ es) h))
          (is_asked e.host e.step.taken) refl

-- steps behind which no more was asked for asked for nothing
none_asked : (newer base : List HostStep) → length (requests (newer ++ base)) ≤ length (requests base)
    → Each (λ d. request_of d ≡ None) newer
none_asked [] base less = tt
none_asked (d ∷ newer) base less = by (request_of d) refl (none_asked newer base)
  where
    behind : length (requests base) ≤ length (requests (newer ++ base))
    behind =
        let more : IsAskedBehind base (newer ++ base) = asked_behind (record { newer = newer; is = refl }) in
        omega (arith, ap length more.is, length-append (requests base) more.more)

    whole : length (requests (newer ++ base)) + length (option_to_list (request_of d)) ≤ length (requests base)
    whole = omega (arith, less, length-append (requests (newer ++ base)) (option_to_list (request_of d)))

    by : (o : Option ApiReq) → request_of d ≡ o
        → (length (requests (newer ++ base)) ≤ length (requests base) → Each (λ d. request_of d ≡ None) newer)
        → Each (λ d. request_of d ≡ None) (d ∷ newer)
    by None is rest = (is, rest (omega (arith, whole)))
    by (Some one) is rest =
        absurd (omega (arith, whole, behind, ap (λ (o : Option ApiReq). length (option_to_list o)) is))

-- the plain parts of two logs, the one behind the other
part_append : (start : Start) (h : ℕ) (newer base : List HostStep)
    → plain_part start h (newer ++ base) ≡ plain_part start h newer ++ plain_part start h base
part_append start h newer base = by (is_beating h)
  where
    by : (b : Bool)
        → (if b then [] else map (levelled start.epoch) (filter (is_beside h) (newer ++ base)))
        ≡ (if b then [] else map (levelled start.epoch) (filter (is_beside h) newer))
        ++ (if b then [] else map (levelled start.epoch) (filter (is_beside h) base))
    by true = refl
    by false =
        ap (map (levelled start.epoch)) (filter-append (is_beside h) newer base)
        ∙ map-append (levelled start.epoch) (filter (is_beside h) newer) (filter (is_beside h) base)

part_past : (start : Start) (h : ℕ) (base all : List HostStep) → IsPast base all
    → IsPast (plain_part start h base) (plain_part start h all)
part_past start h base all past =
    record {
      newer = plain_part start h past.newer;
      is = ap (plain_part start h) past.is ∙ part_append start h past.newer base;
    }

-- what asks for nothing does so in the plain machine
abbrev IsUnasked : HostStep → Type 0
IsUnasked d = is_request d.step.taken.body ≡ false

level_unasked : (epoch h : ℕ) (log : List HostStep) → Each IsUnasked log
    → Each IsUnasked (map (levelled epoch) (filter (is_beside h) log))
level_unasked epoch h [] all = tt
level_unasked epoch h (d ∷ log) all = by (is_beside h d) (level_unasked epoch h log all.1)
  where
    by : (b : Bool) → Each IsUnasked (map (levelled epoch) (filter (is_beside h) log))
        → Each IsUnasked (map (levelled epoch) (if b then d ∷ filter (is_beside h) log else filter (is_beside h) log))
    by true rest = (request_level epoch d.step.taken.body ∙ all.0, rest)
    by false rest = rest

-- an item of a kind that none has in front of another one is that, or behind it
split_at : (front base newer before : List HostStep) (one e : HostStep) → Each IsUnasked front
    → is_request e.step.taken.body ≡ true → front ++ one ∷ base ≡ newer ++ e ∷ before
    → (before ≡ base) ⊎ ((rest : List HostStep) × (base ≡ rest ++ e ∷ before))
split_at [] base [] before one e none asks is =
    let same : base ≡ before = cc (is) in inl (sym same)
split_at [] base (n ∷ newer) before one e none asks is =
    let same : base ≡ newer ++ e ∷ before = cc (is) in inr (newer, same)
split_at (p ∷ front) base [] before one e none asks is =
    let same : p ≡ e = cc (is) in
    absurd (false≢true (sym none.0 ∙ ap (λ (d : HostStep). is_request d.step.taken.body) same ∙ asks))
split_at (p ∷ front) base (n ∷ newer) before one e none asks is =
    let same : front ++ one ∷ base ≡ newer ++ e ∷ before = cc (is) in
    split_at front base newer before one e none.1 asks same

module _ (start : Start) (nobody : NobodyStarts start) (request : ApiReq) (was more : ℕ → List HostStep)
    (stands : Stands start was)
    (now : Stands start more) (all : AllTaken start was) (by : GoOnBy start request was more)
    (right : AreLogs (plain.machine start) (plain_parts start was))
    (quiet : plain_quiet.IsQuiet (plain.machine start) (first_hosts start) (plain_parts start was))
    (before_it : plain_requests.AreAskedAtQuiet start (plain_parts start was)) where
  f : IsFirst (was 0) (more 0)
  f = request_first start nobody request was more stands all by

  one_is : request_of f.first ≡ request_in f.first.step.taken.body
  one_is = ap (λ (b : Bool). if b then request_in f.first.step.taken.body else None) f.asked

  newer_none : Each (λ d. request_of d ≡ None) f.newer
  newer_none =
      none_asked f.newer (f.first ∷ was 0)
      (omega (
        arith,
        ap (λ (log : List HostStep). length (requests log)) f.is,
        ap length by.asked,
        length-append (requests (was 0)) (request ∷ []),
        length-append (requests (was 0)) (option_to_list (request_of f.first)),
        ap (λ (o : Option ApiReq). length (option_to_list o)) one_is,
        is_asked_in f.first.step.taken.body f.request,
      ))

  unasked : (log : List HostStep) → Each (λ d. request_of d ≡ None) log → Each IsAskedAlike log → Each IsUnasked log
  unasked [] none alike = tt
  unasked (d ∷ log) none alike = (go d.step.taken.body refl, unasked log none.1 alike.1)
    where
      go : (body : Body) → d.step.taken.body ≡ body → is_request body ≡ false
      go (Host (Continue (Request one) at)) is =
          let asked : is_asked d.host d.step.taken ≡ true = alike.0 ∙ ap is_request is in
          let some : request_of d ≡ Some one =
          ap (λ (b : Bool). if b then request_in d.step.taken.body else None) asked ∙ ap request_in is in
          let both : None ≡ Some one = sym none.0 ∙ some in
          absurd cc
      go body is = refl

  unasked_newer : Each IsUnasked (plain_part start 0 f.newer)
  unasked_newer =
      level_unasked start.epoch 0 f.newer
      (unasked f.newer newer_none
      (each_before IsAskedAlike f.newer (f.first ∷ was 0)
      (subst (Each IsAskedAlike) f.is ((mirrored start now.es more (has start more now) now.kept 0).asked refl))))

  beside : is_closing 0 f.first.step.taken ≡ false
  beside = go (is_closing 0 f.first.step.taken) refl
    where
      go : (b : Bool) → is_closing 0 f.first.step.taken ≡ b → b ≡ false
      go false is = refl
      go true closing =
          absurd
          (false≢true
          (sym (closing_asks f.first.step.taken.to.block f.first.step.taken.body
          (takes_it 0 f.first.step.taken closing)) ∙ f.request))

  parts_are : plain_part start 0 (more 0)
      ≡ plain_part start 0 f.newer ++ levelled start.epoch f.first ∷ plain_part start 0 (was 0)
  parts_are =
      ap (plain_part start 0) f.is ∙ part_append start 0 f.newer (f.first ∷ was 0)
      ∙ ap (λ rest. plain_part start 0 f.newer ++ rest) (part_next start 0 (was 0) f.first refl beside)

  parts_cut : IsCut (plain_parts start was) (plain_parts start more)
  parts_cut h = part_past start h (was h) (more h) (by.past h)

  -- the cut before each request is quiet
  pub asked_at_quiet : plain_requests.AreAskedAtQuiet start (plain_parts start more)
  asked_at_quiet newer e before is asks =
      go (split_at (plain_part start 0 f.newer) (plain_part start 0 (was 0)) newer before
      (levelled start.epoch f.first) e unasked_newer asks (sym parts_are ∙ is))
    where
      go : (before ≡ plain_part start 0 (was 0))
          ⊎ ((rest : List HostStep) × (plain_part start 0 (was 0) ≡ rest ++ e ∷ before))
          → plain_requests.QuietBefore start (plain_parts start more) before
      go (inl same) =
          record { inside = plain_parts start was; cut = parts_cut; at = sym same; right = right; quiet = quiet }
      go (inr (rest, split)) =
          let found : plain_requests.QuietBefore start (plain_parts start was) before =
          before_it rest e before split asks in
          record {
            inside = found.inside;
            cut = λ h. past_trans (found.cut h) (parts_cut h);
            at = found.at;
            right = found.right;
            quiet = found.quiet;
          }
