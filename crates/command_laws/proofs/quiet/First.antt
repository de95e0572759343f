-- The request comes first: before it nothing is under way.
use Rattle.std.proofs.Common.{◌≡◌, ◌⊎◌, ◌<◌, ◌≤◌, ℕ, zero, suc, Bool, true, false, List, [], ◌∷◌, ◌++◌, refl, sym, ap}
use Rattle.std.proofs.Common.{subst, ◌∙◌, inl, inr, append_assoc, arith}
use Rattle.std.proofs.lemmas.Bool.{cases_lt}
use Rattle.std.proofs.lemmas.List.{append-nil}
use Rattle.std.proofs.Math.Path.{fun_ext}
use Rattle.std.specs.Prelude.{Option, None, Some, option_to_list}
use Rattle.run_theory.proofs.Growth.{grow}
use Rattle.run_theory.proofs.Merging.{log_of-append, logs_merged, merged_run}
use Rattle.run_theory.proofs.Runs.{log_of-other, log_of-own, logs_of_run}
use Rattle.run_theory.specs.Along.{Grows}
use Rattle.run_theory.specs.Cuts.{IsCut}
use Rattle.run_theory.specs.Links.{sent, taken}
use Rattle.run_theory.specs.Lists.{Each}
use Rattle.run_theory.specs.Orders.{merged}
use Rattle.run_theory.specs.Runs.{AreLogs, Happens, Run, log_of}
use Rattle.sig_core.specs.declared.request.ApiReq.{ApiReq}
use Rattle.sig_core.specs.declared.signal.Body.{Body}
use Rattle.sig_core.specs.declared.signal.Body.TheVariants.{Host}
use Rattle.sig_core.specs.declared.signal.host.HostSignal.TheVariants.{Continue}
use Rattle.sig_core.specs.declared.signal.host.Work.TheVariants.{Request}
use Rattle.sig_core.specs.declared.signal.Signal.{Signal}
use Rattle.sig_core.specs.Place.{client}
use Rattle.api_block.specs.Api.{request_row}
use Rattle.node_core.specs.Blocks.{api_of}
use Rattle.node_core.specs.Requests.{is_request}
use Rattle.world_core.proofs.HostNumbers.{api_runs, given_past}
use Rattle.world_core.proofs.Stamped.{stamped}
use Rattle.world_core.specs.Hosts.{first_hosts, first_membership}
use Rattle.world_core.specs.Machine.{IsAsked, after, asked_rightly, machine, step_after}
use Rattle.world_core.specs.Requests.{request_in, requests}
use Rattle.world_core.specs.Start.{Start}
use Rattle.world_core.specs.Steps.{Addressed, HostStep}
use Rattle.run_theory.proofs.Tally.{tally_past}
use Rattle.host_laws.proofs.hosts.LinkCounts.{signals}
use Rattle.command_laws.proofs.hosts.BlockSteps.{api_seen, request_step}
use Rattle.command_laws.proofs.quiet.Since.{all_taken}
use Rattle.command_laws.specs.Served.{IsServedBetween}

pub requests_append : (newer log : List HostStep) → requests (newer ++ log) ≡ requests log ++ requests newer
requests_append [] log = sym (append-nil (requests log))
requests_append (e ∷ newer) log =
    ap (λ rs. rs ++ option_to_list (request_in e.step.taken.body)) (requests_append newer log)
    ∙ append_assoc (requests log) (requests newer) (option_to_list (request_in e.step.taken.body))

cancel : {A : Type 0} (xs ys zs : List A) → xs ++ ys ≡ xs ++ zs → ys ≡ zs
cancel [] ys zs is = is
cancel (x ∷ xs) ys zs is = let rest : xs ++ ys ≡ xs ++ zs = cc in cancel xs ys zs rest

none_asked : (body : Body) → request_in body ≡ None → is_request body ≡ false
none_asked (Host (Continue (Request request) at)) none = cc
none_asked _ none = refl

-- a log without requests
pub no_requests : (log : List HostStep) → requests log ≡ []
    → Each (λ (e : HostStep). is_request e.step.taken.body ≡ false) log
no_requests [] none = tt
no_requests (e ∷ log) none = by (request_in e.step.taken.body) refl (front (requests log) none) (no_requests log)
  where
    front : (xs : List ApiReq) {ys : List ApiReq} → xs ++ ys ≡ [] → (xs ≡ []) × (ys ≡ [])
    front [] is = (refl, is)
    front (x ∷ xs) is = absurd cc

    by : (o : Option ApiReq) → request_in e.step.taken.body ≡ o
        → (requests log ≡ []) × (option_to_list (request_in e.step.taken.body) ≡ [])
        → (requests log ≡ [] → Each (λ (f : HostStep). is_request f.step.taken.body ≡ false) log)
        → Each (λ (f : HostStep). is_request f.step.taken.body ≡ false) (e ∷ log)
    by None is both rest = (none_asked e.step.taken.body is, rest both.0)
    by (Some r) is both rest = let some : r ∷ [] ≡ [] = sym (ap option_to_list is) ∙ both.1 in absurd cc

-- a step that a request makes is one of the shell's host
pub fits_asked : (start : Start) (h stamp : ℕ) (x : Signal) (b : Bool) → b ≡ true
    → asked_rightly (first_membership start) b h stamp x → IsAsked (first_membership start) h stamp x
fits_asked start h stamp x true e asked = asked
fits_asked start h stamp x false e asked = cc

-- the oldest event of some
record Oldest (es : List HostStep) : Type 0 where
  newer : List HostStep
  first : HostStep
  is : es ≡ newer ++ first ∷ []

oldest : (es : List HostStep) → (es ≡ []) ⊎ Oldest es
oldest [] = inl refl
oldest (e ∷ es) = by (oldest es)
  where
    by : (es ≡ []) ⊎ Oldest es → (e ∷ es ≡ []) ⊎ Oldest (e ∷ es)
    by (inl none) = inr (record { newer = []; first = e; is = ap (λ w. e ∷ w) none })
    by (inr o) = inr (record { newer = e ∷ o.newer; first = o.first; is = ap (λ w. e ∷ w) o.is })

run_before : (start : Start) (more es : List HostStep) → Run (machine start) (more ++ es) → Run (machine start) es
run_before start [] es run = run
run_before start (e ∷ more) es run = run_before start more es run.0

-- the logs with one more step of the shell's host
abbrev pub with_first : (ℕ → List HostStep) → HostStep → ℕ → List HostStep
with_first was first zero = first ∷ was 0
with_first was first (suc h) = was (suc h)

-- the shell's host was asked for the request as its first step since then, and for no other one
pub record IsFirst (start : Start) (was now : ℕ → List HostStep) (request : ApiReq) : Type 0 where
  pub later : List HostStep
  pub first : HostStep
  pub is : now 0 ≡ later ++ first ∷ was 0
  pub place : first.step.taken.to ≡ client
  pub body : first.step.taken.body ≡ Host (Continue (Request request) 0)
  pub plain : Each (λ (e : HostStep). is_request e.step.taken.body ≡ false) later
  pub right : AreLogs (machine start) (with_first was first)

-- it is what the API does at the request
pub first_step : (start : Start) (was now : ℕ → List HostStep) (request : ApiReq) (f : IsFirst start was now request)
    → api_seen (step_after start 0 (was 0) f.first) ≡ request_row (api_of (after start 0 (was 0))) request
first_step start was now request f = request_step (after start 0 (was 0)) f.first.step.taken request
    (api_runs start (was 0)) f.place f.body

module _ (start : Start) (was now : ℕ → List HostStep) (request : ApiReq)
    (served : IsServedBetween start was now request) where
  -- what comes at a quiet moment is no signal that a link gave
  first_asked : (es : List HostStep) (e : HostStep) → log_of (machine start) es ≡ was → Happens (machine start) es e
      → e.host < first_hosts start → is_request e.step.taken.body ≡ true
  first_asked es e same happens low = by (is_request e.step.taken.body) refl
    where
      by : (b : Bool) → is_request e.step.taken.body ≡ b → b ≡ true
      by true is = refl
      by false is =
          let i = e.step.taken.from.0 in
          let j = e.host in
          let past = given_past start i j (log_of (machine start) es i)
          (record { to = e.host; signal = e.step.taken } ∷ taken (machine start) i (log_of (machine start) es j))
          (happens.takes is) in
          let more = tally_past (λ (x : Addressed). true) past in
          absurd (omega (
            arith,
            more,
            ap (λ logs. signals (λ to body. true) (sent (machine start) i j (logs i))) same,
            ap (λ logs. signals (λ to body. true) (taken (machine start) i (logs j))) same,
            all_taken start was now served.before served.since served.cut (λ to body. true) i j low,
          ))

  at_first : (es newer : List HostStep) (e : HostStep) → log_of (machine start) es ≡ was → Happens (machine start) es e
      → Run (machine start) (e ∷ es) → log_of (machine start) (newer ++ e ∷ es) ≡ now → IsFirst start was now request
  at_first es newer e same happens run all = found
      (fits_asked start e.host _ e.step.taken (is_request e.step.taken.body) (first_asked es e same happens low)
      happens.step.fits.asked)
    where
      here : (h : ℕ) → now h ≡ log_of (machine start) newer h ++ log_of (machine start) (e ∷ es) h
      here h = ap (λ logs. logs h) (sym all) ∙ log_of-append (machine start) newer (e ∷ es) h

      nonempty : (xs ys : List HostStep) → [] ≡ xs ++ e ∷ ys → ⊥
      nonempty [] ys is = cc
      nonempty (x ∷ xs) ys is = cc

      own : (h : ℕ) → e.host ≡ h → now h ≡ log_of (machine start) newer h ++ e ∷ was h
      own h at = here h ∙ ap (λ log. log_of (machine start) newer h ++ log)
          (log_of-own (machine start) e es h at ∙ ap (λ logs. e ∷ logs h) same)

      first_logs : e.host ≡ 0 → (h : ℕ) → log_of (machine start) (e ∷ es) h ≡ with_first was e h
      first_logs at zero = log_of-own (machine start) e es 0 at ∙ ap (λ logs. e ∷ logs 0) same
      first_logs at (suc h) = log_of-other (machine start) e es (suc h) (λ other. absurd (omega (arith, at, other)))
          ∙ ap (λ logs. logs (suc h)) same

      low : e.host < first_hosts start
      low = by (cases_lt e.host (first_hosts start))
        where
          by : (e.host < first_hosts start) ⊎ (first_hosts start ≤ e.host) → e.host < first_hosts start
          by (inl under) = under
          by (inr high) = absurd (nonempty _ _ (sym (served.since.within e.host high) ∙ own e.host refl))

      found : IsAsked (first_membership start) e.host happens.step.fits.asked_at e.step.taken
          → IsFirst start was now request
      found asked =
          let body_is : e.step.taken.body ≡ Host (Continue (Request asked.request) 0) =
          ap (λ (x : Signal). x.body) asked.is in
          let log_is = own 0 asked.shell in
          let all_asked : requests (was 0) ++ (asked.request ∷ requests (log_of (machine start) newer 0))
          ≡ requests (was 0) ++ request ∷ [] =
          sym (append_assoc (requests (was 0)) (asked.request ∷ []) (requests (log_of (machine start) newer 0)))
          ∙ ap (λ o. (requests (was 0) ++ option_to_list o) ++ requests (log_of (machine start) newer 0))
          (sym (ap request_in body_is))
          ∙ sym (requests_append (log_of (machine start) newer 0) (e ∷ was 0)) ∙ ap requests (sym log_is)
          ∙ served.asked in
          let rest : asked.request ∷ requests (log_of (machine start) newer 0) ≡ request ∷ [] =
          cancel (requests (was 0)) _ _ all_asked in
          let none : requests (log_of (machine start) newer 0) ≡ [] = cc in
          let this : asked.request ≡ request = cc in
          record {
            later = log_of (machine start) newer 0;
            first = e;
            is = log_is;
            place = ap (λ (x : Signal). x.to) asked.is;
            body = body_is ∙ ap (λ r. Host (Continue (Request r) 0)) this;
            plain = no_requests (log_of (machine start) newer 0) none;
            right = subst (AreLogs (machine start)) (fun_ext (first_logs asked.shell))
                (logs_of_run (machine start) (e ∷ es) run);
          }

  pub request_first : IsFirst start was now request
  request_first = by (oldest grown.more)
    where
      n : ℕ
      n = first_hosts start

      es : List HostStep
      es = merged (machine start) n was

      same : log_of (machine start) es ≡ was
      same = logs_merged (machine start) n was served.before.within served.before.right

      grown : Grows (machine start) es now
      grown =
          grow (machine start) (stamped start) n es now
          (merged_run (machine start) (stamped start) n was served.before.within served.before.right)
          served.since.within served.since.right
          (subst (λ logs. IsCut logs now) (sym same) served.cut)

      longer : (xs : List ApiReq) → xs ≡ xs ++ request ∷ [] → ⊥
      longer [] is = cc
      longer (x ∷ xs) is = let rest : xs ≡ xs ++ request ∷ [] = cc in longer xs rest

      by : (grown.more ≡ []) ⊎ Oldest grown.more → IsFirst start was now request
      by (inl none) =
          absurd (longer (requests (was 0))
          (ap (λ logs. requests (logs 0)) (sym same)
          ∙ ap (λ m. requests (log_of (machine start) (m ++ es) 0)) (sym none) ∙ ap requests (grown.logs 0)
          ∙ served.asked))
      by (inr o) =
          let parts : grown.more ++ es ≡ o.newer ++ (o.first ∷ es) =
          ap (λ m. m ++ es) o.is ∙ append_assoc o.newer (o.first ∷ []) es in
          let run = run_before start o.newer (o.first ∷ es) (subst (Run (machine start)) parts grown.run) in
          at_first es o.newer o.first same run.1 run (ap (log_of (machine start)) (sym parts) ∙ fun_ext grown.logs)
