-- The plain parts of the logs of a run that is kept: they are logs of the plain machine, which replied the same but for
-- epochs, and was asked for the same; and where nothing is under way, nothing is there.
use Rattle.std.proofs.Common.{◌≡◌, ◌<◌, inl, inr, ℕ, Bool, true, false, List, [], ◌∷◌, ◌++◌, refl, sym, ap, ◌∙◌, subst}
use Rattle.std.proofs.Common.{append-nil, arith}
use Rattle.std.proofs.Math.Path.{fun_ext}
use Rattle.std.specs.List.{list_any}
use Rattle.std.specs.Prelude.{if◌then◌else◌, filter, map, not, Option, None, option_to_list}
use Rattle.std.proofs.lemmas.Bool.{false≢true}
use Rattle.api_block.specs.State.{ApiState}
use Rattle.host_laws.proofs.hosts.BlocksAlong.{replies_are}
use Rattle.node_core.specs.Blocks.{api_of, has_api}
use Rattle.node_core.specs.declared.host.Host as plain_host
use Rattle.node_core.specs.declared.host.Host.TheVariants as plain_kind
use Rattle.node_core.specs.Replies.{replies_of}
use Rattle.node_views.specs.declared.parts.Parts.{Parts}
use Rattle.node_views.specs.declared.parts.Parts.TheVariants.{Shell, Main, Tc, Ldm}
use Rattle.node_views.specs.Row.{is_one_of}
use Rattle.run_theory.proofs.Runs.{logs_of_run}
use Rattle.run_theory.specs.Links.{IsGiven, sent, taken}
use Rattle.run_theory.specs.Orders.{HasLogs}
use Rattle.run_theory.specs.Runs.{AreLogs, IsWithin, log_of}
use Rattle.sig_core.specs.declared.member.HostId.{HostId}
use Rattle.sig_core.specs.declared.place.BlockId.{BlockId}
use Rattle.sig_core.specs.declared.place.BlockId.TheVariants as block
use Rattle.sig_core.specs.declared.reply.ApiReply.{ApiReply}
use Rattle.sig_core.specs.declared.request.ApiReq.{ApiReq}
use Rattle.sig_core.specs.declared.signal.Body.{Body}
use Rattle.sig_core.specs.declared.signal.Body.TheVariants.{Host, Client, Chain, Epoch}
use Rattle.sig_core.specs.declared.signal.chain.ChainSignal.TheVariants.{Commit}
use Rattle.sig_core.specs.declared.signal.client.ClientSignal.TheVariants.{TcCommitConf}
use Rattle.sig_core.specs.declared.signal.epoch.EpochSignal.TheVariants.{DiVerifyConf}
use Rattle.sig_core.specs.declared.signal.host.HostSignal.TheVariants.{Continue}
use Rattle.sig_core.specs.declared.signal.host.Work.TheVariants as work
use Rattle.world_core.proofs.HostNumbers.{hosts_low}
use Rattle.world_core.specs.Hosts.{first_hosts}
use Rattle.world_core.specs.Machine as plain
use Rattle.world_core.specs.Quiet as plain_quiet
use Rattle.world_core.specs.Requests.{request_in}
use Rattle.world_core.specs.Requests as plain_requests
use Rattle.world_core.specs.Start.{Start}
use Rattle.world_core.specs.Steps.{Addressed, HostStep}
use Rattle.world_views.specs.Machine.{after, has_cut, has_stopped, machine}
use Rattle.world_views.specs.Quiet.{IsQuiet}
use Rattle.world_views.specs.Requests.{requests}
use Rattle.world_views.specs.Right.{holds_by, replies_in}
use Rattle.calm_laws.specs.Plain.{is_beating}
use Rattle.calm_laws.proofs.lives.Asked.{same_requests}
use Rattle.calm_laws.proofs.lives.Events.{none_before}
use Rattle.level_laws.specs.Levels.{body_at, host_at, reply_at}
use Rattle.peace_laws.specs.Alike.{ArePartsNear}
use Rattle.peace_laws.specs.Parts.{is_beside, levelled, levelled_replies, plain_part, plain_parts, plain_replies}
use Rattle.peace_laws.specs.Peace.{is_closing, is_for_closing}
use Rattle.peace_laws.proofs.near.CalmNear.{inner_api}
use Rattle.peace_laws.proofs.near.Mirrored.{IsMirrored, level_same}
use Rattle.peace_laws.proofs.plain.Events.{events_are, no_part, none_part, plain_events}
use Rattle.peace_laws.proofs.near.Runs.{IsKept}
use Rattle.peace_laws.proofs.near.Sent.{addressed_at}
use Rattle.peace_laws.proofs.closings.Ease.{takes_it}

-- what an inner host that is near replied
near_replies : (start : Start) (given : List ApiReply) (parts : Parts) (s : plain_host.Host)
    → ArePartsNear start given parts s → has_api s ≡ true
    → (api_of (host_at start.epoch s)).replies ≡ map (reply_at start.epoch) given
near_replies start given (Shell p) (plain_kind.Shell a) near api =
    ap (λ (b : ApiState). map (reply_at start.epoch) b.replies) near.1.1.1
    ∙ ap (λ more. map (reply_at start.epoch) (given ++ more)) near.1.1.0
    ∙ ap (map (reply_at start.epoch)) (append-nil given)
near_replies start given (Main p) (plain_kind.Main m) near api = absurd (false≢true api)
near_replies start given (Tc p) (plain_kind.Tc q) near api = absurd (false≢true api)
near_replies start given (Ldm p) (plain_kind.Ldm s) near api = absurd (false≢true api)
near_replies start given parts s near api = absurd near

-- what is of a closing asks for nothing, and what asks for something does so whatever its epoch
none_in : (of : BlockId) (body : Body) → is_for_closing of body ≡ true → request_in body ≡ None
none_in of (Epoch signal) closing = refl
none_in block.GcpMaster (Host (Continue work.Members at)) closing = refl
none_in of body closing = absurd cc

level_in : (epoch : ℕ) (body : Body) → request_in (body_at epoch body) ≡ request_in body
level_in epoch (Client (TcCommitConf tx other)) = refl
level_in epoch (Chain (Commit tx key other chain at)) = refl
level_in epoch (Epoch (DiVerifyConf tx other)) = refl
level_in epoch body = refl

part_requests : (epoch : ℕ) (log : List HostStep)
    → plain_requests.requests (map (levelled epoch) (filter (is_beside 0) log)) ≡ plain_requests.requests log
part_requests epoch [] = refl
part_requests epoch (e ∷ log) = by (is_closing 0 e.step.taken) refl (part_requests epoch log)
  where
    by : (b : Bool) → is_closing 0 e.step.taken ≡ b
        → plain_requests.requests (map (levelled epoch) (filter (is_beside 0) log)) ≡ plain_requests.requests log
        → plain_requests.requests
        (map (levelled epoch) (if not b then e ∷ filter (is_beside 0) log else filter (is_beside 0) log))
        ≡ plain_requests.requests log ++ option_to_list (request_in e.step.taken.body)
    by true closing rest =
        rest ∙ sym (append-nil (plain_requests.requests log))
        ∙ ap (λ (o : Option ApiReq). plain_requests.requests log ++ option_to_list o)
        (sym (none_in e.step.taken.to.block e.step.taken.body (takes_it 0 e.step.taken closing)))
    by false beside rest =
        ap (λ (those : List ApiReq). those ++ option_to_list (request_in (body_at epoch e.step.taken.body))) rest
        ∙ ap (λ (o : Option ApiReq). plain_requests.requests log ++ option_to_list o)
        (level_in epoch e.step.taken.body)

-- a plain host that has done nothing has sent nothing, and nothing was taken from it
none_given : (start : Start) (i j : ℕ) (log : List HostStep) (xs : List Addressed) → log ≡ []
    → IsGiven (plain.machine start) i j log xs → xs ≡ sent (plain.machine start) i j log
none_given start i j log xs none given =
    go (subst (λ those. IsGiven (plain.machine start) i j those xs) none given)
    ∙ sym (ap (λ those. sent (plain.machine start) i j those) none)
  where
    go : IsGiven (plain.machine start) i j [] xs → xs ≡ []
    go (inl past) = none_before xs [] past refl
    go (inr closing) = absurd closing

module _ (start : Start) (es : List HostStep) (logs : ℕ → List HostStep) (has : HasLogs (machine start) es logs)
    (kept : IsKept start es) where
  pub mirrored : (h : ℕ) → IsMirrored start h (logs h)
  mirrored h = subst (IsMirrored start h) (has h) (kept.mirrored h)

  same : log_of (plain.machine start) (plain_events start es) ≡ plain_parts start logs
  same = fun_ext (λ h. events_are start es h ∙ ap (plain_part start h) (has h))

  pub right : AreLogs (plain.machine start) (plain_parts start logs)
  right =
      subst (AreLogs (plain.machine start)) same (logs_of_run (plain.machine start) (plain_events start es) kept.run)

  pub within : IsWithin (first_hosts start) logs → IsWithin (first_hosts start) (plain_parts start logs)
  within there h above = ap (plain_part start h) (there h above) ∙ no_part start h

  pub replies : levelled_replies start.epoch (replies_in start 0 (logs 0))
      ≡ replies_of (plain.after start 0 (plain_parts start logs 0))
  replies =
      let shell : IsMirrored start 0 (logs 0) = mirrored 0 in
      sym
      (replies_are (plain.after start 0 (plain_parts start logs 0))
      ∙ level_same start 0 (logs 0) shell (λ s. (api_of s).replies) (λ s. refl)
      ∙ near_replies start (plain_replies (replies_in start 0 (logs 0))) (after start 0 (logs 0)).parts shell.inner
      shell.near.parts (inner_api start (logs 0) shell))

  pub asked : plain_requests.requests (plain_parts start logs 0) ≡ requests (logs 0)
  asked = part_requests start.epoch (logs 0) ∙ same_requests (logs 0) ((mirrored 0).asked refl)

  -- Where nothing is under way, and no host stopped, all that was sent was taken; nobody was cut off.
  module _ (goes_on : (h : ℕ) → has_stopped (logs h) ≡ false) (quiet : IsQuiet start logs) where
    none_cut : (h other : ℕ) → has_cut start h (logs h) other ≡ false
    none_cut h other =
        ap (λ (cut : List HostId). list_any (is_one_of (record { 0 = other })) cut) (mirrored h).near.standing.uncut

    pub all_taken : (i j : ℕ) → i < first_hosts start → j < first_hosts start
        → taken (machine start) i (logs j) ≡ sent (machine start) i j (logs i)
    all_taken i j i_low low =
        subst (λ b. holds_by b start i j (logs i) (taken (machine start) i (logs j))) (goes_on i)
        (quiet i j (omega (arith, i_low, hosts_low start)) (omega (arith, low, hosts_low start))
        (record { runs = goes_on j; takes = none_cut j i }))

    quiet_between : (i j : ℕ) → i < first_hosts start → j < first_hosts start
        → (a b : Bool) → is_beating i ≡ a → is_beating j ≡ b
        → taken (plain.machine start) i (plain_parts start logs j)
        ≡ sent (plain.machine start) i j (plain_parts start logs i)
    quiet_between i j i_low low true b at to =
        none_given start i j (plain_parts start logs i) (taken (plain.machine start) i (plain_parts start logs j))
        (none_part start i (logs i) at) (right.linked i j)
    quiet_between i j i_low low false true at to =
        ap (taken (plain.machine start) i) (none_part start j (logs j) to)
        ∙ sym ((mirrored i).none j low at to)
    quiet_between i j i_low low false false at to =
        (mirrored j).took i to at
        ∙ ap (map (addressed_at start.epoch)) (all_taken i j i_low low)
        ∙ sym ((mirrored i).links j at to)

    pub quiet_plain : plain_quiet.IsQuiet (plain.machine start) (first_hosts start) (plain_parts start logs)
    quiet_plain i j i_low low = quiet_between i j i_low low (is_beating i) (is_beating j) refl refl
