-- Of a transaction with a name that was asked for its commit or its abort just one reply has that name: its end.
use Rattle.std.proofs.Common.{◌≡◌, ◌≤◌, ◌+◌, ℕ, Bool, true, false, List, [], ◌∷◌, ◌++◌, refl, sym, ap, ◌∙◌, subst}
use Rattle.std.proofs.Common.{arith}
use Rattle.std.proofs.lemmas.Bool.{false≢true}
use Rattle.std.proofs.Math.Seq.{drop-append_seam}
use Rattle.std.specs.Prelude.{drop, length, None, Some}
use Rattle.node_core.proofs.HostLemmas.{IsFront}
use Rattle.node_core.specs.Blocks.{api_of, has_api}
use Rattle.node_core.specs.declared.host.Host.{Host}
use Rattle.node_core.specs.Replies.{replies_of}
use Rattle.node_core.specs.Requests.{is_request}
use Rattle.node_core.specs.Row.{row}
use Rattle.run_theory.proofs.Pasts.{each_from, each_map}
use Rattle.run_theory.specs.Lists.{Each, IsIn}
use Rattle.sig_core.specs.declared.member.TxId.{TxId}
use Rattle.sig_core.specs.declared.outcome.Outcome.{Outcome}
use Rattle.sig_core.specs.declared.reply.ApiReply.{ApiReply}
use Rattle.sig_core.specs.declared.reply.ApiReply.TheVariants.{Answered, Begun, Digest, Ended, Refused, Row, Rows}
use Rattle.sig_core.specs.declared.reply.Refusal.TheVariants.{TooManyOpen}
use Rattle.sig_core.specs.declared.request.ApiReq.{ApiReq}
use Rattle.sig_core.specs.declared.request.ApiReq.TheVariants.{Abort, Commit}
use Rattle.sig_core.specs.declared.signal.Body.{Body}
use Rattle.sig_core.specs.declared.signal.Signal.{Signal}
use Rattle.sig_core.specs.Step.{Step}
use Rattle.api_block.specs.Api.{api_row, request_row}
use Rattle.api_block.specs.declared.opened.Doing.{Doing}
use Rattle.api_block.specs.declared.opened.Doing.TheVariants.{Beginning, Ready, Committing}
use Rattle.api_block.specs.declared.opened.OpenTransaction.{OpenTransaction}
use Rattle.api_block.specs.Opened.{answered, begins, behind, committing, is_beginning, is_named, same_name}
use Rattle.api_block.specs.State.{ApiState}
use Rattle.world_core.proofs.HostNumbers.{api_runs}
use Rattle.world_core.proofs.Replies.{replies_grow}
use Rattle.world_core.specs.Machine.{after}
use Rattle.world_core.specs.Start.{Start}
use Rattle.world_core.specs.Steps.{HostStep}
use Rattle.host_laws.proofs.api.Begins.{each_at, each_changed, each_less, in_middle, same_name-is, same_name-self}
use Rattle.host_laws.proofs.hosts.BlocksAlong.{replies_are}
use Rattle.host_laws.proofs.rows.Operations.{left_of, right_of}
use Rattle.host_laws.proofs.hosts.ShellHost.{IsShell, shell_after}
use Rattle.run_theory.proofs.Tally.{only_one, tally_append, tally_between, tally_in, tally_none}
use Rattle.run_theory.specs.Counts.{one_if, tally}
use Rattle.host_laws.specs.OpenedAfter.{opened_after}
use Rattle.command_laws.proofs.ends.AbortFirst.{abort_found}
use Rattle.command_laws.proofs.hosts.ApiChanges.{ApiChange, BecomesIn, GoesOnAs, IsOneOf, alone, answers, api_changes}
use Rattle.command_laws.proofs.hosts.ApiChanges.{commits, ends, idle, is_row_reply, refuses, rests, starts, told, waits}
use Rattle.command_laws.proofs.hosts.BlockSteps.{api_host}
use Rattle.command_laws.proofs.ends.CommitFirst.{commit_found}
use Rattle.command_laws.proofs.hosts.Entries.{IsNamed, named_found}
use Rattle.command_laws.proofs.quiet.First.{IsFirst, first_step, request_first}
use Rattle.command_laws.specs.Once.{IsToldOnce, is_about}
use Rattle.command_laws.specs.Served.{IsServedBetween, named_in, replies_since}

-- of one that does this the next reply tells the end
abbrev is_idle : Doing → Bool
is_idle Ready = true
is_idle Committing = true
is_idle _ = false

not_idle : (d : Doing) → is_beginning d ≡ true → is_idle d ≡ false
not_idle (Beginning op) e = refl
not_idle _ e = cc

-- rows have no names
row_none : (name : ℕ) (r : ApiReply) → is_row_reply r ≡ true → is_about name r ≡ false
row_none name (Row key value) e = refl
row_none name (Rows node count) e = refl
row_none name (Digest node digest) e = refl
row_none name _ e = cc

module _ (name : ℕ) where
  abbrev names : List OpenTransaction → ℕ
  names opened = tally (is_named (Some name)) opened

  abbrev abouts : List ApiReply → ℕ
  abouts replies = tally (is_about name) replies

  abbrev Idle : OpenTransaction → Type 0
  Idle t = is_named (Some name) t ≡ true → is_idle t.doing ≡ true

  -- who has the name is idle, and a reply that has it is one transaction less that does
  record Stays (base : ℕ) (opened : List OpenTransaction) (replies : List ApiReply) : Type 0 where
    idle : Each Idle opened
    sum : abouts replies + names opened ≡ base

  -- one that isn't idle has another name
  apart : (t : OpenTransaction) → Idle t → is_idle t.doing ≡ false → is_named (Some name) t ≡ false
  apart t kept off = by (is_named (Some name) t) refl
    where
      by : (b : Bool) → is_named (Some name) t ≡ b → b ≡ false
      by false is = refl
      by true is = absurd (false≢true (sym off ∙ kept is))

  here : (base : ℕ) (opened : List OpenTransaction) (replies : List ApiReply) (one : IsOneOf opened)
      → Stays base opened replies → Idle one.t
  here base opened replies one was = each_at Idle one.front one.t one.back opened one.is was.idle

  unsaid : (replies next : List ApiReply) (r : ApiReply) → next ≡ replies ++ r ∷ [] → is_about name r ≡ false
      → abouts next ≡ abouts replies
  unsaid replies next r is off =
      omega (arith, ap (tally (is_about name)) is, tally_append (is_about name) replies (r ∷ []), ap one_if off)

  changed : (base : ℕ) (opened now : List OpenTransaction) (replies next : List ApiReply) (one : IsOneOf opened)
      (u : OpenTransaction) → Stays base opened replies → BecomesIn one u now → u.name ≡ one.t.name
      → (Idle one.t → Idle u) → abouts next ≡ abouts replies → Stays base now next
  changed base opened now replies next one u was is same kept said = record {
    idle = subst (Each Idle) (sym is)
        (each_changed Idle one.front one.t u one.back opened one.is was.idle kept);
    sum = omega (
      arith,
      was.sum,
      said,
      ap (tally (is_named (Some name))) is,
      tally_between (is_named (Some name)) one.front one.t one.back opened one.is,
      tally_between (is_named (Some name)) one.front u one.back (one.front ++ u ∷ one.back) refl,
      ap (λ o. one_if (same_name o (Some name))) same,
    );
  }

  removed : (base : ℕ) (opened now : List OpenTransaction) (replies next : List ApiReply) (one : IsOneOf opened)
      → Stays base opened replies → now ≡ one.front ++ one.back
      → abouts next ≡ abouts replies + one_if (is_named (Some name) one.t) → Stays base now next
  removed base opened now replies next one was is said = record {
    idle = subst (Each Idle) (sym is) (each_less Idle one.front one.t one.back opened one.is was.idle);
    sum = omega (
      arith,
      was.sum,
      said,
      ap (tally (is_named (Some name))) is,
      tally_between (is_named (Some name)) one.front one.t one.back opened one.is,
    );
  }

  module _ (base : ℕ) (s : ApiState) (body : Body) (step : Step ApiState) (was : Stays base s.opened s.replies) where
    abbrev Now : Type 0
    Now = Stays base step.state.opened step.state.replies

    begins_stays : (one : IsOneOf s.opened) (tx : TxId) (u : OpenTransaction)
        → is_named (Some name) one.t ≡ false → BecomesIn one u step.state.opened → GoesOnAs s tx one.t u step → Now
    begins_stays one tx u off is (told called called_is u_is replies sends) =
        changed base s.opened step.state.opened s.replies step.state.replies one u was is
        (ap (λ (x : OpenTransaction). x.name) u_is)
        (λ kept on. ap (λ (x : OpenTransaction). is_idle x.doing) u_is)
        (unsaid s.replies step.state.replies (Begun called tx.tc) replies
        (ap (λ o. same_name o (Some name)) (sym called_is) ∙ off))
    begins_stays one tx u off is (alone op nameless does u_is replies sends) =
        changed base s.opened step.state.opened s.replies step.state.replies one u was is
        (ap (λ (x : OpenTransaction). x.name) u_is)
        (λ kept on. absurd (false≢true (sym (ap (λ (x : OpenTransaction). is_named (Some name) x) u_is ∙ off) ∙ on)))
        (ap (tally (is_about name)) replies)
    begins_stays one tx u off is (idle u_is replies sends) =
        changed base s.opened step.state.opened s.replies step.state.replies one u was is
        (ap (λ (x : OpenTransaction). x.name) u_is)
        (λ kept on. ap (λ (x : OpenTransaction). is_idle x.doing) u_is)
        (ap (tally (is_about name)) replies)

    change_stays : ApiChange s body step → Now
    change_stays (rests is adds kind) = record {
      idle = subst (Each Idle) (sym is) was.idle;
      sum = omega (
        arith,
        was.sum,
        ap (tally (is_named (Some name))) is,
        ap (tally (is_about name)) adds.is,
        tally_append (is_about name) s.replies adds.more,
        tally_none (is_about name) adds.more
            (each_map (λ (r : ApiReply). is_row_reply r ≡ true) (λ (r : ApiReply). is_about name r ≡ false) adds.more
            (row_none name) adds.rows),
      );
    }
    change_stays (waits one ahead at about is replies sends) =
        changed base s.opened step.state.opened s.replies step.state.replies at (behind at.t (Some ahead)) was is refl
        (λ kept. kept) (ap (tally (is_about name)) replies)
    change_stays (answers one answer called at about passes does called_is is replies sends) =
        let off : is_named (Some name) at.t ≡ false =
        apart at.t (here base s.opened s.replies at was) (ap is_idle does) in
        changed base s.opened step.state.opened s.replies step.state.replies at (answered at.t Ready) was is refl
        (λ kept on. refl)
        (unsaid s.replies step.state.replies (Answered (Some called) answer) replies
        (ap (λ o. same_name o (Some name)) (sym called_is) ∙ off))
    change_stays (commits one answer at about passes does nameless is replies sends) =
        changed base s.opened step.state.opened s.replies step.state.replies at (answered at.t Committing) was is refl
        (λ kept on. refl)
        (unsaid s.replies step.state.replies (Answered None answer) replies refl)
    change_stays (ends one end at about passes is replies marks sends) =
        removed base s.opened step.state.opened s.replies step.state.replies at was is
        (omega (
          arith,
          ap (tally (is_about name)) replies,
          tally_append (is_about name) s.replies (Ended at.t.name end ∷ []),
        ))
    change_stays (starts called one at u about passes is goes) =
        begins_stays at one u
        (apart at.t (here base s.opened s.replies at was)
        (not_idle at.t.doing
        (left_of (is_beginning at.t.doing) (same_name at.t.name called) (left_of (begins called at.t) _ passes))))
        is goes
    change_stays (refuses called at about passes is replies sends) =
        let off : is_named (Some name) at.t ≡ false =
        apart at.t (here base s.opened s.replies at was)
        (not_idle at.t.doing (left_of (is_beginning at.t.doing) (same_name at.t.name called) passes)) in
        let same : at.t.name ≡ called =
        same_name-is at.t.name called (right_of (is_beginning at.t.doing) (same_name at.t.name called) passes) in
        removed base s.opened step.state.opened s.replies step.state.replies at was is
        (omega (
          arith,
          unsaid s.replies step.state.replies (Refused called TooManyOpen) replies
              (ap (λ o. same_name o (Some name)) (sym same) ∙ off),
          ap one_if off,
        ))

  abbrev StaysAt : ℕ → Host → Type 0
  StaysAt base g = Stays base (api_of g).opened (api_of g).replies

  host_stays : (base : ℕ) (g : Host) (x : Signal) → has_api g ≡ true → is_request x.body ≡ false → StaysAt base g
      → StaysAt base (row g x).state
  host_stays base g x has plain was =
      api_host (λ (step : Step ApiState). Stays base step.state.opened step.state.replies) g x has
      (λ at. change_stays base (api_of g) x.body (api_row (api_of g) x) was (api_changes (api_of g) x.body plain))
      (λ off. was)

  -- along steps that aren't requests
  stays_since : (base : ℕ) (start : Start) (later log : List HostStep)
      → Each (λ (e : HostStep). is_request e.step.taken.body ≡ false) later → StaysAt base (after start 0 log)
      → StaysAt base (after start 0 (later ++ log))
  stays_since base start [] log plain was = was
  stays_since base start (e ∷ later) log plain was =
      host_stays base (after start 0 (later ++ log)) e.step.taken (api_runs start (later ++ log)) plain.0
      (stays_since base start later log plain.1 was)

  -- one that takes commands is the only one of its name
  ready_stays : (s : ApiState) (t : OpenTransaction) → IsNamed s.opened name t → t.doing ≡ Ready → names s.opened ≤ 1
      → Stays (abouts s.replies + 1) s.opened s.replies
  ready_stays s t n ready few = record {
    idle = each_from Idle s.opened one;
    sum = omega (arith, few, tally_in (is_named (Some name)) t s.opened there is_so);
  }
    where
      there : IsIn t s.opened
      there =
          subst (λ x. IsIn x s.opened) n.item
          (subst (IsIn n.focus.item) (sym n.focus.is) (in_middle n.focus.front n.focus.item n.focus.back))

      is_so : is_named (Some name) t ≡ true
      is_so = ap (λ o. same_name o (Some name)) n.called ∙ same_name-self (Some name)

      one : (x : OpenTransaction) → IsIn x s.opened → Idle x
      one x inside on =
          let same : x ≡ t = only_one (is_named (Some name)) s.opened x t few inside there on is_so in
          ap (λ (y : OpenTransaction). is_idle y.doing) same ∙ ap is_idle ready

  module _ (start : Start) (was now : ℕ → List HostStep) (t : OpenTransaction) (tx : TxId)
      (named : named_in (opened_after start was) name ≡ Some t) (ready : t.doing ≡ Ready) (own : t.tx ≡ Some tx) where
    abbrev s : ApiState
    s = api_of (after start 0 (was 0))

    abbrev base : ℕ
    base = abouts s.replies + 1

    n : IsNamed s.opened name t
    n = named_found s.opened name t named

    stays_was : Stays base s.opened s.replies
    stays_was =
        let sh : IsShell start (after start 0 (was 0)) = shell_after start (was 0) in
        ready_stays s t n ready (omega (
          arith,
          sh.good.once name,
          ap (λ (g : Host). tally (is_named (Some name)) (api_of g).opened) sh.is,
        ))

    abort_stays : Stays base (request_row s (Abort name)).state.opened (request_row s (Abort name)).state.replies
    unfolding request_row
    abort_stays =
        subst (λ (step : Step ApiState). Stays base step.state.opened step.state.replies)
        (sym (abort_found s name t tx own n)) stays_was

    commit_stays : Stays base (request_row s (Commit name)).state.opened (request_row s (Commit name)).state.replies
    unfolding request_row
    commit_stays =
        subst (λ (step : Step ApiState). Stays base step.state.opened step.state.replies)
        (sym (commit_found s name t tx ready own n))
        (changed base s.opened _ s.replies s.replies
        (record { t = n.focus.item; front = n.focus.front; back = n.focus.back; is = n.focus.is }) (committing t)
        stays_was
        (n.focus.set (committing t)) (ap (λ (x : OpenTransaction). x.name) (sym n.item)) (λ kept on. refl) refl)

    module _ (asked : ApiReq) (served : IsServedBetween start was now asked)
        (begun_so : Stays base (request_row s asked).state.opened (request_row s asked).state.replies) where
      f : IsFirst start was now asked
      f = request_first start was now asked served

      stays_first : StaysAt base (after start 0 (f.first ∷ was 0))
      stays_first =
          subst (λ (step : Step ApiState). Stays base step.state.opened step.state.replies)
          (sym (first_step start was now asked f)) begun_so

      stays_now : StaysAt base (after start 0 (now 0))
      stays_now =
          subst (λ log. StaysAt base (after start 0 log)) (sym f.is)
          (stays_since base start f.later (f.first ∷ was 0) f.plain stays_first)

      grown : IsFront (replies_of (after start 0 (was 0))) (replies_of (after start 0 (now 0)))
      grown = replies_grow start (was 0) (now 0) (served.cut 0)

      more_is : replies_since start was now ≡ grown.more
      more_is =
          ap (drop (length (replies_of (after start 0 (was 0))))) grown.is
          ∙ drop-append_seam (replies_of (after start 0 (was 0))) grown.more

      once_told : (end : Outcome) → IsIn (Ended (Some name) end) (replies_since start was now)
          → IsToldOnce start was now name
      once_told end inside =
          omega (
            arith,
            stays_now.sum,
            ap (tally (is_about name)) (replies_are (after start 0 (was 0))),
            ap (tally (is_about name)) (replies_are (after start 0 (now 0))),
            ap (tally (is_about name)) grown.is,
            tally_append (is_about name) (replies_of (after start 0 (was 0))) grown.more,
            ap (tally (is_about name)) more_is,
            tally_in (is_about name) (Ended (Some name) end) (replies_since start was now) inside
                (same_name-self (Some name)),
          )

pub abort_once : (start : Start) (was now : ℕ → List HostStep) (name : ℕ) (t : OpenTransaction) (tx : TxId)
    → IsServedBetween start was now (Abort name) → named_in (opened_after start was) name ≡ Some t → t.doing ≡ Ready
    → t.tx ≡ Some tx → (end : Outcome) → IsIn (Ended (Some name) end) (replies_since start was now)
    → IsToldOnce start was now name
abort_once start was now name t tx served named ready own end inside =
    once_told name start was now t tx named ready own (Abort name) served
    (abort_stays name start was now t tx named ready own) end inside

pub commit_once : (start : Start) (was now : ℕ → List HostStep) (name : ℕ) (t : OpenTransaction) (tx : TxId)
    → IsServedBetween start was now (Commit name) → named_in (opened_after start was) name ≡ Some t → t.doing ≡ Ready
    → t.tx ≡ Some tx → (end : Outcome) → IsIn (Ended (Some name) end) (replies_since start was now)
    → IsToldOnce start was now name
commit_once start was now name t tx served named ready own end inside =
    once_told name start was now t tx named ready own (Commit name) served
    (commit_stays name start was now t tx named ready own) end inside
