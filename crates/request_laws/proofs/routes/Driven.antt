-- What an event adds to what transactions were asked for, and driven, in a view: at the host of their coordinator, what
-- it sends in this view, and elsewhere nothing.
use Rattle.std.proofs.Common.{◌≡◌, ◌⊎◌, ◌==◌, ◌&&◌, ℕ, Bool, true, List, [], ◌∷◌, inl, inr, sym, ap}
use Rattle.std.proofs.Common.{◌∙◌, subst}
use Rattle.std.proofs.lemmas.Bool.{eq-eqb, or_cases, or_left, or_right}
use Rattle.run_theory.specs.Lists.{Each, IsIn}
use Rattle.run_theory.proofs.Pasts.{each_from, each_in}
use Rattle.run_theory.proofs.Runs.{log_of-own}
use Rattle.run_theory.proofs.EventCases.{event_keeps}
use Rattle.sig_core.specs.declared.member.Member.{Member}
use Rattle.sig_core.specs.declared.member.TxId.{TxId}
use Rattle.sig_core.specs.declared.outs.Outgoing.{Outgoing}
use Rattle.sig_core.specs.declared.signal.Body.{Body}
use Rattle.sig_core.specs.declared.signal.Body.TheVariants.{Chain}
use Rattle.sig_core.specs.declared.signal.chain.ChainSignal.TheVariants.{Commit, LqhKeyReq}
use Rattle.sig_core.specs.declared.view.View.{View}
use Rattle.sig_core.proofs.Keys.{same_tx-self}
use Rattle.world_core.specs.Start.{Start}
use Rattle.world_core.specs.Steps.{HostStep}
use Rattle.world_views.specs.Machine.{machine, step_after}
use Rattle.host_laws.proofs.rows.Operations.{left_of, true_and}
use Rattle.view_laws.specs.Runs.{view_after}
use Rattle.moment_laws.specs.Moments.{logs_of}
use Rattle.moment_laws.specs.Places.{tc_of}
use Rattle.outcome_laws.specs.Counts.{coordinator_member}
use Rattle.request_laws.specs.Drives.{is_commit, is_request, was_sent_in}
use Rattle.request_laws.specs.Routed.{IsGivenUp, WasAskedIn, WasDrivenIn, log_for}
use Rattle.request_laws.specs.Ways.{has_gone_back, is_sent}
use Rattle.request_laws.proofs.routes.OwnSends.{IsOfMember}
use Rattle.request_laws.proofs.routes.Sends.{IsMade}
use Rattle.request_laws.proofs.routes.Turns.{Grows, Renews}

-- what passes is among what is sent
pub sent_among : (p : Body → Bool) (sends : List Outgoing) (o : Outgoing) → IsIn o sends → p o.body ≡ true
    → is_sent p sends ≡ true
sent_among p [] o inside passes = absurd inside
sent_among p (one ∷ sends) o (inl same) passes =
    or_left (p one.body) (is_sent p sends) (ap (λ (o : Outgoing). p o.body) (sym same) ∙ passes)
sent_among p (one ∷ sends) o (inr inside) passes =
    or_right (p one.body) (is_sent p sends) (sent_among p sends o inside passes)

module _ (start : Start) (e : HostStep) (es : List HostStep) where
  abbrev old : ℕ → List HostStep
  old = logs_of start es

  abbrev new : ℕ → List HostStep
  new = logs_of start (e ∷ es)

  abbrev sends : List Outgoing
  sends = (step_after start e.host (old e.host) e).effects.sends

  -- what is so of a log, and stays so, stays so behind the event
  more : (P : List HostStep → Type 0) → ((log : List HostStep) → P log → P (e ∷ log)) → (h : ℕ) → P (old h) → P (new h)
  more P stays = event_keeps (machine start) e es (λ h. P) (stays (old e.host))

  sent_stays : (member : Member) (p : Body → Bool) (number : ℕ) (log : List HostStep)
      → was_sent_in start member p number log ≡ true → was_sent_in start member p number (e ∷ log) ≡ true
  sent_stays member p number log was = or_right _ (was_sent_in start member p number log) was

  gone_stays : (member : Member) (tx : TxId) (log : List HostStep) → has_gone_back start member tx log ≡ true
      → has_gone_back start member tx (e ∷ log) ≡ true
  gone_stays member tx log was = or_right _ _ (or_right _ (has_gone_back start member tx log) was)

  -- of a view it stays so what is said of transactions
  pub grows : (view : View)
      → Grows (WasAskedIn start old view) (WasDrivenIn start old view) (IsGivenUp start old)
      (WasAskedIn start new view) (WasDrivenIn start new view) (IsGivenUp start new)
  grows view = record {
    asked = λ tx was. record {
      full = was.full;
      asked =
          more
          (λ log. was_sent_in start (coordinator_member tx) (is_request tx) view.number log ≡ true)
          (λ log was. sent_stays (coordinator_member tx) (is_request tx) view.number log was)
          (tc_of start (coordinator_member tx)) was.asked;
    };
    driven = λ tx was full.
        more
        (λ log. was_sent_in start (coordinator_member tx) (is_commit tx) view.number log ≡ true)
        (λ log was. sent_stays (coordinator_member tx) (is_commit tx) view.number log was)
        (tc_of start (coordinator_member tx)) (was full);
    given = λ tx was.
        more (λ log. has_gone_back start (coordinator_member tx) tx log ≡ true)
        (λ log was. gone_stays (coordinator_member tx) tx log was) (tc_of start (coordinator_member tx)) was;
  }

  -- at the host of a coordinator
  module _ (member : Member) (at : e.host ≡ tc_of start member) where
    own_log : (one : Member) → one ≡ member → new (tc_of start one) ≡ e ∷ old e.host
    own_log one is =
        ap (λ (m : Member). new (tc_of start m)) is
        ∙ (log_of-own (machine start) e es (tc_of start member) at ∙ ap (λ h. e ∷ old h) (sym at))

    old_log : (one : Member) → one ≡ member → old e.host ≡ old (tc_of start one)
    old_log one is = ap old (at ∙ ap (tc_of start) (sym is))

    host_is : (one : Member) → one ≡ member → tc_of start one ≡ e.host
    host_is one is = ap (tc_of start) is ∙ sym at

    -- what it sent in a view it sent before, or sends now
    sent_before : (one : Member) → one ≡ member → (p : Body → Bool) (number : ℕ)
        → was_sent_in start one p number (new (tc_of start one)) ≡ true
        → (was_sent_in start one p number (old (tc_of start one)) ≡ true) ⊎ (is_sent p sends ≡ true)
    sent_before one is p number was =
        by
        (or_cases _ (was_sent_in start one p number (old e.host))
        (subst (λ log. was_sent_in start one p number log ≡ true) (own_log one is) was))
      where
        Now : ℕ → Bool
        Now h = is_sent p (step_after start h (old e.host) e).effects.sends

        by : ((Now (tc_of start one) && ((view_after start (tc_of start one) (e ∷ old e.host)).number == number)) ≡
            true)
            ⊎ (was_sent_in start one p number (old e.host) ≡ true)
            → (was_sent_in start one p number (old (tc_of start one)) ≡ true) ⊎ (is_sent p sends ≡ true)
        by (inl now) = inr (subst (λ h. Now h ≡ true) (host_is one is) (left_of (Now (tc_of start one)) _ now))
        by (inr was) = inl (subst (λ log. was_sent_in start one p number log ≡ true) (old_log one is) was)

    -- what it sends it has sent in the view in which the host stands then
    sent_now : (one : Member) → one ≡ member → (p : Body → Bool) (view : View)
        → view_after start e.host (e ∷ old e.host) ≡ view → is_sent p sends ≡ true
        → was_sent_in start one p view.number (new (tc_of start one)) ≡ true
    sent_now one is p view stands sent =
        subst (λ log. was_sent_in start one p view.number log ≡ true) (sym (own_log one is))
        (or_left
        (is_sent p (step_after start (tc_of start one) (old e.host) e).effects.sends
        && ((view_after start (tc_of start one) (e ∷ old e.host)).number == view.number))
        (was_sent_in start one p view.number (old e.host))
        (subst
        (λ h. (is_sent p (step_after start h (old e.host) e).effects.sends
        && ((view_after start h (e ∷ old e.host)).number == view.number)) ≡ true)
        (sym (host_is one is))
        (true_and (is_sent p sends) ((view_after start e.host (e ∷ old e.host)).number == view.number) sent
        (eq-eqb (view_after start e.host (e ∷ old e.host)).number view.number
        (ap (λ (v : View). v.number) stands)))))

    -- of its transactions nothing is so anew but by what it sends
    pub renews : (view : View) → IsIn member view.full → (tx : TxId) → coordinator_member tx ≡ member
        → Renews (WasAskedIn start old view) (WasDrivenIn start old view) (WasAskedIn start new view)
        (WasDrivenIn start new view) tx sends
    renews view full tx own = record {
      asked = λ was. asked was (sent_before (coordinator_member tx) own (is_request tx) view.number was.asked);
      driven = λ was.
          driven
          (sent_before (coordinator_member tx) own (is_commit tx) view.number
          (was (subst (λ (m : Member). IsIn m view.full) (sym own) full)));
    }
      where
        asked : WasAskedIn start new view tx
            → (was_sent_in start (coordinator_member tx) (is_request tx) view.number (log_for start old tx) ≡ true)
            ⊎ (is_sent (is_request tx) sends ≡ true)
            → WasAskedIn start old view tx ⊎ (is_sent (is_request tx) sends ≡ true)
        asked was (inl before) = inl (record { full = was.full; asked = before })
        asked was (inr now) = inr now

        driven : (was_sent_in start (coordinator_member tx) (is_commit tx) view.number (log_for start old tx) ≡ true)
            ⊎ (is_sent (is_commit tx) sends ≡ true)
            → WasDrivenIn start old view tx ⊎ (is_sent (is_commit tx) sends ≡ true)
        driven (inl before) = inl (λ full. before)
        driven (inr now) = inr now

    -- and what it sends of them it asks for, and drives
    pub makes : (view : View) → view_after start e.host (e ∷ old e.host) ≡ view → IsIn member view.full
        → Each (λ (sent : Outgoing). IsOfMember member sent.body) sends
        → Each (λ (sent : Outgoing). IsMade (WasAskedIn start new view) (WasDrivenIn start new view) sent.body) sends
    makes view stands full own =
        each_from (λ (sent : Outgoing). IsMade (WasAskedIn start new view) (WasDrivenIn start new view) sent.body) sends
        (λ sent inside. by sent.body (each_in (λ (sent : Outgoing). IsOfMember member sent.body) sent sends own inside)
        (λ p passes. sent_among p sends sent inside passes))
      where
        by : (body : Body) → IsOfMember member body → ((p : Body → Bool) → p body ≡ true → is_sent p sends ≡ true)
            → IsMade (WasAskedIn start new view) (WasDrivenIn start new view) body
        by (Chain (LqhKeyReq tx work chain at)) own sent = record {
          full = subst (λ (m : Member). IsIn m view.full) (sym own) full;
          asked =
              sent_now (coordinator_member tx) own (is_request tx) view stands
              (sent (is_request tx) (same_tx-self tx));
        }
        by (Chain (Commit tx key epoch chain at)) own sent = λ there.
            sent_now (coordinator_member tx) own (is_commit tx) view stands (sent (is_commit tx) (same_tx-self tx))
        by _ own sent = tt
