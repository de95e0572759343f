-- What rows send of a transaction's operation on a key tells the truth, if what the event of the key sends does.
use Rattle.std.proofs.Common.{◌≡◌, ◌⊎◌, ◌&&◌, ◌∙◌, ℕ, Bool, true, false, List, [], ◌∷◌, refl, sym, ap, subst, inl, inr}
use Rattle.std.proofs.lemmas.Bool.{true≢false}
use Rattle.std.specs.Prelude.{if◌then◌else◌, Option, None, Some}
use Rattle.run_theory.proofs.Links.{sent_by_each}
use Rattle.run_theory.proofs.Pasts.{each_filter, each_in, each_map}
use Rattle.run_theory.specs.Links.{sent_by}
use Rattle.run_theory.specs.Lists.{Each, IsIn}
use Rattle.frag_map.specs.Layout.{Layout}
use Rattle.sig_core.specs.declared.member.Member.{Member}
use Rattle.sig_core.specs.declared.member.TxId.{TxId}
use Rattle.sig_core.specs.declared.outs.Outgoing.{Outgoing}
use Rattle.sig_core.specs.declared.place.Place.{Place}
use Rattle.sig_core.specs.declared.signal.Body.{Body}
use Rattle.sig_core.specs.declared.signal.Body.TheVariants.{Chain}
use Rattle.sig_core.specs.declared.signal.Signal.{Signal}
use Rattle.sig_core.specs.declared.signal.chain.ChainSignal.TheVariants.{Abort, LqhKeyConf, LqhKeyRef, LqhKeyReq}
use Rattle.sig_core.specs.Same.{same_key, same_tx}
use Rattle.sig_core.specs.Work.{work_key}
use Rattle.sig_core.proofs.TxLemmas.{same_tx-is}
use Rattle.lqh_views.specs.Replica.{replica_row}
use Rattle.lqh_views.specs.State.{ReplicaState}
use Rattle.key_laws.specs.Replica.{at_key}
use Rattle.run_laws.proofs.circle.KeySends.{is_abort}
use Rattle.run_laws.proofs.tokens.Signals.{Token, event_tokens, home_is, is_home, is_rows, token_of, tokens_of}
use Rattle.run_laws.proofs.tokens.Signals as token
use Rattle.run_laws.proofs.transit.Lists.{told_sends}
use Rattle.run_laws.proofs.transit.Lists as lists
use Rattle.tc_block.specs.declared.transaction.Transaction.{Transaction}
use Rattle.world_core.specs.Start.{Start, made}
use Rattle.world_core.specs.Steps.{Addressed, HostStep}
use Rattle.world_views.specs.Machine.{signals_of, step_after}
use Rattle.view_laws.specs.Order.{is_sound, sound_machine}
use Rattle.view_laws.proofs.follow.Senders.{each_from}
use Rattle.moment_laws.specs.Moments.{logs_of}
use Rattle.moment_laws.specs.Places.{ldm_of}
use Rattle.moment_laws.proofs.MomentViews.{moment_less}
use Rattle.request_laws.specs.Replicas.{event_under}
use Rattle.request_laws.specs.Routed.{IsRoutedSignal}
use Rattle.request_laws.specs.Routes.{IsRouted}
use Rattle.request_laws.proofs.routes.All.{signals_are_routed}
use Rattle.commit_laws.specs.Fates.{aborts, fate}
use Rattle.commit_laws.specs.Parts.{IsHale, Part, Tells, Told, answers, part_if, part_of, performs, refuses}
use Rattle.commit_laws.specs.Speaks.{SaysAbort}
use Rattle.commit_laws.specs.Together.{Follows}
use Rattle.commit_laws.proofs.fates.Going.{hale_fate}
use Rattle.commit_laws.proofs.records.Tokens.{row_tokens}
use Rattle.commit_laws.proofs.hosts.RowsTurn.{IsBetween, IsTakenAt}
use Rattle.commit_laws.proofs.links.TakenChains.{chain_told}
use Rattle.commit_laws.proofs.links.TransitCounts.{event_sent}

-- the part that a token is
abbrev pub part_by : Token → Part
part_by (token.performs w at) = performs w at
part_by (token.answers answer) = answers answer
part_by token.refuses = refuses

-- what is so of each token, if there is one, is so of the part
module _ (tx : TxId) (key : List ℕ) (Q : Option Part → Type 0) (none : Q None) (P : Token → Type 0)
    (so : (t : Token) → P t → Q (Some (part_by t)))
  where
    either : (placed same : Bool) (t : Token) → placed ≡ true
        → lists.Told tx key P (if placed && same then Some t else None) → Q (part_if (part_by t) same)
    either true true t is told = so t told
    either true false t is told = none
    either false same t is told = absurd (true≢false (sym is))

    pub part_so : (layout : Layout) (A D G : TxId → Type 0) (to : Place) (body : Body) → IsRouted layout A D G to body
        → lists.Told tx key P (token_of tx key to body) → Q (part_of tx key body)
    part_so layout A D G to (Chain (LqhKeyReq other w chain at)) routed told =
        either (is_rows to.block) (same_tx other tx && same_key (work_key w) key) (token.performs w at)
        (ap (λ (p : Place). is_rows p.block) routed.0.place) told
    part_so layout A D G to (Chain (LqhKeyConf other own answer)) routed told =
        either (is_home other to) (same_tx other tx && same_key own key) (token.answers answer)
        (ap (is_home other) routed.0 ∙ home_is other) told
    part_so layout A D G to (Chain (LqhKeyRef other own cause)) routed told =
        either (is_home other to) (same_tx other tx && same_key own key) token.refuses
        (ap (is_home other) routed.0 ∙ home_is other) told
    part_so layout A D G to _ routed told = none

-- what is so of all that blocks send, by where and what, is so of the signals
pub places_sent : (start : Start) (h : ℕ) (log : List HostStep) (e : HostStep) (Q : Place → Body → Type 0)
    → Each (λ (o : Outgoing). Q o.to o.body) (step_after start h log e).effects.sends
    → Each (λ (x : Addressed). Q x.signal.to x.signal.body) (sent_by (sound_machine start) h log e)
places_sent start h log e Q all =
    sent_by_each (sound_machine start) (λ (x : Addressed). Q x.signal.to x.signal.body) h log e
    (λ goes. each_filter (λ (x : Addressed). Q x.signal.to x.signal.body) (is_sound start) (signals_of start h log e)
    (each_map _ _ (signals_of start h log e)
    (λ x one.
    subst (λ to. Q to x.signal.body) (sym one.place)
    (subst (Q one.sent.to) (sym one.body) (each_in (λ (o : Outgoing). Q o.to o.body) one.sent _ all one.there)))
    (each_from start h log e)))

pub both_each : {A : Type 0} (P Q R : A → Type 0) (xs : List A) → ((x : A) → P x → Q x → R x) → Each P xs → Each Q xs
    → Each R xs
both_each P Q R [] f ps qs = tt
both_each P Q R (x ∷ xs) f ps qs = (f x ps.0 qs.0, both_each P Q R xs f ps.1 qs.1)

module _ (start : Start) (all : ℕ → List HostStep) (e : HostStep) (es : List HostStep)
    (follows : Follows start all e es)
    (tx : TxId) (t u : Transaction) (hale : IsHale start (logs_of start es) tx t) (me : Member)
    (there : IsIn me (made start))
    (s : ReplicaState) (between : IsBetween start all e es follows.moment me there s)
    (taken : IsTakenAt start all e es follows.moment me there s)
  where
    abbrev old : ℕ → List HostStep
    old = logs_of start es

    abbrev new : ℕ → List HostStep
    new = logs_of start (e ∷ es)

    abbrev x : Signal
    x = e.step.taken

    -- nobody aborts it
    not_aborted : is_abort tx x.body ≡ false
    not_aborted = by x.body refl
      where
        by : (body : Body) → x.body ≡ body → is_abort tx body ≡ false
        by (Chain (Abort v own)) is = own_is (same_tx v tx) refl
          where
            own_is : (b : Bool) → same_tx v tx ≡ b → b ≡ false
            own_is false off = refl
            own_is true same =
                absurd (hale_fate start all es (moment_less start all e es follows.moment) tx t hale
                (subst (λ w. fate start old w ≡ aborts) (same_tx-is v tx same)
                (subst (SaysAbort (fate start old)) is
                (chain_told start all e es follows.moment taken.now (Abort v own) is
                (λ (y : Addressed). SaysAbort (fate start old) y.signal.body) follows.stood.spoken.aborts_said))))
        by body is = refl

    -- what it sends, by the tokens of the event
    pub sent_parts : (key : List ℕ) (P : Token → Type 0)
        → Each P (event_tokens tx (event_under key s e.step.taken) (at_key key s.lqh))
        → ((one : Token) → P one → Tells start (logs_of start (e ∷ es)) key tx u (part_by one))
        → Each (λ (y : Addressed). Told start (logs_of start (e ∷ es)) key tx u (part_of tx key y.signal.body))
        (sent_by (sound_machine start) e.host (logs_of start es e.host) e)
    sent_parts key P tokens so =
        both_each _ _ _ (sent_by (sound_machine start) e.host (old e.host) e)
        (λ y told routed. part_so tx key (Told start new key tx u) tt P so _ _ _ _ y.signal.to y.signal.body routed
        told)
        (places_sent start e.host (old e.host) e (λ to body. lists.Told tx key P (token_of tx key to body))
        (subst (λ k. Each (λ (o : Outgoing). lists.Told tx key P (token_of tx key o.to o.body))
        (step_after start k (old k) e).effects.sends) (sym taken.at) (by taken.sent)))
        (event_sent start (IsRoutedSignal start new) e es
        (signals_are_routed start all (e ∷ es) follows.moment).signals)
      where
        by : ((step_after start (ldm_of start me) (old (ldm_of start me)) e).effects.sends ≡
            (replica_row s x).effects.sends)
            ⊎ ((step_after start (ldm_of start me) (old (ldm_of start me)) e).effects.sends ≡ [])
            → Each (λ (o : Outgoing). lists.Told tx key P (token_of tx key o.to o.body))
            (step_after start (ldm_of start me) (old (ldm_of start me)) e).effects.sends
        by (inl is) =
            subst (Each (λ (o : Outgoing). lists.Told tx key P (token_of tx key o.to o.body))) (sym is)
            (told_sends tx key P (replica_row s x).effects.sends
            (event_tokens tx (event_under key s x) (at_key key s.lqh)) (row_tokens tx key s x not_aborted) tokens)
        by (inr none) = subst (Each (λ (o : Outgoing). lists.Told tx key P (token_of tx key o.to o.body))) (sym none) tt
