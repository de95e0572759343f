-- What is true of a transaction that goes on, of one key, and how steps keep it.
use Rattle.std.proofs.Common.{◌≡◌, ◌⊎◌, ◌≢◌, ◌++◌, ℕ, false, List, [], ◌∷◌, sym, ◌∙◌, subst, inl, inr}
use Rattle.std.proofs.lemmas.Bool.{cases_eq}
use Rattle.std.specs.Prelude.{Option, None, Some}
use Rattle.run_theory.specs.Lists.{Each}
use Rattle.run_theory.proofs.Pasts.{each_append, each_map}
use Rattle.world_core.specs.Steps.{Addressed, HostStep}
use Rattle.sig_core.specs.declared.member.TxId.{TxId}
use Rattle.sig_core.specs.declared.outs.Outgoing.{Outgoing}
use Rattle.lqh_block.specs.declared.request.Request.{Request}
use Rattle.node_core.specs.Requests.{is_request}
use Rattle.tc_block.specs.declared.phase.Phase.TheVariants.{Verifying}
use Rattle.tc_block.specs.declared.transaction.Transaction.{Transaction}
use Rattle.world_core.specs.Hosts.{Membership}
use Rattle.world_core.specs.Machine.{all_addressed}
use Rattle.world_core.specs.Start.{Start}
use Rattle.run_laws.specs.Tokens.{is_token}
use Rattle.run_laws.specs.Transit.{Takes, joined}
use Rattle.run_laws.proofs.circle.View.{IsAs, Settles, Tells, View, settles_as, tells_as}
use Rattle.run_laws.proofs.circle.KeyMoves.{IsLike}
use Rattle.run_laws.proofs.tokens.Signals.{Token, performs, token_of, tokens_of}
use Rattle.run_laws.proofs.transit.Lists.{Told, sent_each, joined_new, joined_old, none_sent, takes_more, told_sends}
use Rattle.run_laws.proofs.transit.Lists.{uncounted}
use Rattle.run_laws.proofs.transit.Weighing.{headed_each, joined_each, each_taken, each_between}

module _ (start : Start) (tx : TxId) (key : List ℕ) where
  -- what a signal tells
  abbrev pub SignalTells : View → Transaction → Addressed → Type 0
  SignalTells v t x = Told tx key (Tells start key v t) (token_of tx key x.signal.to x.signal.body)

  -- no part of an operation on the key is among these
  abbrev pub NoneIn : List Addressed → Type 0
  NoneIn xs = Each (λ (x : Addressed). token_of tx key x.signal.to x.signal.body ≡ None) xs

  -- Each part of its operation on the key, in transit or waiting, tells the truth; and where there is none the key is
  -- settled.
  pub record IsGoing (v : View) (t : Transaction) (xs : List Addressed) : Type 0 where
    pub asked : t.phase ≡ Verifying → t.asked ≡ None
    pub signals : Each (SignalTells v t) xs
    pub waiting : (h : ℕ) → Each (λ (q : Request). Tells start key v t (performs q.work q.at)) (v.waits h)
    pub settled : NoneIn xs → ((h : ℕ) → v.waits h ≡ []) → Settles start key v t.ops

  told_as : (v w : View) (t : Transaction) (o : Option Token) → IsAs v w → Told tx key (Tells start key v t) o
      → Told tx key (Tells start key w t) o
  told_as v w t None like told = tt
  told_as v w t (Some token) like told = tells_as start key v w t token like told

  told_none : (w : View) (t : Transaction) (o : Option Token) → o ≡ None → Told tx key (Tells start key w t) o
  told_none w t None is = tt
  told_none w t (Some token) is = absurd cc

  -- A step that takes a signal and sends these.
  module _ (v w : View) (t : Transaction) (e : HostStep) (before between : List Addressed)
      (takes : Takes e before between) (who : Membership) (h stamp : ℕ) (count : ℕ → ℕ) (sends : List Outgoing)
      (going : IsGoing v t before) where
    abbrev new : List Addressed
    new = all_addressed who h stamp count sends

    old_signals : IsAs v w → Each (SignalTells w t) between
    old_signals like =
        each_map (SignalTells v t) (SignalTells w t) between
        (λ x told. told_as v w t (token_of tx key x.signal.to x.signal.body) like told)
        (each_between (SignalTells v t) e before between takes going.signals)

    quiet_signals : IsAs v w → tokens_of tx key sends ≡ [] → Each (SignalTells w t) (joined new between)
    quiet_signals like sent =
        joined_each (SignalTells w t) new between
        (headed_each (λ to body. Told tx key (Tells start key w t) (token_of tx key to body)) who h stamp count sends
        (told_sends tx key (Tells start key w t) sends [] sent tt))
        (old_signals like)

    old_waiting : IsAs v w → (g : ℕ) → w.waits g ≡ v.waits g
        → Each (λ (q : Request). Tells start key w t (performs q.work q.at)) (w.waits g)
    old_waiting like g same =
        subst (Each (λ (q : Request). Tells start key w t (performs q.work q.at))) (sym same)
        (each_map (λ (q : Request). Tells start key v t (performs q.work q.at))
        (λ (q : Request). Tells start key w t (performs q.work q.at)) (v.waits g)
        (λ q told. tells_as start key v w t (performs q.work q.at) like told) (going.waiting g))

    -- it takes no part of an operation on the key, or the key is settled, and sends none
    pub rests_going : IsLike v w
        → (token_of tx key e.step.taken.to e.step.taken.body ≡ None) ⊎ Settles start key v t.ops
        → tokens_of tx key sends ≡ [] → IsGoing w t (joined new between)
    rests_going like taken sent = record {
      asked = going.asked;
      signals = quiet_signals like.likewise sent;
      waiting = λ g. old_waiting like.likewise g (like.waits g);
      settled = λ none waits. settles_as start key v w t.ops like.likewise (was none waits taken);
    }
      where
        was : NoneIn (joined new between) → ((g : ℕ) → w.waits g ≡ [])
            → (token_of tx key e.step.taken.to e.step.taken.body ≡ None) ⊎ Settles start key v t.ops
            → Settles start key v t.ops
        was none waits (inl is) =
            going.settled (takes_more (λ (x : Addressed). token_of tx key x.signal.to x.signal.body ≡ None) e before
            between takes (joined_old (λ (x : Addressed). token_of tx key x.signal.to x.signal.body ≡ None) new
            between none) is)
            (λ g. sym (like.waits g) ∙ waits g)
        was none waits (inr settled) = settled

    -- it takes a request, which waits then
    pub queued_going : IsAs v w → (n : ℕ) (q : Request) → is_request e.step.taken.body ≡ false
        → token_of tx key e.step.taken.to e.step.taken.body ≡ Some (performs q.work q.at)
        → w.waits n ≡ v.waits n ++ q ∷ []
        → ((g : ℕ) → n ≢ g → w.waits g ≡ v.waits g) → tokens_of tx key sends ≡ [] → IsGoing w t (joined new between)
    queued_going like n q given taken here elsewhere sent = record {
      asked = going.asked;
      signals = quiet_signals like sent;
      waiting = λ g. waiting g (cases_eq n g);
      settled = λ none waits. absurd (empty (v.waits n) (sym here ∙ waits n));
    }
      where
        own : Tells start key v t (performs q.work q.at)
        own = subst (Told tx key (Tells start key v t)) taken
            (each_taken (SignalTells v t) e before between given takes going.signals)

        waiting : (g : ℕ) → (n ≡ g) ⊎ (n ≢ g)
            → Each (λ (q : Request). Tells start key w t (performs q.work q.at)) (w.waits g)
        waiting g (inl is) =
            subst (λ g. Each (λ (q : Request). Tells start key w t (performs q.work q.at)) (w.waits g)) is
            (subst (Each (λ (q : Request). Tells start key w t (performs q.work q.at))) (sym here)
            (each_append (λ (q : Request). Tells start key w t (performs q.work q.at)) (v.waits n) (q ∷ [])
            (each_map (λ (q : Request). Tells start key v t (performs q.work q.at))
            (λ (q : Request). Tells start key w t (performs q.work q.at)) (v.waits n)
            (λ q told. tells_as start key v w t (performs q.work q.at) like told) (going.waiting n))
            (tells_as start key v w t (performs q.work q.at) like own, tt)))
        waiting g (inr off) = old_waiting like g (elsewhere g off)

        empty : (xs : List Request) → xs ++ q ∷ [] ≡ [] → ⊥
        empty [] is = cc
        empty (x ∷ xs) is = cc

  -- a step that sends the only part there is
  pub sent_going : (w : View) (u : Transaction) (between : List Addressed) (who : Membership) (h stamp : ℕ)
      (count : ℕ → ℕ) (sends : List Outgoing) (token : Token)
      → (u.phase ≡ Verifying → u.asked ≡ None) → tokens_of tx key sends ≡ token ∷ []
      → Each (λ (x : Addressed). is_token tx x.signal.body ≡ false) between → ((g : ℕ) → w.waits g ≡ [])
      → Tells start key w u token → IsGoing w u (joined (all_addressed who h stamp count sends) between)
  sent_going w u between who h stamp count sends token asked sent none waits tells = record {
    asked = asked;
    signals = joined_each (SignalTells w u) (all_addressed who h stamp count sends) between
        (headed_each (λ to body. Told tx key (Tells start key w u) (token_of tx key to body)) who h stamp count sends
        (told_sends tx key (Tells start key w u) sends (token ∷ []) sent (tells, tt)))
        (each_map (λ (x : Addressed). is_token tx x.signal.body ≡ false) (SignalTells w u) between
        (λ x off. told_none w u (token_of tx key x.signal.to x.signal.body)
        (uncounted tx key x.signal.to x.signal.body off)) none);
    waiting = λ g. subst (Each (λ (q : Request). Tells start key w u (performs q.work q.at))) (sym (waits g)) tt;
    settled = λ nobody idle. absurd (one (sym sent
        ∙ none_sent tx key sends
        (sent_each (λ to body. token_of tx key to body ≡ None) who h stamp count sends
        (joined_new (λ (x : Addressed). token_of tx key x.signal.to x.signal.body ≡ None)
        (all_addressed who h stamp count sends) between nobody))));
  }
    where
      one : token ∷ [] ≡ [] → ⊥
      one is = cc

  -- no part is left
  pub cleared_going : (w : View) (u : Transaction) (xs : List Addressed) → (u.phase ≡ Verifying → u.asked ≡ None)
      → NoneIn xs → ((g : ℕ) → w.waits g ≡ [])
      → Settles start key w u.ops → IsGoing w u xs
  cleared_going w u xs asked none waits settles = record {
    asked = asked;
    signals = each_map (λ (x : Addressed). token_of tx key x.signal.to x.signal.body ≡ None) (SignalTells w u) xs
        (λ x off. told_none w u (token_of tx key x.signal.to x.signal.body) off) none;
    waiting = λ g. subst (Each (λ (q : Request). Tells start key w u (performs q.work q.at))) (sym (waits g)) tt;
    settled = λ nobody idle. settles;
  }
