-- Signals that are sent, join those in transit and are taken.
use Rattle.std.proofs.Common.{◌≡◌, ◌≤◌, ◌+◌, ◌&&◌, ℕ, Bool, true, false, List, [], ◌∷◌, refl, sym, ap, ◌∙◌, subst}
use Rattle.std.proofs.Common.{arith}
use Rattle.std.specs.Prelude.{if◌then◌else◌, Option, None, Some}
use Rattle.run_theory.specs.Lists.{Each}
use Rattle.run_theory.proofs.Pasts.{each_after, each_append, each_before, each_map}
use Rattle.world_core.specs.Steps.{Addressed, HostStep}
use Rattle.sig_core.specs.declared.member.TxId.{TxId}
use Rattle.sig_core.specs.declared.outs.Outgoing.{Outgoing}
use Rattle.sig_core.specs.declared.place.Place.{Place}
use Rattle.sig_core.specs.declared.signal.Body.{Body}
use Rattle.sig_core.specs.declared.signal.Body.TheVariants.{Chain}
use Rattle.sig_core.specs.declared.signal.chain.ChainSignal.TheVariants.{LqhKeyReq, LqhKeyConf, LqhKeyRef}
use Rattle.sig_core.specs.Place.{coordinator}
use Rattle.sig_core.specs.Same.{same_key, same_tx}
use Rattle.sig_core.specs.Work.{work_key}
use Rattle.node_core.specs.Requests.{is_request}
use Rattle.world_core.specs.Hosts.{Membership, receiver}
use Rattle.world_core.specs.Machine.{all_addressed, counted}
use Rattle.run_theory.specs.Counts.{one_if, tally}
use Rattle.run_laws.specs.Tokens.{is_token}
use Rattle.run_laws.specs.Transit.{Takes, joined, taken_by}
use Rattle.run_laws.proofs.tokens.Signals.{Token, answers, is_home, is_rows, performs, put, refuses, token_of}
use Rattle.run_laws.proofs.tokens.Signals.{tokens_of}
use Rattle.run_laws.proofs.hosts.TxTurns.{is_for}

-- what holds of all holds of those before, and of those that join
pub joined_old : (P : Addressed → Type 0) (xs ys : List Addressed) → Each P (joined xs ys) → Each P ys
joined_old P [] ys all = all
joined_old P (x ∷ xs) ys all = (joined_old P xs (x ∷ ys) all).1

pub joined_new : (P : Addressed → Type 0) (xs ys : List Addressed) → Each P (joined xs ys) → Each P xs
joined_new P [] ys all = tt
joined_new P (x ∷ xs) ys all = ((joined_old P xs (x ∷ ys) all).0, joined_new P xs (x ∷ ys) all)

pub tally_joined : (p : Addressed → Bool) (xs ys : List Addressed) → tally p (joined xs ys) ≡ tally p xs + tally p ys
tally_joined p [] ys = omega arith
tally_joined p (x ∷ xs) ys = omega (arith, tally_joined p xs (x ∷ ys))

-- what holds of the signal that is taken and of those that are left holds of all
pub takes_more : (P : Addressed → Type 0) (e : HostStep) (before between : List Addressed) → Takes e before between
    → Each P between → P (taken_by e) → Each P before
takes_more P e before between takes all it = by (is_request e.step.taken.body) refl
  where
    by : (b : Bool) → is_request e.step.taken.body ≡ b → Each P before
    by true asked = subst (Each P) (takes.request asked) all
    by false given =
        let taken = takes.signal given in
        let split = subst (Each P) taken.left all in
        subst (Each P) (sym taken.is) (each_append P taken.front (taken_by e ∷ taken.back)
        (each_before P taken.front taken.back split) (it, each_after P taken.front taken.back split))

-- what is sent is what is in transit then
pub sent_each : (Q : Place → Body → Type 0) (who : Membership) (h stamp : ℕ) (count : ℕ → ℕ) (sends : List Outgoing)
    → Each (λ (x : Addressed). Q x.signal.to x.signal.body) (all_addressed who h stamp count sends)
    → Each (λ (o : Outgoing). Q o.to o.body) sends
sent_each Q who h stamp count [] all = tt
sent_each Q who h stamp count (o ∷ more) all =
    (all.0, sent_each Q who h stamp (counted (receiver who o.to) count) more all.1)

pub tally_headed : (p : Body → Bool) (who : Membership) (h stamp : ℕ) (count : ℕ → ℕ) (sends : List Outgoing)
    → tally (λ (x : Addressed). p x.signal.body) (all_addressed who h stamp count sends) ≡ tally
    (λ (o : Outgoing). p o.body) sends
tally_headed p who h stamp count [] = refl
tally_headed p who h stamp count (o ∷ more) =
    omega (arith, tally_headed p who h stamp (counted (receiver who o.to) count) more)

module _ (tx : TxId) (key : List ℕ) where
  -- what is so of a token, if there is one
  abbrev pub Told : (Token → Type 0) → Option Token → Type 0
  Told P None = Unit {0}
  Told P (Some t) = P t

  pub told_sends : (P : Token → Type 0) (sends : List Outgoing) (tokens : List Token) → tokens_of tx key sends ≡ tokens
      → Each P tokens → Each (λ (o : Outgoing). Told P (token_of tx key o.to o.body)) sends
  told_sends P sends tokens is all = go sends (subst (Each P) (sym is) all)
    where
      one : (o : Option Token) (rest : List Token) → Each P (put o rest) → Told P o × Each P rest
      one None rest all = (tt, all)
      one (Some t) rest all = all

      go : (xs : List Outgoing) → Each P (tokens_of tx key xs)
          → Each (λ (o : Outgoing). Told P (token_of tx key o.to o.body)) xs
      go [] all = tt
      go (o ∷ more) all = let parts = one (token_of tx key o.to o.body) (tokens_of tx key more) all in
          (parts.0, go more parts.1)

  pub none_sent : (sends : List Outgoing) → Each (λ (o : Outgoing). token_of tx key o.to o.body ≡ None) sends
      → tokens_of tx key sends ≡ []
  none_sent [] all = refl
  none_sent (o ∷ more) all = ap (λ w. put w (tokens_of tx key more)) all.0 ∙ none_sent more all.1

  pub sent_none : (sends : List Outgoing) → tokens_of tx key sends ≡ []
      → Each (λ (o : Outgoing). token_of tx key o.to o.body ≡ None) sends
  sent_none [] none = tt
  sent_none (o ∷ more) none = by (token_of tx key o.to o.body) refl none (sent_none more)
    where
      by : (w : Option Token) → token_of tx key o.to o.body ≡ w → put w (tokens_of tx key more) ≡ []
          → (tokens_of tx key more ≡ [] → Each (λ (o : Outgoing). token_of tx key o.to o.body ≡ None) more)
          → Each (λ (o : Outgoing). token_of tx key o.to o.body ≡ None) (o ∷ more)
      by None e none later = (e, later none)
      by (Some t) e none later = absurd cc

  -- a token counts as one of the transaction
  both_are : (a b c : Bool) (t u : Token) → (if a && (b && c) then Some t else None) ≡ Some u → b ≡ true
  both_are true true c t u is = refl
  both_are true false c t u is = absurd cc
  both_are false b c t u is = absurd cc

  pub counts : (to : Place) (body : Body) (t : Token) → token_of tx key to body ≡ Some t → is_token tx body ≡ true
  counts to (Chain (LqhKeyReq v work chain at)) t is = both_are (is_rows to.block) (same_tx v tx)
      (same_key (work_key work) key) (performs work at) t is
  counts to (Chain (LqhKeyConf v own answer)) t is = both_are (is_home v to) (same_tx v tx)
      (same_key own key) (answers answer) t is
  counts to (Chain (LqhKeyRef v own why)) t is = both_are (is_home v to) (same_tx v tx) (same_key own key) refuses t is
  counts to _ t is = absurd cc

  pub uncounted : (to : Place) (body : Body) → is_token tx body ≡ false → token_of tx key to body ≡ None
  uncounted to body off = by (token_of tx key to body) refl
    where
      by : (o : Option Token) → token_of tx key to body ≡ o → o ≡ None
      by None is = refl
      by (Some t) is = absurd (let both : true ≡ false = sym (counts to body t is) ∙ off in cc)

  -- at a coordinator none comes but with a signal for the transaction
  pub token_for : (node : ℕ) (body : Body) → is_for tx body ≡ false → token_of tx key (coordinator node) body ≡ None
  token_for node (Chain (LqhKeyReq v work chain at)) off = refl
  token_for node (Chain (LqhKeyConf v own answer)) off = uncounted (coordinator node)
      (Chain (LqhKeyConf v own answer)) off
  token_for node (Chain (LqhKeyRef v own why)) off = uncounted (coordinator node) (Chain (LqhKeyRef v own why)) off
  token_for node _ off = refl

  -- where no part of an operation is sent there is none
  pub none_out : (sends : List Outgoing) → Each (λ (o : Outgoing). is_token tx o.body ≡ false) sends
      → tokens_of tx key sends ≡ []
  none_out sends still =
      none_sent sends
      (each_map (λ (o : Outgoing). is_token tx o.body ≡ false)
      (λ (o : Outgoing). token_of tx key o.to o.body ≡ None) sends
      (λ o. uncounted o.to o.body) still)

  pub sent_some : (sends : List Outgoing) (t : Token) (rest : List Token) → tokens_of tx key sends ≡ t ∷ rest
      → 1 ≤ tally (λ (o : Outgoing). is_token tx o.body) sends
  sent_some [] t rest is = absurd cc
  sent_some (o ∷ more) t rest is = by (token_of tx key o.to o.body) refl is (sent_some more t rest)
    where
      by : (w : Option Token) → token_of tx key o.to o.body ≡ w → put w (tokens_of tx key more) ≡ t ∷ rest
          → (tokens_of tx key more ≡ t ∷ rest → 1 ≤ tally (λ (o : Outgoing). is_token tx o.body) more)
          → 1 ≤ tally (λ (o : Outgoing). is_token tx o.body) (o ∷ more)
      by None e is later = omega (arith, later is)
      by (Some u) e is later = omega (arith, ap one_if (counts o.to o.body u e))
