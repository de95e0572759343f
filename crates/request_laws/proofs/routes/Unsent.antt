-- What is so of the transactions of which requests and commits are sent, and of none of which they aren't.
use Rattle.std.proofs.Common.{◌≡◌, ◌⊎◌, ◌||◌, ◌++◌, ◌∙◌, Bool, true, false, List, [], ◌∷◌, inl, inr, refl, sym, ap}
use Rattle.std.proofs.Common.{subst}
use Rattle.std.proofs.lemmas.Bool.{or_cases, true≢false}
use Rattle.std.proofs.lemmas.List.Folds.{list_any-append}
use Rattle.run_theory.specs.Lists.{Each}
use Rattle.run_theory.proofs.Pasts.{each_map}
use Rattle.sig_core.proofs.TxLemmas.{same_tx-is}
use Rattle.sig_core.specs.declared.member.Member.{Member}
use Rattle.sig_core.specs.declared.member.TxId.{TxId}
use Rattle.sig_core.specs.declared.outs.Outgoing.{Outgoing}
use Rattle.sig_core.specs.declared.place.Place.{Place}
use Rattle.sig_core.specs.declared.signal.Body.{Body}
use Rattle.sig_core.specs.declared.signal.Body.TheVariants.{Chain}
use Rattle.sig_core.specs.declared.signal.chain.ChainSignal.TheVariants.{Commit, LqhKeyReq}
use Rattle.frag_map.specs.Layout.{Layout}
use Rattle.request_laws.specs.Drives.{is_commit, is_request}
use Rattle.request_laws.specs.Routes.{IsRouted, IsSentRouted}
use Rattle.request_laws.specs.Ways.{is_sent}
use Rattle.request_laws.proofs.routes.OwnSends.{IsOfMember, IsUnsent}
use Rattle.request_laws.proofs.routes.Sends.{IsMade, Nobody}

-- of whom a request is sent is asked for, and of whom a commit is, is driven
module _ (A D : TxId → Type 0) (tx : TxId) where
  abbrev AreMade : List Outgoing → Type 0
  AreMade sends = Each (λ (sent : Outgoing). IsMade A D sent.body) sends

  one_asked : (body : Body) → IsMade A D body → is_request tx body ≡ true → A tx
  one_asked (Chain (LqhKeyReq other work chain at)) made is = subst A (same_tx-is other tx is) made
  one_asked body made is = absurd (true≢false (sym is))

  one_driven : (body : Body) → IsMade A D body → is_commit tx body ≡ true → D tx
  one_driven (Chain (Commit other key epoch chain at)) made is = subst D (same_tx-is other tx is) made
  one_driven body made is = absurd (true≢false (sym is))

  pub asked_of : (sends : List Outgoing) → AreMade sends → is_sent (is_request tx) sends ≡ true → A tx
  asked_of [] made is = absurd (true≢false (sym is))
  asked_of (sent ∷ sends) made is =
      by (or_cases (is_request tx sent.body) (is_sent (is_request tx) sends) is) (asked_of sends made.1)
    where
      by : (is_request tx sent.body ≡ true) ⊎ (is_sent (is_request tx) sends ≡ true)
          → (is_sent (is_request tx) sends ≡ true → A tx) → A tx
      by (inl first) rest = one_asked sent.body made.0 first
      by (inr more) rest = rest more

  pub driven_of : (sends : List Outgoing) → AreMade sends → is_sent (is_commit tx) sends ≡ true → D tx
  driven_of [] made is = absurd (true≢false (sym is))
  driven_of (sent ∷ sends) made is =
      by (or_cases (is_commit tx sent.body) (is_sent (is_commit tx) sends) is) (driven_of sends made.1)
    where
      by : (is_commit tx sent.body ≡ true) ⊎ (is_sent (is_commit tx) sends ≡ true)
          → (is_sent (is_commit tx) sends ≡ true → D tx) → D tx
      by (inl first) rest = one_driven sent.body made.0 first
      by (inr more) rest = rest more

-- what is routed is made so
routed_made : (layout : Layout) (A D G : TxId → Type 0) (to : Place) (body : Body) → IsRouted layout A D G to body
    → IsMade A D body
routed_made layout A D G to (Chain (LqhKeyReq tx work chain at)) is = is.1
routed_made layout A D G to (Chain (Commit tx key epoch chain at)) is = is.1
routed_made layout A D G to body is = tt

pub all_made : (layout : Layout) (A D G : TxId → Type 0) (sends : List Outgoing)
    → Each (IsSentRouted layout A D G) sends → Each (λ (sent : Outgoing). IsMade A D sent.body) sends
all_made layout A D G sends all =
    each_map (IsSentRouted layout A D G) (λ (sent : Outgoing). IsMade A D sent.body) sends
    (λ sent is. routed_made layout A D G sent.to sent.body is) all

-- so nothing is sent of a transaction of which neither is so
unless : (b : Bool) → (b ≡ true → ⊥) → b ≡ false
unless true none = absurd (none refl)
unless false none = refl

pub unsent_of : (layout : Layout) (A D G : TxId → Type 0) (tx : TxId) (sends : List Outgoing) → (A tx → ⊥) → (D tx → ⊥)
    → Each (IsSentRouted layout A D G) sends → IsUnsent tx sends
unsent_of layout A D G tx sends unasked undriven all = record {
  unasked =
      unless (is_sent (is_request tx) sends)
      (λ is. unasked (asked_of A D tx sends (all_made layout A D G sends all) is));
  undriven =
      unless (is_sent (is_commit tx) sends)
      (λ is. undriven (driven_of A D tx sends (all_made layout A D G sends all) is));
}

-- behind signals of which none is such, only the rest counts
pub sent_behind : (p : Body → Bool) (front rest : List Outgoing) → is_sent p front ≡ false
    → is_sent p (front ++ rest) ≡ is_sent p rest
sent_behind p front rest none =
    list_any-append (λ (sent : Outgoing). p sent.body) front rest ∙ ap (λ b. b || is_sent p rest) none

-- what is of nobody is of any member
pub nobody_of : (layout : Layout) (G : TxId → Type 0) (member : Member) (sends : List Outgoing)
    → Each (IsSentRouted layout Nobody Nobody G) sends → Each (λ (sent : Outgoing). IsOfMember member sent.body) sends
nobody_of layout G member sends all =
    each_map (IsSentRouted layout Nobody Nobody G) (λ (sent : Outgoing). IsOfMember member sent.body) sends
    (λ sent is. one sent.to sent.body is) all
  where
    one : (to : Place) (body : Body) → IsRouted layout Nobody Nobody G to body → IsOfMember member body
    one to (Chain (LqhKeyReq tx work chain at)) is = absurd is.1
    one to (Chain (Commit tx key epoch chain at)) is = absurd is.1
    one to body is = tt
